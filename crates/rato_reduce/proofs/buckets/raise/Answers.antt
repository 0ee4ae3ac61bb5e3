use Rattle.std.proofs.Common.{◌≡◌, ◌++◌, ◌∷◌, List, [], append-nil, sym, ◌∙◌, ap, subst}
use Rattle.poly_mixed.specs.Polynomial.{Terms}
use Rattle.rato_reduce.specs.private.Buckets.{joined, AreLevelled}
use Rattle.rato_reduce.proofs.BucketLemmas.{joined_end, levelled_more}
use Rattle.rato_reduce.proofs.buckets.raise.Goals as goal

pub loop-alloc-preserved : goal.loop-alloc-preserved
loop-alloc-preserved c =
    let before : List Terms = c.loop-alloc.list.items in
    let items : c.push.new.self.items ≡ before ++ [] ∷ [] = c.in_ok-push.ensures.items ∙ ap (λ (ts : Terms). before ++ ts ∷ []) c.new.ensures in
    record {
      joined = ap joined items ∙ joined_end before [] ∙ append-nil (joined before) ∙ c.loop-alloc.invariant.joined;
      levelled = λ places are. (let P : List Terms → Type 0 = AreLevelled places 0 in subst P (sym items) (levelled_more places 0 before (c.loop-alloc.invariant.levelled places are)));
    }
