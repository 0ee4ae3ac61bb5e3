use Rattle.std.proofs.Common.{◌≡◌, ◌++◌, List, [], length, take, drop, sym, ◌∙◌, ap, subst}
use Rattle.poly_mixed.specs.Monomial.{text_cmp}
use Rattle.poly_mixed.specs.Polynomial.{Terms}
use Rattle.poly_mixed.specs.Sum.{plus}
use Rattle.rato_reduce.specs.private.Buckets.{joined, AreLevelled, IsCounted, IsMergedAt, ListedPolynomial}
use Rattle.rato_reduce.proofs.AddedLemmas.{refilled}
use Rattle.rato_reduce.proofs.BucketLemmas.{merged_count, merged_levelled, merged_long, merged_polynomial}
use Rattle.rato_reduce.proofs.buckets.Buckets.merge_list.Goals as goal

made : (c : goal.After-self-2-1) → IsMergedAt c.self.inside.list.items c.merge_at.new.list c.args.i c.self.inside.count c.in_ok-count.count
made c = let P : List Terms → Type 0 = λ ls. IsMergedAt ls c.merge_at.new.list c.args.i c.self.inside.count c.in_ok-count.count in subst P c.as_mut_slice.ensures.value c.in_ok-count.ensures.merged

is : (c : goal.After-self-2-1) → take c.self.inside.list.len (c.merge_at.new.list ++ drop (length c.merge_at.new.list) c.self.inside.list.items) ≡ c.merge_at.new.list
is c =
    let old : List Terms = c.self.inside.list.items in
    refilled old c.merge_at.new.list c.self.inside.list.len (merged_long c.self.inside.places.items old c.merge_at.new.list c.args.i c.self.inside.count c.in_ok-count.count c.self.invariant.0 (made c))
    (sym c.as_mut_slice.ensures.len ∙ ap length c.as_mut_slice.ensures.value)

pub invariant_of-self-2 : goal.invariant_of-self-2
invariant_of-self-2 c =
    let places = c.self.inside.places.items in
    let old : List Terms = c.self.inside.list.items in
    let P : List Terms → Type 0 = λ ls. AreLevelled places 0 ls × IsCounted c.in_ok-count.count (length (joined ls)) in
    subst P (sym (is c)) (
      merged_levelled places old c.merge_at.new.list c.args.i c.self.inside.count c.in_ok-count.count c.self.invariant.0 (made c),
      merged_count places old c.merge_at.new.list c.args.i c.self.inside.count c.in_ok-count.count c.self.invariant.0 (made c) c.self.invariant.1,
    )

pub returns : goal.returns
returns c =
    ap (λ (ls : List Terms). plus text_cmp [] (joined ls)) (is c)
    ∙ merged_polynomial c.self.inside.places.items c.self.inside.list.items c.merge_at.new.list c.args.i c.self.inside.count c.in_ok-count.count c.self.invariant.0 (made c)
    ∙ ap (λ (q : ListedPolynomial). q.terms) c.self.view_is
