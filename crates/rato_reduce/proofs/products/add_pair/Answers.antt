use Rattle.std.proofs.Common.{ℕ, List, ◌∙◌, sym, subst, [], ◌∷◌}
use Rattle.std.proofs.lemmas.Result.{on_ok_weaker}
use Rattle.rato_reduce.specs.private.Buckets.{AreUpTo}
use Rattle.rato_reduce.specs.private.Pairs.{both_bits}
use Rattle.rato_reduce.specs.private.Rows.{product_of}
use Rattle.rato_reduce.proofs.CutPartLemmas.{four_added}
use Rattle.rato_reduce.proofs.products.add_pair.Goals as goal

pub add_chosen-requires-2-clause-set : goal.add_chosen-requires-2-clause-set
add_chosen-requires-2-clause-set c =
    let pair = c.args.pair.now in
    let P : List ℕ → Type 0 = λ places. AreUpTo places pair.second_level (pair.second ∷ []) in
    subst P (sym c.add_chosen.ensures.places) c.requires.levels.second_up

pub add_chosen-requires-3-clause-set : goal.add_chosen-requires-3-clause-set
add_chosen-requires-3-clause-set c =
    let pair = c.args.pair.now in
    let P : List ℕ → Type 0 = λ places. AreUpTo places pair.first_level (pair.first ∷ []) in
    subst P (sym (c.add_chosen-2.ensures.places ∙ c.add_chosen.ensures.places)) c.requires.levels.first_up

pub add_both-requires-clause-both : goal.add_both-requires-clause-both
add_both-requires-clause-both c =
    let pair = c.args.pair.now in
    let P : List ℕ → Type 0 = λ places. AreUpTo places pair.level (both_bits pair) in
    subst P (sym (c.add_chosen-3.ensures.places ∙ c.add_chosen-2.ensures.places ∙ c.add_chosen.ensures.places)) c.requires.levels.both_up

pub returns-clause-sum : goal.returns-clause-sum
returns-clause-sum c =
    let pair = c.args.pair.now in
    let old = c.args.cut.now.terms in
    let one = c.add_chosen.new.cut.terms in
    let high = c.add_chosen-2.new.cut.terms in
    let low = c.add_chosen-3.new.cut.terms in
    on_ok_weaker c.add_both.result (λ e.
    four_added old one high low c.add_both.new.cut.terms pair.one pair.high pair.low pair.all [] (pair.second ∷ []) (pair.first ∷ []) (both_bits pair) (product_of c.args.term.now [])
    c.in_ok-add_chosen.ensures.sum c.in_ok-add_chosen-2.ensures.sum c.in_ok-add_chosen-3.ensures.sum e) c.add_both.ensures.sum
