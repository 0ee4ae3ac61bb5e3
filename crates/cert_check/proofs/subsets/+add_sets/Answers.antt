use Rattle.std.proofs.Common.{◌∙◌, ℕ, ◌-◌, List, OnOk, length, take, drop, get_or, sym, subst, eqb-true, arith, rules}
use Rattle.std.specs.List.Sorted.{IsStrictlySortedBy}
use Rattle.std.specs.Ordering.{nat_cmp}
use Rattle.std.proofs.lemmas.List.{nil_from_length}
use Rattle.std.proofs.lemmas.Result.{on_ok_weaker}
use Rattle.lists.specs.laws.PowerLaws.{halved_subsets}
use Rattle.lists.specs.laws.TestLaws.{some_if_not_zero}
use Rattle.poly_mixed.specs.Polynomial.{value}
use Rattle.poly_mixed.specs.Table.{table_bit}
use Rattle.poly_mixed.proofs.ProductLemmas.{rising-with_rank}
use Rattle.poly_mixed.proofs.SimpleLemmas.{first_and_rest}
use Rattle.cert_check.specs.private.Units.{sets_value, AddsValue}
use Rattle.cert_check.proofs.PartLemmas.{small_step}
use Rattle.cert_check.proofs.SubsetLemmas.{both_halves}
use Rattle.cert_check.proofs.subsets.+add_sets.Goals as goal

pub add_set-requires-clause-place : goal.add_set-requires-clause-place
add_set-requires-clause-place g t c = let small = small_step (length c.args.ranks.now) c.args.step c.requires.within in omega (arith, small, c.requires.base)

pub overflow_mul-step : goal.overflow_mul-step
overflow_mul-step g t c = let small = small_step (length c.args.ranks.now) c.args.step c.requires.within in omega (arith, small)

pub overflow_mul-step-2 : goal.overflow_mul-step-2
overflow_mul-step-2 g t c = let small = small_step (length c.args.ranks.now) c.args.step c.requires.within in omega (arith, small)

pub overflow_add-base : goal.overflow_add-base
overflow_add-base g t c = let small = small_step (length c.args.ranks.now) c.args.step c.requires.within in omega (arith, small, c.requires.base)

pub add_sets-requires : goal.add_sets-requires
add_sets-requires g t c κs within =
    let more = some_if_not_zero (length c.args.ranks.now) c.if-is_empty.ensures in
    (search rules, (search rules, (search rules, (omega arith, (halved_subsets c.args.ranks.now c.args.step more c.requires.within, (c.requires.set, c.requires.sum))))))

pub add_sets-requires-2 : goal.add_sets-requires-2
add_sets-requires-2 g t c κs within =
    let more = some_if_not_zero (length c.args.ranks.now) c.if-is_empty.ensures in
    let P : List ℕ → Type 0 = IsStrictlySortedBy nat_cmp in
    let set = subst P (sym (c.as_slice.ensures ∙ c.in_ok-more.ensures)) (rising-with_rank c.args.set.now (get_or c.args.ranks.now 0 0) c.requires.set) in
    (search rules, (search rules, (search rules, (omega arith, (halved_subsets c.args.ranks.now c.args.step more c.requires.within, (set, c.in_ok-add_sets.ensures.terms))))))

pub returns-then-is_empty-clause-values : goal.returns-then-is_empty-clause-values
returns-then-is_empty-clause-values g t c =
    let k : ℕ = g.F.Ring.degree c.args.field.now in
    let mul : ℕ → ℕ → ℕ = g.F.Ring.product c.args.field.now in
    let none = nil_from_length c.args.ranks.now (eqb-true (length c.args.ranks.now) 0 (sym c.if-is_empty.ensures)) in
    let P : List ℕ → Type 0 = λ rs. OnOk c.add_set.result (AddsValue k mul (sets_value c.args.set.now c.args.form rs c.args.base c.args.step) c.args.sum.now.terms c.add_set.new.sum.terms) in
    subst P (sym none) c.add_set.ensures.values

pub returns-clause-values : goal.returns-clause-values
returns-clause-values g t c =
    let mul = g.F.Ring.product c.args.field.now in
    let ranks : List ℕ = c.args.ranks.now in
    let more = some_if_not_zero (length ranks) c.if-is_empty.ensures in
    on_ok_weaker c.add_sets-2.result
    (λ high p at. both_halves p.is_one (table_bit c.args.form) c.args.set.now c.as_slice.result.now (take (length ranks - 1) (drop 1 ranks)) ranks (get_or ranks 0 0) c.args.base c.args.step (value mul p c.args.sum.now.terms) (value mul p c.add_sets.new.sum.terms) (value mul p c.add_sets-2.new.sum.terms) (c.as_slice.ensures ∙ c.in_ok-more.ensures) (first_and_rest ranks more) (c.in_ok-add_sets.ensures.values p at) (high p at))
    c.add_sets-2.ensures.values
