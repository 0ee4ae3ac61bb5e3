use Rattle.std.proofs.Common.{ℕ, List, Result, sym, ◌∙◌, subst}
use Rattle.std.specs.List.Sorted.{IsStrictlySortedBy}
use Rattle.std.specs.Ordering.{nat_cmp}
use Rattle.poly_mixed.proofs.ProductLemmas.{rising-with_rank}
use Rattle.poly_mixed.specs.private.Listed.{IsFound}
use Rattle.poly_mixed.proofs.SlotListLemmas.{with_rank-there, with_rank-insert}
use Rattle.poly_mixed.proofs.slot_lists.put_within.Goals as goal

pub returns-in-Ok-clause-with : goal.returns-in-Ok-clause-with
returns-in-Ok-clause-with c =
    let P : Result ℕ ℕ → Type 0 = IsFound c.args.list.now.items c.args.slot in
    sym (with_rank-there c.args.list.now.items c.in-Ok.field-0 c.args.slot c.requires (subst P c.in-Ok.is (subst (λ (xs : List ℕ). IsFound xs c.args.slot c.find.result) c.as_slice.ensures.value c.find.ensures)))

pub returns-in_ok-insert-in-Err-clause-with : goal.returns-in_ok-insert-in-Err-clause-with
returns-in_ok-insert-in-Err-clause-with c =
    let P : Result ℕ ℕ → Type 0 = IsFound c.args.list.now.items c.args.slot in
    c.in_ok-insert-in-Err.ensures.items ∙ sym (with_rank-insert c.args.list.now.items c.in-Err.i c.args.slot (subst P c.in-Err.is (subst (λ (xs : List ℕ). IsFound xs c.args.slot c.find.result) c.as_slice.ensures.value c.find.ensures)))

pub returns-in_ok-insert-in-Err-clause-rising : goal.returns-in_ok-insert-in-Err-clause-rising
returns-in_ok-insert-in-Err-clause-rising c =
    let P : Result ℕ ℕ → Type 0 = IsFound c.args.list.now.items c.args.slot in
    let S : List ℕ → Type 0 = IsStrictlySortedBy nat_cmp in
    subst S (with_rank-insert c.args.list.now.items c.in-Err.i c.args.slot (subst P c.in-Err.is (subst (λ (xs : List ℕ). IsFound xs c.args.slot c.find.result) c.as_slice.ensures.value c.find.ensures)) ∙ sym c.in_ok-insert-in-Err.ensures.items) (rising-with_rank c.args.list.now.items c.args.slot c.requires)
