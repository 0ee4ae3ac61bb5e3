use Rattle.std.proofs.Common.{ℕ, List, length, sym, ◌∙◌, subst}
use Rattle.std.specs.List.Sorted.{IsStrictlySortedBy}
use Rattle.std.specs.Ordering.{nat_cmp}
use Rattle.poly_mixed.proofs.ProductLemmas.{rising-with_rank}
use Rattle.poly_mixed.specs.private.Listed.{IsGap}
use Rattle.poly_mixed.proofs.SlotListLemmas.{with_rank-past}
use Rattle.poly_mixed.proofs.slot_lists.put_slot.Goals as goal

pub returns-then-is_past-clause-with : goal.returns-then-is_past-clause-with
returns-then-is_past-clause-with c =
    let G : List ℕ → Type 0 = λ xs. IsGap xs (length xs) c.args.slot in
    c.in_ok-push.ensures.items ∙ sym (with_rank-past c.args.list.now.items c.args.slot (subst G c.as_slice.ensures.value (c.is_past.ensures c.if-is_past.true)))

pub returns-then-is_past-clause-rising : goal.returns-then-is_past-clause-rising
returns-then-is_past-clause-rising c =
    let G : List ℕ → Type 0 = λ xs. IsGap xs (length xs) c.args.slot in
    let S : List ℕ → Type 0 = IsStrictlySortedBy nat_cmp in
    subst S (with_rank-past c.args.list.now.items c.args.slot (subst G c.as_slice.ensures.value (c.is_past.ensures c.if-is_past.true)) ∙ sym c.in_ok-push.ensures.items) (rising-with_rank c.args.list.now.items c.args.slot c.requires)
