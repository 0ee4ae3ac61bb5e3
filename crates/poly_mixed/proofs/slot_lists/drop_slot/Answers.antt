use Rattle.std.proofs.Common.{ℕ, List, Result, sym, ◌∙◌, subst}
use Rattle.poly_mixed.specs.private.Listed.{IsFound}
use Rattle.poly_mixed.proofs.SlotListLemmas.{without_slot-there, without_slot-gap}
use Rattle.poly_mixed.proofs.slot_lists.drop_slot.Goals as goal

pub returns-in-Ok : goal.returns-in-Ok
returns-in-Ok c =
    let P : Result ℕ ℕ → Type 0 = IsFound c.args.list.now.items c.args.slot in
    c.remove.ensures.items ∙ sym (without_slot-there c.args.list.now.items c.in-Ok.i c.args.slot c.requires (subst P c.in-Ok.is (subst (λ (xs : List ℕ). IsFound xs c.args.slot c.find.result) c.as_slice.ensures.value c.find.ensures)))

pub returns-in_default : goal.returns-in_default
returns-in_default c =
    let P : Result ℕ ℕ → Type 0 = IsFound c.args.list.now.items c.args.slot in
    sym (without_slot-gap c.args.list.now.items c.in_default.field-0 c.args.slot (subst P c.in_default.is (subst (λ (xs : List ℕ). IsFound xs c.args.slot c.find.result) c.as_slice.ensures.value c.find.ensures)))
