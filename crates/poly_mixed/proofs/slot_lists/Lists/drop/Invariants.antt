use Rattle.std.proofs.Common.{◌≡◌, ℕ, drop}
use Rattle.poly_mixed.specs.private.Listed.{list_at, all_changed, without_slot}
use Rattle.poly_mixed.proofs.slot_lists.Lists.drop.Given as goal

abbrev pub invariant-loop-bit : goal.invariant-loop-bit
invariant-loop-bit l = (b : ℕ) → all_changed (without_slot l.slot) (drop l.bit-index l.bits) (list_at l.self) b ≡ all_changed (without_slot l.slot) l.bits (list_at l.initial.self) b
