use Rattle.std.proofs.Common.{◌≡◌, ℕ, drop}
use Rattle.poly_mixed.specs.private.Listed.{list_at, all_changed}
use Rattle.poly_mixed.specs.Product.{with_rank}
use Rattle.poly_mixed.proofs.slot_lists.Lists.put.Given as goal

abbrev pub invariant-loop-bit : goal.invariant-loop-bit
invariant-loop-bit l = (b : ℕ) → all_changed (λ xs. with_rank xs l.slot) (drop l.bit-index l.bits) (list_at l.self) b ≡ all_changed (λ xs. with_rank xs l.slot) l.bits (list_at l.initial.self) b
