use Rattle.std.proofs.Common.{inl, inr}
use Rattle.net_flat.proofs.namer.Namer.look_up.Goals as goal

pub of_fault-requires : goal.of_fault-requires
of_fault-requires c = elim c.in-Err.ensures.only [
  | inl nets ↦ inl nets
  | inr memory ↦ inr (inr memory)
]
