use Rattle.std.proofs.Common.{◌+◌}
use Rattle.stage_model.specs.private.Plain.{AreSettledFrom}
use Rattle.plain_runs.proofs.cut_settle.settle.Given as goal

abbrev pub invariant-loop-position : goal.invariant-loop-position
invariant-loop-position l = AreSettledFrom l.net l.order l.from (l.from + l.position-index) l.initial.bits.items l.bits.items
