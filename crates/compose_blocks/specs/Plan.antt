-- What comes of a top before its wiring: the blocks of its instances with their circuits, or the first refusal.
-- Source: Pruss, Kalla, Enescu, DAC 2014; the order of refusals is this project's own.
use Rattle.std.specs.Prelude.{List}
use Rattle.outcome.specs.ForEach.{ForEach}
use Rattle.outcome.specs.Outcome.{Outcome, ◌>>=◌}
use Rattle.net_signature.specs.Signature.{SignatureValue}
use Rattle.net_blif.specs.Design.{ModelValue}
use Rattle.net_blif.specs.Top.{instances_of}
use Rattle.compose_blocks.specs.Structure.{HasInstancesAlone, IsUnfed, NumberOf}
use Rattle.compose_blocks.specs.Uses.{BlockUse, UseOf}
use Rattle.compose_blocks.specs.declared.plan_fault.PlanFault.{PlanFault}

-- The blocks of the top's instances, one for each instance. The top has no feed; it has neither gate nor latch; the model of
-- each instance has a block; and each of these blocks has a circuit. A block that several instances use counts at the first.
abbrev pub UsesOf : List ModelValue → SignatureValue → Outcome PlanFault (List BlockUse)
UsesOf design signature = do
  unfed ← IsUnfed signature
  alone ← HasInstancesAlone design
  numbers ← ForEach (NumberOf signature.blocks) (instances_of design)
  ForEach (UseOf design signature.blocks) (instances_of design)
