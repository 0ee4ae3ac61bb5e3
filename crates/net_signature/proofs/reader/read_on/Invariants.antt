use Rattle.std.proofs.Common.{length, Result}
use Rattle.net_signature.specs.Body.{BodyValue, Reads}
use Rattle.net_signature.specs.Reading.{left}
use Rattle.net_signature.specs.declared.fault.SigFault.{SigFault}
use Rattle.net_signature.proofs.reader.read_on.Given as goal

-- what may come of the rest may come of the whole
abbrev pub invariant-loop-line : goal.invariant-loop-line
invariant-loop-line l = (outcome : Result BodyValue SigFault) → Reads l.body (left l.lines) outcome → Reads l.initial.body (left l.initial.lines) outcome

abbrev pub decreases-loop-line : goal.decreases-loop-line
decreases-loop-line l = length l.lines.rest.now
