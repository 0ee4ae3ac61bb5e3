use Rattle.std.proofs.Common.{◌-◌, length}
use Rattle.spec_text.specs.private.Progress.{progress}
use Rattle.spec_text.proofs.ReadLemmas.{IsReading}
use Rattle.spec_text.proofs.reader.read_spec.Given as goal

abbrev pub decreases-loop-at : goal.decreases-loop-at
decreases-loop-at g l = length l.bytes - l.at

abbrev pub invariant-loop-at : goal.invariant-loop-at
invariant-loop-at g l =
    IsReading l.labels (g.F.Ring.degree l.field) (g.F.Ring.product l.field) (g.met.F.Ring.laws l.field) l.bytes l.at (progress l.next l.reading.terms.items l.reading.coefficient l.reading.powers.items)
