use Rattle.std.proofs.Common.{◌+◌, ◌≤◌, length, Result}
use Rattle.std.specs.Str.Lines.{lines}
use Rattle.cert_check.specs.Certificate.{Certificate, begun, AsksNothing, LinesOf}
use Rattle.cert_check.specs.declared.fault.CertFault.{CertFault}
use Rattle.cert_check.proofs.reading.pairs_from.Given as goal

-- what may come of the rest may come of the whole
abbrev pub invariant-loop-rest : goal.invariant-loop-rest
invariant-loop-rest l =
    record {
      rest : (outcome : Result Certificate CertFault) → LinesOf l.k l.net l.labels (AsksNothing l.k l.net l.labels) l.version (lines l.rest) l.number l.pairs outcome → LinesOf l.k l.net l.labels (AsksNothing l.k l.net l.labels) l.version (lines l.bytes) 3 (begun l.fn.claim.terms) outcome;
      long : l.number + length l.rest ≤ 3 + length l.bytes;
      pairs : length l.pairs.pairs + 3 ≤ l.number;
      shared : length l.pairs.shared + 3 ≤ l.number;
    }

abbrev pub decreases-loop-rest : goal.decreases-loop-rest
decreases-loop-rest l = length l.rest
