use Rattle.std.proofs.Common.{◌+◌, ◌≤◌, length}
use Rattle.std.specs.Str.Lines.{lines}
use Rattle.cert_check.specs.Certificate.{begun}
use Rattle.cert_check.specs.Verdict.{VerdictFrom}
use Rattle.cert_check.specs.private.Held.{dual_of, whole, IsHeld, IsLast}
use Rattle.cert_check.specs.private.Kept.{terms_of}
use Rattle.cert_check.proofs.CheckLemmas.{IsAt}
use Rattle.cert_check.proofs.checking.verdict_from.Given as goal

abbrev pub invariant-turns : goal.invariant-turns
invariant-turns g l =
    record {
      at : IsAt (g.F.Ring.degree l.field) (g.F.Ring.product l.field) l.circuit l.bases l.labels l.bound l.version (VerdictFrom (g.F.Ring.degree l.field) (g.F.Ring.product l.field) l.circuit l.bases l.labels l.bound l.version (lines l.bytes) 3 (begun l.fn.claim.terms)) l.number (lines l.rest) l.checking.claim.terms (terms_of l.checking.shared.items) (whole (g.F.Ring.degree l.field) (g.F.Ring.product l.field) (dual_of l.circuit l.bases) l.checking.sum);
      held : IsHeld l.circuit l.bases (g.F.Ring.degree l.field) l.checking.sum;
      last : IsLast (g.F.Ring.degree l.field) (g.F.Ring.product l.field) l.circuit l.bases l.checking.last;
      long : l.number + length l.rest ≤ 3 + length l.bytes;
      shared : length l.checking.shared.items + 3 ≤ l.number;
    }

abbrev pub decreases-turns : goal.decreases-turns
decreases-turns g l = length l.rest
