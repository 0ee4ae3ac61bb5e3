use Rattle.std.proofs.Common.{◌≡◌, ◌≤◌, ℕ, length}
use Rattle.std.specs.Str.Lines.{lines}
use Rattle.net_blif.specs.Lines.{joined, lines_of}
use Rattle.net_blif.specs.Models.{begins}
use Rattle.net_blif.proofs.read.has_model.Given as goal

-- no line so far begins with `.`
abbrev pub invariant-loop-rest : goal.invariant-loop-rest
invariant-loop-rest l =
    record {
      few : length l.rest ≤ 67108864;
      same : (n : ℕ) × (begins (lines_of l.text) ≡ begins (joined n (lines l.rest)));
    }

abbrev pub decreases-loop-rest : goal.decreases-loop-rest
decreases-loop-rest l = length l.rest
