use Rattle.std.proofs.Common.{ℕ, ◌≤◌, ◌++◌, List, length}
use Rattle.std.specs.Prelude.{All}
use Rattle.net_blif.specs.Statement.{IsToken, Token}
use Rattle.net_blif.specs.private.FirstLine.{StandsAlone}
use Rattle.net_blif.proofs.in_place.line_in_place.Given as goal

-- where what is left begins with a line that stands alone, the text does, with the words so far before those of that line
abbrev pub invariant-loop-front : goal.invariant-loop-front
invariant-loop-front l =
    record {
      line : (more : List Token) (after : List ℕ) → StandsAlone l.rest more after → StandsAlone l.text (l.words.items ++ more) after;
      tokens : All IsToken l.words.items;
      within : length l.rest ≤ length l.text;
    }

abbrev pub decreases-loop-front : goal.decreases-loop-front
decreases-loop-front l = length l.rest
