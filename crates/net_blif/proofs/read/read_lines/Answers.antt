use Rattle.std.proofs.Common.{subst, arith}
use Rattle.std.specs.Str.Lines.{lines}
use Rattle.net_blif.specs.Lines.{joined}
use Rattle.net_blif.specs.Models.{Reading, Reads}
use Rattle.net_blif.proofs.read.read_lines.Goals as goal

pub loop-rest-init : goal.loop-rest-init
loop-rest-init c =
    record {
      some = omega arith;
      few = omega (arith, c.requires.few);
      rest = λ outcome reads. let P : Reading → Type 0 = λ reading. Reads reading (joined 1 (lines c.args.text.now)) outcome in subst P c.requires.none reads;
    }
