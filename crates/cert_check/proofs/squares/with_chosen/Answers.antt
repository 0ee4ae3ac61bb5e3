use lib.Bits.{xor_lt}
use Rattle.cert_check.proofs.squares.with_chosen.Goals as goal

pub returns-then-chosen : goal.returns-then-chosen
returns-then-chosen g c = xor_lt (g.F.Ring.degree c.args._field.now) c.args.sum c.args.coefficient c.requires.sum c.requires.coefficient
