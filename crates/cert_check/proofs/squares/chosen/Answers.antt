use Rattle.std.proofs.lemmas.Nat.{pow_pos}
use Rattle.cert_check.proofs.squares.chosen.Goals as goal

pub loop-i-init : goal.loop-i-init
loop-i-init g c = pow_pos (g.F.Ring.degree c.args.field.now)
