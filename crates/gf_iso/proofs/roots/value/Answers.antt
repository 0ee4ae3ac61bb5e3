use Rattle.std.proofs.Common.{◌∙◌}
use Rattle.gf_iso.proofs.StepLaws.{taken_value}
use Rattle.gf_iso.proofs.roots.value.Goals as goal

pub returns : goal.returns
returns g c = c.combined.ensures ∙ taken_value _ _ (g.met.F.Ring.laws c.args.field.now) c.args.y c.powers.result c.args.n c.args.modulus c.powers.ensures.whole c.requires.small c.powers.ensures.powers
