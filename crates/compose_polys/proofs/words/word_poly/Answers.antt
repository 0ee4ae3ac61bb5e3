use Rattle.std.proofs.lemmas.Result.{IfOk-weaker}
use Rattle.gf_field.specs.laws.PowerLaws.{one_below}
use Rattle.compose_polys.proofs.FeedLemmas.{word_itself}
use Rattle.compose_polys.proofs.words.word_poly.Goals as goal

pub scaled_power-requires-clause-element : goal.scaled_power-requires-clause-element
scaled_power-requires-clause-element g c = one_below (g.F.Ring.degree c.args.field.now) (g.F.Ring.product c.args.field.now) (g.met.F.Ring.laws c.args.field.now)

pub scaled_power-requires-clause-exponent : goal.scaled_power-requires-clause-exponent
scaled_power-requires-clause-exponent g c = one_below (g.F.Ring.degree c.args.field.now) (g.F.Ring.product c.args.field.now) (g.met.F.Ring.laws c.args.field.now)

pub returns : goal.returns
returns g c = IfOk-weaker c.scaled_power.result _ _ (λ poly is. word_itself (g.F.Ring.degree c.args.field.now) (g.F.Ring.product c.args.field.now) c.args.word poly.terms (g.met.F.Ring.laws c.args.field.now) c.requires is) c.scaled_power.ensures
