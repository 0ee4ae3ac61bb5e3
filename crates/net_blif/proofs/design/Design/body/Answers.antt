use Rattle.net_blif.proofs.BodyLemmas.{body_got}
use Rattle.net_blif.proofs.design.Design.body.Goals as goal

pub returns : goal.returns
returns c = body_got c.self.inside.models c.args.self.now c.self.inside.bodies.items c.deref.result.now c.args.model c.items.result.now c.body_or.result.now c.self.view_is c.self.invariant.3 c.deref.ensures.value c.items.ensures c.body_or.ensures
