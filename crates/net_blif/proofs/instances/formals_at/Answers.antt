use Rattle.net_blif.specs.private.Connecting.{formals_in}
use Rattle.net_blif.proofs.InstanceLemmas.{formals_got}
use Rattle.net_blif.proofs.instances.formals_at.Goals as goal

pub returns : goal.returns
returns c = formals_got formals_in c.args.models.now c.args.formals.now c.args.model c.index-formals-model.result c.requires.formals c.requires.model c.index-formals-model.is
