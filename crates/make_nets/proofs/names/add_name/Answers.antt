use Rattle.std.proofs.Common.{◌∙◌, ℕ, Option, ap, true}
use Rattle.std.specs.Prelude.{is_some, if◌then◌else◌}
use Rattle.net_core.specs.NetList.{with_label}
use Rattle.make_nets.proofs.names.add_name.Goals as goal

pub returns : goal.returns
returns c = c.in_ok-named.ensures.made ∙ ap (λ (at : Option ℕ). if is_some at then c.args.maker.now else with_label c.args.maker.now c.args.name.now true) c.requires.is_new
