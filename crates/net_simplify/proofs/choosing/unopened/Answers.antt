use Rattle.std.proofs.Common.{arith, subst, Option}
use Rattle.net_simplify.specs.Form.{Form}
use Rattle.net_simplify.specs.Choice.{taken}
use Rattle.net_simplify.specs.private.Lists.{IsComposedWithin, forms_of}
use Rattle.net_simplify.proofs.BestLemmas.{gives_units}
use Rattle.net_simplify.proofs.StepLemmas.{never_over}
use Rattle.net_simplify.proofs.choosing.unopened.Goals as goal

pub unreachable-requires : goal.unreachable-requires
unreachable-requires c =
    let P : Option Form → Type 0 = IsComposedWithin 6 c.args.gate.now.table (taken (forms_of c.args.known.now) 0 c.args.gate.now.inputs) in
    never_over c.args.known.now c.args.gate.now.table c.args.gate.now.inputs c.nets-nets.ensures.few c.inputs-inputs.ensures.few (subst P c.in-None.is c.in_ok-form.ensures)
