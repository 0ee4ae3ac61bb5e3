use Rattle.std.proofs.Common.{◌≡◌, List, ◌∙◌, ap, sym, subst, arith}
use Rattle.std.specs.Prelude.{All}
use Rattle.net_core.specs.GateValue.{GateValue}
use Rattle.net_core.specs.Inside.{GateIsInside}
use Rattle.net_core.specs.NetList.{nets}
use Rattle.make_nets.specs.MadeNet.{names_in}
use Rattle.make_nets.proofs.FillLemmas.{nets_after, inputs_inside, outputs_inside, gates_inside, latches_inside}
use Rattle.make_nets.proofs.finishing.fill.Goals as goal

-- src/finishing.rt:29:5
pub add_inputs-requires : goal.add_inputs-requires
add_inputs-requires c =
    let there : nets c.add_inner_names.new.maker ≡ c.args.plan.now.next = nets_after c.args.maker.now c.add_inner_names.new.maker c.args.prefix.now c.args.outer c.args.plan.now.next c.next.result c.in_ok-add_inner_names.ensures c.next.ensures c.requires.outer (omega (arith, c.requires.outer, c.requires.fits.1.made.from)) in
    inputs_inside (names_in c.args.maker.now) c.args.prefix.now c.args.inputs.now c.args.outputs.now c.args.latches.now c.requires.fits.0 c.args.plan.now c.requires.fits.1 (nets c.add_inner_names.new.maker) there

-- src/finishing.rt:30:5
pub add_outputs-requires : goal.add_outputs-requires
add_outputs-requires c =
    let there : nets c.add_inner_names.new.maker ≡ c.args.plan.now.next = nets_after c.args.maker.now c.add_inner_names.new.maker c.args.prefix.now c.args.outer c.args.plan.now.next c.next.result c.in_ok-add_inner_names.ensures c.next.ensures c.requires.outer (omega (arith, c.requires.outer, c.requires.fits.1.made.from)) in
    outputs_inside (names_in c.args.maker.now) c.args.prefix.now c.args.inputs.now c.args.outputs.now c.args.latches.now c.requires.fits.0 c.args.plan.now c.requires.fits.1 (nets c.add_inputs.new.maker) (ap nets c.in_ok-add_inputs.ensures ∙ there)

-- src/finishing.rt:31:5
pub add_gates-requires-clause-inside : goal.add_gates-requires-clause-inside
add_gates-requires-clause-inside c =
    let there : nets c.add_inner_names.new.maker ≡ c.args.plan.now.next = nets_after c.args.maker.now c.add_inner_names.new.maker c.args.prefix.now c.args.outer c.args.plan.now.next c.next.result c.in_ok-add_inner_names.ensures c.next.ensures c.requires.outer (omega (arith, c.requires.outer, c.requires.fits.1.made.from)) in
    let P : List GateValue → Type 0 = λ gates. All (GateIsInside (nets c.add_outputs.new.maker)) gates in
    subst P (sym c.gates.ensures) (gates_inside (names_in c.args.maker.now) c.args.prefix.now c.args.inputs.now c.args.outputs.now c.args.latches.now c.requires.fits.0 c.args.plan.now c.requires.fits.1 (nets c.add_outputs.new.maker) (ap nets c.in_ok-add_outputs.ensures ∙ (ap nets c.in_ok-add_inputs.ensures ∙ there)))

-- src/finishing.rt:32:5
pub add_latches-requires-clause-inside : goal.add_latches-requires-clause-inside
add_latches-requires-clause-inside c =
    let there : nets c.add_inner_names.new.maker ≡ c.args.plan.now.next = nets_after c.args.maker.now c.add_inner_names.new.maker c.args.prefix.now c.args.outer c.args.plan.now.next c.next.result c.in_ok-add_inner_names.ensures c.next.ensures c.requires.outer (omega (arith, c.requires.outer, c.requires.fits.1.made.from)) in
    latches_inside (names_in c.args.maker.now) c.args.prefix.now c.args.inputs.now c.args.outputs.now c.args.latches.now c.requires.fits.0 c.args.plan.now c.requires.fits.1 (nets c.add_gates.new.maker) (ap nets c.in_ok-add_gates.ensures ∙ (ap nets c.in_ok-add_outputs.ensures ∙ (ap nets c.in_ok-add_inputs.ensures ∙ there)))
