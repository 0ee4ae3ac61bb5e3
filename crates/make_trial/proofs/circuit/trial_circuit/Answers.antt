use Rattle.std.proofs.Common.{◌≡◌, ◌∙◌, ap, sym, subst, ◌<◌, ◌^◌, length, Err}
use Rattle.gf_field.specs.Ring2k.{degree_of, modulus_of}
use Rattle.irreducible.specs.Proved.{ring_of}
use Rattle.job_input.specs.Setting.{IsTakenFor}
use Rattle.net_core.specs.NetList.{NetList, nets}
use Rattle.net_words.specs.Binding.{Binding, BoundNet}
use Rattle.unroll.specs.Unrolled.{unrolled}
use Rattle.make_trial.specs.Trial.{trial_circuit, trial_net}
use Rattle.make_trial.proofs.NetLemmas.{few_gates, few_nets, stays}
use Rattle.make_trial.proofs.OutLemmas.{trial_taken}
use Rattle.make_trial.proofs.circuit.trial_circuit.Goals as goal

pub unreachable-requires : goal.unreachable-requires
unreachable-requires c =
    let k = degree_of (ring_of c.args.ring.now) in
    let g = modulus_of (ring_of c.args.ring.now) in
    let number = c.args.number in
    let N : NetList → Type 0 = λ n. 2 ^ 20 < nets (unrolled n c.in_ok-bound.bound 0).net in
    let B : Binding → Type 0 = λ b. 2 ^ 20 < nets (unrolled (trial_net k g number) b 0).net in
    few_nets k g c.args.ring.now.ring.fits number (subst B c.in_ok-bound.ensures.value (subst N c.in_ok-net.ensures (c.in-Err-TooManyNets.ensures.nets.0 (ap Err c.in-Err-TooManyNets.field-0-is))))

pub unreachable-requires-in-Err-TooManyGates : goal.unreachable-requires-in-Err-TooManyGates
unreachable-requires-in-Err-TooManyGates c =
    let k = degree_of (ring_of c.args.ring.now) in
    let g = modulus_of (ring_of c.args.ring.now) in
    let number = c.args.number in
    let N : NetList → Type 0 = λ n. 2 ^ 20 < length (unrolled n c.in_ok-bound.bound 0).net.gates in
    let B : Binding → Type 0 = λ b. 2 ^ 20 < length (unrolled (trial_net k g number) b 0).net.gates in
    few_gates k g c.args.ring.now.ring.fits number (subst B c.in_ok-bound.ensures.value (subst N c.in_ok-net.ensures (c.in-Err-TooManyGates.ensures.gates (ap Err c.in-Err-TooManyGates.field-0-is))))

pub returns-in-Ok-clause-circuit : goal.returns-in-Ok-clause-circuit
returns-in-Ok-clause-circuit c =
    let k = degree_of (ring_of c.args.ring.now) in
    let g = modulus_of (ring_of c.args.ring.now) in
    c.in-Ok.ensures.made ∙ ((λ i. unrolled (c.in_ok-net.ensures i) (c.in_ok-bound.ensures.value i) 0) ∙ stays k g c.args.ring.now.ring.fits c.args.number)

pub returns-in-Ok-clause-taken : goal.returns-in-Ok-clause-taken
returns-in-Ok-clause-taken c =
    let k = degree_of (ring_of c.args.ring.now) in
    let g = modulus_of (ring_of c.args.ring.now) in
    let same : c.in-Ok.circuit ≡ trial_circuit k g c.args.number = c.in-Ok.ensures.made ∙ ((λ i. unrolled (c.in_ok-net.ensures i) (c.in_ok-bound.ensures.value i) 0) ∙ stays k g c.args.ring.now.ring.fits c.args.number) in
    let P : BoundNet → Type 0 = λ b. IsTakenFor k c.args.setting.now b in
    subst P (sym same) (trial_taken k g c.args.number c.args.setting.now c.requires.signature c.requires.ready.long)
