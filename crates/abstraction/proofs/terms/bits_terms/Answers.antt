use Rattle.std.proofs.Common.{◌≡◌, ◌∙◌, ap, sym, subst, ℕ, List, length, map}
use Rattle.net_words.specs.Binding.{Binding, BoundNet}
use Rattle.gf_basis.specs.BasisParts.{elements_of}
use Rattle.gf_basis.specs.declared.bases.Basis.{Basis}
use Rattle.circuit_model.specs.OfBinding.{output_basis}
use Rattle.stage_model.specs.CircuitListing.{bound_cuts}
use Rattle.stage_model.specs.Cut.{BoundCut}
use Rattle.stage_model.specs.Listing.{AreAllWithin, IsRefusal}
use Rattle.stage_model.specs.Stage.{IsOfStage}
use Rattle.rato_reduce.specs.Recorded.{IsRecorded}
use Rattle.abstraction.proofs.StageLemmas.{few, no_words, output_of_last}
use Rattle.word_subst.proofs.TurnLemmas.{is_well_formed}
use Rattle.abstraction.proofs.terms.bits_terms.Goals as goal

pub output_basis-basis-requires-clause-long : goal.output_basis-basis-requires-clause-long
output_basis-basis-requires-clause-long g c = c.requires.bases.long ∙ sym (ap (λ (b : Binding). length b.words) c.binding.ensures.binding)

pub reduce_bits-requires-clause-basis : goal.reduce_bits-requires-clause-basis
reduce_bits-requires-clause-basis g c = c.requires.bases.each c.output_basis-basis.result.now c.output_basis-basis.ensures.among

pub returns-in-Ok-clause-sound : goal.returns-in-Ok-clause-sound
returns-in-Ok-clause-sound g c = c.binding.ensures.sound

pub returns-in-Ok-clause-is_bound : goal.returns-in-Ok-clause-is_bound
returns-in-Ok-clause-is_bound g c = c.binding.ensures.is_bound

pub returns-in-Ok-clause-well : goal.returns-in-Ok-clause-well
returns-in-Ok-clause-well g c =
    let k : ℕ = g.F.Ring.degree c.args.field.now in
    let mul : ℕ → ℕ → ℕ = g.F.Ring.product c.args.field.now in
    let ring = g.met.F.Ring.laws c.args.field.now in
    let free = g.met.F.Field.no_zero_divisors c.args.field.now in
    let circuit : BoundNet = c.args.circuit.now in
    let bases : List Basis = c.args.bases.now in
    is_well_formed k mul circuit bases c.requires.bases ring free c.binding.ensures.sound c.binding.ensures.is_bound c.requires.bits

pub returns-in-Err-clause-sound : goal.returns-in-Err-clause-sound
returns-in-Err-clause-sound g c = c.binding.ensures.sound

pub returns-in-Err-clause-is_bound : goal.returns-in-Err-clause-is_bound
returns-in-Err-clause-is_bound g c = c.binding.ensures.is_bound

pub returns-in-Err-clause-well : goal.returns-in-Err-clause-well
returns-in-Err-clause-well g c =
    let k : ℕ = g.F.Ring.degree c.args.field.now in
    let mul : ℕ → ℕ → ℕ = g.F.Ring.product c.args.field.now in
    let ring = g.met.F.Ring.laws c.args.field.now in
    let free = g.met.F.Field.no_zero_divisors c.args.field.now in
    let circuit : BoundNet = c.args.circuit.now in
    let bases : List Basis = c.args.bases.now in
    is_well_formed k mul circuit bases c.requires.bases ring free c.binding.ensures.sound c.binding.ensures.is_bound c.requires.bits

pub returns-in-Ok-clause-last : goal.returns-in-Ok-clause-last
returns-in-Ok-clause-last g c =
    let k : ℕ = g.F.Ring.degree c.args.field.now in
    let mul : ℕ → ℕ → ℕ = g.F.Ring.product c.args.field.now in
    let circuit : BoundNet = c.args.circuit.now in
    let bases : List Basis = c.args.bases.now in
    let basis : elements_of c.output_basis-basis.result.now ≡ output_basis circuit.binding.words (map elements_of bases) = c.output_basis-basis.ensures.basis ∙ ap (λ (b : Binding). output_basis b.words (map elements_of bases)) c.binding.ensures.binding in
    let L : List ℕ → Type 0 = λ e. IsOfStage k mul (BoundCut circuit e (length circuit.net.gates)) c.in-Ok.terms.items in
    let last = subst L basis c.in-Ok.ensures.last in
    last

pub returns-in-Ok-clause-output : goal.returns-in-Ok-clause-output
returns-in-Ok-clause-output g c =
    let k : ℕ = g.F.Ring.degree c.args.field.now in
    let mul : ℕ → ℕ → ℕ = g.F.Ring.product c.args.field.now in
    let ring = g.met.F.Ring.laws c.args.field.now in
    let free = g.met.F.Field.no_zero_divisors c.args.field.now in
    let circuit : BoundNet = c.args.circuit.now in
    let bases : List Basis = c.args.bases.now in
    let well = is_well_formed k mul circuit bases c.requires.bases ring free c.binding.ensures.sound c.binding.ensures.is_bound c.requires.bits in
    let basis : elements_of c.output_basis-basis.result.now ≡ output_basis circuit.binding.words (map elements_of bases) = c.output_basis-basis.ensures.basis ∙ ap (λ (b : Binding). output_basis b.words (map elements_of bases)) c.binding.ensures.binding in
    let L : List ℕ → Type 0 = λ e. IsOfStage k mul (BoundCut circuit e (length circuit.net.gates)) c.in-Ok.terms.items in
    let last = subst L basis c.in-Ok.ensures.last in
    output_of_last k mul circuit bases well c.requires.bases.long c.binding.ensures.flat c.in-Ok.terms.items last

pub returns-in-Ok-clause-mix : goal.returns-in-Ok-clause-mix
returns-in-Ok-clause-mix g c =
    let k : ℕ = g.F.Ring.degree c.args.field.now in
    let mul : ℕ → ℕ → ℕ = g.F.Ring.product c.args.field.now in
    let ring = g.met.F.Ring.laws c.args.field.now in
    let free = g.met.F.Field.no_zero_divisors c.args.field.now in
    let circuit : BoundNet = c.args.circuit.now in
    let bases : List Basis = c.args.bases.now in
    let well = is_well_formed k mul circuit bases c.requires.bases ring free c.binding.ensures.sound c.binding.ensures.is_bound c.requires.bits in
    let basis : elements_of c.output_basis-basis.result.now ≡ output_basis circuit.binding.words (map elements_of bases) = c.output_basis-basis.ensures.basis ∙ ap (λ (b : Binding). output_basis b.words (map elements_of bases)) c.binding.ensures.binding in
    let L : List ℕ → Type 0 = λ e. IsOfStage k mul (BoundCut circuit e (length circuit.net.gates)) c.in-Ok.terms.items in
    let last = subst L basis c.in-Ok.ensures.last in
    no_words k mul circuit bases well c.requires.bases.long c.binding.ensures.flat c.in-Ok.terms.items last

pub returns-in-Ok-clause-few : goal.returns-in-Ok-clause-few
returns-in-Ok-clause-few g c =
    let k : ℕ = g.F.Ring.degree c.args.field.now in
    let mul : ℕ → ℕ → ℕ = g.F.Ring.product c.args.field.now in
    let ring = g.met.F.Ring.laws c.args.field.now in
    let free = g.met.F.Field.no_zero_divisors c.args.field.now in
    let circuit : BoundNet = c.args.circuit.now in
    let bases : List Basis = c.args.bases.now in
    let basis : elements_of c.output_basis-basis.result.now ≡ output_basis circuit.binding.words (map elements_of bases) = c.output_basis-basis.ensures.basis ∙ ap (λ (b : Binding). output_basis b.words (map elements_of bases)) c.binding.ensures.binding in
    let L : List ℕ → Type 0 = λ e. IsOfStage k mul (BoundCut circuit e (length circuit.net.gates)) c.in-Ok.terms.items in
    let last = subst L basis c.in-Ok.ensures.last in
    let W : List ℕ → Type 0 = λ e. AreAllWithin k mul (bound_cuts circuit e) c.args.bound in
    let within = subst W basis c.in-Ok.ensures.within in
    few k mul circuit bases ring free c.binding.ensures.sound c.args.bound c.in-Ok.terms.items last within

pub returns-in-Ok-clause-within : goal.returns-in-Ok-clause-within
returns-in-Ok-clause-within g c =
    let k : ℕ = g.F.Ring.degree c.args.field.now in
    let mul : ℕ → ℕ → ℕ = g.F.Ring.product c.args.field.now in
    let circuit : BoundNet = c.args.circuit.now in
    let bases : List Basis = c.args.bases.now in
    let basis : elements_of c.output_basis-basis.result.now ≡ output_basis circuit.binding.words (map elements_of bases) = c.output_basis-basis.ensures.basis ∙ ap (λ (b : Binding). output_basis b.words (map elements_of bases)) c.binding.ensures.binding in
    let W : List ℕ → Type 0 = λ e. AreAllWithin k mul (bound_cuts circuit e) c.args.bound in
    let within = subst W basis c.in-Ok.ensures.within in
    within

pub returns-in-Ok-clause-steps : goal.returns-in-Ok-clause-steps
returns-in-Ok-clause-steps g c =
    let k : ℕ = g.F.Ring.degree c.args.field.now in
    let mul : ℕ → ℕ → ℕ = g.F.Ring.product c.args.field.now in
    let circuit : BoundNet = c.args.circuit.now in
    let bases : List Basis = c.args.bases.now in
    let basis : elements_of c.output_basis-basis.result.now ≡ output_basis circuit.binding.words (map elements_of bases) = c.output_basis-basis.ensures.basis ∙ ap (λ (b : Binding). output_basis b.words (map elements_of bases)) c.binding.ensures.binding in
    let S : List ℕ → Type 0 = λ e. IsRecorded k mul circuit e (length circuit.net.gates) (g.T.Steps.steps c.args.steps.now) (g.T.Steps.steps c.reduce_bits.new.steps) in
    subst S basis c.in-Ok.ensures.steps

pub returns-in-Err-clause-fault : goal.returns-in-Err-clause-fault
returns-in-Err-clause-fault g c =
    let k : ℕ = g.F.Ring.degree c.args.field.now in
    let mul : ℕ → ℕ → ℕ = g.F.Ring.product c.args.field.now in
    let circuit : BoundNet = c.args.circuit.now in
    let bases : List Basis = c.args.bases.now in
    let basis : elements_of c.output_basis-basis.result.now ≡ output_basis circuit.binding.words (map elements_of bases) = c.output_basis-basis.ensures.basis ∙ ap (λ (b : Binding). output_basis b.words (map elements_of bases)) c.binding.ensures.binding in
    let R : List ℕ → Type 0 = λ e. IsRefusal k mul (bound_cuts circuit e) c.args.bound c.in-Err.fault in
    subst R basis c.in-Err.ensures.fault
