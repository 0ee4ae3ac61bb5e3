use Rattle.std.proofs.Common.{◌≡◌, ◌∙◌, ℕ}
use Rattle.poly_mixed.specs.Polynomial.{Terms}
use Rattle.circuit_model.specs.Circuit.{Circuit}
use Rattle.circuit_model.specs.WellFormed.{IsWellFormed}
use Rattle.circuit_model.specs.Bases.{circuit_in}
use Rattle.spec_compare.proofs.TurnLemmas.{is_well_formed}
use Rattle.spec_compare.proofs.ComparedLemmas.{none_same, difference_at, below_at, few_at, moved_sum}
use Rattle.spec_compare.proofs.comparing.compare.Goals as goal

pub returns-in_default : goal.returns-in_default
returns-in_default g c =
    let k : ℕ = g.F.Ring.degree c.args.field.now in
    let mul : ℕ → ℕ → ℕ = g.F.Ring.product c.args.field.now in
    let circuit : Circuit = circuit_in k mul c.args.circuit.now c.args.bases.now in
    let well : IsWellFormed circuit = is_well_formed k mul c.args.circuit.now c.args.bases.now c.requires.bases (g.met.F.Ring.laws c.args.field.now) (g.met.F.Field.no_zero_divisors c.args.field.now) c.binding-binding.ensures.sound c.binding-binding.ensures.is_bound c.requires.k in
    let ts : Terms = c.deref.result.now in
    none_same circuit well c.args.left.now.terms c.args.right.now.terms ts c.requires.left c.requires.right (moved_sum k mul c.args.left.now.terms c.args.right.now.terms c.in_ok-terms.terms.items ts c.deref.ensures.value c.in_ok-terms.ensures) c.in_default.ensures

pub padded-requires : goal.padded-requires
padded-requires g c =
    let k : ℕ = g.F.Ring.degree c.args.field.now in
    let mul : ℕ → ℕ → ℕ = g.F.Ring.product c.args.field.now in
    let circuit : Circuit = circuit_in k mul c.args.circuit.now c.args.bases.now in
    let well : IsWellFormed circuit = is_well_formed k mul c.args.circuit.now c.args.bases.now c.requires.bases (g.met.F.Ring.laws c.args.field.now) (g.met.F.Field.no_zero_divisors c.args.field.now) c.binding-binding.ensures.sound c.binding-binding.ensures.is_bound c.requires.k in
    let ts : Terms = c.deref.result.now in
    let ones : c.bits-ones.result.now ≡ c.in-Some.term.now.0.bits = c.bits-ones.ensures.value ∙ (λ i. (c.mono.ensures i).bits) in
    few_at circuit well c.args.left.now.terms c.args.right.now.terms ts c.requires.left c.requires.right (moved_sum k mul c.args.left.now.terms c.args.right.now.terms c.in_ok-terms.terms.items ts c.deref.ensures.value c.in_ok-terms.ensures)
    c.in-Some.term.now c.in-Some.ensures c.bits-ones.result.now c.deref-2.result.now ones (c.deref-2.ensures.value ∙ c.in_ok-list.ensures)

pub value_at-requires-clause-few : goal.value_at-requires-clause-few
value_at-requires-clause-few g c =
    let k : ℕ = g.F.Ring.degree c.args.field.now in
    let mul : ℕ → ℕ → ℕ = g.F.Ring.product c.args.field.now in
    let circuit : Circuit = circuit_in k mul c.args.circuit.now c.args.bases.now in
    let well : IsWellFormed circuit = is_well_formed k mul c.args.circuit.now c.args.bases.now c.requires.bases (g.met.F.Ring.laws c.args.field.now) (g.met.F.Field.no_zero_divisors c.args.field.now) c.binding-binding.ensures.sound c.binding-binding.ensures.is_bound c.requires.k in
    let ts : Terms = c.deref.result.now in
    let ones : c.bits-ones.result.now ≡ c.in-Some.term.now.0.bits = c.bits-ones.ensures.value ∙ (λ i. (c.mono.ensures i).bits) in
    below_at circuit well c.args.left.now.terms c.args.right.now.terms ts c.requires.left c.requires.right (moved_sum k mul c.args.left.now.terms c.args.right.now.terms c.in_ok-terms.terms.items ts c.deref.ensures.value c.in_ok-terms.ensures)
    c.in-Some.term.now c.in-Some.ensures c.bits-ones.result.now ones

pub value_at-requires-2-clause-few : goal.value_at-requires-2-clause-few
value_at-requires-2-clause-few g c =
    let k : ℕ = g.F.Ring.degree c.args.field.now in
    let mul : ℕ → ℕ → ℕ = g.F.Ring.product c.args.field.now in
    let circuit : Circuit = circuit_in k mul c.args.circuit.now c.args.bases.now in
    let well : IsWellFormed circuit = is_well_formed k mul c.args.circuit.now c.args.bases.now c.requires.bases (g.met.F.Ring.laws c.args.field.now) (g.met.F.Field.no_zero_divisors c.args.field.now) c.binding-binding.ensures.sound c.binding-binding.ensures.is_bound c.requires.k in
    let ts : Terms = c.deref.result.now in
    let ones : c.bits-ones.result.now ≡ c.in-Some.term.now.0.bits = c.bits-ones.ensures.value ∙ (λ i. (c.mono.ensures i).bits) in
    below_at circuit well c.args.left.now.terms c.args.right.now.terms ts c.requires.left c.requires.right (moved_sum k mul c.args.left.now.terms c.args.right.now.terms c.in_ok-terms.terms.items ts c.deref.ensures.value c.in_ok-terms.ensures)
    c.in-Some.term.now c.in-Some.ensures c.bits-ones.result.now ones

pub returns : goal.returns
returns g c =
    let k : ℕ = g.F.Ring.degree c.args.field.now in
    let mul : ℕ → ℕ → ℕ = g.F.Ring.product c.args.field.now in
    let circuit : Circuit = circuit_in k mul c.args.circuit.now c.args.bases.now in
    let well : IsWellFormed circuit = is_well_formed k mul c.args.circuit.now c.args.bases.now c.requires.bases (g.met.F.Ring.laws c.args.field.now) (g.met.F.Field.no_zero_divisors c.args.field.now) c.binding-binding.ensures.sound c.binding-binding.ensures.is_bound c.requires.k in
    let ts : Terms = c.deref.result.now in
    let ones : c.bits-ones.result.now ≡ c.in-Some.term.now.0.bits = c.bits-ones.ensures.value ∙ (λ i. (c.mono.ensures i).bits) in
    difference_at circuit well c.args.left.now.terms c.args.right.now.terms ts c.requires.left c.requires.right (moved_sum k mul c.args.left.now.terms c.args.right.now.terms c.in_ok-terms.terms.items ts c.deref.ensures.value c.in_ok-terms.ensures)
    c.in-Some.term.now c.in-Some.ensures c.bits-ones.result.now c.deref-2.result.now c.padded.result c.value_at.result c.value_at-2.result ones (c.deref-2.ensures.value ∙ c.in_ok-list.ensures)
    c.padded.ensures.front c.padded.ensures.rest c.padded.ensures.long c.value_at.ensures c.value_at-2.ensures
