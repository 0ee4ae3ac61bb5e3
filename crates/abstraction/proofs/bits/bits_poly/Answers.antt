use Rattle.std.proofs.Common.{◌∙◌, ◌≤◌, sym, subst, ℕ, List, length, map}
use Rattle.net_words.specs.Binding.{BoundNet}
use Rattle.gf_basis.specs.BasisParts.{elements_of}
use Rattle.gf_basis.specs.declared.bases.Basis.{Basis}
use Rattle.poly_mixed.specs.Polynomial.{Terms, IsMap}
use Rattle.circuit_model.specs.Bases.{circuit_in}
use Rattle.stage_model.specs.OutputInBits.{IsOutputInBits}
use Rattle.word_subst.specs.WordStages.{IsOfNoWords}
use Rattle.abstraction.specs.Stages.{IsLastCut}
use Rattle.abstraction.proofs.bits.bits_poly.Goals as goal

pub returns-in-Err-clause-sound : goal.returns-in-Err-clause-sound
returns-in-Err-clause-sound g c = c.bits_terms.ensures.sound

pub returns-in-Err-clause-is_bound : goal.returns-in-Err-clause-is_bound
returns-in-Err-clause-is_bound g c = c.bits_terms.ensures.is_bound

pub returns-in-Err-clause-well : goal.returns-in-Err-clause-well
returns-in-Err-clause-well g c = c.bits_terms.ensures.well

pub poly_of-requires : goal.poly_of-requires
poly_of-requires g c = let P : Terms → Type 0 = IsMap in subst P (sym c.deref.ensures.value) c.in-Ok.ensures.mix.reduced.is_map

pub returns-in_err-poly-clause-sound : goal.returns-in_err-poly-clause-sound
returns-in_err-poly-clause-sound g c = c.bits_terms.ensures.sound

pub returns-in_err-poly-clause-is_bound : goal.returns-in_err-poly-clause-is_bound
returns-in_err-poly-clause-is_bound g c = c.bits_terms.ensures.is_bound

pub returns-in_err-poly-clause-well : goal.returns-in_err-poly-clause-well
returns-in_err-poly-clause-well g c = c.bits_terms.ensures.well

pub returns-clause-sound : goal.returns-clause-sound
returns-clause-sound g c = c.bits_terms.ensures.sound

pub returns-clause-is_bound : goal.returns-clause-is_bound
returns-clause-is_bound g c = c.bits_terms.ensures.is_bound

pub returns-clause-well : goal.returns-clause-well
returns-clause-well g c = c.bits_terms.ensures.well

pub returns-clause-last : goal.returns-clause-last
returns-clause-last g c =
    let k : ℕ = g.F.Ring.degree c.args.field.now in
    let mul : ℕ → ℕ → ℕ = g.F.Ring.product c.args.field.now in
    let circuit : BoundNet = c.args.circuit.now in
    let bases : List Basis = c.args.bases.now in
    let P : Terms → Type 0 = λ ts. IsLastCut k mul circuit (map elements_of bases) ts in
    subst P (sym (c.in_ok-poly.ensures ∙ c.deref.ensures.value)) c.in-Ok.ensures.last

pub returns-clause-output : goal.returns-clause-output
returns-clause-output g c =
    let k : ℕ = g.F.Ring.degree c.args.field.now in
    let mul : ℕ → ℕ → ℕ = g.F.Ring.product c.args.field.now in
    let circuit : BoundNet = c.args.circuit.now in
    let bases : List Basis = c.args.bases.now in
    let P : Terms → Type 0 = λ ts. IsOutputInBits (circuit_in k mul circuit bases) ts in
    subst P (sym (c.in_ok-poly.ensures ∙ c.deref.ensures.value)) c.in-Ok.ensures.output

pub returns-clause-mix : goal.returns-clause-mix
returns-clause-mix g c =
    let k : ℕ = g.F.Ring.degree c.args.field.now in
    let mul : ℕ → ℕ → ℕ = g.F.Ring.product c.args.field.now in
    let circuit : BoundNet = c.args.circuit.now in
    let bases : List Basis = c.args.bases.now in
    let P : Terms → Type 0 = λ ts. IsOfNoWords (circuit_in k mul circuit bases) ts in
    subst P (sym (c.in_ok-poly.ensures ∙ c.deref.ensures.value)) c.in-Ok.ensures.mix

pub returns-clause-few : goal.returns-clause-few
returns-clause-few g c =
    let P : Terms → Type 0 = λ ts. length ts ≤ c.args.bound in
    subst P (sym (c.in_ok-poly.ensures ∙ c.deref.ensures.value)) c.in-Ok.ensures.few

pub returns-clause-within : goal.returns-clause-within
returns-clause-within g c = c.in-Ok.ensures.within

pub returns-clause-steps : goal.returns-clause-steps
returns-clause-steps g c = c.in-Ok.ensures.steps
