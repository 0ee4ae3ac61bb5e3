use Rattle.std.proofs.Common.{◌≡◌, ◌∙◌, ap, sym, subst, IfOk, List, ℕ, length, map}
use Rattle.lists.specs.Lists.{Has}
use Rattle.gf_basis.specs.BasisParts.{elements_of}
use Rattle.net_words.specs.Binding.{Binding, IsBinding}
use Rattle.net_words.specs.BoundTo.{output_bits}
use Rattle.poly_mixed.specs.Polynomial.{Polynomial, IsPolynomialOf}
use Rattle.circuit_model.specs.OfBinding.{output_basis}
use Rattle.circuit_model.proofs.OutputNetsLemmas.{output_long}
use Rattle.cert_check.specs.private.Generators.{word_value}
use Rattle.cert_check.proofs.running.output_poly.Goals as goal

pub output_basis-basis-requires-clause-long : goal.output_basis-basis-requires-clause-long
output_basis-basis-requires-clause-long g c = c.requires.bases.long ∙ ap (λ (b : Binding). length b.words) (sym c.binding.ensures.binding)

pub output_basis-basis-requires-clause-one : goal.output_basis-basis-requires-clause-one
output_basis-basis-requires-clause-one g c = let P : Binding → Type 0 = IsBinding in subst P (sym c.binding.ensures.binding) c.binding.ensures.is_bound.parts

pub word_poly-requires-clause-basis : goal.word_poly-requires-clause-basis
word_poly-requires-clause-basis g c = c.requires.bases.each c.output_basis-basis.result.now c.output_basis-basis.ensures.among

pub word_poly-requires-clause-long : goal.word_poly-requires-clause-long
word_poly-requires-clause-long g c =
    let bound = c.binding-2.ensures.is_bound in
    ap length (c.deref.ensures.value ∙ c.in_ok-list.ensures) ∙ (ap (λ (b : Binding). length (output_bits b.words)) c.binding-2.ensures.binding ∙ output_long c.args.circuit.now.net c.args.circuit.now.binding bound ∙ c.requires.k)

pub word_poly-requires-clause-inside : goal.word_poly-requires-clause-inside
word_poly-requires-clause-inside g c n has =
    let bound = c.binding-2.ensures.is_bound in
    let list : c.deref.result.now ≡ output_bits c.args.circuit.now.binding.words = c.deref.ensures.value ∙ (c.in_ok-list.ensures ∙ ap (λ (b : Binding). output_bits b.words) c.binding-2.ensures.binding) in
    let P : List ℕ → Type 0 = λ xs. Has xs n in
    bound.outputs n (subst P list has)

pub returns : goal.returns
returns g c =
    let k : ℕ = g.F.Ring.degree c.args.field.now in
    let mul : ℕ → ℕ → ℕ = g.F.Ring.product c.args.field.now in
    let basis = c.output_basis-basis.result.now in
    let elements : elements_of basis ≡ output_basis c.args.circuit.now.binding.words (map elements_of c.args.bases.now) = c.output_basis-basis.ensures.basis ∙ ap (λ (b : Binding). output_basis b.words (map elements_of c.args.bases.now)) c.binding.ensures.binding in
    let list : c.deref.result.now ≡ output_bits c.args.circuit.now.binding.words = c.deref.ensures.value ∙ (c.in_ok-list.ensures ∙ ap (λ (b : Binding). output_bits b.words) c.binding-2.ensures.binding) in
    let E : List ℕ → Type 0 = λ es. IfOk c.word_poly.result (λ (q : Polynomial). IsPolynomialOf k mul (word_value c.args.circuit.now es (output_bits c.args.circuit.now.binding.words)) q.terms) in
    let L : List ℕ → Type 0 = λ ns. IfOk c.word_poly.result (λ (q : Polynomial). IsPolynomialOf k mul (word_value c.args.circuit.now (elements_of basis) ns) q.terms) in
    subst E elements (subst L list c.word_poly.ensures)
