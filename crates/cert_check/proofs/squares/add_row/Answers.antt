use Rattle.std.proofs.Common.{◌≡◌, ◌∙◌, ◌<◌, ap, map, length, sym, subst, Some, ℕ, List, arith}
use Rattle.std.specs.Prelude.{slice_get, slice_index}
use Rattle.net_words.specs.Binding.{Binding}
use Rattle.circuit_model.specs.OfBinding.{words_of}
use Rattle.circuit_model.specs.Word.{Word}
use Rattle.poly_mixed.specs.Polynomial.{IsElement}
use Rattle.gf_basis.specs.BasisParts.{duals_of, elements_of}
use Rattle.cert_check.specs.private.Held.{dual_of, AreSquaresOf}
use Rattle.cert_check.specs.private.Squares.{AreMultiples, AreSquares}
use Rattle.cert_check.proofs.SquareLemmas.{dual_own, own_squares, word_added}
use Rattle.cert_check.proofs.squares.add_row.Goals as goal

pub input_basis-basis-requires-clause-word : goal.input_basis-basis-requires-clause-word
input_basis-basis-requires-clause-word g c =
    let P : Binding → Type 0 = λ b. c.args.row.now.word < length (words_of b.words (map duals_of c.args.bases.now)) in
    subst P (sym c.binding.ensures.binding) c.requires.row.known

pub input_basis-basis-requires-clause-long : goal.input_basis-basis-requires-clause-long
input_basis-basis-requires-clause-long g c = c.requires.bases.long ∙ ap (λ (b : Binding). length b.words) (sym c.binding.ensures.binding)

pub factor-requires-clause-over : goal.factor-requires-clause-over
factor-requires-clause-over g c = c.requires.bases.each c.input_basis-basis.result.now c.input_basis-basis.ensures.among

pub factor-requires-clause-long : goal.factor-requires-clause-long
factor-requires-clause-long g c = ap (λ (cs : List ℕ). length cs) c.as_slice-coefficients.ensures.value ∙ c.requires.row.long

pub factor-requires-clause-elements : goal.factor-requires-clause-elements
factor-requires-clause-elements g c =
    let k : ℕ = g.F.Ring.degree c.args.field.now in
    let P : List ℕ → Type 0 = λ cs. (i : ℕ) → i < k → IsElement k (slice_index cs i) in
    subst P (sym c.as_slice-coefficients.ensures.value) c.requires.row.elements

pub squares-requires-clause-over : goal.squares-requires-clause-over
squares-requires-clause-over g c = c.requires.bases.each c.input_basis-basis.result.now c.input_basis-basis.ensures.among

pub squares-requires-clause-long : goal.squares-requires-clause-long
squares-requires-clause-long g c = ap (λ (cs : List ℕ). length cs) c.as_slice-coefficients.ensures.value ∙ c.requires.row.long

pub squares-requires-clause-elements : goal.squares-requires-clause-elements
squares-requires-clause-elements g c =
    let k : ℕ = g.F.Ring.degree c.args.field.now in
    let P : List ℕ → Type 0 = λ cs. (i : ℕ) → i < k → IsElement k (slice_index cs i) in
    subst P (sym c.as_slice-coefficients.ensures.value) c.requires.row.elements

pub add_square-requires-clause-j : goal.add_square-requires-clause-j
add_square-requires-clause-j g c = let some = (g.met.F.Ring.laws c.args.field.now).some in omega (arith, some)

pub add_squares-requires-clause-long : goal.add_squares-requires-clause-long
add_squares-requires-clause-long g c = ap (λ (cs : List ℕ). length cs) c.deref.ensures.value ∙ c.in_ok-list-in-None.ensures.long

pub returns-in-Some : goal.returns-in-Some
returns-in-Some g c =
    let k : ℕ = g.F.Ring.degree c.args.field.now in
    let mul : ℕ → ℕ → ℕ = g.F.Ring.product c.args.field.now in
    let basis = c.input_basis-basis.result.now in
    let B : Binding → Type 0 = λ b. (x : Word) → slice_get (words_of b.words (map duals_of c.args.bases.now)) c.args.row.now.word ≡ Some x → x.basis ≡ duals_of basis in
    let own : (i : ℕ) → dual_of c.args.circuit.now c.args.bases.now c.args.row.now.word i ≡ slice_index (duals_of basis) i = dual_own c.args.circuit.now c.args.bases.now c.args.row.now.word basis c.requires.row.known (subst B c.binding.ensures.binding c.input_basis-basis.ensures.basis) in
    let M : List ℕ → Type 0 = AreMultiples k mul (elements_of basis) c.in-Some.c in
    record {
      poly = word_added (g.met.F.Ring.laws c.args.field.now) (g.met.F.Field.no_zero_divisors c.args.field.now) c.add_square.result basis (c.requires.bases.each basis c.input_basis-basis.ensures.among) c.args.circuit.now c.args.bases.now c.args.row.now c.in-Some.c c.args.poly.now.terms c.add_square.new.poly.terms
          c.requires.row (subst M c.as_slice-coefficients.ensures.value c.in-Some.ensures) own c.requires.poly c.add_square.ensures;
    }

pub add_squares-requires-clause-squares : goal.add_squares-requires-clause-squares
add_squares-requires-clause-squares g c =
    let k : ℕ = g.F.Ring.degree c.args.field.now in
    let mul : ℕ → ℕ → ℕ = g.F.Ring.product c.args.field.now in
    let dual : ℕ → ℕ → ℕ = dual_of c.args.circuit.now c.args.bases.now in
    let basis = c.input_basis-basis.result.now in
    let list : List ℕ = c.in_ok-list-in-None.list.items in
    let B : Binding → Type 0 = λ b. (x : Word) → slice_get (words_of b.words (map duals_of c.args.bases.now)) c.args.row.now.word ≡ Some x → x.basis ≡ duals_of basis in
    let own : (i : ℕ) → dual c.args.row.now.word i ≡ slice_index (duals_of basis) i = dual_own c.args.circuit.now c.args.bases.now c.args.row.now.word basis c.requires.row.known (subst B c.binding.ensures.binding c.input_basis-basis.ensures.basis) in
    let P : List ℕ → Type 0 = AreSquaresOf k mul dual c.args.row.now in
    let S : List ℕ → Type 0 = λ cs. AreSquares k mul (duals_of basis) cs k list in
    subst P (sym c.deref.ensures.value) (own_squares (g.met.F.Ring.laws c.args.field.now) (g.met.F.Field.no_zero_divisors c.args.field.now) (duals_of basis) c.args.row.now.coefficients.items list dual c.args.row.now.word (subst S c.as_slice-coefficients.ensures.value c.in_ok-list-in-None.ensures) own)
