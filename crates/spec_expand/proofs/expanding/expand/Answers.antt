use Rattle.std.proofs.Common.{◌≡◌, ◌∙◌, ap, sym, subst, ℕ, List, length, map, arith}
use Rattle.lists.specs.laws.ListLaws.{length_map}
use Rattle.poly_mixed.specs.declared.poly.Poly.{Poly}
use Rattle.circuit_model.specs.Circuit.{Circuit}
use Rattle.circuit_model.specs.Bases.{circuit_in}
use Rattle.spec_expand.specs.Specification.{IsOverWords}
use Rattle.spec_expand.specs.private.Expanding.{AreWordsInBits}
use Rattle.spec_expand.proofs.BasisLemmas.{is_well_formed}
use Rattle.spec_expand.proofs.expanding.expand.Goals as goal

pub expand_over-requires-clause-well : goal.expand_over-requires-clause-well
expand_over-requires-clause-well g c =
    let k : ℕ = g.F.Ring.degree c.args.field.now in
    let mul : ℕ → ℕ → ℕ = g.F.Ring.product c.args.field.now in
    is_well_formed k mul c.args.circuit.now c.args.bases.now c.requires.bases (g.met.F.Ring.laws c.args.field.now) (g.met.F.Field.no_zero_divisors c.args.field.now) c.binding.ensures.sound c.binding.ensures.is_bound c.requires.k

pub expand_over-requires-clause-spec : goal.expand_over-requires-clause-spec
expand_over-requires-clause-spec g c =
    let k : ℕ = g.F.Ring.degree c.args.field.now in
    let items = c.in_ok-words.words.items in
    let many : length items ≡ length (circuit_in k (g.F.Ring.product c.args.field.now) c.args.circuit.now c.args.bases.now).words = sym (length_map (λ q. q.terms) items) ∙ c.in_ok-words.ensures.long in
    let P : ℕ → Type 0 = λ n. IsOverWords k n c.args.spec.now in
    let all : IsOverWords k (length items) c.args.spec.now = subst P (sym many) c.requires.spec in
    let Q : List Poly → Type 0 = λ ps. IsOverWords k (length ps) c.args.spec.now in
    subst Q (sym c.deref-2.ensures.value) all

pub expand_over-requires-clause-words : goal.expand_over-requires-clause-words
expand_over-requires-clause-words g c =
    let k : ℕ = g.F.Ring.degree c.args.field.now in
    let mul : ℕ → ℕ → ℕ = g.F.Ring.product c.args.field.now in
    let circuit : Circuit = circuit_in k mul c.args.circuit.now c.args.bases.now in
    let Q : List Poly → Type 0 = λ ps. AreWordsInBits circuit (map (λ q. q.terms) ps) in
    subst Q (sym c.deref-2.ensures.value) c.in_ok-words.ensures
