use Rattle.std.proofs.Common.{◌≡◌, ◌∙◌, ap, sym, subst, ℕ, List, [], not}
use Rattle.std.specs.List.{filter}
use Rattle.std.specs.List.Sorted.{IsStrictlySortedBy}
use Rattle.std.specs.Ordering.{nat_cmp}
use Rattle.gf_basis.specs.BasisParts.{elements_of}
use Rattle.poly_mixed.specs.Monomial.{Monomial}
use Rattle.poly_mixed.specs.Sum.{with_coefficient}
use Rattle.poly_mixed.proofs.FieldLaws.{field_of}
use Rattle.poly_mixed.proofs.CofactorLemmas.{rising-filter}
use Rattle.stage_model.specs.WordStage.{is_of_word}
use Rattle.stage_model.proofs.WordPolyLemmas.{rest_is, product_first}
use Rattle.plain_runs.proofs.word_part.other_part.Goals as goal

pub new-requires : goal.new-requires
new-requires g c =
    let k : ℕ = g.F.Ring.degree c.args.field.now in
    let ys : List ℕ = c.args.term.now.0.bits in
    let is : c.deref.result.now ≡ filter (λ r. not (is_of_word k c.args.word r)) ys =
    c.deref.ensures.value ∙ rest_is c.k.result k c.args.word c.bits.result.now ys c.in_ok-rest.rest.items c.in_ok-rest.ensures c.k.ensures (c.bits.ensures.value ∙ ap (λ (m : Monomial). m.bits) c.mono.ensures) in
    let P : List ℕ → Type 0 = IsStrictlySortedBy nat_cmp in
    subst P (sym is) (rising-filter (λ r. not (is_of_word k c.args.word r)) ys c.requires.term.monomial.rising)

pub returns : goal.returns
returns g c =
    let k : ℕ = g.F.Ring.degree c.args.field.now in
    let mul : ℕ → ℕ → ℕ = g.F.Ring.product c.args.field.now in
    let t : Monomial × ℕ = c.args.term.now in
    let ys : List ℕ = t.0.bits in
    let is : c.deref.result.now ≡ filter (λ r. not (is_of_word k c.args.word r)) ys =
    c.deref.ensures.value ∙ rest_is c.k.result k c.args.word c.bits.result.now ys c.in_ok-rest.rest.items c.in_ok-rest.ensures c.k.ensures (c.bits.ensures.value ∙ ap (λ (m : Monomial). m.bits) c.mono.ensures) in
    let exps : c.exponents.result.now ≡ t.0.exponents = c.exponents.ensures.value ∙ ap (λ (m : Monomial). m.exponents) c.mono-2.ensures in
    let made : c.in_ok-mono.mono ≡ record { exponents = t.0.exponents; bits = filter (λ r. not (is_of_word k c.args.word r)) ys } = c.in_ok-mono.ensures ∙ (λ i. record { exponents = exps i; bits = is i }) in
    product_first (field_of k mul (g.met.F.Ring.laws c.args.field.now) (g.met.F.Field.no_zero_divisors c.args.field.now)) (elements_of c.args.basis.now) c.args.word t c.requires.term c.in_ok-mono.mono c.in_ok-poly.poly.terms made
    (c.in_ok-poly.ensures ∙ ap (λ x. with_coefficient c.in_ok-mono.mono x []) c.coefficient.ensures)
