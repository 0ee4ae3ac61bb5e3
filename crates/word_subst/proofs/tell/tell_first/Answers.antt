use Rattle.std.proofs.Common.{◌≡◌, ◌∙◌, ap, sym, subst, ℕ, ◌≤◌, ◌-◌, ◌*◌, List, ◌∷◌, get_or, arith}
use Rattle.std.proofs.lemmas.Result.{on_ok_weaker}
use Rattle.std.specs.List.Sorted.{IsStrictlySortedBy}
use Rattle.std.specs.Ordering.{nat_cmp}
use Rattle.gf_basis.specs.BasisParts.{elements_of}
use Rattle.poly_mixed.specs.Monomial.{Monomial}
use Rattle.poly_mixed.proofs.FieldLaws.{field_of}
use Rattle.word_subst.proofs.FirstBitLemmas.{made_rest, made_term, made_first, first_place, first_told}
use Rattle.word_subst.proofs.OneTermLemmas.{rank_low}
use Rattle.word_subst.proofs.RisingLemmas.{rest_is, drop_rises}
use Rattle.word_subst.proofs.tell.tell_first.Goals as goal

pub new-requires : goal.new-requires
new-requires g c =
    let P : List ℕ → Type 0 = IsStrictlySortedBy nat_cmp in
    let bits = c.bits-bits.result.now in
    let R : IsStrictlySortedBy nat_cmp bits = subst P (sym c.bits-bits.ensures.value) c.bits-bits.ensures.rising in
    subst P (sym (rest_is 1 bits)) (drop_rises 1 bits R)

pub term-requires : goal.term-requires
term-requires g c =
    let w : ℕ = c.args.word in
    let t : Monomial × ℕ = c.args.term.now in
    let bits : List ℕ = c.bits-bits.result.now in
    let f = field_of _ _ (g.met.F.Ring.laws c.args.field.now) (g.met.F.Field.no_zero_divisors c.args.field.now) in
    let bits_are : bits ≡ t.0.bits = c.bits-bits.ensures.value ∙ ap (λ (m : Monomial). m.bits) c.mono.ensures in
    let exponents_are : c.exponents.result.now ≡ t.0.exponents = c.exponents.ensures.value ∙ ap (λ (m : Monomial). m.exponents) c.mono-2.ensures in
    let others = made_rest f (elements_of c.args._basis.now) w t c.requires.term c.requires.some c.requires.first bits c.exponents.result.now c.in_ok-others.others bits_are exponents_are c.in_ok-others.ensures in
    made_term f (elements_of c.args._basis.now) w t c.requires.term c.requires.some c.requires.first c.in_ok-others.others c.coefficient.result others c.coefficient.ensures

pub overflow_sub-place : goal.overflow_sub-place
overflow_sub-place g c =
    let k : ℕ = g.F.Ring.degree c.args.field.now in
    let w : ℕ = c.args.word in
    let t : Monomial × ℕ = c.args.term.now in
    let bits : List ℕ = c.bits-bits.result.now in
    let f = field_of k (g.F.Ring.product c.args.field.now) (g.met.F.Ring.laws c.args.field.now) (g.met.F.Field.no_zero_divisors c.args.field.now) in
    let first = c.requires.first in
    let bits_are : bits ≡ t.0.bits = c.bits-bits.ensures.value ∙ ap (λ (m : Monomial). m.bits) c.mono.ensures in
    let low = first_place f (elements_of c.args._basis.now) w t c.requires.term c.requires.some first in
    let P : List ℕ → Type 0 = λ xs. c.k.result * w ≤ get_or xs 0 0 in
    let Q : ℕ → Type 0 = λ n. n * w ≤ first.rank in
    subst P (sym (bits_are ∙ first.bits)) (subst Q (sym c.k.ensures) low.0)

pub returns : goal.returns
returns g c =
    let k : ℕ = g.F.Ring.degree c.args.field.now in
    let mul : ℕ → ℕ → ℕ = g.F.Ring.product c.args.field.now in
    let w : ℕ = c.args.word in
    let t : Monomial × ℕ = c.args.term.now in
    let bits : List ℕ = c.bits-bits.result.now in
    let f = field_of k mul (g.met.F.Ring.laws c.args.field.now) (g.met.F.Field.no_zero_divisors c.args.field.now) in
    let bits_are : bits ≡ t.0.bits = c.bits-bits.ensures.value ∙ ap (λ (m : Monomial). m.bits) c.mono.ensures in
    let exponents_are : c.exponents.result.now ≡ t.0.exponents = c.exponents.ensures.value ∙ ap (λ (m : Monomial). m.exponents) c.mono-2.ensures in
    let others = made_rest f (elements_of c.args._basis.now) w t c.requires.term c.requires.some c.requires.first bits c.exponents.result.now c.in_ok-others.others bits_are exponents_are c.in_ok-others.ensures in
    let multiplier = made_first f (elements_of c.args._basis.now) w t c.requires.term c.requires.some c.requires.first c.in_ok-others.others c.coefficient.result c.in_ok-multiplier.multiplier.terms others c.coefficient.ensures c.in_ok-multiplier.ensures in
    let first_is : bits ≡ c.requires.first.rank ∷ c.requires.first.rest = bits_are ∙ c.requires.first.bits in
    let place_is : get_or bits 0 0 - c.k.result * w ≡ c.requires.first.rank - k * w = λ i. get_or (first_is i) 0 0 - c.k.ensures i * w in
    on_ok_weaker c.step.result (λ told. first_told f (elements_of c.args._basis.now) w t c.requires.term c.requires.some c.requires.first (get_or bits 0 0 - c.k.result * w) c.in_ok-multiplier.multiplier.terms (g.T.Steps.steps c.args.steps.now) (g.T.Steps.steps c.step.new.self) place_is multiplier told) c.step.ensures

pub overflow_mul-place : goal.overflow_mul-place
overflow_mul-place g c = omega (arith, rank_low (g.F.Ring.degree c.args.field.now) c.k.result c.args.word c.k.ensures (g.met.F.Ring.laws c.args.field.now).small c.requires.word)
