-- Lemmas that several crates above cite.
use Rattle.std.proofs.Common.{◌≡◌, true, false, ℕ, ◌+◌, ◌*◌, ◌≤◌, ◌==◌, Bool, cond, length, bit_xor, List, [], ◌∷◌, map, refl, ap, zero, suc, drop, sym, subst, ◌<◌, ◌^◌, arith}
use Rattle.std.specs.declared.cmp.Ordering.TheVariants.{Less, Equal, Greater}
use Rattle.std.specs.Ordering.{eq_by_cmp, match_ordering}
use Rattle.std.specs.Prelude.{slice_index}
use Rattle.std.proofs.lemmas.Option.{get_or_from_slice_get}
use Rattle.lists.specs.laws.HasLaws.{all_in}
use Rattle.lists.specs.laws.OrderingLaws.{is_equal}
use Rattle.lists.specs.laws.ReadLaws.{get_below}
use Rattle.gf_field.specs.Field.{HasNoZeroDivisors}
use Rattle.gf_field.specs.Ring.{IsRing}
use Rattle.gf_field.specs.Trace.{frobenius}
use Rattle.gf_field.specs.laws.TraceLaws.{frobenius-power}
use Rattle.poly_mixed.proofs.FieldLaws.{field_of}
use Rattle.poly_mixed.proofs.MonomialLemmas.{text_cmp-same}
use Rattle.poly_mixed.proofs.ValueLemmas.{power_element}
use Rattle.poly_mixed.specs.Monomial.{Monomial, text_cmp}
use Rattle.poly_mixed.specs.Polynomial.{Terms, Point, IsPoint, IsElement}
use Rattle.poly_mixed.specs.Sum.{with_coefficient, plus_term, plus}
use Rattle.poly_mixed.specs.Table.{index}
use Rattle.poly_mixed.specs.laws.Uniqueness.{IsZeros}

pub same_monomial : (m n : Monomial) → eq_by_cmp text_cmp m n ≡ true → m ≡ n
same_monomial m n e = text_cmp-same m n (is_equal (text_cmp m n) e)

pub index_map : (bit : ℕ → Bool) (rank : ℕ → ℕ) (ns : List ℕ) → index bit (map rank ns) ≡ index (λ n. bit (rank n)) ns
index_map bit rank [] = refl
index_map bit rank (n ∷ ns) = ap (λ i. cond (bit (rank n)) 1 0 + 2 * i) (index_map bit rank ns)

pub none_later : (n : ℕ) (es : List ℕ) → IsZeros es → IsZeros (drop n es)
none_later zero es none = none
none_later (suc n) [] none = tt
none_later (suc n) (e ∷ es) none = none_later n es none.1

pub element_in : (k : ℕ) (p : Point) (w : ℕ) → IsPoint k p → w < 8 → slice_index p.words w < 2 ^ k
element_in k p w at less =
    let found = get_below p.words w (omega (arith, less, at.words)) in
    let P : ℕ → Type 0 = λ x. x < 2 ^ k in
    subst P (sym (get_or_from_slice_get p.words w found.0 0 found.1)) (all_in (IsElement k) p.words found.0 at.elements (w, found.1))

pub frobenius_in : (k : ℕ) (mul : ℕ → ℕ → ℕ) (j a : ℕ) → IsRing k mul → HasNoZeroDivisors k mul → a < 2 ^ k → frobenius mul j a < 2 ^ k
frobenius_in k mul j a ring field less =
    let P : ℕ → Type 0 = λ x. x < 2 ^ k in
    subst P (sym (frobenius-power k mul ring j a less)) (power_element (field_of k mul ring field) a (2 ^ j) less)

-- a sum has no more terms than both have
pub plus_term_few : (ts : Terms) (u : Monomial × ℕ) → length (plus_term text_cmp ts u) ≤ suc (length ts)
plus_term_few [] u = omega arith
plus_term_few (t ∷ ts) u =
    elim (text_cmp u.0 t.0) as (λ r. length (match_ordering r (u ∷ t ∷ ts) (with_coefficient t.0 (bit_xor t.1 u.1) ts) (t ∷ plus_term text_cmp ts u)) ≤ suc (suc (length ts))) [
      | Less ↦ omega arith
      | Equal ↦ elim (bit_xor t.1 u.1 == 0) as (λ b. length (cond b ts ((t.0, bit_xor t.1 u.1) ∷ ts)) ≤ suc (suc (length ts))) [ true ↦ omega arith | false ↦ omega arith ]
      | Greater ↦ omega (arith, plus_term_few ts u)
    ]

pub plus_few : (ts us : Terms) → length (plus text_cmp ts us) ≤ length ts + length us
plus_few ts [] = omega arith
plus_few ts (u ∷ us) = omega (arith, plus_few (plus_term text_cmp ts u) us, plus_term_few ts u)
