-- Different keys have different terms: the size of a cut, and what holds of each of its terms.
use Rattle.std.proofs.Common.{◌≡◌, ◌≢◌, ℕ, suc, ◌+◌, List, [], ◌∷◌, map, length, bit_xor, refl, sym, ◌∙◌, ap, subst, arith}
use Rattle.std.proofs.lemmas.List.{length-map}
use Rattle.std.specs.declared.cmp.Ordering.TheVariants.{Less, Equal, Greater}
use Rattle.std.specs.Cmp.{tied_itself}
use Rattle.std.specs.List.{AllByRecursion}
use Rattle.std.specs.List.Sorted.{IsStrictlySortedBy}
use Rattle.std.specs.Map.{keys_of}
use Rattle.std.specs.Ordering.{match_ordering}
use Rattle.poly_mixed.specs.Monomial.{Monomial, text_cmp}
use Rattle.poly_mixed.specs.Polynomial.{Terms}
use Rattle.poly_mixed.specs.Sum.{with_coefficient, plus_term, plus}
use Rattle.poly_mixed.proofs.MonomialLemmas.{text_cmp-same}
use Rattle.poly_mixed.proofs.TermLemmas.{all_plus_term}
use Rattle.rato_reduce.specs.private.CutKey.{CutKey, key_of, key_cmp, key_cmp_total}
use Rattle.rato_reduce.specs.private.CutTerms.{of_bits, term_of, cut_polynomial, IsEntry, AreEntries}

abbrev IsApart : Monomial → Terms → Type 0
IsApart m ts = AllByRecursion (λ t. text_cmp m t.0 ≢ Equal) ts

abbrev pub AreApart : Terms → Type 0
AreApart [] = Unit {0}
AreApart (u ∷ us) = AllByRecursion (λ v. text_cmp v.0 u.0 ≢ Equal) us × AreApart us

abbrev AreNew : Terms → Terms → Type 0
AreNew ts us = AllByRecursion (λ u. IsApart u.0 ts) us

new_to_nothing : (us : Terms) → AreNew [] us
new_to_nothing [] = tt
new_to_nothing (u ∷ us) = (tt, new_to_nothing us)

still_new : (ts us : Terms) (u : Monomial × ℕ) → AreNew ts us → AllByRecursion (λ v. text_cmp v.0 u.0 ≢ Equal) us → AreNew (plus_term text_cmp ts u) us
still_new ts [] u new apart = tt
still_new ts (v ∷ us) u new apart = (all_plus_term text_cmp (λ t. text_cmp v.0 t.0 ≢ Equal) u (λ t p n. p) ts new.0 apart.0, still_new ts us u new.1 apart.1)

length_one_more : (ts : Terms) (u : Monomial × ℕ) → IsApart u.0 ts → length (plus_term text_cmp ts u) ≡ suc (length ts)
length_one_more [] u apart = refl
length_one_more (t ∷ ts) u apart =
    elim (text_cmp u.0 t.0) as (λ r. text_cmp u.0 t.0 ≡ r → length (match_ordering r (u ∷ t ∷ ts) (with_coefficient t.0 (bit_xor t.1 u.1) ts) (t ∷ plus_term text_cmp ts u)) ≡ suc (length (t ∷ ts))) [
      | Less ↦ λ e. refl
      | Equal ↦ λ e. absurd (apart.0 e)
      | Greater ↦ λ e. ap suc (length_one_more ts u apart.1)
    ] refl

length_more : (ts us : Terms) → AreNew ts us → AreApart us → length (plus text_cmp ts us) ≡ length ts + length us
length_more ts [] new apart = omega arith
length_more ts (u ∷ us) new apart =
    let rest = length_more (plus_term text_cmp ts u) us (still_new ts us u new.1 apart.0) apart.1 in
    let one = length_one_more ts u new.0 in
    omega arith

back_one : (P : Monomial × ℕ → Type 0) (ts : Terms) (u : Monomial × ℕ) → IsApart u.0 ts → AllByRecursion P (plus_term text_cmp ts u) → P u × AllByRecursion P ts
back_one P [] u apart all = all
back_one P (t ∷ ts) u apart all =
    elim (text_cmp u.0 t.0) as (λ r. text_cmp u.0 t.0 ≡ r → AllByRecursion P (match_ordering r (u ∷ t ∷ ts) (with_coefficient t.0 (bit_xor t.1 u.1) ts) (t ∷ plus_term text_cmp ts u)) → P u × AllByRecursion P (t ∷ ts)) [
      | Less ↦ λ e h. h
      | Equal ↦ λ e h. absurd (apart.0 e)
      | Greater ↦ λ e h. let rest = back_one P ts u apart.1 h.1 in (rest.0, (h.0, rest.1))
    ] refl all

back : (P : Monomial × ℕ → Type 0) (ts us : Terms) → AreNew ts us → AreApart us → AllByRecursion P (plus text_cmp ts us) → AllByRecursion P ts × AllByRecursion P us
back P ts [] new apart all = (all, tt)
back P ts (u ∷ us) new apart all =
    let rest = back P (plus_term text_cmp ts u) us (still_new ts us u new.1 apart.0) apart.1 all in
    let one = back_one P ts u new.0 rest.0 in
    (one.1, (one.0, rest.1))

-- what holds of the terms of a sum of different terms holds of those
pub all_back : (P : Monomial × ℕ → Type 0) (us : Terms) → AreApart us → AllByRecursion P (plus text_cmp [] us) → AllByRecursion P us
all_back P us apart all = (back P [] us (new_to_nothing us) apart all).1

-- ---- entries

same_bits : (places : List ℕ) (e f : CutKey × ℕ) → IsEntry places e → IsEntry places f → key_cmp e.0 f.0 ≡ Less → text_cmp (of_bits f.0.bits) (of_bits e.0.bits) ≡ Equal → ⊥
same_bits places e f is_e is_f less tie =
    let bits : f.0.bits ≡ e.0.bits = ap (λ (m : Monomial). m.bits) (text_cmp-same (of_bits f.0.bits) (of_bits e.0.bits) tie) in
    let keys : e.0 ≡ f.0 = is_e.key ∙ ap (key_of places) (sym bits) ∙ sym is_f.key in
    let P : CutKey → Type 0 = λ k. key_cmp e.0 k ≡ Equal in
    let equal : key_cmp e.0 f.0 ≡ Equal = subst P keys (tied_itself key_cmp_total e.0) in
    let bad : Less ≡ Equal = sym less ∙ equal in cc

apart_from : (places : List ℕ) (e : CutKey × ℕ) (es : List (CutKey × ℕ)) → IsEntry places e → AllByRecursion (IsEntry places) es → AllByRecursion (λ y. key_cmp e.0 y ≡ Less) (keys_of es)
    → AllByRecursion (λ v. text_cmp v.0 (term_of e).0 ≢ Equal) (map term_of es)
apart_from places e [] is each less = tt
apart_from places e (f ∷ es) is each less = (same_bits places e f is each.0 less.0, apart_from places e es is each.1 less.1)

pub entries_apart : (places : List ℕ) (es : List (CutKey × ℕ)) → AreEntries places es → AreApart (map term_of es)
unfolding IsStrictlySortedBy
entries_apart places [] are = tt
entries_apart places (e ∷ es) are = (apart_from places e es are.each.0 are.each.1 are.sorted.0, entries_apart places es (record { sorted = are.sorted.1; each = are.each.1 }))

-- a cut has as many terms as entries
pub cut_size : (places : List ℕ) (es : List (CutKey × ℕ)) → AreEntries places es → length (cut_polynomial es).terms ≡ length es
cut_size places es are =
    let sum = length_more [] (map term_of es) (new_to_nothing (map term_of es)) (entries_apart places es are) in
    let same = length-map es term_of in
    let none : length {A = Monomial × ℕ} [] ≡ 0 = refl in
    omega arith
