-- The terms of a cut, in the order of their keys and in that of a text.
use Rattle.std.proofs.Common.{◌≡◌, ◌≢◌, ℕ, List, [], ◌∷◌, map, bit_xor, refl, sym, ◌∙◌, ap}
use lib.Bits.{xor_zero_l}
use Rattle.std.specs.declared.cmp.Ordering.TheVariants.{Equal}
use Rattle.std.specs.Cmp.Lexicographic.{slice_cmp}
use Rattle.std.specs.FinMap.{nat_cmp-IsAntisymmetric, slice_cmp-IsAntisymmetric}
use Rattle.std.specs.List.{AllByRecursion}
use Rattle.std.specs.List.Sorted.{IsStrictlySortedBy}
use Rattle.std.specs.Ordering.{nat_cmp, ordering_then}
use Rattle.lists.specs.laws.OrderingLaws.{both_equal}
use Rattle.poly_mixed.specs.Monomial.{Monomial, text_cmp, text_cmp_total}
use Rattle.poly_mixed.specs.Polynomial.{Terms, IsMap, coefficient}
use Rattle.poly_mixed.specs.Sum.{xor_sum, plus_term, plus}
use Rattle.poly_mixed.proofs.MonomialLemmas.{text_cmp-same}
use Rattle.poly_mixed.proofs.SumLemmas.{IsAdditive, at, at_additive, found_is_sum, sorted-plus, sorted-plus_term, all_plus, xor_sum-plus, xor_sum-plus_term}
use Rattle.poly_mixed.proofs.TermLemmas.{all_plus_term}
use Rattle.poly_mixed.proofs.ValueLemmas.{map_plus, one_map, same_map}
use Rattle.rato_reduce.specs.private.CutKey.{CutKey, key_cmp, key_cmp_total}
use Rattle.rato_reduce.specs.private.CutTerms.{of_bits, IsBitTerm, term_of, cut_polynomial, IsEntry, AreEntries}

-- ---- keys

-- keys that the order does not tell apart are one
pub key_cmp-same : (x y : CutKey) → key_cmp x y ≡ Equal → x ≡ y
key_cmp-same x y e =
    let outer = both_equal (nat_cmp y.first x.first) (ordering_then (nat_cmp x.hash y.hash) (slice_cmp nat_cmp x.bits y.bits)) e in
    let inner = both_equal (nat_cmp x.hash y.hash) (slice_cmp nat_cmp x.bits y.bits) outer.1 in
    let first : x.first ≡ y.first = sym (nat_cmp-IsAntisymmetric y.first x.first outer.0) in
    let hash : x.hash ≡ y.hash = nat_cmp-IsAntisymmetric x.hash y.hash inner.0 in
    let bits : x.bits ≡ y.bits = slice_cmp-IsAntisymmetric nat_cmp-IsAntisymmetric x.bits y.bits inner.1 in
    λ i. record { first = first i; hash = hash i; bits = bits i }

-- ---- the sum over entries is that over their terms

pub all_unit : {A : Type 0} (xs : List A) → AllByRecursion (λ _. Unit {0}) xs
all_unit [] = tt
all_unit (x ∷ xs) = (tt, all_unit xs)

sum_map : (f : Monomial × ℕ → ℕ) (es : List (CutKey × ℕ)) → xor_sum f (map term_of es) ≡ xor_sum (λ e. f (term_of e)) es
sum_map f [] = refl
sum_map f (e ∷ es) = ap (bit_xor (f (term_of e))) (sum_map f es)

-- the coefficient of a monomial in the sum of these terms
pub coefficient_sum : (ts : Terms) (q : Monomial) → coefficient (plus text_cmp [] ts) q ≡ xor_sum (at text_cmp q) ts
unfolding IsStrictlySortedBy
coefficient_sum ts q =
    found_is_sum text_cmp text_cmp_total (plus text_cmp [] ts) q (sorted-plus text_cmp text_cmp_total [] ts tt)
    ∙ xor_sum-plus text_cmp text_cmp-same (λ _. Unit {0}) (at text_cmp q) (at_additive text_cmp q) (λ x y _ _. tt) [] ts tt (all_unit ts)
    ∙ xor_zero_l (xor_sum (at text_cmp q) ts)

pub all_rising : (us : Terms) → AllByRecursion IsBitTerm us → AllByRecursion (λ t. IsStrictlySortedBy nat_cmp t.0.bits) us
all_rising [] all = tt
all_rising (u ∷ us) all = (all.0.rising, all_rising us all.1)

pub all_some : (us : Terms) → AllByRecursion IsBitTerm us → AllByRecursion (λ t. t.1 ≢ 0) us
all_some [] all = tt
all_some (u ∷ us) all = (all.0.some, all_some us all.1)

-- terms without words, of rising bits and coefficients that are not 0, add up to a map
pub sum_map_is : (old us : Terms) → IsMap old → AllByRecursion IsBitTerm us → IsMap (plus text_cmp old us)
sum_map_is old us r all = record {
  sorted = sorted-plus text_cmp text_cmp_total old us r.sorted;
  rising = all_plus text_cmp (λ t. IsStrictlySortedBy nat_cmp t.0.bits) (λ t u h k n. h) old us r.rising (all_rising us all);
  nonzero = all_plus text_cmp (λ t. t.1 ≢ 0) (λ t u h k n. n) old us r.nonzero (all_some us all);
}

pub nothing_map : IsMap []
unfolding IsStrictlySortedBy
nothing_map = record { sorted = tt; rising = tt; nonzero = tt }

-- the terms of entries
pub entry_terms : (places : List ℕ) (es : List (CutKey × ℕ)) → AllByRecursion (IsEntry places) es → AllByRecursion IsBitTerm (map term_of es)
entry_terms places [] all = tt
entry_terms places (e ∷ es) all = (record { no_words = refl; rising = all.0.rising; some = all.0.some }, entry_terms places es all.1)

pub cut_is_map : (places : List ℕ) (es : List (CutKey × ℕ)) → AllByRecursion (IsEntry places) es → IsMap (cut_polynomial es).terms
cut_is_map places es all = sum_map_is [] (map term_of es) nothing_map (entry_terms places es all)

-- ---- one more entry is one more term

at_additive_entries : (q : Monomial) → IsAdditive (λ _. Unit {0}) (λ e. at text_cmp q (term_of e))
at_additive_entries q = record { sums = λ k c d _ _. (at_additive text_cmp q).sums (of_bits k.bits) c d tt tt; none = λ k. (at_additive text_cmp q).none (of_bits k.bits) }

entry_joins : (places : List ℕ) (u : CutKey × ℕ) (t : CutKey × ℕ) → IsEntry places t → bit_xor t.1 u.1 ≢ 0 → IsEntry places (t.0, bit_xor t.1 u.1)
entry_joins places u t is n = record { key = is.key; rising = is.rising; some = n }

pub entries_more : (places : List ℕ) (es : List (CutKey × ℕ)) (e : CutKey × ℕ) → AreEntries places es → IsEntry places e → AreEntries places (plus_term key_cmp es e)
entries_more places es e are is = record {
  sorted = sorted-plus_term key_cmp key_cmp_total es e are.sorted;
  each = all_plus_term key_cmp (IsEntry places) e (λ t p n. entry_joins places e t p n) es are.each is;
}

pub terms_more : (places : List ℕ) (es : List (CutKey × ℕ)) (e : CutKey × ℕ) → AreEntries places es → IsEntry places e
    → (cut_polynomial (plus_term key_cmp es e)).terms ≡ plus_term text_cmp (cut_polynomial es).terms (term_of e)
terms_more places es e are is =
    let more = plus_term key_cmp es e in
    let old = (cut_polynomial es).terms in
    let one : IsMap (term_of e ∷ []) = one_map (of_bits e.0.bits) e.1 is.rising is.some in
    let old_map = cut_is_map places es are.each in
    same_map (cut_polynomial more).terms (plus_term text_cmp old (term_of e)) (cut_is_map places more (entries_more places es e are is).each) (map_plus old (term_of e ∷ []) old_map one)
    (λ q.
    coefficient_sum (map term_of more) q
    ∙ sum_map (at text_cmp q) more
    ∙ xor_sum-plus_term key_cmp key_cmp-same (λ _. Unit {0}) (λ u. at text_cmp q (term_of u)) (at_additive_entries q) es e (all_unit es) tt
    ∙ ap (bit_xor (at text_cmp q (term_of e))) (sym (sum_map (at text_cmp q) es) ∙ sym (coefficient_sum (map term_of es) q) ∙ found_is_sum text_cmp text_cmp_total old q old_map.sorted)
    ∙ sym (xor_sum-plus_term text_cmp text_cmp-same (λ _. Unit {0}) (at text_cmp q) (at_additive text_cmp q) old (term_of e) (all_unit old) tt)
    ∙ sym (found_is_sum text_cmp text_cmp_total (plus_term text_cmp old (term_of e)) q (map_plus old (term_of e ∷ []) old_map one).sorted))
