-- The term without bits beside the entries of terms with bits.
use Rattle.std.proofs.Common.{◌≡◌, ◌≢◌, ◌⊎◌, inl, inr, subst, ℕ, ◌+◌, ◌≤◌, ◌<◌, ◌==◌, true, false, cond, List, [], ◌∷◌, ◌++◌, map, reverse, length, bit_xor, refl, sym, ◌∙◌, ap, arith}
use lib.Bits.{xor_zero_l}
use Rattle.std.proofs.lemmas.Bool.{eqb-true, eqb-false, ne_eqb}
use Rattle.std.specs.declared.cmp.Ordering.TheVariants.{Less, Equal, Greater}
use Rattle.std.specs.Cmp.{ranked, tied_itself}
use Rattle.std.specs.List.{AllByRecursion}
use Rattle.std.specs.List.Sorted.{IsStrictlySortedBy}
use Rattle.std.specs.Map.{keys_of}
use Rattle.std.specs.Ordering.{nat_cmp, ordering_then, ordering_reverse, match_ordering}
use Rattle.poly_mixed.specs.Monomial.{text_cmp}
use Rattle.poly_mixed.specs.Polynomial.{Terms}
use Rattle.poly_mixed.specs.Cofactor.{LacksBit}
use Rattle.poly_mixed.specs.Sum.{with_coefficient, plus_term}
use Rattle.poly_mixed.proofs.TermLemmas.{all_plus_term}
use Rattle.rato_reduce.specs.private.CutKey.{CutKey, key_of, no_bits, key_cmp, key_cmp_total}
use Rattle.rato_reduce.specs.private.CutTerms.{of_bits, term_of, cut_polynomial, with_constant, IsEntry, AreEntries, AreBitEntries}
use Rattle.rato_reduce.proofs.CutLemmas.{entries_more, terms_more}
use Rattle.rato_reduce.proofs.CutSizeLemmas.{cut_size}
use Rattle.rato_reduce.proofs.CutBitLemmas.{least_first, entries_rest, all_before}

-- ---- the key of no bits stands before the others

before : (first hash : ℕ) → first ≤ 4294967295 → (x : ℕ) (xs : List ℕ) → key_cmp no_bits (record { first = first; hash = hash; bits = x ∷ xs }) ≡ Less
before first hash most x xs =
    elim (nat_cmp first 4294967295) as (λ r. nat_cmp first 4294967295 ≡ r → ordering_then r (ordering_then (nat_cmp 0 hash) Less) ≡ Less) [
      | Less ↦ λ e. refl
      | Equal ↦ λ e. elim (nat_cmp 0 hash) as (λ s. nat_cmp 0 hash ≡ s → ordering_then s Less ≡ Less) [
        | Less ↦ λ d. refl
        | Equal ↦ λ d. refl
        | Greater ↦ λ d. (let low : hash < 0 = ranked 0 hash Greater (sym d) in absurd (omega (arith, low)))
      ] refl
      | Greater ↦ λ e. (let high : 4294967295 < first = ranked first 4294967295 Greater (sym e) in absurd (omega (arith, high, most)))
    ] refl

pub before_bits : (places bits : List ℕ) → (length bits ≡ 0 → ⊥) → key_cmp no_bits (key_of places bits) ≡ Less
before_bits places [] some = absurd (some refl)
before_bits places (x ∷ xs) some = before (key_of places (x ∷ xs)).first (key_of places (x ∷ xs)).hash (least_first places 4294967295 (x ∷ xs)) x xs

behind : (e : CutKey × ℕ) → key_cmp no_bits e.0 ≡ Less → key_cmp e.0 no_bits ≡ Greater
behind e less = key_cmp_total.antisymm e.0 no_bits ∙ ap ordering_reverse less

-- ---- one term more

first_of : (c : ℕ) (es : List (CutKey × ℕ)) → AllByRecursion (λ e. key_cmp no_bits e.0 ≡ Less) es → plus_term key_cmp es (no_bits, c) ≡ (no_bits, c) ∷ es
first_of c [] all = refl
first_of c (e ∷ es) all = ap (λ r. match_ordering r ((no_bits, c) ∷ e ∷ es) (with_coefficient e.0 (bit_xor e.1 c) es) (e ∷ plus_term key_cmp es (no_bits, c))) all.0

pub constant_more : (k c : ℕ) (es : List (CutKey × ℕ)) → AllByRecursion (λ e. key_cmp no_bits e.0 ≡ Less) es → c ≢ 0 → with_constant (bit_xor k c) es ≡ plus_term key_cmp (with_constant k es) (no_bits, c)
constant_more k c es all some =
    elim (k == 0) as (λ b. (k == 0) ≡ b → with_constant (bit_xor k c) es ≡ plus_term key_cmp (cond b es ((no_bits, k) ∷ es)) (no_bits, c)) [
      | true ↦ λ e.
          ap (λ n. with_constant n es) (ap (λ n. bit_xor n c) (eqb-true k 0 e) ∙ xor_zero_l c)
          ∙ ap (λ b. cond b es ((no_bits, c) ∷ es)) (ne_eqb c 0 some)
          ∙ sym (first_of c es all)
      | false ↦ λ e. sym (ap (λ r. match_ordering r ((no_bits, c) ∷ (no_bits, k) ∷ es) (with_coefficient no_bits (bit_xor k c) es) ((no_bits, k) ∷ plus_term key_cmp es (no_bits, c))) (tied_itself key_cmp_total no_bits))
    ] refl

pub bits_more : (k : ℕ) (es : List (CutKey × ℕ)) (u : CutKey × ℕ) → key_cmp no_bits u.0 ≡ Less → with_constant k (plus_term key_cmp es u) ≡ plus_term key_cmp (with_constant k es) u
bits_more k es u less =
    elim (k == 0) as (λ b. cond b (plus_term key_cmp es u) ((no_bits, k) ∷ plus_term key_cmp es u) ≡ plus_term key_cmp (cond b es ((no_bits, k) ∷ es)) u) [
      | true ↦ refl
      | false ↦ sym (ap (λ r. match_ordering r (u ∷ (no_bits, k) ∷ es) (with_coefficient no_bits (bit_xor k u.1) es) ((no_bits, k) ∷ plus_term key_cmp es u)) (behind u less))
    ]

-- ---- what the entries keep

keys_behind : (es : List (CutKey × ℕ)) → AllByRecursion (λ e. key_cmp no_bits e.0 ≡ Less) es → AllByRecursion (λ y. key_cmp no_bits y ≡ Less) (keys_of es)
keys_behind [] all = tt
keys_behind (e ∷ es) all = (all.0, keys_behind es all.1)

pub no_bits_rise : IsStrictlySortedBy nat_cmp []
unfolding IsStrictlySortedBy
no_bits_rise = tt

pub constant_entry : (places : List ℕ) (c : ℕ) → c ≢ 0 → IsEntry places (no_bits, c)
constant_entry places c some = record { key = refl; rising = no_bits_rise; some = some }

pub constant_entries : (places : List ℕ) (k : ℕ) (es : List (CutKey × ℕ)) → AreBitEntries places es → AreEntries places (with_constant k es)
unfolding IsStrictlySortedBy
constant_entries places k es are =
    elim (k == 0) as (λ b. (k == 0) ≡ b → AreEntries places (cond b es ((no_bits, k) ∷ es))) [
      | true ↦ λ e. are.are
      | false ↦ λ e. record { sorted = (keys_behind es are.bits, are.are.sorted); each = (constant_entry places k (eqb-false k 0 e), are.are.each) }
    ] refl

pub bit_entries_more : (places : List ℕ) (es : List (CutKey × ℕ)) (e : CutKey × ℕ) → AreBitEntries places es → IsEntry places e → key_cmp no_bits e.0 ≡ Less → AreBitEntries places (plus_term key_cmp es e)
bit_entries_more places es e are is less = record { are = entries_more places es e are.are is; bits = all_plus_term key_cmp (λ t. key_cmp no_bits t.0 ≡ Less) e (λ t p n. p) es are.bits less }

pub bit_entries_rest : (places : List ℕ) (e : CutKey × ℕ) (es : List (CutKey × ℕ)) → AreBitEntries places (es ++ e ∷ []) → AreBitEntries places es
bit_entries_rest places e es are = record { are = entries_rest places e es are.are; bits = all_before (λ t. key_cmp no_bits t.0 ≡ Less) es e are.bits }

pub no_entries : (places : List ℕ) → AreBitEntries places []
unfolding IsStrictlySortedBy
no_entries places = record { are = record { sorted = tt; each = tt }; bits = tt }

-- ---- the polynomial

pub constant_terms_more : (places : List ℕ) (k c : ℕ) (es : List (CutKey × ℕ)) → AreBitEntries places es → c ≢ 0
    → (cut_polynomial (with_constant (bit_xor k c) es)).terms ≡ plus_term text_cmp (cut_polynomial (with_constant k es)).terms (of_bits [], c)
constant_terms_more places k c es are some =
    ap (λ xs. (cut_polynomial xs).terms) (constant_more k c es are.bits some) ∙ terms_more places (with_constant k es) (no_bits, c) (constant_entries places k es are) (constant_entry places c some)

pub bit_terms_more : (places : List ℕ) (k : ℕ) (es : List (CutKey × ℕ)) (e : CutKey × ℕ) → AreBitEntries places es → IsEntry places e → key_cmp no_bits e.0 ≡ Less
    → (cut_polynomial (with_constant k (plus_term key_cmp es e))).terms ≡ plus_term text_cmp (cut_polynomial (with_constant k es)).terms (term_of e)
bit_terms_more places k es e are is less =
    ap (λ xs. (cut_polynomial xs).terms) (bits_more k es e less) ∙ terms_more places (with_constant k es) e (constant_entries places k es are) is

pub constant_size : (places : List ℕ) (k : ℕ) (es : List (CutKey × ℕ)) → AreBitEntries places es → length (cut_polynomial (with_constant k es)).terms ≡ cond (k == 0) (length es) (length es + 1)
constant_size places k es are =
    cut_size places (with_constant k es) (constant_entries places k es are)
    ∙ elim (k == 0) as (λ b. length (cond b es ((no_bits, k) ∷ es)) ≡ cond b (length es) (length es + 1)) [ true ↦ refl | false ↦ omega arith ]

pub constant_taken : (k : ℕ) (old new : List (CutKey × ℕ)) (taken : Terms) → map term_of old ≡ map term_of new ++ reverse taken → map term_of (with_constant k old) ≡ map term_of (with_constant k new) ++ reverse taken
constant_taken k old new taken all = elim (k == 0) as (λ b. map term_of (cond b old ((no_bits, k) ∷ old)) ≡ map term_of (cond b new ((no_bits, k) ∷ new)) ++ reverse taken) [
  | true ↦ all
  | false ↦ ap (λ ts. (of_bits [], k) ∷ ts) all
]

pub constant_lacks : (k rank : ℕ) (es : List (CutKey × ℕ)) → LacksBit rank (map term_of es) → LacksBit rank (map term_of (with_constant k es))
constant_lacks k rank es lacks = elim (k == 0) as (λ b. LacksBit rank (map term_of (cond b es ((no_bits, k) ∷ es)))) [ true ↦ lacks | false ↦ (refl, lacks) ]

-- after running out of memory the entries are as they were, or there are none
pub kept_entries : (places : List ℕ) (old new : List (CutKey × ℕ)) → AreBitEntries places old → (new ≡ old) ⊎ (new ≡ []) → AreBitEntries places new
kept_entries places old new are (inl same) = let P : List (CutKey × ℕ) → Type 0 = AreBitEntries places in subst P (sym same) are
kept_entries places old new are (inr none) = let P : List (CutKey × ℕ) → Type 0 = AreBitEntries places in subst P (sym none) (no_entries places)
