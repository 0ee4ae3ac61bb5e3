-- Terms that wait to be added to a polynomial.
use Rattle.std.proofs.Common.{◌≡◌, ◌≢◌, ◌∙◌, ap, sym, refl, subst, ℕ, zero, suc, ◌≤◌, ◌+◌, ◌==◌, Bool, true, false, not, cond, [], ◌∷◌, ◌++◌, length, bit_xor, Some, arith}
use Rattle.std.specs.Prelude.{slice_get, slice_set}
use lib.Bits.{xor_zero_l, xor_zero_r, xor_assoc, xor_comm}
use Rattle.std.proofs.lemmas.Bool.{eqb-true, eqb-false}
use Rattle.std.proofs.lemmas.List.{nil_from_length}
use Rattle.std.specs.List.{AllByRecursion}
use Rattle.std.specs.List.Sorted.{IsStrictlySortedBy}
use Rattle.std.specs.Ordering.{nat_cmp}
use Rattle.lists.specs.laws.OptionLaws.{same_some}
use Rattle.lists.specs.laws.XorLaws.{xor_swap}
use Rattle.poly_mixed.specs.Monomial.{Monomial, text_cmp, text_cmp_total}
use Rattle.poly_mixed.specs.Polynomial.{Terms, IsMap, coefficient}
use Rattle.poly_mixed.specs.Sum.{plus, plus_term, xor_sum}
use Rattle.poly_mixed.proofs.MonomialLemmas.{text_cmp-same}
use Rattle.poly_mixed.proofs.SharedLemmas.{plus_few}
use Rattle.poly_mixed.proofs.SumLemmas.{IsAdditive, at, at_additive, found_is_sum, sorted-plus, all_plus, xor_sum-plus}
use Rattle.poly_mixed.proofs.ValueLemmas.{map_plus, one_map, same_map}
use Rattle.cert_check.specs.private.Waiting.{share_in, nonzero_of, AddsAt, GrowsByTerm, HasMonomialAt, HaveRisingRanks, HaveSameSum}
use Rattle.cert_check.proofs.PartLemmas.{all_got, all_put}

-- ---- one term more

module _ (f : Monomial × ℕ → ℕ) (add : IsAdditive (λ _. Unit {0}) f) where
  -- where a coefficient grows
  grown_sum : (ts : Terms) (i c : ℕ) (t : Monomial × ℕ) → slice_get ts i ≡ Some t → xor_sum f (slice_set ts i (t.0, bit_xor t.1 c)) ≡ bit_xor (f (t.0, c)) (xor_sum f ts)
  grown_sum [] i c t got = absurd (cc)
  grown_sum (u ∷ us) zero c t got =
      ap (λ n. bit_xor n (xor_sum f us)) (add.sums t.0 t.1 c tt tt ∙ xor_comm (f t) (f (t.0, c)))
      ∙ (xor_assoc (f (t.0, c)) (f t) (xor_sum f us)
      ∙ ap (λ (x : Monomial × ℕ). bit_xor (f (t.0, c)) (bit_xor (f x) (xor_sum f us))) (sym (same_some u t got)))
  grown_sum (u ∷ us) (suc i) c t got = ap (bit_xor (f u)) (grown_sum us i c t got) ∙ xor_swap (f u) (f (t.0, c)) (xor_sum f us)

  -- where a term comes last
  longer_sum : (ts : Terms) (t : Monomial × ℕ) → xor_sum f (ts ++ t ∷ []) ≡ bit_xor (f t) (xor_sum f ts)
  longer_sum [] t = refl
  longer_sum (u ∷ us) t = ap (bit_xor (f u)) (longer_sum us t) ∙ xor_swap (f u) (f t) (xor_sum f us)

  -- where terms without a coefficient go
  left_sum : (ts : Terms) → xor_sum f (nonzero_of ts) ≡ xor_sum f ts
  left_sum [] = refl
  left_sum (t ∷ ts) =
      elim (t.1 == 0) as (λ b. (t.1 == 0) ≡ b → xor_sum f (cond (not b) (t ∷ nonzero_of ts) (nonzero_of ts)) ≡ bit_xor (f t) (xor_sum f ts)) [
        | true ↦ λ e. left_sum ts ∙ sym (ap (λ n. bit_xor n (xor_sum f ts)) (ap (λ (n : ℕ). f (t.0, n)) (eqb-true t.1 0 e) ∙ add.none t.0) ∙ xor_zero_l (xor_sum f ts))
        | false ↦ λ e. ap (bit_xor (f t)) (left_sum ts)
      ] refl

-- the sum of one term
one_share : (q : Monomial) (t : Monomial × ℕ) (s : ℕ) → bit_xor (at text_cmp q t) s ≡ bit_xor s (share_in q (t ∷ []))
one_share q t s = xor_comm (at text_cmp q t) s ∙ ap (bit_xor s) (sym (xor_zero_r (at text_cmp q t)))

pub added_at : (old new : Terms) (i c : ℕ) (m : Monomial) → HasMonomialAt old i m → AddsAt old new i c → GrowsByTerm old new (m, c)
added_at old new i c m has adds q =
    let first : Monomial × ℕ → Monomial = λ t. t.0 in
    let same : adds.term.0 ≡ m = ap first (same_some adds.term has.term (sym adds.got ∙ has.got)) ∙ has.is in
    ap (share_in q) adds.set
    ∙ (grown_sum (at text_cmp q) (at_additive text_cmp q) old i c adds.term adds.got
    ∙ (ap (λ (n : Monomial). bit_xor (at text_cmp q (n, c)) (share_in q old)) same
    ∙ one_share q (m, c) (share_in q old)))

pub pushed : (seen old new : Terms) (t u : Monomial × ℕ) → old ≡ seen → u ≡ t → new ≡ old ++ u ∷ [] → GrowsByTerm seen new t
pushed seen old new t u view same is q =
    ap (share_in q) is
    ∙ (ap (λ (v : Monomial × ℕ). share_in q (old ++ v ∷ [])) same
    ∙ (longer_sum (at text_cmp q) (at_additive text_cmp q) old t
    ∙ (one_share q t (share_in q old)
    ∙ ap (λ (ts : Terms). bit_xor (share_in q ts) (share_in q (t ∷ []))) view)))

pub without_zeros : (old new : Terms) → new ≡ nonzero_of old → HaveSameSum old new
without_zeros old new is q = ap (share_in q) is ∙ left_sum (at text_cmp q) (at_additive text_cmp q) old

-- a term that stays
abbrev pub stays : Monomial × ℕ → Bool
stays t = not (t.1 == 0)

-- ---- rising ranks

rise_left : (ts : Terms) → HaveRisingRanks ts → HaveRisingRanks (nonzero_of ts)
rise_left [] all = tt
rise_left (t ∷ ts) all = elim (t.1 == 0) as (λ b. HaveRisingRanks (cond (not b) (t ∷ nonzero_of ts) (nonzero_of ts))) [ true ↦ rise_left ts all.1 | false ↦ (all.0, rise_left ts all.1) ]

pub rise_without : (old new : Terms) → new ≡ nonzero_of old → HaveRisingRanks old → HaveRisingRanks new
rise_without old new is all = let P : Terms → Type 0 = HaveRisingRanks in subst P (sym is) (rise_left old all)

pub rise_at : (old new : Terms) (i c : ℕ) → AddsAt old new i c → HaveRisingRanks old → HaveRisingRanks new
rise_at old new i c adds all =
    let P : Monomial × ℕ → Type 0 = λ t. IsStrictlySortedBy nat_cmp t.0.bits in
    let A : Terms → Type 0 = HaveRisingRanks in
    subst A (sym adds.set) (all_put P old i (adds.term.0, bit_xor adds.term.1 c) all (all_got P old i adds.term all adds.got))

some_left : (ts : Terms) → AllByRecursion (λ t. t.1 ≢ 0) (nonzero_of ts)
some_left [] = tt
some_left (t ∷ ts) = elim (t.1 == 0) as (λ b. (t.1 == 0) ≡ b → AllByRecursion (λ t. t.1 ≢ 0) (cond (not b) (t ∷ nonzero_of ts) (nonzero_of ts))) [ true ↦ λ e. some_left ts | false ↦ λ e. (eqb-false t.1 0 e, some_left ts) ] refl

-- ---- what is seen of them

all_unit : (ts : Terms) → AllByRecursion (λ t. Unit {0}) ts
all_unit [] = tt
all_unit (t ∷ ts) = (tt, all_unit ts)

gathered_map : (ts us : Terms) → IsMap ts → HaveRisingRanks us → IsMap (plus text_cmp ts (nonzero_of us))
gathered_map ts us is rise = record {
  sorted = sorted-plus text_cmp text_cmp_total ts (nonzero_of us) is.sorted;
  rising = all_plus text_cmp (λ t. IsStrictlySortedBy nat_cmp t.0.bits) (λ t u h k n. h) ts (nonzero_of us) is.rising (rise_left us rise);
  nonzero = all_plus text_cmp (λ t. t.1 ≢ 0) (λ t u h k n. n) ts (nonzero_of us) is.nonzero (some_left us);
}

plus_share : (ts us : Terms) (q : Monomial) → xor_sum (at text_cmp q) (plus text_cmp ts us) ≡ bit_xor (xor_sum (at text_cmp q) ts) (xor_sum (at text_cmp q) us)
plus_share ts us q = xor_sum-plus text_cmp text_cmp-same (λ _. Unit {0}) (at text_cmp q) (at_additive text_cmp q) (λ x y _ _. tt) ts us (all_unit ts) (all_unit us)

map_share : (ts : Terms) (q : Monomial) → IsMap ts → coefficient ts q ≡ xor_sum (at text_cmp q) ts
map_share ts q is = found_is_sum text_cmp text_cmp_total ts q is.sorted

-- a term more among those that wait is a term more
pub one_more : (ts old new : Terms) (m : Monomial) (c : ℕ) → IsMap ts → HaveRisingRanks old → HaveRisingRanks new → c ≢ 0 → IsStrictlySortedBy nat_cmp m.bits → GrowsByTerm old new (m, c)
    → plus text_cmp ts (nonzero_of new) ≡ plus_term text_cmp (plus text_cmp ts (nonzero_of old)) (m, c)
one_more ts old new m c is before after some up grows =
    let mid : Terms = plus text_cmp ts (nonzero_of old) in
    let all : Terms = plus text_cmp ts (nonzero_of new) in
    let t : Monomial × ℕ = (m, c) in
    let both : IsMap (plus_term text_cmp mid t) = map_plus mid (t ∷ []) (gathered_map ts old is before) (one_map m c up some) in
    let one : IsMap all = gathered_map ts new is after in
    same_map all (plus_term text_cmp mid t) one both (λ q.
    let f : Monomial × ℕ → ℕ = at text_cmp q in
    let s : ℕ = xor_sum f ts in
    map_share all q one
    ∙ (plus_share ts (nonzero_of new) q
    ∙ (ap (bit_xor s) (left_sum f (at_additive text_cmp q) new ∙ grows q)
    ∙ (sym (xor_assoc s (xor_sum f old) (share_in q (t ∷ [])))
    ∙ (ap (λ n. bit_xor (bit_xor s n) (share_in q (t ∷ []))) (sym (left_sum f (at_additive text_cmp q) old))
    ∙ (ap (λ n. bit_xor n (share_in q (t ∷ []))) (sym (plus_share ts (nonzero_of old) q))
    ∙ (sym (plus_share mid (t ∷ []) q)
    ∙ sym (map_share (plus_term text_cmp mid t) q both))))))))

-- where none wait
pub none_wait : (ts us : Terms) → length us ≡ 0 → plus text_cmp ts (nonzero_of us) ≡ ts
none_wait ts us none = ap (λ (vs : Terms). plus text_cmp ts (nonzero_of vs)) (nil_from_length us none)

-- the next of those that wait
pub next_added : (old new : Terms) (t : Monomial × ℕ) (left rest : Terms) → left ≡ t ∷ rest → new ≡ plus text_cmp old (nonzero_of (t ∷ [])) → plus text_cmp new (nonzero_of rest) ≡ plus text_cmp old (nonzero_of left)
next_added old new t left rest is added =
    (elim (t.1 == 0) as (λ b. new ≡ plus text_cmp old (cond (not b) (t ∷ []) []) → plus text_cmp new (nonzero_of rest) ≡ plus text_cmp old (cond (not b) (t ∷ nonzero_of rest) (nonzero_of rest))) [
      | true ↦ λ e. ap (λ (ts : Terms). plus text_cmp ts (nonzero_of rest)) e
      | false ↦ λ e. ap (λ (ts : Terms). plus text_cmp ts (nonzero_of rest)) e
    ]) added
    ∙ sym (ap (λ (ts : Terms). plus text_cmp old (nonzero_of ts)) is)

-- one term alone
pub zero_goes : (t : Monomial × ℕ) → t.1 ≡ 0 → nonzero_of (t ∷ []) ≡ []
zero_goes t none = ap (λ (n : ℕ). nonzero_of ((t.0, n) ∷ [])) none

pub other_stays : (t : Monomial × ℕ) → t.1 ≢ 0 → nonzero_of (t ∷ []) ≡ t ∷ []
other_stays t some = (elim (t.1 == 0) as (λ b. (t.1 == 0) ≡ b → ◌≡◌ {A = Terms} (cond (not b) (t ∷ []) []) (t ∷ [])) [
  | true ↦ λ e. absurd (some (eqb-true t.1 0 e))
  | false ↦ λ e. refl
]) refl

-- they are not more than all together
pub not_more : (ts us : Terms) → length (plus text_cmp ts (nonzero_of us)) ≤ length ts + length us
not_more ts us = omega (arith, plus_few ts (nonzero_of us), few us)
  where
    few : (us : Terms) → length (nonzero_of us) ≤ length us
    few [] = omega arith
    few (u ∷ us) = elim (u.1 == 0) as (λ b. length (cond (not b) (u ∷ nonzero_of us) (nonzero_of us)) ≤ suc (length us)) [ true ↦ omega (arith, few us) | false ↦ omega (arith, few us) ]
