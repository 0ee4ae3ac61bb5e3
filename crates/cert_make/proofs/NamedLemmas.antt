-- What a text of a polynomial says has names in the labels.
use Rattle.std.proofs.Common.{◌≡◌, sym, refl, subst, ℕ, zero, suc, ◌+◌, ◌<◌, ◌≤◌, ◌^◌, true, false, cond, List, [], ◌∷◌, length, drop, nat_lt, ◌==◌, Option, Some, None, slice_set, arith}
use Rattle.std.specs.List.{AllByRecursion}
use Rattle.std.specs.Option.{option_map, option_and_then}
use Rattle.poly_mixed.specs.Labels.{Labelling, AreLabels, bit_count, word_of, bit_of, net_of}
use Rattle.poly_mixed.specs.Monomial.{Monomial, text_cmp}
use Rattle.poly_mixed.specs.Polynomial.{Terms}
use Rattle.poly_mixed.specs.Product.{with_rank}
use Rattle.poly_mixed.specs.Sum.{plus}
use Rattle.poly_mixed.specs.Token.{word, bit, net}
use Rattle.poly_mixed.specs.Grammar.{Part, number, factor}
use Rattle.poly_mixed.specs.Said.{net_rank, one, with_power, with_bit_of, with_part, monomial_of, coefficient_of, added, with_term, sum_of}
use Rattle.poly_mixed.specs.Text.{HasNames, HasWordNames}
use Rattle.poly_mixed.specs.TextOutcome.{IsRead}
use Rattle.poly_mixed.specs.laws.TextLaw.{IsWritten}
use Rattle.poly_mixed.proofs.ReadReducedLemmas.{read_reduced}
use Rattle.poly_mixed.proofs.SumLemmas.{all_plus}
use Rattle.poly_mixed.proofs.TrackLemmas.{word_small, bit_small}

-- ---- what names name is there

one_more : (n : ℕ) (o : Option ℕ) (w : ℕ) → ((v : ℕ) → o ≡ Some v → v < n) → option_map (λ i. i + 1) o ≡ Some w → w < suc n
one_more n None w below e = absurd (cc)
one_more n (Some v) w below e = (let same : v + 1 ≡ w = cc in omega (arith, same, below v refl))

net_below : (ns : List ℕ) (n i : ℕ) → net_of ns n ≡ Some i → i < length ns
net_below [] n i e = absurd (cc)
net_below (x ∷ xs) n i e =
    (elim (x == n) as (λ v. cond v (Some 0) (option_map (λ j. j + 1) (net_of xs n)) ≡ Some i → i < length (x ∷ xs)) [
      | true ↦ λ f. (let same : 0 ≡ i = cc in omega (arith, same))
      | false ↦ λ f. one_more (length xs) (net_of xs n) i (λ v at. net_below xs n v at) f
    ]) e

later_bit : (b n : ℕ) (o : Option ℕ) (r : ℕ) → ((v : ℕ) → o ≡ Some v → v < n) → option_map (λ q. b + q) o ≡ Some r → r < b + n
later_bit b n None r below e = absurd (cc)
later_bit b n (Some v) r below e = (let same : b + v ≡ r = cc in omega (arith, same, below v refl))

module _ (l : Labelling) where
  abbrev IsLow : ℕ → Type 0
  IsLow r = r < bit_count l.words + length l.nets

  ranked_below : (n r : ℕ) → net_rank l n ≡ Some r → IsLow r
  ranked_below n r e = found (net_of l.nets n) (λ i at. net_below l.nets n i at) e
    where
      found : (o : Option ℕ) → ((i : ℕ) → o ≡ Some i → i < length l.nets) → option_and_then (λ i. cond (nat_lt (bit_count l.words + i) (2 ^ 32)) (Some (bit_count l.words + i)) None) o ≡ Some r → IsLow r
      found None below e = absurd (cc)
      found (Some i) below e =
          (elim (nat_lt (bit_count l.words + i) (2 ^ 32)) as (λ v. cond v (Some (bit_count l.words + i)) None ≡ Some r → IsLow r) [
            | true ↦ λ f. (let same : bit_count l.words + i ≡ r = cc in omega (arith, same, below i refl))
            | false ↦ λ f. absurd (cc)
          ]) e

  -- the ranks and words of a monomial have names
  abbrev IsNamed : Monomial → Type 0
  IsNamed m = AllByRecursion IsLow m.bits × AllByRecursion (λ e. e ≡ 0) (drop (length l.words) m.exponents)

  all_with_rank : (xs : List ℕ) (r : ℕ) → IsLow r → AllByRecursion IsLow xs → AllByRecursion IsLow (with_rank xs r)
  all_with_rank [] r low all = (low, tt)
  all_with_rank (x ∷ xs) r low all =
      elim (nat_lt r x) as (λ v. AllByRecursion IsLow (cond v (r ∷ x ∷ xs) (cond (r == x) (x ∷ xs) (x ∷ with_rank xs r)))) [
        | true ↦ (low, all)
        | false ↦ elim (r == x) as (λ v. AllByRecursion IsLow (cond v (x ∷ xs) (x ∷ with_rank xs r))) [ true ↦ all | false ↦ (all.0, all_with_rank xs r low all.1) ]
      ]

  set_before : (es : List ℕ) (n w e : ℕ) → w < n → drop n (slice_set es w e) ≡ drop n es
  set_before [] n w e less = refl
  set_before (x ∷ es) zero w e less = absurd (omega (arith, less))
  set_before (x ∷ es) (suc n) zero e less = refl
  set_before (x ∷ es) (suc n) (suc w) e less = set_before es n w e (omega (arith, less))

  power_named : (m : Monomial) (o : Option ℕ) (e : ℕ) → ((w : ℕ) → o ≡ Some w → w < length l.words) → IsNamed m → IsNamed (with_power m o e)
  power_named m None e below is = is
  power_named m (Some w) e below is =
      let P : List ℕ → Type 0 = AllByRecursion (λ e. e ≡ 0) in
      (is.0, subst P (sym (set_before m.exponents (length l.words) w e (below w refl))) is.1)

  rank_named : (m : Monomial) (o : Option ℕ) → ((r : ℕ) → o ≡ Some r → IsLow r) → IsNamed m → IsNamed (with_bit_of m o)
  rank_named m None below is = is
  rank_named m (Some r) below is = (all_with_rank m.bits r (below r refl) is.0, is.1)

  part_named : (m : Monomial) (p : Part) → IsNamed m → IsNamed (with_part l m p)
  part_named m (number c) is = is
  part_named m (factor (word n) e) is = power_named m (word_of l.words n) e (λ w at. word_small l.words n w at) is
  part_named m (factor (bit n i) e) is = rank_named m (bit_of l.words n i) (λ r at. omega (arith, bit_small l.words n i r at)) is
  part_named m (factor (net n) e) is = rank_named m (net_rank l n) (λ r at. ranked_below n r at) is

  monomial_named : (m : Monomial) (ps : List Part) → IsNamed m → IsNamed (monomial_of l m ps)
  monomial_named m [] is = is
  monomial_named m (p ∷ ps) is = monomial_named (with_part l m p) ps (part_named m p is)

  all_zero : (n : ℕ) (es : List ℕ) → AllByRecursion (λ e. e ≡ 0) es → AllByRecursion (λ e. e ≡ 0) (drop n es)
  all_zero zero es all = all
  all_zero (suc n) [] all = tt
  all_zero (suc n) (e ∷ es) all = all_zero n es all.1

  one_named : IsNamed one
  one_named = (tt, all_zero (length l.words) one.exponents (refl, (refl, (refl, (refl, (refl, (refl, (refl, (refl, tt)))))))))

  abbrev AreNamed : Terms → Type 0
  AreNamed ts = AllByRecursion (λ t. IsNamed t.0) ts

  added_named : (sum : Terms) (c : ℕ) (m : Monomial) → AreNamed sum → IsNamed m → AreNamed (added sum c m)
  added_named sum c m all is =
      elim (c == 0) as (λ b. AreNamed (plus text_cmp sum (cond b [] ((m, c) ∷ [])))) [
        | true ↦ all
        | false ↦ all_plus text_cmp (λ t. IsNamed t.0) (λ t u h g n. h) sum ((m, c) ∷ []) all (is, tt)
      ]

  term_named : (sum : Terms) (ps : List Part) → AreNamed sum → AreNamed (with_term l sum ps)
  term_named sum [] all = all
  term_named sum (p ∷ ps) all = added_named sum (coefficient_of (p ∷ ps)) (monomial_of l one (p ∷ ps)) all (monomial_named one (p ∷ ps) one_named)

  terms_named : (sum : Terms) (ts : List (List Part)) → AreNamed sum → AreNamed (sum_of l sum ts)
  terms_named sum [] all = all
  terms_named sum (t ∷ ts) all = terms_named (with_term l sum t) ts (term_named sum t all)

  names_of : (ts : Terms) → AreNamed ts → HasNames l ts × HasWordNames l ts
  names_of [] all = (tt, tt)
  names_of (t ∷ ts) all = let more = names_of ts all.1 in ((all.0.0, more.0), (all.0.1, more.1))

  -- what a text says can be written
  pub read_written : (k : ℕ) (bytes : List ℕ) (said : Terms) → 1 ≤ k → k ≤ 64 → AreLabels l → bit_count l.words + length l.nets ≤ 2 ^ 32 → IsRead l k bytes said → IsWritten l k said
  read_written k bytes said some small labels few is =
      let P : Terms → Type 0 = AreNamed in
      let both = names_of said (subst P (sym is.said_is) (terms_named [] is.terms tt)) in
      record { labels = labels; some = some; small = small; few = few; reduced = read_reduced l k bytes said some is; ranks = both.0; words = both.1 }
