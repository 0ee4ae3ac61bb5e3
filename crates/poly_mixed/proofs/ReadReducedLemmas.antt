-- A polynomial that was read is reduced.
use Rattle.std.proofs.Common.{◌≡◌, ◌≢◌, ℕ, zero, suc, ◌<◌, ◌≤◌, ◌^◌, true, false, cond, List, [], ◌∷◌, ◌==◌, Option, Some, None, slice_set, inl, inr, refl, sym, ◌∙◌, subst, arith}
use lib.Bits.{xor_lt}
use Rattle.std.specs.List.{AllByRecursion}
use Rattle.std.specs.List.Sorted.{IsStrictlySortedBy}
use Rattle.std.proofs.lemmas.Bool.{eqb-false}
use Rattle.lists.specs.laws.ListLaws.{length-slice_set}
use Rattle.lists.specs.laws.PowerLaws.{one_below_pow}
use Rattle.poly_mixed.specs.Labels.{Labelling, word_of, bit_of}
use Rattle.poly_mixed.specs.Monomial.{Monomial, text_cmp}
use Rattle.poly_mixed.specs.Polynomial.{Terms, IsElement, IsMonomial, IsTerm, IsReduced}
use Rattle.poly_mixed.specs.Sum.{plus}
use Rattle.poly_mixed.specs.Token.{word, bit, net, Token}
use Rattle.poly_mixed.specs.Grammar.{Part, number, factor, IsPart, IsTerm as IsTermOf}
use Rattle.text_core.specs.Joined.{AreJoined}
use Rattle.poly_mixed.specs.Said.{net_rank, one, with_power, with_bit_of, with_part, monomial_of, coefficient_of, added, with_term, sum_of}
use Rattle.poly_mixed.specs.TextOutcome.{IsRead}
use Rattle.poly_mixed.proofs.ProductLemmas.{rising-with_rank}
use Rattle.poly_mixed.proofs.SimpleLemmas.{no_ranks_rise}
use Rattle.poly_mixed.proofs.SumLemmas.{all_plus}
use Rattle.poly_mixed.proofs.ValueLemmas.{map_plus}

-- a coefficient and an exponent below 2^k
abbrev IsLow : ℕ → Part → Type 0
IsLow k (number c) = c < 2 ^ k
IsLow k (factor v e) = e < 2 ^ k

to_the_first : (k e : ℕ) → 1 ≤ k → e ≡ 1 → e < 2 ^ k
to_the_first k e some is = let low = one_below_pow k some in omega (arith, is, low)

part_low : (k : ℕ) → 1 ≤ k → (ts : List Token) (p : Part) → IsPart k ts p → IsLow k p
part_low k some ts (number c) is = is.1
part_low k some ts (factor (word n) e) (inl is) = to_the_first k e some is.1
part_low k some ts (factor (word n) e) (inr is) = is.4
part_low k some ts (factor (bit n i) e) is = to_the_first k e some is.1
part_low k some ts (factor (net n) e) is = to_the_first k e some is.1

all_joined : {A : Type 0} (sign : Token) (Is : List Token → A → Type 0) (P : A → Type 0) → ((ts : List Token) (a : A) → Is ts a → P a) → (ts : List Token) (xs : List A) → AreJoined sign Is ts xs → AllByRecursion P xs
all_joined sign Is P each ts [] is = tt
all_joined sign Is P each ts (a ∷ []) is = (each ts a is, tt)
all_joined sign Is P each ts (a ∷ b ∷ more) is = (each is.0 a is.3, all_joined sign Is P each is.1 (b ∷ more) is.4)

term_low : (k : ℕ) → 1 ≤ k → (ts : List Token) (ps : List Part) → IsTermOf k ts ps → AllByRecursion (IsLow k) ps
term_low k some ts [] is = tt
term_low k some ts (p ∷ ps) is = all_joined _ (IsPart k) (IsLow k) (part_low k some) ts (p ∷ ps) is.0

set_elements : (k : ℕ) (es : List ℕ) (w e : ℕ) → e < 2 ^ k → AllByRecursion (IsElement k) es → AllByRecursion (IsElement k) (slice_set es w e)
set_elements k [] w e low all = tt
set_elements k (x ∷ es) zero e low all = (low, all.1)
set_elements k (x ∷ es) (suc w) e low all = (all.0, set_elements k es w e low all.1)

power_good : (k : ℕ) (m : Monomial) (o : Option ℕ) (e : ℕ) → e < 2 ^ k → IsMonomial k m → IsMonomial k (with_power m o e)
power_good k m None e low is = is
power_good k m (Some w) e low is = record { words = length-slice_set m.exponents w e ∙ is.words; exponents = set_elements k m.exponents w e low is.exponents; rising = is.rising }

rank_good : (k : ℕ) (m : Monomial) (o : Option ℕ) → IsMonomial k m → IsMonomial k (with_bit_of m o)
rank_good k m None is = is
rank_good k m (Some r) is = record { words = is.words; exponents = is.exponents; rising = rising-with_rank m.bits r is.rising }

part_good : (l : Labelling) (k : ℕ) (m : Monomial) (p : Part) → IsLow k p → IsMonomial k m → IsMonomial k (with_part l m p)
part_good l k m (number c) low is = is
part_good l k m (factor (word n) e) low is = power_good k m (word_of l.words n) e low is
part_good l k m (factor (bit n i) e) low is = rank_good k m (bit_of l.words n i) is
part_good l k m (factor (net n) e) low is = rank_good k m (net_rank l n) is

monomial_good : (l : Labelling) (k : ℕ) (m : Monomial) (ps : List Part) → AllByRecursion (IsLow k) ps → IsMonomial k m → IsMonomial k (monomial_of l m ps)
monomial_good l k m [] low is = is
monomial_good l k m (p ∷ ps) low is = monomial_good l k (with_part l m p) ps low.1 (part_good l k m p low.0 is)

one_good : (k : ℕ) → 1 ≤ k → IsMonomial k one
one_good k some = let z : 0 < 2 ^ k = (let low = one_below_pow k some in omega (arith, low)) in record { words = refl; exponents = (z, (z, (z, (z, (z, (z, (z, (z, tt)))))))); rising = no_ranks_rise }

coefficient_low : (k : ℕ) → 1 ≤ k → (ps : List Part) → AllByRecursion (IsLow k) ps → coefficient_of ps < 2 ^ k
coefficient_low k some [] low = one_below_pow k some
coefficient_low k some (number c ∷ ps) low = low.0
coefficient_low k some (factor v e ∷ ps) low = one_below_pow k some

one_reduced : (k : ℕ) (m : Monomial) (c : ℕ) → IsTerm k (m, c) → c ≢ 0 → IsReduced k ((m, c) ∷ [])
unfolding IsStrictlySortedBy
one_reduced k m c h n = record { is_map = record { sorted = (tt, tt); rising = (h.monomial.rising, tt); nonzero = (n, tt) }; terms = (h, tt) }

sum_reduced : (k : ℕ) (ts us : Terms) → IsReduced k ts → IsReduced k us → IsReduced k (plus text_cmp ts us)
sum_reduced k ts us r s = record {
  is_map = map_plus ts us r.is_map s.is_map;
  terms = all_plus text_cmp (IsTerm k) (λ t u h g n. record { monomial = h.monomial; element = xor_lt k t.1 u.1 h.element g.element }) ts us r.terms s.terms;
}

added_reduced : (k : ℕ) (sum : Terms) (c : ℕ) (m : Monomial) → IsReduced k sum → IsTerm k (m, c) → IsReduced k (added sum c m)
added_reduced k sum c m r is =
    (elim (c == 0) as (λ b. (c == 0) ≡ b → IsReduced k (plus text_cmp sum (cond b [] ((m, c) ∷ [])))) [
      | true ↦ λ e. r
      | false ↦ λ e. sum_reduced k sum ((m, c) ∷ []) r (one_reduced k m c is (eqb-false c 0 e))
    ]) refl

term_reduced : (l : Labelling) (k : ℕ) → 1 ≤ k → (sum : Terms) (ps : List Part) → IsReduced k sum → AllByRecursion (IsLow k) ps → IsReduced k (with_term l sum ps)
term_reduced l k some sum [] r low = r
term_reduced l k some sum (p ∷ ps) r low =
    added_reduced k sum (coefficient_of (p ∷ ps)) (monomial_of l one (p ∷ ps)) r
    (record { monomial = monomial_good l k one (p ∷ ps) low (one_good k some); element = coefficient_low k some (p ∷ ps) low })

terms_reduced : (l : Labelling) (k : ℕ) → 1 ≤ k → (sum : Terms) (ts : List (List Part)) → IsReduced k sum → AllByRecursion (λ ps. AllByRecursion (IsLow k) ps) ts → IsReduced k (sum_of l sum ts)
terms_reduced l k some sum [] r low = r
terms_reduced l k some sum (t ∷ ts) r low = terms_reduced l k some (with_term l sum t) ts (term_reduced l k some sum t r low.0) low.1

pub nothing_reduced : (k : ℕ) → IsReduced k []
unfolding IsStrictlySortedBy
nothing_reduced k = record { is_map = record { sorted = tt; rising = tt; nonzero = tt }; terms = tt }

pub read_reduced : (l : Labelling) (k : ℕ) (bytes : List ℕ) (said : Terms) → 1 ≤ k → IsRead l k bytes said → IsReduced k said
read_reduced l k bytes said some is =
    let P : Terms → Type 0 = IsReduced k in
    subst P (sym is.said_is) (terms_reduced l k some [] is.terms (nothing_reduced k) (all_joined _ (IsTermOf k) (λ ps. AllByRecursion (IsLow k) ps) (term_low k some) is.tokens is.terms is.grammar))
