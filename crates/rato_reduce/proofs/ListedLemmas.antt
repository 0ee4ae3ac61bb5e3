-- Terms in a list that are moved into the order of a text.
use Rattle.std.proofs.Common.{◌≡◌, ℕ, zero, suc, ◌+◌, ◌<◌, cond, ◌==◌, true, false, List, [], ◌∷◌, ◌++◌, map, length, get_or, Some, bit_xor, refl, sym, ◌∙◌, ap, subst, arith}
use Rattle.std.specs.Prelude.{slice_get, slice_set}
use lib.Bits.{xor_zero_r, xor_assoc, xor_comm, xor_self}
use Rattle.std.specs.declared.cmp.Ordering.TheVariants.{Less}
use Rattle.std.specs.List.{AllAdjacentBelow, AllByRecursion, swap}
use Rattle.std.specs.List.Sorted.{IsPermutation, IsStrictlySortedBy}
use Rattle.std.specs.Map.{keys_of}
use Rattle.std.proofs.lemmas.List.{append_assoc}
use Rattle.std.proofs.lemmas.List.Elements.{All-from_recursion, recursion_from_All}
use Rattle.std.proofs.lemmas.List.Sorted.{All-permutation, IsPermutation-keeps}
use Rattle.std.proofs.lemmas.Option.{slice_get-get_or}
use Rattle.poly_mixed.specs.Monomial.{Monomial, text_cmp, text_cmp_total}
use Rattle.poly_mixed.specs.Polynomial.{Terms, IsMap}
use Rattle.poly_mixed.specs.Sum.{plus, with_coefficient}
use Rattle.poly_mixed.proofs.ValueLemmas.{plus_nothing}
use Rattle.rato_reduce.specs.private.CutKey.{CutKey, no_bits}
use Rattle.rato_reduce.specs.private.CutTerms.{of_bits, term_of, with_constant, AreBitEntries, IsBitTerm}
use Rattle.rato_reduce.specs.private.Buckets.{at_monomial, coefficient_in, HaveSameSum}
use Rattle.rato_reduce.proofs.AddedLemmas.{set_sum}
use Rattle.rato_reduce.proofs.BucketLemmas.{same_polynomial}
use Rattle.rato_reduce.proofs.ConstantLemmas.{constant_entries}
use Rattle.rato_reduce.proofs.CutLemmas.{all_rising, all_some, entry_terms}

-- ---- terms in another order

-- a term stays at an index that has it where it is put at any
set_keeps : (ts : Terms) (i j : ℕ) (t : Monomial × ℕ) → slice_get ts j ≡ Some t → slice_get (slice_set ts i t) j ≡ Some t
set_keeps [] i j t got = absurd (cc)
set_keeps (u ∷ ts) zero zero t got = refl
set_keeps (u ∷ ts) zero (suc j) t got = got
set_keeps (u ∷ ts) (suc i) zero t got = got
set_keeps (u ∷ ts) (suc i) (suc j) t got = set_keeps ts i j t got

swap_sum : (q : Monomial) (ts : Terms) (i j : ℕ) → i < length ts → j < length ts → coefficient_in q (swap ts i j) ≡ coefficient_in q ts
swap_sum q [] i j low high = refl
swap_sum q (t ∷ ts) i j low high =
    let all : Terms = t ∷ ts in
    let one : Monomial × ℕ = get_or all i t in
    let other : Monomial × ℕ = get_or all j t in
    let s : ℕ = coefficient_in q all in
    let a : ℕ = at_monomial q one in
    let b : ℕ = at_monomial q other in
    set_sum q (slice_set all i other) j other one (set_keeps all i j other (slice_get-get_or all j t high))
    ∙ ap (λ n. bit_xor n (bit_xor b a)) (set_sum q all i one other (slice_get-get_or all i t low))
    ∙ xor_assoc s (bit_xor a b) (bit_xor b a)
    ∙ ap (bit_xor s) (ap (bit_xor (bit_xor a b)) (xor_comm b a) ∙ xor_self (bit_xor a b))
    ∙ xor_zero_r s

moved_sum : (old new : Terms) → IsPermutation old new → HaveSameSum old new
moved_sum old new moved q =
    let P : Terms → Type 0 = λ ts. coefficient_in q ts ≡ coefficient_in q old in
    IsPermutation-keeps old P refl (λ ts i j low high so_far. swap_sum q ts i j low high ∙ so_far) new moved

pub moved_terms : (old new : Terms) → AllByRecursion IsBitTerm old → IsPermutation old new → AllByRecursion IsBitTerm new
moved_terms old new all moved = recursion_from_All IsBitTerm new (All-permutation IsBitTerm old new moved (All-from_recursion IsBitTerm old all))

-- terms in another order are one polynomial
pub moved_polynomial : (old new : Terms) → AllByRecursion IsBitTerm old → IsPermutation old new → plus text_cmp [] new ≡ plus text_cmp [] old
moved_polynomial old new all moved = same_polynomial old new all (moved_terms old new all moved) (moved_sum old new moved)

-- ---- terms in the order of a text

-- a term stands before another
abbrev pub StandsBefore : Monomial × ℕ → Monomial × ℕ → Type 0
StandsBefore t u = text_cmp t.0 u.0 ≡ Less

all_behind : (a b : Monomial) (ms : List Monomial) → text_cmp a b ≡ Less → AllByRecursion (λ m. text_cmp b m ≡ Less) ms → AllByRecursion (λ m. text_cmp a m ≡ Less) ms
all_behind a b [] less all = tt
all_behind a b (m ∷ ms) less all = (text_cmp_total.trans a b m less all.0, all_behind a b ms less all.1)

-- neighbours of what is behind the first term are neighbours
next_behind : (t : Monomial × ℕ) (ts : Terms) → AllAdjacentBelow StandsBefore (t ∷ ts) (length (t ∷ ts)) → AllAdjacentBelow StandsBefore ts (length ts)
next_behind t ts next k d less =
    let P : ℕ → Type 0 = λ n. StandsBefore (get_or ts k d) (get_or (t ∷ ts) n d) in
    let shifted : suc k + 1 ≡ suc (k + 1) = omega arith in
    subst P shifted (next (suc k) d (omega (arith, less)))

-- where each term stands before the next one, it stands before all behind it
pub rising_terms : (ts : Terms) → AllAdjacentBelow StandsBefore ts (length ts) → IsStrictlySortedBy text_cmp (keys_of ts)
unfolding IsStrictlySortedBy
rising_terms [] next = tt
rising_terms (t ∷ []) next = (tt, tt)
rising_terms (t ∷ u ∷ ts) next =
    let rest : IsStrictlySortedBy text_cmp (keys_of (u ∷ ts)) = rising_terms (u ∷ ts) (next_behind t (u ∷ ts) next) in
    let first : text_cmp t.0 u.0 ≡ Less = next 0 t (omega arith) in
    ((first, all_behind t.0 u.0 (keys_of ts) first rest.0), rest)

-- terms that were moved into the order of a text are their polynomial
pub sorted_polynomial : (old new : Terms) → AllByRecursion IsBitTerm old → IsPermutation old new → IsStrictlySortedBy text_cmp (keys_of new) → new ≡ plus text_cmp [] old
sorted_polynomial old new all moved sorted =
    let each : AllByRecursion IsBitTerm new = moved_terms old new all moved in
    let is : IsMap new = record { sorted = sorted; rising = all_rising new each; nonzero = all_some new each } in
    sym (plus_nothing new is) ∙ moved_polynomial old new all moved

-- ---- the terms of entries behind the term without bits

constant_before : (k : ℕ) (es : List (CutKey × ℕ)) → with_coefficient (of_bits []) k [] ++ map term_of es ≡ map term_of (with_constant k es)
constant_before k es = elim (k == 0) as (λ b. cond b [] ((of_bits [], k) ∷ []) ++ map term_of es ≡ map term_of (cond b es ((no_bits, k) ∷ es))) [ true ↦ refl | false ↦ refl ]

pub constant_listed : (k : ℕ) (es : List (CutKey × ℕ)) (first ts : Terms) → first ≡ with_coefficient (of_bits []) k [] → ts ≡ first ++ map term_of es → ts ≡ map term_of (with_constant k es)
constant_listed k es first ts constant listed = listed ∙ ap (λ (us : Terms). us ++ map term_of es) constant ∙ constant_before k es

pub constant_bit_terms : (places : List ℕ) (k : ℕ) (es : List (CutKey × ℕ)) → AreBitEntries places es → AllByRecursion IsBitTerm (map term_of (with_constant k es))
constant_bit_terms places k es are = entry_terms places (with_constant k es) (constant_entries places k es are).each

-- one more term is put at the end
pub step_line : (old new goal : Terms) (t : Monomial × ℕ) (rest after : Terms) → rest ≡ t ∷ after → old ++ rest ≡ goal → new ≡ old ++ t ∷ [] → new ++ after ≡ goal
step_line old new goal t rest after next so_far step =
    ap (λ (us : Terms). us ++ after) step ∙ append_assoc old (t ∷ []) after ∙ ap (λ (us : Terms). old ++ us) (sym next) ∙ so_far
