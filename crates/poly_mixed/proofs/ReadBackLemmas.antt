-- The text of a polynomial is read back as the polynomial.
use Rattle.std.proofs.Common.{◌≡◌, ◌≢◌, ℕ, zero, suc, ◌+◌, ◌<◌, ◌≤◌, Bool, true, false, cond, ◌&&◌, ◌||◌, List, [], ◌∷◌, ◌++◌, length, drop, map, nat_eq, ◌==◌, slice_set, get_or, codes, decimal, bit_xor, inl, inr, refl, sym, ◌∙◌, ap, subst, arith, length-append, add-one}
use Rattle.std.proofs.lemmas.Bool.{ne_eqb, eq-eqb, le-ltb, cases_eq}
use Rattle.std.proofs.lemmas.List.{append_assoc, append-nil}
use Rattle.std.specs.declared.cmp.Ordering.TheVariants.{Less, Greater}
use Rattle.std.specs.Cmp.{ranked}
use Rattle.std.specs.Ordering.{nat_cmp, ordering_reverse, match_ordering}
use Rattle.std.specs.List.{AllByRecursion, list_any}
use Rattle.std.specs.List.Sorted.{IsStrictlySortedBy}
use Rattle.poly_mixed.specs.Labels.{Labelling, bit_count, rank_text}
use Rattle.poly_mixed.specs.Monomial.{Monomial, text_cmp, text_cmp_total}
use Rattle.poly_mixed.specs.Polynomial.{Terms, IsElement, IsMap}
use Rattle.poly_mixed.specs.Product.{with_rank}
use Rattle.poly_mixed.specs.Text.{joined, powers_texts, variable_texts, factor_texts, term_text}
use Rattle.text_core.specs.Numbers.{hex_text}
use Rattle.std.specs.Map.{keys_of}
use Rattle.poly_mixed.specs.Sum.{with_coefficient, plus_term, plus}
use Rattle.poly_mixed.specs.Said.{added}
use Rattle.poly_mixed.proofs.ChainLemmas.{Factor, power, bit, factor_text, put, Chain, tail_text}
use Rattle.poly_mixed.proofs.ScannedLemmas.{power_text}
use Rattle.poly_mixed.proofs.TextLemmas.{all_more}

abbrev mono : List ℕ → List ℕ → Monomial
mono es rs = record { exponents = es; bits = rs }

abbrev Below : ℕ → List ℕ → Type 0
Below r xs = AllByRecursion (λ x. x < r) xs

-- ---- bits

with_rank_last : (xs : List ℕ) (r : ℕ) → Below r xs → with_rank xs r ≡ xs ++ r ∷ []
with_rank_last [] r all = refl
with_rank_last (x ∷ xs) r all =
    let l : x < r = all.0 in
    (λ i. cond (le-ltb r x (omega arith) i) (r ∷ x ∷ xs) (cond (ne_eqb r x (λ e. omega arith) i) (x ∷ xs) (x ∷ with_rank xs r)))
    ∙ ap (λ ys. x ∷ ys) (with_rank_last xs r all.1)

not_there : (xs : List ℕ) (r : ℕ) → Below r xs → list_any (λ x. nat_eq x r) xs ≡ false
not_there [] r all = refl
not_there (x ∷ xs) r all = let l : x < r = all.0 in (λ i. ne_eqb x r (λ e. omega arith) i || list_any (λ y. nat_eq y r) xs) ∙ not_there xs r all.1

more_below : (xs rs : List ℕ) (r : ℕ) → AllByRecursion (λ q. Below q xs) rs → AllByRecursion (λ y. nat_cmp r y ≡ Less) rs → AllByRecursion (λ q. Below q (xs ++ r ∷ [])) rs
more_below xs [] r all up = tt
more_below xs (q ∷ qs) r all up = (all_more (λ x. x < q) xs r all.0 (ranked r q Less (sym up.0)), more_below xs qs r all.1 up.1)

abbrev bit_factors : List ℕ → List Factor
bit_factors [] = []
bit_factors (r ∷ rs) = bit r ∷ bit_factors rs

bits_chain : (l : Labelling) (k : ℕ) (es xs rs : List ℕ) → AllByRecursion (λ r. r < bit_count l.words + length l.nets) rs → IsStrictlySortedBy nat_cmp rs → AllByRecursion (λ q. Below q xs) rs → Chain l k (mono es xs) (bit_factors rs) (mono es (xs ++ rs))
unfolding IsStrictlySortedBy
bits_chain l k es xs [] named up below = λ i. mono es (sym (append-nil xs) i)
bits_chain l k es xs (r ∷ rs) named up below =
    let P : List ℕ → Type 0 = λ ys. Chain l k (mono es ys) (bit_factors rs) (mono es (xs ++ r ∷ rs)) in
    let Q : List ℕ → Type 0 = λ ys. Chain l k (mono es (xs ++ r ∷ [])) (bit_factors rs) (mono es ys) in (
      (named.0, not_there xs r below.0),
      subst P (sym (with_rank_last xs r below.0)) (subst Q (append_assoc xs (r ∷ []) rs) (bits_chain l k es (xs ++ r ∷ []) rs named.1 up.1 (more_below xs rs r below.1 up.0))),
    )

-- ---- words

abbrev zeros : ℕ → List ℕ
zeros zero = []
zeros (suc n) = 0 ∷ zeros n

abbrev word_factors : ℕ → List (List ℕ × ℕ) → List ℕ → List Factor
word_factors i [] es = []
word_factors i (w ∷ ws) [] = []
word_factors i (w ∷ ws) (e ∷ es) = cond (e == 0) (word_factors (suc i) ws es) (power i e ∷ word_factors (suc i) ws es)

all_zeros : (es : List ℕ) → AllByRecursion (λ e. e ≡ 0) es → zeros (length es) ≡ es
all_zeros [] all = refl
all_zeros (e ∷ es) all = λ i. sym all.0 i ∷ all_zeros es all.1 i

set_after : (pre zs : List ℕ) (e : ℕ) → slice_set (pre ++ 0 ∷ zs) (length pre) e ≡ pre ++ e ∷ zs
set_after [] zs e = refl
set_after (p ∷ pre) zs e = ap (λ ys. p ∷ ys) (set_after pre zs e)

get_after : (pre zs : List ℕ) → get_or (pre ++ 0 ∷ zs) (length pre) 0 ≡ 0
get_after [] zs = refl
get_after (p ∷ pre) zs = get_after pre zs

words_chain : (l : Labelling) (k : ℕ) (ws : List (List ℕ × ℕ)) (es pre : List ℕ) → length pre + length ws ≤ length l.words → AllByRecursion (IsElement k) es → AllByRecursion (λ e. e ≡ 0) (drop (length ws) es)
    → Chain l k (mono (pre ++ zeros (length es)) []) (word_factors (length pre) ws es) (mono (pre ++ es) [])
words_chain l k [] es pre within low none = λ i. mono (pre ++ all_zeros es none i) []
words_chain l k (w ∷ ws) [] pre within low none = refl
words_chain l k (w ∷ ws) (e ∷ es) pre within low none =
    let n : length (pre ++ e ∷ []) ≡ suc (length pre) = length-append pre (e ∷ []) ∙ add-one (length pre) in
    let later = words_chain l k ws es (pre ++ e ∷ []) (omega arith) low.1 none in
    let A : List ℕ → Type 0 = λ xs. Chain l k (mono xs []) (word_factors (length (pre ++ e ∷ [])) ws es) (mono (pre ++ e ∷ [] ++ es) []) in
    let B : List ℕ → Type 0 = λ ys. Chain l k (mono (pre ++ e ∷ zeros (length es)) []) (word_factors (length (pre ++ e ∷ [])) ws es) (mono ys []) in
    let C : ℕ → Type 0 = λ i. Chain l k (mono (pre ++ e ∷ zeros (length es)) []) (word_factors i ws es) (mono (pre ++ e ∷ es) []) in
    let rest : C (suc (length pre)) = subst C n (subst B (append_assoc pre (e ∷ []) es) (subst A (append_assoc pre (e ∷ []) (zeros (length es))) later)) in
    elim (cases_eq e 0) [
      | inl is ↦
          let P : List Factor → Type 0 = λ fs. Chain l k (mono (pre ++ 0 ∷ zeros (length es)) []) fs (mono (pre ++ e ∷ es) []) in
          let S : ℕ → Type 0 = λ x. Chain l k (mono (pre ++ x ∷ zeros (length es)) []) (word_factors (suc (length pre)) ws es) (mono (pre ++ e ∷ es) []) in
          subst P (sym (ap (λ b. cond b (word_factors (suc (length pre)) ws es) (power (length pre) e ∷ word_factors (suc (length pre)) ws es)) (eq-eqb e 0 is))) (subst S is rest)
      | inr some ↦
          let P : List Factor → Type 0 = λ fs. Chain l k (mono (pre ++ 0 ∷ zeros (length es)) []) fs (mono (pre ++ e ∷ es) []) in
          let R : List ℕ → Type 0 = λ xs. Chain l k (mono xs []) (word_factors (suc (length pre)) ws es) (mono (pre ++ e ∷ es) []) in
          subst P (sym (ap (λ b. cond b (word_factors (suc (length pre)) ws es) (power (length pre) e ∷ word_factors (suc (length pre)) ws es)) (ne_eqb e 0 some)))
          ((omega arith, get_after pre (zeros (length es)), omega arith, low.0), subst R (sym (set_after pre (zeros (length es)) e)) rest)
    ]

-- ---- the factors of a monomial

chain_append : (l : Labelling) (k : ℕ) (a b c : Monomial) (fs gs : List Factor) → Chain l k a fs b → Chain l k b gs c → Chain l k a (fs ++ gs) c
chain_append l k a b c [] gs p q = let P : Monomial → Type 0 = λ x. Chain l k x gs c in subst P (sym p) q
chain_append l k a b c (f ∷ fs) gs p q = (p.0, chain_append l k (put a f) b c fs gs p.1 q)

abbrev pub factors : Labelling → Monomial → List Factor
factors l m = word_factors 0 l.words m.exponents ++ bit_factors m.bits

no_bits : (rs : List ℕ) → AllByRecursion (λ q. Below q []) rs
no_bits [] = tt
no_bits (r ∷ rs) = (tt, no_bits rs)

pub factors_chain : (l : Labelling) (k : ℕ) (m : Monomial) → length m.exponents ≡ 8 → AllByRecursion (IsElement k) m.exponents → AllByRecursion (λ e. e ≡ 0) (drop (length l.words) m.exponents)
    → AllByRecursion (λ r. r < bit_count l.words + length l.nets) m.bits → IsStrictlySortedBy nat_cmp m.bits → Chain l k (mono (zeros 8) []) (factors l m) m
factors_chain l k m long low none named up =
    let P : ℕ → Type 0 = λ n. Chain l k (mono (zeros n) []) (word_factors 0 l.words m.exponents) (mono m.exponents []) in
    chain_append l k (mono (zeros 8) []) (mono m.exponents []) m (word_factors 0 l.words m.exponents) (bit_factors m.bits)
    (subst P long (words_chain l k l.words m.exponents [] (omega arith) low none)) (bits_chain l k m.exponents [] m.bits named up (no_bits m.bits))

-- ---- their texts

texts_of_bits : (l : Labelling) (rs : List ℕ) → map (factor_text l) (bit_factors rs) ≡ map (rank_text l.words l.nets) rs
texts_of_bits l [] = refl
texts_of_bits l (r ∷ rs) = ap (λ xs. rank_text l.words l.nets r ∷ xs) (texts_of_bits l rs)

one_of : (b : Bool) (x y : List ℕ) → cond b (x ∷ []) (y ∷ []) ≡ cond b x y ∷ []
one_of true x y = refl
one_of false x y = refl

first_dropped : (xs : List (List ℕ × ℕ)) (i : ℕ) (w : List ℕ × ℕ) (ws : List (List ℕ × ℕ)) (d : List ℕ × ℕ) → drop i xs ≡ w ∷ ws → (get_or xs i d ≡ w) × (drop (suc i) xs ≡ ws)
first_dropped [] zero w ws d e = cc
first_dropped [] (suc i) w ws d e = cc
first_dropped (x ∷ xs) zero w ws d e = (ap (λ (ys : List (List ℕ × ℕ)). get_or ys 0 d) e, ap (λ (ys : List (List ℕ × ℕ)). drop 1 ys) e)
first_dropped (x ∷ xs) (suc i) w ws d e = first_dropped xs i w ws d e

texts_of_words : (l : Labelling) (i : ℕ) (ws : List (List ℕ × ℕ)) (es : List ℕ) → drop i l.words ≡ ws → map (factor_text l) (word_factors i ws es) ≡ powers_texts ws es
texts_of_words l i [] es e = refl
texts_of_words l i (w ∷ ws) [] e = refl
texts_of_words l i (w ∷ ws) (x ∷ es) e =
    let parts = first_dropped l.words i w ws ([], 0) e in
    let later = texts_of_words l (suc i) ws es parts.1 in
    elim (x == 0) as (λ b. map (factor_text l) (cond b (word_factors (suc i) ws es) (power i x ∷ word_factors (suc i) ws es)) ≡ cond b [] (cond (x == 1) (w.0 ∷ []) ((w.0 ++ codes "^" ++ decimal x) ∷ [])) ++ powers_texts ws es) [
      | true ↦ later
      | false ↦ (λ j. power_text (parts.0 j).0 x ∷ later j) ∙ ap (λ (xs : List (List ℕ)). xs ++ powers_texts ws es) (sym (one_of (x == 1) w.0 (w.0 ++ codes "^" ++ decimal x)))
    ]

texts_append : (l : Labelling) (fs gs : List Factor) → map (factor_text l) (fs ++ gs) ≡ map (factor_text l) fs ++ map (factor_text l) gs
texts_append l [] gs = refl
texts_append l (f ∷ fs) gs = ap (λ xs. factor_text l f ∷ xs) (texts_append l fs gs)

pub factors_texts : (l : Labelling) (m : Monomial) → map (factor_text l) (factors l m) ≡ variable_texts l m
factors_texts l m = texts_append l (word_factors 0 l.words m.exponents) (bit_factors m.bits) ∙ (λ i. texts_of_words l 0 l.words m.exponents refl i ++ texts_of_bits l m.bits i)

joined_tail : (l : Labelling) (x : List ℕ) (fs : List Factor) → joined (codes "*") (x ∷ map (factor_text l) fs) ≡ x ++ tail_text l fs
joined_tail l x [] = sym (append-nil x)
joined_tail l x (f ∷ fs) = ap (λ (y : List ℕ). x ++ 42 ∷ [] ++ y) (joined_tail l (factor_text l f) fs) ∙ append_assoc x (42 ∷ []) (factor_text l f ++ tail_text l fs)

-- the text of a term with these factors
abbrev pub term_shape : Labelling → ℕ → List Factor → List ℕ
term_shape l c [] = hex_text c
term_shape l c (f ∷ fs) = cond (c == 1) (factor_text l f ++ tail_text l fs) (hex_text c ++ tail_text l (f ∷ fs))

term_joined : (l : Labelling) (c : ℕ) (fs : List Factor) → joined (codes "*") (factor_texts c (map (factor_text l) fs)) ≡ term_shape l c fs
term_joined l c [] = elim (c == 1) as (λ b. joined (codes "*") (cond (b && false) [] (hex_text c ∷ [])) ≡ hex_text c) [ true ↦ refl | false ↦ refl ]
term_joined l c (f ∷ fs) =
    elim (c == 1) as (λ b. joined (codes "*") (cond (b && true) (factor_text l f ∷ map (factor_text l) fs) (hex_text c ∷ factor_text l f ∷ map (factor_text l) fs)) ≡ cond b (factor_text l f ++ tail_text l fs) (hex_text c ++ tail_text l (f ∷ fs))) [
      | true ↦ joined_tail l (factor_text l f) fs
      | false ↦ joined_tail l (hex_text c) (f ∷ fs)
    ]

pub term_written : (l : Labelling) (t : Monomial × ℕ) → term_text l t ≡ term_shape l t.1 (factors l t.0)
term_written l t = ap (λ (xs : List (List ℕ)). joined (codes "*") (factor_texts t.1 xs)) (sym (factors_texts l t.0)) ∙ term_joined l t.1 (factors l t.0)

-- ---- the sum of the terms

plus_term_last : (ts : Terms) (u : Monomial × ℕ) → AllByRecursion (λ t. text_cmp t.0 u.0 ≡ Less) ts → plus_term text_cmp ts u ≡ ts ++ u ∷ []
plus_term_last [] u all = refl
plus_term_last (t ∷ ts) u all =
    let greater : text_cmp u.0 t.0 ≡ Greater = text_cmp_total.antisymm u.0 t.0 ∙ ap ordering_reverse all.0 in
    ap (λ r. match_ordering r (u ∷ t ∷ ts) (with_coefficient t.0 (bit_xor t.1 u.1) ts) (t ∷ plus_term text_cmp ts u)) greater
    ∙ ap (λ xs. t ∷ xs) (plus_term_last ts u all.1)

added_last : (ts : Terms) (c : ℕ) (m : Monomial) → c ≢ 0 → AllByRecursion (λ t. text_cmp t.0 m ≡ Less) ts → added ts c m ≡ ts ++ (m, c) ∷ []
added_last ts c m n all = ap (λ b. plus text_cmp ts (cond b [] ((m, c) ∷ []))) (ne_eqb c 0 n) ∙ plus_term_last ts (m, c) all

abbrev pub total : Terms → Terms → Terms
total sum [] = sum
total sum (t ∷ ts) = total (added sum t.1 t.0) ts

-- the terms of one list stand before those of the other
abbrev Before : Terms → Terms → Type 0
Before ts us = AllByRecursion (λ u. AllByRecursion (λ t. text_cmp t.0 u.0 ≡ Less) ts) us

more_before : (ts us : Terms) (v : Monomial × ℕ) → Before ts us → AllByRecursion (λ y. text_cmp v.0 y ≡ Less) (keys_of us) → Before (ts ++ v ∷ []) us
more_before ts [] v all up = tt
more_before ts (u ∷ us) v all up = (all_more (λ t. text_cmp t.0 u.0 ≡ Less) ts v all.0 up.0, more_before ts us v all.1 up.1)

total_appends : (sum ts : Terms) → AllByRecursion (λ t. t.1 ≢ 0) ts → IsStrictlySortedBy text_cmp (keys_of ts) → Before sum ts → total sum ts ≡ sum ++ ts
unfolding IsStrictlySortedBy
total_appends sum [] n s before = sym (append-nil sum)
total_appends sum (t ∷ ts) n s before =
    ap (λ (xs : Terms). total xs ts) (added_last sum t.1 t.0 n.0 before.0)
    ∙ total_appends (sum ++ t ∷ []) ts n.1 s.1 (more_before sum ts t before.1 s.0)
    ∙ append_assoc sum (t ∷ []) ts

nothing_before : (ts : Terms) → Before [] ts
nothing_before [] = tt
nothing_before (t ∷ ts) = (tt, nothing_before ts)

pub total_is : (ts : Terms) → IsMap ts → total [] ts ≡ ts
total_is ts map = total_appends [] ts map.nonzero map.sorted (nothing_before ts)
