-- The factors of a term, printed and read back.
use Rattle.std.proofs.Common.{◌≡◌, ℕ, zero, suc, ◌+◌, ◌^◌, ◌<◌, ◌≤◌, Bool, true, false, cond, List, [], ◌∷◌, ◌++◌, length, nat_lt, ◌==◌, Ok, Err, Result, slice_set, get_or, decimal, inl, inr, refl, sym, ◌∙◌, ap, subst, arith, length-append}
use Rattle.std.proofs.Math.Nat.{pow-le-pow_right}
use Rattle.std.proofs.lemmas.Bool.{ne_eqb, eq-eqb, lt-ltb, cases_eq}
use Rattle.std.proofs.lemmas.List.{append_assoc, append-nil}
use Rattle.std.proofs.lemmas.Grind.{common_steps}
use Rattle.std.specs.Char.{IsAsciiAlphabetic}
use Rattle.std.specs.List.{AllByRecursion}
use Rattle.text_core.specs.Lines.{is_blank}
use Rattle.std.specs.Fmt.{digits}
use Rattle.text_core.specs.Names.{IsName}
use Rattle.text_core.specs.Numbers.{value_of, hex_text}
use Rattle.poly_mixed.specs.Labels.{Labelling, AreLabels, IsWord, bit_count, rank_text}
use Rattle.poly_mixed.specs.Monomial.{Monomial, has_bit}
use Rattle.poly_mixed.specs.Polynomial.{Terms}
use Rattle.poly_mixed.specs.Product.{with_rank}
use Rattle.poly_mixed.specs.Said.{one}
use Rattle.poly_mixed.specs.private.Reading.{Progress, more, variable_at, with_variable, exponent_in, next_at, factor_at, after_factor, after_zero, coefficient_at, zero_at, step_at, term_at, read_on}
use Rattle.text_core.specs.Scan.{skip, is_hex_digit}
use Rattle.poly_mixed.specs.declared.fault.PolyFault.{PolyFault}
use Rattle.poly_mixed.specs.declared.fault.PolyFault.TheVariants.{Syntax}
use Rattle.text_core.proofs.RunLemmas.{skip_none, run_front, after_front}
use Rattle.text_core.proofs.WrittenLemmas.{hex_digits_64}
use Rattle.poly_mixed.proofs.ScannedLemmas.{IsEnd, power_text, power_scanned, rank_scanned_bit, rank_scanned_net}
use Rattle.poly_mixed.proofs.SpelledLemmas.{rank_spelled, word_at_place}

-- a power of a word, or a bit or net
pub data Factor : Type 0 where
  power : ℕ → ℕ → Factor
  bit : ℕ → Factor

abbrev pub factor_text : Labelling → Factor → List ℕ
factor_text l (power w e) = power_text (get_or l.words w ([], 0)).0 e
factor_text l (bit r) = rank_text l.words l.nets r

abbrev pub put : Monomial → Factor → Monomial
put m (power w e) = record { exponents = slice_set m.exponents w e; bits = m.bits }
put m (bit r) = record { exponents = m.exponents; bits = with_rank m.bits r }

abbrev pub Fits : Labelling → ℕ → Monomial → Factor → Type 0
Fits l k m (power w e) = (w < length l.words) × (get_or m.exponents w 0 ≡ 0) × (1 ≤ e) × (e < 2 ^ k)
Fits l k m (bit r) = (r < bit_count l.words + length l.nets) × (has_bit r m ≡ false)

-- the factors, put into m one by one, make n
abbrev pub Chain : Labelling → ℕ → Monomial → List Factor → Monomial → Type 0
Chain l k m [] n = m ≡ n
Chain l k m (f ∷ fs) n = Fits l k m f × Chain l k (put m f) fs n

-- the factors after a first one
abbrev pub tail_text : Labelling → List Factor → List ℕ
tail_text l [] = []
tail_text l (f ∷ fs) = 42 ∷ (factor_text l f ++ tail_text l fs)

-- a byte that is no blank and no `0`
abbrev pub Begins : List ℕ → Type 0
Begins [] = ⊥
Begins (b ∷ bs) = (is_blank b ≡ false) × ((b == 48) ≡ false)

letter_begins : (b : ℕ) → IsAsciiAlphabetic b → (is_blank b ≡ false) × ((b == 48) ≡ false)
letter_begins b h = (grind (arith, common_steps), grind (arith, common_steps))

begins_more : (xs ys : List ℕ) → Begins xs → Begins (xs ++ ys)
begins_more [] ys h = absurd h
begins_more (x ∷ xs) ys h = h

name_begins : (name : List ℕ) → IsName name → Begins name
name_begins [] is = absurd (let h = is.some in omega arith)
name_begins (b ∷ bs) is = letter_begins b is.letter

pub skip_begins : (xs : List ℕ) → Begins xs → skip xs ≡ xs
skip_begins [] h = absurd h
skip_begins (b ∷ bs) h = skip_none b bs h.0

word_named : (ws : List (List ℕ × ℕ)) (i : ℕ) (d : List ℕ × ℕ) → AllByRecursion IsWord ws → i < length ws → IsName (get_or ws i d).0
word_named [] i d all h = absurd (omega arith)
word_named (w ∷ ws) zero d all h = all.0.0
word_named (w ∷ ws) (suc i) d all h = word_named ws i d all.1 (omega arith)

pub star_end : (x : List ℕ) → IsEnd (42 ∷ x)
star_end x = record { name = refl; digit = refl; hex = refl; index = refl; caret = λ k. ap (exponent_in k (42 ∷ x)) (skip_none 42 x refl) }

-- from this on, with enough turns, r is read
abbrev pub Leads : Labelling → ℕ → ℕ → Result Progress PolyFault → Result Terms PolyFault → Type 0
Leads l k b said r = (n : ℕ) → b ≤ n → read_on n l k said ≡ r

pub turn : (l : Labelling) (k b : ℕ) (starts : Bool) (sum : Terms) (c : ℕ) (m : Monomial) (rest : List ℕ) (r : Result Terms PolyFault) → Leads l k b (step_at l k starts sum c m rest) r → Leads l k (suc b) (Ok (more starts sum c m rest)) r
turn l k b starts sum c m rest r h zero le = absurd (omega arith)
turn l k b starts sum c m rest r h (suc n) le = h n (omega arith)

module _ (l : Labelling) (k : ℕ) (are : AreLabels l) (some : 1 ≤ k) (small : k ≤ 64) (few : bit_count l.words + length l.nets ≤ 2 ^ 32) where
  pub factor_begins : (m : Monomial) (f : Factor) → Fits l k m f → Begins (factor_text l f)
  factor_begins m (power w e) fit =
      let name = (get_or l.words w ([], 0)).0 in
      let begins = name_begins name (word_named l.words w ([], 0) are.words fit.0) in
      elim (e == 1) as (λ v. Begins (cond v name (name ++ 94 ∷ [] ++ decimal e))) [ true ↦ begins | false ↦ begins_more (name ++ 94 ∷ []) (decimal e) (begins_more name (94 ∷ []) begins) ]
  factor_begins m (bit r) fit =
      elim (rank_spelled l.words l.nets r are.words are.names are.numbers are.nets fit.0) [
        | inl b ↦ (let P : List ℕ → Type 0 = Begins in subst P (sym b.text) (begins_more (b.name ++ 91 ∷ [] ++ decimal b.place) (93 ∷ []) (begins_more (b.name ++ 91 ∷ []) (decimal b.place) (begins_more b.name (91 ∷ []) (name_begins b.name b.is_name)))))
        | inr n ↦ (let P : List ℕ → Type 0 = Begins in subst P (sym n.text) (refl, refl))
      ]

  factor_scanned : (m : Monomial) (f : Factor) (s : List ℕ) → Fits l k m f → IsEnd s → with_variable k m (variable_at l (factor_text l f ++ s)) ≡ Ok (put m f, s)
  factor_scanned m (power w e) s fit end =
      power_scanned l k m (get_or l.words w ([], 0)).0 s w e (word_named l.words w ([], 0) are.words fit.0) (word_at_place l.words w ([], 0) are.names fit.0) (let h = are.few in let g = fit.0 in omega arith) fit.1 fit.2 fit.3 (wide e fit.3) end
    where
      wide : (e : ℕ) → e < 2 ^ k → e < 2 ^ 64
      wide e h = let le : 2 ^ k ≤ 2 ^ 64 = pow-le-pow_right (omega arith) small in omega arith
  factor_scanned m (bit r) s fit end =
      let low : r < 2 ^ 32 = (let h = fit.0 in omega arith) in
      ap (with_variable k m) (elim (rank_spelled l.words l.nets r are.words are.names are.numbers are.nets fit.0) [
        | inl b ↦ rank_scanned_bit l s r b
        | inr n ↦ rank_scanned_net l s r end.digit low n
      ])
      ∙ ap (λ v. cond v (Err Syntax) (Ok (put m (bit r), s))) fit.1

  weaker : (a b : ℕ) (said : Result Progress PolyFault) (r : Result Terms PolyFault) → a ≤ b → Leads l k a said r → Leads l k b said r
  weaker a b said r le h n le' = h n (omega arith)

  along : (b : ℕ) (said other : Result Progress PolyFault) (r : Result Terms PolyFault) → said ≡ other → Leads l k b other r → Leads l k b said r
  along b said other r e h n le = ap (read_on n l k) e ∙ h n le

  tail_end : (fs : List Factor) (rest : List ℕ) → IsEnd rest → IsEnd (tail_text l fs ++ rest)
  tail_end [] rest end = end
  tail_end (f ∷ fs) rest end = star_end (factor_text l f ++ tail_text l fs ++ rest)

  -- one factor, and what stands after it
  factor_next : (sum : Terms) (c : ℕ) (m : Monomial) (f : Factor) (s : List ℕ) → Fits l k m f → IsEnd s → factor_at l k sum c m (factor_text l f ++ s) ≡ next_at sum c (put m f) (skip s)
  factor_next sum c m f s fit end = ap (after_factor sum c) (factor_scanned m f s fit end)

  -- the factors after a first one
  pub star_lead : (fs : List Factor) (sum : Terms) (c : ℕ) (m n : Monomial) (rest : List ℕ) (r : Result Terms PolyFault) → Chain l k m fs n → IsEnd rest
      → Leads l k (length rest) (next_at sum c n (skip rest)) r → Leads l k (length (tail_text l fs ++ rest)) (next_at sum c m (skip (tail_text l fs ++ rest))) r
  star_lead [] sum c m n rest r chain end h = along (length rest) _ _ r (ap (λ (q : Monomial). next_at sum c q (skip rest)) chain) h
  star_lead (f ∷ fs) sum c m n rest r chain end h =
      let x = factor_text l f ++ tail_text l fs ++ rest in
      let s = tail_text l fs ++ rest in
      let shape : x ≡ factor_text l f ++ s = append_assoc (factor_text l f) (tail_text l fs) rest in
      let begins : Begins (factor_text l f ++ s) = begins_more (factor_text l f) s (factor_begins m f chain.0) in
      let later : Leads l k (length s) (next_at sum c (put m f) (skip s)) r = star_lead fs sum c (put m f) n rest r chain.1 end h in
      let read : factor_at l k sum c m (skip x) ≡ next_at sum c (put m f) (skip s) =
      ap (λ (y : List ℕ). factor_at l k sum c m (skip y)) shape ∙ ap (factor_at l k sum c m) (skip_begins (factor_text l f ++ s) begins) ∙ factor_next sum c m f s chain.0 (tail_end fs rest end) in
      let longer : length s ≤ length x = (let e = ap length shape in omega (arith, length-append (factor_text l f) s)) in
      along (suc (length x)) _ _ r (ap (next_at sum c m) (skip_none 42 x refl))
      (turn l k (length x) false sum c m x r (weaker (length s) (length x) _ r longer (along (length s) _ _ r read later)))

  -- ---- terms

  -- the text of a term with these factors
  abbrev pub term_of : ℕ → List Factor → List ℕ
  term_of c [] = hex_text c
  term_of c (f ∷ fs) = cond (c == 1) (factor_text l f ++ tail_text l fs) (hex_text c ++ tail_text l (f ∷ fs))

  hex_lead : (fs : List Factor) (sum : Terms) (c : ℕ) (n : Monomial) (rest : List ℕ) (r : Result Terms PolyFault) → Chain l k one fs n → c < 2 ^ k → IsEnd rest
      → Leads l k (length rest) (next_at sum c n (skip rest)) r → Leads l k (length (hex_text c ++ tail_text l fs ++ rest)) (term_at l k sum (skip (hex_text c ++ tail_text l fs ++ rest))) r
  hex_lead fs sum c n rest r chain small' end h =
      let s = tail_text l fs ++ rest in
      let wide : c < 2 ^ 64 = (let le : 2 ^ k ≤ 2 ^ 64 = pow-le-pow_right (omega arith) small in omega arith) in
      let d = hex_digits_64 c wide in
      let ds = digits 16 false c in
      let stops = (tail_end fs rest end).hex in
      let shape : hex_text c ++ tail_text l fs ++ rest ≡ hex_text c ++ s = append_assoc (hex_text c) (tail_text l fs) rest in
      let read : term_at l k sum (skip (hex_text c ++ s)) ≡ next_at sum c one (skip s) =
      ap (term_at l k sum) (skip_none 48 (120 ∷ (ds ++ s)) refl)
      ∙ ap (λ (q : List ℕ). cond (nat_lt 0 (length q)) (coefficient_at k sum (ds ++ s)) (after_zero sum (skip (120 ∷ (ds ++ s))))) (run_front is_hex_digit ds s d.pass stops)
      ∙ ap (λ v. cond v (coefficient_at k sum (ds ++ s)) (after_zero sum (skip (120 ∷ (ds ++ s))))) (lt-ltb 0 (length ds) d.some)
      ∙ (λ i. cond (nat_lt (value_of 16 (run_front is_hex_digit ds s d.pass stops i)) (2 ^ k)) (next_at sum (value_of 16 (run_front is_hex_digit ds s d.pass stops i)) one (skip (after_front is_hex_digit ds s d.pass stops i))) (Err Syntax))
      ∙ ap (λ (v : ℕ). cond (nat_lt v (2 ^ k)) (next_at sum v one (skip s)) (Err Syntax)) d.value
      ∙ ap (λ v. cond v (next_at sum c one (skip s)) (Err Syntax)) (lt-ltb c (2 ^ k) small') in
      let longer : length s ≤ length (hex_text c ++ tail_text l fs ++ rest) = (let e = ap length shape in omega (arith, length-append (hex_text c) s)) in
      weaker (length s) _ _ r longer (along (length s) _ _ r (ap (λ (y : List ℕ). term_at l k sum (skip y)) shape ∙ read) (star_lead fs sum c one n rest r chain end h))

  bare_lead : (f : Factor) (fs : List Factor) (sum : Terms) (n : Monomial) (rest : List ℕ) (r : Result Terms PolyFault) → Chain l k one (f ∷ fs) n → IsEnd rest
      → Leads l k (length rest) (next_at sum 1 n (skip rest)) r → Leads l k (length (factor_text l f ++ tail_text l fs ++ rest)) (term_at l k sum (skip (factor_text l f ++ tail_text l fs ++ rest))) r
  bare_lead f fs sum n rest r chain end h =
      let s = tail_text l fs ++ rest in
      let x = factor_text l f ++ tail_text l fs ++ rest in
      let shape : x ≡ factor_text l f ++ s = append_assoc (factor_text l f) (tail_text l fs) rest in
      let begins : Begins (factor_text l f ++ s) = begins_more (factor_text l f) s (factor_begins one f chain.0) in
      let read : term_at l k sum (skip x) ≡ next_at sum 1 (put one f) (skip s) =
      ap (λ (y : List ℕ). term_at l k sum (skip y)) shape ∙ ap (term_at l k sum) (skip_begins (factor_text l f ++ s) begins)
      ∙ no_zero (factor_text l f ++ s) sum begins ∙ factor_next sum 1 one f s chain.0 (tail_end fs rest end) in
      let longer : length s ≤ length x = (let e = ap length shape in omega (arith, length-append (factor_text l f) s)) in
      weaker (length s) _ _ r longer (along (length s) _ _ r read (star_lead fs sum 1 (put one f) n rest r chain.1 end h))
    where
      no_zero : (xs : List ℕ) (sum : Terms) → Begins xs → term_at l k sum xs ≡ factor_at l k sum 1 one xs
      no_zero [] sum b = absurd b
      no_zero (x ∷ xs) sum b = ap (λ v. cond v (zero_at k sum xs) (factor_at l k sum 1 one (x ∷ xs))) b.1

  pub term_lead : (fs : List Factor) (sum : Terms) (c : ℕ) (n : Monomial) (rest : List ℕ) (r : Result Terms PolyFault) → Chain l k one fs n → c < 2 ^ k → IsEnd rest
      → Leads l k (length rest) (next_at sum c n (skip rest)) r → Leads l k (length (term_of c fs ++ rest)) (term_at l k sum (skip (term_of c fs ++ rest))) r
  term_lead [] sum c n rest r chain low end h =
      let e : hex_text c ++ [] ++ rest ≡ hex_text c ++ rest = ap (λ (y : List ℕ). y ++ rest) (append-nil (hex_text c)) in
      let P : List ℕ → Type 0 = λ y. Leads l k (length y) (term_at l k sum (skip y)) r in
      subst P e (hex_lead [] sum c n rest r chain low end h)
  term_lead (f ∷ fs) sum c n rest r chain low end h =
      let P : Bool → Type 0 = λ v. Leads l k (length (cond v (factor_text l f ++ tail_text l fs) (hex_text c ++ tail_text l (f ∷ fs)) ++ rest)) (term_at l k sum (skip (cond v (factor_text l f ++ tail_text l fs) (hex_text c ++ tail_text l (f ∷ fs)) ++ rest))) r in
      elim (cases_eq c 1) [
        | inl is ↦ subst P (sym (eq-eqb c 1 is)) (bare_lead f fs sum n rest r chain end (let Q : ℕ → Type 0 = λ v. Leads l k (length rest) (next_at sum v n (skip rest)) r in subst Q is h))
        | inr ne ↦ subst P (sym (ne_eqb c 1 ne)) (hex_lead (f ∷ fs) sum c n rest r chain low end h)
      ]
