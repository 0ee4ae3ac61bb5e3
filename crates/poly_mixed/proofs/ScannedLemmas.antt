-- A printed variable is read back.
use Rattle.std.proofs.Common.{◌≡◌, ℕ, ◌+◌, ◌^◌, ◌<◌, ◌≤◌, true, false, cond, ◌&&◌, List, [], ◌∷◌, ◌++◌, length, drop, nat_lt, ◌==◌, Some, None, Ok, Err, slice_set, get_or, decimal, codes, inl, inr, refl, sym, ◌∙◌, ap, arith}
use Rattle.std.proofs.lemmas.Bool.{ne_eqb, eq-eqb, lt-ltb, cases_eq}
use Rattle.std.proofs.lemmas.List.{append_assoc}
use Rattle.std.proofs.lemmas.Grind.{common_steps}
use Rattle.std.specs.Char.{IsAsciiAlphabetic}
use Rattle.std.specs.Option.{option_and_then}
use Rattle.std.proofs.Math.Seq.{drop-append_seam}
use Rattle.text_core.specs.Lines.{is_blank}
use Rattle.text_core.specs.Names.{IsName}
use Rattle.text_core.specs.Numbers.{value_of}
use Rattle.poly_mixed.specs.Labels.{Labelling, bit_count, rank_text, bit_text, net_text, word_of, bit_of, net_of}
use Rattle.poly_mixed.specs.Monomial.{Monomial}
use Rattle.poly_mixed.specs.Said.{net_rank}
use Rattle.poly_mixed.specs.private.Reading.{variable_at, named_at, name_at, net_at, net_found, bit_found, word_found, number_at, exponent_in, exponent_at, with_exponent, with_variable}
use Rattle.text_core.specs.Scan.{run, skip, name_of, index_of, closed_by, is_digit, is_hex_digit, is_letter, is_name_byte}
use Rattle.poly_mixed.specs.declared.fault.PolyFault.TheVariants.{Syntax}
use Rattle.poly_mixed.specs.declared.variables.Variable.TheVariants.{Word, Rank}
use Rattle.text_core.proofs.RunLemmas.{Stops, Passes, run_front, after_front, skip_none}
use Rattle.text_core.proofs.WrittenLemmas.{decimal_digits}
use Rattle.poly_mixed.proofs.SpelledLemmas.{name_front, IsBitText, IsNetText}
use Rattle.text_core.proofs.ByteLemmas.{letter}

-- what may stand after a printed variable
pub record IsEnd (s : List ℕ) : Type 0 where
  pub name : Stops is_name_byte s
  pub digit : Stops is_digit s
  pub hex : Stops is_hex_digit s
  pub index : index_of s ≡ None
  pub caret : (k : ℕ) → exponent_in k s (skip s) ≡ Ok (1, s)

not_at : (b : ℕ) → IsAsciiAlphabetic b → (b == 64) ≡ false
not_at b h = grind (arith, common_steps)

name_scanned : (l : Labelling) (name t : List ℕ) → IsName name → Stops is_name_byte t → variable_at l (name ++ t) ≡ named_at l name t (index_of t)
name_scanned l [] t is s = absurd (let h = is.some in omega arith)
name_scanned l (b ∷ bs) t is s =
    let x = b ∷ (bs ++ t) in
    let front : name_of x ≡ b ∷ bs = name_front (b ∷ bs) t is s in
    let rest : drop (length (name_of x)) x ≡ t = ap (λ (n : List ℕ). drop (length n) x) front ∙ drop-append_seam (b ∷ bs) t in
    ap (λ v. cond v (net_at l (bs ++ t)) (cond (is_letter b) (name_at l x (drop (length (name_of x)) x)) (Err Syntax))) (not_at b is.letter)
    ∙ ap (λ v. cond v (name_at l x (drop (length (name_of x)) x)) (Err Syntax)) (letter b is.letter)
    ∙ (λ i. named_at l (front i) (rest i) (index_of (rest i)))

some_digits : (ds : List ℕ) → 0 < length ds → nat_lt 0 (length ds) ≡ true
some_digits ds h = lt-ltb 0 (length ds) h

bit_scanned : (l : Labelling) (name s : List ℕ) (place r : ℕ) → IsName name → place < 2 ^ 64 → bit_of l.words name place ≡ Some r → variable_at l (bit_text name place ++ s) ≡ Ok (Rank r, s)
bit_scanned l name s place r is small found =
    let d = decimal_digits place small in
    let t = 91 ∷ (decimal place ++ 93 ∷ s) in
    let shape : bit_text name place ++ s ≡ name ++ t =
    append_assoc (name ++ codes "[" ++ decimal place) (codes "]") s ∙ append_assoc (name ++ codes "[") (decimal place) (93 ∷ s) ∙ append_assoc name (codes "[") (decimal place ++ 93 ∷ s) in
    let inside : index_of t ≡ Some (decimal place, s) =
    (λ i. closed_by (run_front is_digit (decimal place) (93 ∷ s) d.pass refl i) (after_front is_digit (decimal place) (93 ∷ s) d.pass refl i))
    ∙ ap (λ v. cond v (Some (decimal place, s)) None) (some_digits (decimal place) d.some) in
    ap (variable_at l) shape ∙ name_scanned l name t is refl ∙ ap (named_at l name t) inside
    ∙ ap (λ n. bit_found (bit_of l.words name n) s) d.value ∙ ap (λ o. bit_found o s) found

net_scanned : (l : Labelling) (s : List ℕ) (number place r : ℕ) → Stops is_digit s → number < 2 ^ 64 → net_of l.nets number ≡ Some place → bit_count l.words + place ≡ r → r < 2 ^ 32 → variable_at l (net_text number ++ s) ≡ Ok (Rank r, s)
net_scanned l s number place r stop small found rank low =
    let d = decimal_digits number small in
    let runs : run is_digit (decimal number ++ s) ≡ decimal number = run_front is_digit (decimal number) s d.pass stop in
    let ranked : net_rank l number ≡ Some r =
    ap (option_and_then (λ i. cond (nat_lt (bit_count l.words + i) (2 ^ 32)) (Some (bit_count l.words + i)) None)) found
    ∙ ap (λ q. cond (nat_lt q (2 ^ 32)) (Some q) None) rank
    ∙ ap (λ v. cond v (Some r) None) (lt-ltb r (2 ^ 32) low) in
    (λ i. cond (nat_lt 0 (length (runs i))) (net_found (net_rank l (value_of 10 (runs i))) (after_front is_digit (decimal number) s d.pass stop i)) (Err Syntax))
    ∙ ap (λ v. cond v (net_found (net_rank l (value_of 10 (decimal number))) s) (Err Syntax)) (some_digits (decimal number) d.some)
    ∙ ap (λ n. net_found (net_rank l n) s) d.value ∙ ap (λ o. net_found o s) ranked

pub rank_scanned_bit : (l : Labelling) (s : List ℕ) (r : ℕ) → IsBitText l.words l.nets r → variable_at l (rank_text l.words l.nets r ++ s) ≡ Ok (Rank r, s)
rank_scanned_bit l s r b = ap (λ (x : List ℕ). variable_at l (x ++ s)) b.text ∙ bit_scanned l b.name s b.place r b.is_name (let h = b.small in omega arith) b.found

pub rank_scanned_net : (l : Labelling) (s : List ℕ) (r : ℕ) → Stops is_digit s → r < 2 ^ 32 → IsNetText l.words l.nets r → variable_at l (rank_text l.words l.nets r ++ s) ≡ Ok (Rank r, s)
rank_scanned_net l s r stop low n = ap (λ (x : List ℕ). variable_at l (x ++ s)) n.text ∙ net_scanned l s n.number n.place r stop (let h = n.small in omega arith) n.found n.rank low

-- ---- a factor

-- a power of a word, whose exponent is not 0
abbrev pub power_text : List ℕ → ℕ → List ℕ
power_text name e = cond (e == 1) name (name ++ codes "^" ++ decimal e)

digit_not_blank : (b : ℕ) → is_digit b ≡ true → is_blank b ≡ false
digit_not_blank b h = grind (arith, common_steps)

pub skip_digits : (ds s : List ℕ) → 0 < length ds → Passes is_digit ds → skip (ds ++ s) ≡ ds ++ s
skip_digits [] s h p = absurd (omega arith)
skip_digits (d ∷ ds) s h p = skip_none d (ds ++ s) (digit_not_blank d p.0)

exponent_scanned : (k e : ℕ) (s : List ℕ) → 1 ≤ e → e < 2 ^ k → e < 2 ^ 64 → Stops is_digit s → exponent_at k (94 ∷ (decimal e ++ s)) ≡ Ok (e, s)
exponent_scanned k e s some small wide stop =
    let d = decimal_digits e wide in
    let bs = decimal e ++ s in
    let runs : run is_digit bs ≡ decimal e = run_front is_digit (decimal e) s d.pass stop in
    ap (exponent_in k (94 ∷ bs)) (skip_none 94 bs refl)
    ∙ ap (number_at k) (skip_digits (decimal e) s d.some d.pass)
    ∙ (λ i. cond (nat_lt 0 (value_of 10 (runs i)) && nat_lt (value_of 10 (runs i)) (2 ^ k)) (Ok (value_of 10 (runs i), after_front is_digit (decimal e) s d.pass stop i)) (Err Syntax))
    ∙ ap (λ (n : ℕ). cond (nat_lt 0 n && nat_lt n (2 ^ k)) (Ok (n, s)) (Err Syntax)) d.value
    ∙ (λ i. cond (lt-ltb 0 e some i && lt-ltb e (2 ^ k) small i) (Ok (e, s)) (Err Syntax))

word_put : (k : ℕ) (m : Monomial) (i : ℕ) (t : List ℕ) (e : ℕ) (s : List ℕ) → i < 8 → get_or m.exponents i 0 ≡ 0 → exponent_at k t ≡ Ok (e, s) → with_variable k m (Ok (Word i, t)) ≡ Ok (record { exponents = slice_set m.exponents i e; bits = m.bits }, s)
word_put k m i t e s low free is =
    (λ j. cond (lt-ltb i 8 low j && eq-eqb (get_or m.exponents i 0) 0 free j) (with_exponent m i (exponent_at k t)) (Err Syntax))
    ∙ ap (with_exponent m i) is

pub power_scanned : (l : Labelling) (k : ℕ) (m : Monomial) (name s : List ℕ) (i e : ℕ) → IsName name → word_of l.words name ≡ Some i → i < 8 → get_or m.exponents i 0 ≡ 0 → 1 ≤ e → e < 2 ^ k → e < 2 ^ 64 → IsEnd s
    → with_variable k m (variable_at l (power_text name e ++ s)) ≡ Ok (record { exponents = slice_set m.exponents i e; bits = m.bits }, s)
power_scanned l k m name s i e is found low free some small wide end =
    elim (cases_eq e 1) [
      | inl one ↦
          let text : power_text name e ≡ name = ap (λ v. cond v name (name ++ codes "^" ++ decimal e)) (eq-eqb e 1 one) in
          ap (λ (x : List ℕ). with_variable k m (variable_at l (x ++ s))) text
          ∙ ap (with_variable k m) (name_scanned l name s is end.name ∙ ap (named_at l name s) end.index ∙ ap (λ o. word_found o s) found)
          ∙ word_put k m i s e s low free (end.caret k ∙ ap (λ (n : ℕ). Ok (n, s)) (sym one))
      | inr more ↦
          let t = 94 ∷ (decimal e ++ s) in
          let text : power_text name e ++ s ≡ name ++ t =
          ap (λ v. cond v name (name ++ codes "^" ++ decimal e) ++ s) (ne_eqb e 1 more) ∙ append_assoc (name ++ codes "^") (decimal e) s ∙ append_assoc name (codes "^") (decimal e ++ s) in
          ap (λ (x : List ℕ). with_variable k m (variable_at l x)) text
          ∙ ap (with_variable k m) (name_scanned l name t is refl ∙ ap (λ o. word_found o t) found)
          ∙ word_put k m i t e s low free (exponent_scanned k e s some small wide end.digit)
    ]
