-- A variable and its exponent, read byte by byte, told by tokens.
use Rattle.std.proofs.Common.{◌≡◌, ◌≢◌, ℕ, ◌^◌, true, false, cond, ◌&&◌, List, [], ◌∷◌, length, drop, nat_lt, ◌==◌, Option, Some, None, Ok, Err, inl, inr, refl, sym, ◌∙◌, ap, subst, arith}
use Rattle.std.proofs.lemmas.Bool.{ne_eqb, cases_eq, eqb-true}
use Rattle.std.proofs.lemmas.Grind.{common_steps}
use Rattle.lists.specs.laws.BoolLaws.{both_true}
use Rattle.text_core.specs.Numbers.{value_of}
use Rattle.poly_mixed.specs.Labels.{Labelling, word_of, bit_of}
use Rattle.text_core.specs.Scan.{run, after, skip, name_of, index_of, is_digit, is_hex_digit, is_letter, has_digits}
use Rattle.poly_mixed.specs.Said.{net_rank}
use Rattle.poly_mixed.specs.private.Reading.{Scanned, net_found, bit_found, word_found, net_at, named_at, name_at, variable_at, number_at, exponent_in}
use Rattle.poly_mixed.specs.Token.{word, bit, net, variable, hex, figures, plus_sign, times_sign, power_sign, Front, net_front, name_with, name_front, number_front, sign_front, token_front}
use Rattle.poly_mixed.specs.declared.fault.PolyFault.TheVariants.{Syntax}
use Rattle.poly_mixed.specs.declared.variables.Variable.{Variable}
use Rattle.text_core.proofs.RunLemmas.{run_front}
use Rattle.poly_mixed.proofs.FrontLemmas.{by_front, by_number, by_sign}

-- ---- what a token says where a variable or an exponent is to come

abbrev pub variable_in : Labelling → Front → Scanned Variable
variable_in l None = Err Syntax
variable_in l (Some (variable (word n), rest)) = word_found (word_of l.words n) rest
variable_in l (Some (variable (bit n i), rest)) = bit_found (bit_of l.words n i) rest
variable_in l (Some (variable (net n), rest)) = net_found (net_rank l n) rest
variable_in l (Some (hex c, rest)) = Err Syntax
variable_in l (Some (figures ds, rest)) = Err Syntax
variable_in l (Some (plus_sign, rest)) = Err Syntax
variable_in l (Some (times_sign, rest)) = Err Syntax
variable_in l (Some (power_sign, rest)) = Err Syntax

abbrev pub number_in : ℕ → Front → Scanned ℕ
number_in k None = Err Syntax
number_in k (Some (figures ds, rest)) = cond (nat_lt 0 (value_of 10 ds) && nat_lt (value_of 10 ds) (2 ^ k)) (Ok (value_of 10 ds, rest)) (Err Syntax)
number_in k (Some (variable v, rest)) = Err Syntax
number_in k (Some (hex c, rest)) = Err Syntax
number_in k (Some (plus_sign, rest)) = Err Syntax
number_in k (Some (times_sign, rest)) = Err Syntax
number_in k (Some (power_sign, rest)) = Err Syntax

abbrev pub power_in : ℕ → List ℕ → Front → Scanned ℕ
power_in k bytes None = Ok (1, bytes)
power_in k bytes (Some (power_sign, rest)) = number_at k (skip rest)
power_in k bytes (Some (variable v, rest)) = Ok (1, bytes)
power_in k bytes (Some (hex c, rest)) = Ok (1, bytes)
power_in k bytes (Some (figures ds, rest)) = Ok (1, bytes)
power_in k bytes (Some (plus_sign, rest)) = Ok (1, bytes)
power_in k bytes (Some (times_sign, rest)) = Ok (1, bytes)

-- ---- a variable

pub variable_is : (l : Labelling) (bs : List ℕ) → variable_at l bs ≡ variable_in l (token_front bs)
variable_is l [] = refl
variable_is l (b ∷ bs) =
    elim (b == 64) as (λ v. cond v (net_at l bs) (cond (is_letter b) (name_at l (b ∷ bs) (drop (length (name_of (b ∷ bs))) (b ∷ bs))) (Err Syntax)) ≡ variable_in l (cond v (net_front bs) (cond (is_letter b) (name_front (b ∷ bs)) (cond (is_digit b) (number_front b bs) (sign_front b bs))))) [
      | true ↦
          elim (nat_lt 0 (length (run is_digit bs))) as (λ v. cond v (net_found (net_rank l (value_of 10 (run is_digit bs))) (after is_digit bs)) (Err Syntax) ≡ variable_in l (cond v (Some (variable (net (value_of 10 (run is_digit bs))), after is_digit bs)) None)) [ true ↦ refl | false ↦ refl ]
      | false ↦ elim (is_letter b) as (λ v. cond v (name_at l (b ∷ bs) (drop (length (name_of (b ∷ bs))) (b ∷ bs))) (Err Syntax) ≡ variable_in l (cond v (name_front (b ∷ bs)) (cond (is_digit b) (number_front b bs) (sign_front b bs)))) [
        | true ↦
            let name = name_of (b ∷ bs) in
            let rest = drop (length name) (b ∷ bs) in
            elim (index_of rest) as (λ (o : Option (List ℕ × List ℕ)). named_at l name rest o ≡ variable_in l (name_with name rest o)) [ None ↦ refl | Some index ↦ refl ]
        | false ↦
            let P : Front → Type 0 = λ f. ◌≡◌ {A = Scanned Variable} (Err Syntax) (variable_in l f) in
            elim (is_digit b) as (λ v. ◌≡◌ {A = Scanned Variable} (Err Syntax) (variable_in l (cond v (number_front b bs) (sign_front b bs)))) [
              | true ↦ by_number P b bs (λ c rest. refl) refl
              | false ↦ by_sign P b bs (λ e. refl) (λ e. refl) (λ e. refl) refl
            ]
      ]
    ]

-- ---- an exponent

no_power : (k : ℕ) (bytes : List ℕ) (b : ℕ) (bs : List ℕ) → b ≢ 94 → ◌≡◌ {A = Scanned ℕ} (Ok (1, bytes)) (power_in k bytes (token_front (b ∷ bs)))
no_power k bytes b bs ne =
    let P : Front → Type 0 = λ f. ◌≡◌ {A = Scanned ℕ} (Ok (1, bytes)) (power_in k bytes f) in
    by_front P b bs (λ v rest. refl) (λ e. by_number P b bs (λ c rest. refl) refl) (by_sign P b bs (λ e. refl) (λ e. refl) (λ e. absurd (ne e)) refl) refl

pub exponent_is : (k : ℕ) (bytes bs : List ℕ) → exponent_in k bytes bs ≡ power_in k bytes (token_front bs)
exponent_is k bytes [] = refl
exponent_is k bytes (b ∷ bs) =
    elim (cases_eq b 94) [
      | inl is ↦ (let P : ℕ → Type 0 = λ x. exponent_in k bytes (x ∷ bs) ≡ power_in k bytes (token_front (x ∷ bs)) in subst P (sym is) refl)
      | inr ne ↦ ap (λ v. cond v (number_at k (skip bs)) (Ok (1, bytes))) (ne_eqb b 94 ne) ∙ no_power k bytes b bs ne
    ]

-- digits of nothing have the value 0
no_number : (k : ℕ) (ds rest : List ℕ) → value_of 10 ds ≡ 0 → ◌≡◌ {A = Scanned ℕ} (cond (nat_lt 0 (value_of 10 ds) && nat_lt (value_of 10 ds) (2 ^ k)) (Ok (value_of 10 ds, rest)) (Err Syntax)) (Err Syntax)
no_number k ds rest e = let P : ℕ → Type 0 = λ x. ◌≡◌ {A = Scanned ℕ} (cond (nat_lt 0 x && nat_lt x (2 ^ k)) (Ok (x, rest)) (Err Syntax)) (Err Syntax) in subst P (sym e) refl

no_digits : (b : ℕ) (bs : List ℕ) → is_digit b ≡ false → run is_digit (b ∷ bs) ≡ []
no_digits b bs e = run_front is_digit [] (b ∷ bs) tt e

-- `0x` begins with the digit 0 alone
zero_alone : (bs : List ℕ) → has_digits bs ≡ true → run is_digit (48 ∷ bs) ≡ 48 ∷ []
zero_alone [] e = absurd (cc)
zero_alone (b ∷ bs) e =
    elim (cases_eq b 120) [
      | inl is ↦ (let P : ℕ → Type 0 = λ x. run is_digit (48 ∷ x ∷ bs) ≡ 48 ∷ [] in subst P (sym is) (run_front is_digit (48 ∷ []) (120 ∷ bs) (refl, tt) refl))
      | inr ne ↦ (let bad : false ≡ true = sym (ap (λ v. v && nat_lt 0 (length (run is_hex_digit bs))) (ne_eqb b 120 ne)) ∙ e in absurd (cc))
    ]

number_there : (k b : ℕ) (bs : List ℕ) → number_at k (b ∷ bs) ≡ number_in k (number_front b bs)
number_there k b bs =
    elim ((b == 48) && has_digits bs) as (λ v. ((b == 48) && has_digits bs) ≡ v → number_at k (b ∷ bs) ≡ number_in k (cond v (Some (hex (value_of 16 (run is_hex_digit (drop 1 bs))), after is_hex_digit (drop 1 bs))) (Some (figures (run is_digit (b ∷ bs)), after is_digit (b ∷ bs))))) [
      | true ↦ λ e.
          let parts = both_true (b == 48) (has_digits bs) e in
          let P : ℕ → Type 0 = λ x. value_of 10 (run is_digit (x ∷ bs)) ≡ 0 in
          no_number k (run is_digit (b ∷ bs)) (after is_digit (b ∷ bs)) (subst P (sym (eqb-true b 48 parts.0)) (ap (value_of 10) (zero_alone bs parts.1)))
      | false ↦ λ e. refl
    ] refl

pub number_is : (k : ℕ) (bs : List ℕ) → number_at k bs ≡ number_in k (token_front bs)
number_is k [] = refl
number_is k (b ∷ bs) =
    let none : is_digit b ≡ false → ◌≡◌ {A = Scanned ℕ} (number_at k (b ∷ bs)) (Err Syntax) = λ e. no_number k (run is_digit (b ∷ bs)) (after is_digit (b ∷ bs)) (ap (value_of 10) (no_digits b bs e)) in
    elim (b == 64) as (λ v. (b == 64) ≡ v → number_at k (b ∷ bs) ≡ number_in k (cond v (net_front bs) (cond (is_letter b) (name_front (b ∷ bs)) (cond (is_digit b) (number_front b bs) (sign_front b bs))))) [
      | true ↦ λ e.
          let P : ℕ → Type 0 = λ x. is_digit x ≡ false in
          none (subst P (sym (eqb-true b 64 e)) refl)
          ∙ elim (nat_lt 0 (length (run is_digit bs))) as (λ v. ◌≡◌ {A = Scanned ℕ} (Err Syntax) (number_in k (cond v (Some (variable (net (value_of 10 (run is_digit bs))), after is_digit bs)) None))) [ true ↦ refl | false ↦ refl ]
      | false ↦ λ e. elim (is_letter b) as (λ v. is_letter b ≡ v → number_at k (b ∷ bs) ≡ number_in k (cond v (name_front (b ∷ bs)) (cond (is_digit b) (number_front b bs) (sign_front b bs)))) [
        | true ↦ λ f.
            let name = name_of (b ∷ bs) in
            let rest = drop (length name) (b ∷ bs) in
            none (letter_none b f) ∙ elim (index_of rest) as (λ (o : Option (List ℕ × List ℕ)). ◌≡◌ {A = Scanned ℕ} (Err Syntax) (number_in k (name_with name rest o))) [ None ↦ refl | Some index ↦ refl ]
        | false ↦ λ f. elim (is_digit b) as (λ v. is_digit b ≡ v → number_at k (b ∷ bs) ≡ number_in k (cond v (number_front b bs) (sign_front b bs))) [
          | true ↦ λ g. number_there k b bs
          | false ↦ λ g. none g ∙ (let P : Front → Type 0 = λ f. ◌≡◌ {A = Scanned ℕ} (Err Syntax) (number_in k f) in by_sign P b bs (λ e. refl) (λ e. refl) (λ e. refl) refl)
        ] refl
      ] refl
    ] refl
  where
    letter_none : (b : ℕ) → is_letter b ≡ true → is_digit b ≡ false
    letter_none b e = grind (arith, common_steps)
