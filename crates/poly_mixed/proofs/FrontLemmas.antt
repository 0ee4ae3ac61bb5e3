-- The token at the front of a text, by cases of the first byte, and what it leaves.
use Rattle.std.proofs.Common.{◌≡◌, ℕ, suc, ◌≤◌, true, false, cond, ◌&&◌, List, [], ◌∷◌, length, drop, nat_lt, ◌==◌, Option, Some, None, refl, arith}
use Rattle.std.proofs.lemmas.Bool.{eqb-true}
use Rattle.std.proofs.lemmas.List.{length-drop}
use Rattle.text_core.specs.Numbers.{value_of}
use Rattle.text_core.specs.Scan.{run, after, name_of, closed_by, index_of, is_digit, is_hex_digit, is_letter, has_digits}
use Rattle.poly_mixed.specs.Token.{Named, word, bit, net, Token, variable, hex, figures, plus_sign, times_sign, power_sign, Front, net_front, name_with, name_front, number_front, sign_front, token_front}

-- ---- a predicate of the token at a front by cases of the first byte

-- of names and nets, of numbers, of signs and of none
pub by_front : (P : Front → Type 0) (b : ℕ) (bs : List ℕ)
    → ((v : Named) (rest : List ℕ) → P (Some (variable v, rest)))
    → (is_digit b ≡ true → P (number_front b bs))
    → P (sign_front b bs) → P None
    → P (token_front (b ∷ bs))
by_front P b bs names number sign none =
    elim (b == 64) as (λ v. P (cond v (net_front bs) (cond (is_letter b) (name_front (b ∷ bs)) (cond (is_digit b) (number_front b bs) (sign_front b bs))))) [
      | true ↦ elim (nat_lt 0 (length (run is_digit bs))) as (λ v. P (cond v (Some (variable (net (value_of 10 (run is_digit bs))), after is_digit bs)) None)) [ true ↦ names (net (value_of 10 (run is_digit bs))) (after is_digit bs) | false ↦ none ]
      | false ↦ elim (is_letter b) as (λ v. P (cond v (name_front (b ∷ bs)) (cond (is_digit b) (number_front b bs) (sign_front b bs)))) [
        | true ↦
            let name = name_of (b ∷ bs) in
            let rest = drop (length name) (b ∷ bs) in
            elim (index_of rest) as (λ o. P (name_with name rest o)) [
              | None ↦ names (word name) rest
              | Some index ↦ names (bit name (value_of 10 index.0)) index.1
            ]
        | false ↦ elim (is_digit b) as (λ v. is_digit b ≡ v → P (cond v (number_front b bs) (sign_front b bs))) [ true ↦ number | false ↦ λ e. sign ] refl
      ]
    ]

pub by_number : (P : Front → Type 0) (b : ℕ) (bs : List ℕ) → ((c : ℕ) (rest : List ℕ) → P (Some (hex c, rest))) → P (Some (figures (run is_digit (b ∷ bs)), after is_digit (b ∷ bs))) → P (number_front b bs)
by_number P b bs hexes decimal =
    elim ((b == 48) && has_digits bs) as (λ v. P (cond v (Some (hex (value_of 16 (run is_hex_digit (drop 1 bs))), after is_hex_digit (drop 1 bs))) (Some (figures (run is_digit (b ∷ bs)), after is_digit (b ∷ bs))))) [
      | true ↦ hexes (value_of 16 (run is_hex_digit (drop 1 bs))) (after is_hex_digit (drop 1 bs))
      | false ↦ decimal
    ]

pub by_sign : (P : Front → Type 0) (b : ℕ) (bs : List ℕ) → (b ≡ 43 → P (Some (plus_sign, bs))) → (b ≡ 42 → P (Some (times_sign, bs))) → (b ≡ 94 → P (Some (power_sign, bs))) → P None → P (sign_front b bs)
by_sign P b bs plus times power none =
    elim (b == 43) as (λ v. (b == 43) ≡ v → P (cond v (Some (plus_sign, bs)) (cond (b == 42) (Some (times_sign, bs)) (cond (b == 94) (Some (power_sign, bs)) None)))) [
      | true ↦ λ e. plus (eqb-true b 43 e)
      | false ↦ λ e. elim (b == 42) as (λ v. (b == 42) ≡ v → P (cond v (Some (times_sign, bs)) (cond (b == 94) (Some (power_sign, bs)) None))) [
        | true ↦ λ f. times (eqb-true b 42 f)
        | false ↦ λ f. elim (b == 94) as (λ v. (b == 94) ≡ v → P (cond v (Some (power_sign, bs)) None)) [ true ↦ λ g. power (eqb-true b 94 g) | false ↦ λ g. none ] refl
      ] refl
    ] refl

-- ---- what is left gets shorter

abbrev pub IsSign : Token → Type 0
IsSign (variable v) = ⊥
IsSign (hex c) = ⊥
IsSign (figures ds) = ⊥
IsSign plus_sign = Unit {0}
IsSign times_sign = Unit {0}
IsSign power_sign = Unit {0}

-- at most n bytes are left, and fewer after a sign
abbrev pub IsLeft : ℕ → Front → Type 0
IsLeft n None = Unit {0}
IsLeft n (Some (t, rest)) = (length rest ≤ n) × (IsSign t → suc (length rest) ≤ n)

dropped : (n : ℕ) (xs : List ℕ) → length (drop n xs) ≤ length xs
dropped n xs = omega (arith, length-drop n xs)

abbrev IsIndexLeft : ℕ → Option (List ℕ × List ℕ) → Type 0
IsIndexLeft n None = Unit {0}
IsIndexLeft n (Some index) = length index.1 ≤ n

index_left : (n : ℕ) (bs : List ℕ) → length bs ≤ n → IsIndexLeft n (index_of bs)
index_left n [] low = tt
index_left n (b ∷ bs) low =
    elim (b == 91) as (λ v. IsIndexLeft n (cond v (closed_by (run is_digit bs) (after is_digit bs)) None)) [ true ↦ closed n (run is_digit bs) (after is_digit bs) (omega (arith, dropped (length (run is_digit bs)) bs, low)) | false ↦ tt ]
  where
    closed : (n : ℕ) (digits bs : List ℕ) → length bs ≤ n → IsIndexLeft n (closed_by digits bs)
    closed n digits [] low = tt
    closed n digits (b ∷ bs) low = elim ((b == 93) && nat_lt 0 (length digits)) as (λ v. IsIndexLeft n (cond v (Some (digits, bs)) None)) [ true ↦ omega (arith, low) | false ↦ tt ]

pub front_left : (bs : List ℕ) → IsLeft (length bs) (token_front bs)
front_left [] = tt
front_left (b ∷ bs) =
    let P : Front → Type 0 = IsLeft (suc (length bs)) in
    elim (b == 64) as (λ v. P (cond v (net_front bs) (cond (is_letter b) (name_front (b ∷ bs)) (cond (is_digit b) (number_front b bs) (sign_front b bs))))) [
      | true ↦ elim (nat_lt 0 (length (run is_digit bs))) as (λ v. P (cond v (Some (variable (net (value_of 10 (run is_digit bs))), after is_digit bs)) None)) [ true ↦ (omega (arith, dropped (length (run is_digit bs)) bs), λ x. absurd x) | false ↦ tt ]
      | false ↦ elim (is_letter b) as (λ v. P (cond v (name_front (b ∷ bs)) (cond (is_digit b) (number_front b bs) (sign_front b bs)))) [
        | true ↦
            let name = name_of (b ∷ bs) in
            let rest = drop (length name) (b ∷ bs) in
            let low : length rest ≤ suc (length bs) = dropped (length name) (b ∷ bs) in
            (elim (index_of rest) as (λ (o : Option (List ℕ × List ℕ)). IsIndexLeft (suc (length bs)) o → P (name_with name rest o)) [ None ↦ λ h. (low, λ x. absurd x) | Some index ↦ λ h. (h, λ x. absurd x) ]) (index_left (suc (length bs)) rest low)
        | false ↦ elim (is_digit b) as (λ v. P (cond v (number_front b bs) (sign_front b bs))) [
          | true ↦ numbers b bs
          | false ↦ by_sign P b bs (λ e. (omega arith, λ x. omega arith)) (λ e. (omega arith, λ x. omega arith)) (λ e. (omega arith, λ x. omega arith)) tt
        ]
      ]
    ]
  where
    tail : (bs : List ℕ) → length (drop 1 bs) ≤ length bs
    tail bs = dropped 1 bs

    numbers : (b : ℕ) (bs : List ℕ) → IsLeft (suc (length bs)) (number_front b bs)
    numbers b bs =
        elim ((b == 48) && has_digits bs) as (λ v. IsLeft (suc (length bs)) (cond v (Some (hex (value_of 16 (run is_hex_digit (drop 1 bs))), after is_hex_digit (drop 1 bs))) (Some (figures (run is_digit (b ∷ bs)), after is_digit (b ∷ bs))))) [
          | true ↦ (omega (arith, dropped (length (run is_hex_digit (drop 1 bs))) (drop 1 bs), tail bs), λ x. absurd x)
          | false ↦ (dropped (length (run is_digit (b ∷ bs))) (b ∷ bs), λ x. absurd x)
        ]
