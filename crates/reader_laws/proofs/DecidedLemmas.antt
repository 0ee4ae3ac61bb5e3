-- What is decided: that it holds, or that it does not. Bytes, digits and names.
use Rattle.std.proofs.Common.{◌≡◌, ◌⊎◌, ◌∙◌, ap, sym, refl, subst, inl, inr, ℕ, zero, suc, ◌<◌, ◌≤◌, true, false, List, [], ◌∷◌, ◌++◌, codes, drop, get_or, length, arith}
use Rattle.std.specs.Prelude.{All, EachIndex, bytes_eq, slice_index}
use Rattle.std.proofs.lemmas.Bool.{cases_eq, cases_lt}
use Rattle.std.proofs.lemmas.Slice.Eq.{bytes_eq-Decides}
use Rattle.lists.specs.laws.BoolLaws.{either}
use Rattle.lists.specs.laws.ListLaws.{append_same}
use Rattle.text_core.specs.Names.{IsName, IsNameByte}
use Rattle.text_core.specs.Numbers.{AreDigits, IsDecimal, IsDigit, IsHex, digit_value, value_of}
use Rattle.text_core.specs.Scan.{is_letter, is_name_byte}
use Rattle.text_core.proofs.ByteLemmas.{is_name, letter, letter_is, name_is}

abbrev pub IsDecided : Type 0 → Type 0
IsDecided P = P ⊎ (P → ⊥)

-- ---- parts

module _ {P Q : Type 0} where
  pub both_decided : IsDecided P → IsDecided Q → IsDecided (P × Q)
  both_decided (inl p) (inl q) = inl (p, q)
  both_decided (inl p) (inr other) = inr (λ is. other is.1)
  both_decided (inr other) q = inr (λ is. other is.0)

  pub one_decided : IsDecided P → IsDecided Q → IsDecided (P ⊎ Q)
  one_decided (inl p) q = inl (inl p)
  one_decided (inr other) (inl q) = inl (inr q)
  one_decided (inr other) (inr neither) = inr (λ is. elim is [ inl p ↦ other p | inr q ↦ neither q ])

  pub moved_decided : (P → Q) → (Q → P) → IsDecided P → IsDecided Q
  moved_decided there back (inl p) = inl (there p)
  moved_decided there back (inr other) = inr (λ q. other (back q))

-- ---- numbers

pub less_decided : (m n : ℕ) → IsDecided (m < n)
less_decided m n = elim (cases_lt m n) [ inl less ↦ inl less | inr past ↦ inr (λ less. omega (arith, past, less)) ]

pub most_decided : (m n : ℕ) → IsDecided (m ≤ n)
most_decided m n = elim (cases_lt n m) [ inl past ↦ inr (λ most. omega (arith, past, most)) | inr most ↦ inl most ]

pub even_decided : (m n : ℕ) → IsDecided (m ≡ n)
even_decided m n = elim (cases_eq m n) [ inl same ↦ inl same | inr other ↦ inr other ]

pub range_decided : (low high n : ℕ) → IsDecided ((low ≤ n) × (n ≤ high))
range_decided low high n = both_decided (most_decided low n) (most_decided n high)

-- ---- lists

pub bytes_decided : (xs ys : List ℕ) → IsDecided (xs ≡ ys)
bytes_decided xs ys =
    either (bytes_eq xs ys) (λ same. inl ((bytes_eq-Decides xs ys).0 same))
    (λ differ. inr (λ same. let bad : true ≡ false = sym ((bytes_eq-Decides xs ys).1 same) ∙ differ in absurd (cc)))

pub tokens_decided : (xs ys : List (List ℕ)) → IsDecided (xs ≡ ys)
tokens_decided [] [] = inl refl
tokens_decided [] (y ∷ ys) = inr (λ same. absurd (cc))
tokens_decided (x ∷ xs) [] = inr (λ same. absurd (cc))
tokens_decided (x ∷ xs) (y ∷ ys) =
    elim (bytes_decided x y) [
      | inl head ↦ elim (tokens_decided xs ys) [ inl tail ↦ inl (λ i. head i ∷ tail i) | inr other ↦ inr (λ same. let tail : xs ≡ ys = cc in other tail) ]
      | inr other ↦ inr (λ same. let head : x ≡ y = cc in other head)
    ]

module _ {X : Type 0} (P : X → Type 0) where
  all_more : (x : X) (xs : List X) → P x → All P xs → All P (x ∷ xs)
  all_more x xs first rest zero d less = first
  all_more x xs first rest (suc k) d less = rest k d (omega (arith, less))

  pub all_decided : ((x : X) → IsDecided (P x)) → (xs : List X) → IsDecided (All P xs)
  all_decided each [] = inl (λ k d less. absurd (omega (arith, less)))
  all_decided each (x ∷ xs) =
      elim (each x) [
        | inl first ↦ elim (all_decided each xs) [ inl rest ↦ inl (all_more x xs first rest) | inr other ↦ inr (λ all. other (λ k d less. all (suc k) d (omega (arith, less)))) ]
        | inr other ↦ inr (λ all. other (all 0 x (omega arith)))
      ]

module _ (P : ℕ → Type 0) where
  each_more : (b : ℕ) (bs : List ℕ) → P b → EachIndex bs (λ k. P (slice_index bs k)) → EachIndex (b ∷ bs) (λ k. P (slice_index (b ∷ bs) k))
  each_more b bs first rest zero less = first
  each_more b bs first rest (suc k) less = rest k (omega (arith, less))

  pub each_decided : ((b : ℕ) → IsDecided (P b)) → (bs : List ℕ) → IsDecided (EachIndex bs (λ k. P (slice_index bs k)))
  each_decided each [] = inl (λ k less. absurd (omega (arith, less)))
  each_decided each (b ∷ bs) =
      elim (each b) [
        | inl first ↦ elim (each_decided each bs) [ inl rest ↦ inl (each_more b bs first rest) | inr other ↦ inr (λ all. other (λ k less. all (suc k) (omega (arith, less)))) ]
        | inr other ↦ inr (λ all. other (all 0 (omega arith)))
      ]

-- what stands behind a front
pub front_decided : (front token : List ℕ) → IsDecided ((rest : List ℕ) × (token ≡ front ++ rest))
front_decided [] token = inl (token, refl)
front_decided (f ∷ front) [] = inr (λ is. omega (arith, ap length is.1))
front_decided (f ∷ front) (t ∷ token) =
    elim (cases_eq t f) [
      | inl first ↦ elim (front_decided front token) [ inl rest ↦ inl (rest.0, λ i. first i ∷ rest.1 i) | inr other ↦ inr (λ is. other (is.0, ap (λ (xs : List ℕ). drop 1 xs) is.1)) ]
      | inr other ↦ inr (λ is. other (ap (λ (xs : List ℕ). get_or xs 0 0) is.1))
    ]

pub behind_decided : (front token : List ℕ) (Q : List ℕ → Type 0) → ((rest : List ℕ) → IsDecided (Q rest)) → IsDecided ((rest : List ℕ) × (token ≡ front ++ rest) × Q rest)
behind_decided front token Q each =
    elim (front_decided front token) [
      | inl found ↦ elim (each found.0) [
        | inl holds ↦ inl (found.0, found.1, holds)
        | inr other ↦ inr (λ is. let same : is.0 ≡ found.0 = append_same front is.0 found.0 (sym is.1 ∙ found.1) in other (subst Q same is.2))
      ]
      | inr other ↦ inr (λ is. other (is.0, is.1))
    ]

-- ---- digits

pub digit_decided : (base b : ℕ) → IsDecided (IsDigit base b)
digit_decided base b = both_decided (one_decided (range_decided 48 57 b) (one_decided (range_decided 65 70 b) (range_decided 97 102 b))) (less_decided (digit_value b) base)

pub digits_decided : (base : ℕ) (digits : List ℕ) → IsDecided (AreDigits base digits)
digits_decided base digits = both_decided (less_decided 0 (length digits)) (each_decided (IsDigit base) (digit_decided base) digits)

-- a decimal number of at most this size
pub decimal_decided : (limit : ℕ) (token : List ℕ) → IsDecided ((n : ℕ) × (IsDecimal token n × (n ≤ limit)))
decimal_decided limit token =
    moved_decided (λ is. (value_of 10 token, ((is.0, refl), is.1)))
    (λ found. (found.1.0.0, (let P : ℕ → Type 0 = λ n. n ≤ limit in subst P found.1.0.1 found.1.1)))
    (both_decided (digits_decided 10 token) (most_decided (value_of 10 token) limit))

hex_value : (token : List ℕ) (n : ℕ) → IsHex token n → n ≡ value_of 16 (drop 2 token)
hex_value token n hex = hex.3 ∙ ap (λ (xs : List ℕ). value_of 16 (drop 2 xs)) (sym hex.1)

-- a hexadecimal number below this size
pub hex_decided : (limit : ℕ) (token : List ℕ) → IsDecided ((n : ℕ) × (IsHex token n × (n < limit)))
hex_decided limit token =
    elim (behind_decided (codes "0x") token (AreDigits 16) (digits_decided 16)) [
      | inl found ↦ by (value_of 16 found.0) (found.0, found.1, found.2, refl) (less_decided (value_of 16 found.0) limit)
      | inr other ↦ inr (λ is. other (is.1.0.0, is.1.0.1, is.1.0.2))
    ]
  where
    by : (n : ℕ) → IsHex token n → IsDecided (n < limit) → IsDecided ((n : ℕ) × (IsHex token n × (n < limit)))
    by n hex (inl small) = inl (n, (hex, small))
    by n hex (inr large) = inr (λ is. let same : is.0 ≡ n = hex_value token is.0 is.1.0 ∙ sym (hex_value token n hex) in let P : ℕ → Type 0 = λ m. m < limit in large (subst P same is.1.1))

-- ---- names

byte_decided : (b : ℕ) → IsDecided (IsNameByte b)
byte_decided b = either (is_name_byte b) (λ is. inl (name_is b is)) (λ differ. inr (λ is. let bad : true ≡ false = sym (is_name b is) ∙ differ in absurd (cc)))

pub name_decided : (token : List ℕ) → IsDecided (IsName token)
name_decided [] = inr (λ is. omega (arith, is.some))
name_decided (b ∷ bs) =
    either (is_letter b)
    (λ first. moved_decided (λ (is : EachIndex (b ∷ bs) (λ k. IsNameByte (slice_index (b ∷ bs) k)) × (length (b ∷ bs) ≤ 255)). record { some = omega arith; letter = letter_is b first; each = is.0; short = is.1 })
    (λ (is : IsName (b ∷ bs)). (is.each, is.short)) (both_decided (each_decided IsNameByte byte_decided (b ∷ bs)) (most_decided (length (b ∷ bs)) 255)))
    (λ differ. inr (λ is. let bad : true ≡ false = sym (letter b is.letter) ∙ differ in absurd (cc)))
