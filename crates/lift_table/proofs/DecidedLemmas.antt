-- Whether a line is the head of a table, and whether it is a number, is decided.
use Rattle.std.proofs.Common.{◌≡◌, ◌⊎◌, ◌∙◌, ap, sym, refl, subst, inl, inr, ℕ, Bool, true, false, List, [], ◌∷◌, get_or, length, arith}
use Rattle.std.specs.Prelude.{bytes_eq}
use Rattle.std.proofs.lemmas.Bool.{cases_eq}
use Rattle.std.proofs.lemmas.Slice.Eq.{bytes_eq-Decides}
use Rattle.lists.specs.laws.BoolLaws.{either}
use Rattle.text_core.specs.Lines.{tokens_of}
use Rattle.text_core.specs.Numbers.{IsDigit, IsHex, AreDigits}
use Rattle.text_core.specs.Scan.{is_hex_digit}
use Rattle.text_core.proofs.ByteLemmas.{hex_is, is_hex}
use Rattle.text_core.proofs.RunLemmas.{Passes, each_passes, passes_each}
use Rattle.lift_table.specs.TableText.{IsNumber}
use Rattle.lift_table.proofs.ReadingLemmas.{hex_of}

same_bytes : (xs ys : List ℕ) → (xs ≡ ys) ⊎ (xs ≡ ys → ⊥)
same_bytes xs ys =
    either (bytes_eq xs ys) (λ same. inl ((bytes_eq-Decides xs ys).0 same))
    (λ differ. inr (λ same. let bad : true ≡ false = sym ((bytes_eq-Decides xs ys).1 same) ∙ differ in absurd (cc)))

pub same_tokens : (xs ys : List (List ℕ)) → (xs ≡ ys) ⊎ (xs ≡ ys → ⊥)
same_tokens [] [] = inl refl
same_tokens [] (y ∷ ys) = inr (λ e. absurd (cc))
same_tokens (x ∷ xs) [] = inr (λ e. absurd (cc))
same_tokens (x ∷ xs) (y ∷ ys) =
    elim (same_bytes x y) [
      | inl head ↦ elim (same_tokens xs ys) [ inl tail ↦ inl (λ i. head i ∷ tail i) | inr other ↦ inr (λ e. let tail : xs ≡ ys = cc in other tail) ]
      | inr other ↦ inr (λ e. let head : x ≡ y = cc in other head)
    ]

passes_or : (test : ℕ → Bool) (bs : List ℕ) → Passes test bs ⊎ (Passes test bs → ⊥)
passes_or test [] = inl tt
passes_or test (b ∷ bs) =
    elim (passes_or test bs) [
      | inl rest ↦ either (test b) (λ first. inl (first, rest)) (λ differ. inr (λ pass. let bad : true ≡ false = sym pass.0 ∙ differ in absurd (cc)))
      | inr other ↦ inr (λ pass. other pass.1)
    ]

digits_or : (ds : List ℕ) → AreDigits 16 ds ⊎ (AreDigits 16 ds → ⊥)
digits_or [] = inr (λ are. omega (arith, are.0))
digits_or (d ∷ ds) =
    elim (passes_or is_hex_digit (d ∷ ds)) [
      | inl pass ↦ inl (omega arith, passes_each is_hex_digit (IsDigit 16) hex_is (d ∷ ds) pass)
      | inr other ↦ inr (λ are. other (each_passes is_hex_digit (IsDigit 16) is_hex (d ∷ ds) are.1))
    ]

abbrev IsHexOr : List ℕ → Type 0
IsHexOr token = ((value : ℕ) × IsHex token value) ⊎ ((value : ℕ) → IsHex token value → ⊥)

after_mark : (a b : ℕ) (rest : List ℕ) → a ≡ 48 → b ≡ 120 → IsHexOr (a ∷ b ∷ rest)
after_mark a b rest first second =
    let same = hex_of (a ∷ b ∷ rest) rest (λ i. first i ∷ second i ∷ rest) in
    elim (digits_or rest) [ inl are ↦ inl (same.0 are) | inr other ↦ inr (λ value hex. other (same.1 (value, hex))) ]

hex_or : (token : List ℕ) → IsHexOr token
hex_or [] = inr (λ value hex. omega (arith, ap length hex.1))
hex_or (a ∷ []) = inr (λ value hex. omega (arith, ap length hex.1))
hex_or (a ∷ b ∷ rest) =
    elim (cases_eq a 48) [
      | inl first ↦ elim (cases_eq b 120) [ inl second ↦ after_mark a b rest first second | inr other ↦ inr (λ value hex. other (ap (λ xs. get_or xs 1 0) hex.1)) ]
      | inr other ↦ inr (λ value hex. other (ap (λ xs. get_or xs 0 0) hex.1))
    ]

abbrev pub IsNumberOr : List ℕ → Type 0
IsNumberOr line = ((value : ℕ) × IsNumber line value) ⊎ ((value : ℕ) → IsNumber line value → ⊥)

alone_or : (line : List ℕ) (tokens : List (List ℕ)) → tokens_of line ≡ tokens → IsNumberOr line
alone_or line [] are = inr (λ value number. omega (arith, ap length (sym are ∙ number.alone)))
alone_or line (token ∷ other ∷ rest) are = inr (λ value number. omega (arith, ap length (sym are ∙ number.alone)))
alone_or line (token ∷ []) are =
    elim (hex_or token) [
      | inl found ↦ inl (found.0, record { token = token; alone = are; hex = found.1 })
      | inr other ↦ inr (λ value number.
          let same : token ∷ [] ≡ number.token ∷ [] = sym are ∙ number.alone in
          let tokens : token ≡ number.token = cc in
          let P : List ℕ → Type 0 = λ t. IsHex t value in
          other value (subst P (sym tokens) number.hex))
    ]

pub number_or : (line : List ℕ) → IsNumberOr line
number_or line = alone_or line (tokens_of line) refl
