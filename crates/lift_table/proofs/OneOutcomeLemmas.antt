-- Of a table's lines there is one outcome at most.
use Rattle.std.proofs.Common.{◌≡◌, ◌≢◌, ◌∙◌, ap, sym, refl, subst, inl, inr, ℕ, zero, suc, ◌+◌, ◌-◌, ◌<◌, ◌≤◌, ◌^◌, List, [], ◌∷◌, arith, Option, Some, None, Ok, Err}
use Rattle.std.specs.Prelude.{slice_get}
use Rattle.std.proofs.lemmas.Bool.{cases_eq, cases_lt}
use Rattle.lists.specs.laws.ReadLaws.{same_lists}
use Rattle.outcome.specs.Outcome.{Determined}
use Rattle.lift_table.specs.declared.fault.TableFault.{TableFault}
use Rattle.lift_table.specs.declared.fault.TableFault.TheVariants.{Syntax, TooLarge, OutOfMemory}
use Rattle.lift_table.specs.TableText.{IsNumber, IsFormed, IsNumberAt, IsRightTo, IsTable, IsSyntaxFault, IsTooLarge, LinesOutcome}
use Rattle.lift_table.proofs.ReadingLemmas.{one_value}

-- a place past the end has no line
past_end : (every : List (List ℕ)) (place : ℕ) → slice_get every place ≡ None → (later : ℕ) → place ≤ later → slice_get every later ≡ None
past_end [] place none later past = refl
past_end (x ∷ xs) zero none later past = absurd (cc none)
past_end (x ∷ xs) (suc place) none zero past = absurd (omega arith)
past_end (x ∷ xs) (suc place) none (suc later) past = past_end xs place none later (omega arith)

module _ (k n : ℕ) (every : List (List ℕ)) where
  same_number : (place a b : ℕ) → IsNumberAt every place a → IsNumberAt every place b → a ≡ b
  same_number place a b h g =
      let both : Some h.line ≡ Some g.line = sym h.at ∙ g.at in
      let line : h.line ≡ g.line = cc both in
      let P : List ℕ → Type 0 = λ l. IsNumber l a in
      one_value g.line a b (subst P line h.number) g.number

  -- a place with a line that is formed is one of the first n + 1
  formed_within : (place : ℕ) (found : Option (List ℕ)) → found ≢ None → IsFormed n place found → place < n + 1
  formed_within place None some formed = absurd (some refl)
  formed_within zero (Some line) some formed = omega arith
  formed_within (suc row) (Some line) some formed = let low : row < n = formed.0 in omega arith

  -- what is not formed stands no later than one place after the values
  unformed_within : (place : ℕ) → IsRightTo k n every place → (IsFormed n place (slice_get every place) → ⊥) → place < n + 2
  unformed_within place right unformed = elim (cases_lt place (n + 2)) [
    | inl low ↦ low
    | inr past ↦ absurd (unformed (late place past (past_end every (n + 1) (ended (slice_get every (n + 1)) (right.formed (n + 1) (omega arith))) place (omega arith))))
  ]
    where
      ended : (found : Option (List ℕ)) → IsFormed n (n + 1) found → found ≡ None
      ended None formed = refl
      ended (Some line) formed =
          let P : ℕ → Type 0 = λ j. IsFormed n j (Some line) in
          let next : n + 1 ≡ suc n = omega arith in
          let low : (n < n) × ((value : ℕ) × IsNumber line value) = subst P next formed in
          let wrong : n < n = low.0 in
          absurd (omega arith)

      late : (place : ℕ) → n + 2 ≤ place → slice_get every place ≡ None → IsFormed n place (slice_get every place)
      late zero past none = absurd (omega arith)
      late (suc row) past none =
          let P : Option (List ℕ) → Type 0 = IsFormed n (suc row) in
          let enough : n ≤ row = omega arith in
          subst P (sym none) enough

  has_line : (place value : ℕ) → IsNumberAt every place value → slice_get every place ≢ None
  has_line place value number none = let both : Some number.line ≡ None = sym number.at ∙ none in cc both

  large_within : (line : ℕ) (fault : IsTooLarge k n every line) → fault.place < n + 1
  large_within line fault = formed_within fault.place (slice_get every fault.place) (has_line fault.place fault.value fault.number) fault.formed

  tables : (xs ys : List ℕ) → IsTable k n every xs → IsTable k n every ys → xs ≡ ys
  tables xs ys a b = same_lists xs ys (a.long ∙ sym b.long) (λ i x y got there. same_number (i + 1) x y (a.values i x got) (b.values i y there))

  syntax_or_table : (line : ℕ) (xs : List ℕ) → IsSyntaxFault k n every line → IsTable k n every xs → ⊥
  syntax_or_table line xs fault table = fault.unformed (table.right.formed fault.place (unformed_within fault.place fault.right fault.unformed))

  large_or_table : (line : ℕ) (xs : List ℕ) → IsTooLarge k n every line → IsTable k n every xs → ⊥
  large_or_table line xs fault table =
      let within = large_within line fault in
      let small : fault.value < 2 ^ k = table.right.small fault.place fault.value (omega arith) fault.number in
      let large : 2 ^ k ≤ fault.value = fault.large in
      omega arith

  syntaxes : (line other : ℕ) → IsSyntaxFault k n every line → IsSyntaxFault k n every other → line ≡ other
  syntaxes line other a b = elim (cases_eq a.place b.place) [
    | inl same ↦ a.line_is ∙ (ap (λ p. p + 1) same ∙ sym b.line_is)
    | inr apart ↦ elim (cases_lt a.place b.place) [
      | inl before ↦ absurd (a.unformed (b.right.formed a.place before))
      | inr past ↦ absurd (b.unformed (a.right.formed b.place (omega arith)))
    ]
  ]

  larges : (line other : ℕ) → IsTooLarge k n every line → IsTooLarge k n every other → line ≡ other
  larges line other a b = elim (cases_eq a.place b.place) [
    | inl same ↦ a.line_is ∙ (ap (λ p. p + 1) same ∙ sym b.line_is)
    | inr apart ↦ elim (cases_lt a.place b.place) [
      | inl before ↦ let small : a.value < 2 ^ k = b.right.small a.place a.value before a.number in let large : 2 ^ k ≤ a.value = a.large in absurd (omega arith)
      | inr past ↦ let small : b.value < 2 ^ k = a.right.small b.place b.value (omega arith) b.number in let large : 2 ^ k ≤ b.value = b.large in absurd (omega arith)
    ]
  ]

  syntax_or_large : (line other : ℕ) → IsSyntaxFault k n every line → IsTooLarge k n every other → ⊥
  syntax_or_large line other a b = elim (cases_eq a.place b.place) [
    | inl same ↦ let P : ℕ → Type 0 = λ p. IsFormed n p (slice_get every p) in a.unformed (subst P (sym same) b.formed)
    | inr apart ↦ elim (cases_lt a.place b.place) [
      | inl before ↦ a.unformed (b.right.formed a.place before)
      | inr past ↦ let small : b.value < 2 ^ k = a.right.small b.place b.value (omega arith) b.number in let large : 2 ^ k ≤ b.value = b.large in omega arith
    ]
  ]

  faults : (e f : TableFault) → LinesOutcome k n every (Err e) → LinesOutcome k n every (Err f) → e ≡ f
  faults (Syntax line) (Syntax other) a b = ap Syntax (syntaxes line other a b)
  faults (Syntax line) (TooLarge other) a b = absurd (syntax_or_large line other a b)
  faults (TooLarge line) (Syntax other) a b = absurd (syntax_or_large other line b a)
  faults (TooLarge line) (TooLarge other) a b = ap TooLarge (larges line other a b)
  faults OutOfMemory f a b = absurd a
  faults (Syntax line) OutOfMemory a b = absurd b
  faults (TooLarge line) OutOfMemory a b = absurd b

  table_or_fault : (xs : List ℕ) (e : TableFault) → IsTable k n every xs → LinesOutcome k n every (Err e) → ⊥
  table_or_fault xs (Syntax line) table fault = syntax_or_table line xs fault table
  table_or_fault xs (TooLarge line) table fault = large_or_table line xs fault table
  table_or_fault xs OutOfMemory table fault = fault

  pub determined : Determined (LinesOutcome k n every)
  determined (Ok xs) (Ok ys) a b = ap Ok (tables xs ys a b)
  determined (Ok xs) (Err e) a b = absurd (table_or_fault xs e a b)
  determined (Err e) (Ok ys) a b = absurd (table_or_fault ys e b a)
  determined (Err e) (Err f) a b = ap Err (faults e f a b)
