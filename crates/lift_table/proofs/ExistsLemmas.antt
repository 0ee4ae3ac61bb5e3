-- Of each text there is a table or a fault: its lines are read one after another.
use Rattle.std.proofs.Common.{◌≡◌, sym, refl, subst, inl, inr, ℕ, zero, suc, ◌+◌, ◌<◌, ◌^◌, List, [], ◌∷◌, ◌++◌, codes, Result, Ok, Err, arith}
use Rattle.std.specs.Str.Lines.{lines}
use Rattle.std.proofs.lemmas.Bool.{cases_lt}
use Rattle.text_core.specs.Lines.{tokens_of}
use Rattle.lift_table.specs.TableText.{IsHead, IsNumber, LinesOutcome, TableOutcome}
use Rattle.lift_table.specs.declared.fault.TableFault.{TableFault}
use Rattle.lift_table.specs.declared.fault.TableFault.TheVariants.{Syntax, TooLarge}
use Rattle.lift_table.specs.private.Reading.{HeadOutcome, RowOutcome}
use Rattle.lift_table.proofs.DecidedLemmas.{number_or, same_tokens}
use Rattle.lift_table.proofs.ReadingLemmas.{IsReadTo, after_head, no_head, one_row, no_row, at_end, too_many}

some_head : (every : List (List ℕ)) → (outcome : Result (List (List ℕ)) TableFault) × HeadOutcome every outcome
some_head [] = (Err (Syntax 1), (refl, λ text rest is head. absurd (cc)))
some_head (line ∷ rest) =
    elim (same_tokens (tokens_of line) (codes "gftable" ∷ codes "1" ∷ [])) [
      | inl head ↦ (Ok rest, (line, refl, head))
      | inr other ↦ (Err (Syntax 1), (refl, λ text more is head. let same : line ≡ text = cc in let P : List ℕ → Type 0 = IsHead in other (subst P (sym same) head)))
    ]

some_row : (k number : ℕ) (every : List (List ℕ)) → (outcome : Result (ℕ × List (List ℕ)) TableFault) × RowOutcome k number every outcome
some_row k number [] = (Err (Syntax number), (refl, λ text rest value is said. absurd (cc)))
some_row k number (line ∷ rest) =
    elim (number_or line) [
      | inl found ↦ elim (cases_lt found.0 (2 ^ k)) [
        | inl small ↦ (Ok (found.0, rest), (line, refl, found.1, small))
        | inr large ↦ (Err (TooLarge number), (refl, (line, rest, found.0, refl, found.1, large)))
      ]
      | inr other ↦ (Err (Syntax number), (refl, λ text more value is said. let same : line ≡ text = cc in let P : List ℕ → Type 0 = λ l. IsNumber l value in other value (subst P (sym same) said)))
    ]

module _ (k n : ℕ) (every : List (List ℕ)) where
  abbrev SomeOfLines : Type 0
  SomeOfLines = (outcome : Result (List ℕ) TableFault) × LinesOutcome k n every outcome

  last : (rest : List (List ℕ)) (table : List ℕ) → IsReadTo k n every n rest table → SomeOfLines
  last [] table so = (Ok table, at_end k n every [] table refl so)
  last (line ∷ rest) table so = (Err (Syntax (n + 2)), too_many k n every (n + 2) (line ∷ rest) table refl (λ is. absurd (cc)) so)

  -- with one more row, where so many are left after it
  with_row : (left : ℕ) → ((rows : ℕ) (rest : List (List ℕ)) (table : List ℕ) → rows + left ≡ n → IsReadTo k n every rows rest table → SomeOfLines)
      → (rows : ℕ) (rest : List (List ℕ)) (table : List ℕ) → rows + suc left ≡ n → IsReadTo k n every rows rest table → (read : Result (ℕ × List (List ℕ)) TableFault) → RowOutcome k (rows + 2) rest read → SomeOfLines
  with_row left goes rows rest table many so (Ok read) row =
      let below : rows < n = omega (arith, many) in
      goes (rows + 1) read.1 (table ++ read.0 ∷ []) (omega (arith, many)) (one_row k n every rows rest table so below read.0 read.1 (table ++ read.0 ∷ []) refl (rows + 2) row)
  with_row left goes rows rest table many so (Err fault) row = let below : rows < n = omega (arith, many) in (Err fault, no_row k n every rows rest table so below (rows + 2) refl fault row)

  some_rows : (left rows : ℕ) (rest : List (List ℕ)) (table : List ℕ) → rows + left ≡ n → IsReadTo k n every rows rest table → SomeOfLines
  some_rows zero rows rest table many so = let all : rows ≡ n = omega (arith, many) in let P : ℕ → Type 0 = λ m. IsReadTo k n every m rest table in last rest table (subst P all so)
  some_rows (suc left) rows rest table many so = let row = some_row k (rows + 2) rest in with_row left (some_rows left) rows rest table many so row.0 row.1

  with_head : (read : Result (List (List ℕ)) TableFault) → HeadOutcome every read → SomeOfLines
  with_head (Ok rest) head = some_rows n 0 rest [] (omega arith) (after_head k n every rest head)
  with_head (Err fault) head = (Err fault, no_head k n every fault head)

pub some_table : (k n : ℕ) (bytes : List ℕ) → (outcome : Result (List ℕ) TableFault) × TableOutcome k n bytes outcome
some_table k n bytes = let head = some_head (lines bytes) in with_head k n (lines bytes) head.0 head.1
