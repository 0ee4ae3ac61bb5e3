-- What a line of a table says, for the clauses of private functions. Source: this project's own.
use Rattle.std.specs.Prelude.{◌≡◌, ℕ, ◌<◌, ◌≤◌, ◌^◌, List, [], ◌∷◌, Ok, Err}
use Rattle.outcome.specs.Outcome.{Outcome}
use Rattle.text_core.specs.Numbers.{IsHex}
use Rattle.lift_table.specs.TableText.{IsHead, IsNumber}
use Rattle.lift_table.specs.declared.fault.TableFault.{TableFault}
use Rattle.lift_table.specs.declared.fault.TableFault.TheVariants.{Syntax, TooLarge, OutOfMemory}

-- the value of a token in a line with this number
abbrev pub TokenOutcome : ℕ → ℕ → List ℕ → Outcome TableFault ℕ
TokenOutcome k line token (Ok value) = IsHex token value × (value < 2 ^ k)
TokenOutcome k line token (Err (Syntax at)) = (at ≡ line) × ((value : ℕ) → IsHex token value → ⊥)
TokenOutcome k line token (Err (TooLarge at)) = (at ≡ line) × ((value : ℕ) × IsHex token value × (2 ^ k ≤ value))
TokenOutcome k line token (Err OutOfMemory) = ⊥

-- the value of the tokens of a line with this number
abbrev pub TokensOutcome : ℕ → ℕ → List (List ℕ) → Outcome TableFault ℕ
TokensOutcome k line tokens (Ok value) = ((token : List ℕ) × (tokens ≡ token ∷ []) × IsHex token value) × (value < 2 ^ k)
TokensOutcome k line tokens (Err (Syntax at)) = (at ≡ line) × ((token : List ℕ) (value : ℕ) → tokens ≡ token ∷ [] → IsHex token value → ⊥)
TokensOutcome k line tokens (Err (TooLarge at)) = (at ≡ line) × ((token : List ℕ) × (value : ℕ) × (tokens ≡ token ∷ []) × IsHex token value × (2 ^ k ≤ value))
TokensOutcome k line tokens (Err OutOfMemory) = ⊥

-- the value of the first of the lines, which has this number, and the lines after it
abbrev pub RowOutcome : ℕ → ℕ → List (List ℕ) → Outcome TableFault (ℕ × List (List ℕ))
RowOutcome k line all (Ok read) = (text : List ℕ) × (all ≡ text ∷ read.1) × IsNumber text read.0 × (read.0 < 2 ^ k)
RowOutcome k line all (Err (Syntax at)) = (at ≡ line) × ((text : List ℕ) (rest : List (List ℕ)) (value : ℕ) → all ≡ text ∷ rest → IsNumber text value → ⊥)
RowOutcome k line all (Err (TooLarge at)) = (at ≡ line) × ((text : List ℕ) × (rest : List (List ℕ)) × (value : ℕ) × (all ≡ text ∷ rest) × IsNumber text value × (2 ^ k ≤ value))
RowOutcome k line all (Err OutOfMemory) = ⊥

-- the lines after the head
abbrev pub HeadOutcome : List (List ℕ) → Outcome TableFault (List (List ℕ))
HeadOutcome all (Ok rest) = (text : List ℕ) × (all ≡ text ∷ rest) × IsHead text
HeadOutcome all (Err (Syntax at)) = (at ≡ 1) × ((text : List ℕ) (rest : List (List ℕ)) → all ≡ text ∷ rest → IsHead text → ⊥)
HeadOutcome all (Err (TooLarge at)) = ⊥
HeadOutcome all (Err OutOfMemory) = ⊥
