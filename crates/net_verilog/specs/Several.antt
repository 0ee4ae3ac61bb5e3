-- Lists with commas. Source: IEEE Std 1364-2005, annex A, in the profile of docs/FORMATS.md.
use Rattle.std.specs.Prelude.{ℕ, zero, suc, Bool, true, false, List, [], ◌∷◌}
use Rattle.outcome.specs.Outcome.{◌>>=◌, Exactly}
use Rattle.net_verilog.specs.Tokens.{TokenValue}
use Rattle.net_verilog.specs.Parts.{is_comma}
use Rattle.net_verilog.specs.Assigns.{Reads}

-- one of two, as a test says
abbrev pub Either : {A : Type 0} → Bool → Reads A → Reads A → Reads A
Either true one other = one
Either false one other = other

-- no outcome comes
abbrev pub Never : {A : Type 0} → Reads A
Never outcome = ⊥

abbrev pub comma_first : List TokenValue → Bool
comma_first [] = false
comma_first (t ∷ ts) = is_comma t.kind

abbrev pub after_first : List TokenValue → List TokenValue
after_first [] = []
after_first (t ∷ ts) = ts

-- one, and after each comma another; so many at most
abbrev pub SeveralOf : {S : Type 0} → ℕ → (S → List TokenValue → Reads S) → S → List TokenValue → Reads S
SeveralOf zero one state tokens = Never
SeveralOf (suc more) one state tokens = do
  first ← one state tokens
  Either (comma_first first.1) (SeveralOf more one first.0 (after_first first.1)) (Exactly first)

-- one, and after each comma another
abbrev pub Several : {S : Type 0} → (S → List TokenValue → Reads S) → S → List TokenValue → Reads S
Several one state tokens outcome = (n : ℕ) × SeveralOf n one state tokens outcome
