-- The choice so far. Source: this project's own.
use Rattle.std.specs.Prelude.{◌≡◌, ℕ, ◌<◌, ◌≤◌, ◌+◌, Bool, ◌==◌, List, length}
use Rattle.net_core.specs.GateValue.{GateValue}
use Rattle.net_simplify.specs.Form.{Form}
use Rattle.net_simplify.specs.Choice.{Forms, Gives, price}
use Rattle.net_simplify.specs.private.Marks.{count_at}

-- the mark 1 stands at the nets that are used once
abbrev pub AreSingles : (ℕ → Bool) → List ℕ → Type 0
AreSingles single marks = (n : ℕ) → (count_at marks n == 1) ≡ single n

-- the function of least price, and of the greatest number among those, where the numbers before one were tried
pub record IsBest (single : ℕ → Bool) (forms : Forms) (gate : GateValue) (form : Form) (tried : ℕ) : Type 0 where
  pub opened : ℕ
  pub before : opened < tried
  pub given : Gives forms gate opened form
  pub least : (others : ℕ) (other : Form) → others < tried → Gives forms gate others other → price single form.leaves ≤ price single other.leaves
  pub last : (others : ℕ) (other : Form) → opened < others → others < tried → Gives forms gate others other → price single form.leaves < price single other.leaves

-- where the one is the best of the choices before a number, the other is the best of these and that with the number
abbrev pub IsBetterOf : List ℕ → Forms → GateValue → ℕ → Form → Form → Type 0
IsBetterOf marks forms gate opened best form = (single : ℕ → Bool) → AreSingles single marks → IsBest single forms gate best opened → IsBest single forms gate form (opened + 1)
