-- Which inputs of a gate are replaced by functions of other nets. Source: this project's own; in the manner of the merging of
-- cuts, after Cong and Ding, FlowMap, IEEE TCAD 1994.
use Rattle.std.specs.Prelude.{◌≡◌, ◌⊎◌, ℕ, ◌<◌, ◌≤◌, ◌+◌, ◌*◌, ◌/◌, ◌%◌, ◌^◌, ◌==◌, Bool, nat_lt, List, [], ◌∷◌, length, if◌then◌else◌}
use Rattle.net_core.specs.GateValue.{GateValue}
use Rattle.net_simplify.specs.Form.{Form, IsComposed}

-- what each net is: itself, another net, the complement of one, or a constant; and a function of nets before it that it is
pub record Forms : Type 0 where
  pub unit : ℕ → Form
  pub body : ℕ → Form

-- Of each of the nets its body if it is opened, else its unit. The number tells which are opened: net i if its bit i is 1.
abbrev pub taken : Forms → ℕ → List ℕ → List Form
taken forms opened [] = []
taken forms opened (n ∷ ns) = (if opened % 2 == 1 then forms.body n else forms.unit n) ∷ taken forms (opened / 2) ns

-- a rising list with one more number, if it is not there
abbrev pub with_leaf : ℕ → List ℕ → List ℕ
with_leaf x [] = x ∷ []
with_leaf x (y ∷ ys) = if nat_lt x y then x ∷ (y ∷ ys) else if x == y then y ∷ ys else y ∷ with_leaf x ys

-- a rising list with these numbers too
abbrev pub with_leaves : List ℕ → List ℕ → List ℕ
with_leaves [] ys = ys
with_leaves (x ∷ xs) ys = with_leaves xs (with_leaf x ys)

-- the leaves of all forms, and these
abbrev pub leaves_with : List ℕ → List Form → List ℕ
leaves_with leaves [] = leaves
leaves_with leaves (form ∷ forms) = leaves_with (with_leaves form.leaves leaves) forms

-- the leaves of all forms, rising
abbrev pub leaves_of : List Form → List ℕ
leaves_of forms = leaves_with [] forms

-- no input is opened, or the forms have at most four leaves together
abbrev pub IsAdmitted : Forms → List ℕ → ℕ → Type 0
IsAdmitted forms inputs opened = (opened ≡ 0) ⊎ (length (leaves_of (taken forms opened inputs)) ≤ 4)

-- 1 for each leaf, and 8 more for one that is used once
abbrev pub price : (ℕ → Bool) → List ℕ → ℕ
price single [] = 0
price single (n ∷ ns) = (if single n then 9 else 1) + price single ns

-- the table's function of the inputs where these are opened
abbrev pub Gives : Forms → GateValue → ℕ → Form → Type 0
Gives forms gate opened form = (opened < 2 ^ length gate.inputs) × IsAdmitted forms gate.inputs opened × IsComposed gate.table (taken forms opened gate.inputs) form

-- the function of least price, and of the greatest number among those
pub record IsChosen (single : ℕ → Bool) (forms : Forms) (gate : GateValue) (form : Form) : Type 0 where
  pub opened : ℕ
  pub given : Gives forms gate opened form
  pub least : (others : ℕ) (other : Form) → Gives forms gate others other → price single form.leaves ≤ price single other.leaves
  pub last : (others : ℕ) (other : Form) → opened < others → Gives forms gate others other → price single form.leaves < price single other.leaves
