-- Plans whose gates drive each net once and no gate before them. Source: this project's own.
use Rattle.std.specs.Prelude.{◌≡◌, ◌⊎◌, ℕ, ◌<◌, ◌≤◌, ◌+◌, ◌^◌, List, length, map}
use Rattle.lists.specs.Lists.{Has, times}
use Rattle.net_core.specs.GateValue.{GateValue}
use Rattle.make_nets.specs.Plan.{Plan}

-- inner nets so many more have numbers of 32 bits
abbrev pub HasRoom : Plan → ℕ → Type 0
HasRoom plan more = plan.next + more < 2 ^ 32

-- the nets that the gates drive
abbrev pub outs : Plan → List ℕ
outs plan = map (λ (g : GateValue). g.out) plan.gates

-- the inputs of the gate are sources, or inner nets below its own net where this is an inner one too
abbrev pub ReadsBefore : ℕ → List ℕ → Plan → GateValue → Type 0
ReadsBefore outer sources plan g = (n : ℕ) → Has g.inputs n → Has sources n ⊎ ((outer ≤ n) × (n < plan.next) × (outer ≤ g.out → n < g.out))

-- Outer nets are those below `outer`. Of them the gates drive the targets; each inner net is driven once.
pub record IsWellMade (outer : ℕ) (sources targets : List ℕ) (plan : Plan) : Type 0 where
  pub from : outer ≤ plan.next
  pub inner : (n : ℕ) → outer ≤ n → n < plan.next → times n (outs plan) ≡ 1
  pub later : (n : ℕ) → plan.next ≤ n → times n (outs plan) ≡ 0
  pub outside : (n : ℕ) → n < outer → times n (outs plan) ≡ times n targets
  pub reads : (g : GateValue) → Has plan.gates g → ReadsBefore outer sources plan g
  pub fits : (g : GateValue) → Has plan.gates g → (length g.inputs ≤ 6) × (g.table < 2 ^ (2 ^ length g.inputs))
  pub count : length plan.gates + outer ≡ plan.next + length targets
