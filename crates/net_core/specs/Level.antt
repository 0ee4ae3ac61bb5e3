-- Levels of nets. Source: this project's own; in other words the lengths of the longest paths of gates from sources.
use Rattle.std.specs.Prelude.{◌≡◌, ℕ, ◌+◌, max, List, [], ◌∷◌, Option, None, Some, slice_get, length, unwrap_or, option_and_then}
use Rattle.lists.specs.Lists.{Has}
use Rattle.net_core.specs.Sound.{sources}
use Rattle.net_core.specs.GateValue.{GateValue}
use Rattle.net_core.specs.NetList.{NetList, nets}

-- for each net its level, where it has one
abbrev pub Levels : Type 0
Levels = List (Option ℕ)

-- the level of a net
abbrev pub level_at : Levels → ℕ → Option ℕ
level_at levels n = unwrap_or (slice_get levels n) None

-- the level of a gate over these nets, if it is at least m: more than the level of each; none where a net has none
abbrev pub level_from : Levels → ℕ → List ℕ → Option ℕ
level_from levels m [] = Some m
level_from levels m (n ∷ ns) = option_and_then (λ l. level_from levels (max m (l + 1)) ns) (level_at levels n)

-- one more than the greatest level of the nets, and 1 where there are none
abbrev pub level_over : Levels → List ℕ → Option ℕ
level_over levels ns = level_from levels 1 ns

-- The level of each net, where it has one. In a sound net each has one; a net that a cycle drives has none.
pub record AreLevels (net : NetList) (levels : Levels) : Type 0 where
  pub long : length levels ≡ nets net
  pub sources : (n : ℕ) → Has (sources net) n → level_at levels n ≡ Some 0
  pub gates : (g : GateValue) → Has net.gates g → level_at levels g.out ≡ level_over levels g.inputs
