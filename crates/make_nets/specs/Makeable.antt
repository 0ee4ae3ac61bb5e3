-- What a plan needs to be a net. Source: this project's own.
use Rattle.std.specs.Prelude.{◌≡◌, ℕ, ◌<◌, ◌≤◌, ◌+◌, List, ◌++◌, length, map, Some, slice_get}
use Rattle.lists.specs.Limits.{most_nets}
use Rattle.lists.specs.Lists.{Has, times}
use Rattle.net_core.specs.Inside.{IsNetName}
use Rattle.net_core.specs.LatchValue.{LatchValue}
use Rattle.net_core.specs.Sound.{IsSound}
use Rattle.make_nets.specs.MadeNet.{made_net}
use Rattle.make_nets.specs.Plan.{Plan}
use Rattle.make_nets.specs.PlanShape.{IsWellMade}

-- names of nets, no two of which are the same
pub record AreNames (names : List (List ℕ)) : Type 0 where
  pub each : (name : List ℕ) → Has names name → IsNetName name
  pub apart : (i j : ℕ) (name : List ℕ) → slice_get names i ≡ Some name → slice_get names j ≡ Some name → i ≡ j

-- a short text with which none of the names begins
pub record IsPrefix (names : List (List ℕ)) (prefix : List ℕ) : Type 0 where
  pub some : 1 ≤ length prefix
  pub short : length prefix ≤ 200
  pub fresh : (name rest : List ℕ) → Has names name → name ≡ prefix ++ rest → ⊥

-- the nets that inputs and latches drive
abbrev pub driven_outside : List ℕ → List LatchValue → List ℕ
driven_outside inputs latches = inputs ++ map (λ l. l.out) latches

-- Each outer net is an input, the output of a latch, or one of the targets of the gates, and no two of these.
pub record IsMakeable (names : List (List ℕ)) (prefix : List ℕ) (inputs outputs : List ℕ) (latches : List LatchValue) (targets : List ℕ) (plan : Plan) : Type 0 where
  pub names_fit : AreNames names
  pub prefix_fits : IsPrefix names prefix
  pub made : IsWellMade (length names) (driven_outside inputs latches) targets plan
  pub once : (n : ℕ) → n < length names → times n (driven_outside inputs latches) + times n targets ≡ 1
  pub driven_low : (n : ℕ) → Has (driven_outside inputs latches) n → n < length names
  pub outputs_low : (n : ℕ) → Has outputs n → n < plan.next
  pub nexts_low : (l : LatchValue) → Has latches l → l.next < plan.next
  pub few : plan.next + length targets + length latches ≤ most_nets

-- the net list of a plan that is makeable is sound
abbrev pub IsSoundIfMakeable : (names : List (List ℕ)) (prefix : List ℕ) → Plan → Type 0
IsSoundIfMakeable names prefix plan =
    (inputs outputs : List ℕ) (latches : List LatchValue) (targets : List ℕ) → IsMakeable names prefix inputs outputs latches targets plan → IsSound (made_net names prefix inputs outputs latches plan)
