-- Plans whose net list has a short text. Source: this project's own.
use Rattle.std.specs.Prelude.{ℕ, ◌+◌, ◌≤◌, List, length}
use Rattle.lists.specs.Limits.{most_bytes}
use Rattle.lists.specs.Lists.{Has}
use Rattle.net_core.specs.GateValue.{GateValue}
use Rattle.net_core.specs.LatchValue.{LatchValue}
use Rattle.net_words.specs.declared.word.WordText.{WordText}
use Rattle.net_write.specs.Written.{written}
use Rattle.make_nets.specs.Made.{IsPlanFor, made_of}
use Rattle.make_nets.specs.MakerNames.{AreMakerNames}
use Rattle.make_nets.specs.Plan.{Plan}
use Rattle.make_nets.specs.Ports.{outer_names, word_names}

-- each gate has at most two inputs
abbrev pub ReadTwo : Plan → Type 0
ReadTwo plan = (g : GateValue) → Has plan.gates g → length g.inputs ≤ 2

-- there are at most 152,000 gates, of at most two inputs each
pub record IsShort (plan : Plan) : Type 0 where
  pub two : ReadTwo plan
  pub few : length plan.gates ≤ 152000

-- the text of the net list fits a file, where the plan is short, and outer nets and latches are few
abbrev pub FitsIfShort : List WordText → (fed : List (List ℕ)) → List LatchValue → (targets : List ℕ) → Plan → Type 0
FitsIfShort words fed latches targets plan =
    AreMakerNames (outer_names words fed) → IsPlanFor words fed latches targets plan → IsShort plan → length (word_names words) + length fed ≤ 256 → length latches ≤ 256
    → length (written (made_of words fed latches plan)) ≤ most_bytes
