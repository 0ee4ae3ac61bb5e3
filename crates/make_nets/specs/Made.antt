-- The net list of a plan over the nets of a signature's words. Source: this project's own.
use Rattle.std.specs.Prelude.{◌≡◌, ℕ, ◌<◌, ◌≤◌, ◌+◌, List, length}
use Rattle.lists.specs.Limits.{most_nets}
use Rattle.lists.specs.Lists.{Has, times}
use Rattle.net_core.specs.LatchValue.{LatchValue}
use Rattle.net_core.specs.NetList.{NetList}
use Rattle.net_core.specs.Sound.{IsSound}
use Rattle.net_words.specs.declared.word.WordText.{WordText}
use Rattle.net_write.specs.Plain.{HasPlainNames}
use Rattle.make_nets.specs.Plan.{Plan}
use Rattle.make_nets.specs.PlanShape.{IsWellMade}
use Rattle.make_nets.specs.MadeNet.{made_net}
use Rattle.make_nets.specs.Makeable.{driven_outside}
use Rattle.make_nets.specs.MakerNames.{AreMakerNames}
use Rattle.make_nets.specs.Ports.{inputs_of, outer_names, outputs_of}
use Rattle.make_nets.specs.Prefix.{prefix_of}

-- the net list of these gates and latches: the outer nets have the names of the words' nets and of those that are fed, the
-- inner ones the prefix and 0, 1, ..
abbrev pub made_of : List WordText → List (List ℕ) → List LatchValue → Plan → NetList
made_of words fed latches plan = made_net (outer_names words fed) (prefix_of (outer_names words fed)) (inputs_of words fed) (outputs_of words) latches plan

-- the plan drives its targets and reads what inputs and latches drive, and these and the targets are the outer nets, each once
pub record IsPlanFor (words : List WordText) (fed : List (List ℕ)) (latches : List LatchValue) (targets : List ℕ) (plan : Plan) : Type 0 where
  pub shape : IsWellMade (length (outer_names words fed)) (driven_outside (inputs_of words fed) latches) targets plan
  pub once : (n : ℕ) → n < length (outer_names words fed) → times n (driven_outside (inputs_of words fed) latches) + times n targets ≡ 1
  pub nexts : (l : LatchValue) → Has latches l → l.next < plan.next
  pub latch_outs : (l : LatchValue) → Has latches l → l.out < length (outer_names words fed)
  pub few : plan.next + length targets + length latches ≤ most_nets

-- the net list of such a plan is sound, where the outer nets have names that a maker takes
abbrev pub IsSoundIfPlanned : List WordText → (fed : List (List ℕ)) → List LatchValue → (targets : List ℕ) → Plan → Type 0
IsSoundIfPlanned words fed latches targets plan = AreMakerNames (outer_names words fed) → IsPlanFor words fed latches targets plan → IsSound (made_of words fed latches plan)

-- and its names are plain
abbrev pub IsPlainIfPlanned : List WordText → (fed : List (List ℕ)) → List LatchValue → (targets : List ℕ) → Plan → Type 0
IsPlainIfPlanned words fed latches targets plan = AreMakerNames (outer_names words fed) → IsPlanFor words fed latches targets plan → HasPlainNames (made_of words fed latches plan)
