-- The net of a model: what its walk meets, in order. Source: the Berkeley Logic Interchange Format (BLIF), University of California, Berkeley.
use Rattle.std.specs.Prelude.{ℕ, ◌+◌, nat_le, Bool, List, [], ◌∷◌, ◌++◌, map, length, Option, None, Some, is_some, unwrap_or, Result, Ok, Err, if◌then◌else◌}
use Rattle.lists.specs.Limits.{most_nets}
use Rattle.outcome.specs.Outcome.{Outcome, ◌>>=◌, Within, Returns}
use Rattle.outcome.specs.Steps.{on_value}
use Rattle.net_core.specs.NetList.{NetList}
use Rattle.net_core.specs.GateValue.{GateValue}
use Rattle.net_core.specs.LatchValue.{LatchValue}
use Rattle.net_core.specs.Finish.{Settles}
use Rattle.net_core.specs.declared.latch.Start.{Start}
use Rattle.net_core.specs.declared.fault.NetFault.TheVariants as nets
use Rattle.net_blif.specs.Design.{ModelValue}
use Rattle.net_flat.specs.Paths.{label_of, same_path, Path}
use Rattle.net_flat.specs.Steps.{Step, Mention, Input, Output, Gate, Latch, Enter}
use Rattle.net_flat.specs.Walk.{walk_of}
use Rattle.net_flat.specs.declared.flat_fault.FlatFault.{FlatFault}
use Rattle.net_flat.specs.declared.flat_fault.FlatFault.TheVariants.{Net, TooManyInstances}

-- what the walk has met: the different paths by their first mention, what was appended, in order, and how many instances
pub record Flat : Type 0 where
  pub paths : List Path
  pub inputs : List ℕ
  pub outputs : List ℕ
  pub gates : List GateValue
  pub latches : List LatchValue
  pub instances : ℕ

abbrev pub nothing : Flat
nothing = record { paths = []; inputs = []; outputs = []; gates = []; latches = []; instances = 0 }

-- the place of a path, where the places are counted from n
abbrev pub place_from : ℕ → List Path → Path → Option ℕ
place_from n [] path = None
place_from n (p ∷ ps) path = if same_path path p then Some n else place_from (n + 1) ps path

-- whether the path was mentioned
abbrev pub was_mentioned : Flat → Path → Bool
was_mentioned flat path = is_some (place_from 0 flat.paths path)

-- a net's number: how many different paths were mentioned before it
abbrev pub number : Flat → Path → ℕ
number flat path = unwrap_or (place_from 0 flat.paths path) 0

abbrev pub gate_on : Flat → List Path → Path → ℕ → GateValue
gate_on flat inputs out table = record { out = number flat out; inputs = map (number flat) inputs; table = table }

abbrev pub latch_on : Flat → Path → Path → Start → LatchValue
latch_on flat next out start = record { next = number flat next; out = number flat out; start = start }

-- A mention of a new path makes a net; all else is appended. There are at most 1,048,576 nets, as many gates and latches together, and as many instances.
abbrev pub after_step : Flat → Step Path → Result Flat FlatFault
after_step flat (Mention path) =
    if was_mentioned flat path then Ok flat
    else (if nat_le most_nets (length flat.paths) then Err (Net nets.TooManyNets)
    else Ok (record flat { paths = flat.paths ++ path ∷ [] }))
after_step flat (Input path) = Ok (record flat { inputs = flat.inputs ++ number flat path ∷ [] })
after_step flat (Output path) = Ok (record flat { outputs = flat.outputs ++ number flat path ∷ [] })
after_step flat (Gate inputs out table) =
    if nat_le most_nets (length flat.gates + length flat.latches) then Err (Net nets.TooManyGates)
    else Ok (record flat { gates = flat.gates ++ gate_on flat inputs out table ∷ [] })
after_step flat (Latch next out start) =
    if nat_le most_nets (length flat.gates + length flat.latches) then Err (Net nets.TooManyGates)
    else Ok (record flat { latches = flat.latches ++ latch_on flat next out start ∷ [] })
after_step flat Enter =
    if nat_le most_nets flat.instances then Err TooManyInstances
    else Ok (record flat { instances = flat.instances + 1 })

-- one step after another
abbrev pub walked_by : {S N F : Type 0} → (S → Step N → Result S F) → S → List (Step N) → Result S F
walked_by after state [] = Ok state
walked_by after state (step ∷ steps) = on_value (λ more. walked_by after more steps) (after state step)

-- step by step: the first that passes a limit decides
abbrev pub walked : Flat → List (Step Path) → Result Flat FlatFault
walked flat steps = walked_by after_step flat steps

-- the net list of what was met
abbrev pub net_list : Flat → NetList
net_list flat = record { labels = map label_of flat.paths; inputs = flat.inputs; outputs = flat.outputs; gates = flat.gates; latches = flat.latches }

-- The net of a model: its walk, and then whether the net is sound.
abbrev pub Flattens : List ModelValue → ℕ → Outcome FlatFault NetList
Flattens design model = do
  flat ← Returns (walked nothing (walk_of design model))
  Within Net (Settles (net_list flat))
