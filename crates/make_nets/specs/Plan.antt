-- Gates in the making, each net inside numbered by the gate that drives it. Source: the covers of the BLIF format of UC Berkeley.
use Rattle.std.specs.Prelude.{ℕ, zero, suc, ◌+◌, Bool, List, [], ◌∷◌, ◌++◌, length, Option, None, Some, unwrap_or, if◌then◌else◌}
use Rattle.net_core.specs.GateValue.{GateValue}

-- the gates so far, and the number of the next inner net
pub record Plan : Type 0 where
  pub next : ℕ
  pub gates : List GateValue

-- nothing yet, where inner nets are numbered from n
abbrev pub begun : ℕ → Plan
begun n = record { next = n; gates = [] }

-- the net that a gate drives: the one that is given, or the next inner one
abbrev pub driven_by : Option ℕ → Plan → ℕ
driven_by target plan = unwrap_or target plan.next

-- the next inner net, after a gate that drives the given net, or the next inner one
abbrev pub next_after : Option ℕ → Plan → ℕ
next_after None plan = suc plan.next
next_after (Some n) plan = plan.next

-- one more gate
abbrev pub with_gate : Option ℕ → List ℕ → ℕ → Plan → Plan
with_gate target inputs table plan =
    record { next = next_after target plan; gates = plan.gates ++ record { out = driven_by target plan; inputs = inputs; table = table } ∷ [] }

-- the constant 0
abbrev pub with_zero : Option ℕ → Plan → Plan
with_zero target = with_gate target [] 0

-- the net a
abbrev pub with_buffer : Option ℕ → ℕ → Plan → Plan
with_buffer target a = with_gate target (a ∷ []) 2

-- a and b
abbrev pub with_and : Option ℕ → ℕ → ℕ → Plan → Plan
with_and target a b = with_gate target (a ∷ b ∷ []) 8

-- a or b, but not both
abbrev pub with_xor : Option ℕ → ℕ → ℕ → Plan → Plan
with_xor target a b = with_gate target (a ∷ b ∷ []) 6

-- exclusive or gates from the left, the last of which drives the target: of a and b, of this and the next, ..
abbrev pub with_links : Option ℕ → ℕ → ℕ → List ℕ → Plan → Plan
with_links target a b [] plan = with_xor target a b plan
with_links target a b (c ∷ rest) plan = with_links target plan.next c rest (with_xor None a b plan)

-- The chain of a list of nets into a given net, or into the next inner one after those between: no net gives the constant
-- 0, one net a buffer, and more give exclusive or gates from the left.
abbrev pub with_chain : Option ℕ → List ℕ → Plan → Plan
with_chain target [] plan = with_zero target plan
with_chain target (a ∷ []) plan = with_buffer target a plan
with_chain target (a ∷ b ∷ rest) plan = with_links target a b rest plan

-- how many inner nets stand between the nets of a chain and the net that it drives
abbrev pub between : List ℕ → ℕ
between [] = 0
between (a ∷ []) = 0
between (a ∷ b ∷ rest) = length rest

-- the net that a chain drives
abbrev pub chain_net : Option ℕ → List ℕ → Plan → ℕ
chain_net target list plan = unwrap_or target (plan.next + between list)

-- the step for 0, for 1, .., n of them
abbrev pub each : {S : Type 0} → ℕ → (ℕ → S → S) → S → S
each zero step start = start
each (suc n) step start = step n (each n step start)

-- the lists for 0, for 1, .., one after the other, n of them
abbrev pub gathered : {A : Type 0} → ℕ → (ℕ → List A) → List A
gathered zero f = []
gathered (suc n) f = gathered n f ++ f n

-- the number alone where the condition holds, else none
abbrev pub where_so : Bool → ℕ → List ℕ
where_so so n = if so then n ∷ [] else []
