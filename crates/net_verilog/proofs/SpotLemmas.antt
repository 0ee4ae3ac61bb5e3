-- A machine that reads expressions, one operand, operator or sign a move: all outcomes of an expression are its end.
use Rattle.std.proofs.Common.{◌≡◌, ◌∙◌, ap, sym, ℕ, zero, suc, Bool, List, [], ◌∷◌, Option, None, Some, Result, Ok, Err}
use Rattle.std.specs.Prelude.{nat_le, unwrap_or, if◌then◌else◌}
use Rattle.net_core.specs.NetList.{NetList}
use Rattle.net_core.specs.declared.fault.NetFault.{NetFault}
use Rattle.net_verilog.specs.Tokens.{TokenValue}
use Rattle.net_verilog.specs.Words.{start_of, next_of, wrong}
use Rattle.net_verilog.specs.Targets.{Answer, target_of}
use Rattle.net_verilog.specs.Made.{mentioned, settled}
use Rattle.net_verilog.specs.Expression.{Read, binding_at}
use Rattle.net_verilog.specs.Declarations.{Declarations}
use Rattle.net_verilog.specs.private.Steps.{count_open}
use Rattle.net_verilog.specs.declared.operator.Operator.{Operator}
use Rattle.net_verilog.specs.declared.operator.Driver.{Driver}
use Rattle.net_verilog.specs.declared.operator.Driver.TheVariants as drivers
use Rattle.net_verilog.specs.declared.operator.Frame.{Frame}
use Rattle.net_verilog.specs.declared.operator.Frame.TheVariants as frames
use Rattle.net_verilog.specs.declared.operator.Start.{Start}
use Rattle.net_verilog.specs.declared.operator.Start.TheVariants as starts
use Rattle.net_verilog.specs.declared.operator.Next.{Next}
use Rattle.net_verilog.specs.declared.operator.Next.TheVariants as nexts
use Rattle.net_verilog.specs.declared.fault.VerilogFault.{VerilogFault}
use Rattle.net_verilog.specs.declared.fault.VerilogFault.TheVariants as faults
use Rattle.net_verilog.proofs.Reduction.{Reduced, reduced}

-- what comes of an expression
abbrev pub Out : Type 0
Out = Result Read VerilogFault

-- an operand is wanted, or was read
pub data Spot : Type 0 where
  Want : (net : NetList) (stack : List Frame) (here : List TokenValue) → Spot
  Have : (net : NetList) (stack : List Frame) (driver : Driver) (here : List TokenValue) → Spot

-- the next spot, or the end
abbrev pub Move : Type 0
Move = Result Spot Out

abbrev pub mention_move : List Frame → List TokenValue → Result (NetList × ℕ) NetFault → Move
mention_move stack rest (Ok p) = Ok (Have p.0 stack (drivers.Wire p.1) rest)
mention_move stack rest (Err r) = Err (Err (faults.Net r))

abbrev pub target_move : NetList → List Frame → Answer (List ℕ) → Move
target_move net stack (Ok p) = mention_move stack p.1 (mentioned net p.0)
target_move net stack (Err e) = Err (Err e)

abbrev pub open_move : Bool → NetList → List Frame → TokenValue → List TokenValue → Move
open_move many net stack t ts = if many then Err (Err (faults.LeftOut t.line t.text)) else Ok (Want net stack ts)

abbrev pub start_move : Start → Declarations → NetList → List Frame → TokenValue → List TokenValue → Move
start_move starts.Group declared net stack t ts = open_move (nat_le 1024 (count_open stack)) net (frames.Group ∷ stack) t ts
start_move starts.Not declared net stack t ts = open_move (nat_le 1024 (count_open stack)) net (frames.Not t.line ∷ stack) t ts
start_move (starts.Bit bit) declared net stack t ts = Ok (Have net stack (drivers.Literal t.line bit) ts)
start_move starts.Target declared net stack t ts = target_move net stack (target_of declared (t ∷ ts))
start_move starts.Other declared net stack t ts = Err (Err (wrong t))

abbrev pub want : Declarations → NetList → List Frame → List TokenValue → Move
want declared net stack [] = Err (Err (faults.Syntax 0))
want declared net stack (t ∷ ts) = start_move (start_of t) declared net stack t ts

abbrev pub left_move : ℕ → Operator → List Frame → List TokenValue → Result (NetList × ℕ) NetFault → Move
left_move line operator stack ts (Ok p) = Ok (Want p.0 (frames.Left line operator p.1 ∷ stack) ts)
left_move line operator stack ts (Err r) = Err (Err (faults.Net r))

abbrev pub close_move : List Frame → NetList → Driver → TokenValue → List TokenValue → Move
close_move [] net driver t ts = Err (Ok (record { net = net; driver = driver; rest = t ∷ ts }))
close_move (frame ∷ stack) net driver t ts = Ok (Have net stack driver ts)

abbrev pub other_move : List Frame → NetList → Driver → TokenValue → List TokenValue → Move
other_move [] net driver t ts = Err (Ok (record { net = net; driver = driver; rest = t ∷ ts }))
other_move (frame ∷ stack) net driver t ts = Err (Err (wrong t))

abbrev pub next_move : Next → Reduced → TokenValue → List TokenValue → Move
next_move (nexts.Operator operator) r t ts = left_move t.line operator r.stack ts (settled r.net r.driver)
next_move nexts.Close r t ts = close_move r.stack r.net r.driver t ts
next_move nexts.Other r t ts = other_move r.stack r.net r.driver t ts

abbrev pub none_move : List Frame → NetList → Driver → Move
none_move [] net driver = Err (Ok (record { net = net; driver = driver; rest = [] }))
none_move (frame ∷ stack) net driver = Err (Err (faults.Syntax 0))

abbrev pub here_move : List TokenValue → Reduced → Move
here_move [] r = none_move r.stack r.net r.driver
here_move (t ∷ ts) r = next_move (next_of t) r t ts

abbrev pub reduced_move : List TokenValue → Result Reduced NetFault → Move
reduced_move here (Ok r) = here_move here r
reduced_move here (Err r) = Err (Err (faults.Net r))

abbrev pub move : Declarations → Spot → Move
move declared (Want net stack here) = want declared net stack here
move declared (Have net stack driver here) = reduced_move here (reduced (binding_at here) net stack driver)

abbrev pub after : (Spot → Option Out) → Move → Option Out
after go (Ok spot) = go spot
after go (Err out) = Some out

-- the end, where so many moves suffice
pub ended : ℕ → Declarations → Spot → Option Out
ended zero declared spot = None
ended (suc n) declared spot = after (ended n declared) (move declared spot)

-- the machine comes to this end
abbrev pub Leads : Declarations → Spot → Out → Type 0
Leads declared spot out = (n : ℕ) × (ended n declared spot ≡ Some out)

pub stepped : (declared : Declarations) (spot next : Spot) (out : Out) → move declared spot ≡ Ok next → Leads declared next out → Leads declared spot out
unfolding ended
stepped declared spot next out is h = (suc h.0, ap (after (ended h.0 declared)) is ∙ h.1)

pub stopped : (declared : Declarations) (spot : Spot) (out : Out) → move declared spot ≡ Err out → Leads declared spot out
unfolding ended
stopped declared spot out is = (1, ap (after (ended 0 declared)) is)

pub moved_alike : (declared : Declarations) (spot other : Spot) (out : Out) → move declared spot ≡ move declared other → Leads declared other out → Leads declared spot out
unfolding ended
moved_alike declared spot other out is (zero, h) = absurd (cc)
moved_alike declared spot other out is (suc n, h) = (suc n, ap (after (ended n declared)) is ∙ h)

one_end_in : (declared : Declarations) (n m : ℕ) (spot : Spot) (x y : Out) → ended n declared spot ≡ Some x → ended m declared spot ≡ Some y → x ≡ y
unfolding ended
one_end_in declared zero m spot x y h k = absurd (cc)
one_end_in declared (suc n) zero spot x y h k = absurd (cc)
one_end_in declared (suc n) (suc m) spot x y h k = by (move declared spot) h k (λ next. one_end_in declared n m next x y)
  where
    by : (q : Move) → after (ended n declared) q ≡ Some x → after (ended m declared) q ≡ Some y → ((next : Spot) → ended n declared next ≡ Some x → ended m declared next ≡ Some y → x ≡ y) → x ≡ y
    by (Ok next) h k more = more next h k
    by (Err out) h k more = ap (λ o. unwrap_or o x) (sym h ∙ k)

-- there is one end
pub one_end : (declared : Declarations) (spot : Spot) (x y : Out) → Leads declared spot x → Leads declared spot y → x ≡ y
one_end declared spot x y h k = one_end_in declared h.0 k.0 spot x y h.1 k.1
