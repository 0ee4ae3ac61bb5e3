-- At most one outcome comes of an expression.
use Rattle.std.proofs.Common.{◌≡◌, ◌∙◌, ap, inl, inr, sym, refl, subst, ℕ, ◌-◌, ◌<◌, ◌≤◌, Bool, true, false, List, [], ◌∷◌, Option, None, Some, Ok, Err, arith}
use Rattle.std.specs.Prelude.{nat_le, unwrap_or, if◌then◌else◌}
use Rattle.outcome.specs.Outcome.{Determined}
use Rattle.outcome.specs.Steps.{on_value}
use Rattle.net_core.specs.NetList.{NetList}
use Rattle.net_verilog.specs.Tokens.{TokenValue}
use Rattle.net_verilog.specs.Words.{start_of, next_of, wrong}
use Rattle.net_verilog.specs.Targets.{Answer, target_of}
use Rattle.net_verilog.specs.Tree.{Tree, looseness, Spells, Cut, InGroup, InNot, InRight, AreWell, depth, Begins}
use Rattle.net_verilog.specs.Made.{Making, made, opened, settled}
use Rattle.net_verilog.specs.Expression.{Expression, binding, binding_at, close_fault, continues, goes_on, group_fault, open_fault, operand_fault, start_fault, target_fault}
use Rattle.net_verilog.specs.Declarations.{Declarations}
use Rattle.net_verilog.specs.private.Steps.{count_open}
use Rattle.net_verilog.specs.private.Standing.{allows}
use Rattle.net_verilog.specs.declared.operator.Operator.{Operator}
use Rattle.net_verilog.specs.declared.operator.Driver.{Driver}
use Rattle.net_verilog.specs.declared.operator.Frame.{Frame}
use Rattle.net_verilog.specs.declared.operator.Frame.TheVariants as frames
use Rattle.net_verilog.specs.declared.operator.Start.{Start}
use Rattle.net_verilog.specs.declared.operator.Start.TheVariants as starts
use Rattle.net_verilog.specs.declared.operator.Next.{Next}
use Rattle.net_verilog.specs.declared.operator.Next.TheVariants as nexts
use Rattle.net_verilog.specs.declared.fault.VerilogFault.{VerilogFault}
use Rattle.net_verilog.specs.declared.fault.VerilogFault.TheVariants as faults
use Rattle.net_verilog.proofs.StandLemmas.{level_few}
use Rattle.net_verilog.proofs.OpenLemmas.{allowed_seen, depth_counted, group_parts}
use Rattle.net_verilog.proofs.SpotLemmas.{Out, Want, Have, Leads, open_move, start_move, target_move, next_move, move, one_end, stepped, stopped}
use Rattle.net_verilog.proofs.ReadLemmas.{Goes, Settles, after_left, opens, read_tree}

-- the machine ends so from a place, where what is open before it was made so
abbrev pub Reach : Declarations → List TokenValue → Making (List Frame) → Out → Type 0
Reach declared here (Ok p) out = Leads declared (Want p.0 p.1 here) out
Reach declared here (Err r) out = out ≡ Err (faults.Net r)

-- `(` is read
before_group : (declared : Declarations) (out : Out) (start : NetList) (cuts : List Cut) (t : TokenValue) (here : List TokenValue) → start_of t ≡ starts.Group → depth cuts < 1024 → (q : Making (List Frame)) → opened start cuts ≡ q → Reach declared here (on_value (λ (p : NetList × List Frame). Ok (p.0, frames.Group ∷ p.1)) q) out → Reach declared (t ∷ here) q out
before_group declared out start cuts t here is few (Ok p) made goes =
    let deep = depth_counted start p.0 cuts p.1 made in
    stepped declared (Want p.0 p.1 (t ∷ here)) (Want p.0 (frames.Group ∷ p.1) here) out (opens declared p.0 p.1 (frames.Group ∷ p.1) (t ∷ here) here t refl (ap (λ s. start_move s declared p.0 p.1 t here) is) (omega (arith, few, deep))) goes
before_group declared out start cuts t here is few (Err r) made goes = goes

-- `~` is read
before_not : (declared : Declarations) (out : Out) (start : NetList) (cuts : List Cut) (t : TokenValue) (line : ℕ) (here : List TokenValue) → start_of t ≡ starts.Not → t.line ≡ line → depth cuts < 1024 → (q : Making (List Frame)) → opened start cuts ≡ q → Reach declared here (on_value (λ (p : NetList × List Frame). Ok (p.0, frames.Not line ∷ p.1)) q) out → Reach declared (t ∷ here) q out
before_not declared out start cuts t line here is at few (Ok p) made goes =
    let deep = depth_counted start p.0 cuts p.1 made in
    stepped declared (Want p.0 p.1 (t ∷ here)) (Want p.0 (frames.Not line ∷ p.1) here) out (opens declared p.0 p.1 (frames.Not t.line ∷ p.1) (t ∷ here) here t refl (ap (λ s. start_move s declared p.0 p.1 t here) is) (omega (arith, few, deep)) ∙ ap (λ l. Ok (Want p.0 (frames.Not l ∷ p.1) here)) at) goes
before_not declared out start cuts t line here is at few (Err r) made goes = goes

-- a left operand and its operator are read
operand_goes : (declared : Declarations) (out : Out) (stack : List Frame) (t : TokenValue) (line : ℕ) (operator : Operator) (here : List TokenValue) → next_of t ≡ nexts.Operator operator → t.line ≡ line → looseness operator ≤ allows stack → (q : Making Driver) → Reach declared here (on_value (λ (q : NetList × Driver). on_value (λ (a : NetList × ℕ). Ok (a.0, frames.Left line operator a.1 ∷ stack)) (settled q.0 q.1)) q) out → Goes declared stack (t ∷ here) q out
operand_goes declared out stack t line operator here is at room (Ok p) goes = after_left declared p.0 p.1 stack t here line operator out is at room (by (settled p.0 p.1) goes)
  where
    by : (s : Making ℕ) → Reach declared here (on_value (λ (a : NetList × ℕ). Ok (a.0, frames.Left line operator a.1 ∷ stack)) s) out → Settles declared line operator stack here s out
    by (Ok a) goes = goes
    by (Err r) goes = goes
operand_goes declared out stack t line operator here is at room (Err r) goes = goes

before_right : (declared : Declarations) (out : Out) (start : NetList) (cuts : List Cut) (t : TokenValue) (line : ℕ) (operator : Operator) (left : Tree) (before here : List TokenValue) → Spells declared left before (t ∷ here) → next_of t ≡ nexts.Operator operator → t.line ≡ line → AreWell (InRight line operator left ∷ cuts)
    → (q : Making (List Frame)) → opened start cuts ≡ q → Reach declared here (on_value (λ (p : NetList × List Frame). on_value (λ (q : NetList × Driver). on_value (λ (a : NetList × ℕ). Ok (a.0, frames.Left line operator a.1 ∷ p.1)) (settled q.0 q.1)) (made p.0 left)) q) out → Reach declared before q out
before_right declared out start cuts t line operator left before here spells is at well (Ok p) opened_is goes =
    let deep = depth_counted start p.0 cuts p.1 opened_is in
    let seen = allowed_seen start p.0 cuts p.1 opened_is in
    let tight = well.2 in
    let room = well.3 in
    let flat = well.4 in
    let cap : binding_at (t ∷ here) ≡ looseness operator = ap binding is in
    read_tree declared out left p.0 p.1 before (t ∷ here) spells well.1 (omega (arith, flat, deep)) (omega (arith, tight, room, seen)) (omega (arith, tight, cap)) (operand_goes declared out p.1 t line operator here is at (omega (arith, room, seen)) (made p.0 left) goes)
before_right declared out start cuts t line operator left before here spells is at well (Err r) opened_is goes = goes

-- what is open before a place is read
pub read_cuts : (declared : Declarations) (out : Out) (cuts : List Cut) (start : NetList) (tokens here : List TokenValue) → Begins declared cuts tokens here → AreWell cuts → Reach declared here (opened start cuts) out → Leads declared (Want start [] tokens) out
read_cuts declared out [] start tokens here begins well goes =
    let P : List TokenValue → Type 0 = λ ts. Leads declared (Want start [] ts) out in
    subst P (sym begins) goes
read_cuts declared out (InGroup ∷ cuts) start tokens here (t, begins, is) well goes = read_cuts declared out cuts start tokens (t ∷ here) begins well.0 (before_group declared out start cuts t here is well.1 (opened start cuts) refl goes)
read_cuts declared out (InNot line ∷ cuts) start tokens here (t, begins, is, at) well goes = read_cuts declared out cuts start tokens (t ∷ here) begins well.0 (before_not declared out start cuts t line here is at well.1 (opened start cuts) refl goes)
read_cuts declared out (InRight line operator left ∷ cuts) start tokens here (t, before, begins, spells, is, at) well goes = read_cuts declared out cuts start tokens before begins well.0 (before_right declared out start cuts t line operator left before here spells is at well (opened start cuts) refl goes)

-- the fault of a place where an operand is wanted
some_fault : (x y : VerilogFault) → ◌≡◌ {A = Option VerilogFault} (Some x) (Some y) → x ≡ y
some_fault x y is = ap (λ o. unwrap_or o x) is

open_refuses : (net : NetList) (stack : List Frame) (count : ℕ) (t : TokenValue) (ts : List TokenValue) (fault : VerilogFault) → open_fault count t ≡ Some fault → open_move (nat_le 1024 count) net stack t ts ≡ Err (Err fault)
open_refuses net stack count t ts fault is = by (nat_le 1024 count) is
  where
    by : (b : Bool) → (if b then Some (faults.LeftOut t.line t.text) else None) ≡ Some fault → open_move b net stack t ts ≡ Err (Err fault)
    by true is = ap (λ f. Err (Err f)) (some_fault (faults.LeftOut t.line t.text) fault is)
    by false is = absurd (cc)

target_refuses : (net : NetList) (stack : List Frame) (fault : VerilogFault) (q : Answer (List ℕ)) → target_fault q ≡ Some fault → target_move net stack q ≡ Err (Err fault)
target_refuses net stack fault (Ok p) is = absurd (cc)
target_refuses net stack fault (Err e) is = ap (λ f. Err (Err f)) (some_fault e fault is)

start_refuses : (declared : Declarations) (net : NetList) (stack : List Frame) (start : Start) (t : TokenValue) (ts : List TokenValue) (fault : VerilogFault) → start_fault declared (count_open stack) start t ts ≡ Some fault → start_move start declared net stack t ts ≡ Err (Err fault)
start_refuses declared net stack starts.Group t ts fault is = open_refuses net (frames.Group ∷ stack) (count_open stack) t ts fault is
start_refuses declared net stack starts.Not t ts fault is = open_refuses net (frames.Not t.line ∷ stack) (count_open stack) t ts fault is
start_refuses declared net stack (starts.Bit bit) t ts fault is = absurd (cc)
start_refuses declared net stack starts.Target t ts fault is = target_refuses net stack fault (target_of declared (t ∷ ts)) is
start_refuses declared net stack starts.Other t ts fault is = ap (λ f. Err (Err f)) (some_fault (wrong t) fault is)

operand_refuses : (declared : Declarations) (net : NetList) (stack : List Frame) (here : List TokenValue) (fault : VerilogFault) → operand_fault declared (count_open stack) here ≡ Some fault → move declared (Want net stack here) ≡ Err (Err fault)
operand_refuses declared net stack [] fault is = ap (λ f. Err (Err f)) (some_fault (faults.Syntax 0) fault is)
operand_refuses declared net stack (t ∷ ts) fault is = start_refuses declared net stack (start_of t) t ts fault is

-- the fault of a group that neither goes on nor is closed
close_refuses : (net : NetList) (driver : Driver) (stack : List Frame) (next : Next) (t : TokenValue) (ts : List TokenValue) (fault : VerilogFault) → close_fault next t ≡ Some fault → next_move next (record { net = net; stack = frames.Group ∷ stack; driver = driver }) t ts ≡ Err (Err fault)
close_refuses net driver stack (nexts.Operator operator) t ts fault is = absurd (cc)
close_refuses net driver stack nexts.Close t ts fault is = absurd (cc)
close_refuses net driver stack nexts.Other t ts fault is = ap (λ f. Err (Err f)) (some_fault (wrong t) fault is)

group_refuses : (declared : Declarations) (net : NetList) (driver : Driver) (stack : List Frame) (here : List TokenValue) (fault : VerilogFault) → group_fault here ≡ Some fault → move declared (Have net (frames.Group ∷ stack) driver here) ≡ Err (Err fault)
group_refuses declared net driver stack [] fault is = ap (λ f. Err (Err f)) (some_fault (faults.Syntax 0) fault is)
group_refuses declared net driver stack (t ∷ ts) fault is = close_refuses net driver stack (next_of t) t ts fault is

close_loose : (next : Next) (t : TokenValue) (fault : VerilogFault) → close_fault next t ≡ Some fault → binding next ≡ 3
close_loose (nexts.Operator operator) t fault is = absurd (cc)
close_loose nexts.Close t fault is = refl
close_loose nexts.Other t fault is = refl

group_loose : (here : List TokenValue) (fault : VerilogFault) → group_fault here ≡ Some fault → binding_at here ≡ 3
group_loose [] fault is = refl
group_loose (t ∷ ts) fault is = close_loose (next_of t) t fault is

-- an expression that has ended
next_ends : (net : NetList) (driver : Driver) (next : Next) (t : TokenValue) (ts : List TokenValue) → goes_on next ≡ false → next_move next (record { net = net; stack = []; driver = driver }) t ts ≡ Err (Ok (record { net = net; driver = driver; rest = t ∷ ts }))
next_ends net driver (nexts.Operator operator) t ts is = absurd (cc)
next_ends net driver nexts.Close t ts is = refl
next_ends net driver nexts.Other t ts is = refl

end_move : (declared : Declarations) (net : NetList) (driver : Driver) (rest : List TokenValue) → continues rest ≡ false → move declared (Have net [] driver rest) ≡ Err (Ok (record { net = net; driver = driver; rest = rest }))
end_move declared net driver [] is = refl
end_move declared net driver (t ∷ ts) is = next_ends net driver (next_of t) t ts is

next_loose : (next : Next) → goes_on next ≡ false → binding next ≡ 3
next_loose (nexts.Operator operator) is = absurd (cc)
next_loose nexts.Close is = refl
next_loose nexts.Other is = refl

end_loose : (rest : List TokenValue) → continues rest ≡ false → binding_at rest ≡ 3
end_loose [] is = refl
end_loose (t ∷ ts) is = next_loose (next_of t) is

-- a place that is reached, where what is open before it was made
reached : (declared : Declarations) (out : Out) (cuts : List Cut) (start : NetList) (tokens here : List TokenValue) (p : NetList × List Frame) → Begins declared cuts tokens here → AreWell cuts → opened start cuts ≡ Ok p → Leads declared (Want p.0 p.1 here) out → Leads declared (Want start [] tokens) out
reached declared out cuts start tokens here p begins well is goes =
    let P : Making (List Frame) → Type 0 = λ q. Reach declared here q out in
    read_cuts declared out cuts start tokens here begins well (subst P (sym is) goes)

-- each outcome of an expression is the end of the machine
leads : (declared : Declarations) (start : NetList) (tokens : List TokenValue) (out : Out) → Expression declared start tokens out → Leads declared (Want start [] tokens) out
leads declared start tokens (Ok read) (tree, spells, well, flat, ends, makes) =
    let few = level_few tree in
    let cap = end_loose read.rest ends in
    let P : Making Driver → Type 0 = λ q. Goes declared [] read.rest q (Ok read) in
    read_tree declared (Ok read) tree start [] tokens read.rest spells well (omega (arith, flat)) few (omega (arith, few, cap)) (subst P (sym makes) (stopped declared (Have read.net [] read.driver read.rest) (Ok read) (end_move declared read.net read.driver read.rest ends)))
leads declared start tokens (Err fault) (inl (cuts, here, p, begins, well, is, refuses)) =
    let deep = depth_counted start p.0 cuts p.1 is in
    reached declared (Err fault) cuts start tokens here p begins well is (stopped declared (Want p.0 p.1 here) (Err fault) (operand_refuses declared p.0 p.1 here fault (ap (λ n. operand_fault declared n here) (sym deep) ∙ refuses)))
leads declared start tokens (Err fault) (inr (inl (cuts, inner, between, here, p, q, begins, well, spells, inner_well, flat, is, makes, refuses))) =
    let deep = depth_counted start p.0 (InGroup ∷ cuts) p.1 is in
    let seen = allowed_seen start p.0 (InGroup ∷ cuts) p.1 is in
    let few = level_few inner in
    let cap = group_loose here fault refuses in
    let parts = group_parts start p.0 cuts p.1 is in
    let P : Making Driver → Type 0 = λ r. Goes declared p.1 here r (Err fault) in
    let Q : List Frame → Type 0 = λ s. Leads declared (Have q.0 s q.1 here) (Err fault) in
    let stops : Leads declared (Have q.0 p.1 q.1 here) (Err fault) = subst Q parts.2 (stopped declared (Have q.0 (frames.Group ∷ parts.0) q.1 here) (Err fault) (group_refuses declared q.0 q.1 parts.0 here fault refuses)) in
    reached declared (Err fault) (InGroup ∷ cuts) start tokens between p begins well is (read_tree declared (Err fault) inner p.0 p.1 between here spells inner_well (omega (arith, flat, deep)) (omega (arith, few, seen)) (omega (arith, few, cap)) (subst P (sym makes) stops))
leads declared start tokens (Err fault) (inr (inr (refusal, inl (cuts, here, begins, well, is), same))) =
    let P : Making (List Frame) → Type 0 = λ q. Reach declared here q (Err fault) in
    read_cuts declared (Err fault) cuts start tokens here begins well (subst P (sym is) (ap (λ f. Err f) same))
leads declared start tokens (Err fault) (inr (inr (refusal, inr (cuts, tree, between, here, p, begins, well, spells, tree_well, fits, ends, flat, is, makes), same))) =
    let deep = depth_counted start p.0 cuts p.1 is in
    let seen = allowed_seen start p.0 cuts p.1 is in
    let P : Making Driver → Type 0 = λ q. Goes declared p.1 here q (Err fault) in
    reached declared (Err fault) cuts start tokens between p begins well is (read_tree declared (Err fault) tree p.0 p.1 between here spells tree_well (omega (arith, flat, deep)) (omega (arith, fits, seen)) ends (subst P (sym makes) (ap (λ f. Err f) same)))

pub expression_determined : (declared : Declarations) (start : NetList) (tokens : List TokenValue) → Determined (Expression declared start tokens)
expression_determined declared start tokens x y h k = one_end declared (Want start [] tokens) x y (leads declared start tokens x h) (leads declared start tokens y k)
