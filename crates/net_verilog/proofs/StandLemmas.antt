-- Steps of the reader of expressions.
use Rattle.std.proofs.Common.{◌≡◌, ◌∙◌, inl, inr, ap, refl, subst, ℕ, ◌+◌, ◌<◌, ◌≤◌, Bool, List, [], ◌∷◌, Ok, Err, Some, arith}
use Rattle.outcome.specs.Steps.{on_value}
use Rattle.net_core.specs.NetList.{NetList}
use Rattle.net_core.specs.declared.fault.NetFault.{NetFault}
use Rattle.net_verilog.specs.Tokens.{TokenValue}
use Rattle.net_verilog.specs.Words.{start_of}
use Rattle.net_verilog.specs.Targets.{target_of}
use Rattle.net_verilog.specs.Tree.{Tree, Net, Literal, Group, Not, Binary, level, nesting, looseness, Cut, InGroup, InNot, InRight, AreWell, allowed, depth, Begins}
use Rattle.net_verilog.specs.Made.{mentioned, settled}
use Rattle.net_verilog.specs.Expression.{Expression, operand_fault}
use Rattle.net_verilog.specs.private.Steps.{count_open}
use Rattle.net_verilog.specs.Declarations.{Declarations}
use Rattle.net_verilog.specs.declared.operator.Operator.{Operator}
use Rattle.net_verilog.specs.declared.operator.Operator.TheVariants as operators
use Rattle.net_verilog.specs.declared.operator.Driver.{Driver}
use Rattle.net_verilog.specs.declared.operator.Driver.TheVariants as drivers
use Rattle.net_verilog.specs.declared.operator.Frame.{Frame}
use Rattle.net_verilog.specs.declared.operator.Frame.TheVariants as frames
use Rattle.net_verilog.specs.declared.operator.Start.TheVariants as starts
use Rattle.net_verilog.specs.declared.fault.VerilogFault.{VerilogFault}
use Rattle.net_verilog.specs.declared.fault.VerilogFault.TheVariants as faults
use Rattle.net_verilog.specs.private.Standing.{Standing, Holding}
use Rattle.net_verilog.proofs.OpenLemmas.{depth_counted, not_open}

pub loose_some : (o : Operator) → (1 ≤ looseness o) × (looseness o ≤ 3)
loose_some operators.And = (omega arith, omega arith)
loose_some operators.Xor = (omega arith, omega arith)
loose_some operators.Xnor = (omega arith, omega arith)
loose_some operators.Or = (omega arith, omega arith)

pub level_few : (tree : Tree) → level tree ≤ 3
level_few (Net name) = omega arith
level_few (Literal line bit) = omega arith
level_few (Group inner) = omega arith
level_few (Not line inner) = omega arith
level_few (Binary line o left right) = (loose_some o).1

-- `(` and `~`
pub push_group : (declared : Declarations) (start : NetList) (tokens : List TokenValue) (net : NetList) (stack : List Frame) (t : TokenValue) (ts : List TokenValue) → Standing declared start tokens net stack (t ∷ ts) → start_of t ≡ starts.Group → count_open stack < 1024 → Standing declared start tokens net (frames.Group ∷ stack) ts
push_group declared start tokens net stack t ts s is few =
    let deep = depth_counted start net s.cuts stack s.opens in
    record { cuts = InGroup ∷ s.cuts; begins = (t, s.begins, is); well = (s.well, omega (arith, deep, few)); opens = ap (on_value (λ (p : NetList × List Frame). Ok (p.0, frames.Group ∷ p.1))) s.opens }

pub push_not : (declared : Declarations) (start : NetList) (tokens : List TokenValue) (net : NetList) (stack : List Frame) (t : TokenValue) (ts : List TokenValue) → Standing declared start tokens net stack (t ∷ ts) → start_of t ≡ starts.Not → count_open stack < 1024 → Standing declared start tokens net (frames.Not t.line ∷ stack) ts
push_not declared start tokens net stack t ts s is few =
    let deep = depth_counted start net s.cuts stack s.opens in
    record { cuts = InNot t.line ∷ s.cuts; begins = (t, s.begins, is, refl); well = (s.well, omega (arith, deep, few)); opens = ap (on_value (λ (p : NetList × List Frame). Ok (p.0, frames.Not t.line ∷ p.1))) s.opens }

-- no more is open than may be
pub few_open : (cuts : List Cut) → AreWell cuts → depth cuts ≤ 1024
few_open [] well = omega arith
few_open (InGroup ∷ cuts) well = let h = well.1 in omega (arith, h)
few_open (InNot line ∷ cuts) well = let h = well.1 in omega (arith, h)
few_open (InRight line o left ∷ cuts) well = few_open cuts well.0

-- a literal
pub hold_literal : (declared : Declarations) (start : NetList) (tokens : List TokenValue) (net : NetList) (stack : List Frame) (t : TokenValue) (ts : List TokenValue) (bit : Bool) → Standing declared start tokens net stack (t ∷ ts) → start_of t ≡ starts.Bit bit → Holding declared start tokens 0 net stack (drivers.Literal t.line bit) ts
hold_literal declared start tokens net stack t ts bit s is =
    let few = few_open s.cuts s.well in
    record { cuts = s.cuts; tree = Literal t.line bit; between = t ∷ ts; mid = net; begins = s.begins; well = s.well; spells = (t, refl, is, refl); tree_well = tt; low = omega arith; ends = omega arith; fits = omega arith; flat = omega (arith, few); opens = s.opens; makes = refl }

-- a target
pub hold_target : (declared : Declarations) (start : NetList) (tokens : List TokenValue) (net more : NetList) (stack : List Frame) (here rest : List TokenValue) (name : List ℕ) (n : ℕ) → Standing declared start tokens net stack here → target_of declared here ≡ Ok (name, rest) → mentioned net name ≡ Ok (more, n) → Holding declared start tokens 0 more stack (drivers.Wire n) rest
hold_target declared start tokens net more stack here rest name n s is mention =
    let few = few_open s.cuts s.well in
    record { cuts = s.cuts; tree = Net name; between = here; mid = net; begins = s.begins; well = s.well; spells = is; tree_well = tt; low = omega arith; ends = omega arith; fits = omega arith; flat = omega (arith, few); opens = s.opens; makes = ap (on_value (λ (p : NetList × ℕ). Ok (p.0, drivers.Wire p.1))) mention }

pub target_refused : (declared : Declarations) (start : NetList) (tokens : List TokenValue) (net : NetList) (stack : List Frame) (here rest : List TokenValue) (name : List ℕ) (refusal : NetFault) → Standing declared start tokens net stack here → target_of declared here ≡ Ok (name, rest) → mentioned net name ≡ Err refusal → Expression declared start tokens (Err (faults.Net refusal))
target_refused declared start tokens net stack here rest name refusal s is mention =
    let few = few_open s.cuts s.well in
    inr (inr (refusal, inr (s.cuts, Net name, here, rest, (net, stack), s.begins, s.well, is, tt, omega arith, omega arith, omega (arith, few), s.opens, ap (on_value (λ (p : NetList × ℕ). Ok (p.0, drivers.Wire p.1))) mention), refl))

-- a fault where an operand is wanted
pub operand_refused : (declared : Declarations) (start : NetList) (tokens : List TokenValue) (net : NetList) (stack : List Frame) (here : List TokenValue) (fault : VerilogFault) → Standing declared start tokens net stack here → operand_fault declared (count_open stack) here ≡ Some fault → Expression declared start tokens (Err fault)
operand_refused declared start tokens net stack here fault s is =
    let deep = depth_counted start net s.cuts stack s.opens in
    inl (s.cuts, here, (net, stack), s.begins, s.well, s.opens, ap (λ n. operand_fault declared n here) deep ∙ is)

-- `~` ends
pub end_not : (declared : Declarations) (start : NetList) (tokens : List TokenValue) (cap : ℕ) (net more : NetList) (stack : List Frame) (driver : Driver) (here : List TokenValue) (line n : ℕ) → Holding declared start tokens cap net (frames.Not line ∷ stack) driver here → settled net driver ≡ Ok (more, n) → Holding declared start tokens cap more stack (drivers.Not line n) here
end_not declared start tokens cap net more stack driver here line n h settles =
    let o = not_open start h.mid line h.cuts stack h.opens in
    let B : List Cut → Type 0 = λ cuts. Begins declared cuts tokens h.between in
    let begins : Begins declared (InNot line ∷ o.0) tokens h.between = subst B o.1 h.begins in
    let W : List Cut → Type 0 = AreWell in
    let well : AreWell (InNot line ∷ o.0) = subst W o.1 h.well in
    let fits : level h.tree ≤ 0 = let F : List Cut → Type 0 = λ cuts. level h.tree ≤ allowed cuts in subst F o.1 h.fits in
    let flat : nesting h.tree + (1 + depth o.0) ≤ 1024 = let F : List Cut → Type 0 = λ cuts. nesting h.tree + depth cuts ≤ 1024 in subst F o.1 h.flat in
    record {
      cuts = o.0;
      tree = Not line h.tree;
      between = begins.0 ∷ h.between;
      mid = h.mid;
      begins = begins.1;
      well = well.0;
      spells = (begins.0, h.between, refl, begins.2, begins.3, h.spells);
      tree_well = (h.tree_well, fits);
      low = omega arith;
      ends = h.ends;
      fits = omega arith;
      flat = omega (arith, flat);
      opens = o.2;
      makes = ap (on_value (λ (p : NetList × Driver). on_value (λ (q : NetList × ℕ). Ok (q.0, drivers.Not line q.1)) (settled p.0 p.1))) h.makes ∙ ap (on_value (λ (q : NetList × ℕ). Ok (q.0, drivers.Not line q.1))) settles;
    }

pub not_refused : (declared : Declarations) (start : NetList) (tokens : List TokenValue) (cap : ℕ) (net : NetList) (stack : List Frame) (driver : Driver) (here : List TokenValue) (line : ℕ) (refusal : NetFault) → Holding declared start tokens cap net (frames.Not line ∷ stack) driver here → settled net driver ≡ Err refusal → Expression declared start tokens (Err (faults.Net refusal))
not_refused declared start tokens cap net stack driver here line refusal h settles =
    let o = not_open start h.mid line h.cuts stack h.opens in
    let B : List Cut → Type 0 = λ cuts. Begins declared cuts tokens h.between in
    let begins : Begins declared (InNot line ∷ o.0) tokens h.between = subst B o.1 h.begins in
    let W : List Cut → Type 0 = AreWell in
    let well : AreWell (InNot line ∷ o.0) = subst W o.1 h.well in
    let fits : level h.tree ≤ 0 = let F : List Cut → Type 0 = λ cuts. level h.tree ≤ allowed cuts in subst F o.1 h.fits in
    let flat : nesting h.tree + (1 + depth o.0) ≤ 1024 = let F : List Cut → Type 0 = λ cuts. nesting h.tree + depth cuts ≤ 1024 in subst F o.1 h.flat in
    inr (inr (
      refusal,
      inr (
        o.0,
        Not line h.tree,
        begins.0 ∷ h.between,
        here,
        (h.mid, stack),
        begins.1,
        well.0,
        (begins.0, h.between, refl, begins.2, begins.3, h.spells),
        (h.tree_well, fits),
        omega arith,
        omega arith,
        omega (arith, flat),
        o.2,
        ap (on_value (λ (p : NetList × Driver). on_value (λ (q : NetList × ℕ). Ok (q.0, drivers.Not line q.1)) (settled p.0 p.1))) h.makes ∙ ap (on_value (λ (q : NetList × ℕ). Ok (q.0, drivers.Not line q.1))) settles,
      ),
      refl,
    ))
