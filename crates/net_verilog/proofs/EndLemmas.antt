-- Ends of operators and groups in the reader of expressions.
use Rattle.std.proofs.Common.{◌≡◌, ◌∙◌, inl, inr, ap, sym, refl, subst, ℕ, ◌+◌, ◌-◌, ◌≤◌, false, List, [], ◌∷◌, Ok, Err, Some, max, arith}
use Rattle.outcome.specs.Steps.{on_value}
use Rattle.net_core.specs.NetList.{NetList}
use Rattle.net_core.specs.declared.fault.NetFault.{NetFault}
use Rattle.net_verilog.specs.Tokens.{TokenValue}
use Rattle.net_verilog.specs.Words.{next_of}
use Rattle.net_verilog.specs.Tree.{Tree, Group, Binary, IsWell, level, nesting, looseness, Spells, Cut, InGroup, InRight, AreWell, allowed, depth, Begins}
use Rattle.net_verilog.specs.Made.{made, settled, opened}
use Rattle.net_verilog.specs.Expression.{Expression, binding_at, continues, group_fault}
use Rattle.net_verilog.specs.Declarations.{Declarations}
use Rattle.net_verilog.specs.declared.operator.Operator.{Operator}
use Rattle.net_verilog.specs.declared.operator.Driver.{Driver}
use Rattle.net_verilog.specs.declared.operator.Driver.TheVariants as drivers
use Rattle.net_verilog.specs.declared.operator.Frame.{Frame}
use Rattle.net_verilog.specs.declared.operator.Frame.TheVariants as frames
use Rattle.net_verilog.specs.declared.operator.Next.TheVariants as nexts
use Rattle.net_verilog.specs.declared.fault.VerilogFault.{VerilogFault}
use Rattle.net_verilog.specs.declared.fault.VerilogFault.TheVariants as faults
use Rattle.net_verilog.specs.private.Standing.{Standing, Holding, allows}
use Rattle.net_verilog.proofs.StandLemmas.{loose_some}
use Rattle.net_verilog.proofs.OpenLemmas.{allowed_seen, group_open, none_open, right_open}

-- the tree of an operator at its place
record Ended (declared : Declarations) (start : NetList) (tokens : List TokenValue) (net : NetList) (stack : List Frame) (driver : Driver) (here : List TokenValue) (tree : Tree) (number line : ℕ) (operator : Operator) : Type 0 where
  cuts : List Cut
  left : Tree
  between : List TokenValue
  before : NetList
  begins : Begins declared cuts tokens between
  well : AreWell cuts
  spells : Spells declared (Binary line operator left tree) between here
  tree_well : IsWell (Binary line operator left tree)
  fits : looseness operator ≤ allowed cuts
  flat : nesting (Binary line operator left tree) + depth cuts ≤ 1024
  opens : opened start cuts ≡ Ok (before, stack)
  makes : made before (Binary line operator left tree) ≡ on_value (λ (b : NetList × ℕ). Ok (b.0, drivers.Binary line operator number b.1)) (settled net driver)

max_below : (a b c d : ℕ) → a + c ≤ d → b + c ≤ d → max a b + c ≤ d
max_below a b c d x y = omega arith

-- the steps of an operator, where its operands have been made
binary_made : (mid net before middle : NetList) (left tree : Tree) (line number : ℕ) (operator : Operator) (first driver : Driver) → made before left ≡ Ok (middle, first) → settled middle first ≡ Ok (mid, number) → made mid tree ≡ Ok (net, driver) → made before (Binary line operator left tree) ≡ on_value (λ (b : NetList × ℕ). Ok (b.0, drivers.Binary line operator number b.1)) (settled net driver)
binary_made mid net before middle left tree line number operator first driver one two three =
    ap (on_value (λ (p : NetList × Driver). on_value (λ (a : NetList × ℕ). on_value (λ (q : NetList × Driver). on_value (λ (b : NetList × ℕ). Ok (b.0, drivers.Binary line operator a.1 b.1)) (settled q.0 q.1)) (made a.0 tree)) (settled p.0 p.1))) one
    ∙ (ap (on_value (λ (a : NetList × ℕ). on_value (λ (q : NetList × Driver). on_value (λ (b : NetList × ℕ). Ok (b.0, drivers.Binary line operator a.1 b.1)) (settled q.0 q.1)) (made a.0 tree))) two
    ∙ ap (on_value (λ (q : NetList × Driver). on_value (λ (b : NetList × ℕ). Ok (b.0, drivers.Binary line operator number b.1)) (settled q.0 q.1))) three)

ended : (declared : Declarations) (start : NetList) (tokens : List TokenValue) (cap : ℕ) (net : NetList) (stack : List Frame) (driver : Driver) (here : List TokenValue) (line : ℕ) (operator : Operator) (number : ℕ) → (h : Holding declared start tokens cap net (frames.Left line operator number ∷ stack) driver here) → Ended declared start tokens net stack driver here h.tree number line operator
ended declared start tokens cap net stack driver here line operator number h =
    let o = right_open start h.mid line operator number h.cuts stack h.opens in
    let B : List Cut → Type 0 = λ cuts. Begins declared cuts tokens h.between in
    let begins : Begins declared (InRight line operator o.left ∷ o.rest) tokens h.between = subst B o.is h.begins in
    let W : List Cut → Type 0 = AreWell in
    let well : AreWell (InRight line operator o.left ∷ o.rest) = subst W o.is h.well in
    let tight : level h.tree ≤ looseness operator - 1 = let F : List Cut → Type 0 = λ cuts. level h.tree ≤ allowed cuts in subst F o.is h.fits in
    let flat : nesting h.tree + depth o.rest ≤ 1024 = let F : List Cut → Type 0 = λ cuts. nesting h.tree + depth cuts ≤ 1024 in subst F o.is h.flat in
    let some = (loose_some operator).0 in
    record {
      cuts = o.rest;
      left = o.left;
      between = begins.1;
      before = o.before;
      begins = begins.2;
      well = well.0;
      spells = (begins.0, h.between, begins.3, begins.4, begins.5, h.spells);
      tree_well = (well.1, h.tree_well, well.2, omega (arith, tight, some));
      fits = well.3;
      flat = max_below (nesting o.left) (nesting h.tree) (depth o.rest) 1024 well.4 flat;
      opens = o.opens;
      makes = binary_made h.mid net o.before o.mid o.left h.tree line number operator o.driver driver o.makes o.settles h.makes;
    }

-- an operator ends
pub end_right : (declared : Declarations) (start : NetList) (tokens : List TokenValue) (cap : ℕ) (net more : NetList) (stack : List Frame) (driver : Driver) (here : List TokenValue) (line : ℕ) (operator : Operator) (number n : ℕ) → Holding declared start tokens cap net (frames.Left line operator number ∷ stack) driver here → looseness operator ≤ cap → settled net driver ≡ Ok (more, n) → Holding declared start tokens cap more stack (drivers.Binary line operator number n) here
end_right declared start tokens cap net more stack driver here line operator number n h below settles =
    let e = ended declared start tokens cap net stack driver here line operator number h in
    record { cuts = e.cuts; tree = Binary line operator e.left h.tree; between = e.between; mid = e.before; begins = e.begins; well = e.well; spells = e.spells; tree_well = e.tree_well; low = below; ends = h.ends; fits = e.fits; flat = e.flat; opens = e.opens; makes = e.makes ∙ ap (on_value (λ (b : NetList × ℕ). Ok (b.0, drivers.Binary line operator number b.1))) settles }

pub right_refused : (declared : Declarations) (start : NetList) (tokens : List TokenValue) (cap : ℕ) (net : NetList) (stack : List Frame) (driver : Driver) (here : List TokenValue) (line : ℕ) (operator : Operator) (number : ℕ) (refusal : NetFault) → Holding declared start tokens cap net (frames.Left line operator number ∷ stack) driver here → looseness operator ≤ cap → settled net driver ≡ Err refusal → Expression declared start tokens (Err (faults.Net refusal))
right_refused declared start tokens cap net stack driver here line operator number refusal h below settles =
    let ends = h.ends in
    let e = ended declared start tokens cap net stack driver here line operator number h in
    inr (inr (refusal, inr (e.cuts, Binary line operator e.left h.tree, e.between, here, (e.before, stack), e.begins, e.well, e.spells, e.tree_well, e.fits, omega (arith, below, ends), e.flat, e.opens, e.makes ∙ ap (on_value (λ (b : NetList × ℕ). Ok (b.0, drivers.Binary line operator number b.1))) settles), refl))

-- an operator after its left operand
left_opened : (start mid net : NetList) (cuts : List Cut) (tree : Tree) (stack : List Frame) (driver : Driver) (line : ℕ) (operator : Operator) → opened start cuts ≡ Ok (mid, stack) → made mid tree ≡ Ok (net, driver) → opened start (InRight line operator tree ∷ cuts) ≡ on_value (λ (a : NetList × ℕ). Ok (a.0, frames.Left line operator a.1 ∷ stack)) (settled net driver)
left_opened start mid net cuts tree stack driver line operator opens makes =
    ap (on_value (λ (p : NetList × List Frame). on_value (λ (q : NetList × Driver). on_value (λ (a : NetList × ℕ). Ok (a.0, frames.Left line operator a.1 ∷ p.1)) (settled q.0 q.1)) (made p.0 tree))) opens
    ∙ ap (on_value (λ (q : NetList × Driver). on_value (λ (a : NetList × ℕ). Ok (a.0, frames.Left line operator a.1 ∷ stack)) (settled q.0 q.1))) makes

pub push_left : (declared : Declarations) (start : NetList) (tokens : List TokenValue) (net more : NetList) (stack : List Frame) (driver : Driver) (t : TokenValue) (ts : List TokenValue) (operator : Operator) (n : ℕ) → Holding declared start tokens (looseness operator) net stack driver (t ∷ ts) → next_of t ≡ nexts.Operator operator → looseness operator ≤ allows stack → settled net driver ≡ Ok (more, n) → Standing declared start tokens more (frames.Left t.line operator n ∷ stack) ts
push_left declared start tokens net more stack driver t ts operator n h is room settles =
    let seen = allowed_seen start h.mid h.cuts stack h.opens in
    record {
      cuts = InRight t.line operator h.tree ∷ h.cuts;
      begins = (t, h.between, h.begins, h.spells, is, refl);
      well = (h.well, h.tree_well, h.low, omega (arith, seen, room), h.flat);
      opens = left_opened start h.mid net h.cuts h.tree stack driver t.line operator h.opens h.makes ∙ ap (on_value (λ (a : NetList × ℕ). Ok (a.0, frames.Left t.line operator a.1 ∷ stack))) settles;
    }

pub left_refused : (declared : Declarations) (start : NetList) (tokens : List TokenValue) (net : NetList) (stack : List Frame) (driver : Driver) (t : TokenValue) (ts : List TokenValue) (operator : Operator) (refusal : NetFault) → Holding declared start tokens (looseness operator) net stack driver (t ∷ ts) → next_of t ≡ nexts.Operator operator → looseness operator ≤ allows stack → settled net driver ≡ Err refusal → Expression declared start tokens (Err (faults.Net refusal))
left_refused declared start tokens net stack driver t ts operator refusal h is room settles =
    let seen = allowed_seen start h.mid h.cuts stack h.opens in
    inr (inr (
      refusal,
      inl (
        InRight t.line operator h.tree ∷ h.cuts,
        ts,
        (t, h.between, h.begins, h.spells, is, refl),
        (h.well, h.tree_well, h.low, omega (arith, seen, room), h.flat),
        left_opened start h.mid net h.cuts h.tree stack driver t.line operator h.opens h.makes ∙ ap (on_value (λ (a : NetList × ℕ). Ok (a.0, frames.Left t.line operator a.1 ∷ stack))) settles,
      ),
      refl,
    ))

-- a group is closed
pub close_group : (declared : Declarations) (start : NetList) (tokens : List TokenValue) (cap : ℕ) (net : NetList) (stack : List Frame) (driver : Driver) (u : TokenValue) (rest : List TokenValue) → Holding declared start tokens cap net (frames.Group ∷ stack) driver (u ∷ rest) → next_of u ≡ nexts.Close → Holding declared start tokens 0 net stack driver rest
close_group declared start tokens cap net stack driver u rest h is =
    let o = group_open start h.mid h.cuts stack h.opens in
    let B : List Cut → Type 0 = λ cuts. Begins declared cuts tokens h.between in
    let begins : Begins declared (InGroup ∷ o.0) tokens h.between = subst B o.1 h.begins in
    let W : List Cut → Type 0 = AreWell in
    let well : AreWell (InGroup ∷ o.0) = subst W o.1 h.well in
    let flat : nesting h.tree + (1 + depth o.0) ≤ 1024 = let F : List Cut → Type 0 = λ cuts. nesting h.tree + depth cuts ≤ 1024 in subst F o.1 h.flat in
    record { cuts = o.0; tree = Group h.tree; between = begins.0 ∷ h.between; mid = h.mid; begins = begins.1; well = well.0; spells = (begins.0, u, h.between, refl, begins.2, h.spells, is); tree_well = h.tree_well; low = omega arith; ends = omega arith; fits = omega arith; flat = omega (arith, flat); opens = o.2; makes = h.makes }

-- a group that neither goes on nor is closed
pub group_refused : (declared : Declarations) (start : NetList) (tokens : List TokenValue) (cap : ℕ) (net : NetList) (stack : List Frame) (driver : Driver) (here : List TokenValue) (fault : VerilogFault) → Holding declared start tokens cap net (frames.Group ∷ stack) driver here → group_fault here ≡ Some fault → Expression declared start tokens (Err fault)
group_refused declared start tokens cap net stack driver here fault h is =
    let o = group_open start h.mid h.cuts stack h.opens in
    let B : List Cut → Type 0 = λ cuts. Begins declared cuts tokens h.between in
    let W : List Cut → Type 0 = AreWell in
    let F : List Cut → Type 0 = λ cuts. nesting h.tree + depth cuts ≤ 1024 in
    let O : List Cut → Type 0 = λ cuts. opened start cuts ≡ Ok (h.mid, frames.Group ∷ stack) in
    inr (inl (o.0, h.tree, h.between, here, (h.mid, frames.Group ∷ stack), (net, driver), subst B o.1 h.begins, subst W o.1 h.well, h.spells, h.tree_well, subst F o.1 h.flat, subst O o.1 h.opens, h.makes, is))

-- the expression ends
pub whole : (declared : Declarations) (start : NetList) (tokens : List TokenValue) (cap : ℕ) (net : NetList) (driver : Driver) (here : List TokenValue) → Holding declared start tokens cap net [] driver here → continues here ≡ false → Expression declared start tokens (Ok (record { net = net; driver = driver; rest = here }))
whole declared start tokens cap net driver here h ends =
    let o = none_open start h.mid h.cuts h.opens in
    let B : List Cut → Type 0 = λ cuts. Begins declared cuts tokens h.between in
    let begins : tokens ≡ h.between = subst B o.0 h.begins in
    let S : List TokenValue → Type 0 = λ ts. Spells declared h.tree ts here in
    let M : NetList → Type 0 = λ n. made n h.tree ≡ Ok (net, driver) in
    let flat = h.flat in
    (h.tree, subst S (sym begins) h.spells, h.tree_well, omega (arith, flat), ends, subst M (sym o.1) h.makes)

-- a higher cap
pub raised : (declared : Declarations) (start : NetList) (tokens : List TokenValue) (net : NetList) (stack : List Frame) (driver : Driver) (here : List TokenValue) (low cap : ℕ) → low ≤ cap → cap ≤ binding_at here → Holding declared start tokens low net stack driver here → Holding declared start tokens cap net stack driver here
raised declared start tokens net stack driver here low cap more ends h =
    let below = h.low in
    record { cuts = h.cuts; tree = h.tree; between = h.between; mid = h.mid; begins = h.begins; well = h.well; spells = h.spells; tree_well = h.tree_well; low = omega (arith, below, more); ends = ends; fits = h.fits; flat = h.flat; opens = h.opens; makes = h.makes }
