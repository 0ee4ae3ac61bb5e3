-- What comes of expressions, assignments and instances: nets grow, the tokens after them print, and so do the faults.
use Rattle.std.proofs.Common.{◌≡◌, sym, inl, inr, refl, subst, ℕ, zero, suc, ◌<◌, Bool, true, false, cond, ◌⊎◌, List, [], ◌∷◌, ◌++◌, length, Option, None, Some, Result, Ok, Err, arith}
use Rattle.std.specs.Prelude.{nat_le}
use Rattle.outcome.specs.Outcome.{Exactly, Returns}
use Rattle.outcome.specs.Steps.{on_value}
use Rattle.text_core.specs.Lines.{IsPrinting}
use Rattle.net_core.specs.NetList.{NetList, nets}
use Rattle.net_core.specs.declared.fault.NetFault.{NetFault}
use Rattle.net_verilog.specs.Tokens.{TokenValue}
use Rattle.net_verilog.specs.Words.{next_of, start_kind, start_of}
use Rattle.net_verilog.specs.Targets.{Answer, target_of}
use Rattle.net_verilog.specs.Tree.{Tree, Net, Literal, Group, Not, Binary, Cut, InGroup, InNot, InRight, Begins, Spells, depth}
use Rattle.net_verilog.specs.Made.{driven, inputs_of, made, mentioned, opened, settled, table_of, with_gate_of}
use Rattle.net_verilog.specs.Expression.{BreaksLimit, Expression, Read, close_fault, group_fault, open_fault, operand_fault, start_fault, target_fault}
use Rattle.net_verilog.specs.Parts.{identifier, taken}
use Rattle.net_verilog.specs.Assigns.{Assigns, Reads, net_fault}
use Rattle.net_verilog.specs.Several.{Either, Several, SeveralOf, after_first, comma_first}
use Rattle.net_verilog.specs.Instances.{ReadsInput, ReadsInstance, after_name, fits_gate, gate_table, named_first, placed}
use Rattle.net_verilog.specs.Declarations.{Declarations}
use Rattle.net_verilog.specs.declared.gate_kind.GateKind.{GateKind}
use Rattle.net_verilog.specs.declared.operator.Next.{Next}
use Rattle.net_verilog.specs.declared.operator.Next.TheVariants as nexts
use Rattle.net_verilog.specs.declared.operator.Start.{Start}
use Rattle.net_verilog.specs.declared.operator.Start.TheVariants as starts
use Rattle.net_verilog.specs.declared.sign.Sign.TheVariants as signs
use Rattle.net_verilog.specs.declared.fault.VerilogFault.{VerilogFault}
use Rattle.net_verilog.specs.declared.fault.VerilogFault.TheVariants as faults
use Rattle.net_verilog.specs.private.Places.{Prints, is_wrong}
use Rattle.net_verilog.specs.declared.kind.Kind.{Kind}
use Rattle.net_verilog.specs.declared.kind.Kind.TheVariants as kinds
use Rattle.verilog_reader.proofs.PrintLemmas.{Any, ArePrinting, FaultPrints, Good, IsLimit, Keeps, Then, good_if, good_then, identifier_prints, keeps_bind, keeps_exactly, keeps_returns, taken_prints, target_prints, wrong_prints}
use Rattle.verilog_reader.proofs.GrowLemmas.{CutsPrint, Grows, GrowsBy, GrowsTo, Makes, TreePrints, gate_of_grows, grows_more, grows_same, made_grows, mention_grows, opened_grows, settle_grows}

-- a value of a result that is good is as said, and its fault prints
pub value_of : {A : Type 0} (is : A → Type 0) (r : Result A VerilogFault) (a : A) → r ≡ Ok a → Good is r → is a
value_of {A} is r a same good = let P : Result A VerilogFault → Type 0 = Good is in subst P same good

-- a fault of the net as one of the text
pub net_good : {A : Type 0} (is : A → Type 0) (r : Result A NetFault) → Makes is r → Good is (net_fault r)
net_good is (Ok a) makes = makes
net_good is (Err f) makes = makes

limit_of : {A : Type 0} (is : A → Type 0) (r : Result A NetFault) (f : NetFault) → r ≡ Err f → Makes is r → IsLimit f
limit_of {A} is r f same makes = let P : Result A NetFault → Type 0 = Makes is in subst P same makes

grown_of : {A : Type 0} (net more : NetList) (a : A) (r : Result (NetList × A) NetFault) → r ≡ Ok (more, a) → Makes (GrowsBy net) r → Grows net more
grown_of {A} net more a r same makes = let P : Result (NetList × A) NetFault → Type 0 = Makes (GrowsBy net) in subst P same makes

after_token : (t : TokenValue) (tokens rest : List TokenValue) → tokens ≡ t ∷ rest → ArePrinting tokens → Prints t × ArePrinting rest
after_token t tokens rest same prints = let (first, others) = subst ArePrinting same prints in (first, others)

-- ---- expressions

spells_prints : (declared : Declarations) (tree : Tree) (tokens rest : List TokenValue) → Spells declared tree tokens rest → ArePrinting tokens → TreePrints tree × ArePrinting rest
spells_prints declared (Net name) tokens rest is prints = let both = value_of (Then IsPrinting) (target_of declared tokens) (name, rest) is (target_prints declared tokens prints) in (both.0, both.1)
spells_prints declared (Literal line bit) tokens rest (t, same, starts, at) prints = (tt, (after_token t tokens rest same prints).1)
spells_prints declared (Group inner) tokens rest (t, u, more, same, starts, inside, closes) prints =
    let within = spells_prints declared inner more (u ∷ rest) inside (after_token t tokens more same prints).1 in
    (within.0, within.1.1)
spells_prints declared (Not line inner) tokens rest (t, more, same, starts, at, inside) prints = spells_prints declared inner more rest inside (after_token t tokens more same prints).1
spells_prints declared (Binary line operator left right) tokens rest (t, more, before, goes, at, behind) prints =
    let one = spells_prints declared left tokens (t ∷ more) before prints in
    let two = spells_prints declared right more rest behind one.1.1 in
    ((one.0, two.0), two.1)

begins_prints : (declared : Declarations) (cuts : List Cut) (tokens rest : List TokenValue) → Begins declared cuts tokens rest → ArePrinting tokens → CutsPrint cuts × ArePrinting rest
begins_prints declared [] tokens rest same prints = (tt, subst ArePrinting same prints)
begins_prints declared (InGroup ∷ cuts) tokens rest (t, before, starts) prints = let b = begins_prints declared cuts tokens (t ∷ rest) before prints in (b.0, b.1.1)
begins_prints declared (InNot line ∷ cuts) tokens rest (t, before, starts, at) prints = let b = begins_prints declared cuts tokens (t ∷ rest) before prints in (b.0, b.1.1)
begins_prints declared (InRight line operator left ∷ cuts) tokens rest (t, between, before, spells, goes, at) prints =
    let b = begins_prints declared cuts tokens between before prints in
    let s = spells_prints declared left between (t ∷ rest) spells b.1 in
    ((s.0, b.0), s.1.1)

-- a fault, where there is one, prints
abbrev MayPrint : Option VerilogFault → Type 0
MayPrint None = Unit {0}
MayPrint (Some fault) = FaultPrints fault

some_prints : (o : Option VerilogFault) (fault : VerilogFault) → o ≡ Some fault → MayPrint o → FaultPrints fault
some_prints o fault is may = subst MayPrint is may

same_prints : (fault other : VerilogFault) → fault ≡ other → FaultPrints other → FaultPrints fault
same_prints fault other is may = subst FaultPrints (sym is) may

-- a token that begins an operand is not wrong
start_shows : (kind : Kind) (text : List ℕ) → (start_kind kind text ≡ starts.Group) ⊎ (start_kind kind text ≡ starts.Not) → is_wrong kind ≡ false
start_shows kinds.Wrong text (inl is) = absurd (cc)
start_shows kinds.Wrong text (inr is) = absurd (cc)
start_shows kind text is = refl

open_may : (count : ℕ) (t : TokenValue) → (start_of t ≡ starts.Group) ⊎ (start_of t ≡ starts.Not) → Prints t → MayPrint (open_fault count t)
open_may count t is prints = by (nat_le 1024 count)
  where
    by : (b : Bool) → MayPrint (cond b (Some (faults.LeftOut t.line t.text)) None)
    by true = prints (start_shows t.kind t.text is)
    by false = tt

operand_may : (declared : Declarations) (count : ℕ) (tokens : List TokenValue) → ArePrinting tokens → MayPrint (operand_fault declared count tokens)
operand_may declared count [] prints = tt
operand_may declared count (t ∷ ts) prints = by (start_of t) refl
  where
    target : (r : Answer (List ℕ)) → Good (Then IsPrinting) r → MayPrint (target_fault r)
    target (Ok p) good = tt
    target (Err fault) good = good

    by : (start : Start) → start_of t ≡ start → MayPrint (start_fault declared count start t ts)
    by starts.Group is = open_may count t (inl is) prints.0
    by starts.Not is = open_may count t (inr is) prints.0
    by (starts.Bit bit) is = tt
    by starts.Target is = target (target_of declared (t ∷ ts)) (target_prints declared (t ∷ ts) prints)
    by starts.Other is = wrong_prints t prints.0

group_may : (tokens : List TokenValue) → ArePrinting tokens → MayPrint (group_fault tokens)
group_may [] prints = tt
group_may (t ∷ ts) prints = by (next_of t)
  where
    by : (next : Next) → MayPrint (close_fault next t)
    by (nexts.Operator operator) = tt
    by nexts.Close = tt
    by nexts.Other = wrong_prints t prints.0

-- a net list that an expression grows from, and the tokens after it
abbrev ReadsOn : NetList → Read → Type 0
ReadsOn net read = Grows net read.net × ArePrinting read.rest

limit_prints : (declared : Declarations) (net : NetList) (tokens : List TokenValue) (refusal : NetFault) → ArePrinting tokens → BreaksLimit declared net tokens refusal → IsLimit refusal
limit_prints declared net tokens refusal prints (inl (cuts, here, begins, well, opens)) = limit_of (GrowsBy net) (opened net cuts) refusal opens (opened_grows net cuts (begins_prints declared cuts tokens here begins prints).0)
limit_prints declared net tokens refusal prints (inr (cuts, tree, between, here, p, begins, well, spells, tree_well, fits, ends, flat, opens, makes)) =
    let b = begins_prints declared cuts tokens between begins prints in
    limit_of (GrowsBy p.0) (made p.0 tree) refusal makes (made_grows p.0 tree (spells_prints declared tree between here spells b.1).0)

pub expression_keeps : (declared : Declarations) (net : NetList) (tokens : List TokenValue) → ArePrinting tokens → Keeps (Expression declared net tokens) (ReadsOn net)
expression_keeps declared net tokens prints (Ok read) (tree, spells, well, flat, ends, makes) =
    let s = spells_prints declared tree tokens read.rest spells prints in
    (grown_of net read.net read.driver (made net tree) makes (made_grows net tree s.0), s.1)
expression_keeps declared net tokens prints (Err fault) (inl (cuts, here, p, begins, well, opens, is)) = some_prints (operand_fault declared (depth cuts) here) fault is (operand_may declared (depth cuts) here (begins_prints declared cuts tokens here begins prints).1)
expression_keeps declared net tokens prints (Err fault) (inr (inl (cuts, inner, between, here, p, q, begins, well, spells, tree_well, flat, opens, makes, is))) =
    let b = begins_prints declared (InGroup ∷ cuts) tokens between begins prints in
    some_prints (group_fault here) fault is (group_may here (spells_prints declared inner between here spells b.1).1)
expression_keeps declared net tokens prints (Err fault) (inr (inr (refusal, breaks, is))) = same_prints fault (faults.Net refusal) is (limit_prints declared net tokens refusal prints breaks)

-- ---- lists with commas

pub after_prints : (tokens : List TokenValue) → ArePrinting tokens → ArePrinting (after_first tokens)
after_prints [] prints = tt
after_prints (t ∷ ts) prints = prints.1

module _ {S : Type 0} (Holds : S → Type 0) (one : S → List TokenValue → Reads S) (each : (state : S) (tokens : List TokenValue) → Holds state → ArePrinting tokens → Keeps (one state tokens) (Then Holds)) where
  several_of : (n : ℕ) (state : S) (tokens : List TokenValue) → Holds state → ArePrinting tokens → Keeps (SeveralOf n one state tokens) (Then Holds)
  several_of zero state tokens holds prints x h = absurd h
  several_of (suc n) state tokens holds prints x h = keeps_bind (Then Holds) (Then Holds) (one state tokens) (λ first. Either (comma_first first.1) (SeveralOf n one first.0 (after_first first.1)) (Exactly first)) (each state tokens holds prints) (λ first kept. either first kept (several_of n first.0 (after_first first.1) kept.0 (after_prints first.1 kept.1)) (comma_first first.1)) x h
    where
      either : (first : S × List TokenValue) → Then Holds first → Keeps (SeveralOf n one first.0 (after_first first.1)) (Then Holds) → (b : Bool) → Keeps (Either b (SeveralOf n one first.0 (after_first first.1)) (Exactly first)) (Then Holds)
      either first kept more true = more
      either first kept more false = keeps_exactly (Then Holds) first kept

  pub several_keeps : (state : S) (tokens : List TokenValue) → Holds state → ArePrinting tokens → Keeps (Several one state tokens) (Then Holds)
  several_keeps state tokens holds prints x h = several_of h.0 state tokens holds prints x h.1

-- ---- assignments and instances

module _ (start : NetList) (declared : Declarations) where
  pub assigns_keeps : (net : NetList) (tokens : List TokenValue) → Grows start net → ArePrinting tokens → Keeps (Assigns declared net tokens) (Then (Grows start))
  assigns_keeps net tokens grows prints =
      keeps_bind (Then IsPrinting) (Then (Grows start)) (Returns (target_of declared tokens)) _ (keeps_returns _ _ (target_prints declared tokens prints)) (λ target one.
      keeps_bind (GrowsTo net) (Then (Grows start)) (Returns (net_fault (mentioned net target.0))) _ (keeps_returns _ _ (net_good (GrowsTo net) (mentioned net target.0) (mention_grows net target.0 one.0))) (λ out two.
      keeps_bind (Then Any) (Then (Grows start)) (Returns (taken signs.Equals target.1)) _ (keeps_returns _ _ (taken_prints signs.Equals target.1 one.1)) (λ sign three.
      keeps_bind (ReadsOn out.0) (Then (Grows start)) (Expression declared out.0 sign.1) _ (expression_keeps declared out.0 sign.1 three.1) (λ read four.
      keeps_bind (Grows read.net) (Then (Grows start)) (Returns (net_fault (driven read.net out.1 read.driver))) _ (keeps_returns _ _ (net_good (Grows read.net) (driven read.net out.1 read.driver) (gate_of_grows read.net out.1 (inputs_of read.driver) (table_of read.driver) (omega (arith, two.1, four.0.wider))))) (λ more five.
      keeps_exactly (Then (Grows start)) (more, read.rest) (grows_more start net more grows (grows_more net out.0 more two.0 (grows_more out.0 read.net more four.0 five)), four.1))))))

  pub assignments_keep : (net : NetList) (tokens : List TokenValue) → Grows start net → ArePrinting tokens → Keeps (Several (Assigns declared) net tokens) (Then (Grows start))
  assignments_keep = several_keeps (Grows start) (Assigns declared) assigns_keeps

  input_keeps : (so_far : NetList × List ℕ) (tokens : List TokenValue) → Grows start so_far.0 → ArePrinting tokens → Keeps (ReadsInput declared so_far tokens) (Then (λ (p : NetList × List ℕ). Grows start p.0))
  input_keeps so_far tokens grows prints =
      keeps_bind (ReadsOn so_far.0) (Then (λ (p : NetList × List ℕ). Grows start p.0)) (Expression declared so_far.0 tokens) _ (expression_keeps declared so_far.0 tokens prints) (λ read one.
      keeps_bind (GrowsBy read.net) (Then (λ (p : NetList × List ℕ). Grows start p.0)) (Returns (net_fault (settled read.net read.driver))) _ (keeps_returns _ _ (net_good (GrowsBy read.net) (settled read.net read.driver) (settle_grows read.net read.driver))) (λ net two.
      keeps_exactly (Then (λ (p : NetList × List ℕ). Grows start p.0)) ((net.0, so_far.1 ++ net.1 ∷ []), read.rest) (grows_more start so_far.0 net.0 grows (grows_more so_far.0 read.net net.0 one.0 two), one.1)))

  pub inputs_keep : (so_far : NetList × List ℕ) (tokens : List TokenValue) → Grows start so_far.0 → ArePrinting tokens → Keeps (Several (ReadsInput declared) so_far tokens) (Then (λ (p : NetList × List ℕ). Grows start p.0))
  inputs_keep = several_keeps (λ (p : NetList × List ℕ). Grows start p.0) (ReadsInput declared) input_keeps

placed_good : (kind : GateKind) (net : NetList) (out : ℕ) (inputs : List ℕ) (line : ℕ) → out < nets net → Good (Grows net) (placed kind net out inputs line)
placed_good kind net out inputs line below = good_if (Grows net) (fits_gate kind (length inputs)) (net_fault (with_gate_of net out inputs (gate_table kind (length inputs)))) (Err (faults.Arity line (length inputs))) (net_good (Grows net) (with_gate_of net out inputs (gate_table kind (length inputs))) (gate_of_grows net out inputs (gate_table kind (length inputs)) below)) tt

named_good : (tokens : List TokenValue) → ArePrinting tokens → Good ArePrinting (after_name tokens)
named_good tokens prints = good_if ArePrinting (named_first tokens) (on_value (λ (p : (ℕ × List ℕ) × List TokenValue). Ok p.1) (identifier tokens)) (Ok tokens) (good_then (Then (λ (p : ℕ × List ℕ). IsPrinting p.1)) ArePrinting (λ (p : (ℕ × List ℕ) × List TokenValue). Ok p.1) (identifier tokens) (identifier_prints tokens prints) (λ p kept. kept.1)) prints

module _ (start : NetList) (declared : Declarations) (kind : GateKind) where
  instance_keeps : (net : NetList) (tokens : List TokenValue) → Grows start net → ArePrinting tokens → Keeps (ReadsInstance declared kind net tokens) (Then (Grows start))
  instance_keeps net tokens grows prints =
      keeps_bind ArePrinting (Then (Grows start)) (Returns (after_name tokens)) _ (keeps_returns _ _ (named_good tokens prints)) (λ named zero.
      keeps_bind (Then Any) (Then (Grows start)) (Returns (taken signs.Open named)) _ (keeps_returns _ _ (taken_prints signs.Open named zero)) (λ left one.
      keeps_bind (Then IsPrinting) (Then (Grows start)) (Returns (target_of declared left.1)) _ (keeps_returns _ _ (target_prints declared left.1 one.1)) (λ target two.
      keeps_bind (GrowsTo net) (Then (Grows start)) (Returns (net_fault (mentioned net target.0))) _ (keeps_returns _ _ (net_good (GrowsTo net) (mentioned net target.0) (mention_grows net target.0 two.0))) (λ out three.
      keeps_bind (Then Any) (Then (Grows start)) (Returns (taken signs.Comma target.1)) _ (keeps_returns _ _ (taken_prints signs.Comma target.1 two.1)) (λ first four.
      keeps_bind (Then (λ (p : NetList × List ℕ). Grows out.0 p.0)) (Then (Grows start)) (Several (ReadsInput declared) (out.0, []) first.1) _ (inputs_keep out.0 declared (out.0, []) first.1 (grows_same out.0) four.1) (λ inputs five.
      keeps_bind (Then Any) (Then (Grows start)) (Returns (taken signs.Close inputs.1)) _ (keeps_returns _ _ (taken_prints signs.Close inputs.1 five.1)) (λ right six.
      keeps_bind (Grows inputs.0.0) (Then (Grows start)) (Returns (placed kind inputs.0.0 out.1 inputs.0.1 right.0)) _ (keeps_returns _ _ (placed_good kind inputs.0.0 out.1 inputs.0.1 right.0 (omega (arith, three.1, five.0.wider)))) (λ more seven.
      keeps_exactly (Then (Grows start)) (more, right.1) (grows_more start net more grows (grows_more net out.0 more three.0 (grows_more out.0 inputs.0.0 more five.0 seven)), six.1)))))))))

  pub instances_keep : (net : NetList) (tokens : List TokenValue) → Grows start net → ArePrinting tokens → Keeps (Several (ReadsInstance declared kind) net tokens) (Then (Grows start))
  instances_keep = several_keeps (Grows start) (ReadsInstance declared kind) instance_keeps
