-- What comes of a module: its net grows from nothing, and its faults print.
use Rattle.std.proofs.Common.{◌≡◌, sym, inl, inr, refl, subst, ℕ, zero, suc, ◌-◌, ◌==◌, ◌||◌, Bool, true, false, cond, List, [], ◌∷◌, take, Option, None, Some, Ok, Err}
use Rattle.std.specs.Prelude.{is_some}
use Rattle.outcome.specs.Outcome.{◌>>=◌, Exactly, Returns}
use Rattle.text_core.specs.Lines.{IsPrinting}
use Rattle.net_core.specs.NetList.{NetList, empty}
use Rattle.net_verilog.specs.Tokens.{Piece, TokenValue, first_after, is_end, line_after, piece, tokens_from, tokens_of, unless_end, with_piece}
use Rattle.net_verilog.specs.Words.{wrong}
use Rattle.net_verilog.specs.Targets.{name_kind}
use Rattle.net_verilog.specs.Parts.{identifier, is_close, range, taken}
use Rattle.net_verilog.specs.Assigns.{Assigns, Reads, net_fault}
use Rattle.net_verilog.specs.Several.{Either, Several, after_first}
use Rattle.net_verilog.specs.Instances.{ReadsInstance}
use Rattle.net_verilog.specs.Declarations.{Declarations, Range, undeclared}
use Rattle.net_verilog.specs.declared.declared.Direction.{Direction}
use Rattle.net_verilog.specs.declared.declared.Direction.TheVariants.{Input, Output, Wire}
use Rattle.net_verilog.specs.declared.kind.Kind.{Kind}
use Rattle.net_verilog.specs.declared.kind.Kind.TheVariants as kinds
use Rattle.net_verilog.specs.declared.sign.Sign.TheVariants as signs
use Rattle.net_verilog.specs.declared.fault.VerilogFault.TheVariants as faults
use Rattle.net_verilog.specs.private.Places.{Prints, is_wrong}
use Rattle.net_verilog.proofs.PieceLemmas.{none_prints, piece_prints}
use Rattle.verilog_reader.specs.Declares.{Declares, ReadsName, ported}
use Rattle.verilog_reader.specs.Items.{Item, Items, ItemsOf, ReadsItem, State, after_wire, declared_range, endmodule_first, is_module, is_wire, item_fault, item_start}
use Rattle.verilog_reader.specs.Modules.{DeclaredPorts, Head, Module, PlainPort, PlainPorts, PortList, PortsAfter, PortsFrom, ReadsPort, head_of, module_taken, nothing_more, open_first, port_direction, port_head}
use Rattle.verilog_reader.specs.declared.starts.ItemStart.{ItemStart}
use Rattle.verilog_reader.specs.declared.starts.ItemStart.TheVariants as items
use Rattle.verilog_reader.proofs.PrintLemmas.{Any, ArePrinting, FaultPrints, Good, Keeps, Then, good_if, good_then, identifier_prints, keeps_bind, keeps_exactly, keeps_returns, range_prints, taken_prints, wrong_prints}
use Rattle.verilog_reader.proofs.GrowLemmas.{Grows, grows_more, grows_same, ported_grows}
use Rattle.verilog_reader.proofs.StepLemmas.{after_prints, assignments_keep, instances_keep, net_good, several_keeps}

-- ---- tokens

piece_tokens : (o : Option Kind) (text : List ℕ) (line : ℕ) (rest : List TokenValue) → ((k : Kind) → o ≡ Some k → is_wrong k ≡ false → IsPrinting text) → ArePrinting rest → ArePrinting (with_piece o text line rest)
piece_tokens None text line rest shown prints = prints
piece_tokens (Some kind) text line rest shown prints = (shown kind refl, by kind)
  where
    by : (kind : Kind) → ArePrinting (unless_end kind rest)
    by kinds.End = tt
    by kind = prints

from_prints : (more line : ℕ) (first : Bool) (bytes : List ℕ) → ArePrinting (tokens_from more line first bytes)
from_prints more line first [] = ((λ is. none_prints), tt)
from_prints zero line first (b ∷ bs) =
    let p : Piece = piece first (b ∷ bs) in
    piece_tokens p.0 (take p.1 (b ∷ bs)) line (tokens_from (p.1 - 1) (line_after b line) ((b == 10) || first_after p.0 first) bs) (piece_prints first (b ∷ bs)).prints (from_prints (p.1 - 1) (line_after b line) ((b == 10) || first_after p.0 first) bs)
from_prints (suc more) line first (b ∷ bs) = from_prints more (line_after b line) ((b == 10) || first) bs

-- the tokens of a text print
pub tokens_print : (text : List ℕ) → ArePrinting (tokens_of text)
tokens_print text = from_prints 0 1 true text

-- ---- declarations

-- the net list of a state grows from this one
abbrev pub StateGrows : NetList → State → Type 0
StateGrows start state = Grows start state.1

module _ (start : NetList) where
  declares_keep : (declared : Declarations) (range : Range) (direction : Direction) (name : ℕ × List ℕ) → Keeps (Declares declared range direction name) (Any {A = Declarations})
  declares_keep declared range direction name (Ok more) h = tt
  declares_keep declared range direction name (Err fault) (inl h) = subst FaultPrints (sym h.1) tt
  declares_keep declared range direction name (Err fault) (inr h) = subst FaultPrints (sym h.2) tt

  name_keeps : (range : Range) (direction : Direction) (state : State) (tokens : List TokenValue) → StateGrows start state → ArePrinting tokens → Keeps (ReadsName range direction state tokens) (Then (StateGrows start))
  name_keeps range direction state tokens grows prints =
      keeps_bind (Then (λ (p : ℕ × List ℕ). IsPrinting p.1)) (Then (StateGrows start)) (Returns (identifier tokens)) _ (keeps_returns _ _ (identifier_prints tokens prints)) (λ name one.
      keeps_bind (Any {A = Declarations}) (Then (StateGrows start)) (Declares state.0 range direction name.0) _ (declares_keep state.0 range direction name.0) (λ declared two.
      keeps_bind (Grows state.1) (Then (StateGrows start)) (Returns (net_fault (ported direction state.1 name.0.1 range))) _ (keeps_returns _ _ (net_good (Grows state.1) (ported direction state.1 name.0.1 range) (ported_grows direction state.1 name.0.1 range one.0))) (λ net three.
      keeps_exactly (Then (StateGrows start)) ((declared, net), name.1) (grows_more start state.1 net grows three, one.1))))

  names_keep : (range : Range) (direction : Direction) (state : State) (tokens : List TokenValue) → StateGrows start state → ArePrinting tokens → Keeps (Several (ReadsName range direction) state tokens) (Then (StateGrows start))
  names_keep range direction = several_keeps (StateGrows start) (ReadsName range direction) (name_keeps range direction)

  wire_prints : (tokens : List TokenValue) → ArePrinting tokens → ArePrinting (after_wire tokens)
  wire_prints [] prints = tt
  wire_prints (t ∷ ts) prints = by (is_wire t)
    where
      by : (b : Bool) → ArePrinting (cond b ts (t ∷ ts))
      by true = prints.1
      by false = prints

  ranged_prints : (direction : Direction) (tokens : List TokenValue) → ArePrinting tokens → Good (Then Any) (declared_range direction tokens)
  ranged_prints Wire tokens prints = range_prints tokens prints
  ranged_prints Input tokens prints = range_prints (after_wire tokens) (wire_prints tokens prints)
  ranged_prints Output tokens prints = range_prints (after_wire tokens) (wire_prints tokens prints)

  -- ---- items

  item_wrong : (t : TokenValue) → Prints t → FaultPrints (item_fault t)
  item_wrong t prints = by (is_some (name_kind t.kind t.text)) refl
    where
      shows : (kind : Kind) (text : List ℕ) → is_some (name_kind kind text) ≡ true → is_wrong kind ≡ false
      shows kinds.Wrong text is = absurd (cc)
      shows kind text is = refl

      by : (b : Bool) → is_some (name_kind t.kind t.text) ≡ b → FaultPrints (cond b (faults.LeftOut t.line t.text) (wrong t))
      by true is = prints (shows t.kind t.text is)
      by false is = wrong_prints t prints

  start_keeps : (begins : ItemStart) (state : State) (t : TokenValue) (ts : List TokenValue) → StateGrows start state → Prints t → ArePrinting ts → Keeps (ReadsItem begins state t ts) (Then (StateGrows start))
  start_keeps (items.Declaration direction) state t ts grows first prints =
      keeps_bind (Then Any) (Then (StateGrows start)) (Returns (declared_range direction ts)) _ (keeps_returns _ _ (ranged_prints direction ts prints)) (λ ranged one.
      keeps_bind (Then (StateGrows start)) (Then (StateGrows start)) (Several (ReadsName ranged.0 direction) state ranged.1) _ (names_keep ranged.0 direction state ranged.1 grows one.1) (λ names two.
      keeps_bind (Then Any) (Then (StateGrows start)) (Returns (taken signs.Semicolon names.1)) _ (keeps_returns _ _ (taken_prints signs.Semicolon names.1 two.1)) (λ end three.
      keeps_exactly (Then (StateGrows start)) (names.0, end.1) (two.0, three.1))))
  start_keeps items.Assignments state t ts grows first prints =
      keeps_bind (Then (Grows start)) (Then (StateGrows start)) (Several (Assigns state.0) state.1 ts) _ (assignments_keep start state.0 state.1 ts grows prints) (λ net one.
      keeps_bind (Then Any) (Then (StateGrows start)) (Returns (taken signs.Semicolon net.1)) _ (keeps_returns _ _ (taken_prints signs.Semicolon net.1 one.1)) (λ end two.
      keeps_exactly (Then (StateGrows start)) ((state.0, net.0), end.1) (one.0, two.1)))
  start_keeps (items.Instances kind) state t ts grows first prints =
      keeps_bind (Then (Grows start)) (Then (StateGrows start)) (Several (ReadsInstance state.0 kind) state.1 ts) _ (instances_keep start state.0 kind state.1 ts grows prints) (λ net one.
      keeps_bind (Then Any) (Then (StateGrows start)) (Returns (taken signs.Semicolon net.1)) _ (keeps_returns _ _ (taken_prints signs.Semicolon net.1 one.1)) (λ end two.
      keeps_exactly (Then (StateGrows start)) ((state.0, net.0), end.1) (one.0, two.1)))
  start_keeps items.Other state t ts grows first prints = keeps_returns (Then (StateGrows start)) (Err (item_fault t)) (item_wrong t first)

  pub item_keeps : (state : State) (tokens : List TokenValue) → StateGrows start state → ArePrinting tokens → Keeps (Item state tokens) (Then (StateGrows start))
  item_keeps state [] grows prints = keeps_returns (Then (StateGrows start)) (Err (faults.Syntax 0)) tt
  item_keeps state (t ∷ ts) grows prints = start_keeps (item_start t) state t ts grows prints.0 prints.1

  either_keeps : (b : Bool) (p q : Reads State) → Keeps p (Then (StateGrows start)) → Keeps q (Then (StateGrows start)) → Keeps (Either b p q) (Then (StateGrows start))
  either_keeps true p q one other = one
  either_keeps false p q one other = other

  items_of : (n : ℕ) (state : State) (tokens : List TokenValue) → StateGrows start state → ArePrinting tokens → Keeps (ItemsOf n state tokens) (Then (StateGrows start))
  items_of zero state tokens grows prints x h = absurd h
  items_of (suc n) state tokens grows prints x h =
      either_keeps (endmodule_first tokens) (Exactly (state, after_first tokens)) (Item state tokens >>= (λ next. ItemsOf n next.0 next.1))
      (keeps_exactly (Then (StateGrows start)) (state, after_first tokens) (grows, after_prints tokens prints))
      (keeps_bind (Then (StateGrows start)) (Then (StateGrows start)) (Item state tokens) (λ next. ItemsOf n next.0 next.1) (item_keeps state tokens grows prints) (λ next kept. items_of n next.0 next.1 kept.0 kept.1))
      x
      h

  pub items_keep : (state : State) (tokens : List TokenValue) → StateGrows start state → ArePrinting tokens → Keeps (Items state tokens) (Then (StateGrows start))
  items_keep state tokens grows prints x h = items_of h.0 state tokens grows prints x h.1

  -- ---- ports

  head_prints : (before : Head) (tokens : List TokenValue) → ArePrinting tokens → Good (Then Any) (head_of before tokens)
  head_prints before [] prints = (tt, tt)
  head_prints before (t ∷ ts) prints = by (port_direction (item_start t))
    where
      by : (direction : Option Direction) → Good (Then Any) (port_head before direction t ts)
      by None = (tt, prints)
      by (Some direction) = good_then (Then Any) (Then Any) _ (range (after_wire ts)) (range_prints (after_wire ts) (wire_prints ts prints.1)) (λ r kept. (tt, kept.1))

  port_keeps : (state : Head × State) (tokens : List TokenValue) → StateGrows start state.1 → ArePrinting tokens → Keeps (ReadsPort state tokens) (Then (λ (p : Head × State). StateGrows start p.1))
  port_keeps state tokens grows prints =
      keeps_bind (Then Any) (Then (λ (p : Head × State). StateGrows start p.1)) (Returns (head_of state.0 tokens)) _ (keeps_returns _ _ (head_prints state.0 tokens prints)) (λ head one.
      keeps_bind (Then (StateGrows start)) (Then (λ (p : Head × State). StateGrows start p.1)) (ReadsName head.0.1 head.0.0 state.1 head.1) _ (name_keeps head.0.1 head.0.0 state.1 head.1 grows one.1) (λ named two.
      keeps_exactly (Then (λ (p : Head × State). StateGrows start p.1)) ((head.0, named.0), named.1) two))

  declared_keep : (state : State) (tokens : List TokenValue) → StateGrows start state → ArePrinting tokens → Keeps (DeclaredPorts state tokens) (Then (StateGrows start))
  declared_keep state tokens grows prints =
      keeps_bind (Then (λ (p : Head × State). StateGrows start p.1)) (Then (StateGrows start)) (Several ReadsPort ((Wire, None), state) tokens) _ (several_keeps (λ (p : Head × State). StateGrows start p.1) ReadsPort port_keeps ((Wire, None), state) tokens grows prints) (λ ports one.
      keeps_bind (Then Any) (Then (StateGrows start)) (Returns (taken signs.Close ports.1)) _ (keeps_returns _ _ (taken_prints signs.Close ports.1 one.1)) (λ right two.
      keeps_exactly (Then (StateGrows start)) (ports.0.1, right.1) (one.0, two.1)))

  plain_keeps : (state : State) (tokens : List TokenValue) → StateGrows start state → ArePrinting tokens → Keeps (PlainPort state tokens) (Then (StateGrows start))
  plain_keeps state tokens grows prints =
      keeps_bind (Then (λ (p : ℕ × List ℕ). IsPrinting p.1)) (Then (StateGrows start)) (Returns (identifier tokens)) _ (keeps_returns _ _ (identifier_prints tokens prints)) (λ name one.
      keeps_exactly (Then (StateGrows start)) (state, name.1) (grows, one.1))

  plains_keep : (state : State) (tokens : List TokenValue) → StateGrows start state → ArePrinting tokens → Keeps (PlainPorts state tokens) (Then (StateGrows start))
  plains_keep state tokens grows prints =
      keeps_bind (Then (StateGrows start)) (Then (StateGrows start)) (Several PlainPort state tokens) _ (several_keeps (StateGrows start) PlainPort plain_keeps state tokens grows prints) (λ names one.
      keeps_bind (Then Any) (Then (StateGrows start)) (Returns (taken signs.Close names.1)) _ (keeps_returns _ _ (taken_prints signs.Close names.1 one.1)) (λ right two.
      keeps_exactly (Then (StateGrows start)) (names.0, right.1) (one.0, two.1)))

  from_keeps : (begins : Option Direction) (state : State) (tokens : List TokenValue) → StateGrows start state → ArePrinting tokens → Keeps (PortsFrom begins state tokens) (Then (StateGrows start))
  from_keeps None state tokens grows prints = plains_keep state tokens grows prints
  from_keeps (Some direction) state tokens grows prints = declared_keep state tokens grows prints

  after_keeps : (state : State) (tokens : List TokenValue) → StateGrows start state → ArePrinting tokens → Keeps (PortsAfter state tokens) (Then (StateGrows start))
  after_keeps state [] grows prints = keeps_returns (Then (StateGrows start)) (Err (faults.Syntax 0)) tt
  after_keeps state (t ∷ ts) grows prints = either_keeps (is_close t.kind) (Exactly (state, ts)) (PortsFrom (port_direction (item_start t)) state (t ∷ ts)) (keeps_exactly (Then (StateGrows start)) (state, ts) (grows, prints.1)) (from_keeps (port_direction (item_start t)) state (t ∷ ts) grows prints)

  pub ports_keep : (state : State) (tokens : List TokenValue) → StateGrows start state → ArePrinting tokens → Keeps (PortList state tokens) (Then (StateGrows start))
  ports_keep state tokens grows prints = either_keeps (open_first tokens) (PortsAfter state (after_first tokens)) (Exactly (state, tokens)) (after_keeps state (after_first tokens) grows (after_prints tokens prints)) (keeps_exactly (Then (StateGrows start)) (state, tokens) (grows, prints))

-- ---- the module

pub begun_prints : (tokens : List TokenValue) → ArePrinting tokens → Good ArePrinting (module_taken tokens)
begun_prints [] prints = tt
begun_prints (t ∷ ts) prints = good_if ArePrinting (is_module t) (Ok ts) (Err (wrong t)) prints.1 (wrong_prints t prints.0)

ended_good : (net : NetList) (tokens : List TokenValue) → Grows empty net → ArePrinting tokens → Good (Grows empty) (nothing_more net tokens)
ended_good net [] grows prints = tt
ended_good net (t ∷ ts) grows prints = good_if (Grows empty) (is_end t.kind) (Ok net) (Err (wrong t)) grows (wrong_prints t prints.0)

pub module_keeps : (tokens : List TokenValue) → ArePrinting tokens → Keeps (Module tokens) (Grows empty)
module_keeps tokens prints =
    keeps_bind ArePrinting (Grows empty) (Returns (module_taken tokens)) _ (keeps_returns _ _ (begun_prints tokens prints)) (λ begun one.
    keeps_bind (Then (λ (p : ℕ × List ℕ). IsPrinting p.1)) (Grows empty) (Returns (identifier begun)) _ (keeps_returns _ _ (identifier_prints begun one)) (λ name two.
    keeps_bind (Then (StateGrows empty)) (Grows empty) (PortList (undeclared, empty) name.1) _ (ports_keep empty (undeclared, empty) name.1 (grows_same empty) two.1) (λ ports three.
    keeps_bind (Then Any) (Grows empty) (Returns (taken signs.Semicolon ports.1)) _ (keeps_returns _ _ (taken_prints signs.Semicolon ports.1 three.1)) (λ sign four.
    keeps_bind (Then (StateGrows empty)) (Grows empty) (Items ports.0 sign.1) _ (items_keep empty ports.0 sign.1 three.0 four.1) (λ whole five.
    keeps_returns (Grows empty) (nothing_more whole.0.1 whole.1) (ended_good whole.0.1 whole.1 five.0 five.1))))))
