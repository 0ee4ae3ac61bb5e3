-- The law of values: an assigned target has its expression's value, in each consistent list of bits.
use Rattle.std.proofs.Common.{◌≡◌, ◌∙◌, ap, sym, inr, refl, subst, ℕ, zero, suc, ◌≤◌, Bool, true, false, cond, List, [], ◌∷◌, Some, Result, Ok, Err, arith}
use Rattle.outcome.specs.Outcome.{Determined, Exactly, ◌>>=◌}
use Rattle.text_core.specs.Lines.{IsPrinting}
use Rattle.net_core.specs.NetList.{NetList, empty, number_of}
use Rattle.net_core.specs.Value.{IsConsistent}
use Rattle.net_core.specs.declared.fault.NetFault.{NetFault}
use Rattle.net_verilog.specs.Tokens.{TokenValue, is_end, tokens_of}
use Rattle.net_verilog.specs.Words.{next_of, wrong}
use Rattle.net_verilog.specs.Targets.{target_of}
use Rattle.net_verilog.specs.Tree.{Tree, Net, IsWell, Spells, nesting}
use Rattle.net_verilog.specs.Made.{driven, made, mentioned}
use Rattle.net_verilog.specs.Value.{Agrees, Covers}
use Rattle.net_verilog.specs.Expression.{Expression, Read, binding, binding_at, continues, goes_on}
use Rattle.net_verilog.specs.Parts.{identifier, taken}
use Rattle.net_verilog.specs.Assigns.{Assigns, net_fault}
use Rattle.net_verilog.specs.Several.{Either, SeveralOf, after_first, comma_first}
use Rattle.net_verilog.specs.Declarations.{Declarations, undeclared}
use Rattle.net_verilog.specs.declared.operator.Driver.{Driver}
use Rattle.net_verilog.specs.declared.operator.Operator.TheVariants as operators
use Rattle.net_verilog.specs.declared.operator.Next.{Next}
use Rattle.net_verilog.specs.declared.operator.Next.TheVariants as nexts
use Rattle.net_verilog.specs.declared.sign.Sign.TheVariants as signs
use Rattle.net_verilog.specs.declared.fault.VerilogFault.{VerilogFault}
use Rattle.net_verilog.specs.declared.fault.VerilogFault.TheVariants as faults
use Rattle.net_verilog.proofs.ExpressionDetermined.{expression_determined}
use Rattle.net_verilog.proofs.KeepLemmas.{covers_more, driven_covers, mention_covers}
use Rattle.net_verilog.proofs.StandLemmas.{level_few}
use Rattle.net_verilog.proofs.StatementDetermined.{assigns_determined}
use Rattle.net_verilog.proofs.TreeLemmas.{made_covers, target_value}
use Rattle.verilog_reader.specs.Items.{Item, Items, ItemsOf, ReadsAssignments, ReadsItem, State}
use Rattle.verilog_reader.specs.Modules.{PortList, VerilogNet, module_taken, nothing_more}
use Rattle.verilog_reader.specs.Assigned.{AssignedAmong, AssignedHere, AssignedOf, HasValueOf, IsAssigned, IsAssignment}
use Rattle.verilog_reader.specs.declared.starts.ItemStart.{ItemStart}
use Rattle.verilog_reader.proofs.ModuleDetermined.{item_determined, ports_determined}
use Rattle.verilog_reader.proofs.PrintLemmas.{Any, ArePrinting, Then, identifier_prints, taken_prints}
use Rattle.verilog_reader.proofs.GrowLemmas.{grows_same}
use Rattle.verilog_reader.proofs.StepLemmas.{after_prints, assigns_keeps, assignments_keep, value_of}
use Rattle.verilog_reader.proofs.TextLemmas.{begun_prints, item_keeps, items_keep, ports_keep, tokens_print}

-- what comes twice of an outcome is the same
same_ok : {A F : Type 0} (may : Result A F → Type 0) → Determined may → (a b : A) → may (Ok a) → may (Ok b) → a ≡ b
same_ok {A} {F} may one a b h k = value (one (Ok a) (Ok b) h k)
  where
    value : ◌≡◌ {A = Result A F} (Ok a) (Ok b) → a ≡ b
    value e = cc

same_answer : {A F : Type 0} (r : Result A F) (a b : A) → Ok a ≡ r → r ≡ Ok b → a ≡ b
same_answer {A} {F} r a b h k = value (h ∙ k)
  where
    value : ◌≡◌ {A = Result A F} (Ok a) (Ok b) → a ≡ b
    value e = cc

ends_loose : (tokens : List TokenValue) → continues tokens ≡ false → 3 ≤ binding_at tokens
ends_loose [] ends = omega arith
ends_loose (t ∷ ts) ends = by (next_of t) ends
  where
    by : (next : Next) → goes_on next ≡ false → 3 ≤ binding next
    by (nexts.Operator operator) e = absurd (cc)
    by nexts.Close e = omega arith
    by nexts.Other e = omega arith

-- a tree that is spelled where an expression was read makes what was read
module _ (declared : Declarations) (net : NetList) (tokens : List TokenValue) (read : Read) (reads : Expression declared net tokens (Ok read)) (tree : Tree) (rest : List TokenValue) (spells : Spells declared tree tokens rest) (well : IsWell tree) (flat : nesting tree ≤ 1024) (ends : continues rest ≡ false) where
  pub makes_read : made net tree ≡ Ok (read.net, read.driver)
  makes_read = by (made net tree) refl
    where
      by : (r : Result (NetList × Driver) NetFault) → made net tree ≡ r → r ≡ Ok (read.net, read.driver)
      by (Ok p) is =
          let same : read ≡ record { net = p.0; driver = p.1; rest = rest } = same_ok (Expression declared net tokens) (expression_determined declared net tokens) read (record { net = p.0; driver = p.1; rest = rest }) reads (tree, spells, well, flat, ends, is) in
          ap Ok (λ i. ((sym same i).net, (sym same i).driver))
      by (Err refusal) is =
          let refuses : Expression declared net tokens (Err (faults.Net refusal)) = inr (inr (refusal, inr ([], tree, tokens, rest, (net, []), refl, tt, spells, well, level_few tree, omega (arith, level_few tree, ends_loose rest ends), omega (arith, flat), refl, is), refl)) in
          let wrong = expression_determined declared net tokens (Ok read) (Err (faults.Net refusal)) reads refuses in
          absurd (cc)

-- a value of a step of the net
pub net_value : {A : Type 0} (r : Result A NetFault) (a : A) → ◌≡◌ {A = Result A VerilogFault} (Ok a) (net_fault r) → r ≡ Ok a
net_value {A} (Ok b) a is = ap Ok (sym (same is))
  where
    same : ◌≡◌ {A = Result A VerilogFault} (Ok a) (Ok b) → a ≡ b
    same e = cc
net_value (Err f) a is = absurd (cc)

module _ (final : NetList) (bits : List Bool) (agrees : Agrees final bits) (name : List ℕ) (tree : Tree) where
  abbrev HasValue : Type 0
  HasValue = HasValueOf final bits name tree

  -- the value of one assignment
  one_value : (declared : Declarations) (net : NetList) (tokens : List TokenValue) (more : NetList × List TokenValue) → Assigns declared net tokens (Ok more) → IsAssignment declared tokens name tree → Covers more.0 final → HasValue
  one_value declared net tokens more (target, targets, (out, mentions, (sign, takes, (read, reads, (last, drives, same))))) a covers =
      let at : target ≡ (name, a.sign) = same_answer (target_of declared tokens) target (name, a.sign) targets a.targets in
      let mention : mentioned net target.0 ≡ Ok out = net_value (mentioned net target.0) out mentions in
      let right : sign ≡ (a.line, a.right) = same_answer (taken signs.Equals target.1) sign (a.line, a.right) takes (ap (λ (p : List ℕ × List TokenValue). taken signs.Equals p.1) at ∙ a.takes) in
      let P : List TokenValue → Type 0 = λ ts. Expression declared out.0 ts (Ok read) in
      let makes : made out.0 tree ≡ Ok (read.net, read.driver) = makes_read declared out.0 a.right read (subst P (ap (λ (p : ℕ × List TokenValue). p.1) right) reads) tree a.rest a.spells a.well a.flat a.ends in
      let drive : driven read.net out.1 read.driver ≡ Ok last = net_value (driven read.net out.1 read.driver) last drives in
      let Q : NetList → Type 0 = λ n. Covers n final in
      let whole : Covers last final = subst Q (ap (λ (p : NetList × List TokenValue). p.0) same) covers in
      let from_out : Covers out.0 final = covers_more out.0 read.net final (made_covers out.0 read.net tree read.driver makes) (covers_more read.net last final (driven_covers read.net last out.1 read.driver drive).0 whole) in
      let found : number_of final target.0 ≡ Some out.1 = from_out.names target.0 out.1 (mention_covers net out.0 target.0 out.1 mention).1 in
      let named : number_of final name ≡ Some out.1 = ap (λ (p : List ℕ × List TokenValue). number_of final p.0) (sym at) ∙ found in
      (out.1, named, target_value out.0 read.net last final tree read.driver out.1 bits makes drive whole agrees)

  -- what the rest of assignments makes
  rest_covers : (declared : Declarations) (m : ℕ) (first more : NetList × List TokenValue) → ArePrinting first.1 → Either (comma_first first.1) (SeveralOf m (Assigns declared) first.0 (after_first first.1)) (Exactly first) (Ok more) → Covers first.0 more.0
  rest_covers declared m first more prints e = by (comma_first first.1) e
    where
      by : (b : Bool) → Either b (SeveralOf m (Assigns declared) first.0 (after_first first.1)) (Exactly first) (Ok more) → Covers first.0 more.0
      by true e = (assignments_keep first.0 declared first.0 (after_first first.1) (grows_same first.0) (after_prints first.1 prints) (Ok more) (m, e)).0.covers
      by false same = let P : NetList → Type 0 = λ n. Covers first.0 n in subst P (sym (ap (λ (p : NetList × List TokenValue). p.0) same)) (grows_same first.0).covers

  -- the value of one of several assignments
  several_value : (declared : Declarations) (n m : ℕ) (net : NetList) (tokens : List TokenValue) (more : NetList × List TokenValue) → ArePrinting tokens → SeveralOf m (Assigns declared) net tokens (Ok more) → AssignedOf n declared net tokens name tree → Covers more.0 final → HasValue
  several_value declared n zero net tokens more prints h a covers = absurd h
  several_value declared zero (suc m) net tokens more prints (first, one, e) a covers =
      let kept = assigns_keeps net declared net tokens (grows_same net) prints (Ok first) one in
      one_value declared net tokens first one a (covers_more first.0 more.0 final (rest_covers declared m first more kept.1 e) covers)
  several_value declared (suc n) (suc m) net tokens more prints (first, one, e) (other, two, comma, later) covers =
      let same : other ≡ first = same_ok (Assigns declared net tokens) (assigns_determined declared net tokens) other first two one in
      let kept = assigns_keeps net declared net tokens (grows_same net) prints (Ok first) one in
      let goes : comma_first first.1 ≡ true = ap (λ (p : NetList × List TokenValue). comma_first p.1) (sym same) ∙ comma in
      let P : Bool → Type 0 = λ b. Either b (SeveralOf m (Assigns declared) first.0 (after_first first.1)) (Exactly first) (Ok more) in
      let Q : NetList × List TokenValue → Type 0 = λ p. AssignedOf n declared p.0 (after_first p.1) name tree in
      several_value declared n m first.0 (after_first first.1) more (after_prints first.1 kept.1) (subst P goes e) (subst Q same later) covers

  -- the value of an assignment of an item
  item_value : (state : State) (tokens : List TokenValue) (next : State × List TokenValue) → ArePrinting tokens → Item state tokens (Ok next) → AssignedHere state tokens name tree → Covers next.0.1 final → HasValue
  item_value state tokens next prints item (n, t, ts, is, starts, assigned) covers =
      let P : List TokenValue → Type 0 = λ xs. Item state xs (Ok next) in
      let Q : ItemStart → Type 0 = λ s. ReadsItem s state t ts (Ok next) in
      let here : ArePrinting ts = (subst ArePrinting is prints).1 in
      by (subst Q starts (subst P is item)) here
    where
      by : ReadsAssignments state ts (Ok next) → ArePrinting ts → HasValue
      by (net, several, (end, takes, same)) here =
          let R : NetList → Type 0 = λ n. Covers n final in
          several_value state.0 n several.0 state.1 ts net here several.1 assigned (subst R (ap (λ (p : State × List TokenValue). p.0.1) same) covers)

  -- the value of an assignment among items
  items_value : (n m : ℕ) (state : State) (tokens : List TokenValue) (last : State × List TokenValue) → ArePrinting tokens → ItemsOf m state tokens (Ok last) → AssignedAmong n state tokens name tree → Covers last.0.1 final → HasValue
  items_value n zero state tokens last prints h a covers = absurd h
  items_value zero (suc m) state tokens last prints h (goes, here) covers =
      let P : Bool → Type 0 = λ b. Either b (Exactly (state, after_first tokens)) (Item state tokens >>= (λ next. ItemsOf m next.0 next.1)) (Ok last) in
      by (subst P goes h)
    where
      by : (Item state tokens >>= (λ next. ItemsOf m next.0 next.1)) (Ok last) → HasValue
      by (next, item, later) =
          let kept = item_keeps state.1 state tokens (grows_same state.1) prints (Ok next) item in
          let rest = items_keep next.0.1 next.0 next.1 (grows_same next.0.1) kept.1 (Ok last) (m, later) in
          item_value state tokens next prints item here (covers_more next.0.1 last.0.1 final rest.0.covers covers)
  items_value (suc n) (suc m) state tokens last prints h (goes, (other, two, there)) covers =
      let P : Bool → Type 0 = λ b. Either b (Exactly (state, after_first tokens)) (Item state tokens >>= (λ next. ItemsOf m next.0 next.1)) (Ok last) in
      let found = subst P goes h in
      let same : other ≡ found.0 = same_ok (Item state tokens) (item_determined state tokens) other found.0 two found.1 in
      let kept = item_keeps state.1 state tokens (grows_same state.1) prints (Ok found.0) found.1 in
      let Q : State × List TokenValue → Type 0 = λ p. AssignedAmong n p.0 p.1 name tree in
      items_value n m found.0.0 found.0.1 last kept.1 found.2 (subst Q same there) covers

end_is : (net made : NetList) (tokens : List TokenValue) → Ok made ≡ nothing_more net tokens → made ≡ net
end_is net made [] is = absurd (cc)
end_is net made (t ∷ ts) is = by (is_end t.kind) is
  where
    by : (b : Bool) → Ok made ≡ cond b (Ok net) (Err (wrong t)) → made ≡ net
    by true e = cc
    by false e = absurd (cc)

-- In each list of bits that is consistent with the net of a text, the net of an assigned target has its expression's value.
pub assigned_value : (text : List ℕ) (net : NetList) (name : List ℕ) (tree : Tree) (bits : List Bool) → VerilogNet text (Ok net) → IsAssigned text name tree → IsConsistent net bits → HasValueOf net bits name tree
assigned_value text net name tree bits (made, (begun, begins, (title, named, (ports, listed, (sign, takes, (whole, reads, last))))), settles) a consistent =
    let same_begun : begun ≡ a.begun = same_answer (module_taken (tokens_of text)) begun a.begun begins a.begins in
    let same_title : title ≡ a.module_name = same_answer (identifier begun) title a.module_name named (ap identifier same_begun ∙ a.named) in
    let P : (ℕ × List ℕ) × List TokenValue → Type 0 = λ n. PortList (undeclared, empty) n.1 (Ok ports) in
    let same_ports : ports ≡ a.ports = same_ok (PortList (undeclared, empty) a.module_name.1) (ports_determined (undeclared, empty) a.module_name.1) ports a.ports (subst P same_title listed) a.listed in
    let same_sign : sign ≡ a.sign = same_answer (taken signs.Semicolon ports.1) sign a.sign takes (ap (λ (p : State × List TokenValue). taken signs.Semicolon p.1) same_ports ∙ a.takes) in
    let Q : State × List TokenValue → Type 0 = λ p. Items p.0 sign.1 (Ok whole) in
    let R : ℕ × List TokenValue → Type 0 = λ s. Items a.ports.0 s.1 (Ok whole) in
    let there : Items a.ports.0 a.sign.1 (Ok whole) = subst R same_sign (subst Q same_ports reads) in
    let one = value_of ArePrinting (module_taken (tokens_of text)) a.begun a.begins (begun_prints (tokens_of text) (tokens_print text)) in
    let two = value_of (Then (λ (p : ℕ × List ℕ). IsPrinting p.1)) (identifier a.begun) a.module_name a.named (identifier_prints a.begun one) in
    let three = ports_keep empty (undeclared, empty) a.module_name.1 (grows_same empty) two.1 (Ok a.ports) a.listed in
    let four = value_of (Then Any) (taken signs.Semicolon a.ports.1) a.sign a.takes (taken_prints signs.Semicolon a.ports.1 three.1) in
    let same_net : whole.0.1 ≡ net = sym (end_is whole.0.1 made whole.1 last) ∙ sym settles.0 in
    let S : NetList → Type 0 = λ n. Covers whole.0.1 n in
    items_value net bits consistent.gates name tree a.before there.0 a.ports.0 a.sign.1 whole four.1 there.1 a.stands (subst S same_net (grows_same whole.0.1).covers)
