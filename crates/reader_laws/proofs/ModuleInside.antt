-- Of a module in structural Verilog comes a net list that stands on nets that there are, and keeps the limits.
use Rattle.std.proofs.Common.{◌≡◌, sym, refl, subst, ℕ, zero, suc, ◌+◌, ◌-◌, ◌^◌, ◌<◌, ◌≤◌, ◌==◌, Bool, true, false, ◌||◌, cond, List, [], ◌∷◌, ◌++◌, length, codes, decimal, Option, None, Some, Result, Ok, Err, arith}
use Rattle.std.specs.Prelude.{All, nat_le, nat_lt}
use Rattle.std.specs.List.{AllByRecursion}
use Rattle.std.proofs.lemmas.Bool.{eqb-true, leb-true}
use Rattle.std.proofs.lemmas.List.Elements.{All-push}
use Rattle.lists.specs.laws.BoolLaws.{both_true}
use Rattle.lists.specs.laws.ListLaws.{some_after}
use Rattle.outcome.specs.Outcome.{◌>>=◌, Exactly}
use Rattle.net_core.specs.NetList.{NetList, empty, nets}
use Rattle.net_core.specs.Inside.{IsInside, IsNetName}
use Rattle.net_core.specs.declared.fault.NetFault.{NetFault}
use Rattle.reader_laws.proofs.InsideLemmas.{empty_inside, with_input_inside, with_output_inside}
use Rattle.net_verilog.specs.Tokens.{TokenValue, is_end}
use Rattle.net_verilog.specs.Words.{wrong}
use Rattle.net_verilog.specs.Targets.{Answer, HasNetNames, name_kind}
use Rattle.net_verilog.specs.Made.{driven, inputs_of, mentioned, settled, table_of, with_gate_of}
use Rattle.net_verilog.specs.Expression.{Expression, Read}
use Rattle.net_verilog.specs.Parts.{identified, identifier, is_close}
use Rattle.net_verilog.specs.Assigns.{Assigns, Reads, net_fault}
use Rattle.net_verilog.specs.Several.{Either, Several, SeveralOf, after_first, comma_first}
use Rattle.net_verilog.specs.Instances.{ReadsInput, ReadsInstance, fits_gate, gate_table, placed}
use Rattle.net_verilog.specs.Declarations.{Declarations, Range, bit_name, declared_as, is_directed, undeclared, was_directed}
use Rattle.net_verilog.specs.declared.declared.Declared.{Declared}
use Rattle.net_verilog.specs.declared.declared.Direction.{Direction}
use Rattle.net_verilog.specs.declared.declared.Direction.TheVariants.{Input, Output, Wire}
use Rattle.net_verilog.specs.declared.gate_kind.GateKind.{GateKind}
use Rattle.net_verilog.specs.declared.gate_kind.GateKind.TheVariants as gates
use Rattle.net_verilog.specs.declared.fault.VerilogFault.{VerilogFault}
use Rattle.net_verilog.specs.declared.fault.VerilogFault.TheVariants as faults
use Rattle.net_verilog.specs.private.Gates.{IsDriverOn}
use Rattle.net_verilog.proofs.GateTableLemmas.{few_rows}
use Rattle.net_verilog.proofs.OpenLemmas.{value_before}
use Rattle.net_verilog.proofs.TableLemmas.{names_kept}
use Rattle.verilog_reader.specs.Declares.{Declares, HasShortNames, ReadsName, bits_from, net_names, ported, with_port, with_port_named, with_ports}
use Rattle.verilog_reader.specs.Items.{Item, ItemsOf, ReadsItem, State, endmodule_first, item_start}
use Rattle.verilog_reader.specs.Modules.{Head, Module, PlainPort, PortList, PortsAfter, PortsFrom, ReadsPort, nothing_more, open_first, port_direction}
use Rattle.verilog_reader.specs.declared.starts.ItemStart.{ItemStart}
use Rattle.verilog_reader.specs.declared.starts.ItemStart.TheVariants as items
use Rattle.verilog_reader.proofs.AssignedLemmas.{net_value}
use Rattle.reader_laws.proofs.VerilogInside.{Fits, all_wider, driver_gate, fits_more, fits_same, fitting_name, gate_fits, made_fits, mention_fits, settle_fits, spells_named, target_named}

-- the net list is inside, and the names of the nets of declared vectors are short
pub record IsGood (state : State) : Type 0 where
  pub inside : IsInside state.1
  pub names : HasNetNames state.0

-- ---- lists with commas

module _ {S : Type 0} (Holds : S → Type 0) (one : S → List TokenValue → Reads S) (each : (state : S) (tokens : List TokenValue) (found : S × List TokenValue) → Holds state → one state tokens (Ok found) → Holds found.0) where
  either_holds : (b : Bool) (n : ℕ) (first found : S × List TokenValue) → ((state : S) (tokens : List TokenValue) (last : S × List TokenValue) → Holds state → SeveralOf n one state tokens (Ok last) → Holds last.0) → Holds first.0
      → Either b (SeveralOf n one first.0 (after_first first.1)) (Exactly first) (Ok found) → Holds found.0
  either_holds true n first found goes holds is = goes first.0 (after_first first.1) found holds is
  either_holds false n first found goes holds is = let P : S × List TokenValue → Type 0 = λ p. Holds p.0 in subst P (sym is) holds

  of_holds : (n : ℕ) (state : S) (tokens : List TokenValue) (found : S × List TokenValue) → Holds state → SeveralOf n one state tokens (Ok found) → Holds found.0
  of_holds zero state tokens found holds is = absurd is
  of_holds (suc n) state tokens found holds is = either_holds (comma_first is.0.1) n is.0 found (of_holds n) (each state tokens is.0 holds is.1) is.2

  several_holds : (state : S) (tokens : List TokenValue) (found : S × List TokenValue) → Holds state → Several one state tokens (Ok found) → Holds found.0
  several_holds state tokens found holds is = of_holds is.0 state tokens found holds is.1

-- ---- expressions and assignments

expression_fits : (declared : Declarations) (net : NetList) (tokens : List TokenValue) (read : Read) → HasNetNames declared → IsInside net → Expression declared net tokens (Ok read) → Fits net read.net × IsDriverOn read.net read.driver
expression_fits declared net tokens read names inside is = made_fits net read.net is.0 read.driver inside (spells_named declared is.0 tokens read.rest names is.1) is.5

module _ (declared : Declarations) (names : HasNetNames declared) where
  assigns_inside : (net : NetList) (tokens : List TokenValue) (found : NetList × List TokenValue) → IsInside net → Assigns declared net tokens (Ok found) → IsInside found.0
  assigns_inside net tokens found inside (target, one, (out, two, (sign, three, (read, four, (more, five, is))))) =
      let first = mention_fits net out.0 target.0 out.1 inside (target_named declared tokens target names (sym one)) (net_value (mentioned net target.0) out two) in
      let second = expression_fits declared out.0 sign.1 read names first.0.inside four in
      let below : out.1 < nets read.net = omega (arith, first.1, second.0.wider) in
      let third = gate_fits read.net more out.1 (inputs_of read.driver) (table_of read.driver) second.0.inside (driver_gate (nets read.net) out.1 read.driver below second.1) (net_value (driven read.net out.1 read.driver) more five) in
      let P : NetList × List TokenValue → Type 0 = λ p. IsInside p.0 in
      subst P (sym is) third.inside

  -- ---- instances

  -- after inputs that were read, since a net list
  record AreInputs (start : NetList) (so_far : NetList × List ℕ) : Type 0 where
    pub fits : Fits start so_far.0
    pub on : All (λ n. n < nets so_far.0) so_far.1

  input_inside : (start : NetList) (so_far : NetList × List ℕ) (tokens : List TokenValue) (found : (NetList × List ℕ) × List TokenValue) → AreInputs start so_far → ReadsInput declared so_far tokens (Ok found) → AreInputs start found.0
  input_inside start so_far tokens found are (read, one, (net, two, is)) =
      let first = expression_fits declared so_far.0 tokens read names are.fits.inside one in
      let second = settle_fits read.net net.0 net.1 read.driver first.0.inside first.1 (net_value (settled read.net read.driver) net two) in
      let whole : Fits so_far.0 net.0 = fits_more so_far.0 read.net net.0 first.0 second.0 in
      let P : (NetList × List ℕ) × List TokenValue → Type 0 = λ p. AreInputs start p.0 in
      subst P (sym is) (record {
        fits = fits_more start so_far.0 net.0 are.fits whole;
        on = All-push (λ (n : ℕ). n < nets net.0) so_far.1 net.1 (all_wider (nets so_far.0) (nets net.0) so_far.1 whole.wider are.on) second.1;
      })

few_inputs : (kind : GateKind) (n : ℕ) → fits_gate kind n ≡ true → n ≤ 6
few_inputs gates.Not n is = let one = eqb-true n 1 is in omega (arith, one)
few_inputs gates.Buf n is = let one = eqb-true n 1 is in omega (arith, one)
few_inputs gates.And n is = leb-true n 6 (both_true (nat_le 2 n) (nat_le n 6) is).1
few_inputs gates.Or n is = leb-true n 6 (both_true (nat_le 2 n) (nat_le n 6) is).1
few_inputs gates.Xor n is = leb-true n 6 (both_true (nat_le 2 n) (nat_le n 6) is).1
few_inputs gates.Nand n is = leb-true n 6 (both_true (nat_le 2 n) (nat_le n 6) is).1
few_inputs gates.Nor n is = leb-true n 6 (both_true (nat_le 2 n) (nat_le n 6) is).1
few_inputs gates.Xnor n is = leb-true n 6 (both_true (nat_le 2 n) (nat_le n 6) is).1

placed_inside : (kind : GateKind) (net more : NetList) (out : ℕ) (inputs : List ℕ) (line : ℕ) → IsInside net → out < nets net → All (λ n. n < nets net) inputs → ◌≡◌ {A = Result NetList VerilogFault} (Ok more) (placed kind net out inputs line) → IsInside more
placed_inside kind net more out inputs line inside below on is = by (fits_gate kind (length inputs)) refl is
  where
    by : (b : Bool) → fits_gate kind (length inputs) ≡ b → ◌≡◌ {A = Result NetList VerilogFault} (Ok more) (cond b (net_fault (with_gate_of net out inputs (gate_table kind (length inputs)))) (Err (faults.Arity line (length inputs)))) → IsInside more
    by true e h =
        (gate_fits net more out inputs (gate_table kind (length inputs)) inside (below, on, few_inputs kind (length inputs) e, few_rows kind (length inputs) (gate_table kind (length inputs)) refl) (net_value (with_gate_of net out inputs (gate_table kind (length inputs))) more h)).inside
    by false e h = absurd (cc)

instance_inside : (declared : Declarations) (kind : GateKind) → HasNetNames declared → (net : NetList) (tokens : List TokenValue) (found : NetList × List TokenValue) → IsInside net → ReadsInstance declared kind net tokens (Ok found) → IsInside found.0
instance_inside declared kind names net tokens found inside (named, one, (left, two, (target, three, (out, four, (first, five, (inputs, six, (right, seven, (more, eight, is)))))))) =
    let a = mention_fits net out.0 target.0 out.1 inside (target_named declared left.1 target names (sym three)) (net_value (mentioned net target.0) out four) in
    let begun : AreInputs declared names out.0 (out.0, []) = record { fits = fits_same out.0 out.0 refl a.0.inside; on = λ k d less. absurd (omega (arith, less)) } in
    let b = several_holds (AreInputs declared names out.0) (ReadsInput declared) (input_inside declared names out.0) (out.0, []) first.1 inputs begun six in
    let P : NetList × List TokenValue → Type 0 = λ p. IsInside p.0 in
    subst P (sym is) (placed_inside kind inputs.0.0 more out.1 inputs.0.1 right.0 b.fits.inside (omega (arith, a.1, b.fits.wider)) b.on eight)

-- ---- declarations

identified_named : (t : TokenValue) (found : Option (List ℕ)) (ts : List TokenValue) (p : (ℕ × List ℕ) × List TokenValue) → identified t found ts ≡ Ok p → IsNetName p.0.1
identified_named t None ts p is = absurd (cc)
identified_named t (Some name) ts p is = by (nat_lt 255 (length name) || (length name == 0)) refl is
  where
    by : (b : Bool) → (nat_lt 255 (length name) || (length name == 0)) ≡ b → ◌≡◌ {A = Answer (ℕ × List ℕ)} (cond b (Err (faults.Syntax t.line)) (Ok ((t.line, name), ts))) (Ok p) → IsNetName p.0.1
    by true e h = absurd (cc)
    by false e h =
        let same : ((t.line, name), ts) ≡ p = cc in
        let P : (ℕ × List ℕ) × List TokenValue → Type 0 = λ q. IsNetName q.0.1 in
        subst P same (fitting_name name e)

identifier_named : (tokens : List TokenValue) (p : (ℕ × List ℕ) × List TokenValue) → identifier tokens ≡ Ok p → IsNetName p.0.1
identifier_named [] p is = absurd (cc)
identifier_named (t ∷ ts) p is = identified_named t (name_kind t.kind t.text) ts p is

declares_names : (declared more : Declarations) (range : Range) (direction : Direction) (name : ℕ × List ℕ) → HasNetNames declared → Declares declared range direction name (Ok more) → HasNetNames more × HasShortNames name.1 range
declares_names declared more range direction name names (short, fresh, is) =
    let P : Declarations → Type 0 = HasNetNames in
    let d : Declared = record { range = range; directed = was_directed (declared_as declared name.1) || is_directed direction } in
    (subst P (sym is) (names_kept name.1 d declared bits names), short)
  where
    bits : (low high i : ℕ) → range ≡ Some (low, high) → low ≤ i → i ≤ high → length (bit_name name.1 i) ≤ 255
    bits low high i at above below =
        let Q : Range → Type 0 = λ r. HasShortNames name.1 r in
        let all : HasShortNames name.1 (Some (low, high)) = subst Q at short in
        all (bit_name name.1 i) (i, above, below, refl)

-- the nets of a declared name have names
bits_named : (name : List ℕ) (i count : ℕ) → ((j : ℕ) → i ≤ j → j < i + count → length (bit_name name j) ≤ 255) → AllByRecursion IsNetName (bits_from name i count)
bits_named name i zero short = tt
bits_named name i (suc count) short =
    ((some_after (name ++ codes "[" ++ decimal i) (codes "]") (omega arith), short i (omega arith) (omega arith)), bits_named name (1 + i) count (λ j above below. short j (omega (arith, above)) (omega (arith, below))))

nets_named : (name : List ℕ) (range : Range) → IsNetName name → HasShortNames name range → AllByRecursion IsNetName (net_names name range)
nets_named name None is short = (is, tt)
nets_named name (Some (low, high)) is short = bits_named name low (1 + high - low) (λ j above below. short (bit_name name j) (j, above, omega (arith, above, below), refl))

port_fits : (direction : Direction) (net : NetList) (n : ℕ) → IsInside net → n < nets net → Fits net (with_port direction net n)
port_fits Input net n inside below = record { inside = with_input_inside net inside n below; wider = omega arith }
port_fits Output net n inside below = record { inside = with_output_inside net inside n below; wider = omega arith }
port_fits Wire net n inside below = record { inside = inside; wider = omega arith }

named_inside : (direction : Direction) (net more : NetList) (name : List ℕ) → IsInside net → IsNetName name → with_port_named direction net name ≡ Ok more → IsInside more
named_inside direction net more name inside is_name is =
    let found = value_before (λ (p : NetList × ℕ). Ok (with_port direction p.0 p.1)) (mentioned net name) more is in
    let fits = mention_fits net found.0.0 name found.0.1 inside is_name found.1 in
    let same : with_port direction found.0.0 found.0.1 ≡ more = ok_same (with_port direction found.0.0 found.0.1) more found.2 in
    let P : NetList → Type 0 = IsInside in
    subst P same (port_fits direction found.0.0 found.0.1 fits.0.inside fits.1).inside
  where
    ok_same : (a b : NetList) → ◌≡◌ {A = Result NetList NetFault} (Ok a) (Ok b) → a ≡ b
    ok_same a b e = cc

ports_inside : (direction : Direction) (net more : NetList) (list : List (List ℕ)) → IsInside net → AllByRecursion IsNetName list → with_ports direction net list ≡ Ok more → IsInside more
ports_inside direction net more [] inside names is = let same : net ≡ more = cc in let P : NetList → Type 0 = IsInside in subst P same inside
ports_inside direction net more (name ∷ list) inside names is =
    let found = value_before (λ (m : NetList). with_ports direction m list) (with_port_named direction net name) more is in
    ports_inside direction found.0 more list (named_inside direction net found.0 name inside names.0 found.1) names.1 found.2

ported_inside : (direction : Direction) (net more : NetList) (name : List ℕ) (range : Range) → IsInside net → AllByRecursion IsNetName (net_names name range) → ported direction net name range ≡ Ok more → IsInside more
ported_inside Wire net more name range inside names is = let same : net ≡ more = cc in let P : NetList → Type 0 = IsInside in subst P same inside
ported_inside Input net more name range inside names is = ports_inside Input net more (net_names name range) inside names is
ported_inside Output net more name range inside names is = ports_inside Output net more (net_names name range) inside names is

name_good : (range : Range) (direction : Direction) (state : State) (tokens : List TokenValue) (found : State × List TokenValue) → IsGood state → ReadsName range direction state tokens (Ok found) → IsGood found.0
name_good range direction state tokens found good (name, one, (declared, two, (net, three, is))) =
    let both = declares_names state.0 declared range direction name.0 good.names two in
    let named : IsNetName name.0.1 = identifier_named tokens name (sym one) in
    let inside : IsInside net = ported_inside direction state.1 net name.0.1 range good.inside (nets_named name.0.1 range named both.1) (net_value (ported direction state.1 name.0.1 range) net three) in
    let P : State × List TokenValue → Type 0 = λ p. IsGood p.0 in
    subst P (sym is) (record { inside = inside; names = both.0 })

-- ---- items

start_good : (start : ItemStart) (state : State) (t : TokenValue) (ts : List TokenValue) (found : State × List TokenValue) → IsGood state → ReadsItem start state t ts (Ok found) → IsGood found.0
start_good (items.Declaration direction) state t ts found good (ranged, one, (names, two, (end, three, is))) =
    let P : State × List TokenValue → Type 0 = λ p. IsGood p.0 in
    subst P (sym is) (several_holds IsGood (ReadsName ranged.0 direction) (name_good ranged.0 direction) state ranged.1 names good two)
start_good items.Assignments state t ts found good (net, one, (end, two, is)) =
    let P : State × List TokenValue → Type 0 = λ p. IsGood p.0 in
    subst P (sym is) (record { inside = several_holds IsInside (Assigns state.0) (assigns_inside state.0 good.names) state.1 ts net good.inside one; names = good.names })
start_good (items.Instances kind) state t ts found good (net, one, (end, two, is)) =
    let P : State × List TokenValue → Type 0 = λ p. IsGood p.0 in
    subst P (sym is) (record { inside = several_holds IsInside (ReadsInstance state.0 kind) (instance_inside state.0 kind good.names) state.1 ts net good.inside one; names = good.names })
start_good items.Other state t ts found good is = absurd (cc)

item_good : (state : State) (tokens : List TokenValue) (found : State × List TokenValue) → IsGood state → Item state tokens (Ok found) → IsGood found.0
item_good state [] found good is = absurd (cc)
item_good state (t ∷ ts) found good is = start_good (item_start t) state t ts found good is

items_good : (n : ℕ) (state : State) (tokens : List TokenValue) (found : State × List TokenValue) → IsGood state → ItemsOf n state tokens (Ok found) → IsGood found.0
items_good zero state tokens found good is = absurd is
items_good (suc n) state tokens found good is = by (items_good n) (endmodule_first tokens) is
  where
    by : ((next : State) (rest : List TokenValue) (last : State × List TokenValue) → IsGood next → ItemsOf n next rest (Ok last) → IsGood last.0) → (b : Bool) → Either b (Exactly (state, after_first tokens)) (Item state tokens >>= (λ next. ItemsOf n next.0 next.1)) (Ok found) → IsGood found.0
    by goes true h = let P : State × List TokenValue → Type 0 = λ p. IsGood p.0 in subst P (sym h) good
    by goes false (next, item, rest) = goes next.0 next.1 found (item_good state tokens next good item) rest

-- ---- ports

port_good : (state : Head × State) (tokens : List TokenValue) (found : (Head × State) × List TokenValue) → IsGood state.1 → ReadsPort state tokens (Ok found) → IsGood found.0.1
port_good state tokens found good (head, one, (named, two, is)) =
    let P : (Head × State) × List TokenValue → Type 0 = λ p. IsGood p.0.1 in
    subst P (sym is) (name_good head.0.1 head.0.0 state.1 head.1 named good two)

from_good : (start : Option Direction) (state : State) (tokens : List TokenValue) (found : State × List TokenValue) → IsGood state → PortsFrom start state tokens (Ok found) → IsGood found.0
from_good None state tokens found good (names, one, (right, two, is)) =
    let P : State × List TokenValue → Type 0 = λ p. IsGood p.0 in
    subst P (sym is) (several_holds IsGood PlainPort plain state tokens names good one)
  where
    plain : (state : State) (tokens : List TokenValue) (found : State × List TokenValue) → IsGood state → PlainPort state tokens (Ok found) → IsGood found.0
    plain state tokens found good (name, one, is) = let P : State × List TokenValue → Type 0 = λ p. IsGood p.0 in subst P (sym is) good
from_good (Some direction) state tokens found good (ports, one, (right, two, is)) =
    let P : State × List TokenValue → Type 0 = λ p. IsGood p.0 in
    subst P (sym is) (several_holds (λ (p : Head × State). IsGood p.1) ReadsPort port_good ((Wire, None), state) tokens ports good one)

after_good : (state : State) (tokens : List TokenValue) (found : State × List TokenValue) → IsGood state → PortsAfter state tokens (Ok found) → IsGood found.0
after_good state [] found good is = absurd (cc)
after_good state (t ∷ ts) found good is = by (is_close t.kind) is
  where
    by : (b : Bool) → Either b (Exactly (state, ts)) (PortsFrom (port_direction (item_start t)) state (t ∷ ts)) (Ok found) → IsGood found.0
    by true h = let P : State × List TokenValue → Type 0 = λ p. IsGood p.0 in subst P (sym h) good
    by false h = from_good (port_direction (item_start t)) state (t ∷ ts) found good h

list_good : (state : State) (tokens : List TokenValue) (found : State × List TokenValue) → IsGood state → PortList state tokens (Ok found) → IsGood found.0
list_good state tokens found good is = by (open_first tokens) is
  where
    by : (b : Bool) → Either b (PortsAfter state (after_first tokens)) (Exactly (state, tokens)) (Ok found) → IsGood found.0
    by true h = after_good state (after_first tokens) found good h
    by false h = let P : State × List TokenValue → Type 0 = λ p. IsGood p.0 in subst P (sym h) good

-- ---- the module

nothing_is : (net more : NetList) (tokens : List TokenValue) → ◌≡◌ {A = Result NetList VerilogFault} (Ok more) (nothing_more net tokens) → net ≡ more
nothing_is net more [] is = absurd (cc)
nothing_is net more (t ∷ ts) is = by (is_end t.kind) is
  where
    by : (b : Bool) → ◌≡◌ {A = Result NetList VerilogFault} (Ok more) (cond b (Ok net) (Err (wrong t))) → net ≡ more
    by true h = let same : more ≡ net = cc in sym same
    by false h = absurd (cc)

begun_good : IsGood (undeclared, empty)
begun_good = record { inside = empty_inside; names = λ name low high i is above below. absurd (cc) }

pub module_inside : (tokens : List TokenValue) (net : NetList) → Module tokens (Ok net) → IsInside net
module_inside tokens net (begun, one, (name, two, (ports, three, (sign, four, (whole, five, is))))) =
    let good = list_good (undeclared, empty) name.1 ports begun_good three in
    let last = items_good five.0 ports.0 sign.1 whole good five.1 in
    let P : NetList → Type 0 = IsInside in
    subst P (nothing_is whole.0.1 net whole.1 is) last.inside
