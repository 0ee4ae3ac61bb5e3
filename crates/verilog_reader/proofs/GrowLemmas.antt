-- What reading makes of a net list: its nets and gates stay, gates drive nets that exist, and labels that print.
use Rattle.std.proofs.Common.{◌≡◌, ◌∙◌, refl, subst, ℕ, zero, suc, ◌+◌, ◌-◌, ◌^◌, ◌<◌, ◌≤◌, Bool, true, false, not, ◌&&◌, cond, List, [], ◌∷◌, ◌++◌, get_or, length, length-append, codes, decimal, Option, None, Some, Result, Ok, Err, arith}
use Rattle.std.specs.Prelude.{is_some, nat_le, unwrap_or}
use Rattle.std.specs.List.{AllByRecursion}
use Rattle.std.proofs.lemmas.List.Elements.{All-append, All-weaker}
use Rattle.lists.specs.laws.HasLaws.{Has_left}
use Rattle.outcome.specs.Steps.{on_value}
use Rattle.text_core.specs.Lines.{IsPrinting}
use Rattle.net_core.specs.NetList.{LabelValue, NetList, nets, number_of, with_gate, with_label, with_name}
use Rattle.net_core.specs.GateValue.{GateValue}
use Rattle.net_core.specs.declared.fault.NetFault.{NetFault}
use Rattle.net_core.specs.declared.fault.NetFault.TheVariants as nets_faults
use Rattle.net_core.proofs.DriverLemmas.{DriveNets}
use Rattle.net_core.proofs.NameLemmas.{fresh_after, number_below}
use Rattle.net_verilog.specs.Value.{Covers}
use Rattle.net_verilog.specs.Made.{driven, fresh_driven, inputs_of, made, mentioned, opened, settled, table_of, with_gate_of}
use Rattle.net_verilog.specs.Tree.{Tree, Net, Literal, Group, Not, Binary, Cut, InGroup, InNot, InRight}
use Rattle.net_verilog.specs.declared.declared.Direction.{Direction}
use Rattle.net_verilog.specs.declared.declared.Direction.TheVariants.{Input, Output, Wire}
use Rattle.net_verilog.specs.declared.operator.Driver.{Driver}
use Rattle.net_verilog.specs.declared.operator.Driver.TheVariants as drivers
use Rattle.net_verilog.specs.declared.operator.Frame.TheVariants as frames
use Rattle.net_verilog.proofs.KeepLemmas.{covers_more, covers_same, mention_covers}
use Rattle.net_verilog.specs.Declarations.{Range}
use Rattle.net_verilog.proofs.OpenLemmas.{ok_pair}
use Rattle.net_verilog.proofs.PieceLemmas.{Shows, all_cons, none_prints}
use Rattle.verilog_reader.specs.Declares.{bits_from, net_names, ported, with_port, with_port_named, with_ports}
use Rattle.verilog_reader.proofs.PrintLemmas.{IsLimit, bit_prints, decimal_prints}

-- all labels print
abbrev pub HavePrintingLabels : NetList → Type 0
HavePrintingLabels net = AllByRecursion (λ (l : LabelValue). IsPrinting l.text) net.labels

pub record Grows (net more : NetList) : Type 0 where
  pub wider : nets net ≤ nets more
  pub drives : DriveNets net → DriveNets more
  pub prints : HavePrintingLabels net → HavePrintingLabels more
  pub covers : Covers net more

pub grows_same : (net : NetList) → Grows net net
grows_same net = record { wider = omega arith; drives = λ d. d; prints = λ p. p; covers = covers_same net }

pub grows_more : (a b c : NetList) → Grows a b → Grows b c → Grows a c
grows_more a b c one two = record { wider = omega (arith, one.wider, two.wider); drives = λ d. two.drives (one.drives d); prints = λ p. two.prints (one.prints p); covers = covers_more a b c one.covers two.covers }

-- a making is as said, or a limit is passed
abbrev pub Makes : {A : Type 0} → (A → Type 0) → Result A NetFault → Type 0
Makes is (Ok value) = is value
Makes is (Err fault) = IsLimit fault

pub makes_if : {A : Type 0} (is : A → Type 0) (b : Bool) (first second : Result A NetFault) → Makes is first → Makes is second → Makes is (cond b first second)
makes_if is true first second one other = one
makes_if is false first second one other = other

pub makes_then : {A B : Type 0} (is : A → Type 0) (will : B → Type 0) (further : A → Result B NetFault) (first : Result A NetFault) → Makes is first → ((a : A) → is a → Makes will (further a)) → Makes will (on_value further first)
makes_then is will further (Ok a) one next = next a one
makes_then is will further (Err fault) one next = one

-- ---- nets

-- the labels of a net list with one more net
module _ (net : NetList) (text : List ℕ) (named : Bool) where
  pub label_wider : nets (with_label net text named) ≡ nets net + 1
  label_wider = length-append net.labels (record { text = text; named = named } ∷ [])

  pub label_drives : DriveNets net → DriveNets (with_label net text named)
  label_drives d = All-weaker (λ (g : GateValue). g.out < nets net) (λ (g : GateValue). g.out < nets (with_label net text named)) (λ g below. omega (arith, below, label_wider)) net.gates d

  pub label_prints : IsPrinting text → HavePrintingLabels net → HavePrintingLabels (with_label net text named)
  label_prints shown p = by net.labels p
    where
      by : (list : List LabelValue) → AllByRecursion (λ (l : LabelValue). IsPrinting l.text) list → AllByRecursion (λ (l : LabelValue). IsPrinting l.text) (list ++ record { text = text; named = named } ∷ [])
      by [] all = (shown, tt)
      by (l ∷ list) all = (all.0, by list all.1)

-- a net that is made or found, and its number
abbrev pub GrowsTo : NetList → NetList × ℕ → Type 0
GrowsTo net p = Grows net p.0 × (p.1 < nets p.0)

pub mention_grows : (net : NetList) (name : List ℕ) → IsPrinting name → Makes (GrowsTo net) (mentioned net name)
mention_grows net name shown = by (mentioned net name) refl
  where
    named : (o : Option ℕ) → number_of net name ≡ o → (nets net ≤ nets (with_name net name)) × (DriveNets net → DriveNets (with_name net name)) × (HavePrintingLabels net → HavePrintingLabels (with_name net name))
    named (Some k) e = let same : net ≡ with_name net name = rw e refl in let P : NetList → Type 0 = λ m. (nets net ≤ nets m) × (DriveNets net → DriveNets m) × (HavePrintingLabels net → HavePrintingLabels m) in subst P same (omega arith, (λ d. d), (λ p. p))
    named None e = let same : with_label net name true ≡ with_name net name = rw e refl in let P : NetList → Type 0 = λ m. (nets net ≤ nets m) × (DriveNets net → DriveNets m) × (HavePrintingLabels net → HavePrintingLabels m) in subst P same (omega (arith, label_wider net name true), label_drives net name true, label_prints net name true shown)

    value : (b : Bool) (m : NetList) (n : ℕ) → ◌≡◌ {A = Result (NetList × ℕ) NetFault} (cond b (Err nets_faults.TooManyNets) (Ok (with_name net name, unwrap_or (number_of (with_name net name) name) 0))) (Ok (m, n)) → with_name net name ≡ m
    value true m n e = absurd (cc)
    value false m n e = (ok_pair (with_name net name, unwrap_or (number_of (with_name net name) name) 0) m n e).0

    fault : (b : Bool) (f : NetFault) → ◌≡◌ {A = Result (NetList × ℕ) NetFault} (cond b (Err nets_faults.TooManyNets) (Ok (with_name net name, unwrap_or (number_of (with_name net name) name) 0))) (Err f) → IsLimit f
    fault true f e = let same : nets_faults.TooManyNets ≡ f = cc in subst IsLimit same tt
    fault false f e = absurd (cc)

    by : (r : Result (NetList × ℕ) NetFault) → mentioned net name ≡ r → Makes (GrowsTo net) r
    by (Ok (m, n)) e =
        let same : with_name net name ≡ m = value (not (is_some (number_of net name)) && nat_le (2 ^ 20) (nets net)) m n e in
        let found = mention_covers net m name n e in
        let P : NetList → Type 0 = λ x. (nets net ≤ nets x) × (DriveNets net → DriveNets x) × (HavePrintingLabels net → HavePrintingLabels x) in
        let parts = subst P same (named (number_of net name) refl) in
        (record { wider = parts.0; drives = parts.1; prints = parts.2; covers = found.0 }, omega (arith, number_below 0 m.labels name n found.1))
    by (Err f) e = fault (not (is_some (number_of net name)) && nat_le (2 ^ 20) (nets net)) f e

-- ---- gates

pub gate_grows : (net : NetList) (gate : GateValue) → gate.out < nets net → Grows net (with_gate net gate)
gate_grows net gate below = record {
  wider = omega arith;
  drives = λ d. All-append (λ (g : GateValue). g.out < nets net) net.gates (gate ∷ []) d (λ k e less. one k e less);
  prints = λ p. p;
  covers = record { gates = λ g h. Has_left net.gates (gate ∷ []) g h; names = λ name k h. h };
}
  where
    one : (k : ℕ) (e : GateValue) → k < 1 → (get_or (gate ∷ []) k e).out < nets net
    one zero e less = below
    one (suc k) e less = absurd (omega (arith, less))

pub gate_of_grows : (net : NetList) (out : ℕ) (inputs : List ℕ) (table : ℕ) → out < nets net → Makes (Grows net) (with_gate_of net out inputs table)
gate_of_grows net out inputs table below = makes_if (Grows net) (nat_le (2 ^ 20) (length net.gates + length net.latches)) (Err nets_faults.TooManyGates) (Ok (with_gate net (record { out = out; inputs = inputs; table = table }))) tt (gate_grows net (record { out = out; inputs = inputs; table = table }) below)

expr_prints : (line : ℕ) → IsPrinting (codes "expr" ++ decimal line)
expr_prints line = All-append Shows (codes "expr") (decimal line) (all_cons 101 (120 ∷ 112 ∷ 114 ∷ []) (omega arith, omega arith) (all_cons 120 (112 ∷ 114 ∷ []) (omega arith, omega arith) (all_cons 112 (114 ∷ []) (omega arith, omega arith) (all_cons 114 [] (omega arith, omega arith) none_prints)))) (decimal_prints line)

pub fresh_grows : (net : NetList) (line : ℕ) (driver : Driver) → Makes (λ (p : NetList × ℕ). Grows net p.0) (fresh_driven net line driver)
fresh_grows net line driver =
    makes_if (λ (p : NetList × ℕ). Grows net p.0) (nat_le (2 ^ 20) (nets net)) (Err nets_faults.TooManyNets) (on_value (λ (m : NetList). Ok (m, nets net)) (driven (with_label net (codes "expr" ++ decimal line) false) (nets net) driver)) tt
    (makes_then (Grows (with_label net (codes "expr" ++ decimal line) false)) (λ (p : NetList × ℕ). Grows net p.0) (λ (m : NetList). Ok (m, nets net)) (driven (with_label net (codes "expr" ++ decimal line) false) (nets net) driver) (gate_of_grows (with_label net (codes "expr" ++ decimal line) false) (nets net) (inputs_of driver) (table_of driver) (omega (arith, label_wider net (codes "expr" ++ decimal line) false))) (λ m kept. grows_more net (with_label net (codes "expr" ++ decimal line) false) m first kept))
  where
    first : Grows net (with_label net (codes "expr" ++ decimal line) false)
    first = record {
      wider = omega (arith, label_wider net (codes "expr" ++ decimal line) false);
      drives = label_drives net (codes "expr" ++ decimal line) false;
      prints = label_prints net (codes "expr" ++ decimal line) false (expr_prints line);
      covers = record { gates = λ g has. has; names = λ name k found. fresh_after net.labels (record { text = codes "expr" ++ decimal line; named = false }) name refl ∙ found };
    }

pub settle_grows : (net : NetList) (driver : Driver) → Makes (λ (p : NetList × ℕ). Grows net p.0) (settled net driver)
settle_grows net (drivers.Wire n) = grows_same net
settle_grows net (drivers.Literal line bit) = fresh_grows net line (drivers.Literal line bit)
settle_grows net (drivers.Not line n) = fresh_grows net line (drivers.Not line n)
settle_grows net (drivers.Binary line operator left right) = fresh_grows net line (drivers.Binary line operator left right)

-- ---- expressions

-- the names of an expression print
abbrev pub TreePrints : Tree → Type 0
TreePrints (Net name) = IsPrinting name
TreePrints (Literal line bit) = Unit {0}
TreePrints (Group inner) = TreePrints inner
TreePrints (Not line inner) = TreePrints inner
TreePrints (Binary line operator left right) = TreePrints left × TreePrints right

abbrev pub GrowsBy : {A : Type 0} → NetList → NetList × A → Type 0
GrowsBy net p = Grows net p.0

then_grows : {A B : Type 0} (net : NetList) (first : Result (NetList × A) NetFault) (further : NetList × A → Result (NetList × B) NetFault) → Makes (GrowsBy net) first → ((p : NetList × A) → Makes (GrowsBy p.0) (further p)) → Makes (GrowsBy net) (on_value further first)
then_grows {A} {B} net first further one next = makes_then (GrowsBy net) (GrowsBy net) further first one (λ p grows. onward p grows (further p) (next p))
  where
    onward : (p : NetList × A) → Grows net p.0 → (r : Result (NetList × B) NetFault) → Makes (GrowsBy p.0) r → Makes (GrowsBy net) r
    onward p grows (Ok q) more = grows_more net p.0 q.0 grows more
    onward p grows (Err f) more = more

pub made_grows : (net : NetList) (tree : Tree) → TreePrints tree → Makes (GrowsBy net) (made net tree)
made_grows net (Net name) shown = then_grows net (mentioned net name) (λ p. Ok (p.0, drivers.Wire p.1)) (weaker (mentioned net name) (mention_grows net name shown)) (λ p. grows_same p.0)
  where
    weaker : (r : Result (NetList × ℕ) NetFault) → Makes (GrowsTo net) r → Makes (GrowsBy net) r
    weaker (Ok p) h = h.0
    weaker (Err f) h = h
made_grows net (Literal line bit) shown = grows_same net
made_grows net (Group inner) shown = made_grows net inner shown
made_grows net (Not line inner) shown =
    then_grows net (made net inner) (λ p. on_value (λ (q : NetList × ℕ). Ok (q.0, drivers.Not line q.1)) (settled p.0 p.1)) (made_grows net inner shown) (λ p.
    then_grows p.0 (settled p.0 p.1) (λ q. Ok (q.0, drivers.Not line q.1)) (settle_grows p.0 p.1) (λ q. grows_same q.0))
made_grows net (Binary line operator left right) shown =
    then_grows net (made net left) (λ p. on_value (λ (a : NetList × ℕ). on_value (λ (q : NetList × Driver). on_value (λ (b : NetList × ℕ). Ok (b.0, drivers.Binary line operator a.1 b.1)) (settled q.0 q.1)) (made a.0 right)) (settled p.0 p.1)) (made_grows net left shown.0) (λ p.
    then_grows p.0 (settled p.0 p.1) (λ a. on_value (λ (q : NetList × Driver). on_value (λ (b : NetList × ℕ). Ok (b.0, drivers.Binary line operator a.1 b.1)) (settled q.0 q.1)) (made a.0 right)) (settle_grows p.0 p.1) (λ a.
    then_grows a.0 (made a.0 right) (λ q. on_value (λ (b : NetList × ℕ). Ok (b.0, drivers.Binary line operator a.1 b.1)) (settled q.0 q.1)) (made_grows a.0 right shown.1) (λ q.
    then_grows q.0 (settled q.0 q.1) (λ b. Ok (b.0, drivers.Binary line operator a.1 b.1)) (settle_grows q.0 q.1) (λ b. grows_same b.0))))

-- the names of what is open print
abbrev pub CutsPrint : List Cut → Type 0
CutsPrint [] = Unit {0}
CutsPrint (InGroup ∷ cuts) = CutsPrint cuts
CutsPrint (InNot line ∷ cuts) = CutsPrint cuts
CutsPrint (InRight line operator left ∷ cuts) = TreePrints left × CutsPrint cuts

pub opened_grows : (net : NetList) (cuts : List Cut) → CutsPrint cuts → Makes (GrowsBy net) (opened net cuts)
opened_grows net [] shown = grows_same net
opened_grows net (InGroup ∷ cuts) shown = then_grows net (opened net cuts) (λ p. Ok (p.0, frames.Group ∷ p.1)) (opened_grows net cuts shown) (λ p. grows_same p.0)
opened_grows net (InNot line ∷ cuts) shown = then_grows net (opened net cuts) (λ p. Ok (p.0, frames.Not line ∷ p.1)) (opened_grows net cuts shown) (λ p. grows_same p.0)
opened_grows net (InRight line operator left ∷ cuts) shown =
    then_grows net (opened net cuts) (λ p. on_value (λ (q : NetList × Driver). on_value (λ (a : NetList × ℕ). Ok (a.0, frames.Left line operator a.1 ∷ p.1)) (settled q.0 q.1)) (made p.0 left)) (opened_grows net cuts shown.1) (λ p.
    then_grows p.0 (made p.0 left) (λ q. on_value (λ (a : NetList × ℕ). Ok (a.0, frames.Left line operator a.1 ∷ p.1)) (settled q.0 q.1)) (made_grows p.0 left shown.0) (λ q.
    then_grows q.0 (settled q.0 q.1) (λ a. Ok (a.0, frames.Left line operator a.1 ∷ p.1)) (settle_grows q.0 q.1) (λ a. grows_same a.0)))

-- ---- ports

port_grows : (direction : Direction) (net : NetList) (n : ℕ) → Grows net (with_port direction net n)
port_grows Input net n = record { wider = omega arith; drives = λ d. d; prints = λ p. p; covers = record { gates = λ g h. h; names = λ name k h. h } }
port_grows Output net n = record { wider = omega arith; drives = λ d. d; prints = λ p. p; covers = record { gates = λ g h. h; names = λ name k h. h } }
port_grows Wire net n = grows_same net

named_grows : (direction : Direction) (net : NetList) (name : List ℕ) → IsPrinting name → Makes (Grows net) (with_port_named direction net name)
named_grows direction net name shown = makes_then (GrowsTo net) (Grows net) (λ p. Ok (with_port direction p.0 p.1)) (mentioned net name) (mention_grows net name shown) (λ p grows. grows_more net p.0 (with_port direction p.0 p.1) grows.0 (port_grows direction p.0 p.1))

ports_grow : (direction : Direction) (net : NetList) (names : List (List ℕ)) → AllByRecursion IsPrinting names → Makes (Grows net) (with_ports direction net names)
ports_grow direction net [] shown = grows_same net
ports_grow direction net (name ∷ names) shown = makes_then (Grows net) (Grows net) (λ more. with_ports direction more names) (with_port_named direction net name) (named_grows direction net name shown.0) (λ more grows. onward more grows (with_ports direction more names) (ports_grow direction more names shown.1))
  where
    onward : (more : NetList) → Grows net more → (r : Result NetList NetFault) → Makes (Grows more) r → Makes (Grows net) r
    onward more grows (Ok q) h = grows_more net more q grows h
    onward more grows (Err f) h = h

bits_print : (name : List ℕ) (i count : ℕ) → IsPrinting name → AllByRecursion IsPrinting (bits_from name i count)
bits_print name i zero shown = tt
bits_print name i (suc count) shown = (bit_prints name i shown, bits_print name (1 + i) count shown)

names_print : (name : List ℕ) (range : Range) → IsPrinting name → AllByRecursion IsPrinting (net_names name range)
names_print name None shown = (shown, tt)
names_print name (Some (low, high)) shown = bits_print name low (1 + high - low) shown

pub ported_grows : (direction : Direction) (net : NetList) (name : List ℕ) (range : Range) → IsPrinting name → Makes (Grows net) (ported direction net name range)
ported_grows Wire net name range shown = grows_same net
ported_grows Input net name range shown = ports_grow Input net (net_names name range) (names_print name range shown)
ported_grows Output net name range shown = ports_grow Output net (net_names name range) (names_print name range shown)
