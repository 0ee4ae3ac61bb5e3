-- What expressions in structural Verilog make of a net list stands on nets that there are, and keeps the limits.
use Rattle.std.proofs.Common.{◌≡◌, ◌∙◌, ap, sym, refl, subst, ℕ, zero, suc, ◌+◌, ◌^◌, ◌<◌, ◌≤◌, ◌==◌, Bool, true, false, not, ◌&&◌, ◌||◌, cond, List, [], ◌∷◌, ◌++◌, length, codes, decimal, Option, None, Some, Result, Ok, Err, arith}
use Rattle.std.specs.Prelude.{All, is_some, nat_le, nat_lt, unwrap_or}
use Rattle.std.proofs.lemmas.Bool.{leb-false, leb-true, ltb-false}
use Rattle.std.proofs.lemmas.List.Elements.{All-weaker}
use Rattle.lists.specs.laws.BoolLaws.{both_true, neither}
use Rattle.outcome.specs.Steps.{on_value}
use Rattle.net_core.specs.NetList.{NetList, nets, number_of, with_gate, with_label, with_name}
use Rattle.net_core.specs.Inside.{GateIsInside, IsInside, IsNetName}
use Rattle.net_core.specs.declared.fault.NetFault.{NetFault}
use Rattle.net_core.specs.declared.fault.NetFault.TheVariants as net_faults
use Rattle.reader_laws.proofs.InsideLemmas.{with_fresh_inside, with_gate_inside, with_named_inside}
use Rattle.net_core.proofs.NameLemmas.{number_below}
use Rattle.net_verilog.specs.Tokens.{TokenValue}
use Rattle.net_verilog.specs.Targets.{Answer, HasNetNames, after_name, closed, decimal_kind, indexed, is_close_index, is_open_index, name_kind, named, target_of, within}
use Rattle.net_verilog.specs.Tree.{Tree, Net, Literal, Group, Not, Binary, Spells}
use Rattle.net_verilog.specs.Made.{driven, fresh_driven, inputs_of, made, mentioned, operator_table, settled, table_of, with_gate_of}
use Rattle.net_verilog.specs.Words.{wrong}
use Rattle.net_verilog.specs.Declarations.{Declarations, Range, bit_name, range_of}
use Rattle.net_verilog.specs.declared.operator.Operator.{Operator}
use Rattle.net_verilog.specs.declared.operator.Operator.TheVariants as operators
use Rattle.net_verilog.specs.declared.operator.Driver.{Driver}
use Rattle.net_verilog.specs.declared.operator.Driver.TheVariants as drivers
use Rattle.net_verilog.specs.declared.fault.VerilogFault.TheVariants as faults
use Rattle.net_verilog.specs.private.Decimals.{HasBits}
use Rattle.net_verilog.specs.private.Gates.{IsDriverOn}
use Rattle.net_verilog.proofs.KeepLemmas.{mention_covers}
use Rattle.net_verilog.proofs.OpenLemmas.{ok_pair, value_before}
use Rattle.net_verilog.proofs.TableLemmas.{bits_named}
use Rattle.net_verilog.proofs.TreeLemmas.{binary_made, not_made}
use Rattle.verilog_reader.proofs.GrowLemmas.{label_wider}

-- the net list that comes of another stands on its nets, and has all nets of it
pub record Fits (net more : NetList) : Type 0 where
  pub inside : IsInside more
  pub wider : nets net ≤ nets more

pub fits_more : (a b c : NetList) → Fits a b → Fits b c → Fits a c
fits_more a b c one two = record { inside = two.inside; wider = omega (arith, one.wider, two.wider) }

pub fits_same : (net more : NetList) → net ≡ more → IsInside net → Fits net more
fits_same net more is inside = let P : NetList → Type 0 = Fits net in subst P is (record { inside = inside; wider = omega arith })

fits_is : (net mid more : NetList) → mid ≡ more → Fits net mid → Fits net more
fits_is net mid more is fits = let P : NetList → Type 0 = Fits net in subst P is fits

pub all_wider : (few many : ℕ) (ns : List ℕ) → few ≤ many → All (λ n. n < few) ns → All (λ n. n < many) ns
all_wider few many ns wider all = All-weaker (λ (n : ℕ). n < few) (λ (n : ℕ). n < many) (λ n less. omega (arith, less, wider)) ns all

none_on : (m : ℕ) → All (λ k. k < m) []
none_on m i d less = absurd (omega (arith, less))

one_on : (n m : ℕ) → n < m → All (λ k. k < m) (n ∷ [])
one_on n m below zero d less = below
one_on n m below (suc i) d less = absurd (omega (arith, less))

two_on : (a b m : ℕ) → a < m → b < m → All (λ k. k < m) (a ∷ b ∷ [])
two_on a b m first second zero d less = first
two_on a b m first second (suc i) d less = one_on b m second i d (omega (arith, less))

-- ---- nets

module _ (net more : NetList) (name : List ℕ) (n : ℕ) (inside : IsInside net) (is_name : IsNetName name) (is : mentioned net name ≡ Ok (more, n)) where
  parts : (b : Bool) → ◌≡◌ {A = Result (NetList × ℕ) NetFault} (cond b (Err net_faults.TooManyNets) (Ok (with_name net name, unwrap_or (number_of (with_name net name) name) 0))) (Ok (more, n)) → (b ≡ false) × (with_name net name ≡ more)
  parts true e = absurd (cc)
  parts false e = (refl, (ok_pair (with_name net name, unwrap_or (number_of (with_name net name) name) 0) more n e).0)

  mention_is : (o : Option ℕ) → number_of net name ≡ o → Fits net more
  mention_is (Some k) e =
      let same : net ≡ with_name net name = rw e refl in
      fits_same net more (same ∙ (parts (not (is_some (number_of net name)) && nat_le (2 ^ 20) (nets net)) is).1) inside
  mention_is None e =
      let both = parts (not (is_some (number_of net name)) && nat_le (2 ^ 20) (nets net)) is in
      let open_still : nat_le (2 ^ 20) (nets net) ≡ false = sym (ap (λ (o : Option ℕ). not (is_some o) && nat_le (2 ^ 20) (nets net)) e) ∙ both.0 in
      let room : nets net < 2 ^ 20 = leb-false (2 ^ 20) (nets net) open_still in
      let same : with_label net name true ≡ with_name net name = rw e refl in
      fits_is net (with_label net name true) more (same ∙ both.1) (record { inside = with_named_inside net inside name room is_name e; wider = omega (arith, label_wider net name true) })

  pub mention_fits : Fits net more × (n < nets more)
  mention_fits = (mention_is (number_of net name) refl, omega (arith, number_below 0 more.labels name n (mention_covers net more name n is).1))

-- ---- gates

pub gate_fits : (net more : NetList) (out : ℕ) (inputs : List ℕ) (table : ℕ) → IsInside net → GateIsInside (nets net) (record { out = out; inputs = inputs; table = table }) → with_gate_of net out inputs table ≡ Ok more → Fits net more
gate_fits net more out inputs table inside gate is = by (nat_le (2 ^ 20) (length net.gates + length net.latches)) refl is
  where
    by : (b : Bool) → nat_le (2 ^ 20) (length net.gates + length net.latches) ≡ b → ◌≡◌ {A = Result NetList NetFault} (cond b (Err net_faults.TooManyGates) (Ok (with_gate net (record { out = out; inputs = inputs; table = table })))) (Ok more) → Fits net more
    by true e h = absurd (cc)
    by false e h =
        let same : with_gate net (record { out = out; inputs = inputs; table = table }) ≡ more = cc in
        let room : length net.gates + length net.latches < 2 ^ 20 = leb-false (2 ^ 20) (length net.gates + length net.latches) e in
        fits_is net (with_gate net (record { out = out; inputs = inputs; table = table })) more same (record { inside = with_gate_inside net inside (record { out = out; inputs = inputs; table = table }) room gate; wider = omega arith })

literal_low : (bit : Bool) → cond bit 1 0 < 2
literal_low true = omega arith
literal_low false = omega arith

operator_low : (operator : Operator) → operator_table operator < 16
operator_low operators.And = omega arith
operator_low operators.Xor = omega arith
operator_low operators.Xnor = omega arith
operator_low operators.Or = omega arith

-- the gate of a driver
pub driver_gate : (m out : ℕ) (driver : Driver) → out < m → All (λ k. k < m) (inputs_of driver) → GateIsInside m (record { out = out; inputs = inputs_of driver; table = table_of driver })
driver_gate m out (drivers.Wire n) below on = (below, on, omega arith, omega arith)
driver_gate m out (drivers.Literal line bit) below on = (below, on, omega arith, literal_low bit)
driver_gate m out (drivers.Not line n) below on = (below, on, omega arith, omega arith)
driver_gate m out (drivers.Binary line operator left right) below on = (below, on, omega arith, operator_low operator)

fresh_fits : (net more : NetList) (line n : ℕ) (driver : Driver) → IsInside net → IsDriverOn net driver → fresh_driven net line driver ≡ Ok (more, n) → Fits net more × (n < nets more)
fresh_fits net more line n driver inside on is = by (nat_le (2 ^ 20) (nets net)) refl is
  where
    by : (b : Bool) → nat_le (2 ^ 20) (nets net) ≡ b → ◌≡◌ {A = Result (NetList × ℕ) NetFault} (cond b (Err net_faults.TooManyNets) (on_value (λ (m : NetList). Ok (m, nets net)) (driven (with_label net (codes "expr" ++ decimal line) false) (nets net) driver))) (Ok (more, n)) → Fits net more × (n < nets more)
    by true e h = absurd (cc)
    by false e h =
        let found = value_before (λ (m : NetList). Ok (m, nets net)) (driven (with_label net (codes "expr" ++ decimal line) false) (nets net) driver) (more, n) h in
        let both = ok_pair (found.0, nets net) more n found.2 in
        let wide : nets (with_label net (codes "expr" ++ decimal line) false) ≡ nets net + 1 = label_wider net (codes "expr" ++ decimal line) false in
        let room : nets net < 2 ^ 20 = leb-false (2 ^ 20) (nets net) e in
        let within : IsInside (with_label net (codes "expr" ++ decimal line) false) = with_fresh_inside net inside (codes "expr" ++ decimal line) room in
        let below : nets net < nets (with_label net (codes "expr" ++ decimal line) false) = omega (arith, wide) in
        let gate = driver_gate (nets (with_label net (codes "expr" ++ decimal line) false)) (nets net) driver below (all_wider (nets net) (nets (with_label net (codes "expr" ++ decimal line) false)) (inputs_of driver) (omega (arith, wide)) on) in
        let fits : Fits (with_label net (codes "expr" ++ decimal line) false) found.0 = gate_fits (with_label net (codes "expr" ++ decimal line) false) found.0 (nets net) (inputs_of driver) (table_of driver) within gate found.1 in
        let P : NetList → ℕ → Type 0 = λ m k. Fits net m × (k < nets m) in
        let here : Fits net found.0 × (nets net < nets found.0) = (record { inside = fits.inside; wider = omega (arith, fits.wider, wide) }, omega (arith, fits.wider, wide)) in
        let Q : NetList → Type 0 = λ m. P m (nets net) in
        let R : ℕ → Type 0 = λ k. P more k in
        subst R both.1 (subst Q both.0 here)

pub settle_fits : (net more : NetList) (n : ℕ) (driver : Driver) → IsInside net → IsDriverOn net driver → settled net driver ≡ Ok (more, n) → Fits net more × (n < nets more)
settle_fits net more n (drivers.Wire m) inside on is =
    let both = ok_pair (net, m) more n is in
    let fits = fits_same net more both.0 inside in
    let below : m < nets net = on 0 m (omega arith) in
    (fits, omega (arith, below, both.1, fits.wider))
settle_fits net more n (drivers.Literal line bit) inside on is = fresh_fits net more line n (drivers.Literal line bit) inside on is
settle_fits net more n (drivers.Not line m) inside on is = fresh_fits net more line n (drivers.Not line m) inside on is
settle_fits net more n (drivers.Binary line operator a b) inside on is = fresh_fits net more line n (drivers.Binary line operator a b) inside on is

-- ---- expressions

-- the names of an expression are those of nets
abbrev pub HaveNames : Tree → Type 0
HaveNames (Net name) = IsNetName name
HaveNames (Literal line bit) = Unit {0}
HaveNames (Group inner) = HaveNames inner
HaveNames (Not line inner) = HaveNames inner
HaveNames (Binary line operator left right) = HaveNames left × HaveNames right

pub made_fits : (net more : NetList) (tree : Tree) (driver : Driver) → IsInside net → HaveNames tree → made net tree ≡ Ok (more, driver) → Fits net more × IsDriverOn more driver
made_fits net more (Net name) driver inside names is =
    let found = value_before (λ (p : NetList × ℕ). Ok (p.0, drivers.Wire p.1)) (mentioned net name) (more, driver) is in
    let fits = mention_fits net found.0.0 name found.0.1 inside names found.1 in
    let both = ok_pair (found.0.0, drivers.Wire found.0.1) more driver found.2 in
    let P : NetList → Type 0 = λ m. Fits net m × IsDriverOn m (drivers.Wire found.0.1) in
    let Q : Driver → Type 0 = λ d. Fits net more × IsDriverOn more d in
    subst Q both.1 (subst P both.0 (fits.0, one_on found.0.1 (nets found.0.0) fits.1))
made_fits net more (Literal line bit) driver inside names is =
    let both = ok_pair (net, drivers.Literal line bit) more driver is in
    let Q : Driver → Type 0 = λ d. IsDriverOn more d in
    (fits_same net more both.0 inside, subst Q both.1 (none_on (nets more)))
made_fits net more (Group inner) driver inside names is = made_fits net more inner driver inside names is
made_fits net more (Not line inner) driver inside names is =
    let m = not_made net more line inner driver is in
    let first = made_fits net m.mid inner m.below inside names m.makes in
    let second = settle_fits m.mid more m.number m.below first.0.inside first.1 m.settles in
    let Q : Driver → Type 0 = λ d. IsDriverOn more d in
    (fits_more net m.mid more first.0 second.0, subst Q m.is (one_on m.number (nets more) second.1))
made_fits net more (Binary line operator left right) driver inside names is =
    let m = binary_made net more line operator left right driver is in
    let first = made_fits net m.one left m.first inside names.0 m.makes_left in
    let second = settle_fits m.one m.two m.a m.first first.0.inside first.1 m.settles_left in
    let third = made_fits m.two m.three right m.second second.0.inside names.1 m.makes_right in
    let fourth = settle_fits m.three more m.b m.second third.0.inside third.1 m.settles_right in
    let Q : Driver → Type 0 = λ d. IsDriverOn more d in (
      fits_more net m.one more first.0 (fits_more m.one m.two more second.0 (fits_more m.two m.three more third.0 fourth.0)),
      subst Q m.is (two_on m.a m.b (nets more) (omega (arith, second.1, third.0.wider, fourth.0.wider)) fourth.1),
    )

-- ---- names of targets

abbrev Named : Answer (List ℕ) → Type 0
Named (Ok p) = IsNetName p.0
Named (Err e) = Unit {0}

closed_named : (net : List ℕ) (ts : List TokenValue) → IsNetName net → Named (closed net ts)
closed_named net [] is = tt
closed_named net (t ∷ ts) is = by (is_close_index t.kind)
  where
    by : (b : Bool) → Named (cond b (Ok (net, ts)) (Err (wrong t)))
    by true = is
    by false = tt

within_named : (name : List ℕ) (low high : ℕ) (t : TokenValue) (found : Option ℕ) (ts : List TokenValue) → HasBits name (Some (Some (low, high))) → Named (within name low high t found ts)
within_named name low high t None ts bits = tt
within_named name low high t (Some i) ts bits = by (nat_le low i && nat_le i high) refl
  where
    by : (b : Bool) → (nat_le low i && nat_le i high) ≡ b → Named (cond b (closed (bit_name name i) ts) (Err (faults.OutOfRange t.line)))
    by true e = let both = both_true (nat_le low i) (nat_le i high) e in closed_named (bit_name name i) ts (bits i (leb-true low i both.0) (leb-true i high both.1))
    by false e = tt

indexed_named : (name : List ℕ) (low high : ℕ) (ts : List TokenValue) → HasBits name (Some (Some (low, high))) → Named (indexed name low high ts)
indexed_named name low high [] bits = tt
indexed_named name low high (t ∷ ts) bits = within_named name low high t (decimal_kind t.kind t.text) ts bits

after_named : (line : ℕ) (name : List ℕ) (found : Option Range) (ts : List TokenValue) → IsNetName name → HasBits name found → Named (after_name line name found ts)
after_named line name None ts is bits = tt
after_named line name (Some None) [] is bits = is
after_named line name (Some None) (t ∷ ts) is bits = by (is_open_index t.kind)
  where
    by : (b : Bool) → Named (cond b (Err (faults.OutOfRange t.line)) (Ok (name, t ∷ ts)))
    by true = tt
    by false = is
after_named line name (Some (Some (low, high))) [] is bits = tt
after_named line name (Some (Some (low, high))) (t ∷ ts) is bits = by (is_open_index t.kind)
  where
    by : (b : Bool) → Named (cond b (indexed name low high ts) (Err (faults.OutOfRange line)))
    by true = indexed_named name low high ts bits
    by false = tt

-- an identifier of 1 to 255 bytes
pub fitting_name : (name : List ℕ) → (nat_lt 255 (length name) || (length name == 0)) ≡ false → IsNetName name
fitting_name name e =
    let both = neither (nat_lt 255 (length name)) (length name == 0) e in
    (some (length name) both.1, ltb-false 255 (length name) both.0)
  where
    some : (n : ℕ) → (n == 0) ≡ false → 1 ≤ n
    some zero is = absurd (cc)
    some (suc n) is = omega arith

pub target_named : (declared : Declarations) (tokens : List TokenValue) (p : List ℕ × List TokenValue) → HasNetNames declared → target_of declared tokens ≡ Ok p → IsNetName p.0
target_named declared [] p names is = absurd (cc)
target_named declared (t ∷ ts) p names is = let P : Answer (List ℕ) → Type 0 = Named in subst P is (by (name_kind t.kind t.text))
  where
    chosen : (name : List ℕ) (b : Bool) → (nat_lt 255 (length name) || (length name == 0)) ≡ b → Named (cond b (Err (faults.Syntax t.line)) (after_name t.line name (range_of declared name) ts))
    chosen name true e = tt
    chosen name false e = after_named t.line name (range_of declared name) ts (fitting_name name e) (bits_named declared name names (range_of declared name) refl)

    by : (found : Option (List ℕ)) → Named (named declared t found ts)
    by None = tt
    by (Some name) = chosen name (nat_lt 255 (length name) || (length name == 0)) refl

pub spells_named : (declared : Declarations) (tree : Tree) (tokens rest : List TokenValue) → HasNetNames declared → Spells declared tree tokens rest → HaveNames tree
spells_named declared (Net name) tokens rest names is = target_named declared tokens (name, rest) names is
spells_named declared (Literal line bit) tokens rest names is = tt
spells_named declared (Group inner) tokens rest names is = spells_named declared inner is.2 (is.1 ∷ rest) names is.5
spells_named declared (Not line inner) tokens rest names is = spells_named declared inner is.1 rest names is.5
spells_named declared (Binary line operator left right) tokens rest names is = (spells_named declared left tokens (is.0 ∷ is.1) names is.2, spells_named declared right is.1 rest names is.5)
