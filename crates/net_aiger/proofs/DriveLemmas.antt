-- The gates of what was read drive nets that exist.
use Rattle.std.proofs.Common.{◌≡◌, ◌∙◌, ap, sym, refl, subst, ℕ, zero, suc, ◌<◌, ◌≤◌, ◌+◌, Bool, true, false, cond, List, [], ◌∷◌, ◌++◌, length, get_or, drop, Option, None, Some, Result, Ok, Err, arith}
use Rattle.std.specs.Prelude.{All, nat_eq, nat_lt}
use Rattle.std.specs.Fmt.{decimal}
use Rattle.std.proofs.lemmas.List.Elements.{All-append, All-weaker}
use Rattle.net_core.specs.GateValue.{GateValue}
use Rattle.net_core.specs.LatchValue.{LatchValue}
use Rattle.net_core.specs.NetList.{NetList, empty, nets}
use Rattle.net_core.specs.declared.fault.NetFault.{NetFault}
use Rattle.net_core.proofs.DriverLemmas.{DriveNets}
use Rattle.net_aiger.specs.Checks.{own}
use Rattle.net_aiger.specs.Nets.{and_gate, and_made, ands_made, fresh_latch, gated, is_plain, labelled, latch_made, latch_on, latched, latches_made, literal_gate, net_made, output_made, outputs_made, variable_made, variables_made, with_output}
use Rattle.net_aiger.specs.Reading.{Name, Reading, driven, net_of, port_name, variable_net}
use Rattle.net_aiger.specs.Steps.{◌>>=◌}
use Rattle.net_aiger.specs.declared.reading.AndLine.{AndLine}
use Rattle.net_aiger.specs.declared.reading.LatchLine.{LatchLine}
use Rattle.net_aiger.proofs.MakeLemmas.{gated_gates, gated_labels, labelled_is, labelled_nets, latched_is, position_below}

-- a value of two steps is one of the second on a value of the first
pub split_ok : {A B : Type 0} (first : Result A NetFault) (further : A → Result B NetFault) (b : B) → (first >>= further) ≡ Ok b → (a : A) × (first ≡ Ok a) × (further a ≡ Ok b)
split_ok {A} {B} first further b is = by first refl is
  where
    by : (r : Result A NetFault) → first ≡ r → (r >>= further) ≡ Ok b → (a : A) × (first ≡ Ok a) × (further a ≡ Ok b)
    by (Ok a) e f = (a, e, f)
    by (Err fault) e f = absurd (cc)

variable_keeps : (reading : Reading) (n literal : ℕ) (net more : NetList) → variable_made reading n literal net ≡ Ok more → (nets more ≡ nets net + 1) × (more.gates ≡ net.gates)
variable_keeps reading n literal net more made = by (nat_lt n reading.header.inputs) (nat_lt n (driven reading.header)) made
  where
    label : (text : Name) (named : Bool) (m : NetList) → labelled text named net ≡ Ok m → (nets m ≡ nets net + 1) × (m.gates ≡ net.gates)
    label text named m is = (labelled_nets text named net m is, ap (λ (x : NetList). x.gates) (labelled_is text named net m is))

    input : (r : Result NetList NetFault) → labelled (port_name reading n) true net ≡ r → (r >>= (λ m. Ok (record m { inputs = m.inputs ++ n ∷ [] }))) ≡ Ok more → (nets more ≡ nets net + 1) × (more.gates ≡ net.gates)
    input (Ok m) e f =
        let same : record m { inputs = m.inputs ++ n ∷ [] } ≡ more = cc in
        let kept = label (port_name reading n) true m e in
        (ap nets (sym same) ∙ kept.0, ap (λ (x : NetList). x.gates) (sym same) ∙ kept.1)
    input (Err fault) e f = absurd (cc)

    by : (a b : Bool) → cond a (labelled (port_name reading n) true net >>= (λ m. Ok (record m { inputs = m.inputs ++ n ∷ [] }))) (cond b (labelled (port_name reading n) true net) (labelled (decimal literal) false net)) ≡ Ok more → (nets more ≡ nets net + 1) × (more.gates ≡ net.gates)
    by true b is = input (labelled (port_name reading n) true net) refl is
    by false true is = label (port_name reading n) true more is
    by false false is = label (decimal literal) false more is

variables_keep : (reading : Reading) (n : ℕ) (literals : List ℕ) (net more : NetList) → variables_made reading n literals net ≡ Ok more → (nets more ≡ nets net + length literals) × (more.gates ≡ net.gates)
variables_keep reading n [] net more made = let same : net ≡ more = cc in (ap nets (sym same) ∙ omega arith, ap (λ (x : NetList). x.gates) (sym same))
variables_keep reading n (literal ∷ literals) net more made =
    let (next, one, rest) = split_ok (variable_made reading n literal net) (λ m. variables_made reading (n + 1) literals m) more made in
    let here = variable_keeps reading n literal net next one in
    let there = variables_keep reading (n + 1) literals next more rest in
    (there.0 ∙ omega (arith, here.0), there.1 ∙ here.1)

-- there is a net for each defined literal, and gates drive nets that exist
record Drives (reading : Reading) (net : NetList) : Type 0 where
  long : length reading.defined ≤ nets net
  gates : DriveNets net

module _ (reading : Reading) (net : NetList) (drives : Drives reading net) where
  -- nets are added, and gates stay
  wider : (more : NetList) → nets net ≤ nets more → more.gates ≡ net.gates → Drives reading more
  wider more room same =
      let P : List GateValue → Type 0 = λ gs. All (λ (g : GateValue). g.out < nets more) gs in
      record {
        long = omega (arith, drives.long, room);
        gates = subst P (sym same) (All-weaker (λ (g : GateValue). g.out < nets net) (λ (g : GateValue). g.out < nets more) (λ g less. omega (arith, less, room)) net.gates drives.gates);
      }

  label_drives : (text : Name) (named : Bool) (more : NetList) → labelled text named net ≡ Ok more → Drives reading more
  label_drives text named more made = let longer = labelled_nets text named net more made in wider more (omega (arith, longer)) (ap (λ (x : NetList). x.gates) (labelled_is text named net more made))

  gate_drives : (gate : GateValue) (more : NetList) → gate.out < nets net → gated gate net ≡ Ok more → Drives reading more
  gate_drives gate more out made =
      let same : nets more ≡ nets net = ap length (gated_labels gate net more made) in
      let P : List GateValue → Type 0 = λ gs. All (λ (g : GateValue). g.out < nets more) gs in
      record {
        long = omega (arith, drives.long, same);
        gates = subst P (sym (gated_gates gate net more made)) (All-append (λ (g : GateValue). g.out < nets more) net.gates (gate ∷ []) (All-weaker (λ (g : GateValue). g.out < nets net) (λ (g : GateValue). g.out < nets more) (λ g less. omega (arith, less, same)) net.gates drives.gates) (one same));
      }
    where
      one : nets more ≡ nets net → (k : ℕ) (d : GateValue) → k < 1 → (get_or (gate ∷ []) k d).out < nets more
      one same zero d less = omega (arith, out, same)
      one same (suc k) d less = absurd (omega arith)

  latch_drives : (latch : LatchValue) (more : NetList) → latched latch net ≡ Ok more → Drives reading more
  latch_drives latch more made = let is = latched_is latch net more made in let same : nets more ≡ nets net = ap nets is in wider more (omega (arith, same)) (ap (λ (x : NetList). x.gates) is)

  and_drives : (found : Option ℕ) (line : AndLine) (more : NetList) → net_of reading line.literal ≡ found → and_made reading found line net ≡ Ok more → Drives reading more
  and_drives None line more is made = let same : net ≡ more = cc in let P : NetList → Type 0 = Drives reading in subst P same drives
  and_drives (Some out) line more is made =
      let less = position_below (nat_eq line.literal) reading.defined out is in
      gate_drives (and_gate reading out line) more (omega (arith, less, drives.long)) made

module _ (reading : Reading) where
  literal_drives : (net labelled_net more : NetList) (text : Name) (named : Bool) (literal : ℕ) → Drives reading net → labelled text named net ≡ Ok labelled_net → gated (literal_gate reading (nets net) literal) labelled_net ≡ Ok more → Drives reading more
  literal_drives net labelled_net more text named literal drives first second =
      let longer = labelled_nets text named net labelled_net first in
      gate_drives reading labelled_net (label_drives reading net drives text named labelled_net first) (literal_gate reading (nets net) literal) more (omega (arith, longer)) second

  fresh_drives : (out : ℕ) (latch : LatchLine) (net more : NetList) → Drives reading net → fresh_latch reading out latch net ≡ Ok more → Drives reading more
  fresh_drives out latch net more drives made =
      let (first, one, rest) = split_ok (labelled (decimal latch.next) false net) (λ m. gated (literal_gate reading (nets net) latch.next) m >>= (λ with. latched (latch_on (nets net) out latch) with)) more made in
      let (second, two, last) = split_ok (gated (literal_gate reading (nets net) latch.next) first) (λ with. latched (latch_on (nets net) out latch) with) more rest in
      latch_drives reading second (literal_drives net first second (decimal latch.next) false latch.next drives one two) (latch_on (nets net) out latch) more last

  one_latch : (found : Option ℕ) (latch : LatchLine) (net more : NetList) → Drives reading net → latch_made reading found latch net ≡ Ok more → Drives reading more
  one_latch None latch net more drives made = let same : net ≡ more = cc in let P : NetList → Type 0 = Drives reading in subst P same drives
  one_latch (Some out) latch net more drives made = by (is_plain latch.next) made
    where
      by : (b : Bool) → cond b (latched (latch_on (variable_net reading latch.next) out latch) net) (fresh_latch reading out latch net) ≡ Ok more → Drives reading more
      by true is = latch_drives reading net drives (latch_on (variable_net reading latch.next) out latch) more is
      by false is = fresh_drives out latch net more drives is

  one_output : (port literal : ℕ) (found : Option ℕ) (net more : NetList) → Drives reading net → output_made reading port literal found net ≡ Ok more → Drives reading more
  one_output port literal (Some n) net more drives made = let same : with_output n net ≡ more = cc in let P : NetList → Type 0 = Drives reading in subst P same (record { long = drives.long; gates = drives.gates })
  one_output port literal None net more drives made =
      let (first, one, rest) = split_ok (labelled (port_name reading port) true net) (λ m. gated (literal_gate reading (nets net) literal) m >>= (λ with. Ok (with_output (nets net) with))) more made in
      let (second, two, last) = split_ok (gated (literal_gate reading (nets net) literal) first) (λ with. Ok (with_output (nets net) with)) more rest in
      let same : with_output (nets net) second ≡ more = cc in
      let there = literal_drives net first second (port_name reading port) true literal drives one two in
      let P : NetList → Type 0 = Drives reading in
      subst P same (record { long = there.long; gates = there.gates })

  ands_drive : (ands : List AndLine) (net more : NetList) → Drives reading net → ands_made reading ands net ≡ Ok more → Drives reading more
  ands_drive [] net more drives made = let same : net ≡ more = cc in let P : NetList → Type 0 = Drives reading in subst P same drives
  ands_drive (line ∷ ands) net more drives made =
      let (next, one, rest) = split_ok (and_made reading (net_of reading line.literal) line net) (λ m. ands_made reading ands m) more made in
      ands_drive ands next more (and_drives reading net drives (net_of reading line.literal) line next refl one) rest

  latches_drive : (latches : List LatchLine) (net more : NetList) → Drives reading net → latches_made reading latches net ≡ Ok more → Drives reading more
  latches_drive [] net more drives made = let same : net ≡ more = cc in let P : NetList → Type 0 = Drives reading in subst P same drives
  latches_drive (latch ∷ latches) net more drives made =
      let (next, one, rest) = split_ok (latch_made reading (net_of reading latch.literal) latch net) (λ m. latches_made reading latches m) more made in
      latches_drive latches next more (one_latch (net_of reading latch.literal) latch net next drives one) rest

  outputs_drive : (port : ℕ) (literals : List ℕ) (net more : NetList) → Drives reading net → outputs_made reading port literals net ≡ Ok more → Drives reading more
  outputs_drive port [] net more drives made = let same : net ≡ more = cc in let P : NetList → Type 0 = Drives reading in subst P same drives
  outputs_drive port (literal ∷ literals) net more drives made =
      let (next, one, rest) = split_ok (output_made reading port literal (own reading port literal) net) (λ m. outputs_made reading (port + 1) literals m) more made in
      outputs_drive (port + 1) literals next more (one_output port literal (own reading port literal) net next drives one) rest

  pub net_drives : (net : NetList) → net_made reading ≡ Ok net → DriveNets net
  net_drives net made =
      let (variables, one, rest) = split_ok (variables_made reading 0 reading.defined empty) (λ v. ands_made reading reading.ands v >>= (λ a. latches_made reading reading.latches a >>= (λ l. outputs_made reading (driven reading.header) (drop (driven reading.header) reading.ports) l))) net made in
      let (ands, two, rest') = split_ok (ands_made reading reading.ands variables) (λ a. latches_made reading reading.latches a >>= (λ l. outputs_made reading (driven reading.header) (drop (driven reading.header) reading.ports) l)) net rest in
      let (latches, three, four) = split_ok (latches_made reading reading.latches ands) (λ l. outputs_made reading (driven reading.header) (drop (driven reading.header) reading.ports) l) net rest' in
      let kept = variables_keep reading 0 reading.defined empty variables one in
      let P : List GateValue → Type 0 = λ gs. All (λ (g : GateValue). g.out < nets variables) gs in
      let begin : Drives reading variables = record { long = omega (arith, kept.0); gates = subst P (sym kept.1) (λ k d less. absurd (omega arith)) } in
      (outputs_drive (driven reading.header) (drop (driven reading.header) reading.ports) latches net (latches_drive reading.latches ands latches (ands_drive reading.ands variables ands begin two) three) four).gates
