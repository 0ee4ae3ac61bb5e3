-- The labels of a net in ASCII AIGER have no line feed, nor has what its faults repeat.
use Rattle.std.proofs.Common.{◌≡◌, inl, inr, refl, subst, sym, ℕ, zero, suc, ◌+◌, ◌-◌, ◌^◌, ◌==◌, Bool, true, false, cond, not, ◌&&◌, List, [], ◌∷◌, ◌++◌, length, drop, Option, None, Some, Result, Ok, Err}
use Rattle.std.specs.Prelude.{codes, is_some, nat_eq, nat_le, nat_lt, slice_get, unwrap_or}
use Rattle.std.specs.Fmt.{decimal}
use Rattle.std.specs.List.{AllByRecursion, list_all, list_any}
use Rattle.std.specs.Map.{lookup}
use Rattle.std.specs.Str.{bytes_eq}
use Rattle.std.specs.Str.Lines.{lines}
use Rattle.std.proofs.lemmas.Bool.{eqb-true}
use Rattle.lists.specs.laws.BoolLaws.{both_true, second_true}
use Rattle.net_core.specs.GateValue.{GateValue}
use Rattle.net_core.specs.LatchValue.{LatchValue}
use Rattle.net_core.specs.NetList.{LabelValue, NetList, empty, nets, with_gate, with_label, with_latch as with_held}
use Rattle.net_core.specs.declared.fault.NetFault.{NetFault}
use Rattle.net_core.specs.declared.fault.NetFault.TheVariants as nets_faults
use Rattle.net_core.specs.Finish.{Settles}
use Rattle.net_aiger.specs.AigerNet.{AigerNet}
use Rattle.net_aiger.specs.Checks.{apart, is_known, known, own}
use Rattle.net_aiger.specs.Nets.{and_gate, and_made, ands_made, fresh_latch, gated, is_plain, labelled, latch_made, latch_on, latched, latches_made, literal_gate, net_made, output_made, outputs_made, variable_made, variables_made, with_output}
use Rattle.net_aiger.specs.Reading.{Name, Reading, default_name, driven, net_of, port_name, variable_net}
use Rattle.net_aiger.specs.Sections.{Text}
use Rattle.net_aiger.specs.Spelling.{is_port_name, is_shown}
use Rattle.net_aiger.specs.Steps.{◌>>=◌}
use Rattle.net_aiger.specs.declared.fault.AigerFault.{AigerFault}
use Rattle.net_aiger.specs.declared.fault.AigerFault.TheVariants as aigers
use Rattle.net_aiger.proofs.RepeatLemmas.{Repeats, text_names, text_repeats}
use Rattle.job_words.proofs.OneLineLemmas.{IsClean, number_clean}
use Rattle.job_input.proofs.LabelFaultLemmas.{NetKeeps, HasCleanLabels, finish_keeps}

-- ---- names

shown_clean : (name : Name) → list_all is_shown name ≡ true → IsClean name
shown_clean [] shown = refl
shown_clean (b ∷ bs) shown = let (first, others) = both_true (is_shown b) (list_all is_shown bs) shown in rw (byte b first, shown_clean bs others) refl
  where
    byte : (b : ℕ) → is_shown b ≡ true → not (b == 10) ≡ true
    byte b first = by (b == 10) refl
      where
        by : (v : Bool) → (b == 10) ≡ v → not v ≡ true
        by true e = let P : ℕ → Type 0 = λ n. is_shown n ≡ true in let wrong : is_shown 10 ≡ true = subst P (eqb-true b 10 e) first in absurd (cc)
        by false e = refl

default_clean : (header : _) (port : ℕ) → IsClean (default_name header port)
default_clean header port = by (nat_lt port header.inputs) (nat_lt port (driven header))
  where
    by : (a b : Bool) → IsClean (cond a (codes "i" ++ decimal port) (cond b (codes "l" ++ decimal (port - header.inputs)) (codes "o" ++ decimal (port - driven header))))
    by true b = number_clean port
    by false true = number_clean (port - header.inputs)
    by false false = number_clean (port - driven header)

-- the names given so far
abbrev HasCleanNames : Reading → Type 0
HasCleanNames reading = AllByRecursion (λ (s : ℕ × Name). IsClean s.1) reading.symbols

port_clean : (reading : Reading) (port : ℕ) → HasCleanNames reading → IsClean (port_name reading port)
port_clean reading port names = by reading.symbols names
  where
    one : (b : Bool) (name : Name) (other : Option Name) → IsClean name → IsClean (unwrap_or other (default_name reading.header port)) → IsClean (unwrap_or (cond b (Some name) other) (default_name reading.header port))
    one true name other clean more = clean
    one false name other clean more = more

    by : (symbols : List (ℕ × Name)) → AllByRecursion (λ (s : ℕ × Name). IsClean s.1) symbols → IsClean (unwrap_or (lookup (nat_eq port) symbols) (default_name reading.header port))
    by [] all = default_clean reading.header port
    by (s ∷ symbols) all = one (nat_eq port s.0) s.1 (lookup (nat_eq port) symbols) all.0 (by symbols all.1)

-- ---- the text: what is read has clean names, and what a fault repeats is clean

abbrev pub AigerKeeps : AigerFault → Type 0
AigerKeeps (aigers.LeftOut line word) = IsClean word
AigerKeeps (aigers.Net fault) = NetKeeps fault
AigerKeeps fault = Unit {0}

-- a value is as said, and a fault keeps to its line
abbrev Good : {A : Type 0} → (A → Type 0) → Result A AigerFault → Type 0
Good is (Ok value) = is value
Good is (Err fault) = AigerKeeps fault

good_if : {A : Type 0} (is : A → Type 0) (b : Bool) (first second : Result A AigerFault) → Good is first → Good is second → Good is (cond b first second)
good_if is true first second one other = one
good_if is false first second one other = other

abbrev Any : {A : Type 0} → A → Type 0
Any value = Unit {0}

all_clean : (symbols : List (ℕ × Name)) → ((k : ℕ) (s : ℕ × Name) → slice_get symbols k ≡ Some s → IsClean s.1) → AllByRecursion (λ (s : ℕ × Name). IsClean s.1) symbols
all_clean [] each = tt
all_clean (s ∷ symbols) each = (each zero s refl, all_clean symbols (λ k t at. each (suc k) t at))

-- the names that a text gives are clean
text_clean : (text : List (List ℕ)) (reading : Reading) → Text text (Ok reading) → HasCleanNames reading
text_clean text reading says = all_clean reading.symbols (λ k s at. shown_clean s.1 (shown s.1 (text_names text reading says k s at)))
  where
    shown : (name : Name) → is_port_name name ≡ true → list_all is_shown name ≡ true
    shown name is = second_true (nat_le 1 (length name) && nat_le (length name) 255) (list_all is_shown name) is

-- what a fault of a text repeats is clean
repeats_clean : (fault : AigerFault) → Repeats fault → AigerKeeps fault
repeats_clean (aigers.Syntax line) repeats = tt
repeats_clean (aigers.LeftOut line word) (inl is) = subst IsClean (sym is) refl
repeats_clean (aigers.LeftOut line word) (inr (n, is)) = subst IsClean (sym is) (number_clean n)
repeats_clean (aigers.Literal line) repeats = tt
repeats_clean (aigers.DefinedTwice line) repeats = tt
repeats_clean (aigers.Undefined line) repeats = tt
repeats_clean (aigers.NameTwice line) repeats = tt
repeats_clean (aigers.Net fault) repeats = absurd repeats
repeats_clean aigers.OutOfMemory repeats = tt

known_good : (defined : List ℕ) (uses : List _) → Good Any (known defined uses)
known_good defined [] = tt
known_good defined (one ∷ uses) = good_if Any (is_known defined one.literal) (known defined uses) (Err (aigers.Undefined one.line)) (known_good defined uses) tt

apart_good : (reading : Reading) (port : ℕ) (before : List Name) (ports : List ℕ) → Good Any (apart reading port before ports)
apart_good reading port before [] = tt
apart_good reading port before (literal ∷ ports) =
    good_if Any (is_some (own reading port literal)) (apart reading (port + 1) before ports) (cond (list_any (bytes_eq (port_name reading port)) before) (Err (aigers.NameTwice (port + 2))) (apart reading (port + 1) (before ++ port_name reading port ∷ []) ports)) (apart_good reading (port + 1) before ports)
    (good_if Any (list_any (bytes_eq (port_name reading port)) before) (Err (aigers.NameTwice (port + 2))) (apart reading (port + 1) (before ++ port_name reading port ∷ []) ports) tt (apart_good reading (port + 1) (before ++ port_name reading port ∷ []) ports))

-- ---- the net list

-- its labels are clean, and a limit that is passed repeats nothing
abbrev Makes : Result NetList NetFault → Type 0
Makes (Ok net) = HasCleanLabels net
Makes (Err fault) = NetKeeps fault

makes_if : (b : Bool) (first second : Result NetList NetFault) → Makes first → Makes second → Makes (cond b first second)
makes_if true first second one other = one
makes_if false first second one other = other

makes_then : (first : Result NetList NetFault) (further : NetList → Result NetList NetFault) → Makes first → ((net : NetList) → HasCleanLabels net → Makes (further net)) → Makes (first >>= further)
makes_then (Ok net) further one next = next net one
makes_then (Err fault) further one next = one

label_made : (text : Name) (named : Bool) (net : NetList) → IsClean text → HasCleanLabels net → Makes (labelled text named net)
label_made text named net clean labels = makes_if (nat_le (2 ^ 20) (nets net)) (Err nets_faults.TooManyNets) (Ok (with_label net text named)) tt (more net.labels labels)
  where
    more : (list : List LabelValue) → AllByRecursion (λ (l : LabelValue). IsClean l.text) list → AllByRecursion (λ (l : LabelValue). IsClean l.text) (list ++ record { text = text; named = named } ∷ [])
    more [] all = (clean, tt)
    more (l ∷ list) all = (all.0, more list all.1)

gate_made : (gate : GateValue) (net : NetList) → HasCleanLabels net → Makes (gated gate net)
gate_made gate net labels = makes_if (nat_le (2 ^ 20) (length net.gates + length net.latches)) (Err nets_faults.TooManyGates) (Ok (with_gate net gate)) tt labels

held_made : (latch : LatchValue) (net : NetList) → HasCleanLabels net → Makes (latched latch net)
held_made latch net labels = makes_if (nat_le (2 ^ 20) (length net.gates + length net.latches)) (Err nets_faults.TooManyGates) (Ok (with_held net latch)) tt labels

module _ (reading : Reading) (names : HasCleanNames reading) where
  one_variable : (n literal : ℕ) (net : NetList) → HasCleanLabels net → Makes (variable_made reading n literal net)
  one_variable n literal net labels =
      let port = label_made (port_name reading n) true net (port_clean reading n names) labels in
      let input : Result NetList NetFault = labelled (port_name reading n) true net >>= (λ more. Ok (record more { inputs = more.inputs ++ n ∷ [] })) in
      let other : Result NetList NetFault = cond (nat_lt n (driven reading.header)) (labelled (port_name reading n) true net) (labelled (decimal literal) false net) in
      makes_if (nat_lt n reading.header.inputs) input other (makes_then (labelled (port_name reading n) true net) (λ more. Ok (record more { inputs = more.inputs ++ n ∷ [] })) port (λ more kept. kept))
      (makes_if (nat_lt n (driven reading.header)) (labelled (port_name reading n) true net) (labelled (decimal literal) false net) port (label_made (decimal literal) false net (number_clean literal) labels))

  all_variables : (n : ℕ) (literals : List ℕ) (net : NetList) → HasCleanLabels net → Makes (variables_made reading n literals net)
  all_variables n [] net labels = labels
  all_variables n (literal ∷ literals) net labels = makes_then (variable_made reading n literal net) (λ more. variables_made reading (n + 1) literals more) (one_variable n literal net labels) (λ more kept. all_variables (n + 1) literals more kept)

  one_and : (out : Option ℕ) (line : _) (net : NetList) → HasCleanLabels net → Makes (and_made reading out line net)
  one_and None line net labels = labels
  one_and (Some out) line net labels = gate_made (and_gate reading out line) net labels

  all_ands : (ands : List _) (net : NetList) → HasCleanLabels net → Makes (ands_made reading ands net)
  all_ands [] net labels = labels
  all_ands (line ∷ ands) net labels = makes_then (and_made reading (net_of reading line.literal) line net) (λ more. ands_made reading ands more) (one_and (net_of reading line.literal) line net labels) (λ more kept. all_ands ands more kept)

  one_latch : (out : Option ℕ) (latch : _) (net : NetList) → HasCleanLabels net → Makes (latch_made reading out latch net)
  one_latch None latch net labels = labels
  one_latch (Some out) latch net labels =
      makes_if (is_plain latch.next) (latched (latch_on (variable_net reading latch.next) out latch) net) (fresh_latch reading out latch net) (held_made (latch_on (variable_net reading latch.next) out latch) net labels)
      (makes_then (labelled (decimal latch.next) false net) (λ more. gated (literal_gate reading (nets net) latch.next) more >>= (λ with. latched (latch_on (nets net) out latch) with)) (label_made (decimal latch.next) false net (number_clean latch.next) labels)
      (λ more kept. makes_then (gated (literal_gate reading (nets net) latch.next) more) (λ with. latched (latch_on (nets net) out latch) with) (gate_made (literal_gate reading (nets net) latch.next) more kept) (λ whole still. held_made (latch_on (nets net) out latch) whole still)))

  all_latches : (latches : List _) (net : NetList) → HasCleanLabels net → Makes (latches_made reading latches net)
  all_latches [] net labels = labels
  all_latches (latch ∷ latches) net labels = makes_then (latch_made reading (net_of reading latch.literal) latch net) (λ more. latches_made reading latches more) (one_latch (net_of reading latch.literal) latch net labels) (λ more kept. all_latches latches more kept)

  one_output : (port literal : ℕ) (own : Option ℕ) (net : NetList) → HasCleanLabels net → Makes (output_made reading port literal own net)
  one_output port literal (Some n) net labels = labels
  one_output port literal None net labels =
      makes_then (labelled (port_name reading port) true net) (λ more. gated (literal_gate reading (nets net) literal) more >>= (λ with. Ok (with_output (nets net) with))) (label_made (port_name reading port) true net (port_clean reading port names) labels)
      (λ more kept. makes_then (gated (literal_gate reading (nets net) literal) more) (λ with. Ok (with_output (nets net) with)) (gate_made (literal_gate reading (nets net) literal) more kept) (λ whole still. still))

  all_outputs : (port : ℕ) (literals : List ℕ) (net : NetList) → HasCleanLabels net → Makes (outputs_made reading port literals net)
  all_outputs port [] net labels = labels
  all_outputs port (literal ∷ literals) net labels = makes_then (output_made reading port literal (own reading port literal) net) (λ more. outputs_made reading (port + 1) literals more) (one_output port literal (own reading port literal) net labels) (λ more kept. all_outputs (port + 1) literals more kept)

  whole_made : Makes (net_made reading)
  whole_made =
      let outputs : NetList → Result NetList NetFault = λ net. outputs_made reading (driven reading.header) (drop (driven reading.header) reading.ports) net in
      let latches : NetList → Result NetList NetFault = λ net. latches_made reading reading.latches net >>= outputs in
      let ands : NetList → Result NetList NetFault = λ net. ands_made reading reading.ands net >>= latches in
      makes_then (variables_made reading 0 reading.defined empty) ands (all_variables 0 reading.defined empty tt) (λ net first.
      makes_then (ands_made reading reading.ands net) latches (all_ands reading.ands net first) (λ more second.
      makes_then (latches_made reading reading.latches more) outputs (all_latches reading.latches more second) (λ whole third.
      all_outputs (driven reading.header) (drop (driven reading.header) reading.ports) whole third)))

-- ---- the whole

by_result : {A F : Type 0} (P : Result A F → Type 0) (r : Result A F) (x : Result A F) → x ≡ r → P r → P x
by_result P r x same is = subst P (sym same) is

pub settled_keeps : (net : NetList) → HasCleanLabels net → (fault : NetFault) → Settles net (Err fault) → NetKeeps fault
settled_keeps net labels nets_faults.TooManyNets settles = tt
settled_keeps net labels nets_faults.TooManyGates settles = tt
settled_keeps net labels (nets_faults.DrivenTwice n label) settles = finish_keeps net labels (nets_faults.DrivenTwice n label) settles
settled_keeps net labels (nets_faults.Undriven n label) settles = finish_keeps net labels (nets_faults.Undriven n label) settles
settled_keeps net labels (nets_faults.Loop loop label) settles = finish_keeps net labels (nets_faults.Loop loop label) settles
settled_keeps net labels nets_faults.OutOfMemory settles = tt

pub aiger_labels : (text : List ℕ) (net : NetList) → AigerNet text (Ok net) → HasCleanLabels net
aiger_labels text net (reading, read, (u, knows, (v, differ, (made, is_made, settles)))) =
    let names : HasCleanNames reading = text_clean (lines text) reading read in
    let labels : HasCleanLabels made = by_result Makes (net_made reading) (Ok made) is_made (whole_made reading names) in
    let P : NetList → Type 0 = HasCleanLabels in
    subst P (sym settles.0) labels

pub aiger_fault_keeps : (text : List ℕ) (fault : AigerFault) → AigerNet text (Err fault) → AigerKeeps fault
aiger_fault_keeps text fault (inl read) = repeats_clean fault (text_repeats (lines text) fault read)
aiger_fault_keeps text fault (inr (reading, read, inl wrong)) = by_result (Good Any) (known reading.defined reading.uses) (Err fault) wrong (known_good reading.defined reading.uses)
aiger_fault_keeps text fault (inr (reading, read, inr (u, knows, inl wrong))) = by_result (Good Any) (apart reading 0 [] reading.ports) (Err fault) wrong (apart_good reading 0 [] reading.ports)
aiger_fault_keeps text fault (inr (reading, read, inr (u, knows, inr (v, differ, inl (other, wrong, same))))) =
    let names : HasCleanNames reading = text_clean (lines text) reading read in
    let P : AigerFault → Type 0 = AigerKeeps in
    subst P (sym same) (by_result Makes (net_made reading) (Err other) wrong (whole_made reading names))
aiger_fault_keeps text fault (inr (reading, read, inr (u, knows, inr (v, differ, inr (made, is_made, (other, settles, same)))))) =
    let names : HasCleanNames reading = text_clean (lines text) reading read in
    let labels : HasCleanLabels made = by_result Makes (net_made reading) (Ok made) is_made (whole_made reading names) in
    let P : AigerFault → Type 0 = AigerKeeps in
    subst P (sym same) (settled_keeps made labels other settles)
