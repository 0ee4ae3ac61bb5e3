-- The net list of what was read in AIGER stands on existing nets.
use Rattle.std.proofs.Common.{◌≡◌, ap, refl, subst, ℕ, ◌<◌, ◌≤◌, ◌+◌, ◌-◌, ◌%◌, ◌^◌, Bool, true, false, cond, List, [], ◌∷◌, ◌++◌, length, drop, Option, None, Some, Result, Ok, Err, arith}
use Rattle.std.specs.Prelude.{◌==◌, nat_eq, nat_le, nat_lt, unwrap_or, codes, All}
use Rattle.std.specs.Fmt.{decimal}
use Rattle.std.specs.Map.{lookup}
use Rattle.std.proofs.lemmas.Bool.{leb-false, ltb-true}
use Rattle.std.proofs.lemmas.List.{length-drop}
use Rattle.std.proofs.lemmas.List.Elements.{All-append, All-cons}
use Rattle.net_core.specs.GateValue.{GateValue}
use Rattle.net_core.specs.LatchValue.{LatchValue}
use Rattle.net_core.specs.NetList.{NetList, empty, nets, number_of, with_gate, with_label, with_latch}
use Rattle.net_core.specs.Inside.{GateIsInside, IsInside, IsNetName, LatchIsInside}
use Rattle.net_core.specs.declared.fault.NetFault.{NetFault}
use Rattle.net_core.specs.declared.fault.NetFault.TheVariants.{TooManyNets, TooManyGates}
use Rattle.reader_laws.proofs.InsideLemmas.{empty_inside, with_fresh_inside, with_gate_inside, with_input_inside, with_latch_inside, with_named_inside, with_output_inside}
use Rattle.net_aiger.specs.Checks.{apart, own}
use Rattle.net_aiger.specs.Nets.{and_gate, and_made, and_table, ands_made, fresh_latch, gated, inputs_of, is_plain, labelled, latch_made, latch_on, latched, latches_made, literal_gate, net_made, output_made, outputs_made, table_of, variable_made, variables_made, with_output}
use Rattle.net_aiger.specs.Reading.{Name, Reading, default_name, driven, even, net_of, port_name, variable_net}
use Rattle.net_aiger.specs.Steps.{◌>>=◌}
use Rattle.net_aiger.specs.declared.reading.AndLine.{AndLine}
use Rattle.net_aiger.specs.declared.reading.Header.{Header}
use Rattle.net_aiger.specs.declared.reading.LatchLine.{LatchLine}
use Rattle.net_aiger.specs.private.Making.{Awaits, AwaitsPort}
use Rattle.net_aiger.specs.private.Run.{is_complete}
use Rattle.net_aiger.proofs.AwaitLemmas.{awaits_start, awaits_variable, name_is_new, outputs_awaited, port_is_new, ports_long}
use Rattle.net_aiger.proofs.DriveLemmas.{split_ok}
use Rattle.net_aiger.proofs.KeepLemmas.{ands_keep, awaits_kept, latches_keep, output_awaits}
use Rattle.net_aiger.proofs.MakeLemmas.{gated_labels, labelled_nets, latched_is, position_below}
use Rattle.net_aiger.proofs.NameLemmas.{default_fits, lookup_fits}
use Rattle.net_aiger.proofs.PortLemmas.{own_is}
use Rattle.net_aiger.proofs.PortOrder.{next_port}

-- ---- names of ports

-- all lines of numbers were read, and each name is one of a net
pub record IsNameable (reading : Reading) : Type 0 where
  pub complete : is_complete reading ≡ true
  pub symbols : All (λ (s : ℕ × Name). IsNetName s.1) reading.symbols
  pub few : length reading.ports < 2 ^ 64

default_named : (header : Header) (port : ℕ) → port < 2 ^ 64 → IsNetName (default_name header port)
default_named header port small = by (nat_lt port header.inputs) (nat_lt port (driven header))
  where
    by : (a b : Bool) → IsNetName (cond a (codes "i" ++ decimal port) (cond b (codes "l" ++ decimal (port - header.inputs)) (codes "o" ++ decimal (port - driven header))))
    by true b = default_fits (codes "i") port refl small
    by false true = default_fits (codes "l") (port - header.inputs) refl (omega (arith, small))
    by false false = default_fits (codes "o") (port - driven header) refl (omega (arith, small))

port_named : (reading : Reading) (port : ℕ) → IsNameable reading → port < 2 ^ 64 → IsNetName (port_name reading port)
port_named reading port is small = by (lookup (nat_eq port) reading.symbols) refl
  where
    by : (found : Option Name) → lookup (nat_eq port) reading.symbols ≡ found → IsNetName (unwrap_or found (default_name reading.header port))
    by None at = default_named reading.header port small
    by (Some name) at = lookup_fits reading.symbols port name is.symbols at

-- ---- one more net, gate or latch

labelled_room : (text : Name) (named : Bool) (net more : NetList) → labelled text named net ≡ Ok more → nets net < 2 ^ 20
labelled_room text named net more made = by (nat_le (2 ^ 20) (nets net)) refl made
  where
    by : (b : Bool) → nat_le (2 ^ 20) (nets net) ≡ b → cond b (Err TooManyNets) (Ok (with_label net text named)) ≡ Ok more → nets net < 2 ^ 20
    by true full e = absurd (cc)
    by false full e = leb-false (2 ^ 20) (nets net) full

module _ (net more : NetList) (inside : IsInside net) where
  became : (made : NetList) → IsInside made → ◌≡◌ {A = Result NetList NetFault} (Ok made) (Ok more) → IsInside more
  became made is e = let same : made ≡ more = cc in let P : NetList → Type 0 = IsInside in subst P same is

  label_inside : (text : Name) → IsNetName text → number_of net text ≡ None → labelled text true net ≡ Ok more → IsInside more
  label_inside text is none made = by (nat_le (2 ^ 20) (nets net)) refl made
    where
      by : (b : Bool) → nat_le (2 ^ 20) (nets net) ≡ b → cond b (Err TooManyNets) (Ok (with_label net text true)) ≡ Ok more → IsInside more
      by true full e = absurd (cc)
      by false full e = became (with_label net text true) (with_named_inside net inside text (leb-false (2 ^ 20) (nets net) full) is none) e

  fresh_inside : (text : Name) → labelled text false net ≡ Ok more → IsInside more
  fresh_inside text made = by (nat_le (2 ^ 20) (nets net)) refl made
    where
      by : (b : Bool) → nat_le (2 ^ 20) (nets net) ≡ b → cond b (Err TooManyNets) (Ok (with_label net text false)) ≡ Ok more → IsInside more
      by true full e = absurd (cc)
      by false full e = became (with_label net text false) (with_fresh_inside net inside text (leb-false (2 ^ 20) (nets net) full)) e

  gate_inside : (gate : GateValue) → GateIsInside (nets net) gate → gated gate net ≡ Ok more → IsInside more
  gate_inside gate is made = by (nat_le (2 ^ 20) (length net.gates + length net.latches)) refl made
    where
      by : (b : Bool) → nat_le (2 ^ 20) (length net.gates + length net.latches) ≡ b → cond b (Err TooManyGates) (Ok (with_gate net gate)) ≡ Ok more → IsInside more
      by true full e = absurd (cc)
      by false full e = became (with_gate net gate) (with_gate_inside net inside gate (leb-false (2 ^ 20) (length net.gates + length net.latches) full) is) e

  latch_inside : (latch : LatchValue) → LatchIsInside (nets net) latch → latched latch net ≡ Ok more → IsInside more
  latch_inside latch is made = by (nat_le (2 ^ 20) (length net.gates + length net.latches)) refl made
    where
      by : (b : Bool) → nat_le (2 ^ 20) (length net.gates + length net.latches) ≡ b → cond b (Err TooManyGates) (Ok (with_latch net latch)) ≡ Ok more → IsInside more
      by true full e = absurd (cc)
      by false full e = became (with_latch net latch) (with_latch_inside net inside latch (leb-false (2 ^ 20) (length net.gates + length net.latches) full) is) e

-- ---- the nets of inputs, latches and ANDs

-- the first n nets were made
record AreMade (reading : Reading) (n : ℕ) (net : NetList) : Type 0 where
  inside : IsInside net
  count : nets net ≡ n
  awaits : AwaitsPort reading (next_port reading n) net

module _ (reading : Reading) (is : IsNameable reading) where
  -- an input or a latch
  port_inside : (n : ℕ) (net more : NetList) → AreMade reading n net → n < driven reading.header → labelled (port_name reading n) true net ≡ Ok more → IsInside more
  port_inside n net more are less made =
      let room = labelled_room (port_name reading n) true net more made in
      label_inside net more are.inside (port_name reading n) (port_named reading n is (omega (arith, room, are.count))) (port_is_new reading is.complete net n are.awaits less) made

  variable_inside : (n literal : ℕ) (net more : NetList) → AreMade reading n net → variable_made reading n literal net ≡ Ok more → IsInside more × (nets more ≡ n + 1)
  variable_inside n literal net more are made = by (nat_lt n reading.header.inputs) refl (nat_lt n (driven reading.header)) refl made
    where
      one_more : (text : Name) (named : Bool) (m : NetList) → labelled text named net ≡ Ok m → nets m ≡ n + 1
      one_more text named m e = omega (arith, labelled_nets text named net m e, are.count)

      input : n < driven reading.header → (r : Result NetList NetFault) → labelled (port_name reading n) true net ≡ r → (r >>= (λ m. Ok (record m { inputs = m.inputs ++ n ∷ [] }))) ≡ Ok more → IsInside more × (nets more ≡ n + 1)
      input less (Ok m) e f =
          let same : record m { inputs = m.inputs ++ n ∷ [] } ≡ more = cc in
          let count = one_more (port_name reading n) true m e in
          let P : NetList → Type 0 = λ x. IsInside x × (nets x ≡ n + 1) in
          subst P same (with_input_inside m (port_inside n net m are less e) n (omega (arith, count)), count)
      input less (Err fault) e f = absurd (cc)

      by : (a : Bool) → nat_lt n reading.header.inputs ≡ a → (b : Bool) → nat_lt n (driven reading.header) ≡ b → cond a (labelled (port_name reading n) true net >>= (λ m. Ok (record m { inputs = m.inputs ++ n ∷ [] }))) (cond b (labelled (port_name reading n) true net) (labelled (decimal literal) false net)) ≡ Ok more → IsInside more × (nets more ≡ n + 1)
      by true e b f h = let less = ltb-true n reading.header.inputs e in input (omega (arith, less)) (labelled (port_name reading n) true net) refl h
      by false e true f h = (port_inside n net more are (ltb-true n (driven reading.header) f) h, one_more (port_name reading n) true more h)
      by false e false f h = (fresh_inside net more are.inside (decimal literal) h, one_more (decimal literal) false more h)

  variables_inside : (literals : List ℕ) (n : ℕ) (net more : NetList) → AreMade reading n net → variables_made reading n literals net ≡ Ok more → (m : ℕ) × (m ≡ n + length literals) × AreMade reading m more
  variables_inside [] n net more are made =
      let same : net ≡ more = cc in
      let P : NetList → Type 0 = AreMade reading n in
      (n, omega arith, subst P same are)
  variables_inside (literal ∷ literals) n net more are made =
      let (next, one, rest) = split_ok (variable_made reading n literal net) (λ m. variables_made reading (n + 1) literals m) more made in
      let here = variable_inside n literal net next are one in
      let there = variables_inside literals (n + 1) next more (record { inside = here.0; count = here.1; awaits = awaits_variable reading is.complete net n literal next one are.awaits }) rest in
      (there.0, omega (arith, there.1), there.2)

-- ---- gates, latches and outputs

-- there is a net for each defined literal
record IsFit (reading : Reading) (net : NetList) : Type 0 where
  inside : IsInside net
  long : length reading.defined ≤ nets net

-- tables of literals and of their conjunctions fit
literal_fits : (reading : Reading) (literal : ℕ) → (length (inputs_of reading literal) ≤ 6) × (table_of literal < 2 ^ (2 ^ length (inputs_of reading literal)))
literal_fits reading literal = by (nat_lt literal 2) refl (literal % 2 == 0)
  where
    v : ℕ
    v = variable_net reading literal

    by : (a : Bool) → nat_lt literal 2 ≡ a → (b : Bool) → (length (cond a [] (variable_net reading literal ∷ [])) ≤ 6) × (cond a literal (cond b 2 1) < 2 ^ (2 ^ length (cond a [] (variable_net reading literal ∷ []))))
    by true e b = (omega arith, ltb-true literal 2 e)
    by false e true = (omega arith, omega arith)
    by false e false = (omega arith, omega arith)

and_fits : (reading : Reading) (left right : ℕ) → (length (inputs_of reading left ++ inputs_of reading right) ≤ 6) × (and_table left right < 2 ^ (2 ^ length (inputs_of reading left ++ inputs_of reading right)))
and_fits reading left right = by (nat_lt left 2) refl (nat_lt right 2) refl (left == 0) (right == 0) (left % 2 == 0) (right % 2 == 0)
  where
    by : (a : Bool) → nat_lt left 2 ≡ a → (b : Bool) → nat_lt right 2 ≡ b → (c d e f : Bool) → (length (cond a [] (variable_net reading left ∷ []) ++ cond b [] (variable_net reading right ∷ [])) ≤ 6) × (cond a (cond c 0 (cond b right (cond f 2 1))) (cond b (cond d 0 (cond a left (cond e 2 1))) (cond f (cond e 8 4) (cond e 2 1))) < 2 ^ (2 ^ length (cond a [] (variable_net reading left ∷ []) ++ cond b [] (variable_net reading right ∷ []))))
    by true l true r true d e f = (omega arith, omega arith)
    by true l true r false d e f = (omega arith, ltb-true right 2 r)
    by true l false r true d e f = (omega arith, omega arith)
    by true l false r false d e true = (omega arith, omega arith)
    by true l false r false d e false = (omega arith, omega arith)
    by false l true r c true e f = (omega arith, omega arith)
    by false l true r c false true f = (omega arith, omega arith)
    by false l true r c false false f = (omega arith, omega arith)
    by false l false r c d true true = (omega arith, omega arith)
    by false l false r c d true false = (omega arith, omega arith)
    by false l false r c d false true = (omega arith, omega arith)
    by false l false r c d false false = (omega arith, omega arith)

module _ (reading : Reading) where
  -- a net that was found is one of those
  found_below : (net : NetList) (literal n : ℕ) → IsFit reading net → net_of reading literal ≡ Some n → n < nets net
  found_below net literal n fit at = let less = position_below (nat_eq literal) reading.defined n at in omega (arith, less, fit.long)

  variable_below : (net : NetList) (literal : ℕ) → IsFit reading net → 1 ≤ nets net → variable_net reading literal < nets net
  variable_below net literal fit some = by (net_of reading (even literal)) refl
    where
      by : (found : Option ℕ) → net_of reading (even literal) ≡ found → unwrap_or found 0 < nets net
      by None at = omega (arith, some)
      by (Some n) at = found_below net (even literal) n fit at

  inputs_below : (net : NetList) (literal : ℕ) → IsFit reading net → 1 ≤ nets net → All (λ n. n < nets net) (inputs_of reading literal)
  inputs_below net literal fit some = by (nat_lt literal 2)
    where
      by : (b : Bool) → All (λ n. n < nets net) (cond b [] (variable_net reading literal ∷ []))
      by true = λ k d less. absurd (omega (arith, less))
      by false = All-cons (λ n. n < nets net) (variable_net reading literal) [] (variable_below net literal fit some) (λ k d less. absurd (omega (arith, less)))

  literal_inside : (net : NetList) (out literal : ℕ) → IsFit reading net → out < nets net → GateIsInside (nets net) (literal_gate reading out literal)
  literal_inside net out literal fit less =
      let fits = literal_fits reading literal in
      (less, inputs_below net literal fit (omega (arith, less)), fits.0, fits.1)

  conjunction_inside : (net : NetList) (out : ℕ) (line : AndLine) → IsFit reading net → out < nets net → GateIsInside (nets net) (and_gate reading out line)
  conjunction_inside net out line fit less =
      let fits = and_fits reading line.left line.right in
      let some : 1 ≤ nets net = omega (arith, less) in
      (less, All-append (λ n. n < nets net) (inputs_of reading line.left) (inputs_of reading line.right) (inputs_below net line.left fit some) (inputs_below net line.right fit some), fits.0, fits.1)

  gate_fit : (gate : GateValue) (net more : NetList) → IsFit reading net → GateIsInside (nets net) gate → gated gate net ≡ Ok more → IsFit reading more
  gate_fit gate net more fit is made =
      record { inside = gate_inside net more fit.inside gate is made; long = omega (arith, fit.long, ap length (gated_labels gate net more made)) }

  latch_fit : (latch : LatchValue) (net more : NetList) → IsFit reading net → LatchIsInside (nets net) latch → latched latch net ≡ Ok more → IsFit reading more
  latch_fit latch net more fit is made =
      record { inside = latch_inside net more fit.inside latch is made; long = omega (arith, fit.long, ap nets (latched_is latch net more made)) }

  same_fit : (net more : NetList) → IsFit reading net → ◌≡◌ {A = Result NetList NetFault} (Ok net) (Ok more) → IsFit reading more
  same_fit net more fit e = let same : net ≡ more = cc in let P : NetList → Type 0 = IsFit reading in subst P same fit

  one_and : (found : Option ℕ) (line : AndLine) (net more : NetList) → IsFit reading net → net_of reading line.literal ≡ found → and_made reading found line net ≡ Ok more → IsFit reading more
  one_and None line net more fit at made = same_fit net more fit made
  one_and (Some out) line net more fit at made = gate_fit (and_gate reading out line) net more fit (conjunction_inside net out line fit (found_below net line.literal out fit at)) made

  all_ands : (lines : List AndLine) (net more : NetList) → IsFit reading net → ands_made reading lines net ≡ Ok more → IsFit reading more
  all_ands [] net more fit made = same_fit net more fit made
  all_ands (line ∷ lines) net more fit made =
      let (next, one, rest) = split_ok (and_made reading (net_of reading line.literal) line net) (λ m. ands_made reading lines m) more made in
      all_ands lines next more (one_and (net_of reading line.literal) line net next fit refl one) rest

  -- a fresh net with the value of a literal
  literal_fit : (net mid more : NetList) (literal : ℕ) → IsFit reading net → IsInside mid → nets mid ≡ nets net + 1 → gated (literal_gate reading (nets net) literal) mid ≡ Ok more → IsFit reading more
  literal_fit net mid more literal fit inside longer made =
      let there : IsFit reading mid = record { inside = inside; long = omega (arith, fit.long, longer) } in
      gate_fit (literal_gate reading (nets net) literal) mid more there (literal_inside mid (nets net) literal there (omega (arith, longer))) made

  fresh_fit : (out : ℕ) (latch : LatchLine) (net more : NetList) → IsFit reading net → out < nets net → fresh_latch reading out latch net ≡ Ok more → IsFit reading more
  fresh_fit out latch net more fit less made =
      let (first, one, rest) = split_ok (labelled (decimal latch.next) false net) (λ m. gated (literal_gate reading (nets net) latch.next) m >>= (λ with. latched (latch_on (nets net) out latch) with)) more made in
      let (second, two, last) = split_ok (gated (literal_gate reading (nets net) latch.next) first) (λ with. latched (latch_on (nets net) out latch) with) more rest in
      let longer = labelled_nets (decimal latch.next) false net first one in
      let fits = literal_fit net first second latch.next fit (fresh_inside net first fit.inside (decimal latch.next) one) longer two in
      let same : nets second ≡ nets first = ap length (gated_labels (literal_gate reading (nets net) latch.next) first second two) in
      latch_fit (latch_on (nets net) out latch) second more fits (omega (arith, longer, same), omega (arith, less, longer, same)) last

  one_latch : (found : Option ℕ) (latch : LatchLine) (net more : NetList) → IsFit reading net → net_of reading latch.literal ≡ found → latch_made reading found latch net ≡ Ok more → IsFit reading more
  one_latch None latch net more fit at made = same_fit net more fit made
  one_latch (Some out) latch net more fit at made = by (is_plain latch.next) made
    where
      less : out < nets net
      less = found_below net latch.literal out fit at

      by : (b : Bool) → cond b (latched (latch_on (variable_net reading latch.next) out latch) net) (fresh_latch reading out latch net) ≡ Ok more → IsFit reading more
      by true e = latch_fit (latch_on (variable_net reading latch.next) out latch) net more fit (variable_below net latch.next fit (omega (arith, less)), less) e
      by false e = fresh_fit out latch net more fit less e

  all_latches : (lines : List LatchLine) (net more : NetList) → IsFit reading net → latches_made reading lines net ≡ Ok more → IsFit reading more
  all_latches [] net more fit made = same_fit net more fit made
  all_latches (latch ∷ lines) net more fit made =
      let (next, one, rest) = split_ok (latch_made reading (net_of reading latch.literal) latch net) (λ m. latches_made reading lines m) more made in
      all_latches lines next more (one_latch (net_of reading latch.literal) latch net next fit refl one) rest

  module _ (is : IsNameable reading) where
    one_output : (port literal : ℕ) (rest : List ℕ) (net more : NetList) → port < 2 ^ 64 → Awaits reading port (literal ∷ rest) net → IsFit reading net → (found : Option ℕ) → own reading port literal ≡ found → output_made reading port literal found net ≡ Ok more → IsFit reading more
    one_output port literal rest net more small awaits fit (Some n) at made =
        let less = found_below net literal n fit (own_is reading port literal n at) in
        same_fit (with_output n net) more (record { inside = with_output_inside net fit.inside n less; long = fit.long }) made
    one_output port literal rest net more small awaits fit None at made =
        let (first, one, later) = split_ok (labelled (port_name reading port) true net) (λ m. gated (literal_gate reading (nets net) literal) m >>= (λ with. Ok (with_output (nets net) with))) more made in
        let (second, two, last) = split_ok (gated (literal_gate reading (nets net) literal) first) (λ with. Ok (with_output (nets net) with)) more later in
        let longer = labelled_nets (port_name reading port) true net first one in
        let inside = label_inside net first fit.inside (port_name reading port) (port_named reading port is small) (name_is_new reading port literal rest net awaits at) one in
        let fits = literal_fit net first second literal fit inside longer two in
        let same : nets second ≡ nets first = ap length (gated_labels (literal_gate reading (nets net) literal) first second two) in
        same_fit (with_output (nets net) second) more (record { inside = with_output_inside second fits.inside (nets net) (omega (arith, longer, same)); long = fits.long }) last

    all_outputs : (literals : List ℕ) (port : ℕ) (net more : NetList) → port + length literals < 2 ^ 64 → Awaits reading port literals net → IsFit reading net → outputs_made reading port literals net ≡ Ok more → IsFit reading more
    all_outputs [] port net more small awaits fit made = same_fit net more fit made
    all_outputs (literal ∷ literals) port net more small awaits fit made =
        let (next, one, rest) = split_ok (output_made reading port literal (own reading port literal) net) (λ m. outputs_made reading (port + 1) literals m) more made in
        all_outputs literals (port + 1) next more (omega (arith, small)) (output_awaits reading port literal literals net next awaits one)
        (one_output port literal literals net next (omega (arith, small)) awaits fit (own reading port literal) refl one) rest

    pub net_inside : (net : NetList) → apart reading 0 [] reading.ports ≡ Ok tt → net_made reading ≡ Ok net → IsInside net
    net_inside net are_apart made =
        let first : ℕ = driven reading.header in
        let left : List ℕ = drop (driven reading.header) reading.ports in
        let (variables, one, rest) = split_ok (variables_made reading 0 reading.defined empty) (λ v. ands_made reading reading.ands v >>= (λ a. latches_made reading reading.latches a >>= (λ l. outputs_made reading (driven reading.header) (drop (driven reading.header) reading.ports) l))) net made in
        let (ands, two, rest') = split_ok (ands_made reading reading.ands variables) (λ a. latches_made reading reading.latches a >>= (λ l. outputs_made reading (driven reading.header) (drop (driven reading.header) reading.ports) l)) net rest in
        let (latches, three, four) = split_ok (latches_made reading reading.latches ands) (λ l. outputs_made reading (driven reading.header) (drop (driven reading.header) reading.ports) l) net rest' in
        let begun = variables_inside reading is reading.defined 0 empty variables (record { inside = empty_inside; count = refl; awaits = awaits_start reading are_apart }) one in
        let fit : IsFit reading variables = record { inside = begun.2.inside; long = omega (arith, begun.1, begun.2.count) } in
        let awaits : Awaits reading first left variables = outputs_awaited reading is.complete variables begun.0 begun.2.awaits in
        let after_ands = awaits_kept reading first left variables ands (ands_keep reading reading.ands variables ands two) awaits in
        let after_latches = awaits_kept reading first left ands latches (latches_keep reading reading.latches ands latches three) after_ands in
        let small : first + length left < 2 ^ 64 = omega (arith, length-drop (driven reading.header) reading.ports, ports_long reading is.complete, is.few) in
        (all_outputs left first latches net small after_latches (all_latches reading.latches ands latches (all_ands reading.ands variables ands fit two) three) four).inside
