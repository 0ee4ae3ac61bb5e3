-- The values of outputs, and of what latches read, in consistent lists of bits.
use Rattle.std.proofs.Common.{◌≡◌, ◌∙◌, ap, sym, refl, subst, inl, inr, ◌⊎◌, ℕ, zero, suc, ◌+◌, ◌&&◌, Bool, true, false, cond, List, [], ◌∷◌, ◌++◌, length, drop, Option, None, Some, Ok, arith}
use Rattle.std.specs.Prelude.{nat_lt, slice_get}
use Rattle.std.specs.Fmt.{decimal}
use Rattle.std.specs.Str.{bytes_eq}
use Rattle.std.proofs.lemmas.List.{length_push}
use Rattle.lists.specs.Lists.{Has}
use Rattle.lists.specs.laws.ReadLaws.{get_front, get_here}
use Rattle.net_core.specs.GateValue.{GateValue}
use Rattle.net_core.specs.LatchValue.{LatchValue}
use Rattle.net_core.specs.NetList.{NetList, empty, nets, with_latch as net_with_latch}
use Rattle.net_core.specs.Value.{bit_of}
use Rattle.net_aiger.specs.Checks.{own, own_net}
use Rattle.net_aiger.specs.Nets.{and_made, ands_made, fresh_latch, gated, is_plain, labelled, latch_made, latch_on, latched, latches_made, literal_gate, net_made, output_made, outputs_made, variable_made, variables_made, with_output}
use Rattle.net_aiger.specs.Reading.{Reading, driven, net_of, port_name, variable_net}
use Rattle.net_aiger.specs.Steps.{◌>>=◌}
use Rattle.net_aiger.specs.Values.{HasLiteralValue, HasNextValues, HasOutputValues}
use Rattle.net_aiger.specs.declared.reading.AndLine.{AndLine}
use Rattle.net_aiger.specs.declared.reading.LatchLine.{LatchLine}
use Rattle.net_aiger.proofs.DriveLemmas.{split_ok}
use Rattle.net_aiger.proofs.MakeLemmas.{gated_is, labelled_is, latched_is}
use Rattle.net_aiger.proofs.LiteralLemmas.{defined_value, gate_value, plain_value}
use Rattle.net_aiger.proofs.PlainLemmas.{ArePlain}
use Rattle.net_aiger.proofs.ValueLemmas.{KeepsGates, keep_latches, keep_outputs}

-- ---- outputs

-- what makes a net the output of a literal: it is the literal's own, or has a gate of it
abbrev pub Carries : Reading → List GateValue → ℕ → ℕ → Type 0
Carries reading gates n literal = (net_of reading literal ≡ Some n) ⊎ Has gates (literal_gate reading n literal)

module _ (reading : Reading) where
  pub own_is : (port literal n : ℕ) → own reading port literal ≡ Some n → net_of reading literal ≡ Some n
  own_is port literal n is = by (nat_lt port (driven reading.header)) is
    where
      third : (b : Bool) (m : ℕ) → cond b (Some m) None ≡ Some n → ◌≡◌ {A = Option ℕ} (Some m) (Some n)
      third true m e = e
      third false m e = absurd (cc)

      second : (found : Option ℕ) → own_net reading port found ≡ Some n → found ≡ Some n
      second None e = absurd (cc)
      second (Some m) e = third (nat_lt m (driven reading.header) && bytes_eq (port_name reading port) (port_name reading m)) m e

      by : (b : Bool) → cond b None (own_net reading port (net_of reading literal)) ≡ Some n → net_of reading literal ≡ Some n
      by true e = absurd (cc)
      by false e = second (net_of reading literal) e

  -- one more output, at the end
  output_made_is : (port literal : ℕ) (net more : NetList) → output_made reading port literal (own reading port literal) net ≡ Ok more → (n : ℕ) × (more.outputs ≡ net.outputs ++ n ∷ []) × (more.latches ≡ net.latches) × Carries reading more.gates n literal
  output_made_is port literal net more made = by (own reading port literal) refl made
    where
      by : (found : Option ℕ) → own reading port literal ≡ found → output_made reading port literal found net ≡ Ok more → (n : ℕ) × (more.outputs ≡ net.outputs ++ n ∷ []) × (more.latches ≡ net.latches) × Carries reading more.gates n literal
      by (Some n) is e =
          let same : with_output n net ≡ more = cc in
          (n, ap (λ (x : NetList). x.outputs) (sym same), ap (λ (x : NetList). x.latches) (sym same), inl (own_is port literal n is))
      by None is e =
          let (first, one, later) = split_ok (labelled (port_name reading port) true net) (λ m. gated (literal_gate reading (nets net) literal) m >>= (λ with. Ok (with_output (nets net) with))) more e in
          let (second, two, last) = split_ok (gated (literal_gate reading (nets net) literal) first) (λ with. Ok (with_output (nets net) with)) more later in
          let same : with_output (nets net) second ≡ more = cc in
          let first_is = labelled_is (port_name reading port) true net first one in
          let second_is = gated_is (literal_gate reading (nets net) literal) first second two in
          let outputs : second.outputs ≡ net.outputs = ap (λ (x : NetList). x.outputs) second_is ∙ ap (λ (x : NetList). x.outputs) first_is in
          let latches : second.latches ≡ net.latches = ap (λ (x : NetList). x.latches) second_is ∙ ap (λ (x : NetList). x.latches) first_is in
          let gates : more.gates ≡ first.gates ++ literal_gate reading (nets net) literal ∷ [] = ap (λ (x : NetList). x.gates) (sym same) ∙ ap (λ (x : NetList). x.gates) second_is in
          let P : List GateValue → Type 0 = λ gs. Has gs (literal_gate reading (nets net) literal) in (
            nets net,
            ap (λ (x : NetList). x.outputs) (sym same) ∙ ap (λ (ns : List ℕ). ns ++ nets net ∷ []) outputs,
            ap (λ (x : NetList). x.latches) (sym same) ∙ latches,
            inr (subst P (sym gates) (length first.gates, get_here first.gates (literal_gate reading (nets net) literal) [])),
          )

  -- what is made keeps the outputs before it
  outputs_front : (port : ℕ) (literals : List ℕ) (net more : NetList) → outputs_made reading port literals net ≡ Ok more → (k n : ℕ) → slice_get net.outputs k ≡ Some n → slice_get more.outputs k ≡ Some n
  outputs_front port [] net more made k n got = let same : net ≡ more = cc in subst (λ (x : NetList). slice_get x.outputs k ≡ Some n) same got
  outputs_front port (literal ∷ literals) net more made k n got =
      let (next, one, rest) = split_ok (output_made reading port literal (own reading port literal) net) (λ m. outputs_made reading (port + 1) literals m) more made in
      let fact = output_made_is port literal net next one in
      outputs_front (port + 1) literals next more rest k n (subst (λ (ns : List ℕ). slice_get ns k ≡ Some n) (sym fact.1) (get_front net.outputs (fact.0 ∷ []) k n got))

  carries_more : (gates more : List GateValue) (n literal : ℕ) → ((g : GateValue) → Has gates g → Has more g) → Carries reading gates n literal → Carries reading more n literal
  carries_more gates more n literal keeps (inl is) = inl is
  carries_more gates more n literal keeps (inr has) = inr (keeps (literal_gate reading n literal) has)

  -- the outputs that are made, behind those that were there
  outputs_at : (port : ℕ) (literals : List ℕ) (net more : NetList) → outputs_made reading port literals net ≡ Ok more → (i literal : ℕ) → slice_get literals i ≡ Some literal → (n : ℕ) × (slice_get more.outputs (length net.outputs + i) ≡ Some n) × Carries reading more.gates n literal
  outputs_at port [] net more made i literal got = absurd (cc)
  outputs_at port (l ∷ ls) net more made zero literal got =
      let (next, one, rest) = split_ok (output_made reading port l (own reading port l) net) (λ m. outputs_made reading (port + 1) ls m) more made in
      let fact = output_made_is port l net next one in
      let same : l ≡ literal = cc in
      let here : slice_get next.outputs (length net.outputs) ≡ Some fact.0 = subst (λ (ns : List ℕ). slice_get ns (length net.outputs) ≡ Some fact.0) (sym fact.1) (get_here net.outputs fact.0 []) in
      let place : length net.outputs ≡ length net.outputs + 0 = omega arith in (
        fact.0,
        subst (λ (k : ℕ). slice_get more.outputs k ≡ Some fact.0) place (outputs_front (port + 1) ls next more rest (length net.outputs) fact.0 here),
        subst (λ (x : ℕ). Carries reading more.gates fact.0 x) same (carries_more next.gates more.gates fact.0 l (keep_outputs reading (port + 1) ls next more rest) fact.3),
      )
  outputs_at port (l ∷ ls) net more made (suc i) literal got =
      let (next, one, rest) = split_ok (output_made reading port l (own reading port l) net) (λ m. outputs_made reading (port + 1) ls m) more made in
      let fact = output_made_is port l net next one in
      let longer : length next.outputs ≡ length net.outputs + 1 = ap length fact.1 ∙ length_push net.outputs fact.0 in
      let place : length next.outputs + i ≡ length net.outputs + suc i = omega arith in
      let found = outputs_at (port + 1) ls next more rest i literal got in
      (found.0, subst (λ (k : ℕ). slice_get more.outputs k ≡ Some found.0) place found.1, found.2)

  outputs_keep_latches : (port : ℕ) (literals : List ℕ) (net more : NetList) → outputs_made reading port literals net ≡ Ok more → more.latches ≡ net.latches
  outputs_keep_latches port [] net more made = let same : net ≡ more = cc in ap (λ (x : NetList). x.latches) (sym same)
  outputs_keep_latches port (literal ∷ literals) net more made =
      let (next, one, rest) = split_ok (output_made reading port literal (own reading port literal) net) (λ m. outputs_made reading (port + 1) literals m) more made in
      outputs_keep_latches (port + 1) literals next more rest ∙ (output_made_is port literal net next one).2

  -- ---- no outputs before

  variable_no_output : (n literal : ℕ) (net more : NetList) → variable_made reading n literal net ≡ Ok more → more.outputs ≡ net.outputs
  variable_no_output n literal net more made = by (nat_lt n reading.header.inputs) (nat_lt n (driven reading.header)) made
    where
      by : (a b : Bool) → cond a (labelled (port_name reading n) true net >>= (λ m. Ok (record m { inputs = m.inputs ++ n ∷ [] }))) (cond b (labelled (port_name reading n) true net) (labelled (decimal literal) false net)) ≡ Ok more → more.outputs ≡ net.outputs
      by true b e =
          let (first, one, rest) = split_ok (labelled (port_name reading n) true net) (λ m. Ok (record m { inputs = m.inputs ++ n ∷ [] })) more e in
          let same : record first { inputs = first.inputs ++ n ∷ [] } ≡ more = cc in
          ap (λ (x : NetList). x.outputs) (sym same) ∙ ap (λ (x : NetList). x.outputs) (labelled_is (port_name reading n) true net first one)
      by false true e = ap (λ (x : NetList). x.outputs) (labelled_is (port_name reading n) true net more e)
      by false false e = ap (λ (x : NetList). x.outputs) (labelled_is (decimal literal) false net more e)

  variables_no_output : (n : ℕ) (literals : List ℕ) (net more : NetList) → variables_made reading n literals net ≡ Ok more → more.outputs ≡ net.outputs
  variables_no_output n [] net more made = let same : net ≡ more = cc in ap (λ (x : NetList). x.outputs) (sym same)
  variables_no_output n (literal ∷ literals) net more made =
      let (next, one, rest) = split_ok (variable_made reading n literal net) (λ m. variables_made reading (n + 1) literals m) more made in
      variables_no_output (n + 1) literals next more rest ∙ variable_no_output n literal net next one

  and_no_output : (found : Option ℕ) (line : AndLine) (net more : NetList) → and_made reading found line net ≡ Ok more → more.outputs ≡ net.outputs
  and_no_output None line net more made = let same : net ≡ more = cc in ap (λ (x : NetList). x.outputs) (sym same)
  and_no_output (Some out) line net more made = ap (λ (x : NetList). x.outputs) (gated_is _ net more made)

  ands_no_output : (lines : List AndLine) (net more : NetList) → ands_made reading lines net ≡ Ok more → more.outputs ≡ net.outputs
  ands_no_output [] net more made = let same : net ≡ more = cc in ap (λ (x : NetList). x.outputs) (sym same)
  ands_no_output (line ∷ lines) net more made =
      let (next, one, rest) = split_ok (and_made reading (net_of reading line.literal) line net) (λ m. ands_made reading lines m) more made in
      ands_no_output lines next more rest ∙ and_no_output (net_of reading line.literal) line net next one

  -- ---- latches

  -- what makes a net carry what a latch reads
  abbrev pub Reads : NetList → ℕ → LatchLine → Type 0
  Reads net n line = (latch : LatchValue) × Has net.latches latch × (latch.out ≡ n) × (latch.start ≡ line.start) × (((is_plain line.next ≡ true) × (latch.next ≡ variable_net reading line.next)) ⊎ Has net.gates (literal_gate reading latch.next line.next))

  -- one more latch, at the end; and no output
  latch_made_is : (out : ℕ) (line : LatchLine) (net more : NetList) → latch_made reading (Some out) line net ≡ Ok more → Reads more out line × ((n : ℕ) × (more.latches ≡ net.latches ++ latch_on n out line ∷ [])) × (more.outputs ≡ net.outputs)
  latch_made_is out line net more made = by (is_plain line.next) refl made
    where
      last : (latch : LatchValue) (before : NetList) → more ≡ net_with_latch before latch → Has more.latches latch
      last latch before is = subst (λ (x : NetList). Has x.latches latch) (sym is) (length before.latches, get_here before.latches latch [])

      by : (b : Bool) → is_plain line.next ≡ b → cond b (latched (latch_on (variable_net reading line.next) out line) net) (fresh_latch reading out line net) ≡ Ok more → Reads more out line × ((n : ℕ) × (more.latches ≡ net.latches ++ latch_on n out line ∷ [])) × (more.outputs ≡ net.outputs)
      by true plain e =
          let latch = latch_on (variable_net reading line.next) out line in
          let is = latched_is latch net more e in
          ((latch, last latch net is, refl, refl, inl (plain, refl)), (variable_net reading line.next, ap (λ (x : NetList). x.latches) is), ap (λ (x : NetList). x.outputs) is)
      by false plain e =
          let latch = latch_on (nets net) out line in
          let gate = literal_gate reading (nets net) line.next in
          let (first, one, later) = split_ok (labelled (decimal line.next) false net) (λ m. gated (literal_gate reading (nets net) line.next) m >>= (λ with. latched (latch_on (nets net) out line) with)) more e in
          let (second, two, three) = split_ok (gated (literal_gate reading (nets net) line.next) first) (λ with. latched (latch_on (nets net) out line) with) more later in
          let first_is = labelled_is (decimal line.next) false net first one in
          let second_is = gated_is gate first second two in
          let is = latched_is latch second more three in
          let gates : more.gates ≡ first.gates ++ gate ∷ [] = ap (λ (x : NetList). x.gates) is ∙ ap (λ (x : NetList). x.gates) second_is in
          let latches : second.latches ≡ net.latches = ap (λ (x : NetList). x.latches) second_is ∙ ap (λ (x : NetList). x.latches) first_is in
          let outputs : second.outputs ≡ net.outputs = ap (λ (x : NetList). x.outputs) second_is ∙ ap (λ (x : NetList). x.outputs) first_is in
          let P : List GateValue → Type 0 = λ gs. Has gs gate in
          let has : Has more.gates gate = subst P (sym gates) (length first.gates, get_here first.gates gate []) in (
            (latch, last latch second is, refl, refl, inr has),
            (nets net, ap (λ (x : NetList). x.latches) is ∙ ap (λ (ls : List LatchValue). ls ++ latch ∷ []) latches),
            ap (λ (x : NetList). x.outputs) is ∙ outputs,
          )

  latch_no_output : (found : Option ℕ) (line : LatchLine) (net more : NetList) → latch_made reading found line net ≡ Ok more → more.outputs ≡ net.outputs
  latch_no_output None line net more made = let same : net ≡ more = cc in ap (λ (x : NetList). x.outputs) (sym same)
  latch_no_output (Some out) line net more made = (latch_made_is out line net more made).2

  latch_keeps : (found : Option ℕ) (line : LatchLine) (net more : NetList) → latch_made reading found line net ≡ Ok more → (latch : LatchValue) → Has net.latches latch → Has more.latches latch
  latch_keeps None line net more made latch has = let same : net ≡ more = cc in subst (λ (x : NetList). Has x.latches latch) same has
  latch_keeps (Some out) line net more made latch has =
      let grown = (latch_made_is out line net more made).1 in
      subst (λ (ls : List LatchValue). Has ls latch) (sym grown.1) (has.0, get_front net.latches (latch_on grown.0 out line ∷ []) has.0 latch has.1)

  latches_no_output : (lines : List LatchLine) (net more : NetList) → latches_made reading lines net ≡ Ok more → more.outputs ≡ net.outputs
  latches_no_output [] net more made = let same : net ≡ more = cc in ap (λ (x : NetList). x.outputs) (sym same)
  latches_no_output (line ∷ lines) net more made =
      let (next, one, rest) = split_ok (latch_made reading (net_of reading line.literal) line net) (λ m. latches_made reading lines m) more made in
      latches_no_output lines next more rest ∙ latch_no_output (net_of reading line.literal) line net next one

  latches_keep : (lines : List LatchLine) (net more : NetList) → latches_made reading lines net ≡ Ok more → (latch : LatchValue) → Has net.latches latch → Has more.latches latch
  latches_keep [] net more made latch has = let same : net ≡ more = cc in subst (λ (x : NetList). Has x.latches latch) same has
  latches_keep (line ∷ lines) net more made latch has =
      let (next, one, rest) = split_ok (latch_made reading (net_of reading line.literal) line net) (λ m. latches_made reading lines m) more made in
      latches_keep lines next more rest latch (latch_keeps (net_of reading line.literal) line net next one latch has)

  reads_more : (net more : NetList) (n : ℕ) (line : LatchLine) → KeepsGates net more → ((latch : LatchValue) → Has net.latches latch → Has more.latches latch) → Reads net n line → Reads more n line
  reads_more net more n line gates latches (latch, has, out, begin, inl plain) = (latch, latches latch has, out, begin, inl plain)
  reads_more net more n line gates latches (latch, has, out, begin, inr gate) = (latch, latches latch has, out, begin, inr (gates (literal_gate reading latch.next line.next) gate))

  -- the latch of each line is there
  latches_at : (lines : List LatchLine) (net more : NetList) (line : LatchLine) (n : ℕ) → latches_made reading lines net ≡ Ok more → Has lines line → net_of reading line.literal ≡ Some n → Reads more n line
  latches_at [] net more line n made (k, at) is = absurd (cc)
  latches_at (first ∷ lines) net more line n made has is =
      let (next, one, rest) = split_ok (latch_made reading (net_of reading first.literal) first net) (λ m. latches_made reading lines m) more made in
      by next one rest (λ later. latches_at lines next more line n rest later is) has
    where
      by : (next : NetList) → latch_made reading (net_of reading first.literal) first net ≡ Ok next → latches_made reading lines next ≡ Ok more → (Has lines line → Reads more n line) → Has (first ∷ lines) line → Reads more n line
      by next one rest further (zero, at) =
          let same : first ≡ line = cc in
          let P : LatchLine → Type 0 = λ l. latch_made reading (net_of reading l.literal) l net ≡ Ok next in
          let here : latch_made reading (Some n) line net ≡ Ok next = rw is at (subst P same one) in
          reads_more next more n line (keep_latches reading lines next more rest) (latches_keep lines next more rest) (latch_made_is n line net next here).0
      by next one rest further (suc k, at) = further (k, at)

-- ---- the whole

-- what carries a literal has its value
carried_value : (reading : Reading) (net : NetList) (n literal : ℕ) → ArePlain reading.defined → Carries reading net.gates n literal → HasLiteralValue reading net n literal
carried_value reading net n literal plain (inl is) = defined_value reading net literal n plain is
carried_value reading net n literal plain (inr has) = gate_value reading net n literal has

read_value : (reading : Reading) (net : NetList) (n : ℕ) (line : LatchLine) → Reads reading net n line → (latch : LatchValue) × Has net.latches latch × (latch.out ≡ n) × (latch.start ≡ line.start) × HasLiteralValue reading net latch.next line.next
read_value reading net n line (latch, has, out, begin, inl plain) = (latch, has, out, begin, λ bits consistent. ap (bit_of bits) plain.1 ∙ sym (plain_value reading bits line.next plain.0))
read_value reading net n line (latch, has, out, begin, inr gate) = (latch, has, out, begin, gate_value reading net latch.next line.next gate)

module _ (reading : Reading) (net : NetList) (made : net_made reading ≡ Ok net) where
  stages : (latches : NetList) × (latches.outputs ≡ []) × ((n : ℕ) (line : LatchLine) → Has reading.latches line → net_of reading line.literal ≡ Some n → Reads reading latches n line)
      × (outputs_made reading (driven reading.header) (drop (driven reading.header) reading.ports) latches ≡ Ok net)
  stages =
      let (variables, one, rest) = split_ok (variables_made reading 0 reading.defined empty) (λ v. ands_made reading reading.ands v >>= (λ a. latches_made reading reading.latches a >>= (λ l. outputs_made reading (driven reading.header) (drop (driven reading.header) reading.ports) l))) net made in
      let (ands, two, rest') = split_ok (ands_made reading reading.ands variables) (λ a. latches_made reading reading.latches a >>= (λ l. outputs_made reading (driven reading.header) (drop (driven reading.header) reading.ports) l)) net rest in
      let (latches, three, four) = split_ok (latches_made reading reading.latches ands) (λ l. outputs_made reading (driven reading.header) (drop (driven reading.header) reading.ports) l) net rest' in
      (latches, latches_no_output reading reading.latches ands latches three ∙ (ands_no_output reading reading.ands variables ands two ∙ variables_no_output reading 0 reading.defined empty variables one), (λ n line has is. latches_at reading reading.latches ands latches line n three has is), four)

  pub output_values : ArePlain reading.defined → HasOutputValues reading net
  output_values plain = λ i literal got.
      let found = outputs_at reading (driven reading.header) (drop (driven reading.header) reading.ports) stages.0 net stages.3 i literal got in
      let none : length stages.0.outputs ≡ 0 = ap length stages.1 in
      let place : length stages.0.outputs + i ≡ i = omega (arith, none) in
      (found.0, subst (λ (k : ℕ). slice_get net.outputs k ≡ Some found.0) place found.1, carried_value reading net found.0 literal plain found.2)

  pub next_values : HasNextValues reading net
  next_values = λ line n has is.
      let ports = drop (driven reading.header) reading.ports in
      let same = outputs_keep_latches reading (driven reading.header) ports stages.0 net stages.3 in
      read_value reading net n line (reads_more reading stages.0 net n line (keep_outputs reading (driven reading.header) ports stages.0 net stages.3) (λ latch has'. subst (λ (ls : List LatchValue). Has ls latch) (sym same) has') (stages.2 n line has is))
