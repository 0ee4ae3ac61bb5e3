-- How long the text of a net is.
use Rattle.std.proofs.Common.{◌≡◌, ◌∙◌, ap, refl, ℕ, zero, suc, ◌+◌, ◌*◌, ◌≤◌, ◌^◌, ◌==◌, true, List, [], ◌∷◌, ◌++◌, length, map, codes, arith}
use Rattle.std.specs.Prelude.{flat_map}
use Rattle.std.specs.Int.{bit_at}
use Rattle.std.specs.List.{range_with_len}
use Rattle.std.proofs.Math.Nat.{suc-mul}
use Rattle.std.proofs.lemmas.Grind.{flat_map-append}
use Rattle.std.proofs.lemmas.List.Folds.{flat_map-map}
use Rattle.lists.specs.Lists.{Has}
use Rattle.lists.specs.laws.ListLaws.{filter_few}
use Rattle.net_core.specs.GateValue.{GateValue}
use Rattle.net_core.specs.LatchValue.{LatchValue}
use Rattle.net_core.specs.NetList.{NetList, text_of}
use Rattle.net_core.specs.declared.latch.Start.{Start}
use Rattle.net_core.specs.declared.latch.Start.TheVariants.{Zero, One, Unknown}
use Rattle.net_blif.specs.Statement.{Token, row_tokens, spelled}
use Rattle.net_blif.specs.declared.statement.Statement.{Statement}
use Rattle.net_blif.specs.declared.statement.Statement.TheVariants.{Inputs, Outputs, End, Row}
use Rattle.net_write.specs.Written.{gate_statements, inputs_with, latch_statement, line_text, names_of, ones, pattern, rows_of, start_token, text_with, written}
use Rattle.net_write.specs.private.Fields.{field, fields_of}
use Rattle.net_write.proofs.RowLemmas.{pattern_length}
use Rattle.net_write.proofs.WriteLemmas.{cover_line, join_fields, names_line}
use Rattle.make_nets.proofs.LabelLemmas.{append_long, range_long}

-- ---- texts, one after another

-- those of at most m bytes each
texts_few : {A : Type 0} (f : A → List ℕ) (xs : List A) (m : ℕ) → ((x : A) → Has xs x → length (f x) ≤ m) → length (flat_map f xs) ≤ length xs * m
texts_few f [] m each = omega arith
texts_few f (x ∷ xs) m each = omega (arith, append_long (f x) (flat_map f xs), each x (0, refl), texts_few f xs m (λ y has. each y (suc has.0, has.1)), suc-mul (length xs) m)

statements_long : (first second : List Statement) → length (text_with (first ++ second)) ≡ length (text_with first) + length (text_with second)
statements_long first second = ap (λ (v : List ℕ). length v) (flat_map-append (λ s. line_text (spelled s)) first second) ∙ append_long (text_with first) (text_with second)

-- ---- the rows of a gate

row_few : (cells : List ℕ) → length (line_text (row_tokens cells true)) ≤ length cells + 3
row_few [] = let two : length (line_text (row_tokens [] true)) ≡ 2 = refl in omega (arith, two)
row_few (b ∷ bs) = omega (arith, append_long ((b ∷ bs) ++ (32 ∷ 49 ∷ [])) (10 ∷ []), append_long (b ∷ bs) (32 ∷ 49 ∷ []))

choices_few : (n : ℕ) → n ≤ 2 → 2 ^ n ≤ 4
choices_few zero less = omega arith
choices_few (suc zero) less = omega arith
choices_few (suc (suc zero)) less = omega arith
choices_few (suc (suc (suc n))) less = absurd (omega (arith, less))

rows_few : (n table : ℕ) → n ≤ 2 → length (text_with (rows_of n table)) ≤ 20
rows_few n table few =
    let same : text_with (rows_of n table) ≡ flat_map (λ index. line_text (row_tokens (pattern n index) true)) (ones n table) = flat_map-map (λ s. line_text (spelled s)) (λ index. Row (pattern n index) true) (ones n table) in
    let each = texts_few (λ index. line_text (row_tokens (pattern n index) true)) (ones n table) 5 (λ index has. omega (arith, row_few (pattern n index), pattern_length n index, few)) in
    omega (arith, ap (λ (v : List ℕ). length v) same, each, filter_few (λ index. bit_at table index == 1) (range_with_len 0 (2 ^ n)), range_long 0 (2 ^ n), choices_few n few)

start_one : (start : Start) → length (start_token start) ≡ 1
start_one Zero = refl
start_one One = refl
start_one Unknown = refl

-- ---- a net whose names have at most 136 bytes
module _ (net : NetList) (short : (n : ℕ) → length (text_of net n) ≤ 136) where
  fields_few : (ns : List ℕ) → length (fields_of net ns) ≤ length ns * 137
  fields_few ns = texts_few (λ n. field (text_of net n)) ns 137 (λ n has. omega (arith, short n))

  line_few : (word : Token) (ns : List ℕ) → length (line_text (word ∷ names_of net ns)) ≤ length word + length ns * 137 + 1
  line_few word ns = omega (arith, ap (λ (v : List ℕ). length v) (names_line net word ns), append_long (word ++ fields_of net ns) (10 ∷ []), append_long word (fields_of net ns), fields_few ns)

  -- the lines of a gate
  gate_few : (gate : GateValue) → length gate.inputs ≤ 2 → length (text_with (gate_statements net gate)) ≤ 438
  gate_few gate few =
      let inputs = fields_of net gate.inputs in
      let out = field (text_of net gate.out) in
      let cover = line_text (codes ".names" ∷ (names_of net gate.inputs ++ text_of net gate.out ∷ [])) in
      omega (
        arith,
        append_long cover (text_with (rows_of (length gate.inputs) gate.table)),
        ap (λ (v : List ℕ). length v) (cover_line net (codes ".names") gate.inputs gate.out),
        append_long (codes ".names" ++ inputs ++ out) (10 ∷ []),
        append_long (codes ".names" ++ inputs) out,
        append_long (codes ".names") inputs,
        word,
        fields_few gate.inputs,
        short gate.out,
        few,
        rows_few (length gate.inputs) gate.table few,
      )
    where
      word : length (codes ".names") ≡ 6
      word = refl

  gates_few : (gates : List GateValue) → ((g : GateValue) → Has gates g → length g.inputs ≤ 2) → length (text_with (flat_map (gate_statements net) gates)) ≤ length gates * 438
  gates_few [] each = omega arith
  gates_few (g ∷ gates) each =
      omega (
        arith,
        statements_long (gate_statements net g) (flat_map (gate_statements net) gates),
        gate_few g (each g (0, refl)),
        gates_few gates (λ h has. each h (suc has.0, has.1)),
        suc-mul (length gates) 438,
      )

  -- the line of a latch
  latch_few : (latch : LatchValue) → length (line_text (spelled (latch_statement net latch))) ≤ 283
  latch_few latch =
      let next = field (text_of net latch.next) in
      let out = field (text_of net latch.out) in
      let start = field (start_token latch.start) in
      omega (
        arith,
        append_long (codes ".latch" ++ (next ++ (out ++ (start ++ [])))) (10 ∷ []),
        append_long (codes ".latch") (next ++ (out ++ (start ++ []))),
        append_long next (out ++ (start ++ [])),
        append_long out (start ++ []),
        append_long start [],
        ap (λ (v : List ℕ). length (v ++ 10 ∷ [])) (join_fields (codes ".latch") (text_of net latch.next ∷ text_of net latch.out ∷ start_token latch.start ∷ [])),
        word,
        short latch.next,
        short latch.out,
        start_one latch.start,
      )
    where
      word : length (codes ".latch") ≡ 6
      word = refl

  latches_few : (latches : List LatchValue) → length (text_with (map (latch_statement net) latches)) ≤ length latches * 283
  latches_few latches =
      omega (
        arith,
        ap (λ (v : List ℕ). length v) (flat_map-map (λ s. line_text (spelled s)) (latch_statement net) latches),
        texts_few (λ latch. line_text (spelled (latch_statement net latch))) latches 283 (λ latch has. latch_few latch),
      )

  inputs_few : (ns : List ℕ) → length (text_with (inputs_with (names_of net ns))) ≤ length ns * 137 + 8
  inputs_few [] = omega arith
  inputs_few (n ∷ ns) = omega (arith, append_long (line_text (codes ".inputs" ∷ names_of net (n ∷ ns))) [], line_few (codes ".inputs") (n ∷ ns), word)
    where
      word : length (codes ".inputs") ≡ 7
      word = refl

  -- all lines
  pub text_few : ((g : GateValue) → Has net.gates g → length g.inputs ≤ 2) → length (written net) ≤ 34 + length net.inputs * 137 + length net.outputs * 137 + length net.latches * 283 + length net.gates * 438
  text_few two =
      let inputs = inputs_with (names_of net net.inputs) in
      let latches = map (latch_statement net) net.latches in
      let gates = flat_map (gate_statements net) net.gates in
      let last = latches ++ (gates ++ End ∷ []) in
      omega (
        arith,
        append_long (codes ".model make\n") (text_with (inputs ++ Outputs (names_of net net.outputs) ∷ last)),
        statements_long inputs (Outputs (names_of net net.outputs) ∷ last),
        append_long (line_text (codes ".outputs" ∷ names_of net net.outputs)) (text_with last),
        statements_long latches (gates ++ End ∷ []),
        statements_long gates (End ∷ []),
        model,
        word,
        end,
        inputs_few net.inputs,
        line_few (codes ".outputs") net.outputs,
        latches_few net.latches,
        gates_few net.gates two,
      )
    where
      model : length (codes ".model make\n") ≡ 12
      model = refl

      word : length (codes ".outputs") ≡ 8
      word = refl

      end : length (text_with (End ∷ [])) ≡ 5
      end = refl
