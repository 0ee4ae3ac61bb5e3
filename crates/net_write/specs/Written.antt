-- The text of a net in BLIF: its statements, a line each. Source: the Berkeley Logic Interchange Format (BLIF), University of California, Berkeley.
use Rattle.std.specs.Prelude.{ℕ, ◌+◌, ◌^◌, ◌==◌, true, List, [], ◌∷◌, ◌++◌, length, map, filter, flat_map, codes}
use Rattle.std.specs.List.{join_with_byte, range_with_len}
use Rattle.std.specs.Int.{bit_at}
use Rattle.net_core.specs.GateValue.{GateValue}
use Rattle.net_core.specs.LatchValue.{LatchValue}
use Rattle.net_core.specs.NetList.{NetList, text_of}
use Rattle.net_core.specs.declared.latch.Start.{Start}
use Rattle.net_core.specs.declared.latch.Start.TheVariants.{Zero, One, Unknown}
use Rattle.net_blif.specs.Statement.{Token, spelled}
use Rattle.net_blif.specs.declared.statement.Statement.{Statement}
use Rattle.net_blif.specs.declared.statement.Statement.TheVariants.{Model, Inputs, Outputs, Cover, Latch, Row, End}

-- the fields of a line, with one space between each two, and the line's end
abbrev pub line_text : List Token → List ℕ
line_text fields = join_with_byte 32 fields ++ 10 ∷ []

-- a line for each statement
abbrev pub text_with : List Statement → List ℕ
text_with statements = flat_map (λ s. line_text (spelled s)) statements

abbrev pub names_of : NetList → List ℕ → List Token
names_of net nets = map (text_of net) nets

-- no line where there are no inputs
abbrev pub inputs_with : List Token → List Statement
inputs_with [] = []
inputs_with (name ∷ names) = Inputs (name ∷ names) ∷ []

-- 3 says that the start is not known
abbrev pub start_token : Start → Token
start_token Zero = codes "0"
start_token One = codes "1"
start_token Unknown = codes "3"

-- what a latch reads, what it drives, and its start
abbrev pub latch_statement : NetList → LatchValue → Statement
latch_statement net latch = Latch (text_of net latch.next) (text_of net latch.out) (start_token latch.start ∷ [])

-- character i of n is bit i of the index
abbrev pub pattern : ℕ → ℕ → Token
pattern n index = map (λ i. 48 + bit_at index i) (range_with_len 0 n)

-- the indexes below 2^n whose bit of the table is 1, rising
abbrev pub ones : ℕ → ℕ → List ℕ
ones n table = filter (λ index. bit_at table index == 1) (range_with_len 0 (2 ^ n))

-- a row with output 1 for each index whose bit of the table is 1; without inputs the row is the output alone
abbrev pub rows_of : ℕ → ℕ → List Statement
rows_of n table = map (λ index. Row (pattern n index) true) (ones n table)

-- a cover of the gate's nets, and its rows
abbrev pub gate_statements : NetList → GateValue → List Statement
gate_statements net gate = Cover (names_of net gate.inputs) (text_of net gate.out) ∷ rows_of (length gate.inputs) gate.table

-- The model `make`: the inputs, if there are any, the outputs, the latches and the gates, in the net's order.
abbrev pub statements_of : NetList → List Statement
statements_of net =
    Model (codes "make") ∷ (inputs_with (names_of net net.inputs) ++ Outputs (names_of net net.outputs)
    ∷ (map (latch_statement net) net.latches ++ (flat_map (gate_statements net) net.gates ++ End ∷ [])))

-- the text of a net
abbrev pub written : NetList → List ℕ
written net = text_with (statements_of net)
