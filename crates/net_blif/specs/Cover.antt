-- The table of a cover. Source: the Berkeley Logic Interchange Format (BLIF), University of California, Berkeley.
use Rattle.std.specs.Prelude.{ℕ, zero, suc, ◌+◌, ◌/◌, ◌%◌, ◌^◌, ◌==◌, ◌&&◌, Bool, true, false, not, List, [], ◌∷◌, ◌++◌, Option, None, Some, length, if◌then◌else◌}
use Rattle.std.specs.List.{list_any}
use Rattle.net_blif.specs.Statement.{Token}
use Rattle.net_blif.specs.declared.item.Item.{Item}
use Rattle.net_blif.specs.declared.item.Item.TheVariants.{Gate}

-- a cover: its line, the nets, the output of its rows if it has some, and its rows in order
pub record CoverValue : Type 0 where
  pub line : ℕ
  pub inputs : List Token
  pub out : Token
  pub output : Option Bool
  pub rows : List Token

-- the lowest bit of an index is as a `0`, `1` or `-` asks
abbrev pub cell_fits : ℕ → ℕ → Bool
cell_fits cell index = if cell == 48 then (index % 2) == 0 else (if cell == 49 then (index % 2) == 1 else true)

-- each bit of the index, from the lowest, is as its character asks
abbrev pub fits : Token → ℕ → Bool
fits [] index = true
fits (cell ∷ cells) index = cell_fits cell index && fits cells (index / 2)

abbrev pub fits_some : List Token → ℕ → Bool
fits_some rows index = list_any (λ row. fits row index) rows

-- With output 1 the gate is 1 exactly where a row fits, with output 0 it is 0 exactly there; without a row it is constant 0.
abbrev pub gate_bit : Option Bool → Bool → Bool
gate_bit None fit = false
gate_bit (Some true) fit = fit
gate_bit (Some false) fit = not fit

-- whether the gate is 1 where the values of its inputs are the bits of the index
abbrev pub is_one : CoverValue → ℕ → Bool
is_one cover index = gate_bit cover.output (fits_some cover.rows index)

-- the number whose first n bits these are, and whose others are 0
abbrev pub number_of_bits : (ℕ → Bool) → ℕ → ℕ
number_of_bits bit zero = 0
number_of_bits bit (suc n) = number_of_bits bit n + (if bit n then 2 ^ n else 0)

-- a bit as a number
abbrev pub bit_value : Bool → ℕ
bit_value true = 1
bit_value false = 0

-- a bit for each index of the inputs' values
abbrev pub table_of : CoverValue → ℕ
table_of cover = number_of_bits (is_one cover) (2 ^ length cover.inputs)

-- a cover with all its rows is a gate
abbrev pub gate_of : CoverValue → Item
gate_of cover = Gate cover.line cover.inputs cover.out (table_of cover)

-- a cover before its rows
abbrev pub begun : ℕ → List Token → Token → CoverValue
begun line inputs out = record { line = line; inputs = inputs; out = out; output = None; rows = [] }

-- with one more row
abbrev pub with_row : Token → Bool → CoverValue → CoverValue
with_row pattern output cover = record cover { output = Some output; rows = cover.rows ++ pattern ∷ [] }

-- whether a further row may have this output
abbrev pub agrees : Option Bool → Bool → Bool
agrees None output = true
agrees (Some true) output = output
agrees (Some false) output = not output

-- a row has a character for each input, and all rows of a cover have one output
abbrev pub takes_row : Token → Bool → CoverValue → Bool
takes_row pattern output cover = (length pattern == length cover.inputs) && agrees cover.output output
