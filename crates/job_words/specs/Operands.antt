-- Operands: words that stand for files and for values. Source: this project's own, docs/COMMANDS.md.
use Rattle.std.specs.Prelude.{◌≡◌, ◌≢◌, ℕ, ◌≤◌, Bool, List, [], All, codes, false, length, nat_eq}
use Rattle.std.specs.List.{starts_with, ends_with}
use Rattle.text_core.specs.Numbers.{IsHex}

-- a word, as its bytes
abbrev pub Word : Type 0
Word = List ℕ

-- no control byte, which would break the line of a fault
abbrev pub HasPlainBytes : Word → Type 0
HasPlainBytes word = All (λ b. (32 ≤ b) × (b ≢ 127)) word

-- a word that is not empty, begins no option, and keeps a fault on one line
pub record IsOperand (word : Word) : Type 0 where
  pub not_empty : word ≢ []
  pub no_option : starts_with nat_eq word (codes "--") ≡ false
  pub plain : HasPlainBytes word

-- a netlist that ends in `.v` is one in structural Verilog, and one that ends in `.aag` in ASCII AIGER; else it is in BLIF
abbrev pub is_verilog : Word → Bool
is_verilog word = ends_with nat_eq word (codes ".v")

abbrev pub is_aiger : Word → Bool
is_aiger word = ends_with nat_eq word (codes ".aag")

-- a netlist that ends in neither
pub record IsBlifName (word : Word) : Type 0 where
  pub no_verilog : is_verilog word ≡ false
  pub no_aiger : is_aiger word ≡ false

-- `0x` and 1 to 32 hexadecimal digits
pub record IsValue (word : Word) : Type 0 where
  pub number : ℕ
  pub hex : IsHex word number
  pub short : length word ≤ 34
