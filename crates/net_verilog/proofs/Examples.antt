-- Small worked examples of the definitions of specs/, which the check computes.
use Rattle.std.proofs.Common.{◌≡◌, List, [], ◌∷◌, ◌++◌, ℕ, true, false, codes, refl}
use Rattle.net_verilog.specs.Tokens.{TokenValue, tokens_of}
use Rattle.std.specs.Prelude.{Some, Ok, Err, decimal}
use Rattle.net_core.specs.NetList.{empty}
use Rattle.net_verilog.specs.Targets.{target_of}
use Rattle.net_verilog.specs.Parts.{identifier, range, taken}
use Rattle.net_verilog.specs.Instances.{gate_table}
use Rattle.net_verilog.specs.declared.gate_kind.GateKind.TheVariants as gates
use Rattle.net_verilog.specs.declared.sign.Sign.TheVariants as signs
use Rattle.net_verilog.specs.Tree.{Net, Group, Not, Binary}
use Rattle.net_verilog.specs.Made.{made}
use Rattle.net_verilog.specs.Declarations.{Declarations, bit_name, undeclared, with_declared}
use Rattle.net_verilog.specs.declared.declared.Direction.TheVariants.{Input}
use Rattle.net_verilog.specs.declared.operator.Driver.TheVariants as drivers
use Rattle.net_verilog.specs.declared.operator.Operator.TheVariants as operators
use Rattle.net_verilog.specs.declared.fault.VerilogFault.TheVariants as faults
use Rattle.net_verilog.specs.declared.kind.Kind.{Kind}
use Rattle.net_verilog.specs.declared.kind.Kind.TheVariants.{Word, Close, Xnor, Tilde, And, Wrong, End}

abbrev token : Kind → List ℕ → ℕ → TokenValue
token kind text line = record { kind = kind; text = text; line = line }

-- `a ~^ b` is three tokens and the end
xnor_is_one : tokens_of (codes "a ~^ b") ≡ token Word (codes "a") 1 ∷ token Xnor (codes "~^") 1 ∷ token Word (codes "b") 1 ∷ token End [] 1 ∷ []
xnor_is_one = refl

-- `~&` is `~` and then `&`
nand_is_two : tokens_of (codes "~&") ≡ token Tilde (codes "~") 1 ∷ token And (codes "&") 1 ∷ token End [] 1 ∷ []
nand_is_two = refl

-- `(*)` does not close itself
attribute_is_open : tokens_of (codes "(*)") ≡ token Wrong (codes "(") 1 ∷ token Wrong (codes "*") 1 ∷ token Close (codes ")") 1 ∷ token End [] 1 ∷ []
attribute_is_open = refl

-- a comment with an LF moves the line on, and a backquote after it is still the first of its line
directive_is_skipped : tokens_of (codes "/*" ++ 10 ∷ (codes "*/`timescale 1" ++ 10 ∷ codes "a")) ≡ token Word (codes "a") 3 ∷ token End [] 3 ∷ []
directive_is_skipped = refl

-- a backquote after a token is a wrong byte
late_backquote : tokens_of (codes "a `timescale") ≡ token Word (codes "a") 1 ∷ token Wrong (codes "`") 1 ∷ token Word (codes "timescale") 1 ∷ token End [] 1 ∷ []
late_backquote = refl

abbrev vector : Declarations
vector = with_declared (codes "v") (Some (0, 3)) Input undeclared

-- `v[2]` is a target, and the end follows
vector_bit : target_of vector (tokens_of (codes "v[2]")) ≡ Ok (bit_name (codes "v") 2, token End [] 1 ∷ [])
vector_bit = refl

-- an index outside the range
index_outside : target_of vector (tokens_of (codes "v[4]")) ≡ Err (faults.OutOfRange 1)
index_outside = refl

-- `v` without an index is a fault at the name, whatever follows
vector_alone : target_of vector (tokens_of (codes "v $")) ≡ Err (faults.OutOfRange 1)
vector_alone = refl

-- of `~(a & b)` the gate of `&` is made, on a fresh net after a and b, and the one of `~` is left to whoever takes the expression
nand_made : made empty (Not 3 (Group (Binary 4 operators.And (Net (codes "a")) (Net (codes "b")))))
    ≡ Ok (record { labels = record { text = codes "a"; named = true } ∷ record { text = codes "b"; named = true } ∷ record { text = codes "expr" ++ decimal 4; named = false } ∷ []; inputs = []; outputs = []; gates = record { out = 2; inputs = 0 ∷ 1 ∷ []; table = 8 } ∷ []; latches = [] }, drivers.Not 3 2)
nand_made = refl

-- a range may be written from either end
rising_range : range (tokens_of (codes "[0:3]")) ≡ Ok (Some (0, 3), token End [] 1 ∷ [])
rising_range = refl

falling_range : range (tokens_of (codes "[3:0]")) ≡ Ok (Some (0, 3), token End [] 1 ∷ [])
falling_range = refl

-- a keyword is no name, unless it is escaped
keyword_escaped : identifier (tokens_of (92 ∷ codes "wire ")) ≡ Ok ((1, codes "wire"), token End [] 1 ∷ [])
keyword_escaped = refl

keyword_alone : identifier (tokens_of (codes "wire")) ≡ Err (faults.Syntax 1)
keyword_alone = refl

-- `&&` in the place of a comma is left out with its text
pair_left_out : taken signs.Comma (tokens_of (codes "&& a")) ≡ Err (faults.LeftOut 1 (codes "&&"))
pair_left_out = refl

-- `xnor` of three inputs is 1 where an even number of them is
xnor_table : gate_table gates.Xnor 3 ≡ 105
xnor_table = refl
