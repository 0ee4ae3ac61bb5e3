-- Numbers and bits of vectors as this crate's code holds them. Source: this project's own.
use Rattle.std.specs.Prelude.{ℕ, ◌≤◌, nat_le, List, Option, None, Some, ⊤, if◌then◌else◌}
use Rattle.net_core.specs.Inside.{IsNetName}
use Rattle.net_verilog.specs.Declarations.{Range, bit_name}

-- a number that 32 bits hold
abbrev pub short : ℕ → Option ℕ
short n = if nat_le n 4294967295 then Some n else None

-- each bit of a vector has the name of a net
abbrev pub HasBits : List ℕ → Option Range → Type 0
HasBits name None = ⊤
HasBits name (Some None) = ⊤
HasBits name (Some (Some (low, high))) = (i : ℕ) → low ≤ i → i ≤ high → IsNetName (bit_name name i)

-- a range as one that was read: its highest index is at most 65,535
abbrev pub IsSmall : Range → Type 0
IsSmall None = ⊤
IsSmall (Some (low, high)) = high ≤ 65535
