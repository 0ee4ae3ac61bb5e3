-- The table of a gate has a bit for each row.
use Rattle.std.proofs.Common.{◌≡◌, sym, subst, ℕ, zero, suc, ◌+◌, ◌*◌, ◌^◌, ◌<◌, Bool, true, false, arith}
use Rattle.std.specs.Prelude.{if◌then◌else◌}
use Rattle.std.proofs.Math.Nat.{pow-succ'}
use Rattle.net_verilog.specs.Instances.{gate_is_one, gate_table, ones_of, table_below}
use Rattle.net_verilog.specs.declared.gate_kind.GateKind.{GateKind}

more : (b : Bool) (table row next : ℕ) → table < row → next ≡ 2 * row → table + (if b then row else 0) < next
more true table row next less twice = omega (arith, less, twice)
more false table row next less twice = omega (arith, less, twice)

below : (kind : GateKind) (inputs rows : ℕ) → table_below kind inputs rows < 2 ^ rows
below kind inputs zero = omega arith
below kind inputs (suc row) = more (gate_is_one kind inputs (ones_of inputs row)) (table_below kind inputs row) (2 ^ row) (2 ^ suc row) (below kind inputs row) (pow-succ' 2 row)

pub few_rows : (kind : GateKind) (inputs table : ℕ) → table ≡ gate_table kind inputs → table < 2 ^ (2 ^ inputs)
few_rows kind inputs table is =
    let P : ℕ → Type 0 = λ n. n < 2 ^ (2 ^ inputs) in
    subst P (sym is) (below kind inputs (2 ^ inputs))
