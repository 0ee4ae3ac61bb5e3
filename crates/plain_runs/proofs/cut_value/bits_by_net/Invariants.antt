use Rattle.std.proofs.Common.{◌≡◌, map, ℕ, List}
use Rattle.std.specs.List.{range_with_len}
use Rattle.poly_mixed.specs.Polynomial.{point}
use Rattle.stage_model.specs.Variables.{point_bit}
use Rattle.plain_runs.proofs.cut_value.bits_by_net.Given as goal

abbrev pub invariant-loop-n : goal.invariant-loop-n
invariant-loop-n l = (ws : List ℕ) → l.list.items ≡ map (point_bit l.variables (point ws l.bits)) (range_with_len 0 l.n)
