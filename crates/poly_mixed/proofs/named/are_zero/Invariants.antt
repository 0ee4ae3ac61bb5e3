use Rattle.std.proofs.Common.{◌≡◌, ◌↔◌, drop}
use Rattle.std.specs.List.{AllByRecursion}
use Rattle.poly_mixed.proofs.named.are_zero.Given as goal

abbrev pub invariant-loop-number : goal.invariant-loop-number
invariant-loop-number l = AllByRecursion (λ e. e ≡ 0) (drop l.number-index l.numbers) ↔ AllByRecursion (λ e. e ≡ 0) l.numbers
