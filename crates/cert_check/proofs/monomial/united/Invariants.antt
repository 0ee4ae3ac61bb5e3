use Rattle.std.proofs.Common.{◌≡◌, drop}
use Rattle.poly_mixed.specs.Product.{union}
use Rattle.cert_check.proofs.monomial.united.Given as goal

abbrev pub invariant-loop-r : goal.invariant-loop-r
invariant-loop-r l = union l.ranks.items (drop l.r-index l.right) ≡ union l.left l.right
