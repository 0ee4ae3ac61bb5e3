use Rattle.std.proofs.Common.{◌≡◌, ◌≤◌, length, take, drop}
use Rattle.poly_mixed.specs.Product.{union}
use Rattle.rato_reduce.proofs.united.unite.Given as goal

abbrev pub invariant-loop-rank : goal.invariant-loop-rank
invariant-loop-rank l = record {
  front : take l.start l.list.items ≡ take l.start l.initial.list.items;
  long : l.start ≤ length l.list.items;
  united : union (drop l.start l.list.items) (drop l.rank-index l.set) ≡ union (drop l.start l.initial.list.items) l.set;
}
