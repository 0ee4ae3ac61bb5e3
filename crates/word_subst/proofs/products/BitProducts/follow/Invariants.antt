use Rattle.std.proofs.Common.{◌≡◌, ◌≤◌, take, length}
use Rattle.gf_basis.specs.BasisParts.{elements_of}
use Rattle.word_subst.specs.Prefix.{AreProducts}
use Rattle.word_subst.proofs.products.BitProducts.follow.Given as goal

abbrev pub invariant-loop-j : goal.invariant-loop-j
invariant-loop-j g l = record {
  inside : l.j ≤ length l.own;
  ranks : l.self.ranks ≡ take l.j l.own;
  start : l.self.start ≡ l.initial.self.start;
  products : AreProducts (g.F.Ring.degree l.field) (g.F.Ring.product l.field) (elements_of l.basis) l.word l.bound l.self;
}
