use Rattle.lift_table.proofs.ProductsLemmas.{AreProductsTo}
use Rattle.lift_table.proofs.products.products.Given as goal

abbrev pub invariant-loop-i : goal.invariant-loop-i
invariant-loop-i g l = AreProductsTo (g.F.Ring.degree l.field) (g.F.Ring.product l.field) l.i l.list.items
