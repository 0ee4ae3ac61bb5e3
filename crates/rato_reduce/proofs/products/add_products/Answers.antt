use Rattle.std.proofs.Common.{ℕ, List, sym, subst}
use Rattle.rato_reduce.specs.private.Buckets.{AreUpTo}
use Rattle.rato_reduce.specs.private.Rows.{term_bits}
use Rattle.rato_reduce.proofs.products.add_products.Goals as goal

pub add_product-requires-clause-up_to : goal.add_product-requires-clause-up_to
add_product-requires-clause-up_to c =
    let P : List ℕ → Type 0 = λ places. AreUpTo places c.term_level-level.result (term_bits c.args.term.now) in
    subst P (sym c.loop-set.invariant.places) c.term_level-level.ensures
