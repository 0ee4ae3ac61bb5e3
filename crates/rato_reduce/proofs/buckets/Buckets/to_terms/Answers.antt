use Rattle.std.proofs.Common.{List, sym, subst}
use Rattle.std.specs.List.{AllByRecursion}
use Rattle.poly_mixed.specs.Polynomial.{Terms}
use Rattle.rato_reduce.specs.private.CutTerms.{IsBitTerm}
use Rattle.rato_reduce.specs.private.Buckets.{joined}
use Rattle.rato_reduce.proofs.BucketLemmas.{levelled_terms}
use Rattle.rato_reduce.proofs.buckets.Buckets.to_terms.Goals as goal

pub sum_of_lists-requires : goal.sum_of_lists-requires
sum_of_lists-requires c =
    let P : List Terms → Type 0 = λ ls. AllByRecursion IsBitTerm (joined ls) in
    subst P (sym c.as_slice.ensures.value) (levelled_terms c.self.inside.places.items 0 c.self.inside.list.items c.self.invariant.0)
