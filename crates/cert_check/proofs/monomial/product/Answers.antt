use Rattle.std.proofs.Common.{◌∙◌, sym, subst, List, ℕ}
use Rattle.std.specs.Ordering.{nat_cmp}
use Rattle.std.specs.List.Sorted.{IsStrictlySortedBy}
use Rattle.poly_mixed.specs.Product.{union}
use Rattle.poly_mixed.proofs.ProductLemmas.{rising-union}
use Rattle.cert_check.proofs.monomial.product.Goals as goal

pub new-requires : goal.new-requires
new-requires c =
    let P : List ℕ → Type 0 = IsStrictlySortedBy nat_cmp in
    let Q : List ℕ → Type 0 = λ xs. IsStrictlySortedBy nat_cmp (union xs c.bits-2.result.now) in
    let R : List ℕ → Type 0 = λ xs. IsStrictlySortedBy nat_cmp xs in
    subst P (sym (c.as_slice.ensures ∙ c.in_ok-ranks.ensures)) (rising-union c.bits.result.now c.bits-2.result.now (subst P (sym c.bits.ensures.value) c.bits.ensures.rising))
