use Rattle.std.proofs.Common.{◌≡◌, [], IfOk, sym, subst}
use Rattle.std.specs.List.{AllByRecursion}
use Rattle.poly_mixed.specs.Monomial.{text_cmp}
use Rattle.poly_mixed.specs.Polynomial.{Terms}
use Rattle.poly_mixed.specs.Sum.{plus}
use Rattle.rato_reduce.specs.private.CutTerms.{IsBitTerm}
use Rattle.rato_reduce.proofs.listed.sum_of_lists.Goals as goal

pub sum_in_order-requires : goal.sum_in_order-requires
sum_in_order-requires c = let P : Terms → Type 0 = AllByRecursion IsBitTerm in subst P (sym c.in_ok-terms.ensures) c.requires

pub returns : goal.returns
returns c =
    let P : Terms → Type 0 = λ ts. IfOk c.sum_in_order.result (λ v. v.items ≡ plus text_cmp [] ts) in
    subst P c.in_ok-terms.ensures c.sum_in_order.ensures
