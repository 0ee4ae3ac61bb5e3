use Rattle.std.proofs.Common.{◌≡◌, [], IfOk, sym, ◌∙◌, ap, subst}
use Rattle.std.specs.List.{AllByRecursion}
use Rattle.std.specs.List.Sorted.{IsStrictlySortedBy}
use Rattle.std.specs.Map.{keys_of}
use Rattle.poly_mixed.specs.Monomial.{text_cmp}
use Rattle.poly_mixed.specs.Polynomial.{Terms}
use Rattle.poly_mixed.specs.Sum.{plus}
use Rattle.rato_reduce.specs.private.CutTerms.{IsBitTerm}
use Rattle.rato_reduce.proofs.ListedLemmas.{moved_polynomial, moved_terms, sorted_polynomial}
use Rattle.rato_reduce.proofs.listed.sum_in_order.Goals as goal

pub returns-then-are_in_order : goal.returns-then-are_in_order
returns-then-are_in_order c =
    let P : Terms → Type 0 = λ ts. IsStrictlySortedBy text_cmp (keys_of ts) in
    sorted_polynomial c.args.terms.items c.sort_unstable_by.new.self.items c.requires c.sort_unstable_by.ensures.permutation (subst P c.as_slice.ensures.value (c.are_in_order.ensures c.if-are_in_order.true))

pub added_up-requires : goal.added_up-requires
added_up-requires c =
    let P : Terms → Type 0 = AllByRecursion IsBitTerm in
    subst P (sym c.as_slice-2.ensures.value) (moved_terms c.args.terms.items c.sort_unstable_by.new.self.items c.requires c.sort_unstable_by.ensures.permutation)

pub returns : goal.returns
returns c =
    let same : plus text_cmp [] c.as_slice-2.result.now ≡ plus text_cmp [] c.args.terms.items =
    ap (plus text_cmp []) c.as_slice-2.ensures.value ∙ moved_polynomial c.args.terms.items c.sort_unstable_by.new.self.items c.requires c.sort_unstable_by.ensures.permutation in
    let P : Terms → Type 0 = λ ts. IfOk c.added_up.result (λ v. v.items ≡ ts) in
    subst P same c.added_up.ensures
