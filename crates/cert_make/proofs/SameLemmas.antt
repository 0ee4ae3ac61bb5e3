-- Polynomials with the same terms are equal.
use Rattle.std.proofs.Common.{◌≡◌, ◌∙◌, ap, sym, refl, ℕ, true, [], ◌∷◌, rules}
use Rattle.std.specs.Cmp.{IsTotalOrder, nat_cmp_total, on_total, then_total, tied_itself}
use Rattle.std.specs.Cmp.Lexicographic.{slice_cmp, lists_total}
use Rattle.std.specs.declared.cmp.Ordering.TheVariants.{Equal}
use Rattle.std.specs.Ordering.{nat_cmp, is_eq}
use Rattle.lists.specs.laws.OrderingLaws.{both_equal, is_equal}
use Rattle.poly_mixed.specs.Monomial.{Monomial, text_cmp, text_cmp_total}
use Rattle.poly_mixed.specs.Polynomial.{Terms}
use Rattle.poly_mixed.proofs.MonomialLemmas.{text_cmp-same}
use Rattle.cert_make.specs.Sharing.{term_cmp, are_same}

term_cmp_total : IsTotalOrder term_cmp
term_cmp_total = then_total (on_total (λ t. t.0) text_cmp_total) (on_total (λ t. t.1) nat_cmp_total)

pub number_same : (x y : ℕ) → nat_cmp x y ≡ Equal → x ≡ y
number_same x y e = search rules

term_same : (t u : Monomial × ℕ) → term_cmp t u ≡ Equal → t ≡ u
term_same t u e =
    let each = both_equal (text_cmp t.0 u.0) (nat_cmp t.1 u.1) e in
    λ i. (text_cmp-same t.0 u.0 each.0 i, number_same t.1 u.1 each.1 i)

terms_same : (ts us : Terms) → slice_cmp term_cmp ts us ≡ Equal → ts ≡ us
terms_same [] [] e = refl
terms_same [] (u ∷ us) e = absurd (cc)
terms_same (t ∷ ts) [] e = absurd (cc)
terms_same (t ∷ ts) (u ∷ us) e =
    let each = both_equal (term_cmp t u) (slice_cmp term_cmp ts us) e in
    λ i. term_same t u each.0 i ∷ terms_same ts us each.1 i

-- polynomials that are tested the same are equal, and the other way round
pub same_equal : (ts us : Terms) → are_same ts us ≡ true → ts ≡ us
same_equal ts us e = terms_same ts us (is_equal (slice_cmp term_cmp ts us) e)

pub same_itself : (ts : Terms) → are_same ts ts ≡ true
same_itself ts = ap is_eq (tied_itself (lists_total term_cmp_total) ts)

pub same_from : (ts us : Terms) → ts ≡ us → are_same ts us ≡ true
same_from ts us e = ap (are_same ts) (sym e) ∙ same_itself ts
