use Rattle.std.proofs.Common.{◌≡◌, ◌≢◌, ◌∙◌, ap, sym, subst, ℕ, [], ◌*◌, List, length, arith, rules}
use Rattle.std.proofs.lemmas.Bool.{eqb-false}
use Rattle.std.specs.List.{AllByRecursion}
use Rattle.gf_basis.specs.BasisParts.{elements_of, duals_of}
use Rattle.poly_mixed.specs.Monomial.{text_cmp}
use Rattle.poly_mixed.specs.Polynomial.{Terms}
use Rattle.poly_mixed.specs.Sum.{plus}
use Rattle.poly_mixed.proofs.FieldLaws.{field_of}
use Rattle.word_subst.specs.Spread.{all_terms}
use Rattle.word_subst.specs.Whole.{IsPart, times_bits, times_word}
use Rattle.word_subst.proofs.FormsExistLemmas.{forms_exist}
use Rattle.word_subst.proofs.WholeReadLemmas.{some_parts, field_elements, whole_firsts, whole_read}
use Rattle.word_subst.proofs.whole.whole.Goals as goal

pub sum_of-requires-clause-some : goal.sum_of-requires-clause-some
sum_of-requires-clause-some g c =
    let are : AllByRecursion (IsPart c.args.word (g.F.Ring.degree c.args.field.now)) c.in-Some.parts.items = search rules in
    let P : Terms → Type 0 = AllByRecursion (λ t. t.1 ≢ 0) in
    subst P (sym c.deref.ensures.value) (some_parts c.args.word (g.F.Ring.degree c.args.field.now) c.in-Some.parts.items are)

pub returns-in_ok-poly-in-Some-clause-read : goal.returns-in_ok-poly-in-Some-clause-read
returns-in_ok-poly-in-Some-clause-read g c =
    let k : ℕ = g.F.Ring.degree c.args.field.now in
    let mul : ℕ → ℕ → ℕ = g.F.Ring.product c.args.field.now in
    let els : List ℕ = elements_of c.args.basis.now in
    let w : ℕ = c.args.word in
    let parts : Terms = c.in-Some.parts.items in
    let terms : Terms = c.args.terms.now in
    let f = field_of k mul (g.met.F.Ring.laws c.args.field.now) (g.met.F.Field.no_zero_divisors c.args.field.now) in
    let are : AllByRecursion (IsPart w k) parts = search rules in
    let is : terms ≡ times_bits mul (k * w) els parts = search rules in
    let made : c.in_ok-poly-in-Some.poly.terms ≡ plus text_cmp [] (all_terms w (times_word parts)) = c.in_ok-poly-in-Some.ensures ∙ ap (λ (ts : Terms). plus text_cmp [] (all_terms w (times_word ts))) c.deref.ensures.value in
    let some : length terms ≢ 0 = eqb-false (length terms) 0 (sym c.is_empty.ensures ∙ c.if-is_empty.false) in
    let forms = forms_exist k mul (g.met.F.Ring.laws c.args.field.now) (g.met.F.Field.no_zero_divisors c.args.field.now) els (duals_of c.args.basis.now) c.requires.over.elements.size c.requires.over.dual in
    whole_read f w c.requires.word els c.requires.over.elements.size (field_elements k els c.requires.over.elements.inside) forms.0 forms.1 c.args.bound parts are terms c.in_ok-poly-in-Some.poly.terms is c.requires.terms (omega (arith, some)) (omega arith) made

pub returns-in_ok-poly-in-Some-clause-firsts : goal.returns-in_ok-poly-in-Some-clause-firsts
returns-in_ok-poly-in-Some-clause-firsts g c =
    let k : ℕ = g.F.Ring.degree c.args.field.now in
    let mul : ℕ → ℕ → ℕ = g.F.Ring.product c.args.field.now in
    let els : List ℕ = elements_of c.args.basis.now in
    let w : ℕ = c.args.word in
    let parts : Terms = c.in-Some.parts.items in
    let terms : Terms = c.args.terms.now in
    let are : AllByRecursion (IsPart w k) parts = search rules in
    let is : terms ≡ times_bits mul (k * w) els parts = search rules in
    whole_firsts k w mul els parts terms c.requires.over.elements.size are is
