use Rattle.poly_mixed.proofs.FieldLaws.{field_of}
use Rattle.std.proofs.Common.{sym, ◌∙◌, ap, subst}
use Rattle.std.proofs.lemmas.Result.{on_ok_weaker}
use Rattle.poly_mixed.specs.Polynomial.{Terms, IsReduced, coefficient, value}
use Rattle.poly_mixed.proofs.ValueLemmas.{reduced_plus, value-plus, coefficient-plus}
use Rattle.poly_mixed.proofs.poly.Poly.add_into.Goals as goal

pub returns-clause-reduced : goal.returns-clause-reduced
returns-clause-reduced g c = on_ok_weaker c.add_terms.result (λ e.
    let P : Terms → Type 0 = IsReduced (g.F.Ring.degree c.args._field.now) in
    subst P (sym e) (reduced_plus (field_of _ _ (g.met.F.Ring.laws c.args._field.now) (g.met.F.Field.no_zero_divisors c.args._field.now)) _ _ c.requires.over c.requires.other_over)) c.add_terms.ensures

pub returns-clause-map : goal.returns-clause-map
returns-clause-map g c = on_ok_weaker c.add_terms.result (λ e m. ap (λ (ts : Terms). coefficient ts m) e ∙ coefficient-plus _ _ m c.requires.over.is_map c.requires.other_over.is_map) c.add_terms.ensures

pub returns-clause-values : goal.returns-clause-values
returns-clause-values g c = on_ok_weaker c.add_terms.result (λ e p at.
    ap (λ (ts : Terms). value (g.F.Ring.product c.args._field.now) p ts) e
    ∙ value-plus (field_of _ _ (g.met.F.Ring.laws c.args._field.now) (g.met.F.Field.no_zero_divisors c.args._field.now)) p at _ _ c.requires.over.terms c.requires.other_over.terms) c.add_terms.ensures
