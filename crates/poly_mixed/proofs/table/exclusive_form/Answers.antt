use Rattle.poly_mixed.proofs.FormLemmas.{form_law}
use Rattle.poly_mixed.proofs.table.exclusive_form.Goals as goal

pub returns : goal.returns
returns c =
    form_law c.args.table c.spread-form.result c.spread-form-2.result c.spread-form-3.result c.spread-form-4.result c.spread-form-5.result c.spread.result
    c.spread-form.ensures c.spread-form-2.ensures c.spread-form-3.ensures c.spread-form-4.ensures c.spread-form-5.ensures c.spread.ensures
