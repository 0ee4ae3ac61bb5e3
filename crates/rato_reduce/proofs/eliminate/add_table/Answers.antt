use Rattle.poly_mixed.proofs.FieldLaws.{field_of}
use Rattle.std.proofs.Common.{◌≡◌, ◌≤◌, ℕ, Bool, List, [], map, length, refl, sym, ◌∙◌, ap, subst, arith}
use Rattle.std.proofs.lemmas.List.{length-map}
use Rattle.std.proofs.lemmas.Result.{on_ok_weaker}
use Rattle.net_core.specs.NetList.{nets}
use Rattle.net_words.specs.Variables.{variables}
use Rattle.poly_mixed.specs.Polynomial.{Terms, IsReduced, value}
use Rattle.poly_mixed.specs.Table.{index, subset_parity, table_bit}
use Rattle.stage_model.specs.Variables.{rank_in}
use Rattle.rato_reduce.specs.GatePoint.{gate_bit_at}
use Rattle.rato_reduce.specs.private.CutTerms.{all_products}
use Rattle.rato_reduce.specs.Monomials.{monomials}
use Rattle.rato_reduce.proofs.InsideLemmas.{few_inputs}
use Rattle.rato_reduce.proofs.ProductLemmas.{all_product_terms, all_products_over, reduced_more, put_table, table_parity}
use Rattle.rato_reduce.proofs.eliminate.add_table.Goals as goal

pub returns-clause-reduced : goal.returns-clause-reduced
returns-clause-reduced g c =
    let degree = g.F.Ring.degree c.args._field.now in
    let part = c.args.part.now in
    let order = variables (nets c.args.circuit.now.net) c.args.circuit.now.binding.words in
    let sets = monomials c.exclusive_form-form.result [] (map (rank_in order) c.args.gate.now.inputs) 0 1 in
    let P : Terms → Type 0 = IsReduced degree in
    on_ok_weaker c.add_form.result (λ e. subst P (sym e) (reduced_more degree c.args.cut.now.terms (all_products part sets) c.requires.cut (all_product_terms part sets c.requires.part.0) (all_products_over degree part sets c.requires.part.0 c.requires.part.1))) c.add_form.ensures

pub returns-clause-values : goal.returns-clause-values
returns-clause-values g c =
    let degree = g.F.Ring.degree c.args._field.now in
    let mul = g.F.Ring.product c.args._field.now in
    let f = field_of degree mul (g.met.F.Ring.laws c.args._field.now) (g.met.F.Field.no_zero_divisors c.args._field.now) in
    let gate = c.args.gate.now in
    let order = variables (nets c.args.circuit.now.net) c.args.circuit.now.binding.words in
    let form = c.exclusive_form-form.result in
    let ranks : List ℕ = map (rank_in order) gate.inputs in
    let sets = monomials form [] ranks 0 1 in
    let few : length gate.inputs ≤ 6 = few_inputs c.args.circuit.now.net gate c.requires.sound c.requires.gate in
    let long : length ranks ≡ length gate.inputs = length-map gate.inputs (rank_in order) in
    let law : (bit : ℕ → Bool) → table_bit gate.table (index bit ranks) ≡ subset_parity (table_bit form) bit ranks 0 1 =
    (λ bit. ap (λ (t : ℕ). table_bit t (index bit ranks)) (sym c.table.ensures.table) ∙ c.exclusive_form-form.ensures bit ranks (omega arith)) in
    on_ok_weaker c.add_form.result (λ e p at.
    ap (λ (ts : Terms). value mul p ts) e
    ∙ put_table f c.args.cut.now.terms c.args.part.now sets (gate_bit_at order gate p) p at c.requires.cut.terms c.requires.part.0 c.requires.part.1
    (table_parity p.is_one gate.table form (rank_in order) gate.inputs ranks sets refl refl (law p.is_one))) c.add_form.ensures
