use Rattle.poly_mixed.proofs.FieldLaws.{field_of}
use Rattle.std.proofs.Common.{◌≡◌, ◌<◌, ◌≤◌, ℕ, Bool, List, [], length, map, refl, sym, ◌∙◌, ap, subst, arith}
use Rattle.std.proofs.lemmas.List.{length-map}
use Rattle.net_core.specs.NetList.{nets}
use Rattle.net_words.specs.Variables.{variables}
use Rattle.poly_mixed.specs.Monomial.{text_cmp}
use Rattle.poly_mixed.specs.Polynomial.{Terms, value}
use Rattle.poly_mixed.specs.Sum.{plus}
use Rattle.poly_mixed.specs.Cofactor.{at_bit, cofactors, lacking}
use Rattle.poly_mixed.specs.Table.{index, subset_parity, table_bit}
use Rattle.stage_model.specs.Variables.{rank_in}
use Rattle.rato_reduce.specs.GatePoint.{gate_bit_at}
use Rattle.rato_reduce.specs.private.CutTerms.{all_products}
use Rattle.rato_reduce.specs.Monomials.{monomials}
use Rattle.rato_reduce.proofs.CutBitLemmas.{cofactor_terms}
use Rattle.rato_reduce.proofs.InsideLemmas.{few_inputs, out_below}
use Rattle.rato_reduce.proofs.ProductLemmas.{table_parity}
use Rattle.rato_reduce.proofs.SilentLemmas.{put_reduced, put_values}
use Rattle.rato_reduce.proofs.in_buckets.put_gate.Goals as goal

pub rank-rank-requires : goal.rank-rank-requires
rank-rank-requires g c = let P : ℕ → Type 0 = λ n. n < nets c.args.circuit.now.net in subst P (sym c.out.ensures) (out_below c.args.circuit.now.net c.args.gate.now c.requires.sound c.requires.gate)

pub add_form-requires-clause-part : goal.add_form-requires-clause-part
add_form-requires-clause-part g c = c.in_ok-take_list.ensures.each

pub returns-clause-reduced : goal.returns-clause-reduced
returns-clause-reduced g c =
    let degree = g.F.Ring.degree c.args._field.now in
    let mul = g.F.Ring.product c.args._field.now in
    let f = field_of degree mul (g.met.F.Ring.laws c.args._field.now) (g.met.F.Field.no_zero_divisors c.args._field.now) in
    let sets = monomials c.exclusive_form-form.result [] (map (rank_in (variables (nets c.args.circuit.now.net) c.args.circuit.now.binding.words)) c.args.gate.now.inputs) 0 1 in
    let taken : Terms = c.take_list.new.part in
    let part : Terms = cofactors c.rank-rank.result taken in
    let others = c.in_ok-add_form.ensures.no_others in
    let each = cofactor_terms c.rank-rank.result taken c.in_ok-take_list.ensures.each in
    let made : c.add_form.new.cut.terms ≡ plus text_cmp (lacking c.rank-rank.result c.args.cut.now.terms) (all_products part sets) =
    c.in_ok-add_form.ensures.sum ∙ (λ i. plus text_cmp (c.in_ok-take_list.ensures.left others i) (all_products part sets)) in
    put_reduced f c.args.cut.now.terms part c.add_form.new.cut.terms c.rank-rank.result sets c.requires.cut each (c.in_ok-take_list.ensures.part others) made

pub returns-clause-values : goal.returns-clause-values
returns-clause-values g c p at =
    let degree = g.F.Ring.degree c.args._field.now in
    let mul = g.F.Ring.product c.args._field.now in
    let f = field_of degree mul (g.met.F.Ring.laws c.args._field.now) (g.met.F.Field.no_zero_divisors c.args._field.now) in
    let gate = c.args.gate.now in
    let order = variables (nets c.args.circuit.now.net) c.args.circuit.now.binding.words in
    let form = c.exclusive_form-form.result in
    let ranks : List ℕ = map (rank_in order) gate.inputs in
    let sets = monomials form [] ranks 0 1 in
    let few : length gate.inputs ≤ 6 = few_inputs c.args.circuit.now.net gate c.requires.sound c.requires.gate in
    let long : length ranks ≡ length gate.inputs = length-map gate.inputs (rank_in order) in
    let law : (bit : ℕ → Bool) → table_bit gate.table (index bit ranks) ≡ subset_parity (table_bit form) bit ranks 0 1 =
    (λ bit. ap (λ (t : ℕ). table_bit t (index bit ranks)) (sym c.table.ensures.table) ∙ c.exclusive_form-form.ensures bit ranks (omega arith)) in
    let rank : c.rank-rank.result ≡ rank_in order gate.out = c.rank-rank.ensures ∙ ap (rank_in order) c.out.ensures in
    let taken : Terms = c.take_list.new.part in
    let part : Terms = cofactors c.rank-rank.result taken in
    let others = c.in_ok-add_form.ensures.no_others in
    let each = cofactor_terms c.rank-rank.result taken c.in_ok-take_list.ensures.each in
    let made : c.add_form.new.cut.terms ≡ plus text_cmp (lacking c.rank-rank.result c.args.cut.now.terms) (all_products part sets) =
    c.in_ok-add_form.ensures.sum ∙ (λ i. plus text_cmp (c.in_ok-take_list.ensures.left others i) (all_products part sets)) in
    put_values f c.args.cut.now.terms part c.add_form.new.cut.terms c.rank-rank.result sets c.requires.cut each (c.in_ok-take_list.ensures.part others) made
    (gate_bit_at order gate) (λ q. table_parity q.is_one gate.table form (rank_in order) gate.inputs ranks sets refl refl (law q.is_one)) p at
    ∙ ap (λ r. value mul (at_bit p r (gate_bit_at order gate p)) c.args.cut.now.terms) rank
