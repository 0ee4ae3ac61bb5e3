use Rattle.poly_mixed.proofs.FieldLaws.{field_of}
use Rattle.std.proofs.Common.{◌≡◌, ◌<◌, ◌≤◌, ℕ, Bool, List, [], ◌∷◌, length, map, refl, sym, ◌∙◌, ap, subst, arith}
use Rattle.net_core.specs.NetList.{nets}
use Rattle.net_words.specs.Variables.{variables}
use Rattle.poly_mixed.specs.Polynomial.{value}
use Rattle.poly_mixed.specs.Cofactor.{at_bit}
use Rattle.poly_mixed.specs.Table.{index, subset_parity, table_bit}
use Rattle.stage_model.specs.Variables.{rank_in}
use Rattle.rato_reduce.specs.GatePoint.{gate_bit_at}
use Rattle.rato_reduce.specs.Monomials.{monomials}
use Rattle.rato_reduce.proofs.InsideLemmas.{out_below, read_below}
use Rattle.rato_reduce.proofs.ProductLemmas.{table_parity}
use Rattle.rato_reduce.proofs.ShortListLemmas.{one_mapped}
use Rattle.rato_reduce.proofs.SilentLemmas.{put_reduced, put_values}
use Rattle.rato_reduce.proofs.line.put_line.Goals as goal

pub rank-out-requires : goal.rank-out-requires
rank-out-requires g c = let P : ℕ → Type 0 = λ n. n < nets c.args.circuit.now.net in subst P (sym c.out.ensures) (out_below c.args.circuit.now.net c.args.gate.now c.requires.sound c.requires.gate)

pub rank-by-requires : goal.rank-by-requires
rank-by-requires g c = read_below c.args.circuit.now.net c.args.gate.now c.inputs-inputs.result.now 0 c.requires.sound c.requires.gate c.inputs-inputs.ensures.inputs (omega arith)

pub returns-then-inputs-eq1-clause-reduced : goal.returns-then-inputs-eq1-clause-reduced
returns-then-inputs-eq1-clause-reduced g c said =
    let degree = g.F.Ring.degree c.args._field.now in
    let mul = g.F.Ring.product c.args._field.now in
    let f = field_of degree mul (g.met.F.Ring.laws c.args._field.now) (g.met.F.Field.no_zero_divisors c.args._field.now) in
    let sets = monomials c.exclusive_form-form.result [] (c.rank-by.result ∷ []) 0 1 in
    let put = c.put_line.ensures.put said in
    put_reduced f c.args.cut.now.terms put.part c.put_line.new.self.terms c.rank-out.result sets c.requires.cut put.each put.part_is put.new_is

pub returns-then-inputs-eq1-clause-values : goal.returns-then-inputs-eq1-clause-values
returns-then-inputs-eq1-clause-values g c said p at =
    let degree = g.F.Ring.degree c.args._field.now in
    let mul = g.F.Ring.product c.args._field.now in
    let f = field_of degree mul (g.met.F.Ring.laws c.args._field.now) (g.met.F.Field.no_zero_divisors c.args._field.now) in
    let gate = c.args.gate.now in
    let order = variables (nets c.args.circuit.now.net) c.args.circuit.now.binding.words in
    let form = c.exclusive_form-form.result in
    let ranks : List ℕ = c.rank-by.result ∷ [] in
    let one : length c.inputs-inputs.result.now ≡ 1 = omega arith in
    let are : ranks ≡ map (rank_in order) gate.inputs = one_mapped (rank_in order) c.inputs-inputs.result.now gate.inputs c.rank-by.result c.inputs-inputs.ensures.inputs one c.rank-by.ensures in
    let sets = monomials form [] ranks 0 1 in
    let few : length ranks ≤ 6 = omega arith in
    let law : (bit : ℕ → Bool) → table_bit gate.table (index bit ranks) ≡ subset_parity (table_bit form) bit ranks 0 1 =
    (λ bit. ap (λ (t : ℕ). table_bit t (index bit ranks)) (sym c.table.ensures.table) ∙ c.exclusive_form-form.ensures bit ranks few) in
    let rank : c.rank-out.result ≡ rank_in order gate.out = c.rank-out.ensures ∙ ap (rank_in order) c.out.ensures in
    let put = c.put_line.ensures.put said in
    put_values f c.args.cut.now.terms put.part c.put_line.new.self.terms c.rank-out.result sets c.requires.cut put.each put.part_is put.new_is
    (gate_bit_at order gate) (λ q. table_parity q.is_one gate.table form (rank_in order) gate.inputs ranks sets are refl (law q.is_one)) p at
    ∙ ap (λ r. value mul (at_bit p r (gate_bit_at order gate p)) c.args.cut.now.terms) rank
