use Rattle.std.proofs.Common.{◌∙◌, ap, List, ℕ, length, arith}
use Rattle.std.proofs.lemmas.List.{length-map}
use Rattle.std.proofs.lemmas.Result.{on_ok_weaker}
use Rattle.net_core.specs.NetList.{nets}
use Rattle.net_core.proofs.DriverLemmas.{gate_inside}
use Rattle.net_words.specs.Variables.{variables}
use Rattle.poly_mixed.specs.Polynomial.{value}
use Rattle.cert_check.specs.Running.{rank_among}
use Rattle.cert_check.proofs.SumLemmas.{table_added}
use Rattle.cert_check.proofs.generator.add_gate.Goals as goal

pub add_table-requires-clause-few : goal.add_table-requires-clause-few
add_table-requires-clause-few g c =
    let order : List ℕ = variables (nets c.args.circuit.now.net) c.args.circuit.now.binding.words in
    omega (arith, ap (λ (xs : List ℕ). length xs) (c.as_slice.ensures ∙ c.in_ok-ranks.ensures), length-map c.args.gate.now.inputs (rank_among order), (gate_inside c.args.circuit.now.net c.args.gate.now c.requires.sound.inside c.requires.gate).2)

pub returns-clause-values : goal.returns-clause-values
returns-clause-values g c =
    let mul = g.F.Ring.product c.args.field.now in
    let order : List ℕ = variables (nets c.args.circuit.now.net) c.args.circuit.now.binding.words in
    on_ok_weaker c.add_table.result
    (λ added p at. table_added p.is_one order c.args.gate.now.inputs c.as_slice.result.now c.args.gate.now.table c.table.result (value mul p c.args.sum.now.terms) (value mul p c.add_table.new.sum.terms) (c.as_slice.ensures ∙ c.in_ok-ranks.ensures) c.table.ensures.table (added p at))
    c.add_table.ensures.values
