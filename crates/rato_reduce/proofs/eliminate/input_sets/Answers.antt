use Rattle.std.proofs.Common.{◌≡◌, ◌≤◌, ℕ, List, [], IfOk, length, ap, subst, ◌∙◌, arith}
use Rattle.std.proofs.lemmas.List.{length-map}
use Rattle.stage_model.specs.Variables.{rank_in}
use Rattle.rato_reduce.specs.BoundVariables.{bound_variables, ranks_of_inputs}
use Rattle.rato_reduce.specs.Monomials.{monomials}
use Rattle.rato_reduce.proofs.InsideLemmas.{few_inputs}
use Rattle.rato_reduce.proofs.eliminate.input_sets.Goals as goal

pub monomials-requires : goal.monomials-requires
monomials-requires c =
    let inputs : List ℕ = c.args.gate.now.inputs in
    let few : length inputs ≤ 6 = few_inputs c.args.circuit.now.net c.args.gate.now c.requires.sound c.requires.gate in
    let ranks : c.deref.result.now ≡ ranks_of_inputs c.args.circuit.now c.args.gate.now = c.deref.ensures.value ∙ c.in_ok-ranks.ensures in
    let long : length c.deref.result.now ≡ length inputs = ap length ranks ∙ length-map inputs (rank_in (bound_variables c.args.circuit.now)) in
    omega arith

pub returns : goal.returns
returns c =
    let ranks : c.deref.result.now ≡ ranks_of_inputs c.args.circuit.now c.args.gate.now = c.deref.ensures.value ∙ c.in_ok-ranks.ensures in
    let P : List ℕ → Type 0 = λ rs. IfOk c.monomials.result (λ sets. sets.items ≡ monomials c.args.form [] rs 0 1) in
    subst P ranks c.monomials.ensures
