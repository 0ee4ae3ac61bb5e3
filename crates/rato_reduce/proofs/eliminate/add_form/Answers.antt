use Rattle.std.proofs.Common.{◌≡◌, ℕ, List, [], ◌∷◌, map, get_or, sym, ◌∙◌, ap, arith}
use Rattle.std.proofs.lemmas.Result.{on_ok_weaker}
use Rattle.net_core.specs.NetList.{nets}
use Rattle.net_words.specs.Variables.{variables}
use Rattle.poly_mixed.specs.Monomial.{text_cmp}
use Rattle.poly_mixed.specs.Sum.{plus}
use Rattle.stage_model.specs.Variables.{rank_in}
use Rattle.rato_reduce.specs.private.CutTerms.{all_products}
use Rattle.rato_reduce.specs.BoundVariables.{ranks_of_inputs}
use Rattle.rato_reduce.specs.Monomials.{monomials}
use Rattle.rato_reduce.proofs.InsideLemmas.{read_below}
use Rattle.rato_reduce.proofs.ShortListLemmas.{one_item, two_items}
use Rattle.rato_reduce.proofs.eliminate.add_form.Goals as goal

pub rank-rank-requires : goal.rank-rank-requires
rank-rank-requires c = read_below c.args.circuit.now.net c.args.gate.now c.inputs-inputs.result.now 0 c.requires.sound c.requires.gate c.inputs-inputs.ensures.inputs (omega arith)

pub rank-first-requires : goal.rank-first-requires
rank-first-requires c = read_below c.args.circuit.now.net c.args.gate.now c.inputs-inputs.result.now 0 c.requires.sound c.requires.gate c.inputs-inputs.ensures.inputs (omega arith)

pub rank-second-requires : goal.rank-second-requires
rank-second-requires c = read_below c.args.circuit.now.net c.args.gate.now c.inputs-inputs.result.now 1 c.requires.sound c.requires.gate c.inputs-inputs.ensures.inputs (omega arith)

pub returns-then-inputs-eq1 : goal.returns-then-inputs-eq1
returns-then-inputs-eq1 c =
    let order = variables (nets c.args.circuit.now.net) c.args.circuit.now.binding.words in
    let inputs : c.inputs-inputs.result.now ≡ c.args.gate.now.inputs = c.inputs-inputs.ensures.inputs in
    let one : c.inputs-inputs.result.now ≡ get_or c.inputs-inputs.result.now 0 0 ∷ [] = one_item c.inputs-inputs.result.now (omega arith) in
    let rank : c.rank-rank.result ≡ rank_in order (get_or c.inputs-inputs.result.now 0 0) = c.rank-rank.ensures in
    let ranks : c.rank-rank.result ∷ [] ≡ map (rank_in order) c.args.gate.now.inputs = (λ i. rank i ∷ []) ∙ ap (map (rank_in order)) (sym one ∙ inputs) in
    on_ok_weaker c.add_all_lines.result (λ e. e ∙ ap (λ rs. plus text_cmp c.args.cut.now.terms (all_products c.args.part.now (monomials c.args.form [] rs 0 1))) ranks) c.add_all_lines.ensures

pub returns-then-inputs-eq2 : goal.returns-then-inputs-eq2
returns-then-inputs-eq2 c =
    let order = variables (nets c.args.circuit.now.net) c.args.circuit.now.binding.words in
    let inputs : c.inputs-inputs.result.now ≡ c.args.gate.now.inputs = c.inputs-inputs.ensures.inputs in
    let two : c.inputs-inputs.result.now ≡ get_or c.inputs-inputs.result.now 0 0 ∷ get_or c.inputs-inputs.result.now 1 0 ∷ [] = two_items c.inputs-inputs.result.now (omega arith) in
    let first : c.rank-first.result ≡ rank_in order (get_or c.inputs-inputs.result.now 0 0) = c.rank-first.ensures in
    let second : c.rank-second.result ≡ rank_in order (get_or c.inputs-inputs.result.now 1 0) = c.rank-second.ensures in
    let ranks : c.rank-first.result ∷ c.rank-second.result ∷ [] ≡ map (rank_in order) c.args.gate.now.inputs = (λ i. first i ∷ second i ∷ []) ∙ ap (map (rank_in order)) (sym two ∙ inputs) in
    on_ok_weaker c.add_all_pairs.result (λ e. e ∙ ap (λ rs. plus text_cmp c.args.cut.now.terms (all_products c.args.part.now (monomials c.args.form [] rs 0 1))) ranks) c.add_all_pairs.ensures

pub returns : goal.returns
returns c =
    let sets : c.deref.result.now ≡ monomials c.args.form [] (ranks_of_inputs c.args.circuit.now c.args.gate.now) 0 1 = c.deref.ensures.value ∙ c.in_ok-sets.ensures in
    on_ok_weaker c.add_all_products.result (λ e. e ∙ ap (λ (ss : List (List ℕ)). plus text_cmp c.args.cut.now.terms (all_products c.args.part.now ss)) sets) c.add_all_products.ensures
