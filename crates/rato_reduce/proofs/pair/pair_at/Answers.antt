use Rattle.std.proofs.Common.{◌≡◌, ℕ, List, [], ◌∷◌, length, map, get_or, sym, ◌∙◌, ap, arith}
use Rattle.net_core.specs.NetList.{nets}
use Rattle.net_words.specs.Variables.{variables}
use Rattle.stage_model.specs.Variables.{rank_in}
use Rattle.rato_reduce.specs.Monomials.{monomials}
use Rattle.rato_reduce.proofs.InsideLemmas.{read_below}
use Rattle.rato_reduce.proofs.ShortListLemmas.{one_mapped, two_items}
use Rattle.rato_reduce.proofs.pair.pair_at.Goals as goal

pub rank-by-requires : goal.rank-by-requires
rank-by-requires c = read_below c.args.circuit.now.net c.args.gate.now c.inputs-inputs.result.now 0 c.requires.sound c.requires.gate c.inputs-inputs.ensures.inputs (omega arith)

pub rank-first-requires : goal.rank-first-requires
rank-first-requires c = read_below c.args.circuit.now.net c.args.gate.now c.inputs-inputs.result.now 0 c.requires.sound c.requires.gate c.inputs-inputs.ensures.inputs (omega arith)

pub rank-second-requires : goal.rank-second-requires
rank-second-requires c = read_below c.args.circuit.now.net c.args.gate.now c.inputs-inputs.result.now 1 c.requires.sound c.requires.gate c.inputs-inputs.ensures.inputs (omega arith)

pub returns-then-inputs-eq1-clause-sets : goal.returns-then-inputs-eq1-clause-sets
returns-then-inputs-eq1-clause-sets c =
    let order = variables (nets c.args.circuit.now.net) c.args.circuit.now.binding.words in
    let one : length c.inputs-inputs.result.now ≡ 1 = omega arith in
    c.line_of.ensures.sets
    ∙ ap (λ (rs : List ℕ). monomials c.args.form [] rs 0 1) (one_mapped (rank_in order) c.inputs-inputs.result.now c.args.gate.now.inputs c.rank-by.result c.inputs-inputs.ensures.inputs one c.rank-by.ensures)

pub returns-then-inputs-eq2-clause-sets : goal.returns-then-inputs-eq2-clause-sets
returns-then-inputs-eq2-clause-sets c =
    let order = variables (nets c.args.circuit.now.net) c.args.circuit.now.binding.words in
    let inputs : c.inputs-inputs.result.now ≡ c.args.gate.now.inputs = c.inputs-inputs.ensures.inputs in
    let two : c.inputs-inputs.result.now ≡ get_or c.inputs-inputs.result.now 0 0 ∷ get_or c.inputs-inputs.result.now 1 0 ∷ [] = two_items c.inputs-inputs.result.now (omega arith) in
    let first : c.rank-first.result ≡ rank_in order (get_or c.inputs-inputs.result.now 0 0) = c.rank-first.ensures in
    let second : c.rank-second.result ≡ rank_in order (get_or c.inputs-inputs.result.now 1 0) = c.rank-second.ensures in
    let ranks : c.rank-first.result ∷ c.rank-second.result ∷ [] ≡ map (rank_in order) c.args.gate.now.inputs = (λ i. first i ∷ second i ∷ []) ∙ ap (map (rank_in order)) (sym two ∙ inputs) in
    c.pair_of.ensures.sets ∙ ap (λ (rs : List ℕ). monomials c.args.form [] rs 0 1) ranks
