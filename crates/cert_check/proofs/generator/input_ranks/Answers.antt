use Rattle.std.proofs.Common.{◌≡◌, Some, ap, sym, ◌∙◌, ◌∷◌, ◌++◌, [], ℕ, List, get_or}
use Rattle.std.specs.Prelude.{slice_get}
use Rattle.std.proofs.lemmas.List.{map_more}
use Rattle.std.proofs.lemmas.Option.{slice_get-get_or}
use Rattle.net_core.specs.NetList.{nets}
use Rattle.net_words.specs.Variables.{variables}
use Rattle.cert_check.specs.Running.{rank_among}
use Rattle.net_core.proofs.SharedLemmas.{input_below}
use Rattle.cert_check.proofs.generator.input_ranks.Goals as goal

pub rank-requires : goal.rank-requires
rank-requires c =
    let items = c.inputs-input-items.ensures.inputs in
    let at : slice_get c.inputs-input-items.result.now c.loop-input.input-index ≡ Some (get_or c.inputs-input-items.result.now c.loop-input.input-index 0) = slice_get-get_or c.inputs-input-items.result.now c.loop-input.input-index 0 c.loop-input-test.true in
    input_below c.args.circuit.now.net c.args.gate.now c.requires.sound c.requires.gate (get_or c.inputs-input-items.result.now c.loop-input.input-index 0)
    (c.loop-input.input-index, ap (λ xs. slice_get xs c.loop-input.input-index) (sym items) ∙ at)

pub loop-input-preserved : goal.loop-input-preserved
loop-input-preserved c =
    let xs : List ℕ = c.inputs-input-items.result.now in
    let f : ℕ → ℕ = rank_among (variables (nets c.args.circuit.now.net) c.args.circuit.now.binding.words) in
    record {
      items = c.loop-input.invariant.items;
      ranks =
          c.in_ok-push.ensures.ok
          ∙ ((λ i. c.loop-input.invariant.ranks i ++ c.rank.ensures i ∷ [])
          ∙ sym (map_more f xs c.loop-input.input-index 0 c.loop-input-test.true));
    }
