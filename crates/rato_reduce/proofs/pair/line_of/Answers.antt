use Rattle.std.proofs.Common.{ℕ, List, [], ◌∷◌, ◌++◌, ◌∙◌, append-nil, arith}
use Rattle.rato_reduce.specs.private.Pairs.{set_if}
use Rattle.rato_reduce.proofs.LevelLemmas.{up_to_union}
use Rattle.rato_reduce.proofs.pair.line_of.Goals as goal

pub returns-clause-levels : goal.returns-clause-levels
returns-clause-levels c =
    let level = c.level_for-level.result in
    let up = c.level_for-level.ensures in
    record {
      first_up = up;
      second_up = up;
      both_up = up_to_union c.args.cut.now.places level level level (c.args.by ∷ []) (c.args.by ∷ []) up up (omega arith) (omega arith);
    }

pub returns-clause-sets : goal.returns-clause-sets
returns-clause-sets c =
    let by : List ℕ = c.args.by ∷ [] in
    (λ i. append-nil (set_if c.has_place-one.result []) i ++ append-nil (set_if c.has_place-low.result by) i)
    ∙ (λ i. set_if (c.has_place-one.ensures i) [] ++ set_if (c.has_place-low.ensures i) by)
