use Rattle.std.proofs.Common.{[], ◌∷◌, ◌++◌}
use Rattle.poly_mixed.specs.Product.{with_rank}
use Rattle.rato_reduce.specs.private.Pairs.{set_if}
use Rattle.rato_reduce.proofs.LevelLemmas.{up_to_union}
use Rattle.rato_reduce.proofs.pair.pair_of.Goals as goal

pub returns-clause-levels : goal.returns-clause-levels
returns-clause-levels c =
    let one = c.level_for-first_level.ensures in
    let other = c.level_for-second_level.ensures in
    record {
      first_up = one;
      second_up = other;
      both_up = up_to_union c.args.cut.now.places c.level_for-first_level.result c.level_for-second_level.result c.greater_of-level.result (c.args.first ∷ []) (c.args.second ∷ []) one other c.greater_of-level.ensures.one c.greater_of-level.ensures.other;
    }

pub returns-clause-sets : goal.returns-clause-sets
returns-clause-sets c =
    let first = c.args.first in
    let second = c.args.second in
    λ i.
    (set_if (c.has_place-one.ensures i) [] ++ set_if (c.has_place-high.ensures i) (second ∷ [])) ++ (set_if (c.has_place-low.ensures i) (first ∷ []) ++ set_if (c.has_place-all.ensures i) (with_rank (first ∷ []) second))
