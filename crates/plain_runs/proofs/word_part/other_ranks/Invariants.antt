use Rattle.std.proofs.Common.{◌≡◌, ◌++◌, drop, not}
use Rattle.std.specs.List.{filter}
use Rattle.stage_model.specs.WordStage.{is_of_word}
use Rattle.plain_runs.proofs.word_part.other_ranks.Given as goal

abbrev pub invariant-loop-rank : goal.invariant-loop-rank
invariant-loop-rank l = l.list.items ++ filter (λ r. not (is_of_word l.k l.word r)) (drop l.rank-index l.ranks) ≡ filter (λ r. not (is_of_word l.k l.word r)) l.ranks
