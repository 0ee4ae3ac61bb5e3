use Rattle.std.proofs.Common.{◌≡◌, ◌++◌, drop}
use Rattle.std.specs.List.{filter}
use Rattle.stage_model.specs.WordStage.{is_of_word}
use Rattle.plain_runs.proofs.word_part.own_ranks.Given as goal

abbrev pub invariant-loop-rank : goal.invariant-loop-rank
invariant-loop-rank l = l.list.items ++ filter (is_of_word l.k l.word) (drop l.rank-index l.ranks) ≡ filter (is_of_word l.k l.word) l.ranks
