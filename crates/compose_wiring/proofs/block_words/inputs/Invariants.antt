use Rattle.std.proofs.Common.{take}
use Rattle.net_blif.specs.Table.{numbers_in}
use Rattle.compose_model.specs.NamedWord.{inputs_among}
use Rattle.compose_wiring.specs.private.Words.{in_some, Knows}
use Rattle.compose_wiring.proofs.block_words.inputs.Given as goal

abbrev pub invariant-loop-place : goal.invariant-loop-place
invariant-loop-place l = Knows (in_some (inputs_among (take l.place l.words))) (numbers_in l.table)
