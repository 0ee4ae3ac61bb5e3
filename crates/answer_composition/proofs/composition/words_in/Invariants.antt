use Rattle.std.proofs.Common.{◌≡◌, drop}
use Rattle.answer_composition.specs.Compose.{words_in}
use Rattle.answer_composition.proofs.composition.words_in.Given as goal

-- the block, if there is one, is among the rest
abbrev pub invariant-loop-block : goal.invariant-loop-block
invariant-loop-block l = words_in l.blocks l.model ≡ words_in (drop l.block-index l.blocks) l.model
