use Rattle.std.proofs.Common.{◌≡◌, drop}
use Rattle.net_signature.specs.Body.{blocks_whole}
use Rattle.net_signature.proofs.reader.check_blocks.Given as goal

abbrev pub invariant-loop-block : goal.invariant-loop-block
invariant-loop-block l = blocks_whole (drop l.block-index l.blocks) ≡ blocks_whole l.blocks
