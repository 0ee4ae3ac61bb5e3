use Rattle.std.proofs.Common.{take}
use Rattle.compose_wiring.specs.private.Plain.{HaveWords}
use Rattle.compose_wiring.proofs.listing.all_words.Given as goal

abbrev pub invariant-loop-number : goal.invariant-loop-number
invariant-loop-number l = HaveWords (take l.number l.blocks) l.bases l.list.items
