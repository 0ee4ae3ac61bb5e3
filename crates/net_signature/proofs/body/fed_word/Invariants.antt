use Rattle.std.proofs.Common.{◌≡◌, drop}
use Rattle.net_signature.specs.Body.{fed_word}
use Rattle.net_signature.proofs.body.fed_word.Given as goal

abbrev pub invariant-loop-word : goal.invariant-loop-word
invariant-loop-word l = (l.number ≡ l.word-index) × (fed_word l.number (drop l.word-index l.words) l.name ≡ fed_word 0 l.words l.name)
