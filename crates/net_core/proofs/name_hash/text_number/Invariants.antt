use Rattle.std.proofs.Common.{◌≡◌, drop, length}
use Rattle.net_core.specs.private.NameHash.{number_after}
use Rattle.net_core.proofs.name_hash.text_number.Given as goal

abbrev pub invariant-loop-byte : goal.invariant-loop-byte
invariant-loop-byte l = number_after l.number (drop l.byte-index l.text) ≡ number_after (length l.text) l.text
