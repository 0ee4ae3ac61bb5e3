use Rattle.std.proofs.Common.{◌↔◌, drop}
use Rattle.cert_check.specs.Certificate.{IsInWords}
use Rattle.cert_check.proofs.line.is_in_words.Given as goal

abbrev pub invariant-loop-byte : goal.invariant-loop-byte
invariant-loop-byte l = IsInWords (drop l.byte-index l.text) ↔ IsInWords l.text
