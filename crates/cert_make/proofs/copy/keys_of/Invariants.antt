use Rattle.std.proofs.Common.{◌≡◌, take}
use Rattle.cert_make.specs.private.Kept.{pairs_of}
use Rattle.cert_make.specs.private.Keys.{keys}
use Rattle.cert_make.proofs.copy.keys_of.Given as goal

abbrev pub invariant-loop-entry : goal.invariant-loop-entry
invariant-loop-entry l = l.list.items ≡ keys l.labels (take l.entry-index (pairs_of l.entries))
