use Rattle.std.proofs.Common.{◌≡◌, List, [], take}
use Rattle.poly_mixed.specs.Labels.{Labelling}
use Rattle.poly_mixed.specs.Steps.{Step}
use Rattle.cert_make.specs.private.Keys.{keys}
use Rattle.cert_make.specs.private.TextSharing.{AreMarks}
use Rattle.cert_make.proofs.pairs.marked.Given as goal

abbrev pub invariant-loop-key : goal.invariant-loop-key
invariant-loop-key l = (labels : Labelling) (pairs : List Step) → l.list ≡ keys labels pairs → AreMarks labels (take l.key-index pairs) [] l.marks
