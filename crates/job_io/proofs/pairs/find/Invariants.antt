use Rattle.std.proofs.Common.{◌≡◌, drop}
use Rattle.std.specs.FinMap.{get}
use Rattle.job_io.specs.Shelf.{files_of}
use Rattle.job_io.proofs.pairs.find.Given as goal

-- the pairs so far have other names
abbrev pub invariant-loop-pair : goal.invariant-loop-pair
invariant-loop-pair l = get (files_of l.pairs) l.name ≡ get (files_of (drop l.pair-index l.pairs)) l.name
