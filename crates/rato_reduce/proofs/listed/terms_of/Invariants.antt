use Rattle.std.proofs.Common.{◌≡◌, ◌++◌, drop}
use Rattle.std.specs.List.{AllByRecursion}
use Rattle.rato_reduce.specs.private.Buckets.{joined}
use Rattle.rato_reduce.specs.private.CutTerms.{IsBitTerm}
use Rattle.rato_reduce.proofs.listed.terms_of.Given as goal

abbrev pub invariant-loop-bucket : goal.invariant-loop-bucket
invariant-loop-bucket l = record {
  each : AllByRecursion IsBitTerm (joined (drop l.bucket-index l.list));
  so_far : l.terms.items ++ joined (drop l.bucket-index l.list) ≡ joined l.list;
}
