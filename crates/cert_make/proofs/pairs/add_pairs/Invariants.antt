use Rattle.std.proofs.Common.{◌≡◌, ◌≤◌, ℕ, ◌++◌}
use Rattle.std.specs.List.{AllByRecursion}
use Rattle.cert_make.specs.Writable.{IsWritablePair}
use Rattle.cert_make.specs.private.Kept.{pairs_of}
use Rattle.cert_make.specs.private.TextSharing.{IsSharingOf}
use Rattle.cert_make.proofs.WrittenLemmas.{shares_at, left_at}
use Rattle.cert_make.proofs.pairs.add_pairs.Given as goal

abbrev pub invariant-loop-i : goal.invariant-loop-i
invariant-loop-i l = record {
  whole : l.out.items ++ left_at l.labels (pairs_of l.entries) l.i ≡ l.initial.out.items ++ left_at l.labels (pairs_of l.entries) 0;
  known : (k : ℕ) → AllByRecursion (IsWritablePair l.labels k) (pairs_of l.entries) → IsSharingOf l.labels k (pairs_of l.entries) (shares_at (pairs_of l.entries) l.i) l.sharing;
  room : l.sharing.count ≤ l.i;
}
