use Rattle.std.proofs.Common.{◌≡◌, ◌≤◌, ◌+◌, ◌*◌, drop}
use Rattle.unroll.specs.Places.{fed_count}
use Rattle.unroll.proofs.places.fed_count.Given as goal

-- those so far, and those of the rest
abbrev pub invariant-loop-w : goal.invariant-loop-w
invariant-loop-w l = record {
  sum : l.count + fed_count l.binding.k (drop l.w l.binding.words) ≡ fed_count l.binding.k l.binding.words;
  few : l.count ≤ 64 * l.w;
}
