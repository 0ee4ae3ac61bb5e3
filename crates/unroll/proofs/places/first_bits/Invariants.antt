use Rattle.std.proofs.Common.{◌≡◌, ◌<◌, ◌+◌, ℕ, length, drop}
use Rattle.std.specs.Prelude.{slice_index_or}
use Rattle.net_core.specs.NetList.{nets}
use Rattle.unroll.specs.Places.{cycle_nets, fed_count, first_bit}
use Rattle.unroll.proofs.places.first_bits.Given as goal

-- the words so far have their first bits, and those of the rest follow
abbrev pub invariant-loop-w : goal.invariant-loop-w
invariant-loop-w l = record {
  long : length l.firsts.items ≡ l.w;
  each : (i : ℕ) → i < l.w → slice_index_or l.firsts.items i 0 ≡ first_bit l.binding.k (cycle_nets (nets l.net) l.cycles) l.binding.words i;
  rest : (j : ℕ) → first_bit l.binding.k l.next (drop l.w l.binding.words) j ≡ first_bit l.binding.k (cycle_nets (nets l.net) l.cycles) l.binding.words (l.w + j);
  total : l.next + fed_count l.binding.k (drop l.w l.binding.words) ≡ cycle_nets (nets l.net) l.cycles + fed_count l.binding.k l.binding.words;
}
