use Rattle.std.proofs.Common.{◌≡◌, ◌<◌, ◌^◌}
use Rattle.net_blif.specs.Cover.{fits, number_of_bits}
use Rattle.net_blif.proofs.cover.index_by_index.Given as goal

-- the first bits are those of the row
abbrev pub invariant-loop-index : goal.invariant-loop-index
invariant-loop-index l =
    record {
      small : l.bits < 2 ^ l.index;
      bits : l.bits ≡ number_of_bits (fits l.pattern) l.index;
    }
