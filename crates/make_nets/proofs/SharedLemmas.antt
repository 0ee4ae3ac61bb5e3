-- Lemmas that several crates above cite.
use Rattle.std.proofs.Common.{◌∙◌, ap, sym, ℕ, Bool, List}
use Rattle.std.proofs.lemmas.Option.{slice_get_within, get_or_from_slice_get}
use Rattle.make_nets.proofs.PolyLemmas.{index_bit}
use Rattle.make_nets.proofs.RowLemmas.{HaveBits}
use Rattle.make_nets.specs.PlanValue.{bit_at_net}
use Rattle.net_core.specs.Value.{index_of}

pub index_bits : (bits : List Bool) (nets : List ℕ) → HaveBits bits nets (index_of bits nets)
index_bits bits nets j n got =
    ap (bit_at_net bits) (sym (get_or_from_slice_get nets j n 0 got)) ∙ sym (index_bit bits nets j (slice_get_within nets j n got))
