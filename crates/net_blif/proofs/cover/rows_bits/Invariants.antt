use Rattle.std.proofs.Common.{◌≡◌, ◌^◌, take}
use Rattle.net_blif.specs.Cover.{fits_some, number_of_bits}
use Rattle.net_blif.proofs.cover.rows_bits.Given as goal

-- the bits of the rows so far
abbrev pub invariant-loop-row : goal.invariant-loop-row
invariant-loop-row l = l.bits ≡ number_of_bits (fits_some (take l.row-index l.rows)) (2 ^ l.inputs)
