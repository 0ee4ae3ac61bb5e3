use Rattle.std.proofs.Common.{◌≡◌, ◌^◌, take}
use Rattle.net_blif.specs.Cover.{fits, number_of_bits}
use Rattle.net_blif.proofs.cells.cell_by_cell.Given as goal

-- the bits of the cells so far
abbrev pub invariant-loop-cell : goal.invariant-loop-cell
invariant-loop-cell l =
    record {
      width : l.width ≡ 2 ^ l.cell-index;
      bits : l.bits ≡ number_of_bits (fits (take l.cell-index l.pattern)) (2 ^ l.cell-index);
    }
