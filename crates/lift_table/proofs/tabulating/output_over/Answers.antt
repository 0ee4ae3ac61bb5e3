use Rattle.std.proofs.Common.{rules}
use Rattle.lift_table.proofs.tabulating.output_over.Goals as goal

pub output-requires : goal.output-requires
output-requires g c = record { flat = c.requires.parts.flat; over = c.requires.parts.over; over_output = c.requires.parts.over_output; long = c.requires.long; elements = c.requires.elements }

pub unreachable-requires : goal.unreachable-requires
unreachable-requires g c =
    let some = c.in_ok-value.ensures.complete c.requires.parts.well in
    let found = c.in-None.is in
    search rules
