use Rattle.std.proofs.Common.{arith}
use Rattle.net_write.specs.Written.{pattern}
use Rattle.net_write.proofs.RowLemmas.{pattern_length}
use Rattle.net_write.proofs.WriteLemmas.{row_behind}
use Rattle.net_write.proofs.rows.add_row.Goals as goal

pub returns : goal.returns
returns c =
    row_behind c.args.out.now.items c.add_pattern.new.out.items _ (pattern c.args.inputs c.args.index) (omega (arith, pattern_length c.args.inputs c.args.index, c.if-inputs-eq0.false))
    c.in_ok-add_pattern.ensures c.in_ok-extend_from_slice-2.ensures.items
