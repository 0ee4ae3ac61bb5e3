use Rattle.std.proofs.Common.{rules, ◌≡◌, ◌≤◌, ◌+◌, true, length, take, get_or}
use Rattle.std.specs.List.{list_all}
use Rattle.net_blif.specs.Statement.{is_cell}
use Rattle.net_blif.proofs.RowPlaceLemmas.{row_alone}
use Rattle.net_blif.proofs.rows.row_in_place.Goals as goal

pub returns : goal.returns
returns c =
    let text = c.args.text.now in
    let n = c.args.inputs in
    let room : n + 3 ≤ length text = search rules in
    let space : get_or text n 0 ≡ 32 = search rules in
    let feed : get_or text (n + 2) 0 ≡ 10 = search rules in
    let cells : list_all is_cell (take n text) ≡ true = search rules in
    row_alone text n c.in_ok-output.output room space c.in_ok-output.ensures feed c.requires cells
