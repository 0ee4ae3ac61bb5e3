use Rattle.std.proofs.lemmas.Result.{on_ok_weaker}
use Rattle.net_blif.proofs.RowPlaceLemmas.{row_added}
use Rattle.net_blif.proofs.reader.Reader.read_row.Goals as goal

pub returns : goal.returns
returns c = on_ok_weaker c.add_row.result (λ is line. row_added c.args.self.now c.add_row.new.self line c.args.pattern.now c.args.output c.requires.tokens c.requires.cells c.requires.stands is) c.add_row.ensures
