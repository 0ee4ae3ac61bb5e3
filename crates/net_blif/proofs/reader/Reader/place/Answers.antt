use Rattle.std.proofs.Common.{rules, arith}
use Rattle.std.proofs.lemmas.Grind.{common_steps}
use Rattle.net_blif.proofs.PlacingLemmas.{placed_read}
use Rattle.net_blif.proofs.reader.Reader.place.Goals as goal

pub returns-clause-read : goal.returns-clause-read
returns-clause-read c = placed_read c.args.self.now _ c.args.line c.args.statement.now c.requires.kind (first_of (search rules, grind (arith, common_steps)))
