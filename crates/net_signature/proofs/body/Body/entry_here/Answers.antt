use Rattle.std.proofs.Common.{rules}
use Rattle.net_signature.specs.Reading.{line_of}
use Rattle.net_signature.proofs.BodyLemmas.{misplaced, says_none, says_within}
use Rattle.net_signature.proofs.body.Body.entry_here.Goals as goal

pub returns-in-Err-clause-says : goal.returns-in-Err-clause-says
returns-in-Err-clause-says c = says_none c.in-Err.fault c.args.self.now (line_of c.args.statement.now) c.in-Err.ensures

pub returns-then-not-may_stand-clause-says : goal.returns-then-not-may_stand-clause-says
returns-then-not-may_stand-clause-says c = misplaced c.args.self.now (line_of c.args.statement.now) c.in-Ok.entry c.in-Ok.ensures (search rules)

pub returns-clause-within : goal.returns-clause-within
returns-clause-within c = says_within (line_of c.args.statement.now) c.in-Ok.entry c.in-Ok.ensures
