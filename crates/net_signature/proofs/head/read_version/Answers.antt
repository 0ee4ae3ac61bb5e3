use Rattle.net_signature.specs.Statement.{SaysVersion}
use Rattle.net_signature.specs.Reading.{left, end_of, line_of}
use Rattle.net_signature.proofs.ReaderLemmas.{next_ok}
use Rattle.net_signature.proofs.head.read_version.Goals as goal

pub returns-in-Ok-clause-says : goal.returns-in-Ok-clause-says
returns-in-Ok-clause-says c =
    next_ok (λ v. v) c.version_of.result SaysVersion (end_of c.args.lines.now) (left c.args.lines.now) (line_of c.in-Ok.line) (left c.required.new.self) c.in-Ok.ensures.line c.version_of.ensures.fits
