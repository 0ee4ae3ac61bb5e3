use Rattle.net_signature.specs.Statement.{SaysField}
use Rattle.net_signature.specs.Reading.{left, end_of, line_of}
use Rattle.net_signature.proofs.ReaderLemmas.{next_ok}
use Rattle.net_signature.proofs.head.read_field.Goals as goal

pub returns-in-Ok-clause-says : goal.returns-in-Ok-clause-says
returns-in-Ok-clause-says c =
    next_ok (λ m. m) c.field_of.result SaysField (end_of c.args.lines.now) (left c.args.lines.now) (line_of c.in-Ok.line) (left c.required.new.self) c.in-Ok.ensures.line c.field_of.ensures.fits
