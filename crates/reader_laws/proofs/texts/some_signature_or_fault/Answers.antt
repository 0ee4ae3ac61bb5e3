use Rattle.reader_laws.proofs.SignatureExists.{some_text}
use Rattle.reader_laws.proofs.texts.some_signature_or_fault.Goals as goal

pub returns : goal.returns
returns c = some_text
