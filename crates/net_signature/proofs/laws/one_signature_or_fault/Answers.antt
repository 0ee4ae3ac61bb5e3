use Rattle.net_signature.proofs.SigDetermined.{text_determined}
use Rattle.net_signature.proofs.laws.one_signature_or_fault.Goals as goal

pub returns : goal.returns
returns c = text_determined
