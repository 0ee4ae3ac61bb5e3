use Rattle.net_signature.proofs.NamesLemmas.{sig_names}
use Rattle.net_signature.proofs.laws.words_have_names.Goals as goal

pub returns : goal.returns
returns c = sig_names
