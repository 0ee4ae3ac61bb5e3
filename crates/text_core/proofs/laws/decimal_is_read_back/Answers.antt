use Rattle.text_core.proofs.WrittenLemmas.{decimal_back}
use Rattle.text_core.proofs.laws.decimal_is_read_back.Goals as goal

pub returns : goal.returns
returns c = decimal_back
