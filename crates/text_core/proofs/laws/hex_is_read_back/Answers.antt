use Rattle.text_core.proofs.WrittenLemmas.{hex_back}
use Rattle.text_core.proofs.laws.hex_is_read_back.Goals as goal

pub returns : goal.returns
returns c = hex_back
