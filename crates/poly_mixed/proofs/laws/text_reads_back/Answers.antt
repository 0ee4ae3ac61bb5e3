use Rattle.poly_mixed.proofs.TextLaws.{reads_back}
use Rattle.poly_mixed.proofs.laws.text_reads_back.Goals as goal

pub returns : goal.returns
returns c = reads_back
