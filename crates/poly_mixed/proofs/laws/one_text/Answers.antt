use Rattle.poly_mixed.proofs.TextLaws.{one_text}
use Rattle.poly_mixed.proofs.laws.one_text.Goals as goal

pub returns : goal.returns
returns c = one_text
