use Rattle.gf_iso.proofs.WordLaws.{same_word}
use Rattle.gf_iso.proofs.laws.same_word.Goals as goal

pub returns : goal.returns
returns c = same_word _ _ _ _
