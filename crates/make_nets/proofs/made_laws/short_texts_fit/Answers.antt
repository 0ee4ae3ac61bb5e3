use Rattle.make_nets.proofs.ShortLemmas.{short_text}
use Rattle.make_nets.proofs.made_laws.short_texts_fit.Goals as goal

pub returns : goal.returns
returns c = short_text
