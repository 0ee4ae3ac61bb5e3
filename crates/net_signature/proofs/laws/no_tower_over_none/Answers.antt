use Rattle.net_signature.proofs.FeedLemmas.{no_upper}
use Rattle.net_signature.proofs.laws.no_tower_over_none.Goals as goal

pub returns : goal.returns
returns c = no_upper
