use Rattle.std.proofs.Common.{◌≡◌, ◌∙◌, ap, List, ℕ, Some, arith}
use Rattle.std.proofs.lemmas.Option.{slice_get-get_or}
use Rattle.lists.specs.Lists.{times}
use Rattle.net_core.specs.NetList.{nets}
use Rattle.net_words.specs.Variables.{variables, IsRanked}
use Rattle.net_words.proofs.RankLemmas.{variables_once}
use Rattle.rato_reduce.proofs.RankLemmas.{only_rank}
use Rattle.rato_reduce.proofs.first_cut.rank.Goals as goal

pub returns : goal.returns
returns c =
    let list : List ℕ = variables (nets c.args.circuit.now.net) c.args.circuit.now.binding.words in
    let ranked : IsRanked list c.rank_of.result c.args.net = c.rank_of.ensures.ranked c.requires in
    let once : times c.args.net list ≡ 1 = variables_once c.args.circuit.now.net c.args.circuit.now.binding c.args.net c.rank_of.ensures.is_bound c.requires in
    only_rank list c.args.net c.rank_of.result (omega arith) (slice_get-get_or list c.rank_of.result 0 ranked.0 ∙ ap Some ranked.1)
