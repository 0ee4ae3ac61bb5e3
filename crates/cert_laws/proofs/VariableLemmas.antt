-- Each net stands among the variables, and each at its own rank.
use Rattle.std.proofs.Common.{◌≡◌, ℕ, ◌<◌, arith}
use Rattle.lists.specs.Lists.{Has, times}
use Rattle.lists.specs.laws.HasLaws.{times_some}
use Rattle.net_core.specs.NetList.{NetList, nets}
use Rattle.net_words.proofs.RankLemmas.{variables_once}
use Rattle.net_words.specs.Binding.{Binding}
use Rattle.net_words.specs.OneCycle.{IsOneCycle}
use Rattle.net_words.specs.Variables.{variables}

pub stands_in : (net : NetList) (binding : Binding) (n : ℕ) → IsOneCycle net binding → n < nets net → Has (variables (nets net) binding.words) n
stands_in net binding n one less = let once : times n (variables (nets net) binding.words) ≡ 1 = variables_once net binding n one less in times_some n (variables (nets net) binding.words) (omega (arith, once))
