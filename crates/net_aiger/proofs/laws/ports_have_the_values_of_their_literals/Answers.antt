use Rattle.net_aiger.proofs.PlainLemmas.{text_plain}
use Rattle.net_aiger.proofs.PortLemmas.{output_values, next_values}
use Rattle.net_aiger.proofs.laws.ports_have_the_values_of_their_literals.Goals as goal

pub returns : goal.returns
returns c = λ text reading net says made. (output_values reading net made (text_plain text reading says), next_values reading net made)
