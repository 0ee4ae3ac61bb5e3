use Rattle.std.proofs.Common.{◌∙◌}
use Rattle.net_simplify.proofs.WordLemmas.{circuit_again, cycle_again, nets_again}
use Rattle.net_simplify.proofs.circuit.with_words.Goals as goal

pub rebind-requires : goal.rebind-requires
rebind-requires c = nets_again c.args.net c.args.binding.now c.deref.result.now c.requires.sound c.requires.bound (c.deref.ensures.value ∙ c.in_ok-list.ensures)

pub new-requires : goal.new-requires
new-requires c = λ flat. cycle_again c.args.net c.args.binding.now c.in_ok-words.words c.deref.result.now c.requires.bound (c.deref.ensures.value ∙ c.in_ok-list.ensures) c.in_ok-words.ensures.rebound

pub returns : goal.returns
returns c = circuit_again c.args.net c.args.binding.now c.in_ok-words.words c.deref.result.now c.in-Ok.circuit c.requires.bound (c.deref.ensures.value ∙ c.in_ok-list.ensures) c.in_ok-words.ensures.rebound c.in-Ok.ensures.made
