use Rattle.net_words.proofs.BindDetermined.{binding_determined}
use Rattle.net_words.proofs.laws.one_binding_or_fault.Goals as goal

pub returns : goal.returns
returns c = binding_determined
