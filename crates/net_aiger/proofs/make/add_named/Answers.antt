use Rattle.net_aiger.proofs.MakeLemmas.{new_number}
use Rattle.net_aiger.proofs.make.add_named.Goals as goal

pub returns-clause-number : goal.returns-clause-number
returns-clause-number c = new_number c.args.maker.now c.net.new.self c.args.name.now c.in_ok-number.number c.requires.is_new (rw c.as_str.ensures at c.in_ok-number.ensures.made) (rw c.as_str.ensures at c.in_ok-number.ensures.number)
