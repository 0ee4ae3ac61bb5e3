use Rattle.std.specs.Prelude.{string_bytes}
use Rattle.net_flat.specs.private.KnownNumbers.{known_in}
use Rattle.net_flat.proofs.StateLemmas.{inserted, new_refused}
use Rattle.net_flat.proofs.walker.add_inside.Goals as goal

pub returns-in-Err-clause-fault : goal.returns-in-Err-clause-fault
returns-in-Err-clause-fault c = λ i. new_refused c.args.maker.now i (string_bytes c.args.prefix.now) (known_in c.args.numbers.now) c.args.name.now c.in-Err.stop c.requires.new c.in-Err.ensures.fault

pub returns-clause-number : goal.returns-clause-number
returns-clause-number c = inserted (known_in c.args.numbers.now) (known_in c.insert.new.self) c.args.name.now _ c.in_ok-insert.ensures
