use Rattle.net_aiger.proofs.SharedLemmas.{symbol_noted}
use Rattle.net_aiger.proofs.reader.Reader.add_shared.Goals as goal

pub returns-clause-noted : goal.returns-clause-noted
returns-clause-noted c = λ symbol at. symbol_noted c.args.self.now.header c.header.result c.add_symbol.new.ports c.in-Some.port c.in-Some.name.now _ symbol c.header.ensures c.in-Some.ensures at c.in_ok-add_symbol.ensures.noted
