use Rattle.std.proofs.Common.{sym}
use Rattle.net_aiger.proofs.NameLemmas.{fits_where_same, lookup_fits}
use Rattle.net_aiger.proofs.reader.Reader.port_name.Goals as goal

pub returns-in-Some-clause-fits : goal.returns-in-Some-clause-fits
returns-in-Some-clause-fits c = fits_where_same c.new.result c.as_str.result.now c.new.ensures (rw c.as_str.ensures (lookup_fits c.self.inside.symbols.entries c.args.port c.in-Some.name.now c.self.invariant.1 (sym c.in-Some.ensures.value)))
