use Rattle.std.proofs.Common.{rules, ◌<◌, ◌≤◌, sym, subst, arith}
use Rattle.net_aiger.specs.Reading.{Reading, driven}
use Rattle.net_aiger.proofs.UnnamedLemmas.{not_own}
use Rattle.net_aiger.proofs.reader.Reader.of_name.Goals as goal

pub returns-then-have_none-clause-own : goal.returns-then-have_none-clause-own
returns-then-have_none-clause-own c =
    let P : Reading → Type 0 = λ reading. driven reading.header ≤ c.args.port in
    let behind : driven c.self.inside.header ≤ c.args.port = subst P (sym c.self.view_is) c.requires in
    let less : c.args.net < c.args.port = omega (arith, behind, c.driven.ensures.count) in
    sym (not_own c.args.self.now c.args.port c.args.net (search rules) less c.ranges.port.fits)
