use Rattle.std.proofs.Common.{◌∙◌, sym}
use Rattle.net_simplify.proofs.SettleLemmas.{themselves_few}
use Rattle.net_simplify.proofs.known.Known.new.Goals as goal

pub invariant_of-result : goal.invariant_of-result
invariant_of-result c = (c.none.ensures, c.in_ok-bodies.ensures.0 ∙ sym c.in_ok-units.ensures.0, themselves_few c.in_ok-units.units.items c.args.nets c.in_ok-units.ensures)

pub returns : goal.returns
returns c = (c.in_ok-units.ensures, c.in_ok-bodies.ensures)
