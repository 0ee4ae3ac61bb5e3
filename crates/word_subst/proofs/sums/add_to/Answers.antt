use Rattle.std.proofs.Common.{◌≡◌, Some, arith}
use Rattle.std.specs.Map.{lookup}
use Rattle.std.specs.Ordering.{eq_by_cmp}
use Rattle.poly_mixed.specs.Monomial.{text_cmp}
use Rattle.word_subst.proofs.GroupLemmas.{entry_univariate}
use Rattle.word_subst.proofs.sums.add_to.Goals as goal

pub plus-requires-clause-left : goal.plus-requires-clause-left
plus-requires-clause-left g c =
    let had : lookup (eq_by_cmp text_cmp c.args.rest) c.args.map.now.entries ≡ Some c.get-in-Occupied.result.now = grind arith in
    entry_univariate (g.F.Ring.degree c.args.field.now) c.args.rest c.args.map.now.entries c.get-in-Occupied.result.now c.requires.old had
