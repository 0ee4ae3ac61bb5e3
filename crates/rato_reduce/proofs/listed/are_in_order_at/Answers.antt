use Rattle.std.proofs.lemmas.List.Elements.{pair_read}
use Rattle.rato_reduce.proofs.ListedLemmas.{StandsBefore}
use Rattle.rato_reduce.proofs.listed.are_in_order_at.Goals as goal

pub returns : goal.returns
returns c = λ yes. pair_read c.args.terms.now StandsBefore c.args.i c.args.next c.index-terms-i.result c.index-terms-next.result c.requires.one c.requires.other c.index-terms-i.is c.index-terms-next.is (c.precedes.ensures yes)
