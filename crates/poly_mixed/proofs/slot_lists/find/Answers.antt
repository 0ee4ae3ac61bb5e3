use Rattle.poly_mixed.proofs.SlotListLemmas.{is_found}
use Rattle.poly_mixed.proofs.slot_lists.find.Goals as goal

pub returns : goal.returns
returns c = is_found c.args.list.now c.args.slot.now c.binary_search.result c.requires c.binary_search.ensures.position
