use Rattle.poly_mixed.proofs.SlotListLemmas.{past_last}
use Rattle.poly_mixed.proofs.slot_lists.is_past.Goals as goal

pub returns-in_default : goal.returns-in_default
returns-in_default c = past_last c.args.list.now c.args.slot c.requires
