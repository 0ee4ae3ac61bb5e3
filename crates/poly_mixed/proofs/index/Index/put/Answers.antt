use Rattle.std.proofs.Common.{sym, ◌∙◌, ap}
use Rattle.slab.specs.Slab.{Slab}
use Rattle.poly_mixed.specs.Monomial.{Monomial}
use Rattle.poly_mixed.specs.private.Listed.{list_at}
use Rattle.poly_mixed.proofs.IndexLemmas.{put_listed}
use Rattle.poly_mixed.proofs.index.Index.put.Goals as goal

pub invariant_of-self-in-Ok : goal.invariant_of-self-in-Ok
invariant_of-self-in-Ok c bit =
    put_listed bit c.self.inside.slots.slots c.reserve.new.self.slots c.insert_reserved.new.self.slots c.in_ok-copy.copy c.vacant_key-slot.result c.insert_reserved.result c.bits.result.now
    (list_at c.self.inside.lists) (list_at c.put.new.self) (ap (λ (s : Slab Monomial). s.slots) c.in_ok-reserve.ensures.rest_kept) (c.insert_reserved.ensures.key ∙ sym c.vacant_key-slot.ensures.value) c.bits.ensures.value c.bits.ensures.rising
    c.insert_reserved.ensures.was_vacant (record { changed = c.insert_reserved.ensures.updates.changed; others = c.insert_reserved.ensures.updates.others }) c.in-Ok.ensures (c.self.invariant bit)
