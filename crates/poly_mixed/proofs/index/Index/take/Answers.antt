use Rattle.std.proofs.Common.{sym}
use Rattle.poly_mixed.specs.private.Listed.{list_at}
use Rattle.poly_mixed.proofs.IndexLemmas.{take_listed}
use Rattle.poly_mixed.proofs.index.Index.take.Goals as goal

pub invariant_of-self-2 : goal.invariant_of-self-2
invariant_of-self-2 c bit =
    take_listed bit c.self.inside.slots.slots c.try_remove.new.self.slots c.in_ok-mono.mono c.args.slot c.bits.result.now (list_at c.self.inside.lists) (list_at c.drop.new.self)
    c.bits.ensures.value c.bits.ensures.rising (sym c.in_ok-mono.ensures.value) (record { changed = c.in_ok-mono.ensures.updates.changed; others = c.in_ok-mono.ensures.updates.others }) c.drop.ensures (c.self.invariant bit)
