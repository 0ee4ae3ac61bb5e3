use Rattle.net_blif.specs.private.Once.{once_in, with_line}
use Rattle.net_blif.proofs.StepLemmas.{after_got}
use Rattle.net_blif.proofs.once.Once.add_lines.Goals as goal

pub loop-place-preserved : goal.loop-place-preserved
loop-place-preserved c = after_got with_line c.args.items.now c.loop-place.place c.get-item.result _ (once_in c.loop-place.self) (once_in c.add_line.new.self) c.get-item.ensures.item c.loop-place.invariant c.in_ok-add_line.ensures
