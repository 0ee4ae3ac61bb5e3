use Rattle.net_simplify.proofs.HalfLemmas.{idle_by, kept_by}
use Rattle.net_simplify.proofs.reducing.without_idle.Goals as goal

pub returns-then-is_idle : goal.returns-then-is_idle
returns-then-is_idle c = record { reduces = idle_by c.args.form _ c.args.place c.places-places.result _ _ c.half-low.result c.requires.rises c.requires.place c.places-places.ensures.count c.table-then-is_idle.ensures.table c.table.ensures.table c.half-low.ensures.bits (c.is_idle.ensures.idle c.if-is_idle.true) c.without.ensures }

pub returns-else-is_idle : goal.returns-else-is_idle
returns-else-is_idle c = record { reduces = kept_by c.args.form c.args.place c.places-places.result _ c.requires.rises c.requires.place c.places-places.ensures.count c.table.ensures.table (c.is_idle.ensures.told c.if-is_idle.false) }
