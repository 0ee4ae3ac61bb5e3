use Rattle.net_simplify.proofs.IdleLemmas.{idle_tested, told_tested}
use Rattle.net_simplify.proofs.halves.is_idle.Goals as goal

pub returns-clause-idle : goal.returns-clause-idle
returns-clause-idle c = idle_tested c.args.table c.rows.result c.low_word.result c.args.place c.args.places c.rows.ensures.rows c.requires.place c.requires.places c.low_word.ensures

pub returns-clause-told : goal.returns-clause-told
returns-clause-told c = told_tested c.args.table c.rows.result c.low_word.result c.args.place c.args.places c.rows.ensures.rows c.requires.place c.requires.places c.requires.fits c.low_word.ensures
