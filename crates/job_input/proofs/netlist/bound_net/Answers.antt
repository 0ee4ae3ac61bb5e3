use Rattle.job_input.proofs.NetlistLemmas.{text_bound}
use Rattle.job_input.specs.NetlistOf.{by_ending}
use Rattle.job_input.proofs.netlist.bound_net.Goals as goal

pub bound_to-requires : goal.bound_to-requires
bound_to-requires c = record { words = rw (c.words.ensures, c.feeds.ensures) c.requires.words }

pub returns-in-Ok-clause-fits : goal.returns-in-Ok-clause-fits
returns-in-Ok-clause-fits c = text_bound (by_ending c.args.file.now c.args.text.items) c.args.signature.now c.in-Ok.net c.bound_to.result c.in-Ok.ensures.fits (rw (c.words.ensures, c.feeds.ensures) at c.bound_to.ensures.fits)
