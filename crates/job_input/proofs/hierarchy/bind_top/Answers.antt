use Rattle.std.proofs.Common.{refl}
use Rattle.job_input.proofs.HierarchyLemmas.{top_unbound}
use Rattle.job_input.proofs.hierarchy.bind_top.Goals as goal

pub returns-in-Ok-bound_to : goal.returns-in-Ok-bound_to
returns-in-Ok-bound_to c = record { fits = (c.in-Ok.net, c.in-Ok.ensures.net, (c.in-Ok-bound_to._bound, rw (c.words.ensures, c.feeds.ensures) at c.in-Ok-bound_to.ensures.fits, refl)) }

pub returns-in-Err-bound_to : goal.returns-in-Err-bound_to
returns-in-Err-bound_to c = record { fits = top_unbound c.args.signature.now c.args.design.now c.in-Ok.net c.in-Err-bound_to.refusal c.in-Ok.ensures.net (rw (c.words.ensures, c.feeds.ensures) at c.in-Err-bound_to.ensures.fits) }
