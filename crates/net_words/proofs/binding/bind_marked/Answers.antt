use Rattle.net_core.specs.NetList.{nets}
use Rattle.net_words.proofs.BindLemmas.{covered_fails, started_fails}
use Rattle.net_words.proofs.BoundLemmas.{bound_parts}
use Rattle.net_words.proofs.binding.bind_marked.Goals as goal

pub returns-in-Err-check_covered : goal.returns-in-Err-check_covered
returns-in-Err-check_covered c =
    covered_fails c.args.net.now c.args.words.now c.args.feeds.now c.in-Ok.bound.items c.bind_words.new.taken.items c.in-Ok-bind_feeds.fed.items c.in-Err-check_covered.fault
    (rw c.requires.taken at c.in-Ok.ensures.fits)
    (rw c.deref.ensures.value at c.in-Ok-bind_feeds.ensures.fits)
    (rw (c.deref-2.ensures.value, c.deref-3.ensures.value) at c.in-Err-check_covered.ensures)

pub returns-in-Err-check_started : goal.returns-in-Err-check_started
returns-in-Err-check_started c =
    started_fails c.args.net.now c.args.words.now c.args.feeds.now c.in-Ok.bound.items c.bind_words.new.taken.items c.in-Ok-bind_feeds.fed.items c.in-Err-check_started.fault
    (rw c.requires.taken at c.in-Ok.ensures.fits)
    (rw c.deref.ensures.value at c.in-Ok-bind_feeds.ensures.fits)
    (rw (c.deref-2.ensures.value, c.deref-3.ensures.value) at c.in-Ok-check_covered.ensures)
    (rw (c.deref-4.ensures.value, c.requires.held) at c.in-Err-check_started.ensures.fits)

pub ordered-requires : goal.ordered-requires
ordered-requires c =
    rw c.bits_of-k.ensures.bits (bound_parts c.args.net.now c.requires.words.0 c.args.words.now c.in-Ok.bound.items c.bind_words.new.taken.items c.in-Ok-bind_feeds.fed.items (nets c.args.net.now) c.requires.words.1 (rw c.requires.taken at c.in-Ok.ensures.fits))
