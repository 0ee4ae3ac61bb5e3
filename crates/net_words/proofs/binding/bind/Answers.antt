use Rattle.std.proofs.Common.{◌≡◌}
use Rattle.net_core.specs.NetList.{nets}
use Rattle.net_words.specs.Bind.{BindingOf}
use Rattle.net_words.specs.BoundTo.{IsBoundTo}
use Rattle.net_words.specs.OneCycle.{IsFlat, IsOneCycle}
use Rattle.net_words.proofs.BindLemmas.{if_bound}
use Rattle.net_words.proofs.BoundLemmas.{bound_to}
use Rattle.net_words.proofs.FlatLemmas.{flat_bound}
use Rattle.net_words.proofs.binding.bind.Goals as goal

pub returns-clause-nets : goal.returns-clause-nets
returns-clause-nets c =
    if_bound c.bind_marked.result (BindingOf c.args.net.now c.args.words.now c.args.feeds.now) (λ bound. bound.nets ≡ nets c.args.net.now)
    (λ bound is. (bound_to c.args.net.now c.requires.words.0 c.args.words.now c.args.feeds.now bound c.latches-held.ensures.sound c.requires.words.1 c.requires.words.2 is).count) c.bind_marked.ensures

pub returns-clause-bound : goal.returns-clause-bound
returns-clause-bound c =
    if_bound c.bind_marked.result (BindingOf c.args.net.now c.args.words.now c.args.feeds.now) (λ bound. IsBoundTo c.args.net.now bound)
    (λ bound is. bound_to c.args.net.now c.requires.words.0 c.args.words.now c.args.feeds.now bound c.latches-held.ensures.sound c.requires.words.1 c.requires.words.2 is) c.bind_marked.ensures

pub returns-clause-one_cycle : goal.returns-clause-one_cycle
returns-clause-one_cycle c =
    if_bound c.bind_marked.result (BindingOf c.args.net.now c.args.words.now c.args.feeds.now) (λ bound. IsFlat c.args.net.now bound → IsOneCycle c.args.net.now bound)
    (λ bound is. flat_bound c.args.net.now bound (bound_to c.args.net.now c.requires.words.0 c.args.words.now c.args.feeds.now bound c.latches-held.ensures.sound c.requires.words.1 c.requires.words.2 is)) c.bind_marked.ensures
