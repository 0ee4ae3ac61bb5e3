use Rattle.std.proofs.Common.{ℕ, List, [], Err}
use Rattle.outcome.specs.Outcome.{Returns}
use Rattle.net_core.specs.NetList.{number_of}
use Rattle.net_words.specs.Feeds.{FeedsOf, free_net}
use Rattle.net_words.specs.declared.feed.Feed.{Feed}
use Rattle.net_words.specs.declared.feed.FeedText.{FeedText}
use Rattle.net_words.proofs.BindLemmas.{feeds_fail, feeds_step, step_fails}
use Rattle.net_words.proofs.feeds.bind_feeds.Goals as goal

pub loop-feed-preserved : goal.loop-feed-preserved
loop-feed-preserved c = λ outcome rest. c.loop-feed.invariant outcome
    (feeds_step c.args.net.now c.args.words.now c.loop-feed.bound.items c.push.new.self.items c.args.feeds.now c.loop-feed.feed-index c.feed-item.result c.feed-item.result c.bound_feed.result c.in-Ok.number outcome c.loop-feed-test.true c.feed-item.is c.in-Ok.ensures.fits c.bound_feed.ensures c.in_ok-push.ensures.items rest)

pub returns-in-Err : goal.returns-in-Err
returns-in-Err c =
    let feed : FeedText = c.feed-item.result in
    let one : ℕ → ℕ = λ n. n in
    let all : List Feed → List Feed = λ feeds. feeds in
    record {
      fits = step_fails one all c.in-Err.fault (Returns (free_net c.args.net.now c.args.words.now feed.line (number_of c.args.net.now feed.net))) (FeedsOf c.args.net.now c.args.words.now [] c.args.feeds.now)
          (λ e fails. c.loop-feed.invariant (Err e) (feeds_fail c.args.net.now c.args.words.now c.loop-feed.bound.items c.args.feeds.now c.loop-feed.feed-index feed feed e c.loop-feed-test.true c.feed-item.is fails)) c.in-Err.ensures.fits;
    }
