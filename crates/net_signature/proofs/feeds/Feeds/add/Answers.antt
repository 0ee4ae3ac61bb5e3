use Rattle.std.proofs.Common.{◌≡◌, ◌∙◌, sym, false}
use Rattle.std.specs.List.{list_any}
use Rattle.net_signature.specs.Body.{is_feed_of}
use Rattle.net_signature.proofs.feeds.Feeds.add.Goals as goal

pub returns : goal.returns
returns c =
    let none : list_any (is_feed_of c.args.feed.net c.args.feed.cycle) c.args.self.now ≡ false = sym c.has.ensures ∙ c.if-has.false in
    rw none c.push.ensures
