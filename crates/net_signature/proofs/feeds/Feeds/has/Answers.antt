use Rattle.std.proofs.Common.{◌≡◌, ◌∙◌, ap, subst, List}
use Rattle.std.specs.Prelude.{is_some}
use Rattle.std.specs.List.{list_any}
use Rattle.std.specs.HashMap.{get_by_text}
use Rattle.net_words.specs.declared.feed.FeedText.{FeedText}
use Rattle.net_signature.specs.Body.{is_feed_of}
use Rattle.net_signature.specs.private.Seen.{feed_key, has_key}
use Rattle.net_signature.proofs.SeenLemmas.{any_same, key_tells}
use Rattle.net_signature.proofs.feeds.Feeds.has.Goals as goal

pub returns : goal.returns
returns c =
    let feed = c.args.feed.now in
    let key = feed_key feed.net feed.cycle in
    let P : List FeedText → Type 0 = λ feeds. c.is_seen.result ≡ list_any (is_feed_of feed.net feed.cycle) feeds in
    subst P c.self.view_is
    (c.is_seen.ensures ∙ ap (λ k. is_some (get_by_text c.self.inside.seen k)) c.requires ∙ c.self.invariant key ∙ any_same (has_key key) (is_feed_of feed.net feed.cycle) (key_tells feed.net feed.cycle) c.self.inside.list.items)
