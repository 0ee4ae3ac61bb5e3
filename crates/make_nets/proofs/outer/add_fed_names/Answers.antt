use Rattle.std.proofs.Common.{◌∙◌, ◌++◌, ◌∷◌, [], ◌+◌, List, ℕ, true, arith, ap, sym, subst, append-nil, map, take, drop}
use Rattle.std.proofs.lemmas.List.{map-append}
use Rattle.net_words.specs.declared.feed.FeedText.{FeedText}
use Rattle.make_nets.specs.MakerNames.{AreMade}
use Rattle.make_nets.proofs.FrontLemmas.{fed_long, fed_more, joined, split_at, take_past}
use Rattle.make_nets.proofs.OuterLemmas.{made_with, refuse_all}
use Rattle.make_nets.proofs.outer.add_fed_names.Goals as goal

pub loop-feed-init : goal.loop-feed-init
loop-feed-init c =
    let P : List (List ℕ) → Type 0 = λ ns. AreMade ns c.args.maker.now true in
    (λ names was. subst P (sym (append-nil names)) was, omega arith)

pub add_name-requires : goal.add_name-requires
add_name-requires c = record {
  before = (c.requires.before.0 ++ map (λ (f : FeedText). f.net) (take c.loop-feed.feed-index c.args.feeds.now), c.loop-feed.invariant.0 c.requires.before.0 c.requires.before.1, fed_long c.requires.before.0 c.args.feeds.now c.loop-feed.feed-index c.loop-feed.count c.args.count c.loop-feed-test.true c.requires.before.2 c.loop-feed.invariant.1);
  room = omega (arith, c.loop-feed.invariant.1, c.loop-feed-test.true, c.requires.room);
}

pub loop-feed-preserved : goal.loop-feed-preserved
loop-feed-preserved c =
    let P : List (List ℕ) → Type 0 = λ ns. AreMade ns c.add_name.new.maker true in (
      λ names was. subst P (fed_more names c.args.feeds.now c.loop-feed.feed-index c.feed-item.result c.as_str.result.now c.loop-feed-test.true c.feed-item.is c.as_str.ensures)
          (made_with ((names ++ map (λ (f : FeedText). f.net) (take c.loop-feed.feed-index c.args.feeds.now)) ++ c.as_str.result.now ∷ []) c.add_name.new.maker c.in_ok-add_name.field-0 (c.in_ok-add_name.ensures (names ++ map (λ (f : FeedText). f.net) (take c.loop-feed.feed-index c.args.feeds.now)) (c.loop-feed.invariant.0 names was)) c.if-not-branch.false),
      omega (arith, c.loop-feed.invariant.1),
    )

pub returns-then-not-branch : goal.returns-then-not-branch
returns-then-not-branch c = λ names was. let f : FeedText → List ℕ = λ feed. feed.net in
    let front : List (List ℕ) = map f (take c.loop-feed.feed-index c.args.feeds.now) in
    let more : List (List ℕ) = map f (drop (c.loop-feed.feed-index + 1) c.args.feeds.now) in
    refuse_all ((names ++ front) ++ c.as_str.result.now ∷ []) more (names ++ map f c.args.feeds.now)
    c.add_name.new.maker c.in_ok-add_name.field-0
    (c.in_ok-add_name.ensures (names ++ front) (c.loop-feed.invariant.0 names was)) c.if-not-branch.true
    (joined names front more (map f c.args.feeds.now) (f c.feed-item.result) (ap (map f) (split_at c.args.feeds.now c.loop-feed.feed-index c.feed-item.result c.loop-feed-test.true c.feed-item.is) ∙ map-append f (take c.loop-feed.feed-index c.args.feeds.now) (c.feed-item.result ∷ drop (c.loop-feed.feed-index + 1) c.args.feeds.now))
    ∙ ap (λ (name : List ℕ). ((names ++ front) ++ name ∷ []) ++ more) (sym c.as_str.ensures))

pub returns : goal.returns
returns c = λ names was. let f : FeedText → List ℕ = λ feed. feed.net in
    let P : List FeedText → Type 0 = λ feeds. AreMade (names ++ map f feeds) c.loop-feed.maker true in
    subst P (take_past c.args.feeds.now c.loop-feed.feed-index (omega (arith, c.loop-feed-test.false))) (c.loop-feed.invariant.0 names was)
