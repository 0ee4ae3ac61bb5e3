use Rattle.std.proofs.Common.{◌++◌, List, ℕ, map, true, refl, sym, arith}
use Rattle.lists.specs.laws.ListLaws.{length_map as map_long}
use Rattle.net_words.specs.declared.feed.FeedText.{FeedText}
use Rattle.make_nets.specs.MakerNames.{AreMade}
use Rattle.make_nets.specs.Ports.{outer_names, word_names}
use Rattle.make_nets.proofs.LabelLemmas.{append_long}
use Rattle.make_nets.proofs.OuterLemmas.{made_with, not_made, refuse_all}
use Rattle.make_nets.proofs.outer.outer_nets.Goals as goal

pub add_word_names-requires : goal.add_word_names-requires
add_word_names-requires c = record {
  before = c.new-maker.ensures;
  room = omega (arith, append_long (word_names c.args.words.now) (map (λ (f : FeedText). f.net) c.args.feeds.now), c.requires);
}

pub returns-then-not-branch-clause-names : goal.returns-then-not-branch-clause-names
returns-then-not-branch-clause-names c =
    let fed : List (List ℕ) = map (λ (f : FeedText). f.net) c.args.feeds.now in
    (λ none. absurd (cc), λ are. absurd (refuse_all (word_names c.args.words.now) fed (outer_names c.args.words.now fed) c.add_word_names.new.maker c.in_ok-add_word_names.field-0 c.in_ok-add_word_names.ensures c.if-not-branch.true refl are))

pub count_of-requires : goal.count_of-requires
count_of-requires c = omega (arith, append_long (word_names c.args.words.now) (map (λ (f : FeedText). f.net) c.args.feeds.now), c.requires)

pub add_fed_names-requires : goal.add_fed_names-requires
add_fed_names-requires c = record {
  before = (word_names c.args.words.now, made_with (word_names c.args.words.now) c.add_word_names.new.maker c.in_ok-add_word_names.field-0 c.in_ok-add_word_names.ensures c.if-not-branch.false, sym c.count_of.ensures);
  room = omega (arith, append_long (word_names c.args.words.now) (map (λ (f : FeedText). f.net) c.args.feeds.now), c.requires, c.count_of.ensures, map_long (λ (f : FeedText). f.net) c.args.feeds.now);
}

pub returns-then-not-branch-2-clause-names : goal.returns-then-not-branch-2-clause-names
returns-then-not-branch-2-clause-names c =
    let fed : List (List ℕ) = map (λ (f : FeedText). f.net) c.args.feeds.now in
    let was = made_with (word_names c.args.words.now) c.add_word_names.new.maker c.in_ok-add_word_names.field-0 c.in_ok-add_word_names.ensures c.if-not-branch.false in
    (λ none. absurd (cc), λ are. absurd (not_made (word_names c.args.words.now ++ fed) c.add_fed_names.new.maker c.in_ok-add_fed_names.field-0 (c.in_ok-add_fed_names.ensures (word_names c.args.words.now) was) c.if-not-branch-2.true are))

pub returns : goal.returns
returns c =
    let fed : List (List ℕ) = map (λ (f : FeedText). f.net) c.args.feeds.now in
    let was = made_with (word_names c.args.words.now) c.add_word_names.new.maker c.in_ok-add_word_names.field-0 c.in_ok-add_word_names.ensures c.if-not-branch.false in
    let all : AreMade (word_names c.args.words.now ++ fed) c.add_fed_names.new.maker true = made_with (word_names c.args.words.now ++ fed) c.add_fed_names.new.maker c.in_ok-add_fed_names.field-0 (c.in_ok-add_fed_names.ensures (word_names c.args.words.now) was) c.if-not-branch-2.false in
    record { made = all.0; names = (λ some. all.1, λ are. refl) }
