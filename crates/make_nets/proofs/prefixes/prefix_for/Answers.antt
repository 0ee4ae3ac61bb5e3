use Rattle.std.proofs.Common.{◌≡◌, ◌+◌, ℕ, suc, List, map, arith, subst}
use Rattle.std.specs.Prelude.{IfOk, string_bytes, codes}
use Rattle.std.specs.List.{repeat}
use Rattle.net_words.specs.declared.feed.FeedText.{FeedText}
use Rattle.make_nets.specs.Ports.{outer_names, word_names}
use Rattle.make_nets.specs.Prefix.{most_leading}
use Rattle.make_nets.proofs.MostLemmas.{most_append, most_few}
use Rattle.make_nets.proofs.prefixes.prefix_for.Goals as goal

pub overflow_add-most : goal.overflow_add-most
overflow_add-most c =
    let fed : List (List ℕ) = map (λ (f : FeedText). f.net) c.args.feeds.now in
    omega (arith, most_append (word_names c.args.words.now) fed, most_few (outer_names c.args.words.now fed) c.requires, c.larger-most.ensures, c.most_in_words.ensures, c.most_in_feeds.ensures)

pub returns : goal.returns
returns c =
    let fed : List (List ℕ) = map (λ (f : FeedText). f.net) c.args.feeds.now in
    let all : c.larger-most.result + 1 ≡ suc (most_leading (outer_names c.args.words.now fed)) = omega (arith, most_append (word_names c.args.words.now) fed, c.larger-most.ensures, c.most_in_words.ensures, c.most_in_feeds.ensures) in
    let P : ℕ → Type 0 = λ n. IfOk c.repeat.result (λ text. string_bytes text ≡ repeat n (codes "w")) in
    subst P all c.repeat.ensures.bytes
