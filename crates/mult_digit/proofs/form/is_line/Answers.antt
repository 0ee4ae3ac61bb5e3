use Rattle.std.proofs.Common.{◌∙◌, ap, sym}
use Rattle.net_words.specs.declared.feed.FeedText.{FeedText}
use Rattle.mult_digit.proofs.FormLemmas.{line_is}
use Rattle.mult_digit.proofs.form.is_line.Goals as goal

pub returns : goal.returns
returns c = λ feed got.
    line_is c.args.k c.args.width c.args.feeds.now c.args.i feed c.index-feeds-i.result c.index-feeds-bit.result c.as_str.result.now c.is_cycle-cycle.result c.is_place-source.result c.is_named-net.result c.all_of.result
    got c.index-feeds-i.is c.index-feeds-bit.is (c.as_str.ensures ∙ sym (ap (λ (f : FeedText). f.net) c.index-feeds-bit.is)) c.requires.net c.is_cycle-cycle.ensures c.is_place-source.ensures c.is_named-net.ensures c.all_of.ensures
