use Rattle.std.proofs.Common.{◌≡◌, ◌∙◌, ◌++◌, ap, arith, List}
use Rattle.text_core.specs.Lines.{tokens_of}
use Rattle.net_blif.specs.Statement.{Token}
use Rattle.net_blif.proofs.FirstLineLemmas.{begins_first, begins_more}
use Rattle.net_blif.proofs.lines.next_joined.Goals as goal

pub loop-goes_on-init : goal.loop-goes_on-init
loop-goes_on-init c =
    let alone : c.add_words.new.words.items ≡ tokens_of c.part-more.result.0.now = c.in_ok-add_words.ensures ∙ ap (λ (ts : List Token). ts ++ tokens_of c.part-more.result.0.now) c.clear.ensures.items in
    record {
      begins = begins_first c.args.text.now c.next_line.result.0.now c.part-more.result.0.now c.next_line.result.1.now c.part-more.result.1 c.add_words.new.words.items c.next_line.ensures.lines c.part-more.ensures.goes_on c.part-more.ensures.front alone;
      count = omega (arith, c.next_line.ensures.shorter);
      shorter = c.next_line.ensures.shorter;
    }

pub loop-goes_on-preserved : goal.loop-goes_on-preserved
loop-goes_on-preserved c =
    record {
      begins = begins_more c.args.text.now c.loop-goes_on.rest.now c.next_line-in-loop-goes_on.result.0.now c.part-more-in-loop-goes_on.result.0.now c.next_line-in-loop-goes_on.result.1.now c.loop-goes_on.count c.loop-goes_on.goes_on c.part-more-in-loop-goes_on.result.1 c.loop-goes_on.words.items c.add_words-in-loop-goes_on.new.words.items c.loop-goes_on-test.true c.loop-goes_on.invariant.begins c.next_line-in-loop-goes_on.ensures.lines c.part-more-in-loop-goes_on.ensures.goes_on c.part-more-in-loop-goes_on.ensures.front c.in_ok-add_words-2.ensures;
      count = omega (arith, c.loop-goes_on.invariant.count, c.next_line-in-loop-goes_on.ensures.shorter);
      shorter = omega (arith, c.loop-goes_on.invariant.shorter, c.next_line-in-loop-goes_on.ensures.shorter);
    }
