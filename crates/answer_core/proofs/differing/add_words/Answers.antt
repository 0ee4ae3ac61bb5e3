use Rattle.std.proofs.Common.{◌∙◌, ◌++◌, ap, sym, refl, get_or, arith}
use Rattle.answer_core.specs.DifferingLines.{word_lines}
use Rattle.answer_core.proofs.DifferingLineLemmas.{one_more, all_lines, lines_taken}
use Rattle.answer_core.proofs.differing.add_words.Goals as goal

pub loop-word-init : goal.loop-word-init
loop-word-init c = refl

pub loop-word-preserved : goal.loop-word-preserved
loop-word-preserved c =
    let words = c.args.labels.now.words in
    let input = c.args.input.now in
    let word = c.loop-word.word in
    one_more words input c.loop-word.text.items c.add_word.new.lines.items c.name.result.now (c.args.text.now.items ++ word_lines words input) word (get_or input word 0) 0 (omega (arith, c.loop-word-test.true, c.words-word-end.ensures.value))
    (omega (arith, c.loop-word-test.true, c.words-word-end.ensures.few, c.told-input)) refl c.name.ensures c.loop-word.invariant c.in_ok-add_word.ensures

pub returns : goal.returns
returns c =
    let words = c.args.labels.now.words in
    let input = c.args.input.now in
    let start = c.args.text.now.items in
    all_lines words input c.loop-word.text.items (start ++ word_lines words input) c.loop-word.word (omega (arith, c.loop-word-test.false, c.words-word-end.ensures.value)) c.loop-word.invariant ∙ ap (λ t. start ++ t) (sym (lines_taken words input))
