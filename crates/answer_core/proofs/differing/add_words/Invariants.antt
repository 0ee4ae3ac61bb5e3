use Rattle.std.proofs.Common.{◌≡◌, ◌++◌, drop}
use Rattle.answer_core.specs.DifferingLines.{word_lines}
use Rattle.answer_core.proofs.differing.add_words.Given as goal

abbrev pub invariant-loop-word : goal.invariant-loop-word
invariant-loop-word l = l.text.items ++ word_lines (drop l.word l.labels.words) (drop l.word l.input) ≡ l.initial.text.items ++ word_lines l.labels.words l.input
