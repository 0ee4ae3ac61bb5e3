use Rattle.std.proofs.Common.{◌≡◌, take, []}
use Rattle.job_input.specs.Labelling.{output_name, word_labels}
use Rattle.job_input.proofs.labels.labels_for.Given as goal

abbrev pub invariant-loop-word : goal.invariant-loop-word
invariant-loop-word l = l.labels ≡ record { output = output_name l.words; words = word_labels l.k (take l.word-index l.words); nets = [] }
