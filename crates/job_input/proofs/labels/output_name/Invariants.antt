use Rattle.std.proofs.Common.{◌≡◌, drop, length, filter}
use Rattle.net_words.specs.Roles.{is_output}
use Rattle.job_input.specs.Labelling.{output_name}
use Rattle.job_input.proofs.labels.output_name.Given as goal

abbrev pub invariant-loop-word : goal.invariant-loop-word
invariant-loop-word l =
    record {
      name : output_name (drop l.word-index l.words) ≡ output_name l.words;
      one : length (filter is_output (drop l.word-index l.words)) ≡ 1;
    }
