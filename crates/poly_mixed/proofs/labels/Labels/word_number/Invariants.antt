use Rattle.std.proofs.Common.{◌≡◌, ◌+◌, drop}
use Rattle.std.specs.Option.{option_map}
use Rattle.poly_mixed.specs.Labels.{word_of}
use Rattle.poly_mixed.proofs.labels.Labels.word_number.Given as goal

abbrev pub invariant-loop-i : goal.invariant-loop-i
invariant-loop-i l = option_map (λ k. l.i + k) (word_of (drop l.i l.self.words) l.name) ≡ word_of l.self.words l.name
