use Rattle.std.proofs.Common.{◌≡◌, drop, map}
use Rattle.net_aiger.specs.Numbers.{numbers_of}
use Rattle.net_aiger.proofs.NumberLemmas.{after_numbers}
use Rattle.net_aiger.proofs.numbers.numbers.Given as goal

-- the numbers so far, and those of the words that are left
abbrev pub invariant-loop-word : goal.invariant-loop-word
invariant-loop-word l = after_numbers l.numbers.items (numbers_of (drop l.word-index (map (λ word. word.now) l.words))) ≡ numbers_of (map (λ word. word.now) l.words)
