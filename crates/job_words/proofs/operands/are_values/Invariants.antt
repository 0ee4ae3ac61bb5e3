use Rattle.std.proofs.Common.{ℕ, ◌<◌, [], get_or, map, string_bytes}
use Rattle.job_words.specs.Operands.{IsValue}
use Rattle.job_words.proofs.operands.are_values.Given as goal

abbrev pub invariant-loop-i : goal.invariant-loop-i
invariant-loop-i l = (k : ℕ) → k < l.i → IsValue (get_or (map string_bytes l.words) k [])
