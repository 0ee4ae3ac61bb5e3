use Rattle.std.proofs.Common.{◌≡◌, ℕ, ◌<◌, [], false, get_or, map, string_bytes}
use Rattle.job_words.specs.private.OptionPlace.{begins_options}
use Rattle.job_words.proofs.operands.options_begin.Given as goal

abbrev pub invariant-loop-i : goal.invariant-loop-i
invariant-loop-i l = (k : ℕ) → k < l.i → begins_options (get_or (map string_bytes l.words) k []) ≡ false
