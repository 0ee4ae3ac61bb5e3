use Rattle.std.proofs.Common.{ℕ, ◌+◌, List, drop, map, string_bytes, Result}
use Rattle.job_words.specs.declared.value_fault.ValueFault.{ValueFault}
use Rattle.answer_polynomials.specs.Values.{ElementsOf}
use Rattle.answer_polynomials.proofs.ElementLemmas.{Rest}
use Rattle.answer_polynomials.proofs.values.read_elements.Given as goal

-- what may come of the rest may come of the whole
abbrev pub invariant-loop-i : goal.invariant-loop-i
invariant-loop-i g l = (outcome : Result (List ℕ) ValueFault) → Rest (g.F.Ring.degree l.field) (l.i + 1) l.elements.items (drop l.i (map string_bytes l.values)) outcome → ElementsOf (g.F.Ring.degree l.field) 1 (map string_bytes l.values) outcome
