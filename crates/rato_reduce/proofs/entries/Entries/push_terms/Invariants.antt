use Rattle.std.proofs.Common.{◌≡◌, ◌++◌, map}
use Rattle.std.specs.List.{AllByRecursion}
use Rattle.rato_reduce.specs.private.CutTerms.{term_of, IsBitTerm}
use Rattle.rato_reduce.proofs.entries.Entries.push_terms.Given as goal

abbrev pub invariant-loop-key : goal.invariant-loop-key
invariant-loop-key l = record {
  each : AllByRecursion IsBitTerm (map term_of l.key-iterator);
  so_far : l.terms.items ++ map term_of l.key-iterator ≡ l.fn.terms.items ++ map term_of l.self.entries;
}
