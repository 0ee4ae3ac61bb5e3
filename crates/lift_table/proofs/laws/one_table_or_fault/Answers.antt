use Rattle.std.specs.Str.Lines.{lines}
use Rattle.lift_table.proofs.OneOutcomeLemmas.{determined}
use Rattle.lift_table.proofs.laws.one_table_or_fault.Goals as goal

pub returns : goal.returns
returns c = λ k n bytes. determined k n (lines bytes)
