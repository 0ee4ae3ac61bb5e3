use Rattle.std.proofs.Common.{◌≡◌, ◌++◌, drop}
use Rattle.net_write.specs.private.Fields.{fields_of}
use Rattle.net_write.proofs.lines.add_fields.Given as goal

abbrev pub invariant-loop-number : goal.invariant-loop-number
invariant-loop-number l = l.out.items ++ fields_of l.net (drop l.number-index l.numbers) ≡ l.initial.out.items ++ fields_of l.net l.numbers
