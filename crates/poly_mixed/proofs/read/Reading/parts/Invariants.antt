use Rattle.std.proofs.Common.{◌≡◌, ◌-◌, ◌+◌, Ok, length}
use Rattle.poly_mixed.specs.private.Reading.{reading, read_on}
use Rattle.poly_mixed.specs.private.ReadingState.{progress, IsFresh}
use Rattle.poly_mixed.proofs.read.Reading.parts.Given as goal

abbrev pub invariant-loop : goal.invariant-loop
invariant-loop l = record {
  said : read_on (length l.bytes + 1 - l.counter) l.labels l.k (Ok (progress l.next l.self.sum.terms l.self.coefficient l.self.mono)) ≡ reading l.labels l.k l.bytes;
  fresh : IsFresh l.next l.self.coefficient l.self.mono;
}
