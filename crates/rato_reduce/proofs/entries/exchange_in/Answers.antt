use Rattle.std.proofs.Common.{length, Some, ap}
use Rattle.rato_reduce.specs.private.CutKey.{CutKey}
use Rattle.rato_reduce.proofs.entries.exchange_in.Goals as goal

pub set_only-requires : goal.set_only-requires
set_only-requires c = ap length (c.is_only.ensures c.if-is_only.true)

pub returns-then-is_only-clause-some : goal.returns-then-is_only-clause-some
returns-then-is_only-clause-some c = record {
  key = c.in-Some.key;
  old_is = c.in-Some.is;
  bits = c.is_only.ensures c.if-is_only.true;
  new_is = ap (λ (k : CutKey). Some (k, c.in-Some.c)) c.set_only.ensures;
}
