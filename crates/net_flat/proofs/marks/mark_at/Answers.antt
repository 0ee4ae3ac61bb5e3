use Rattle.std.proofs.Common.{◌∙◌, sym}
use Rattle.net_flat.proofs.marks.mark_at.Goals as goal

pub returns-then-is_same-clause-place : goal.returns-then-is_same-clause-place
returns-then-is_same-clause-place c = record {
  key = c.in-Some.key.now;
  mark = c.in-Some.mark.now;
  entry = sym c.in-Some.ensures.entry;
  named = sym c.as_bytes.ensures.value ∙ c.is_same.ensures.0 c.if-is_same.true;
}
