use Rattle.std.proofs.Common.{◌∙◌, sym}
use Rattle.net_flat.proofs.marks.stands_at.Goals as goal

pub returns-in-Some : goal.returns-in-Some
returns-in-Some c = λ same. record {
  key = c.in-Some.key.now;
  mark = c.in-Some.field-0-1.now;
  entry = sym c.in-Some.ensures.entry;
  named = sym c.as_bytes.ensures.value ∙ c.is_same.ensures.0 same;
}
