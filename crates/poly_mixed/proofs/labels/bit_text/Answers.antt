use Rattle.std.proofs.Common.{rules, append_assoc}
use Rattle.poly_mixed.proofs.labels.bit_text.Goals as goal

pub returns : goal.returns
returns c = search (rules, append_assoc)
