use Rattle.std.proofs.Common.{rules, append_assoc}
use Rattle.cert_make.proofs.lines.add_bit.Goals as goal

pub returns : goal.returns
returns c = search (rules, append_assoc)
