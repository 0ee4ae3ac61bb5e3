use Rattle.net_signature.proofs.reader.read_signature.Goals as goal

pub returns : goal.returns
returns c = rw (c.new-lines.ensures.left, c.new-lines.ensures.end) at c.read_lines.ensures
