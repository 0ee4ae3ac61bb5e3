use Rattle.std.proofs.Common.{◌≡◌, ◌∷◌, rules}
use Rattle.net_signature.specs.Reading.{left, line_of}
use Rattle.net_signature.proofs.BodyLemmas.{lines_read}
use Rattle.net_signature.proofs.reader.read_on.Goals as goal

pub loop-line-preserved : goal.loop-line-preserved
loop-line-preserved c = λ outcome rest.
    let next : left c.loop-line.lines ≡ line_of c.in-Some.line ∷ left c.next.new.self = search rules in
    c.loop-line.invariant outcome (lines_read c.loop-line.body c.read_line.new.self (line_of c.in-Some.line) (left c.next.new.self) (left c.loop-line.lines) outcome next c.in-Ok.ensures rest)
