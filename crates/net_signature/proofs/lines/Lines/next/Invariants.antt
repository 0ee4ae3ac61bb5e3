use Rattle.std.proofs.Common.{◌≡◌, ◌≤◌, length}
use Rattle.net_signature.specs.Reading.{left, end_of}
use Rattle.net_signature.proofs.lines.Lines.next.Given as goal

abbrev pub invariant-loop-self : goal.invariant-loop-self
invariant-loop-self l = record {
  left : left l.self ≡ left l.initial.self;
  end : end_of l.self ≡ end_of l.initial.self;
  shorter : length l.self.rest.now ≤ length l.initial.self.rest.now;
}

abbrev pub decreases-loop-self : goal.decreases-loop-self
decreases-loop-self l = length l.self.rest.now
