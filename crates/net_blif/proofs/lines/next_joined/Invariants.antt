use Rattle.std.proofs.Common.{◌+◌, ◌<◌, ◌≤◌, length}
use Rattle.net_blif.specs.private.FirstLine.{BeginsSo}
use Rattle.net_blif.proofs.lines.next_joined.Given as goal

-- the tokens so far, to which those of what is left may belong
abbrev pub invariant-loop-goes_on : goal.invariant-loop-goes_on
invariant-loop-goes_on l =
    record {
      begins : BeginsSo l.text l.words.items l.count l.goes_on l.rest;
      count : length l.rest + l.count ≤ length l.text;
      shorter : length l.rest < length l.text;
    }

abbrev pub decreases-loop-goes_on : goal.decreases-loop-goes_on
decreases-loop-goes_on l = length l.rest
