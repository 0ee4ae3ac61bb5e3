use Rattle.std.proofs.Common.{◌≡◌, drop, true}
use Rattle.net_aiger.specs.Checks.{is_known, known}
use Rattle.net_aiger.proofs.reader.Reader.check_known.Given as goal

-- the uses so far are of variables that are defined, the last one too
abbrev pub invariant-loop-one : goal.invariant-loop-one
invariant-loop-one l =
    record {
      same : known l.self.defined (drop l.one-index l.one-items) ≡ known l.self.defined l.self.uses;
      last : is_known l.self.defined l.last ≡ true;
    }
