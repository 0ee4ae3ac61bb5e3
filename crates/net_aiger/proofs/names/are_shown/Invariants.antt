use Rattle.std.proofs.Common.{◌≡◌, drop}
use Rattle.std.specs.List.{list_all}
use Rattle.net_aiger.specs.Spelling.{is_shown}
use Rattle.net_aiger.proofs.names.are_shown.Given as goal

-- the bytes so far are shown
abbrev pub invariant-loop-byte : goal.invariant-loop-byte
invariant-loop-byte l = list_all is_shown (drop l.byte-index l.bytes) ≡ list_all is_shown l.bytes
