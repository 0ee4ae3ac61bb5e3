use Rattle.std.proofs.Common.{◌≡◌, length}
use Rattle.std.specs.List.{list_all}
use Rattle.net_verilog.specs.Bytes.{is_digit}
use Rattle.net_verilog.proofs.words.are_digits.Given as goal

-- the bytes so far are digits
abbrev pub invariant-loop-rest : goal.invariant-loop-rest
invariant-loop-rest l = list_all is_digit l.text ≡ list_all is_digit l.rest

abbrev pub decreases-loop-rest : goal.decreases-loop-rest
decreases-loop-rest l = length l.rest
