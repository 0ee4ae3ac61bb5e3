use Rattle.std.proofs.Common.{◌≡◌, ◌++◌, ◌&&◌, take, drop}
use Rattle.std.specs.Prelude.{nat_le, take_while}
use Rattle.net_blif.proofs.read.printing_front.Given as goal

-- the bytes so far print
abbrev pub invariant-loop-i : goal.invariant-loop-i
invariant-loop-i l = take l.i l.token ++ take_while (λ b. nat_le 33 b && nat_le b 126) (drop l.i l.token) ≡ take_while (λ b. nat_le 33 b && nat_le b 126) l.token
