use Rattle.std.proofs.Common.{◌≡◌, ◌++◌, not, take, drop}
use Rattle.std.specs.Prelude.{◌==◌, take_while}
use Rattle.net_blif.proofs.connection.sides.Given as goal

-- no byte so far is `=`
abbrev pub invariant-loop-i : goal.invariant-loop-i
invariant-loop-i l = take l.i l.token ++ take_while (λ b. not (b == 61)) (drop l.i l.token) ≡ take_while (λ b. not (b == 61)) l.token
