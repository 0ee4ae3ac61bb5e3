use Rattle.std.proofs.Common.{◌≡◌, map, take, All}
use Rattle.net_signature.specs.Statement.{IsNetToken}
use Rattle.net_signature.proofs.word_line.net_names.Given as goal

abbrev pub invariant-loop-token : goal.invariant-loop-token
invariant-loop-token l = (l.names.items ≡ map (λ t. t.now) (take l.token-index l.tokens)) × All IsNetToken l.names.items
