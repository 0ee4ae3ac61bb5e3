use Rattle.std.proofs.Common.{◌≡◌, take}
use Rattle.net_blif.proofs.cover.copy_tokens.Given as goal

-- the tokens so far
abbrev pub invariant-loop-token : goal.invariant-loop-token
invariant-loop-token l = l.list.items ≡ take l.token-index l.tokens
