use Rattle.std.proofs.Common.{◌≡◌, ◌++◌, take}
use Rattle.net_blif.proofs.token_list.TokenList.push_all.Given as goal

-- the tokens so far stand at the end
abbrev pub invariant-loop-token : goal.invariant-loop-token
invariant-loop-token l = l.self ≡ l.fn.self ++ take l.token-index l.tokens
