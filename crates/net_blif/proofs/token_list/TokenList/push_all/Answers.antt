use Rattle.std.proofs.Common.{rules, ◌≡◌, ◌∙◌, ap, ◌<◌, ◌++◌, List, length, take}
use Rattle.std.proofs.Math.Seq.{take-length}
use Rattle.net_blif.specs.Statement.{Token}
use Rattle.net_blif.proofs.TokenLemmas.{appended_more}
use Rattle.net_blif.proofs.token_list.TokenList.push_all.Goals as goal

pub loop-token-preserved : goal.loop-token-preserved
loop-token-preserved c =
    let less : c.loop-token.token-index < length c.args.tokens.now = c.loop-token-test.true in
    appended_more c.args.self.now c.loop-token.self c.push.new.self c.args.tokens.now c.loop-token.token-index c.bytes.result.now _ c.loop-token.invariant less (c.bytes.ensures ∙ c.token-item.is) c.in_ok-push.ensures.made

pub returns-in_err-push-clause-grows : goal.returns-in_err-push-clause-grows
returns-in_err-push-clause-grows c = (take c.loop-token.token-index c.args.tokens.now, c.in_err-push.ensures.unchanged ∙ c.loop-token.invariant)

pub returns-clause-made : goal.returns-clause-made
returns-clause-made c =
    let all : c.loop-token.token-index ≡ length c.args.tokens.now = search rules in
    c.loop-token.invariant ∙ ap (λ n. c.args.self.now ++ take n c.args.tokens.now) all ∙ ap (λ (ts : List Token). c.args.self.now ++ ts) (take-length c.args.tokens.now)

pub returns-clause-grows : goal.returns-clause-grows
returns-clause-grows c = (take c.loop-token.token-index c.args.tokens.now, c.loop-token.invariant)
