use Rattle.std.proofs.Common.{rules, ◌≡◌, ◌∙◌, ap, ◌+◌, ◌++◌, ◌∷◌, [], List, length, arith}
use Rattle.net_blif.specs.Statement.{Token}
use Rattle.net_blif.specs.Tokens.{tokens_at}
use Rattle.net_blif.proofs.TokenLemmas.{tokens_pushed, tokens_same}
use Rattle.net_blif.proofs.token_list.TokenList.push.Goals as goal

pub returns-in_err-span-clause-unchanged : goal.returns-in_err-span-clause-unchanged
returns-in_err-span-clause-unchanged c =
    let same : tokens_at c.extend_from_slice.new.self.items c.self.inside.spans.items ≡ c.args.self.now = tokens_same c.self.inside.text.items c.args.token.now c.extend_from_slice.new.self.items c.self.inside.spans.items c.self.invariant c.in_ok-extend_from_slice.ensures.items ∙ c.self.view_is in
    search rules

pub returns-in_err-push_one-clause-unchanged : goal.returns-in_err-push_one-clause-unchanged
returns-in_err-push_one-clause-unchanged c =
    let same : tokens_at c.extend_from_slice.new.self.items c.push_one.new.list.items ≡ c.args.self.now = ap (tokens_at c.extend_from_slice.new.self.items) c.in_err-push_one.ensures.unchanged ∙ tokens_same c.self.inside.text.items c.args.token.now c.extend_from_slice.new.self.items c.self.inside.spans.items c.self.invariant c.in_ok-extend_from_slice.ensures.items ∙ c.self.view_is in
    search rules

pub returns-clause-made : goal.returns-clause-made
returns-clause-made c =
    let start : c.in_ok-span.span.start ≡ length c.self.inside.text.items = omega (arith, c.in_ok-span.ensures.start, c.len-start.ensures) in
    let end : c.in_ok-span.span.end ≡ length c.self.inside.text.items + length c.args.token.now = omega (arith, c.in_ok-span.ensures.end, c.len-start.ensures) in
    tokens_pushed c.self.inside.text.items c.extend_from_slice.new.self.items c.args.token.now c.self.inside.spans.items c.push_one.new.list.items c.in_ok-span.span c.self.invariant c.in_ok-extend_from_slice.ensures.items c.in_ok-push_one.ensures.made start end ∙ ap (λ (ts : List Token). ts ++ c.args.token.now ∷ []) c.self.view_is
