use Rattle.std.proofs.Common.{◌∙◌, ap, List, map}
use Rattle.std.specs.Prelude.{slice_range}
use Rattle.net_blif.specs.Statement.{Token}
use Rattle.net_blif.specs.Tokens.{token_at}
use Rattle.net_blif.specs.declared.token_list.Span.{Span}
use Rattle.net_blif.proofs.TokenLemmas.{range_map}
use Rattle.net_blif.proofs.token_list.TokenList.range.Goals as goal

pub returns : goal.returns
returns c =
    ap (λ text. map (token_at text) (slice_range c.deref.result.now c.args.first c.args.end)) c.as_slice.ensures.value
    ∙ ap (λ (spans : List Span). map (token_at c.self.inside.text.items) (slice_range spans c.args.first c.args.end)) c.deref.ensures.value
    ∙ range_map (token_at c.self.inside.text.items) c.self.inside.spans.items c.args.first c.args.end
    ∙ ap (λ (ts : List Token). slice_range ts c.args.first c.args.end) c.self.view_is
