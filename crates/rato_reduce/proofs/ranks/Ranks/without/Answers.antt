use Rattle.std.proofs.Common.{rules, ◌≡◌, ◌∙◌, ap, not, nat_eq}
use Rattle.std.specs.List.{filter}
use Rattle.rato_reduce.proofs.RetainedLemmas.{retained}
use Rattle.rato_reduce.proofs.ranks.Ranks.without.Goals as goal

pub returns : goal.returns
returns c =
    let kept : c.retain.new.self.items ≡ filter (λ r. not (nat_eq r c.args.rank)) c.self.inside.items.items = retained _ (λ r. not (nat_eq r c.args.rank)) _ (λ x b g y called. search rules) _ _ c.retain.ensures.filtered in
    kept ∙ ap (filter (λ r. not (nat_eq r c.args.rank))) c.self.view_is
