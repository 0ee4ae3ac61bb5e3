use Rattle.std.proofs.Common.{◌∙◌, ap}
use Rattle.poly_mixed.specs.Monomial.{text_cmp}
use Rattle.poly_mixed.specs.Sum.{plus_term}
use Rattle.cert_check.specs.private.Waiting.{Gathered}
use Rattle.cert_check.proofs.WaitingLemmas.{one_more}
use Rattle.cert_check.proofs.term_sum.TermSum.put.Goals as goal

pub returns : goal.returns
returns c =
    one_more c.self.inside.map.terms c.self.inside.waiting c.add.new.self c.args.mono c.args.c c.len-map.ensures.is_map c.as_slice-before.ensures.rising c.as_slice-after.ensures.rising c.requires c.bits-rising.ensures.rising c.in_ok-add.ensures
    ∙ ap (λ (g : Gathered). plus_term text_cmp g.terms (c.args.mono, c.args.c)) c.self.view_is
