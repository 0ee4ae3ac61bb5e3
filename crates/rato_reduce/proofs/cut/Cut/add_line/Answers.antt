use Rattle.std.proofs.Common.{◌∙◌, ap, [], ◌∷◌, cond}
use Rattle.std.proofs.lemmas.Result.{on_ok_weaker}
use Rattle.poly_mixed.specs.Monomial.{text_cmp}
use Rattle.poly_mixed.specs.Product.{with_rank}
use Rattle.poly_mixed.specs.Sum.{plus}
use Rattle.rato_reduce.specs.private.CutTerms.{of_bits}
use Rattle.rato_reduce.proofs.CutPartLemmas.{line_added}
use Rattle.rato_reduce.proofs.cut.Cut.add_line.Goals as goal

pub returns : goal.returns
returns c =
    let t = c.args.term.now in
    let old = c.args.self.now.terms in
    let mid = c.add_same.new.self.terms in
    on_ok_weaker c.add_with.result (λ e.
    line_added old mid c.add_with.new.self.terms c.args.form c.args.rank t
    (c.in_ok-add_same.ensures ∙ ap (λ b. plus text_cmp old (cond b ((of_bits t.0.bits, t.1) ∷ []) [])) c.has_place-one.ensures)
    (e ∙ ap (λ b. plus text_cmp mid (cond b ((of_bits (with_rank t.0.bits c.args.rank), t.1) ∷ []) [])) c.has_place-bit.ensures)) c.add_with.ensures
