use Rattle.std.proofs.Common.{subst, ℕ}
use Rattle.gf_basis.specs.BasisParts.{elements_of}
use Rattle.stage_model.specs.PlainWord.{IsProductOf}
use Rattle.stage_model.proofs.WordPolyLemmas.{whole_term}
use Rattle.plain_runs.proofs.word_poly.whole_poly.Goals as goal

pub returns : goal.returns
returns g c =
    let P : ℕ → Type 0 = λ n. IsProductOf (g.F.Ring.degree c.args.field.now) (g.F.Ring.product c.args.field.now) (elements_of c.args.basis.now) c.args.word c.args.term.now n c.in_ok-poly.poly.terms in
    whole_term (g.F.Ring.degree c.args.field.now) (g.F.Ring.product c.args.field.now) (elements_of c.args.basis.now) c.args.word c.args.term.now c.in_ok-poly.poly.terms
    (subst P c.in_ok-count.ensures c.in_ok-poly.ensures)
