use Rattle.std.proofs.Common.{◌∙◌, ◌+◌, ap, sym, ℕ, List, drop, arith}
use Rattle.std.proofs.lemmas.List.{at_drop_more, at_drop_all}
use Rattle.poly_mixed.specs.Product.{union}
use Rattle.cert_check.proofs.monomial.united.Goals as goal

pub loop-r-preserved : goal.loop-r-preserved
loop-r-preserved c =
    let n : ℕ = c.loop-r.r-index in
    let right : List ℕ = c.args.right.now in
    ap (λ (bits : List ℕ). union bits (drop (n + 1) right)) c.in_ok-add_rank.ensures
    ∙ (sym (at_drop_more (λ (rs : List ℕ). union c.loop-r.ranks.items rs) right n 0 c.loop-r-test.true) ∙ c.loop-r.invariant)

pub returns : goal.returns
returns c = sym (at_drop_all (λ (rs : List ℕ). union c.loop-r.ranks.items rs) c.args.right.now c.loop-r.r-index (omega (arith, c.loop-r-test.false))) ∙ c.loop-r.invariant
