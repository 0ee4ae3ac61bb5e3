use Rattle.std.proofs.Common.{◌≡◌, suc, ◌-◌, ◌∙◌, sym, ap, arith, drop}
use Rattle.gf_basis.specs.private.TraceWord.{parity_word}
use Rattle.gf_basis.proofs.ParityLaws.{parities_step}
use Rattle.gf_basis.proofs.parities.parities.Goals as goal

pub loop-i-preserved : goal.loop-i-preserved
loop-i-preserved c =
    let same : suc (c.loop-i.i - 1) ≡ c.loop-i.i = omega arith in
    parities_step c.args.rows.now c.args.mask (c.loop-i.i - 1) c.loop-i.word c.parity.result c.requires.few (omega arith)
    (c.loop-i.invariant ∙ ap (λ i. parity_word (drop i c.args.rows.now) c.args.mask) (sym same)) c.parity.ensures.value
