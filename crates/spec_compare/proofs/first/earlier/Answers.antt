use Rattle.std.proofs.Common.{◌≡◌, ◌∙◌, inl, inr, sym}
use Rattle.circuit_model.specs.Ones.{ones_cmp}
use Rattle.std.specs.declared.cmp.Ordering.TheVariants.{Less, Equal, Greater}
use Rattle.lists.specs.laws.ReadLaws.{got_read}
use Rattle.spec_compare.proofs.StepLemmas.{next_after, next_before}
use Rattle.spec_compare.proofs.first.earlier.Goals as goal

pub returns-in-Greater-clause-first : goal.returns-in-Greater-clause-first
returns-in-Greater-clause-first c =
    let ts = c.args.terms.now in
    let v = c.index-terms-best.result in
    let w = c.index-terms-i.result in
    let left : c.bits.result.now ≡ v.0.bits = c.bits.ensures.value ∙ (λ i. (c.mono.ensures i).bits) in
    let right : c.bits-2.result.now ≡ w.0.bits = c.bits-2.ensures.value ∙ (λ i. (c.mono-2.ensures i).bits) in
    let up : ones_cmp v.0.bits w.0.bits ≡ Greater = (λ i. ones_cmp (sym left i) (sym right i)) ∙ sym c.compare_ones.ensures ∙ c.in-Greater.is in
    next_before ts c.args.i c.args.best v w (got_read ts c.args.best v c.requires.best c.index-terms-best.is) (got_read ts c.args.i w c.requires.i c.index-terms-i.is) up

pub returns-in-Less-clause-first : goal.returns-in-Less-clause-first
returns-in-Less-clause-first c =
    let ts = c.args.terms.now in
    let v = c.index-terms-best.result in
    let w = c.index-terms-i.result in
    let left : c.bits.result.now ≡ v.0.bits = c.bits.ensures.value ∙ (λ i. (c.mono.ensures i).bits) in
    let right : c.bits-2.result.now ≡ w.0.bits = c.bits-2.ensures.value ∙ (λ i. (c.mono-2.ensures i).bits) in
    let same : ones_cmp v.0.bits w.0.bits ≡ c.compare_ones.result = (λ i. ones_cmp (sym left i) (sym right i)) ∙ sym c.compare_ones.ensures in
    next_after ts c.args.i c.args.best v w (got_read ts c.args.best v c.requires.best c.index-terms-best.is) (got_read ts c.args.i w c.requires.i c.index-terms-i.is) (λ up. elim c.in-Less.is [
      | inl e ↦ let bad : Less ≡ Greater = sym e ∙ sym same ∙ up in cc
      | inr e ↦ let bad : Equal ≡ Greater = sym e ∙ sym same ∙ up in cc
    ])
