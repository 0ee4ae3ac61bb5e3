use Rattle.std.proofs.Common.{ap, ◌∙◌, length, take, ◌+◌, arith}
use Rattle.word_subst.specs.Prefix.{Products}
use Rattle.word_subst.proofs.PrefixLemmas.{kept}
use Rattle.word_subst.proofs.products.BitProducts.keep.Goals as goal

pub returns-clause-products : goal.returns-clause-products
returns-clause-products c = λ k mul elements word bound are.
    let n = c.common-n.result in
    kept k mul elements word bound n c.args.self.now _ (omega (arith, c.common-n.ensures.first, ap length (c.deref.ensures.value ∙ ap (λ (p : Products). p.ranks) c.self.view_is))) (ap (λ (p : Products). p.start) c.self.view_is)
    (c.truncate.ensures.items ∙ ap (λ (p : Products). take n p.ranks) c.self.view_is) (c.truncate-2.ensures.items ∙ ap (λ (p : Products). take (n + 1) p.products) c.self.view_is) are
