use Rattle.std.proofs.Common.{◌∙◌, ◌++◌, [], ◌∷◌, List, ℕ, sym, subst}
use Rattle.poly_mixed.proofs.FieldLaws.{field_of}
use Rattle.word_subst.specs.Prefix.{AreProducts}
use Rattle.word_subst.proofs.PrefixLemmas.{first_products}
use Rattle.word_subst.proofs.products.BitProducts.new.Goals as goal

pub returns-clause-products : goal.returns-clause-products
returns-clause-products g c = λ elements.
    let P : List ℕ → Type 0 = λ rs. AreProducts (g.F.Ring.degree c.args.field.now) (g.F.Ring.product c.args.field.now) elements c.args.word c.args.bound (record { start = c.args.start; ranks = rs; products = c.push-2.new.self.items }) in
    subst P (sym c.new.ensures.items)
    (first_products (field_of _ _ (g.met.F.Ring.laws c.args.field.now) (g.met.F.Field.no_zero_divisors c.args.field.now)) elements c.args.word c.args.bound c.args.start _ _ c.requires.start
    (c.in_ok-push.ensures ∙ (λ i. c.zero-one.ensures i ++ (c.args.start, c.one.ensures i) ∷ [])) (c.in_ok-push-2.ensures.items ∙ (λ i. c.new-products.ensures.items i ++ c.push.new.self ∷ [])))
