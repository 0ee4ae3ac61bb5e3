use Rattle.std.proofs.Common.{rules, ap, ◌∙◌, ◌≤◌, ◌++◌, [], ◌∷◌, length, arith}
use Rattle.gf_basis.specs.BasisParts.{elements_of}
use Rattle.poly_mixed.proofs.FieldLaws.{field_of}
use Rattle.word_subst.specs.Prefix.{Products, IsNextRefusal}
use Rattle.word_subst.proofs.PrefixLemmas.{extended, next_over, last_at, last_product, one_bit_more}
use Rattle.word_subst.proofs.products.BitProducts.extend.Goals as goal

pub product-requires-clause-left : goal.product-requires-clause-left
product-requires-clause-left g c =
    let f = field_of _ _ (g.met.F.Ring.laws c.args.field.now) (g.met.F.Field.no_zero_divisors c.args.field.now) in
    let old : Products = c.args.self.now in
    let at = last_at old c.self.inside.products.items c.self.inside.ranks.items c.len.result c.index-last.result.now (ap (λ (p : Products). p.products) c.self.view_is) (ap (λ (p : Products). p.ranks) c.self.view_is) (c.len.ensures ∙ c.self.inside.ranks.ok.0) c.requires.products.long c.index-last.ensures in
    (last_product f (elements_of c.args._basis.now) c.args._word c.args.bound old c.index-last.result.now c.requires.products at).univariate

pub returns-in_err-check_size-clause-fault : goal.returns-in_err-check_size-clause-fault
returns-in_err-check_size-clause-fault g c =
    let f = field_of _ _ (g.met.F.Ring.laws c.args.field.now) (g.met.F.Field.no_zero_divisors c.args.field.now) in
    let els = elements_of c.args._basis.now in
    let old : Products = c.args.self.now in
    let at = last_at old c.self.inside.products.items c.self.inside.ranks.items c.len.result c.index-last.result.now (ap (λ (p : Products). p.products) c.self.view_is) (ap (λ (p : Products). p.ranks) c.self.view_is) (c.len.ensures ∙ c.self.inside.ranks.ok.0) c.requires.products.long c.index-last.ensures in
    let last = last_product f els c.args._word c.args.bound old c.index-last.result.now c.requires.products at in
    let next = one_bit_more f els c.args._word old.start c.args.rank old.ranks c.index-last.result.now c.args.form.now c.in_ok-next.next last c.requires.form c.in_ok-next.ensures in
    let fault : IsNextRefusal (g.F.Ring.degree c.args.field.now) (g.F.Ring.product c.args.field.now) els c.args._word old.start old.ranks c.args.rank c.args.bound c.args.stage c.in_err-check_size.field-0.0 =
    next_over f els c.args._word c.args.bound old.start c.args.rank c.len-2.result old.ranks c.in_ok-next.next c.args.stage c.in_err-check_size.field-0.0 next c.len-2.ensures.value c.in_err-check_size.ensures.over in
    search rules

pub returns-clause-products : goal.returns-clause-products
returns-clause-products g c =
    let f = field_of _ _ (g.met.F.Ring.laws c.args.field.now) (g.met.F.Field.no_zero_divisors c.args.field.now) in
    let els = elements_of c.args._basis.now in
    let old : Products = c.args.self.now in
    let at = last_at old c.self.inside.products.items c.self.inside.ranks.items c.len.result c.index-last.result.now (ap (λ (p : Products). p.products) c.self.view_is) (ap (λ (p : Products). p.ranks) c.self.view_is) (c.len.ensures ∙ c.self.inside.ranks.ok.0) c.requires.products.long c.index-last.ensures in
    let last = last_product f els c.args._word c.args.bound old c.index-last.result.now c.requires.products at in
    let next = one_bit_more f els c.args._word old.start c.args.rank old.ranks c.index-last.result.now c.args.form.now c.in_ok-next.next last c.requires.form c.in_ok-next.ensures in
    let small : length c.in_ok-next.next ≤ c.args.bound = omega (arith, c.in_ok-check_size.ensures.within, c.len-2.ensures.value) in
    extended f els c.args._word c.args.bound old _ c.args.rank c.in_ok-next.next c.requires.products next small (ap (λ (p : Products). p.start) c.self.view_is)
    (c.in_ok-push-2.ensures.items ∙ ap (λ (p : Products). p.ranks ++ c.args.rank ∷ []) c.self.view_is) (c.in_ok-push.ensures.items ∙ ap (λ (p : Products). p.products ++ c.in_ok-next.next ∷ []) c.self.view_is)
