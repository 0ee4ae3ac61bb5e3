use Rattle.std.proofs.Common.{◌≡◌, ◌<◌, ◌^◌, ◌∙◌, ap, subst, sym, ℕ, length, get_or, length-set, arith}
use Rattle.std.proofs.lemmas.Grind.{get_or_default_zero}
use Rattle.irreducible.proofs.MatrixLaws.{set_more}
use Rattle.lift_table.proofs.OneWordLemmas.{set_later, set_elements}
use Rattle.lift_table.proofs.one_word.raise.Goals as goal

pub product_of-requires-clause-first : goal.product_of-requires-clause-first
product_of-requires-clause-first g c = subst (λ (n : ℕ). n < 2 ^ g.F.Ring.degree c.args.field.now) (sym (c.index.ensures ∙ get_or_default_zero c.loop-x.values.items c.loop-x.x c.index.result.now (omega arith))) (c.loop-x.invariant.elements c.loop-x.x (omega arith))

pub loop-x-preserved : goal.loop-x-preserved
loop-x-preserved g c =
    let inv = c.loop-x.invariant in
    let mul : ℕ → ℕ → ℕ = g.F.Ring.product c.args.field.now in
    let before = c.loop-x.values.items in
    let room : c.loop-x.x < length before = omega arith in
    let here : c.product_of.result ≡ mul (get_or c.args.values.now.items c.loop-x.x 0) c.loop-x.x = c.product_of.ensures.product ∙ ap (λ v. mul v c.loop-x.x) (c.index.ensures ∙ (get_or_default_zero before c.loop-x.x c.index.result.now room ∙ inv.rest c.loop-x.x (omega arith))) in
    record {
      long = length-set before c.loop-x.x c.product_of.result ∙ inv.long;
      raised = set_more (λ j v. v ≡ mul (get_or c.args.values.now.items j 0) j) before c.loop-x.x c.product_of.result room inv.raised here;
      rest = set_later before c.args.values.now.items c.loop-x.x c.product_of.result inv.rest;
      elements = set_elements (2 ^ g.F.Ring.degree c.args.field.now) before c.loop-x.x c.product_of.result inv.elements c.product_of.ensures.element;
    }
