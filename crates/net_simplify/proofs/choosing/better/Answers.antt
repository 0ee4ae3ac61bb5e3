use Rattle.std.proofs.Common.{◌∙◌, ap, arith, subst, Option}
use Rattle.net_simplify.specs.Form.{Form}
use Rattle.net_simplify.specs.Choice.{price, taken}
use Rattle.net_simplify.specs.private.Lists.{IsComposedWithin, forms_of}
use Rattle.net_simplify.proofs.BestLemmas.{better_dear, better_none, better_takes}
use Rattle.net_simplify.proofs.choosing.better.Goals as goal

pub returns-then-price : goal.returns-then-price
returns-then-price c = λ single are best.
    let P : Option Form → Type 0 = IsComposedWithin 4 c.args.gate.now.table (taken (forms_of c.args.known.now) c.args.opened c.args.gate.now.inputs) in
    better_takes single (forms_of c.args.known.now) c.args.gate.now c.args.best c.in-Some.form c.args.opened c.price.result c.price-in-Some.result c.requires.within (subst P c.in-Some.is c.in_ok-form.ensures)
    (c.price.ensures.price single are ∙ ap (price single) c.leaves.ensures.leaves) (c.price-in-Some.ensures.price single are ∙ ap (price single) c.leaves-in-Some.ensures.leaves) c.if-price.true best

pub returns-else-price : goal.returns-else-price
returns-else-price c = λ single are best.
    let P : Option Form → Type 0 = IsComposedWithin 4 c.args.gate.now.table (taken (forms_of c.args.known.now) c.args.opened c.args.gate.now.inputs) in
    better_dear single (forms_of c.args.known.now) c.args.gate.now c.args.best c.in-Some.form c.args.opened c.price.result c.price-in-Some.result c.requires.within (subst P c.in-Some.is c.in_ok-form.ensures)
    (c.price.ensures.price single are ∙ ap (price single) c.leaves.ensures.leaves) (c.price-in-Some.ensures.price single are ∙ ap (price single) c.leaves-in-Some.ensures.leaves) (λ le. omega (arith, c.if-price.false, le)) best

pub returns-in-None : goal.returns-in-None
returns-in-None c = λ single are best.
    let P : Option Form → Type 0 = IsComposedWithin 4 c.args.gate.now.table (taken (forms_of c.args.known.now) c.args.opened c.args.gate.now.inputs) in
    better_none single (forms_of c.args.known.now) c.args.gate.now c.args.best c.args.opened c.requires.some (subst P c.in-None.is c.in_ok-form.ensures) best
