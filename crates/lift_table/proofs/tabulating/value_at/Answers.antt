use Rattle.std.proofs.Common.{◌∙◌, ap, subst, List, ℕ, length, IfOk}
use Rattle.lists.specs.Lists.{Has}
use Rattle.circuit_model.specs.Flat.{circuit_of_parts}
use Rattle.circuit_model.specs.Out.{IsOut}
use Rattle.lift_table.proofs.tabulating.value_at.Goals as goal

pub output_over-requires-clause-parts : goal.output_over-requires-clause-parts
output_over-requires-clause-parts g c = c.requires.parts

pub output_over-requires-clause-long : goal.output_over-requires-clause-long
output_over-requires-clause-long g c = ap length c.deref.ensures.value ∙ c.in_ok-xs.ensures.long

pub output_over-requires-clause-elements : goal.output_over-requires-clause-elements
output_over-requires-clause-elements g c = λ x has. let P : List ℕ → Type 0 = λ xs. Has xs x in c.in_ok-xs.ensures.elements x (subst P c.deref.ensures.value has)

pub returns : goal.returns
returns g c =
    let P : List ℕ → Type 0 = λ xs. IfOk c.output_over.result (IsOut (circuit_of_parts (g.F.Ring.degree c.args.field.now) (g.F.Ring.product c.args.field.now) c.args.net.now c.args.words.now c.args.to.now) xs) in
    subst P (c.deref.ensures.value ∙ c.in_ok-xs.ensures.digits) c.output_over.ensures
