use Rattle.std.proofs.Common.{◌∙◌, ◌<◌, ◌≤◌, ap, sym, subst, List, length, arith}
use Rattle.std.specs.Prelude.{slice_set}
use Rattle.net_simplify.specs.Form.{Form}
use Rattle.net_simplify.specs.private.Lists.{FormLists, form_at}
use Rattle.net_simplify.proofs.SettleLemmas.{few_set, form_long}
use Rattle.net_simplify.proofs.known.Known.set.Goals as goal

pub put-requires : goal.put-requires
put-requires c = let P : FormLists → Type 0 = λ k. c.args.net < length k.units in subst P (sym c.self.view_is) c.requires.net

pub put-requires-2 : goal.put-requires-2
put-requires-2 c =
    let P : FormLists → Type 0 = λ k. c.args.net < length k.units in
    let less : c.args.net < length c.self.inside.units.items = subst P (sym c.self.view_is) c.requires.net in
    omega (arith, less, c.self.invariant.1)

pub invariant_of-self : goal.invariant_of-self
invariant_of-self c = (
  c.self.invariant.0,
  ap (λ (fs : List Form). length fs) c.put-2.ensures ∙ form_long c.self.inside.bodies.items c.args.net c.args.body ∙ c.self.invariant.1 ∙ sym (ap (λ (fs : List Form). length fs) c.put.ensures ∙ form_long c.self.inside.units.items c.args.net c.args.unit),
  λ n.
      let P : List Form → Type 0 = λ fs. length (form_at fs n).leaves ≤ 1 in
      subst P (sym c.put.ensures) (few_set c.self.inside.units.items c.args.net c.args.unit c.requires.few c.self.invariant.2 n),
)

pub returns : goal.returns
returns c = record {
  long = ap (λ (k : FormLists). length k.bodies) (sym c.self.view_is) ∙ c.self.invariant.1 ∙ ap (λ (k : FormLists). length k.units) c.self.view_is;
  units = c.put.ensures ∙ ap (λ (k : FormLists). slice_set k.units c.args.net c.args.unit) c.self.view_is;
  bodies = c.put-2.ensures ∙ ap (λ (k : FormLists). slice_set k.bodies c.args.net c.args.body) c.self.view_is;
}
