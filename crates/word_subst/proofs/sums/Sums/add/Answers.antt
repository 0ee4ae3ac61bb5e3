use Rattle.std.proofs.Common.{◌≡◌, ◌<◌, ◌^◌, subst, sym, bit_xor, arith}
use Rattle.std.specs.List.{AllByRecursion}
use Rattle.poly_mixed.proofs.FieldLaws.{field_of}
use Rattle.poly_mixed.specs.Polynomial.{value}
use Rattle.word_subst.specs.Spread.{Groups, IsGroup, total, all_terms, spread}
use Rattle.word_subst.proofs.GroupLemmas.{only_powers, new_groups, new_total, few_before, few_after, adds_group}
use Rattle.word_subst.proofs.sums.Sums.add.Goals as goal

pub overflow_sub-self : goal.overflow_sub-self
overflow_sub-self g c =
    let f = field_of _ _ (g.met.F.Ring.laws c.args.field.now) (g.met.F.Field.no_zero_divisors c.args.field.now) in
    let old : Groups = c.self.inside.map.entries in
    omega (arith, c.self.invariant, few_before f c.args.word c.requires.word c.args.rest c.args.part old c.add_to.new.map.entries c.in_ok-before.before c.in_ok-before.after c.requires.rest c.requires.part (subst (AllByRecursion (IsGroup c.args.word (g.F.Ring.degree c.args.field.now))) (sym c.self.view_is) c.requires.groups) c.len-was_ordered.ensures.ordered c.in_ok-before.ensures.added)

pub invariant_of-self-2 : goal.invariant_of-self-2
invariant_of-self-2 g c =
    let f = field_of _ _ (g.met.F.Ring.laws c.args.field.now) (g.met.F.Field.no_zero_divisors c.args.field.now) in
    let old : Groups = c.self.inside.map.entries in
    let all = subst (AllByRecursion (IsGroup c.args.word (g.F.Ring.degree c.args.field.now))) (sym c.self.view_is) c.requires.groups in
    omega (
      arith,
      c.self.invariant,
      few_before f c.args.word c.requires.word c.args.rest c.args.part old c.add_to.new.map.entries c.in_ok-before.before c.in_ok-before.after c.requires.rest c.requires.part all c.len-was_ordered.ensures.ordered c.in_ok-before.ensures.added,
      new_total f c.args.word c.requires.word c.args.rest c.args.part old c.add_to.new.map.entries c.in_ok-before.before c.in_ok-before.after c.requires.rest c.requires.part all c.len-was_ordered.ensures.ordered c.in_ok-before.ensures.added,
    )

pub returns-clause-groups : goal.returns-clause-groups
returns-clause-groups g c =
    let f = field_of _ _ (g.met.F.Ring.laws c.args.field.now) (g.met.F.Field.no_zero_divisors c.args.field.now) in
    let old : Groups = c.self.inside.map.entries in
    let all = subst (AllByRecursion (IsGroup c.args.word (g.F.Ring.degree c.args.field.now))) (sym c.self.view_is) c.requires.groups in
    new_groups f c.args.word c.requires.word c.args.rest c.args.part old c.add_to.new.map.entries c.in_ok-before.before c.in_ok-before.after c.requires.rest c.requires.part all c.len-was_ordered.ensures.ordered c.in_ok-before.ensures.added

pub returns-clause-values : goal.returns-clause-values
returns-clause-values g c = λ p at.
    let f = field_of _ _ (g.met.F.Ring.laws c.args.field.now) (g.met.F.Field.no_zero_divisors c.args.field.now) in
    let old : Groups = c.self.inside.map.entries in
    let all = subst (AllByRecursion (IsGroup c.args.word (g.F.Ring.degree c.args.field.now))) (sym c.self.view_is) c.requires.groups in
    let mul = g.F.Ring.product c.args.field.now in
    let P : Groups → Type 0 = λ gs. value mul p (all_terms c.args.word c.add_to.new.map.entries) ≡ bit_xor (value mul p (all_terms c.args.word gs)) (value mul p (spread c.args.word c.args.rest c.args.part)) in
    subst P c.self.view_is (adds_group f c.args.word c.requires.word c.args.rest c.args.part old c.add_to.new.map.entries c.in_ok-before.before c.in_ok-before.after c.requires.rest c.requires.part all c.len-was_ordered.ensures.ordered c.in_ok-before.ensures.added p at)

pub add_to-requires-clause-old : goal.add_to-requires-clause-old
add_to-requires-clause-old g c =
    let k = g.F.Ring.degree c.args.field.now in
    only_powers c.args.word k c.self.inside.map.entries (subst (AllByRecursion (IsGroup c.args.word k)) (sym c.self.view_is) c.requires.groups)

pub overflow_add-self : goal.overflow_add-self
overflow_add-self g c =
    let f = field_of _ _ (g.met.F.Ring.laws c.args.field.now) (g.met.F.Field.no_zero_divisors c.args.field.now) in
    let old : Groups = c.self.inside.map.entries in
    let low : total old < 2 ^ 32 = subst (λ gs. total gs < 2 ^ 32) (sym c.self.view_is) c.requires.few in
    omega (
      arith,
      c.self.invariant,
      low,
      c.len-few.ensures.value,
      c.len-few.ensures.small,
      few_before f c.args.word c.requires.word c.args.rest c.args.part old c.add_to.new.map.entries c.in_ok-before.before c.in_ok-before.after c.requires.rest c.requires.part (subst (AllByRecursion (IsGroup c.args.word (g.F.Ring.degree c.args.field.now))) (sym c.self.view_is) c.requires.groups) c.len-was_ordered.ensures.ordered c.in_ok-before.ensures.added,
      few_after f c.args.word c.requires.word c.args.rest c.args.part old c.add_to.new.map.entries c.in_ok-before.before c.in_ok-before.after c.requires.rest c.requires.part (subst (AllByRecursion (IsGroup c.args.word (g.F.Ring.degree c.args.field.now))) (sym c.self.view_is) c.requires.groups) c.len-was_ordered.ensures.ordered c.in_ok-before.ensures.added,
    )
