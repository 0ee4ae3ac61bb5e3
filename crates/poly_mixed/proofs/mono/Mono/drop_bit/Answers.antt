use Rattle.std.proofs.Common.{ℕ, List, not, nat_eq, sym, ◌∙◌, ap, subst}
use Rattle.std.specs.List.Sorted.{IsStrictlySortedBy}
use Rattle.std.specs.Ordering.{nat_cmp}
use Rattle.poly_mixed.specs.Cofactor.{without_bit}
use Rattle.poly_mixed.proofs.CofactorLemmas.{rising-filter}
use Rattle.poly_mixed.proofs.MonoLemmas.{dropped, not_there}
use Rattle.poly_mixed.proofs.mono.Mono.drop_bit.Goals as goal

pub invariant_of-self : goal.invariant_of-self
invariant_of-self c =
    let P : List ℕ → Type 0 = IsStrictlySortedBy nat_cmp in (
      subst P (sym (dropped c.self.inside.bits.items c.as_slice.result.now c.args.bit c.binary_search.result c.as_slice.ensures c.self.invariant.0 c.binary_search.ensures.position c.in-Ok.i c.remove.new.self.items c.in-Ok.is c.remove.ensures.items))
          (rising-filter (λ r. not (nat_eq r c.args.bit)) c.self.inside.bits.items c.self.invariant.0),
      c.self.invariant.1,
    )

pub returns-in-Ok : goal.returns-in-Ok
returns-in-Ok c =
    ap (λ (rs : List ℕ). record { exponents = c.self.inside.exponents; bits = rs })
    (dropped c.self.inside.bits.items c.as_slice.result.now c.args.bit c.binary_search.result c.as_slice.ensures c.self.invariant.0 c.binary_search.ensures.position c.in-Ok.i c.remove.new.self.items c.in-Ok.is c.remove.ensures.items)
    ∙ ap (without_bit c.args.bit) c.self.view_is

pub returns-in_default : goal.returns-in_default
returns-in_default c =
    sym c.self.view_is
    ∙ ap (λ (rs : List ℕ). record { exponents = c.self.inside.exponents; bits = rs })
    (not_there c.self.inside.bits.items c.as_slice.result.now c.args.bit c.binary_search.result c.as_slice.ensures c.self.invariant.0 c.binary_search.ensures.position c.in_default.field-0 c.in_default.is)
    ∙ ap (without_bit c.args.bit) c.self.view_is
