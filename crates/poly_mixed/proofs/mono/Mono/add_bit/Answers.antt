use Rattle.std.proofs.Common.{List, ℕ, sym, subst}
use Rattle.std.specs.List.Sorted.{IsStrictlySortedBy}
use Rattle.std.specs.Ordering.{nat_cmp}
use Rattle.poly_mixed.proofs.ProductLemmas.{rising-with_rank}
use Rattle.poly_mixed.proofs.mono.Mono.add_bit.Goals as goal

pub invariant_of-self : goal.invariant_of-self
invariant_of-self c = let P : List ℕ → Type 0 = IsStrictlySortedBy nat_cmp in (subst P (sym c.in_err-add_rank.ensures.unchanged) c.self.invariant.0, c.self.invariant.1)

pub invariant_of-self-2 : goal.invariant_of-self-2
invariant_of-self-2 c = let P : List ℕ → Type 0 = IsStrictlySortedBy nat_cmp in (subst P (sym c.in_ok-add_rank.ensures.with) (rising-with_rank c.self.inside.bits.items c.args.bit c.self.invariant.0), c.self.invariant.1)
