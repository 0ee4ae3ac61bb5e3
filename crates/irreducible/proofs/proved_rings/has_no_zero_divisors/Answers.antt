use Rattle.std.proofs.Common.{◌≡◌, ℕ, ◌<◌, ◌-◌, ◌∙◌, sym, ap, arith, IsTrue, eqb}
use Rattle.std.proofs.lemmas.Bool.Decides.{nat_tests}
use Rattle.irreducible.proofs.SquareLaws.{field_from, rank_full, rank_moved}
use Rattle.std.proofs.lemmas.Nat.{one_shl, pow_below}
use Rattle.irreducible.proofs.proved_rings.has_no_zero_divisors.Goals as goal

pub square-square-requires : goal.square-square-requires
square-square-requires g c =
    let law = g.met.R.Ring.laws c.args.ring.now in
    let small : c.loop-i.i < 64 = omega (arith, law.small, c.k-k.ensures) in
    rw (one_shl c.loop-i.i 64 small) (pow_below c.loop-i.i (g.R.Ring.degree c.args.ring.now) (omega (arith, c.k-k.ensures)))

is_same : (a b : ℕ) → IsTrue (eqb a b) → a ≡ b
is_same a b h = grind (arith, nat_tests)

same_is : (a b : ℕ) → a ≡ b → IsTrue (eqb a b)
same_is a b h = grind (arith, nat_tests)

pub returns-then-rank_of-k : goal.returns-then-rank_of-k
returns-then-rank_of-k g c =
    let law = g.met.R.Ring.laws c.args.ring.now in
    let inv = c.loop-i.invariant in (
      λ h. field_from _ _ law c.loop-i.squares c.loop-i.moved inv.squares_length inv.moved_length
          (λ i l. inv.squares i (omega (arith, c.loop-i-test.false, c.k-k.ensures))) (λ i l. inv.moved i (omega (arith, c.loop-i-test.false, c.k-k.ensures)))
          c.rank_of.result c.rank_of-then-rank_of-k.result (rw c.k-k.ensures at c.rank_of.ensures) (rw c.k-k.ensures at c.rank_of-then-rank_of-k.ensures)
          (c.if-rank_of-k.true ∙ c.k-k.ensures) (is_same _ _ h ∙ ap (λ x. x - 1) c.k-k.ensures),
      λ h. same_is _ _ (rank_moved _ _ law c.loop-i.squares c.loop-i.moved inv.squares_length inv.moved_length
          (λ i l. inv.squares i (omega (arith, c.loop-i-test.false, c.k-k.ensures))) (λ i l. inv.moved i (omega (arith, c.loop-i-test.false, c.k-k.ensures)))
          c.rank_of-then-rank_of-k.result (rw c.k-k.ensures at c.rank_of-then-rank_of-k.ensures) h ∙ ap (λ x. x - 1) (sym c.k-k.ensures)),
    )

pub returns-else-rank_of-k : goal.returns-else-rank_of-k
returns-else-rank_of-k g c =
    let law = g.met.R.Ring.laws c.args.ring.now in
    let inv = c.loop-i.invariant in (
      λ h. absurd (c.if-rank_of-k.false (is_same _ _ h)),
      λ h. same_is _ _ (rank_full _ _ law c.loop-i.squares c.loop-i.moved inv.squares_length inv.moved_length
          (λ i l. inv.squares i (omega (arith, c.loop-i-test.false, c.k-k.ensures))) (λ i l. inv.moved i (omega (arith, c.loop-i-test.false, c.k-k.ensures)))
          c.rank_of.result (rw c.k-k.ensures at c.rank_of.ensures) h ∙ sym c.k-k.ensures),
    )
