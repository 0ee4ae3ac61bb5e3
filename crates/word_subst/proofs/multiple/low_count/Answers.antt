use Rattle.std.proofs.Common.{◌≡◌, ℕ, ◌+◌, ◌-◌, ◌/◌, ◌<◌, ◌≤◌, ◌^◌, subst, sym, arith}
use Rattle.poly_mixed.proofs.ExponentLemmas.{top}
use Rattle.word_subst.proofs.MultipleLemmas.{one_low}
use Rattle.word_subst.proofs.multiple.low_count.Goals as goal

-- the test against the greatest exponent
fits : (k m b : ℕ) → 1 ≤ k → k ≤ 64 → m ≡ k → b < 2 ^ k → b ≤ 18446744073709551615 / 2 ^ (64 - m)
fits k m b some most same less =
    let P : ℕ → Type 0 = λ n. b ≤ 18446744073709551615 / 2 ^ (64 - n) in
    let e = top k some most in
    let here : b ≤ 18446744073709551615 / 2 ^ (64 - k) = omega arith in
    subst P (sym same) here

below : (k m a b : ℕ) → 1 ≤ k → k ≤ 64 → m ≡ k → b < 2 ^ k → a ≤ 18446744073709551615 / 2 ^ (64 - m) - b → a + b < 2 ^ k
below k m a b some most same less low =
    let P : ℕ → Type 0 = λ n. a ≤ 18446744073709551615 / 2 ^ (64 - n) - b in
    let here = subst P same low in
    let e = top k some most in
    omega arith

above : (k m a b : ℕ) → 1 ≤ k → k ≤ 64 → m ≡ k → b < 2 ^ k → 18446744073709551615 / 2 ^ (64 - m) - b < a → 2 ^ k ≤ a + b
above k m a b some most same less high =
    let P : ℕ → Type 0 = λ n. 18446744073709551615 / 2 ^ (64 - n) - b < a in
    let here = subst P same high in
    let e = top k some most in
    omega arith

pub overflow_sub-top-in-loop-n : goal.overflow_sub-top-in-loop-n
overflow_sub-top-in-loop-n g c =
    let ring = g.met.F.Ring.laws c.args.field.now in
    fits (g.F.Ring.degree c.args.field.now) c.k.result c.args.exponent ring.some ring.small c.k.ensures c.requires.exponent

pub loop-n-preserved : goal.loop-n-preserved
loop-n-preserved g c =
    let ring = g.met.F.Ring.laws c.args.field.now in
    record {
      within = omega (arith, c.loop-n-test.true);
      low = one_low c.args.exponent (2 ^ g.F.Ring.degree c.args.field.now) c.loop-n.n c.args.powers.now c.loop-n-test.true c.loop-n.invariant.low (below (g.F.Ring.degree c.args.field.now) c.k.result _ c.args.exponent ring.some ring.small c.k.ensures c.requires.exponent c.if-powers-n.true);
    }

pub returns-else-powers-n-clause-high : goal.returns-else-powers-n-clause-high
returns-else-powers-n-clause-high g c =
    let ring = g.met.F.Ring.laws c.args.field.now in
    λ less. above (g.F.Ring.degree c.args.field.now) c.k.result _ c.args.exponent ring.some ring.small c.k.ensures c.requires.exponent c.if-powers-n.false
