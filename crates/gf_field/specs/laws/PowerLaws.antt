-- Laws of powers in a ring.
use Rattle.std.proofs.Common.{◌≡◌, ℕ, zero, suc, refl, sym, ◌∙◌, ap, ◌<◌, ◌^◌, ◌+◌, ◌*◌, ◌/◌, ◌%◌, arith}
use Rattle.std.proofs.lemmas.Nat.{pow_below}
use Rattle.std.proofs.Math.Nat.{zero-add, suc-add}
use Rattle.gf_field.specs.Ring.{IsRing}
use Rattle.gf_field.specs.Power.{power}

module _ (k : ℕ) (mul : ℕ → ℕ → ℕ) (ring : IsRing k mul) where
  pub one_below : 1 < 2 ^ k
  one_below = pow_below 0 k ring.some

  pub power_below : (a e : ℕ) → power mul a e < 2 ^ k
  unfolding power
  power_below a zero = one_below
  power_below a (suc e) = ring.closed a (power mul a e)

  pub power-add : (a e f : ℕ) → power mul a (e + f) ≡ mul (power mul a e) (power mul a f)
  unfolding power
  power-add a zero f = ap (power mul a) (zero-add f) ∙ sym (ring.one (power mul a f) (power_below a f))
  power-add a (suc e) f = ap (power mul a) (suc-add e f) ∙ ap (mul a) (power-add a e f) ∙ sym (ring.assoc a (power mul a e) (power mul a f))

  pub power-one : (a : ℕ) → a < 2 ^ k → power mul a 1 ≡ a
  unfolding power
  power-one a h = ring.comm a 1 ∙ ring.one a h

  -- a power of the square
  pub power-square : (a e : ℕ) → power mul (mul a a) e ≡ power mul a (2 * e)
  unfolding power
  power-square a zero = refl
  power-square a (suc e) =
      ap (mul (mul a a)) (power-square a e)
      ∙ ring.assoc a a (power mul a (2 * e))
      ∙ ap (power mul a) (moved e)
    where
      moved : (e : ℕ) → suc (suc (2 * e)) ≡ 2 * suc e
      moved e = omega arith

  -- steps of the loop: `done` times a power of `base`
  pub power_half : (done base e : ℕ) → e % 2 ≡ 0 → mul done (power mul (mul base base) (e / 2)) ≡ mul done (power mul base e)
  power_half done base e h = ap (mul done) (power-square base (e / 2) ∙ ap (power mul base) (halves e h))
    where
      halves : (e : ℕ) → e % 2 ≡ 0 → 2 * (e / 2) ≡ e
      halves e h = omega arith

  pub power_odd : (done base e : ℕ) → e % 2 ≡ 1 → mul (mul done base) (power mul (mul base base) (e / 2)) ≡ mul done (power mul base e)
  unfolding power
  power_odd done base e h =
      ring.assoc done base (power mul (mul base base) (e / 2))
      ∙ ap (mul done) (ap (mul base) (power-square base (e / 2)) ∙ ap (power mul base) (halves e h))
    where
      halves : (e : ℕ) → e % 2 ≡ 1 → suc (2 * (e / 2)) ≡ e
      halves e h = omega arith
