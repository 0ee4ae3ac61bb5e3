use Rattle.std.proofs.Common.{rules, ◌≤◌, ◌^◌, refl, inl, inr, ℕ, arith}
use Rattle.std.proofs.lemmas.Bool.{cases_lt}
use Rattle.text_core.specs.Numbers.{IsHex}
use Rattle.lift_table.proofs.reading.number_of.Goals as goal

pub returns-then-is_hex : goal.returns-then-is_hex
returns-then-is_hex c =
    let found : (value : ℕ) × IsHex c.args.token.now value = search rules in
    let large : 2 ^ c.args.k ≤ found.0 = elim (cases_lt found.0 (2 ^ c.args.k)) [
      | inl low ↦ absurd (c.in-None.ensures.none found.0 found.1 (omega (arith, low, c.two_to.ensures)))
      | inr high ↦ high
    ] in
    (refl, (found.0, found.1, large))

pub returns-else-is_hex : goal.returns-else-is_hex
returns-else-is_hex c = (refl, λ value hex. let not : ((value : ℕ) × IsHex c.args.token.now value) → ⊥ = search rules in not (value, hex))
