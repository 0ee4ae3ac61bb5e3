-- The product of two words is over two words.
use Rattle.std.proofs.Common.{◌<◌, ◌≤◌, ◌^◌, ℕ, arith}
use Rattle.lists.specs.laws.PowerLaws.{one_below_pow}
use Rattle.spec_expand.specs.Specification.{IsOverWords}
use Rattle.make_trial.specs.Trial.{product_terms}

pub product_over : (k words : ℕ) → 1 ≤ k → 2 ≤ words → IsOverWords k words product_terms
product_over k words some two = (record { element = one_below_pow k some; powers = ((none, one), ((first, one), tt)) }, tt)
  where
    one : 1 < 2 ^ 64
    one = one_below_pow 64 (omega arith)

    none : 0 < words
    none = omega (arith, two)

    first : 1 < words
    first = omega (arith, two)
