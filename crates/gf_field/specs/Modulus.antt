-- Which polynomials over 0 and 1 are moduli of rings of machine words. Source: this project's own.
use Rattle.std.specs.Prelude.{ℕ, ◌≤◌}
use Rattle.gf_field.specs.Polynomial.{IsDegree}

-- g has degree d, and d is 1 to 64
pub record IsModulus (d g : ℕ) : Type 0 where
  pub some : 1 ≤ d
  pub small : d ≤ 64
  pub degree : IsDegree 1 d g

-- g has a degree from 1 to 64
abbrev pub HasModulusDegree : ℕ → Type 0
HasModulusDegree g = (d : ℕ) × IsModulus d g
