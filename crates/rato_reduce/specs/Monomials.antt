-- The polynomial of a table in the inputs of its gate. Source: the algebraic normal form (Zhegalkin).
use Rattle.std.specs.Prelude.{ℕ, ◌+◌, ◌*◌, cond, List, [], ◌∷◌, ◌++◌}
use Rattle.poly_mixed.specs.Product.{with_rank}
use Rattle.poly_mixed.specs.Table.{table_bit}

-- for each one of the form from `base` on by steps of `step`: the ranks at its place's ones, with those taken before
abbrev pub monomials : ℕ → List ℕ → List ℕ → ℕ → ℕ → List (List ℕ)
monomials form taken [] base step = cond (table_bit form base) (taken ∷ []) []
monomials form taken (r ∷ rs) base step = monomials form taken rs base (2 * step) ++ monomials form (with_rank taken r) rs (base + step) (2 * step)
