-- Tables of the sixteen multiples of a polynomial by those of degree below 4.
-- Source: this project's own; multiplication by windows of four bits.
use Rattle.std.specs.Prelude.{ℕ, ◌<◌, List, slice_index}
use Rattle.gf_field.specs.Bit.{bit_mul}
use Rattle.gf_field.specs.Polynomial.{IsProductModulo}
use Rattle.gf_field.specs.declared.table_16.Table16.{Table16}

-- the entries of a table
abbrev pub entries_of : Table16 → List ℕ
entries_of table = table.multiples

-- entry n is the remainder, by the polynomial g of degree d, of the polynomial with number n times a
abbrev pub AreMultiples : (d g a : ℕ) → List ℕ → Type 0
AreMultiples d g a entries = (n : ℕ) → n < 16 → IsProductModulo 1 d bit_mul g n a (slice_index entries n)
