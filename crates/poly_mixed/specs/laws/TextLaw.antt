-- That a text is of one polynomial: it is read back as the polynomial that was written. Source: this project's own.
use Rattle.std.specs.Prelude.{◌≡◌, ℕ, ◌+◌, ◌^◌, ◌≤◌, length, Ok}
use Rattle.poly_mixed.specs.Labels.{Labelling, AreLabels, bit_count}
use Rattle.poly_mixed.specs.Polynomial.{Terms, IsReduced}
use Rattle.poly_mixed.specs.TextOutcome.{TextOutcome}
use Rattle.poly_mixed.specs.Text.{text, HasNames, HasWordNames}

-- a reduced polynomial in the words and ranks that labels name; a rank is below 2^32
pub record IsWritten (l : Labelling) (k : ℕ) (ts : Terms) : Type 0 where
  pub labels : AreLabels l
  pub some : 1 ≤ k
  pub small : k ≤ 64
  pub few : bit_count l.words + length l.nets ≤ 2 ^ 32
  pub reduced : IsReduced k ts
  pub ranks : HasNames l ts
  pub words : HasWordNames l ts

-- reading the text of a polynomial gives the polynomial
abbrev pub ReadsBack : Type 0
ReadsBack = (l : Labelling) (k : ℕ) (ts : Terms) → IsWritten l k ts → TextOutcome l k (text l ts) (Ok ts)

-- equal texts are of equal polynomials
abbrev pub OneText : Type 0
OneText = (l : Labelling) (k : ℕ) (ts us : Terms) → IsWritten l k ts → IsWritten l k us → text l ts ≡ text l us → ts ≡ us
