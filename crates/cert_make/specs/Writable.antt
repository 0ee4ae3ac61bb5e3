-- What can be written as a certificate. Source: this project's own.
use Rattle.std.specs.Prelude.{◌≡◌, ℕ, ◌+◌, ◌<◌, ◌≤◌, ◌^◌, true, List, length}
use Rattle.std.specs.List.{AllByRecursion}
use Rattle.net_core.specs.NetList.{NetList, nets}
use Rattle.poly_mixed.specs.Labels.{Labelling, AreLabels, bit_count, word_at}
use Rattle.poly_mixed.specs.Polynomial.{Terms}
use Rattle.poly_mixed.specs.Steps.{Step}
use Rattle.poly_mixed.specs.laws.TextLaw.{IsWritten}
use Rattle.poly_mixed.specs.declared.steps.Generator.{Generator}
use Rattle.poly_mixed.specs.declared.steps.Generator.TheVariants.{Net, Bit}
use Rattle.cert_check.specs.Driver.{is_driven}

-- a net by its number, or a bit of a word that the labels name
abbrev pub HasName : Labelling → Generator → Type 0
HasName labels (Net n) = n < 2 ^ 32
HasName labels (Bit w i) = w < length labels.words

-- the labels name the generator and the variables of the multiplier, a reduced polynomial
abbrev pub IsWritablePair : Labelling → ℕ → Step → Type 0
IsWritablePair labels k s = HasName labels s.0 × IsWritten labels k s.1

-- the labels name all variables of the claim and of the pairs, whose polynomials are reduced
pub record IsWritable (labels : Labelling) (k : ℕ) (claim : Terms) (pairs : List Step) : Type 0 where
  pub claimed : IsWritten labels k claim
  pub each : AllByRecursion (IsWritablePair labels k) pairs

-- a net that a gate drives, or a bit of a word that the labels name
abbrev pub IsOfNet : NetList → Labelling → Generator → Type 0
IsOfNet net labels (Net n) = (n < nets net) × (is_driven net n ≡ true)
IsOfNet net labels (Bit w i) = (w < length labels.words) × (i < (word_at labels.words w).1)

-- words have 1 to 64 bits, and ranks and numbers of nets are below 2^32
pub record HaveNumbers (k : ℕ) (net : NetList) (labels : Labelling) : Type 0 where
  pub some : 1 ≤ k
  pub small : k ≤ 64
  pub are_labels : AreLabels labels
  pub ranks : bit_count labels.words + length labels.nets ≤ 2 ^ 32
  pub few : nets net ≤ 2 ^ 32
