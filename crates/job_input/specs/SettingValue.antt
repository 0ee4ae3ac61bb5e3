-- What a signature's text gives a job: the signature itself, its field, and the bases of its words. Source: this project's own.
use Rattle.std.specs.Prelude.{ℕ, List}
use Rattle.net_signature.specs.Signature.{SignatureValue}

-- the signature; the degree and the product of its field; and, word by word, the elements of each basis
pub record SettingValue : Type 0 where
  pub signature : SignatureValue
  pub k : ℕ
  pub product : ℕ → ℕ → ℕ
  pub bases : List (List ℕ)
