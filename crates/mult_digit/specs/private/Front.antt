-- Forms of signatures but for the names of their nets. Source: this project's own.
use Rattle.std.specs.Prelude.{◌≡◌, ℕ, []}
use Rattle.net_signature.specs.Signature.{SignatureValue}
use Rattle.mult_digit.specs.DigitForm.{AreDigitFeeds, AreDigitWords}

-- the form with digits of so many bits, but for names
pub record IsFront (k width : ℕ) (signature : SignatureValue) : Type 0 where
  pub tower : signature.tower ≡ []
  pub upper : signature.upper ≡ []
  pub blocks : signature.blocks ≡ []
  pub words : AreDigitWords signature.words
  pub feeds : AreDigitFeeds k width signature.feeds
