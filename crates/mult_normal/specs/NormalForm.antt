-- The signatures that a multiplier in a normal basis fits. Source: this project's own, docs/FORMATS.md.
use Rattle.std.specs.Prelude.{◌≡◌, ℕ, [], All}
use Rattle.net_words.specs.declared.word.BasisText.TheVariants.{Normal}
use Rattle.net_words.specs.declared.word.Role.TheVariants.{State}
use Rattle.net_signature.specs.Signature.{SignatureValue}
use Rattle.make_nets.specs.Form.{HasWords}
use Rattle.make_nets.specs.MakerNames.{AreMakerNames}
use Rattle.make_nets.specs.Ports.{word_names}

-- two state words and one output word, all in the normal basis of one element, whose nets are distinct and have names of at
-- most 128 plain bytes; there is no feed and no block
pub record HasNormalForm (signature : SignatureValue) : Type 0 where
  pub unfed : signature.feeds ≡ []
  pub unblocked : signature.blocks ≡ []
  pub words : HasWords State 2 signature.words
  pub gamma : ℕ
  pub bases : All (λ word. word.basis ≡ Normal gamma) signature.words
  pub names : AreMakerNames (word_names signature.words)
