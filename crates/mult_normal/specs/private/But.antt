-- Forms of signatures but for the names of their nets. Source: this project's own.
use Rattle.std.specs.Prelude.{◌≡◌, ℕ, [], All}
use Rattle.net_words.specs.declared.word.BasisText.TheVariants.{Normal}
use Rattle.net_words.specs.declared.word.Role.TheVariants.{State}
use Rattle.net_signature.specs.Signature.{SignatureValue}
use Rattle.make_nets.specs.Form.{HasWords}

-- the form, but for names
abbrev pub IsNormalBut : SignatureValue → Type 0
IsNormalBut signature = (signature.feeds ≡ []) × (signature.blocks ≡ []) × HasWords State 2 signature.words × ((gamma : ℕ) × All (λ word. word.basis ≡ Normal gamma) signature.words)
