-- What a text says as a signature, or its first fault. Source: this project's own format, docs/FORMATS.md.
use Rattle.std.specs.Prelude.{ℕ, ◌&&◌, Bool, true, false, List, []}
use Rattle.outcome.specs.Outcome.{Outcome, ◌>>=◌, Exactly, Returns}
use Rattle.net_words.specs.declared.word.WordText.{WordText}
use Rattle.net_words.specs.declared.feed.FeedText.{FeedText}
use Rattle.net_signature.specs.Lines.{Line, lines_from, end_from}
use Rattle.net_signature.specs.Statement.{SaysVersion, SaysField, SaysTower}
use Rattle.net_signature.specs.Outcomes.{Next, tower_comes}
use Rattle.net_signature.specs.Body.{BlockValue, BodyValue, begun, blocks_of, has_feeds, Reads, whole}
use Rattle.net_signature.specs.declared.version.Version.{Version}
use Rattle.net_signature.specs.declared.fault.SigFault.{SigFault}

-- a field, words with their bases and nets, feeds, and blocks
pub record SignatureValue : Type 0 where
  pub modulus : ℕ
  pub tower : List ℕ
  pub upper : List ℕ
  pub words : List WordText
  pub feeds : List FeedText
  pub blocks : List BlockValue

-- the coefficients of a tower, where its line may stand here and comes next, and else none
abbrev pub TowerIf : Bool → ℕ → List Line → Outcome SigFault (List ℕ × List Line)
TowerIf true end lines = Next end SaysTower lines
TowerIf false end lines = Exactly ([], lines)

abbrev pub TowerOf : ℕ → List Line → Outcome SigFault (List ℕ × List Line)
TowerOf end lines = TowerIf (tower_comes lines) end lines

-- version 2 has a second tower over the first
abbrev pub UpperOf : Version → ℕ → List Line → Outcome SigFault (List ℕ × List Line)
UpperOf version end lines = TowerIf (has_feeds version && tower_comes lines) end lines

-- the signature of these parts, where no output word is missing
abbrev pub WholeSignature : ℕ → List ℕ → List ℕ → BodyValue → Outcome SigFault SignatureValue
WholeSignature modulus tower upper body = do
  complete ← Returns (whole body.words (blocks_of body))
  Exactly (record { modulus = modulus; tower = tower; upper = upper; words = body.words; feeds = body.feeds; blocks = blocks_of body })

-- a signature of lines
abbrev pub SignatureOf : ℕ → List Line → Outcome SigFault SignatureValue
SignatureOf end lines = do
  version ← Next end SaysVersion lines
  field ← Next end SaysField version.1
  tower ← TowerOf end field.1
  upper ← UpperOf version.0 end tower.1
  body ← Reads (begun version.0) upper.1
  WholeSignature field.0 tower.0 upper.0 body

-- What a text says as a signature, or its first fault.
abbrev pub Sig : List ℕ → Outcome SigFault SignatureValue
Sig text = SignatureOf (end_from 1 text) (lines_from 1 text)
