-- The signatures that a multiplier digit by digit fits. Source: this project's own, docs/FORMATS.md.
use Rattle.std.specs.Prelude.{◌≡◌, ℕ, suc, ◌+◌, ◌-◌, ◌*◌, ◌/◌, ◌%◌, ◌≤◌, List, [], ◌∷◌, length, map, take, get_or, Some, slice_get}
use Rattle.net_words.specs.declared.feed.FeedText.{FeedText}
use Rattle.net_words.specs.declared.feed.Source.TheVariants.{Bit}
use Rattle.net_words.specs.declared.word.BasisText.TheVariants.{Poly}
use Rattle.net_words.specs.declared.word.Role.{Role}
use Rattle.net_words.specs.declared.word.Role.TheVariants.{Input, Fed, Output}
use Rattle.net_words.specs.declared.word.WordText.{WordText}
use Rattle.net_signature.specs.Signature.{SignatureValue}
use Rattle.make_nets.specs.MakerNames.{AreMakerNames}
use Rattle.make_nets.specs.Ports.{outer_names}

-- the names of the nets that are fed, line by line
abbrev pub fed_names : List FeedText → List (List ℕ)
fed_names feeds = map (λ feed. feed.net) feeds

-- the names of the nets of a digit of so many bits: those of the first lines
abbrev pub digit_names : ℕ → List FeedText → List (List ℕ)
digit_names width feeds = take width (fed_names feeds)

-- a word of this role in the basis of the powers of the root
pub record IsPolyWord (kind : Role) (word : WordText) : Type 0 where
  pub role : word.role ≡ kind
  pub basis : word.basis ≡ Poly

-- A fed word, which has no nets, an input word and the output word, in this order.
pub record AreDigitWords (words : List WordText) : Type 0 where
  pub a : WordText
  pub b : WordText
  pub z : WordText
  pub are : words ≡ a ∷ b ∷ z ∷ []
  pub fed : IsPolyWord Fed a
  pub none : a.nets ≡ []
  pub input : IsPolyWord Input b
  pub output : IsPolyWord Output z

-- Line i of the feeds, where a digit has `width` of the k bits: the digits come one in each cycle, the highest first, each
-- bit on its net.
pub record IsDigitFeed (k width : ℕ) (feeds : List FeedText) (i : ℕ) (feed : FeedText) : Type 0 where
  pub cycle : feed.cycle ≡ i / width
  pub source : feed.source ≡ Bit 0 (k - width * suc (i / width) + i % width)
  pub net : feed.net ≡ get_or (fed_names feeds) (i % width) []

-- k lines, which feed digits of so many bits
pub record AreDigitFeeds (k width : ℕ) (feeds : List FeedText) : Type 0 where
  pub some : 1 ≤ width
  pub count : ℕ
  pub whole : k ≡ width * count
  pub long : length feeds ≡ k
  pub each : (i : ℕ) (feed : FeedText) → slice_get feeds i ≡ Some feed → IsDigitFeed k width feeds i feed

-- No tower and no block; a fed word, an input word and the output word, all in the basis of powers; feeds of digits of some
-- number of bits that divides k; and nets that are distinct and have names of at most 128 plain bytes.
pub record HasDigitForm (k : ℕ) (signature : SignatureValue) : Type 0 where
  pub tower : signature.tower ≡ []
  pub upper : signature.upper ≡ []
  pub blocks : signature.blocks ≡ []
  pub words : AreDigitWords signature.words
  pub width : ℕ
  pub feeds : AreDigitFeeds k width signature.feeds
  pub names : AreMakerNames (outer_names signature.words (digit_names width signature.feeds))
