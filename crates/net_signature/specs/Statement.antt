-- What the lines of a signature say. Source: this project's own format, docs/FORMATS.md.
use Rattle.std.specs.Prelude.{◌≡◌, ◌⊎◌, ℕ, ◌<◌, ◌≤◌, ◌^◌, ◌==◌, List, [], ◌∷◌, ◌++◌, length, codes, All}
use Rattle.std.specs.List.{slice_split, AllZip}
use Rattle.text_core.specs.Lines.{IsPlain}
use Rattle.text_core.specs.Numbers.{IsHex, IsDecimal}
use Rattle.text_core.specs.Names.{IsName}
use Rattle.net_words.specs.declared.word.Role.{Role}
use Rattle.net_words.specs.declared.word.Role.TheVariants.{Input, State, Fed, Output}
use Rattle.net_words.specs.declared.word.BasisText.{BasisText}
use Rattle.net_words.specs.declared.word.BasisText.TheVariants.{Poly, Normal, Elements}
use Rattle.net_words.specs.declared.word.WordText.{WordText}
use Rattle.net_signature.specs.Lines.{Token, Line}
use Rattle.net_signature.specs.declared.version.Version.{Version}
use Rattle.net_signature.specs.declared.version.Version.TheVariants as version
use Rattle.net_signature.specs.declared.entry.Entry.{Entry}
use Rattle.net_signature.specs.declared.entry.Entry.TheVariants as entry
use Rattle.net_signature.specs.declared.entry.FeedLine.{FeedLine}
use Rattle.net_signature.specs.declared.entry.SourceText.{SourceText}
use Rattle.net_signature.specs.declared.entry.SourceText.TheVariants.{Zero, One, Bit}

-- `gfsig 1` or `gfsig 2`
abbrev pub SaysVersion : List Token → Version → Type 0
SaysVersion tokens version.One = tokens ≡ codes "gfsig" ∷ codes "1" ∷ []
SaysVersion tokens version.Two = tokens ≡ codes "gfsig" ∷ codes "2" ∷ []

-- `field HEX`, where bit i of the number is the coefficient of x^i
abbrev pub SaysField : List Token → ℕ → Type 0
SaysField tokens modulus = (token : Token) × (tokens ≡ codes "field" ∷ token ∷ []) × IsHex token modulus × (modulus < 2 ^ 128)

-- a field's element as a number of 64 bits
abbrev pub SaysElement : Token → ℕ → Type 0
SaysElement token element = IsHex token element × (element < 2 ^ 64)

-- `tower HEX HEX ..`: the coefficients below the highest, from the lowest; at least one
abbrev pub SaysTower : List Token → List ℕ → Type 0
SaysTower tokens coefficients = (numbers : List Token) × (tokens ≡ codes "tower" ∷ numbers) × (0 < length numbers) × AllZip SaysElement numbers coefficients

-- what a word is to the netlist
abbrev pub SaysRole : Token → Role → Type 0
SaysRole token Input = token ≡ codes "input"
SaysRole token State = token ≡ codes "state"
SaysRole token Fed = token ≡ codes "fed"
SaysRole token Output = token ≡ codes "output"

-- the normal basis of the element that the token says
abbrev pub IsNormalOf : Token → BasisText → Type 0
IsNormalOf token Poly = ⊥
IsNormalOf token (Normal gamma) = SaysElement token gamma
IsNormalOf token (Elements list) = ⊥

-- the elements that the token says, with commas between them
abbrev pub IsListOf : Token → BasisText → Type 0
IsListOf token Poly = ⊥
IsListOf token (Normal gamma) = ⊥
IsListOf token (Elements list) = AllZip SaysElement (slice_split (λ b. b == 44) token) list

-- `poly`, `normal:HEX`, or `list:HEX,HEX,..`
abbrev pub SaysBasis : Token → BasisText → Type 0
SaysBasis token basis =
    ((token ≡ codes "poly") × (basis ≡ Poly))
    ⊎ ((number : Token) × (token ≡ codes "normal:" ++ number) × IsNormalOf number basis)
    ⊎ ((numbers : Token) × (token ≡ codes "list:" ++ numbers) × IsListOf numbers basis)

-- the name of a net or of a model: at most 255 bytes that print, without `\`
abbrev pub IsNetToken : Token → Type 0
IsNetToken token = IsPlain token × (length token ≤ 255)

-- so many nets stand at the line of a word with this role: none where it is fed, and else at least one
abbrev pub IsNetCount : Role → ℕ → Type 0
IsNetCount Input count = 0 < count
IsNetCount State count = 0 < count
IsNetCount Fed count = count ≡ 0
IsNetCount Output count = 0 < count

-- `word NAME ROLE BASIS NET NET ..`: the nets of its places, place 0 first
pub record SaysWord (tokens : List Token) (word : WordText) : Type 0 where
  pub role : Token
  pub basis : Token
  pub tokens_are : tokens ≡ codes "word" ∷ word.name ∷ role ∷ basis ∷ word.nets
  pub is_name : IsName word.name
  pub is_role : SaysRole role word.role
  pub is_basis : SaysBasis basis word.basis
  pub some : IsNetCount word.role (length word.nets)
  pub are_nets : All IsNetToken word.nets

-- `NAME[DEC]`: a place, at most 63, of the word of this name
pub record SaysBit (token : Token) (word : List ℕ) (place : ℕ) : Type 0 where
  pub digits : Token
  pub token_is : token ≡ word ++ codes "[" ++ digits ++ codes "]"
  pub is_name : IsName word
  pub is_place : IsDecimal digits place
  pub within : place ≤ 63

-- `0`, `1` or a bit of a word
abbrev pub SaysSource : Token → SourceText → Type 0
SaysSource token Zero = token ≡ codes "0"
SaysSource token One = token ≡ codes "1"
SaysSource token (Bit word place) = SaysBit token word place

-- `feed NET DEC SRC`: what the net holds in a cycle, which is at most 4,096
pub record SaysFeed (tokens : List Token) (feed : FeedLine) : Type 0 where
  pub cycle : Token
  pub source : Token
  pub tokens_are : tokens ≡ codes "feed" ∷ feed.net ∷ cycle ∷ source ∷ []
  pub is_net : IsNetToken feed.net
  pub is_cycle : IsDecimal cycle feed.cycle
  pub within : feed.cycle ≤ 4096
  pub is_source : SaysSource source feed.source

-- `block MODEL`
abbrev pub SaysBlock : List Token → List ℕ → Type 0
SaysBlock tokens model = (tokens ≡ codes "block" ∷ model ∷ []) × IsNetToken model

-- the line is one of a word, of a feed or of a block
abbrev pub SaysEntry : Line → Entry → Type 0
SaysEntry line (entry.Word word) = SaysWord line.tokens word × (word.line ≡ line.number)
SaysEntry line (entry.Feed feed) = SaysFeed line.tokens feed
SaysEntry line (entry.Block model) = SaysBlock line.tokens model
