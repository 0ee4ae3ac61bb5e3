-- What may come of reading a specification: its terms, or the fault of the first token that has one.
-- Source: this project's own.
use Rattle.std.specs.Prelude.{◌≡◌, ◌⊎◌, ℕ, ◌^◌, Bool, true, false, cond, List, [], ◌∷◌, ◌++◌, nat_lt, nat_le, bytes_eq, Option, None, Some, Result, Ok, Err}
use Rattle.outcome.specs.Outcome.{Outcome}
use Rattle.poly_mixed.specs.Labels.{Labelling, word_of}
use Rattle.spec_text.specs.declared.fault.SpecFault.{SpecFault}
use Rattle.spec_text.specs.declared.fault.SpecFault.TheVariants.{Syntax, UnknownWord, BadNumber, OutOfMemory}
use Rattle.spec_text.specs.Token.{Token, name, hex, decimal, equals, plus, times, power}
use Rattle.spec_text.specs.Tokens.{Stop, ended, stuck, AreTokens, plain}
use Rattle.spec_text.specs.Grammar.{Factor, IsSpec, IsBeginning}
use Rattle.spec_expand.specs.Specification.{SpecTerms}
use Rattle.spec_text.specs.Said.{terms_of}

abbrev pub is_some : {A : Type 0} → Option A → Bool
is_some None = false
is_some (Some a) = true

abbrev pub is_power : Token → Bool
is_power power = true
is_power (name n) = false
is_power (hex n) = false
is_power (decimal n) = false
is_power equals = false
is_power plus = false
is_power times = false

-- whether the last token is `^`
abbrev pub ends_in_power : List Token → Bool
ends_in_power [] = false
ends_in_power (t ∷ []) = is_power t
ends_in_power (t ∷ u ∷ ts) = ends_in_power (u ∷ ts)

-- the left name is the output word's, the others are those of input, state and fed words
abbrev pub is_known : Labelling → List Token → List ℕ → Bool
is_known l [] n = bytes_eq n l.output
is_known l (t ∷ before) n = is_some (word_of l.words n)

-- an element of the field in hexadecimal; 0 or 1 in decimal, but an exponent below 2^64 after `^`
abbrev pub is_in_range : ℕ → List Token → Token → Bool
is_in_range k before (hex n) = nat_lt n (2 ^ k)
is_in_range k before (decimal n) = cond (ends_in_power before) (nat_lt n (2 ^ 64)) (nat_le n 1)
is_in_range k before other = true

abbrev pub is_named : Labelling → List Token → Token → Bool
is_named l before (name n) = is_known l before n
is_named l before other = true

-- after these tokens a token stands that some specification goes on with, whose name is known and whose number fits
pub record HasNoFault (l : Labelling) (k : ℕ) (before : List Token) (t : Token) : Type 0 where
  pub fits : IsBeginning (before ++ t ∷ [])
  pub known : is_named l before t ≡ true
  pub in_range : is_in_range k before t ≡ true

-- no token has a fault
abbrev pub AreGood : Labelling → ℕ → List Token → Type 0
AreGood l k ts = (before : List Token) (t : Token) (after : List Token) → ts ≡ before ++ t ∷ after → HasNoFault l k before t

-- the first token with a fault, and those before it
pub record IsFaulty (l : Labelling) (k : ℕ) (tokens : List (Token × ℕ)) (place : ℕ) (before : List Token) (t : Token) : Type 0 where
  pub front : List (Token × ℕ)
  pub after : List (Token × ℕ)
  pub at : tokens ≡ front ++ (t, place) ∷ after
  pub before_is : before ≡ plain front
  pub good : AreGood l k before

-- no specification goes on with the token
abbrev pub IsUnfit : Labelling → ℕ → List (Token × ℕ) → ℕ → Type 0
IsUnfit l k tokens place = (before : List Token) × (t : Token) × IsFaulty l k tokens place before t × (IsBeginning (before ++ t ∷ []) → ⊥)

-- the end of the tokens is where the fault is: bytes that begin no token, or the end of a text that is no specification
abbrev pub IsCutOff : Labelling → ℕ → List (Token × ℕ) → Stop → ℕ → Type 0
IsCutOff l k tokens (ended at) place = (at ≡ place) × AreGood l k (plain tokens) × ((out : List ℕ) (terms : List (List Factor)) → IsSpec (plain tokens) out terms → ⊥)
IsCutOff l k tokens (stuck at) place = (at ≡ place) × AreGood l k (plain tokens)

-- a whole specification without a fault, and its terms
pub record IsRead (l : Labelling) (k : ℕ) (mul : ℕ → ℕ → ℕ) (tokens : List (Token × ℕ)) (stop : Stop) (said : SpecTerms) : Type 0 where
  pub place : ℕ
  pub whole : stop ≡ ended place
  pub good : AreGood l k (plain tokens)
  pub out : List ℕ
  pub terms : List (List Factor)
  pub is_spec : IsSpec (plain tokens) out terms
  pub said_is : said ≡ terms_of l mul terms

-- what may come of the tokens; out of memory is free
abbrev pub MayCome : Labelling → ℕ → (ℕ → ℕ → ℕ) → List (Token × ℕ) → Stop → Outcome SpecFault SpecTerms
MayCome l k mul tokens stop (Ok said) = IsRead l k mul tokens stop said
MayCome l k mul tokens stop (Err (Syntax place)) = IsUnfit l k tokens place ⊎ IsCutOff l k tokens stop place
MayCome l k mul tokens stop (Err (UnknownWord place)) = (before : List Token) × (t : Token) × IsFaulty l k tokens place before t × IsBeginning (before ++ t ∷ []) × (is_named l before t ≡ false)
MayCome l k mul tokens stop (Err (BadNumber place)) = (before : List Token) × (t : Token) × IsFaulty l k tokens place before t × IsBeginning (before ++ t ∷ []) × (is_in_range k before t ≡ false)
MayCome l k mul tokens stop (Err OutOfMemory) = Unit {0}

-- what may come of a text
abbrev pub SpecOutcome : Labelling → ℕ → (ℕ → ℕ → ℕ) → List ℕ → Outcome SpecFault SpecTerms
SpecOutcome l k mul bytes result = (tokens : List (Token × ℕ)) × (stop : Stop) × AreTokens 0 bytes tokens stop × MayCome l k mul tokens stop result

-- not out of memory
abbrev pub IsOfText : Result SpecTerms SpecFault → Type 0
IsOfText (Ok said) = Unit {0}
IsOfText (Err OutOfMemory) = ⊥
IsOfText (Err fault) = Unit {0}

-- what may come of a text but out of memory: its specification, or its first fault
abbrev pub ComesOfText : Labelling → ℕ → (ℕ → ℕ → ℕ) → List ℕ → Outcome SpecFault SpecTerms
ComesOfText l k mul bytes result = SpecOutcome l k mul bytes result × IsOfText result
