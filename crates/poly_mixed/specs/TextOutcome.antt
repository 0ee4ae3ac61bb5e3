-- What may come of reading the text of a polynomial: the polynomial, or the fault of its first token that has one.
-- At one token, that no polynomial goes on with it comes before a name that the labels do not have.
-- Source: this project's own, docs/FORMATS.md.
use Rattle.std.specs.Prelude.{◌≡◌, ◌⊎◌, ℕ, List, [], ◌∷◌, ◌++◌, Option, None, Some, Ok, Err}
use Rattle.std.specs.List.{AllByRecursion}
use Rattle.outcome.specs.Outcome.{Outcome}
use Rattle.poly_mixed.specs.Labels.{Labelling, word_of, bit_of}
use Rattle.poly_mixed.specs.Polynomial.{Terms}
use Rattle.text_core.specs.Scan.{skip}
use Rattle.poly_mixed.specs.Token.{word, bit, net, Token, variable, Front, token_front, AreFront}
use Rattle.poly_mixed.specs.Grammar.{Part, IsPolynomial, IsBeginning}
use Rattle.poly_mixed.specs.Said.{net_rank, sum_of}
use Rattle.poly_mixed.specs.declared.fault.PolyFault.{PolyFault}
use Rattle.poly_mixed.specs.declared.fault.PolyFault.TheVariants.{Syntax, NoSuchNet, NoSuchBit, OutOfMemory}

-- what is wrong with a text
pub data TextFault : Type 0 where
  no_polynomial : TextFault
  no_such_net : TextFault
  no_such_bit : TextFault

-- a fault of the code that is one of the text
abbrev pub text_fault : PolyFault → Option TextFault
text_fault Syntax = Some no_polynomial
text_fault NoSuchNet = Some no_such_net
text_fault NoSuchBit = Some no_such_bit
text_fault OutOfMemory = None

-- nothing is wrong with what is found
abbrev pub or_else : TextFault → Option ℕ → Option TextFault
or_else fault None = Some fault
or_else fault (Some n) = None

-- what is wrong with a name: a word that the labels do not have is no word of a polynomial
abbrev pub name_fault : Labelling → Token → Option TextFault
name_fault l (variable (word name)) = or_else no_polynomial (word_of l.words name)
name_fault l (variable (bit name place)) = or_else no_such_bit (bit_of l.words name place)
name_fault l (variable (net n)) = or_else no_such_net (net_rank l n)
name_fault l other = None

-- these tokens stand at the front, some polynomial begins with them, and the labels have their names
pub record IsSoFar (l : Labelling) (k : ℕ) (bytes : List ℕ) (before : List Token) (rest : List ℕ) : Type 0 where
  pub front : AreFront bytes before rest
  pub fits : IsBeginning k before
  pub known : AllByRecursion (λ t. name_fault l t ≡ None) before

-- what is wrong after these tokens, where this is left of the text
abbrev pub IsRefusedAt : Labelling → ℕ → List Token → List ℕ → Front → TextFault → Type 0
IsRefusedAt l k before left None fault = (fault ≡ no_polynomial) × (left ≡ [] → (terms : List (List Part)) → IsPolynomial k before terms → ⊥)
IsRefusedAt l k before left (Some (t, after)) fault = ((fault ≡ no_polynomial) × (IsBeginning k (before ++ t ∷ []) → ⊥)) ⊎ (IsBeginning k (before ++ t ∷ []) × (name_fault l t ≡ Some fault))

-- the first token that has a fault, or the end of a text that is no polynomial
pub record IsRefused (l : Labelling) (k : ℕ) (bytes : List ℕ) (fault : TextFault) : Type 0 where
  pub before : List Token
  pub rest : List ℕ
  pub so_far : IsSoFar l k bytes before rest
  pub refused : IsRefusedAt l k before (skip rest) (token_front (skip rest)) fault

-- the whole text is a polynomial, whose terms have this sum
pub record IsRead (l : Labelling) (k : ℕ) (bytes : List ℕ) (said : Terms) : Type 0 where
  pub tokens : List Token
  pub rest : List ℕ
  pub so_far : IsSoFar l k bytes tokens rest
  pub whole : skip rest ≡ []
  pub terms : List (List Part)
  pub grammar : IsPolynomial k tokens terms
  pub said_is : said ≡ sum_of l [] terms

-- what may come of a text
abbrev pub TextOutcome : Labelling → ℕ → List ℕ → Outcome TextFault Terms
TextOutcome l k bytes (Ok said) = IsRead l k bytes said
TextOutcome l k bytes (Err fault) = IsRefused l k bytes fault
