-- The grammar of the text of a polynomial: terms joined by `+`, each of parts joined by `*`, a coefficient first.
-- Source: this project's own, docs/FORMATS.md.
use Rattle.std.specs.Prelude.{◌≡◌, ◌⊎◌, ℕ, ◌<◌, ◌^◌, List, [], ◌∷◌, codes}
use Rattle.std.specs.List.{AllByRecursion}
use Rattle.text_core.specs.Numbers.{value_of}
use Rattle.text_core.specs.Joined.{AreJoined, Begins}
use Rattle.poly_mixed.specs.Labels.{AreDifferent}
use Rattle.poly_mixed.specs.Token.{Named, word, bit, net, Token, variable, hex, figures, plus_sign, times_sign, power_sign}

-- a coefficient, or a variable to an exponent
pub data Part : Type 0 where
  number : ℕ → Part
  factor : Named → ℕ → Part

-- a word, with an exponent from 1 to 2^k - 1 after `^` or to the power 1; a bit or a net to the power 1
abbrev pub IsFactor : ℕ → List Token → Named → ℕ → Type 0
IsFactor k ts (word name) e = ((ts ≡ variable (word name) ∷ []) × (e ≡ 1)) ⊎ ((digits : List ℕ) × (ts ≡ variable (word name) ∷ power_sign ∷ figures digits ∷ []) × (e ≡ value_of 10 digits) × (0 < e) × (e < 2 ^ k))
IsFactor k ts (bit name place) e = (ts ≡ variable (bit name place) ∷ []) × (e ≡ 1)
IsFactor k ts (net n) e = (ts ≡ variable (net n) ∷ []) × (e ≡ 1)

-- a coefficient is below 2^k
abbrev pub IsPart : ℕ → List Token → Part → Type 0
IsPart k ts (number c) = (ts ≡ hex c ∷ []) × (c < 2 ^ k)
IsPart k ts (factor v e) = IsFactor k ts v e

abbrev pub IsVariable : Part → Type 0
IsVariable (number c) = ⊥
IsVariable (factor v e) = Unit {0}

-- the variables of a term
abbrev pub variables : List Part → List Named
variables [] = []
variables (number c ∷ ps) = variables ps
variables (factor v e ∷ ps) = v ∷ variables ps

-- a coefficient stands first
abbrev pub IsInOrder : List Part → Type 0
IsInOrder [] = Unit {0}
IsInOrder (p ∷ ps) = AllByRecursion IsVariable ps

-- the term `0`, which has no part; or a coefficient and variables, each variable once
abbrev pub IsTerm : ℕ → List Token → List Part → Type 0
IsTerm k ts [] = ts ≡ figures (codes "0") ∷ []
IsTerm k ts (p ∷ ps) = AreJoined times_sign (IsPart k) ts (p ∷ ps) × IsInOrder (p ∷ ps) × AreDifferent (variables (p ∷ ps))

-- the tokens are a polynomial with these terms
abbrev pub IsPolynomial : ℕ → List Token → List (List Part) → Type 0
IsPolynomial k = AreJoined plus_sign (IsTerm k)

-- some tokens after these make a polynomial
abbrev pub IsBeginning : ℕ → List Token → Type 0
IsBeginning k ts = Begins (IsPolynomial k) ts
