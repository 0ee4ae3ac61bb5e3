-- The grammar of specifications: NAME = term + term .., a term being factor * factor .. Source: this project's own.
use Rattle.std.specs.Prelude.{◌≡◌, ◌⊎◌, ℕ, List, [], ◌∷◌}
use Rattle.text_core.specs.Joined.{AreJoined, Begins}
use Rattle.spec_text.specs.Token.{Token, name, hex, decimal, equals, plus, times, power}

-- a number, or a name to an exponent
pub data Factor : Type 0 where
  number : ℕ → Factor
  power_of : List ℕ → ℕ → Factor

-- a number in hexadecimal or decimal; a name, to the power 1 where no exponent stands
abbrev pub IsFactor : List Token → Factor → Type 0
IsFactor ts (number n) = (ts ≡ hex n ∷ []) ⊎ (ts ≡ decimal n ∷ [])
IsFactor ts (power_of word e) = ((ts ≡ name word ∷ []) × (e ≡ 1)) ⊎ (ts ≡ name word ∷ power ∷ decimal e ∷ [])

-- factors joined by `*`
abbrev pub IsTerm : List Token → List Factor → Type 0
IsTerm = AreJoined times IsFactor

-- the name on the left and the terms
abbrev pub IsSpec : List Token → List ℕ → List (List Factor) → Type 0
IsSpec ts out terms = (rest : List Token) × (ts ≡ name out ∷ equals ∷ rest) × AreJoined plus IsTerm rest terms

-- some tokens after these make a specification
abbrev pub IsBeginning : List Token → Type 0
IsBeginning ts = Begins (λ us (said : List ℕ × List (List Factor)). IsSpec us said.0 said.1) ts
