-- The tokens of a text with the places where they begin, counted in bytes from 0. Source: this project's own.
use Rattle.std.specs.Prelude.{◌≡◌, ℕ, ◌+◌, ◌<◌, List, [], ◌∷◌, length, take, drop, map}
use Rattle.spec_text.specs.Token.{Token, AreWhite, IsFront, HasNoFront}

-- where the tokens end: at the end of the text, or before bytes that begin no token
pub data Stop : Type 0 where
  ended : ℕ → Stop
  stuck : ℕ → Stop

-- from this place on the text has these tokens, white bytes between them, and then the stop
abbrev pub AreTokens : ℕ → List ℕ → List (Token × ℕ) → Stop → Type 0
AreTokens place bs [] (ended at) = AreWhite bs × (at ≡ place + length bs)
AreTokens place bs [] (stuck at) = (white : ℕ) × (white < length bs) × AreWhite (take white bs) × (at ≡ place + white) × (AreWhite (take (white + 1) bs) → ⊥) × HasNoFront (drop white bs)
AreTokens place bs (t ∷ ts) stop = (white : ℕ) × (n : ℕ) × AreWhite (take white bs) × (t.1 ≡ place + white) × IsFront (drop white bs) t.0 n × AreTokens (t.1 + n) (drop (white + n) bs) ts stop

-- the tokens without their places
abbrev pub plain : List (Token × ℕ) → List Token
plain ts = map (λ t. t.0) ts
