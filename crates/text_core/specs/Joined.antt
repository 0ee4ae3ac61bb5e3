-- The grammar of parts that a sign joins, over tokens of any kind: terms joined by `+`, their factors by `*`.
-- Source: this project's own, docs/FORMATS.md.
use Rattle.std.specs.Prelude.{◌≡◌, List, [], ◌∷◌, ◌++◌}

-- one or more parts with a sign between them
abbrev pub AreJoined : {T A : Type 0} → T → (List T → A → Type 0) → List T → List A → Type 0
AreJoined sign Is ts [] = ⊥
AreJoined sign Is ts (a ∷ []) = Is ts a
AreJoined {T} sign Is ts (a ∷ b ∷ more) = (front : List T) × (rest : List T) × (ts ≡ front ++ sign ∷ rest) × Is front a × AreJoined sign Is rest (b ∷ more)

-- some tokens after these make a whole
abbrev pub Begins : {T A : Type 0} → (List T → A → Type 0) → List T → Type 0
Begins {T} {A} Is ts = (rest : List T) × (a : A) × Is (ts ++ rest) a
