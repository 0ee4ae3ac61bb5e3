-- The grammar as a walk from token to token: each specification is walked to its end.
use Rattle.std.proofs.Common.{◌≡◌, ◌∙◌, ap, sym, refl, subst, inl, inr, ℕ, List, [], ◌∷◌, ◌++◌, Option, Some, None, append_assoc}
use Rattle.std.specs.Option.{option_and_then}
use Rattle.text_core.proofs.WalkLemmas.{walk, walk_then, walk_on}
use Rattle.spec_text.specs.Token.{Token, name, equals, plus, times}
use Rattle.spec_text.specs.Grammar.{Factor, number, power_of, IsFactor, IsTerm, IsSpec, IsBeginning}
use Rattle.text_core.specs.Joined.{AreJoined}
use Rattle.spec_text.proofs.MoveLemmas.{Shape, at_left, at_sign, at_factor, at_number, at_name, at_power, go}

-- after a factor
unfoldable pub IsAfter : Shape → Type 0
IsAfter at_number = Unit {0}
IsAfter at_name = Unit {0}
IsAfter s = ⊥

after_times : (s : Shape) → IsAfter s → go s times ≡ Some at_factor
unfolding IsAfter go
after_times at_number is = refl
after_times at_name is = refl
after_times at_left is = absurd is
after_times at_sign is = absurd is
after_times at_factor is = absurd is
after_times at_power is = absurd is

after_plus : (s : Shape) → IsAfter s → go s plus ≡ Some at_factor
unfolding IsAfter go
after_plus at_number is = refl
after_plus at_name is = refl
after_plus at_left is = absurd is
after_plus at_sign is = absurd is
after_plus at_factor is = absurd is
after_plus at_power is = absurd is

-- the tokens lead from before a factor to after one
record Ends (ts : List Token) : Type 0 where
  pub shape : Shape
  pub walked : walk go at_factor ts ≡ Some shape
  pub after : IsAfter shape

factor_walked : (ts : List Token) (a : Factor) → IsFactor ts a → Ends ts
unfolding go IsAfter
factor_walked ts (number n) (inl e) = record { shape = at_number; walked = ap (walk go at_factor) e; after = tt }
factor_walked ts (number n) (inr e) = record { shape = at_number; walked = ap (walk go at_factor) e; after = tt }
factor_walked ts (power_of w n) (inl is) = record { shape = at_name; walked = ap (walk go at_factor) is.0; after = tt }
factor_walked ts (power_of w n) (inr e) = record { shape = at_number; walked = ap (walk go at_factor) e; after = tt }

module _ {A : Type 0} (sign : Token) (IsPart : List Token → A → Type 0) (over : (s : Shape) → IsAfter s → go s sign ≡ Some at_factor) (part : (ts : List Token) (a : A) → IsPart ts a → Ends ts) where
  joined_walked : (ts : List Token) (xs : List A) → AreJoined sign IsPart ts xs → Ends ts
  joined_walked ts [] is = absurd is
  joined_walked ts (a ∷ []) is = part ts a is
  joined_walked ts (a ∷ b ∷ xs) is =
      let first = part is.0 a is.3 in
      let rest = joined_walked is.1 (b ∷ xs) is.4 in
      record {
        shape = rest.shape;
        walked = ap (walk go at_factor) is.2 ∙ walk_then go at_factor first.shape is.0 (sign ∷ is.1) first.walked ∙ walk_on go first.shape at_factor sign is.1 (over first.shape first.after) ∙ rest.walked;
        after = rest.after;
      }

term_walked : (ts : List Token) (xs : List Factor) → IsTerm ts xs → Ends ts
term_walked = joined_walked times IsFactor after_times factor_walked

pub record IsWhole (ts : List Token) : Type 0 where
  pub shape : Shape
  pub walked : walk go at_left ts ≡ Some shape
  pub after : IsAfter shape

start : (out : List ℕ) (us : List Token) → walk go at_left (name out ∷ equals ∷ us) ≡ walk go at_factor us
unfolding go
start out us = refl

pub spec_walked : (ts : List Token) (out : List ℕ) (terms : List (List Factor)) → IsSpec ts out terms → IsWhole ts
spec_walked ts out terms is =
    let rest = joined_walked plus IsTerm after_plus term_walked is.0 terms is.2 in
    record { shape = rest.shape; walked = ap (walk go at_left) is.1 ∙ start out is.0 ∙ rest.walked; after = rest.after }

-- where a token may not stand, no specification begins so
pub no_beginning : (ts : List Token) (t : Token) (s : Shape) → walk go at_left ts ≡ Some s → go s t ≡ None → IsBeginning (ts ++ t ∷ []) → ⊥
no_beginning ts t s walked bad is =
    let all = spec_walked ((ts ++ t ∷ []) ++ is.0) is.1.0 is.1.1 is.2 in
    let stuck : walk go s (t ∷ is.0) ≡ None = ap (λ (o : Option Shape). option_and_then (λ u. walk go u is.0) o) bad in
    let nowhere : walk go at_left ((ts ++ t ∷ []) ++ is.0) ≡ None = ap (walk go at_left) (append_assoc ts (t ∷ []) is.0) ∙ walk_then go at_left s ts (t ∷ is.0) walked ∙ stuck in
    let bad' : Some all.shape ≡ None = sym all.walked ∙ nowhere in cc

pub walk_more : (ts : List Token) (t : Token) (s u : Shape) → walk go at_left ts ≡ Some s → go s t ≡ Some u → walk go at_left (ts ++ t ∷ []) ≡ Some u
walk_more ts t s u walked e = walk_then go at_left s ts (t ∷ []) walked ∙ walk_on go s u t [] e

-- where the walk does not end after a factor, the tokens are no specification
pub no_spec : (ts : List Token) (s : Shape) → walk go at_left ts ≡ Some s → (IsAfter s → ⊥) → (out : List ℕ) (terms : List (List Factor)) → IsSpec ts out terms → ⊥
no_spec ts s walked bad out terms is =
    let all = spec_walked ts out terms is in
    let same : s ≡ all.shape = some_same s all.shape (sym walked ∙ all.walked) in
    let P : Shape → Type 0 = IsAfter in
    bad (subst P (sym same) all.after)
  where
    some_same : (a b : Shape) → ◌≡◌ {A = Option Shape} (Some a) (Some b) → a ≡ b
    some_same a b e = cc
