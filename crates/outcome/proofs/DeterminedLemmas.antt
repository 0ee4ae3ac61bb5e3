-- Steps that are determined, one after another.
use Rattle.std.proofs.Common.{◌≡◌, ◌∙◌, ap, sym, inl, inr, subst, Result, Ok, Err}
use Rattle.lists.specs.laws.OptionLaws.{same_ok, same_fault, ok_no_fault}
use Rattle.outcome.specs.Outcome.{Outcome, ◌>>=◌, Exactly, Returns, Within, Determined}

pub determined_returns : {F A : Type 0} (answer : Result A F) → Determined (Returns answer)
determined_returns answer = λ x y h k. h ∙ sym k

pub determined_exactly : {F A : Type 0} (value : A) → Determined {F = F} (Exactly value)
determined_exactly value (Ok a) (Ok b) h k = ap Ok (h ∙ sym k)
determined_exactly value (Ok a) (Err e) h k = absurd k
determined_exactly value (Err e) y h k = absurd h

-- the faults of one part as those of another
module _ {F G A : Type 0} (wrap : F → G) (outcome : Outcome F A) (one : Determined outcome) where
  pub determined_within : Determined (Within wrap outcome)
  determined_within (Ok a) (Ok b) h k = ap Ok (same_ok a b (one (Ok a) (Ok b) h k))
  determined_within (Ok a) (Err e) h k = absurd (ok_no_fault a k.0 (one (Ok a) (Err k.0) h k.1))
  determined_within (Err d) (Ok b) h k = absurd (ok_no_fault b h.0 (one (Ok b) (Err h.0) k h.1))
  determined_within (Err d) (Err e) h k = ap Err (h.2 ∙ ap wrap (same_fault h.0 k.0 (one (Err h.0) (Err k.0) h.1 k.1)) ∙ sym k.2)

-- a step and then another, which is determined after each value that may come of the first
module _ {F A B : Type 0} (first : Outcome F A) (second : A → Outcome F B) (one : Determined first) (two : (a : A) → first (Ok a) → Determined (second a)) where
  rest : (a b : A) (x y : Result B F) → first (Ok a) → first (Ok b) → second a x → second b y → x ≡ y
  rest a b x y f g h k =
      let same : a ≡ b = same_ok a b (one (Ok a) (Ok b) f g) in
      let P : A → Type 0 = λ c. second c y in
      two a f x y h (subst P (sym same) k)

  never : (a : A) (e : F) (C : Type 0) → first (Ok a) → first (Err e) → C
  never a e C f g = absurd (ok_no_fault a e (one (Ok a) (Err e) f g))

  errors : (d e : F) → first (Err d) → first (Err e) → ◌≡◌ {A = Result B F} (Err d) (Err e)
  errors d e f g = ap Err (same_fault d e (one (Err d) (Err e) f g))

  pub determined_after : Determined (first >>= second)
  determined_after (Ok x) (Ok y) h k = rest h.0 k.0 (Ok x) (Ok y) h.1 k.1 h.2 k.2
  determined_after (Ok x) (Err e) h k = elim k [ inl w ↦ never h.0 e _ h.1 w | inr w ↦ rest h.0 w.0 (Ok x) (Err e) h.1 w.1 h.2 w.2 ]
  determined_after (Err d) (Ok y) h k = elim h [ inl w ↦ never k.0 d _ k.1 w | inr w ↦ rest w.0 k.0 (Err d) (Ok y) w.1 k.1 w.2 k.2 ]
  determined_after (Err d) (Err e) h k = elim h [
    | inl w ↦ elim k [ inl v ↦ errors d e w v | inr v ↦ never v.0 d _ v.1 w ]
    | inr w ↦ elim k [ inl v ↦ never w.0 e _ w.1 v | inr v ↦ rest w.0 v.0 (Err d) (Err e) w.1 v.1 w.2 v.2 ]
  ]

-- a step and then another that is determined after any value
pub determined_bind : {F A B : Type 0} (first : Outcome F A) (second : A → Outcome F B) (one : Determined first) (two : (a : A) → Determined (second a)) → Determined (first >>= second)
determined_bind first second one two = determined_after first second one (λ a may. two a)
