-- Laws of truth values.
use Rattle.std.proofs.Common.{◌≡◌, sym, refl, ℕ, Bool, true, false, ◌&&◌, ◌||◌, not, cond, if◌then◌else◌}

-- a truth value is one of two
pub either : {P : Type 0} (b : Bool) → (b ≡ true → P) → (b ≡ false → P) → P
either true p q = p refl
either false p q = q refl

-- both are true
pub both_true : (a b : Bool) → (a && b) ≡ true → (a ≡ true) × (b ≡ true)
both_true true true e = (refl, refl)
both_true true false e = absurd (cc)
both_true false b e = absurd (cc)

-- the first is
pub first_true : (a b : Bool) → (a && b) ≡ true → a ≡ true
first_true true b x = refl
first_true false b x = absurd (cc)

-- the second is
pub second_true : (a b : Bool) → (a && b) ≡ true → b ≡ true
second_true true b x = x
second_true false b x = absurd (cc)

pub and_made : (a b : Bool) → a ≡ true → b ≡ true → (a && b) ≡ true
and_made true b first second = second
and_made false b first second = absurd (cc)

pub or_right : (a b : Bool) → b ≡ true → (a || b) ≡ true
or_right true b e = refl
or_right false b e = e

pub neither : (a b : Bool) → (a || b) ≡ false → (a ≡ false) × (b ≡ false)
neither true b e = absurd (cc)
neither false b e = (refl, e)

-- what is not true is false
pub not_true : (b : Bool) → not b ≡ true → b ≡ false
not_true true e = absurd (cc)
not_true false e = refl

-- what is not false is true
pub not_false : (b : Bool) → not b ≡ false → b ≡ true
not_false true e = refl
not_false false e = absurd (cc)

pub both_ways : (s t : Bool) → (s ≡ true → t ≡ true) → (t ≡ true → s ≡ true) → s ≡ t
both_ways true t f g = sym (f refl)
both_ways false true f g = g refl
both_ways false false f g = refl

-- ---- the order of parts

pub and_swap : (a b c : Bool) → (a && (b && c)) ≡ (b && (a && c))
and_swap true b c = refl
and_swap false true c = refl
and_swap false false c = refl

pub and_into : (a b c : Bool) → (a && (b && c)) ≡ ((a && b) && c)
and_into true b c = refl
and_into false b c = refl

pub and_into_second : (a b c d : Bool) → (a && ((b && c) && d)) ≡ ((b && (a && c)) && d)
and_into_second true b c d = refl
and_into_second false true c d = refl
and_into_second false false c d = refl

pub and_into_first : (a b c d : Bool) → (a && ((b && c) && d)) ≡ (((a && b) && c) && d)
and_into_first true b c d = refl
and_into_first false b c d = refl

pub and_twice : (a b : Bool) → ((a && b) && a) ≡ (a && b)
and_twice true true = refl
and_twice true false = refl
and_twice false b = refl

pub or_swap : (a b c : Bool) → (a || (b || c)) ≡ (b || (a || c))
or_swap true true c = refl
or_swap true false c = refl
or_swap false b c = refl

-- ---- choices

pub cond_and : (a b : Bool) (x : ℕ) → cond (a && b) x 0 ≡ cond b (cond a x 0) 0
cond_and true b x = refl
cond_and false b x = elim b as (λ v. ◌≡◌ {A = ℕ} 0 (cond v 0 0)) [ true ↦ refl | false ↦ refl ]

pub same_twice : {A : Type 0} (b : Bool) (x y z : A) → (if b then x else z) ≡ (if b then x else (if b then y else z))
same_twice true x y z = refl
same_twice false x y z = refl

pub apart_twice : {A : Type 0} (a b : Bool) (x y z : A) → (a ≡ true → b ≡ true → ⊥) → (if a then x else (if b then y else z)) ≡ (if b then y else (if a then x else z))
apart_twice true true x y z apart = absurd (apart refl refl)
apart_twice true false x y z apart = refl
apart_twice false b x y z apart = refl
