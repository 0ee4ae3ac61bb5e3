-- The first of a list and the rest, as slices give them.
use Rattle.std.proofs.Common.{◌≡◌, ap, sym, refl, ◌∙◌, ℕ, zero, suc, ◌≤◌, ◌-◌, List, [], ◌∷◌, length, take, drop, Some, arith}
use Rattle.std.specs.Prelude.{slice_get, slice_index_or}
use Rattle.lists.specs.Lists.{Has}

take_whole : {X : Type 0} (n : ℕ) (xs : List X) → n ≡ length xs → take n xs ≡ xs
take_whole zero [] same = refl
take_whole zero (x ∷ xs) same = absurd (omega arith)
take_whole (suc n) [] same = refl
take_whole (suc n) (x ∷ xs) same = ap (λ ys. x ∷ ys) (take_whole n xs (omega arith))

-- what follows the first
abbrev pub rest : {X : Type 0} → List X → List X
rest xs = take (length xs - 1) (drop 1 xs)

pub rest_is : {X : Type 0} (x : X) (xs : List X) → rest (x ∷ xs) ≡ xs
rest_is x xs = take_whole (length (x ∷ xs) - 1) xs (omega arith)

pub rest_get : {X : Type 0} (xs : List X) (k : ℕ) (y : X) → slice_get (rest xs) k ≡ Some y → slice_get xs (suc k) ≡ Some y
rest_get [] k y got = cc
rest_get (x ∷ xs) k y got = ap (λ ys. slice_get ys k) (sym (rest_is x xs)) ∙ got

pub get_rest : {X : Type 0} (xs : List X) (k : ℕ) (y : X) → slice_get xs (suc k) ≡ Some y → slice_get (rest xs) k ≡ Some y
get_rest [] k y got = absurd (cc)
get_rest (x ∷ xs) k y got = ap (λ ys. slice_get ys k) (rest_is x xs) ∙ got

pub rest_has : {X : Type 0} (xs : List X) (x : X) → Has (rest xs) x → Has xs x
rest_has xs x has = (suc has.0, rest_get xs has.0 x has.1)

pub rest_long : {X Y : Type 0} (xs : List X) (ys : List Y) → length xs ≡ length ys → length (rest xs) ≡ length (rest ys)
rest_long [] [] same = refl
rest_long [] (y ∷ ys) same = absurd (omega arith)
rest_long (x ∷ xs) [] same = absurd (omega arith)
rest_long (x ∷ xs) (y ∷ ys) same = ap length (rest_is x xs) ∙ ((omega arith) ∙ sym (ap length (rest_is y ys)))

pub first_get : (xs : List ℕ) → 1 ≤ length xs → slice_get xs 0 ≡ Some (slice_index_or xs 0 0)
first_get [] some = absurd (omega arith)
first_get (x ∷ xs) some = refl
