-- Laws of the front of a list and of what is left.
use Rattle.std.proofs.Common.{◌≡◌, ◌∙◌, ap, sym, refl, ℕ, zero, suc, ◌<◌, ◌≤◌, ◌+◌, List, [], ◌∷◌, ◌++◌, length, map, take, drop, Some, get_or, arith, add-one}
use Rattle.std.specs.Prelude.{slice_get}

-- what stands in front
pub front_of : (xs ys : List ℕ) → take (length xs) (xs ++ ys) ≡ xs
front_of [] ys = refl
front_of (x ∷ xs) ys = ap (λ (l : List ℕ). x ∷ l) (front_of xs ys)

pub taken_front : (xs ys : List ℕ) (n : ℕ) → length xs ≡ n → take n (xs ++ ys) ≡ xs
taken_front [] ys zero long = refl
taken_front [] ys (suc n) long = absurd (omega (arith, long))
taken_front (x ∷ xs) ys zero long = absurd (omega (arith, long))
taken_front (x ∷ xs) ys (suc n) long = ap (λ zs. x ∷ zs) (taken_front xs ys n (omega (arith, long)))

pub take_none : {A : Type 0} (xs : List A) → take 0 xs ≡ []
take_none [] = refl
take_none (x ∷ xs) = refl

pub drop_none : {A : Type 0} (xs : List A) → drop 0 xs ≡ xs
drop_none [] = refl
drop_none (x ∷ xs) = refl

module _ {A : Type 0} where
  -- one element more
  pub taken_next : (xs : List A) (n : ℕ) (x : A) → slice_get xs n ≡ Some x → take (suc n) xs ≡ take n xs ++ x ∷ []
  taken_next [] n x got = absurd (cc)
  taken_next (y ∷ ys) zero x got = let same : y ≡ x = cc in ap (λ z. z ∷ []) same
  taken_next (y ∷ ys) (suc n) x got = ap (λ zs. y ∷ zs) (taken_next ys n x got)

  pub taken_more : (xs : List A) (n : ℕ) (x : A) → slice_get xs n ≡ Some x → take (n + 1) xs ≡ take n xs ++ x ∷ []
  taken_more xs n x got = ap (λ m. take m xs) (add-one n) ∙ taken_next xs n x got

  pub taken_as_long : (xs : List A) (p : ℕ) (x : A) → slice_get xs p ≡ Some x → length (take p xs) ≡ p
  taken_as_long [] p x got = absurd (cc)
  taken_as_long (y ∷ ys) zero x got = refl
  taken_as_long (y ∷ ys) (suc p) x got = ap suc (taken_as_long ys p x got)

  -- one element less
  pub dropped_at : (xs : List A) (j : ℕ) (u : A) → slice_get xs j ≡ Some u → drop j xs ≡ u ∷ drop (suc j) xs
  dropped_at [] j u at = absurd (cc)
  dropped_at (x ∷ xs) zero u at = let same : x ≡ u = cc in ap (λ y. y ∷ xs) same
  dropped_at (x ∷ xs) (suc j) u at = dropped_at xs j u at

  pub drop_read_suc : (xs : List A) (i : ℕ) (x : A) → i < length xs → x ≡ get_or xs i x → drop i xs ≡ x ∷ drop (suc i) xs
  drop_read_suc [] i x less is = absurd (omega arith)
  drop_read_suc (y ∷ xs) zero x less is = ap (λ z. z ∷ xs) (sym is)
  drop_read_suc (y ∷ xs) (suc i) x less is = drop_read_suc xs i x (omega arith) is

  pub drop_read : (xs : List A) (i : ℕ) (x : A) → i < length xs → x ≡ get_or xs i x → drop i xs ≡ x ∷ drop (i + 1) xs
  drop_read xs i x less is = let e : i + 1 ≡ suc i = omega arith in rw e (drop_read_suc xs i x less is)

  -- a place in what is left
  pub get_drop : (n : ℕ) (xs : List A) (k : ℕ) → slice_get (drop n xs) k ≡ slice_get xs (n + k)
  get_drop zero xs k = let e : 0 + k ≡ k = omega arith in ap (slice_get xs) (sym e)
  get_drop (suc n) [] k = refl
  get_drop (suc n) (x ∷ xs) k = get_drop n xs k ∙ (let e : suc n + k ≡ suc (n + k) = omega arith in ap (slice_get (x ∷ xs)) (sym e))

  pub length_drop_plus : (n : ℕ) (xs : List A) → n < length xs → n + length (drop n xs) ≡ length xs
  length_drop_plus n [] less = absurd (omega arith)
  length_drop_plus zero (x ∷ xs) less = omega arith
  length_drop_plus (suc n) (x ∷ xs) less = omega (arith, length_drop_plus n xs (omega arith))

-- the images of what is left, with one more element
pub drop_map_push : {X Y : Type 0} (f : X → Y) (n : ℕ) (xs : List X) (x : X) → n ≤ length xs → map f (drop n xs) ++ f x ∷ [] ≡ drop n (map f (xs ++ x ∷ []))
drop_map_push f zero [] x less = refl
drop_map_push f zero (y ∷ ys) x less = ap (λ (zs : List _). f y ∷ zs) (drop_map_push f zero ys x (omega arith))
drop_map_push f (suc n) [] x less = absurd (omega arith)
drop_map_push f (suc n) (y ∷ ys) x less = drop_map_push f n ys x (omega arith)
