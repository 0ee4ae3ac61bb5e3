-- Laws of sums over lists.
use Rattle.std.proofs.Common.{◌≡◌, ℕ, zero, suc, ◌+◌, List, [], ◌∷◌, ◌++◌, Some, arith}
use Rattle.std.specs.Prelude.{slice_get, sum_by}
use Rattle.std.proofs.Math.ListN.{set}
use Rattle.std.proofs.lemmas.List.Sums.{sum_by-cons}

module _ {A : Type 0} where
  pub sum_by-set_at : (f : A → ℕ) (xs : List A) (i : ℕ) (x y : A) → slice_get xs i ≡ Some x → sum_by f (set xs i y) + f x ≡ sum_by f xs + f y
  sum_by-set_at f [] i x y got = absurd (cc)
  sum_by-set_at f (x' ∷ xs) zero x y got = let same : x' ≡ x = cc in rw (same, sum_by-cons f y xs, sum_by-cons f x xs) (omega arith)
  sum_by-set_at f (x' ∷ xs) (suc i) x y got = omega (arith, sum_by-set_at f xs i x y got, sum_by-cons f x' (set xs i y), sum_by-cons f x' xs)

  pub sum_by-push : (f : A → ℕ) (xs : List A) (y : A) → sum_by f (xs ++ y ∷ []) ≡ sum_by f xs + f y
  sum_by-push f [] y = omega (arith, sum_by-cons f y [])
  sum_by-push f (x ∷ xs) y = omega (arith, sum_by-push f xs y, sum_by-cons f x xs, sum_by-cons f x (xs ++ y ∷ []))
