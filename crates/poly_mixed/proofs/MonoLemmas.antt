-- A bit taken out of rising ranks.
use Rattle.std.proofs.Common.{◌≡◌, ℕ, List, not, nat_eq, Result, Ok, Err, sym, ◌∙◌, subst}
use Rattle.std.specs.List.{remove, filter}
use Rattle.std.specs.List.Sorted.{IsStrictlySortedBy, IsBinarySearchResult}
use Rattle.std.specs.Ordering.{nat_cmp}
use Rattle.poly_mixed.specs.private.Listed.{IsFound}
use Rattle.poly_mixed.proofs.SlotListLemmas.{is_found, without_slot-there, without_slot-gap}

module _ (xs zs : List ℕ) (x : ℕ) (r : Result ℕ ℕ) (same : zs ≡ xs) (up : IsStrictlySortedBy nat_cmp xs) (found : IsBinarySearchResult (λ y. nat_cmp y x) zs r) where
  in_ranks : IsFound xs x r
  in_ranks = let P : List ℕ → Type 0 = λ ys. IsBinarySearchResult (λ y. nat_cmp y x) ys r in is_found xs x r up (subst P same found)

  -- it is there
  pub dropped : (i : ℕ) (ys : List ℕ) → r ≡ Ok i → ys ≡ remove xs i → ys ≡ filter (λ r. not (nat_eq r x)) xs
  dropped i ys is gone = let P : Result ℕ ℕ → Type 0 = IsFound xs x in gone ∙ sym (without_slot-there xs i x up (subst P is in_ranks))

  -- it is not there
  pub not_there : (i : ℕ) → r ≡ Err i → xs ≡ filter (λ r. not (nat_eq r x)) xs
  not_there i is = let P : Result ℕ ℕ → Type 0 = IsFound xs x in sym (without_slot-gap xs i x (subst P is in_ranks))
