-- A list with a property at each place.
use Rattle.std.proofs.Common.{◌≡◌, ◌∙◌, sym, refl, subst, inl, inr, ℕ, zero, suc, ◌<◌, List, [], ◌∷◌, ◌++◌, length, Some, arith}
use Rattle.std.specs.Prelude.{slice_get}
use Rattle.std.proofs.lemmas.List.{length-append}
use Rattle.lists.specs.laws.HasLaws.{none_at}
use Rattle.lists.specs.laws.ReadLaws.{got_push}

module _ {X : Type 0} (P : ℕ → X → Type 0) where
  abbrev pub IsListed : ℕ → List X → Type 0
  IsListed n xs = (length xs ≡ n) × ((j : ℕ) (x : X) → slice_get xs j ≡ Some x → P j x)

  pushed : (n : ℕ) (xs : List X) → IsListed n xs → (y : X) → P n y → IsListed (suc n) (xs ++ y ∷ [])
  pushed n xs (long, each) y is = ((let both = length-append xs (y ∷ []) in omega (arith, long, both)), all)
    where
      all : (j : ℕ) (x : X) → slice_get (xs ++ y ∷ []) j ≡ Some x → P j x
      all j x got =
          elim (got_push xs y j x got) [
            | inl there ↦ each j x there.0
            | inr here ↦ (let Q : ℕ → Type 0 = λ m. P m x in let R : X → Type 0 = λ z. P n z in subst Q (sym (here.0 ∙ long)) (subst R (sym here.1) is))
          ]

  pub listed : (n : ℕ) → ((j : ℕ) → j < n → (x : X) × P j x) → (xs : List X) × IsListed n xs
  listed zero each = ([], (refl, λ j x got. absurd (none_at x (j, got))))
  listed (suc n) each =
      let next = each n (omega arith) in
      let front = listed n (λ j less. each j (omega (arith, less))) in
      (front.0 ++ next.0 ∷ [], pushed n front.0 front.1 next.0 next.1)
