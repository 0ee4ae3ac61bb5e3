-- The search for the first stage over a bound.
use Rattle.std.proofs.Common.{◌⊎◌, sym, subst, inl, inr, ℕ, zero, suc, ◌<◌, arith}
use Rattle.std.proofs.lemmas.Bool.{cases_eq, cases_lt}
use Rattle.poly_mixed.specs.Polynomial.{Point}
use Rattle.stage_model.specs.Stage.{HasSize, IsWithin}
use Rattle.stage_model.specs.Listing.{Listing, Earlier, Later, followed_by, AreAllWithin, IsOver}
use Rattle.stage_model.proofs.ListingLemmas.{both_within, earlier_over, later_over}

-- the first of so many numbers with one property, all before it having the other
pub record IsFirstOf (count : ℕ) (good bad : ℕ → Type 0) : Type 0 where
  pub at : ℕ
  pub low : at < count
  pub is : bad at
  pub before : (i : ℕ) → i < at → good i

pub search : (count : ℕ) (good bad : ℕ → Type 0) → ((i : ℕ) → i < count → good i ⊎ bad i) → ((i : ℕ) → i < count → good i) ⊎ IsFirstOf count good bad
search zero good bad each = inl (λ i less. absurd (omega arith))
search (suc m) good bad each =
    elim (search m good bad (λ i less. each i (omega arith))) [
      | inl all ↦ elim (each m (omega arith)) [
        | inl fine ↦ inl (λ i less. elim (cases_eq i m) [ inl e ↦ subst good (sym e) fine | inr n ↦ all i (omega arith) ])
        | inr is ↦ inr (record { at = m; low = omega arith; is = is; before = all })
      ]
      | inr first ↦ inr (record { at = first.at; low = omega (arith, first.low); is = first.is; before = first.before })
    ]

module _ (k : ℕ) (mul : ℕ → ℕ → ℕ) where
  -- the stage has more terms than the bound
  pub record IsOverBound (stage : Point → ℕ → Type 0) (bound : ℕ) : Type 0 where
    pub size : ℕ
    pub has : HasSize k mul stage size
    pub over : bound < size

  -- a stage with a size is within the bound, or over it
  pub measured : (stage : Point → ℕ → Type 0) (bound n : ℕ) → HasSize k mul stage n → IsWithin k mul stage bound ⊎ IsOverBound stage bound
  measured stage bound n has =
      elim (cases_lt bound n) [
        | inl over ↦ inr (record { size = n; has = has; over = over })
        | inr within ↦ inl (record { size = n; has = has; within = omega arith })
      ]

  -- all stages of the listing are within the bound, or one is the first over it
  abbrev pub IsDecided : {N : Type 0} → Listing N → ℕ → Type 0
  IsDecided {N = N} listing bound = AreAllWithin k mul listing bound ⊎ ((name : N) × (n : ℕ) × IsOver k mul listing bound name n)

  pub both_decided : {A B : Type 0} (first : Listing A) (second : Listing B) (bound : ℕ) → IsDecided first bound → IsDecided second bound → IsDecided (followed_by first second) bound
  both_decided first second bound (inl all) (inl rest) = inl (both_within k mul first second bound all rest)
  both_decided first second bound (inl all) (inr over) = inr (Later over.0, over.1, (later_over k mul first second bound over.0 over.1).1 (all, over.2))
  both_decided first second bound (inr over) other = inr (Earlier over.0, over.1, (earlier_over k mul first second bound over.0 over.1).1 over.2)
