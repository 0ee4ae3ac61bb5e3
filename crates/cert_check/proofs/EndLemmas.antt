-- The verdict after the last line.
use Rattle.std.proofs.Common.{◌≡◌, ◌≢◌, ◌∙◌, ap, sym, refl, subst, ℕ, List, [], length, Ok}
use Rattle.std.proofs.lemmas.List.{nil_from_length}
use Rattle.gf_basis.specs.declared.bases.Basis.{Basis}
use Rattle.net_words.specs.Binding.{BoundNet}
use Rattle.poly_mixed.specs.Polynomial.{Terms}
use Rattle.cert_check.specs.Certificate.{Certificate}
use Rattle.cert_check.specs.Verdict.{IsRunningSum, VerdictAtEnd, valid, invalid}
use Rattle.cert_check.specs.declared.running_sum.RunningSum.{RunningSum}
use Rattle.cert_check.specs.private.Held.{with_rows, whole}
use Rattle.cert_check.specs.private.Kept.{IsKept}

-- the size where the rows were added to the polynomial
pub flushed_size : (k : ℕ) (mul : ℕ → ℕ → ℕ) (dual : ℕ → ℕ → ℕ) (n : ℕ) (old new : RunningSum) → new.rows.items ≡ [] → new.poly.terms ≡ whole k mul dual old → n ≡ length (whole k mul dual new) → n ≡ length (whole k mul dual old)
flushed_size k mul dual n old new none all size = size ∙ (λ i. length (with_rows k mul dual (none i) (all i)))

module _ (k : ℕ) (mul : ℕ → ℕ → ℕ) (bound : BoundNet) (bases : List Basis) (most number : ℕ) (c : Certificate) (claim : Terms) (shared : List Terms) (sum : Terms) (rest : List (List ℕ)) (none : rest ≡ []) (kept : IsKept k mul bound bases most c claim shared sum) where
  -- the claim is proved where no term is left
  pub at_end_valid : length sum ≡ 0 → VerdictAtEnd k mul bound bases number rest c (Ok (valid claim))
  at_end_valid size =
      let P : List (List ℕ) → Type 0 = λ ls. VerdictAtEnd k mul bound bases number ls c (Ok (valid claim)) in
      let S : Terms → Type 0 = IsRunningSum k mul bound bases c in
      subst P (sym none) (c, refl, (kept.claim_is, subst S (nil_from_length sum size) kept.sum_is))

  -- and it is not where some are left
  pub at_end_invalid : (n : ℕ) → n ≡ length sum → n ≢ 0 → VerdictAtEnd k mul bound bases number rest c (Ok (invalid n))
  at_end_invalid n size some =
      let P : List (List ℕ) → Type 0 = λ ls. VerdictAtEnd k mul bound bases number ls c (Ok (invalid n)) in
      subst P (sym none) (c, refl, (sum, kept.sum_is, (λ e. some (size ∙ ap length e)), size))
