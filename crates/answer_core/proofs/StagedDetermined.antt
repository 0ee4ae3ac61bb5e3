-- At most one value or fault comes of a job with stages.
use Rattle.std.proofs.Common.{◌≡◌, ◌∙◌, ap, sym, ℕ, List, Ok, Err}
use Rattle.outcome.specs.Outcome.{Determined}
use Rattle.stage_model.specs.Listing.{Listing, AreAllWithin}
use Rattle.stage_model.proofs.ListingLemmas.{IsOrdered, HaveOneSize, one_over, over_not_all}
use Rattle.job_words.specs.declared.stage_fault.StageFault.{StageFault}
use Rattle.answer_core.specs.Staged.{Staged, IsStageOver}

module _ (k : ℕ) (mul : ℕ → ℕ → ℕ) {N A : Type 0} (listing : Listing N) (called : N → List ℕ) (bound : ℕ) (is : A → Type 0) (one : (a b : A) → is a → is b → a ≡ b) (ordered : IsOrdered listing) (sizes : HaveOneSize k mul listing) where
  never_both : (fault : StageFault) (C : Type 0) → IsStageOver k mul listing called bound fault → AreAllWithin k mul listing bound → C
  never_both fault C over all = absurd (over_not_all k mul listing bound sizes over.name fault.terms over.over all)

  one_fault : (f e : StageFault) → IsStageOver k mul listing called bound f → IsStageOver k mul listing called bound e → f ≡ e
  one_fault f e a b =
      let same = one_over k mul listing bound ordered sizes a.name b.name f.terms e.terms a.over b.over in
      let text : f.stage ≡ e.stage = a.text ∙ (ap called same.0 ∙ sym b.text) in
      let most : f.bound ≡ e.bound = a.most ∙ sym b.most in
      (λ i. record { stage = text i; terms = same.1 i; bound = most i })

  pub staged_determined : Determined (Staged k mul listing called bound is)
  staged_determined (Ok a) (Ok b) h g = ap Ok (one a b h.0 g.0)
  staged_determined (Ok a) (Err f) h g = never_both f _ g h.1
  staged_determined (Err f) (Ok b) h g = never_both f _ h g.1
  staged_determined (Err f) (Err e) h g = ap Err (one_fault f e h g)
