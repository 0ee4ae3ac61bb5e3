-- The stages of a specification: of two one comes first, each has one size, and none needs a word.
use Rattle.std.proofs.Common.{◌≡◌, ◌⊎◌, sym, inl, inr, ℕ, arith}
use Rattle.std.proofs.lemmas.Bool.{cases_order}
use Rattle.poly_mixed.specs.declared.stage.ReduceFault.{ReduceFault}
use Rattle.poly_mixed.specs.declared.stage.ReduceFault.TheVariants as reduce
use Rattle.poly_mixed.specs.declared.stage.Stage.{Stage}
use Rattle.poly_mixed.specs.declared.stage.Stage.TheVariants.{Cut, WordProduct, WordSum, SpecProduct, SpecSum, InstanceProduct, InstanceSum}
use Rattle.circuit_model.specs.Circuit.{Circuit}
use Rattle.circuit_model.specs.WellFormed.{IsWellFormed}
use Rattle.stage_model.specs.Listing.{IsRefusal}
use Rattle.stage_model.proofs.ListingLemmas.{IsOrdered, HaveOneSize}
use Rattle.stage_model.proofs.SizeLemmas.{same_size}
use Rattle.spec_expand.specs.SpecListing.{spec_listing, spec_stage_of, is_earlier_spec_stage}
use Rattle.spec_expand.specs.Specification.{SpecTerms}
use Rattle.spec_expand.proofs.StageValueLemmas.{only_stage}
use Rattle.answer_core.specs.StageStop.{IsNamed}

abbrev Ordered : Stage → Stage → Type 0
Ordered a b = (a ≡ b) ⊎ (is_earlier_spec_stage a b ⊎ is_earlier_spec_stage b a)

products : (r i s j : ℕ) → Ordered (SpecProduct r i) (SpecProduct s j)
products r i s j =
    elim (cases_order r s) [
      | inl same ↦ elim (cases_order i j) [
        | inl tie ↦ inl (λ t. SpecProduct (same t) (tie t))
        | inr other ↦ elim other [ inl low ↦ inr (inl (inr (same, low))) | inr high ↦ inr (inr (inr (sym same, high))) ]
      ]
      | inr other ↦ elim other [ inl low ↦ inr (inl (inl low)) | inr high ↦ inr (inr (inl high)) ]
    ]

product_sum : (r i s : ℕ) → Ordered (SpecProduct r i) (SpecSum s)
product_sum r i s =
    elim (cases_order r s) [
      | inl same ↦ inr (inl (omega (arith, same)))
      | inr other ↦ elim other [ inl low ↦ inr (inl (omega (arith, low))) | inr high ↦ inr (inr high) ]
    ]

sum_product : (r s j : ℕ) → Ordered (SpecSum r) (SpecProduct s j)
sum_product r s j =
    elim (cases_order r s) [
      | inl same ↦ inr (inr (omega (arith, same)))
      | inr other ↦ elim other [ inl low ↦ inr (inl low) | inr high ↦ inr (inr (omega (arith, high))) ]
    ]

sums : (r s : ℕ) → Ordered (SpecSum r) (SpecSum s)
sums r s =
    elim (cases_order r s) [
      | inl same ↦ inl (λ t. SpecSum (same t))
      | inr other ↦ elim other [ inl low ↦ inr (inl low) | inr high ↦ inr (inr high) ]
    ]

pub spec_ordered : (c : Circuit) (spec : SpecTerms) → IsOrdered (spec_listing c spec)
spec_ordered c spec (SpecProduct r i) (SpecProduct s j) x y = products r i s j
spec_ordered c spec (SpecProduct r i) (SpecSum s) x y = product_sum r i s
spec_ordered c spec (SpecSum r) (SpecProduct s j) x y = sum_product r s j
spec_ordered c spec (SpecSum r) (SpecSum s) x y = sums r s
spec_ordered c spec (Cut t) b x y = absurd x
spec_ordered c spec (WordProduct w s j) b x y = absurd x
spec_ordered c spec (WordSum w s) b x y = absurd x
spec_ordered c spec (InstanceProduct i s j) b x y = absurd x
spec_ordered c spec (InstanceSum i s) b x y = absurd x
spec_ordered c spec (SpecProduct r i) (Cut t) x y = absurd y
spec_ordered c spec (SpecProduct r i) (WordProduct w s j) x y = absurd y
spec_ordered c spec (SpecProduct r i) (WordSum w s) x y = absurd y
spec_ordered c spec (SpecProduct r i) (InstanceProduct n s j) x y = absurd y
spec_ordered c spec (SpecProduct r i) (InstanceSum n s) x y = absurd y
spec_ordered c spec (SpecSum r) (Cut t) x y = absurd y
spec_ordered c spec (SpecSum r) (WordProduct w s j) x y = absurd y
spec_ordered c spec (SpecSum r) (WordSum w s) x y = absurd y
spec_ordered c spec (SpecSum r) (InstanceProduct n s j) x y = absurd y
spec_ordered c spec (SpecSum r) (InstanceSum n s) x y = absurd y

pub spec_sizes : (c : Circuit) (spec : SpecTerms) → IsWellFormed c → HaveOneSize c.k c.product (spec_listing c spec)
spec_sizes c spec well name m n listed a b = same_size c.k c.product well.ring well.no_zero_divisors (spec_stage_of c spec name) (λ p x y at first other. only_stage c well spec name p x y first other) m n a b

pub spec_named : (k : ℕ) (mul : ℕ → ℕ → ℕ) (c : Circuit) (spec : SpecTerms) (count bound : ℕ) (fault : ReduceFault) → IsRefusal k mul (spec_listing c spec) bound fault → IsNamed count fault
spec_named k mul c spec count bound (reduce.TooManyTerms (Cut t) n) over = absurd over.listed
spec_named k mul c spec count bound (reduce.TooManyTerms (WordProduct w s j) n) over = absurd over.listed
spec_named k mul c spec count bound (reduce.TooManyTerms (WordSum w s) n) over = absurd over.listed
spec_named k mul c spec count bound (reduce.TooManyTerms (SpecProduct s j) n) over = tt
spec_named k mul c spec count bound (reduce.TooManyTerms (SpecSum s) n) over = tt
spec_named k mul c spec count bound (reduce.TooManyTerms (InstanceProduct i s j) n) over = absurd over.listed
spec_named k mul c spec count bound (reduce.TooManyTerms (InstanceSum i s) n) over = absurd over.listed
spec_named k mul c spec count bound reduce.OutOfMemory over = tt
