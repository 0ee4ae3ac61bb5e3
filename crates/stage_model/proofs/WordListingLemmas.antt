-- The stages of words as a listing.
use Rattle.std.proofs.Common.{◌≡◌, ◌⊎◌, sym, inl, inr, ℕ, ◌<◌, ◌^◌, arith}
use Rattle.std.proofs.lemmas.Bool.{cases_order}
use Rattle.circuit_model.specs.WellFormed.{IsWellFormed}
use Rattle.circuit_model.specs.Circuit.{Circuit}
use Rattle.poly_mixed.specs.Polynomial.{Point, IsPoint}
use Rattle.poly_mixed.specs.declared.stage.Stage.{Stage}
use Rattle.poly_mixed.specs.declared.stage.Stage.TheVariants.{Cut, WordProduct, WordSum, SpecProduct, SpecSum, InstanceProduct, InstanceSum}
use Rattle.stage_model.specs.WordListing.{word_listing, is_word_stage, word_stage_of, is_earlier_word_stage, IsEarlier}
use Rattle.stage_model.proofs.SizeLemmas.{IsFunction, same_size}
use Rattle.stage_model.proofs.ListingLemmas.{IsOrdered, HaveOneSize}
use Rattle.stage_model.proofs.WordStageLemmas.{some_product, one_product, some_sum, one_sum}

-- not both of two terms stand before the other
pub not_mutual : (v r w s : ℕ) (S T : Type 0) → (S → T → ⊥) → IsEarlier v r w s S → IsEarlier w s v r T → ⊥
not_mutual v r w s S T none (inl low) (inl high) = omega arith
not_mutual v r w s S T none (inl low) (inr tie) = let e = tie.0 in omega arith
not_mutual v r w s S T none (inr tie) (inl high) = let e = tie.0 in omega arith
not_mutual v r w s S T none (inr (e, inl low)) (inr (f, inl high)) = omega arith
not_mutual v r w s S T none (inr (e, inl low)) (inr (f, inr tie)) = let g = tie.0 in omega arith
not_mutual v r w s S T none (inr (e, inr tie)) (inr (f, inl high)) = let g = tie.0 in omega arith
not_mutual v r w s S T none (inr (e, inr tie)) (inr (f, inr other)) = none tie.1 other.1

abbrev Ordered : Stage → Stage → Type 0
Ordered a b = (a ≡ b) ⊎ (is_earlier_word_stage a b ⊎ is_earlier_word_stage b a)

pub products : (v r i w s j : ℕ) → Ordered (WordProduct v r i) (WordProduct w s j)
products v r i w s j =
    elim (cases_order v w) [
      | inl same ↦ elim (cases_order r s) [
        | inl equal ↦ elim (cases_order i j) [
          | inl tie ↦ inl ((λ t. WordProduct (same t) (equal t) (tie t)))
          | inr other ↦ elim other [ inl low ↦ inr (inl (inr (same, inr (equal, low)))) | inr high ↦ inr (inr (inr (sym same, inr (sym equal, high)))) ]
        ]
        | inr other ↦ elim other [ inl low ↦ inr (inl (inr (same, inl low))) | inr high ↦ inr (inr (inr (sym same, inl high))) ]
      ]
      | inr other ↦ elim other [ inl low ↦ inr (inl (inl low)) | inr high ↦ inr (inr (inl high)) ]
    ]

pub product_sum : (v r i w s : ℕ) → is_earlier_word_stage (WordProduct v r i) (WordSum w s) ⊎ is_earlier_word_stage (WordSum w s) (WordProduct v r i)
product_sum v r i w s =
    elim (cases_order v w) [
      | inl same ↦ elim (cases_order r s) [
        | inl equal ↦ inl (inr (same, inr (equal, tt)))
        | inr other ↦ elim other [ inl low ↦ inl (inr (same, inl low)) | inr high ↦ inr (inr (sym same, inl high)) ]
      ]
      | inr other ↦ elim other [ inl low ↦ inl (inl low) | inr high ↦ inr (inl high) ]
    ]

pub sums : (v r w s : ℕ) → Ordered (WordSum v r) (WordSum w s)
sums v r w s =
    elim (cases_order v w) [
      | inl same ↦ elim (cases_order r s) [
        | inl equal ↦ inl (λ t. WordSum (same t) (equal t))
        | inr other ↦ elim other [ inl low ↦ inr (inl (inr (same, inl low))) | inr high ↦ inr (inr (inr (sym same, inl high))) ]
      ]
      | inr other ↦ elim other [ inl low ↦ inr (inl (inl low)) | inr high ↦ inr (inr (inl high)) ]
    ]

-- of two stages of words not both come before the other
pub not_both : (a b : Stage) → is_earlier_word_stage a b → is_earlier_word_stage b a → ⊥
not_both (WordProduct v r i) (WordProduct w s j) x y = not_mutual v r w s (i < j) (j < i) (λ a b. omega arith) x y
not_both (WordProduct v r i) (WordSum w s) x y = not_mutual v r w s (Unit {0}) ⊥ (λ a b. b) x y
not_both (WordSum v r) (WordProduct w s j) x y = not_mutual v r w s ⊥ (Unit {0}) (λ a b. a) x y
not_both (WordSum v r) (WordSum w s) x y = not_mutual v r w s ⊥ ⊥ (λ a b. a) x y
not_both (WordProduct v r l) (Cut n) x y = absurd x
not_both (WordProduct v r l) (SpecProduct s j) x y = absurd x
not_both (WordProduct v r l) (SpecSum s) x y = absurd x
not_both (WordProduct v r l) (InstanceProduct i s j) x y = absurd x
not_both (WordProduct v r l) (InstanceSum i s) x y = absurd x
not_both (WordSum v r) (Cut n) x y = absurd x
not_both (WordSum v r) (SpecProduct s j) x y = absurd x
not_both (WordSum v r) (SpecSum s) x y = absurd x
not_both (WordSum v r) (InstanceProduct i s j) x y = absurd x
not_both (WordSum v r) (InstanceSum i s) x y = absurd x
not_both (Cut t) b x y = absurd x
not_both (SpecProduct s j) b x y = absurd x
not_both (SpecSum s) b x y = absurd x
not_both (InstanceProduct i s j) b x y = absurd x
not_both (InstanceSum i s) b x y = absurd x

module _ (c : Circuit) where
  -- word by word and term by term
  pub words_ordered : IsOrdered (word_listing c)
  words_ordered (WordProduct v r i) (WordProduct w s j) x y = products v r i w s j
  words_ordered (WordProduct v r i) (WordSum w s) x y = inr (product_sum v r i w s)
  words_ordered (WordSum v r) (WordProduct w s j) x y = elim (product_sum w s j v r) [ inl low ↦ inr (inr low) | inr high ↦ inr (inl high) ]
  words_ordered (WordSum v r) (WordSum w s) x y = sums v r w s
  words_ordered (WordProduct v r l) (Cut n) x y = absurd y
  words_ordered (WordProduct v r l) (SpecProduct s j) x y = absurd y
  words_ordered (WordProduct v r l) (SpecSum s) x y = absurd y
  words_ordered (WordProduct v r l) (InstanceProduct i s j) x y = absurd y
  words_ordered (WordProduct v r l) (InstanceSum i s) x y = absurd y
  words_ordered (WordSum v r) (Cut n) x y = absurd y
  words_ordered (WordSum v r) (SpecProduct s j) x y = absurd y
  words_ordered (WordSum v r) (SpecSum s) x y = absurd y
  words_ordered (WordSum v r) (InstanceProduct i s j) x y = absurd y
  words_ordered (WordSum v r) (InstanceSum i s) x y = absurd y
  words_ordered (Cut t) b x y = absurd x
  words_ordered (SpecProduct s j) b x y = absurd x
  words_ordered (SpecSum s) b x y = absurd x
  words_ordered (InstanceProduct i s j) b x y = absurd x
  words_ordered (InstanceSum i s) b x y = absurd x

  module _ (well : IsWellFormed c) where
    pub some_word_stage : (name : Stage) (p : Point) → IsPoint c.k p → is_word_stage c name → (e : ℕ) × word_stage_of c name p e × (e < 2 ^ c.k)
    some_word_stage (WordProduct w s j) p at is = some_product c well w s j p at is.word is.term is.is_term
    some_word_stage (WordSum w s) p at is = some_sum c well w s p at is.word is.is_term.terms is.is_term.before
    some_word_stage (Cut t) p at is = absurd is
    some_word_stage (SpecProduct s j) p at is = absurd is
    some_word_stage (SpecSum s) p at is = absurd is
    some_word_stage (InstanceProduct i s j) p at is = absurd is
    some_word_stage (InstanceSum i s) p at is = absurd is

    pub one_word_stage : (name : Stage) → IsFunction c.k (word_stage_of c name)
    one_word_stage (WordProduct w s j) p x y at a b = one_product c well w s j p x y at a b
    one_word_stage (WordSum w s) p x y at a b = one_sum c well w s p x y at a b
    one_word_stage (Cut t) p x y at a b = absurd a
    one_word_stage (SpecProduct s j) p x y at a b = absurd a
    one_word_stage (SpecSum s) p x y at a b = absurd a
    one_word_stage (InstanceProduct i s j) p x y at a b = absurd a
    one_word_stage (InstanceSum i s) p x y at a b = absurd a

    pub words_sizes : HaveOneSize c.k c.product (word_listing c)
    words_sizes name m n listed = same_size c.k c.product well.ring well.no_zero_divisors (word_stage_of c name) (one_word_stage name) m n
