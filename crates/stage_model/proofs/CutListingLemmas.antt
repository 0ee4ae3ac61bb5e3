-- Cuts as a listing.
use Rattle.std.proofs.Common.{ap, inl, inr, ℕ, List}
use Rattle.std.proofs.lemmas.Bool.{cases_order}
use Rattle.net_core.specs.NetList.{NetList}
use Rattle.net_core.specs.Sound.{IsSound}
use Rattle.gf_field.specs.Ring.{IsRing}
use Rattle.gf_field.specs.Field.{HasNoZeroDivisors}
use Rattle.circuit_model.specs.Word.{Word}
use Rattle.poly_mixed.specs.Polynomial.{Point}
use Rattle.poly_mixed.specs.declared.stage.Stage.TheVariants.{Cut, WordProduct, WordSum, SpecProduct, SpecSum, InstanceProduct, InstanceSum}
use Rattle.stage_model.specs.Cut.{IsCut}
use Rattle.stage_model.specs.Listing.{cut_listing}
use Rattle.stage_model.proofs.CutLemmas.{one_cut_of}
use Rattle.stage_model.proofs.SizeLemmas.{IsFunction, same_size}
use Rattle.stage_model.proofs.ListingLemmas.{IsOrdered, HaveOneSize}

module _ (count : ℕ) (cuts : ℕ → Point → ℕ → Type 0) where
  -- of two cuts that of the less number comes first
  pub cuts_ordered : IsOrdered (cut_listing count cuts)
  cuts_ordered (Cut m) (Cut n) x y = elim (cases_order m n) [ inl same ↦ inl (ap (λ t. Cut t) same) | inr other ↦ inr other ]
  cuts_ordered (Cut m) (WordProduct w s j) x y = absurd y
  cuts_ordered (Cut m) (WordSum w s) x y = absurd y
  cuts_ordered (Cut m) (SpecProduct s j) x y = absurd y
  cuts_ordered (Cut m) (SpecSum s) x y = absurd y
  cuts_ordered (Cut m) (InstanceProduct i s j) x y = absurd y
  cuts_ordered (Cut m) (InstanceSum i s) x y = absurd y
  cuts_ordered (WordProduct w s j) b x y = absurd x
  cuts_ordered (WordSum w s) b x y = absurd x
  cuts_ordered (SpecProduct s j) b x y = absurd x
  cuts_ordered (SpecSum s) b x y = absurd x
  cuts_ordered (InstanceProduct i s j) b x y = absurd x
  cuts_ordered (InstanceSum i s) b x y = absurd x

  -- where each cut is a function, its size is one
  pub cuts_sizes : (k : ℕ) (mul : ℕ → ℕ → ℕ) → IsRing k mul → HasNoZeroDivisors k mul → ((t : ℕ) → IsFunction k (cuts t)) → HaveOneSize k mul (cut_listing count cuts)
  cuts_sizes k mul ring field one (Cut t) m n listed = same_size k mul ring field (cuts t) (one t) m n
  cuts_sizes k mul ring field one (WordProduct w s j) m n listed = absurd listed
  cuts_sizes k mul ring field one (WordSum w s) m n listed = absurd listed
  cuts_sizes k mul ring field one (SpecProduct s j) m n listed = absurd listed
  cuts_sizes k mul ring field one (SpecSum s) m n listed = absurd listed
  cuts_sizes k mul ring field one (InstanceProduct i s j) m n listed = absurd listed
  cuts_sizes k mul ring field one (InstanceSum i s) m n listed = absurd listed

-- the cuts of a sound net have one size each
pub net_cuts_sizes : (k : ℕ) (mul : ℕ → ℕ → ℕ) (net : NetList) (variables : List ℕ) (output : Word) (count : ℕ) → IsRing k mul → HasNoZeroDivisors k mul → IsSound net → HaveOneSize k mul (cut_listing count (IsCut net variables output))
net_cuts_sizes k mul net variables output count ring field sound = cuts_sizes count (IsCut net variables output) k mul ring field (λ t p x y at first second. one_cut_of net sound variables output t p x y first second)
