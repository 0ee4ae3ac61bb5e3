-- All stages of a circuit as a listing.
use Rattle.std.proofs.Common.{ℕ, ◌<◌, ◌^◌, ◌+◌, length, arith}
use Rattle.circuit_model.specs.Circuit.{Circuit}
use Rattle.circuit_model.specs.WellFormed.{IsWellFormed}
use Rattle.poly_mixed.specs.Polynomial.{Point, IsPoint}
use Rattle.poly_mixed.specs.declared.stage.Stage.{Stage}
use Rattle.poly_mixed.specs.declared.stage.Stage.TheVariants.{Cut, WordProduct, WordSum, SpecProduct, SpecSum, InstanceProduct, InstanceSum}
use Rattle.stage_model.specs.Cut.{CutOf}
use Rattle.stage_model.specs.Listing.{Joined, Earlier, Later, is_first_cut, cut_of, is_earlier_cut}
use Rattle.stage_model.specs.WordListing.{word_listing}
use Rattle.stage_model.specs.CircuitListing.{circuit_cuts, circuit_stages}
use Rattle.stage_model.proofs.CutLemmas.{some_cut, one_cut}
use Rattle.stage_model.proofs.SizeLemmas.{IsFunction}
use Rattle.stage_model.proofs.ListingLemmas.{IsOrdered, HaveOneSize, both_ordered, both_sizes}
use Rattle.stage_model.proofs.CutListingLemmas.{cuts_ordered, cuts_sizes}
use Rattle.stage_model.proofs.WordListingLemmas as words

not_both_cuts : (count : ℕ) (cuts : ℕ → Point → ℕ → Type 0) (a b : Stage) → is_earlier_cut count cuts a b → is_earlier_cut count cuts b a → ⊥
not_both_cuts count cuts (Cut m) (Cut n) x y = omega arith
not_both_cuts count cuts (Cut m) (WordProduct w s j) x y = absurd x
not_both_cuts count cuts (Cut m) (WordSum w s) x y = absurd x
not_both_cuts count cuts (Cut m) (SpecProduct s j) x y = absurd x
not_both_cuts count cuts (Cut m) (SpecSum s) x y = absurd x
not_both_cuts count cuts (Cut m) (InstanceProduct i s j) x y = absurd x
not_both_cuts count cuts (Cut m) (InstanceSum i s) x y = absurd x
not_both_cuts count cuts (WordProduct w s j) b x y = absurd x
not_both_cuts count cuts (WordSum w s) b x y = absurd x
not_both_cuts count cuts (SpecProduct s j) b x y = absurd x
not_both_cuts count cuts (SpecSum s) b x y = absurd x
not_both_cuts count cuts (InstanceProduct i s j) b x y = absurd x
not_both_cuts count cuts (InstanceSum i s) b x y = absurd x

module _ (c : Circuit) where
  pub stages_ordered : IsOrdered (circuit_stages c)
  stages_ordered = both_ordered c.k c.product (circuit_cuts c) (word_listing c) (cuts_ordered (length c.net.gates + 1) (CutOf c)) (words.words_ordered c)

  pub not_both : (a b : Joined Stage Stage) → (circuit_stages c).comes_before a b → (circuit_stages c).comes_before b a → ⊥
  not_both (Earlier a) (Earlier b) x y = not_both_cuts (length c.net.gates + 1) (CutOf c) a b x y
  not_both (Earlier a) (Later b) x y = absurd y
  not_both (Later a) (Earlier b) x y = absurd x
  not_both (Later a) (Later b) x y = words.not_both a b x y

  module _ (well : IsWellFormed c) where
    some_cut_stage : (name : Stage) (p : Point) → is_first_cut (length c.net.gates + 1) (CutOf c) name → (e : ℕ) × cut_of (length c.net.gates + 1) (CutOf c) name p e × (e < 2 ^ c.k)
    some_cut_stage (Cut t) p is = some_cut c well t p
    some_cut_stage (WordProduct w s j) p is = absurd is
    some_cut_stage (WordSum w s) p is = absurd is
    some_cut_stage (SpecProduct s j) p is = absurd is
    some_cut_stage (SpecSum s) p is = absurd is
    some_cut_stage (InstanceProduct i s j) p is = absurd is
    some_cut_stage (InstanceSum i s) p is = absurd is

    one_cut_stage : (name : Stage) → IsFunction c.k (cut_of (length c.net.gates + 1) (CutOf c) name)
    one_cut_stage (Cut t) p x y at a b = one_cut c well t p x y a b
    one_cut_stage (WordProduct w s j) p x y at a b = absurd a
    one_cut_stage (WordSum w s) p x y at a b = absurd a
    one_cut_stage (SpecProduct s j) p x y at a b = absurd a
    one_cut_stage (SpecSum s) p x y at a b = absurd a
    one_cut_stage (InstanceProduct i s j) p x y at a b = absurd a
    one_cut_stage (InstanceSum i s) p x y at a b = absurd a

    pub some_stage : (name : Joined Stage Stage) (p : Point) → IsPoint c.k p → (circuit_stages c).is_listed name → (e : ℕ) × (circuit_stages c).stage_of name p e × (e < 2 ^ c.k)
    some_stage (Earlier name) p at is = some_cut_stage name p is
    some_stage (Later name) p at is = words.some_word_stage c well name p at is

    pub one_stage : (name : Joined Stage Stage) → IsFunction c.k ((circuit_stages c).stage_of name)
    one_stage (Earlier name) = one_cut_stage name
    one_stage (Later name) = words.one_word_stage c well name

    pub stages_sizes : HaveOneSize c.k c.product (circuit_stages c)
    stages_sizes = both_sizes c.k c.product (circuit_cuts c) (word_listing c) (cuts_sizes (length c.net.gates + 1) (CutOf c) c.k c.product well.ring well.no_zero_divisors (λ t p x y at a b. one_cut c well t p x y a b)) (words.words_sizes c well)
