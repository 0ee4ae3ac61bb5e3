-- Listings of stages: names, which of them are listed, the stage of a name, and which name comes before which; and the first
-- stage of a listing over a bound. Source: this project's own.
use Rattle.std.specs.Prelude.{◌≡◌, ◌⊎◌, ◌↔◌, ℕ, ◌<◌}
use Rattle.poly_mixed.specs.Polynomial.{Point}
use Rattle.poly_mixed.specs.declared.stage.ReduceFault.{ReduceFault}
use Rattle.poly_mixed.specs.declared.stage.ReduceFault.TheVariants.{TooManyTerms, OutOfMemory}
use Rattle.poly_mixed.specs.declared.stage.Stage.{Stage}
use Rattle.poly_mixed.specs.declared.stage.Stage.TheVariants.{Cut, WordProduct, WordSum, SpecProduct, SpecSum, InstanceProduct, InstanceSum}
use Rattle.stage_model.specs.Stage.{HasSize, IsWithin, RelatesEachPoint}

-- names of stages, those that are listed, what each relates, and their order
pub record Listing (N : Type 0) : Type 1 where
  pub is_listed : N → Type 0
  pub stage_of : N → Point → ℕ → Type 0
  pub comes_before : N → N → Type 0

-- of two listed names one comes before the other, or they are one
abbrev pub IsOrdered : {N : Type 0} → Listing N → Type 0
IsOrdered {N = N} listing = (a b : N) → listing.is_listed a → listing.is_listed b → (a ≡ b) ⊎ (listing.comes_before a b ⊎ listing.comes_before b a)

-- each listed stage relates each point of elements to an element, of the field of 2 to the k elements
abbrev pub HaveValues : ℕ → {N : Type 0} → Listing N → Type 0
HaveValues k {N = N} listing = (name : N) → listing.is_listed name → RelatesEachPoint k (listing.stage_of name)

-- a name of the first listing, or one of the second
pub data Joined (A B : Type 0) : Type 0 where
  Earlier : A → Joined A B
  Later : B → Joined A B

module _ {A B : Type 0} (first : Listing A) (second : Listing B) where
  -- a name is listed where its listing lists it
  abbrev pub is_in_either : Joined A B → Type 0
  is_in_either (Earlier name) = first.is_listed name
  is_in_either (Later name) = second.is_listed name

  -- its stage is that of its listing
  abbrev pub stage_of_either : Joined A B → Point → ℕ → Type 0
  stage_of_either (Earlier name) = first.stage_of name
  stage_of_either (Later name) = second.stage_of name

  -- all names of the first listing come before those of the second
  abbrev pub earlier_first : Joined A B → Joined A B → Type 0
  earlier_first (Earlier name) (Earlier other) = first.comes_before name other
  earlier_first (Earlier name) (Later other) = Unit {0}
  earlier_first (Later name) (Earlier other) = ⊥
  earlier_first (Later name) (Later other) = second.comes_before name other

  -- one listing and then the other
  abbrev pub followed_by : Listing (Joined A B)
  followed_by = record { is_listed = is_in_either; stage_of = stage_of_either; comes_before = earlier_first }

module _ (k : ℕ) (mul : ℕ → ℕ → ℕ) {N : Type 0} (listing : Listing N) (bound : ℕ) where
  -- no listed stage is over the bound
  abbrev pub AreAllWithin : Type 0
  AreAllWithin = (name : N) → listing.is_listed name → IsWithin k mul (listing.stage_of name) bound

  -- of the listed stages the first over the bound, with its size
  pub record IsOver (name : N) (n : ℕ) : Type 0 where
    pub listed : listing.is_listed name
    pub size : HasSize k mul (listing.stage_of name) n
    pub over : bound < n
    pub before : (other : N) → listing.is_listed other → listing.comes_before other name → IsWithin k mul (listing.stage_of other) bound

  -- all are within the bound, or one is the first over it
  abbrev pub AreWithinOrOver : Type 0
  AreWithinOrOver = AreAllWithin ⊎ ((name : N) × (n : ℕ) × IsOver name n)

  -- one at most is the first over the bound, with one size
  abbrev pub HasOneOver : Type 0
  HasOneOver = (name other : N) (m n : ℕ) → IsOver name m → IsOver other n → (name ≡ other) × (m ≡ n)

  -- where one is the first over the bound, not all are within it
  abbrev pub OverIsNotAllWithin : Type 0
  OverIsNotAllWithin = (name : N) (n : ℕ) → IsOver name n → AreAllWithin → ⊥

module _ (k : ℕ) (mul : ℕ → ℕ → ℕ) {N : Type 0} (listing other : Listing N) (bound : ℕ) where
  -- in both listings the same stage is the first over the bound, with the same size
  abbrev pub HaveSameOver : Type 0
  HaveSameOver = (name : N) (n : ℕ) → IsOver k mul listing bound name n ↔ IsOver k mul other bound name n

module _ (k : ℕ) (mul : ℕ → ℕ → ℕ) (listing : Listing Stage) (bound : ℕ) where
  -- the first stage over the bound, with its size; out of memory is free
  abbrev pub IsRefusal : ReduceFault → Type 0
  IsRefusal (TooManyTerms stage n) = IsOver k mul listing bound stage n
  IsRefusal OutOfMemory = Unit {0}

-- nothing is related: what a name stands for that belongs to another listing
abbrev pub Nothing : Point → ℕ → Type 0
Nothing p e = ⊥

module _ (count : ℕ) (cuts : ℕ → Point → ℕ → Type 0) where
  -- the names of the first cuts, by their numbers
  abbrev pub is_first_cut : Stage → Type 0
  is_first_cut (Cut t) = t < count
  is_first_cut (WordProduct word term bit) = ⊥
  is_first_cut (WordSum word term) = ⊥
  is_first_cut (SpecProduct term factor) = ⊥
  is_first_cut (SpecSum term) = ⊥
  is_first_cut (InstanceProduct instance term factor) = ⊥
  is_first_cut (InstanceSum instance term) = ⊥

  -- the cut of a number
  abbrev pub cut_of : Stage → Point → ℕ → Type 0
  cut_of (Cut t) = cuts t
  cut_of (WordProduct word term bit) = Nothing
  cut_of (WordSum word term) = Nothing
  cut_of (SpecProduct term factor) = Nothing
  cut_of (SpecSum term) = Nothing
  cut_of (InstanceProduct instance term factor) = Nothing
  cut_of (InstanceSum instance term) = Nothing

  -- a cut comes before those of greater numbers
  abbrev pub is_earlier_cut : Stage → Stage → Type 0
  is_earlier_cut (Cut s) (Cut t) = s < t
  is_earlier_cut name other = ⊥

  -- so many cuts, by rising number
  abbrev pub cut_listing : Listing Stage
  cut_listing = record { is_listed = is_first_cut; stage_of = cut_of; comes_before = is_earlier_cut }

-- the name of a stage of a circuit: that of a cut, or of a word's stage
abbrev pub CircuitStage : Type 0
CircuitStage = Joined Stage Stage
