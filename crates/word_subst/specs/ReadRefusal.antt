-- What a refusal of the replacement of one word says. Source: this project's own.
use Rattle.std.specs.Prelude.{◌≡◌, ℕ, ◌<◌, ◌≤◌, ◌+◌, List, Some, length, slice_get}
use Rattle.poly_mixed.specs.Monomial.{Monomial}
use Rattle.poly_mixed.specs.Polynomial.{Terms}
use Rattle.poly_mixed.specs.declared.stage.ReduceFault.{ReduceFault}
use Rattle.poly_mixed.specs.declared.stage.ReduceFault.TheVariants.{TooManyTerms, OutOfMemory}
use Rattle.poly_mixed.specs.declared.stage.Stage.{Stage}
use Rattle.poly_mixed.specs.declared.stage.Stage.TheVariants.{Cut, WordProduct, WordSum, SpecProduct, SpecSum, InstanceProduct, InstanceSum}
use Rattle.stage_model.specs.WordStage.{word_bits}
use Rattle.word_subst.specs.Read.{product_at, sum_at, HasWithin, HasOver, IsTermWithin, AreTermsWithin}

module _ (k : ℕ) (mul : ℕ → ℕ → ℕ) (elements : List ℕ) (w : ℕ) where
  -- of the products of a term, that of the first j bits is the first over the bound, and has n terms
  pub record IsProductOver (term : Monomial × ℕ) (bound j n : ℕ) : Type 0 where
    pub some : 1 ≤ j
    pub bits : j ≤ length (word_bits k w term)
    pub over : HasOver k mul elements w (product_at k mul w term j) bound n
    pub before : (i : ℕ) → 1 ≤ i → i < j → HasWithin k mul elements w (product_at k mul w term i) bound

  -- the stage is a product of term s of the word, the first of them over the bound, and has n terms
  abbrev pub IsTermOver : Monomial × ℕ → ℕ → ℕ → Stage → ℕ → Type 0
  IsTermOver term s bound (WordProduct v r j) n = (v ≡ w) × (r ≡ s) × IsProductOver term bound j n
  IsTermOver term s bound (Cut t) n = ⊥
  IsTermOver term s bound (WordSum v r) n = ⊥
  IsTermOver term s bound (SpecProduct r j) n = ⊥
  IsTermOver term s bound (SpecSum r) n = ⊥
  IsTermOver term s bound (InstanceProduct i r j) n = ⊥
  IsTermOver term s bound (InstanceSum i r) n = ⊥

  -- that stage with its size; out of memory is free
  abbrev pub IsTermRefusal : Monomial × ℕ → ℕ → ℕ → ReduceFault → Type 0
  IsTermRefusal term s bound (TooManyTerms stage n) = IsTermOver term s bound stage n
  IsTermRefusal term s bound OutOfMemory = Unit {0}

  -- term s exists, counted from 1, and all stages of the terms before it are within the bound
  pub record IsReached (terms : Terms) (bound s : ℕ) (term : Monomial × ℕ) : Type 0 where
    pub place : ℕ
    pub number : place + 1 ≡ s
    pub at : slice_get terms place ≡ Some term
    pub before : AreTermsWithin k mul elements w terms place bound

  -- of the stages of the word, product j of term s is the first over the bound, and has n terms
  pub record IsProductFirst (terms : Terms) (bound s j n : ℕ) : Type 0 where
    pub term : Monomial × ℕ
    pub reached : IsReached terms bound s term
    pub over : IsProductOver term bound j n

  -- of the stages of the word, the sum of the first s terms is the first over the bound, and has n terms
  pub record IsSumFirst (terms : Terms) (bound s n : ℕ) : Type 0 where
    pub term : Monomial × ℕ
    pub reached : IsReached terms bound s term
    pub products : IsTermWithin k mul elements w term bound
    pub over : HasOver k mul elements w (sum_at k mul w terms s) bound n

  -- the stage is one of the word, the first of them over the bound, and has n terms
  abbrev pub IsWordOver : Terms → ℕ → Stage → ℕ → Type 0
  IsWordOver terms bound (WordProduct v s j) n = (v ≡ w) × IsProductFirst terms bound s j n
  IsWordOver terms bound (WordSum v s) n = (v ≡ w) × IsSumFirst terms bound s n
  IsWordOver terms bound (Cut t) n = ⊥
  IsWordOver terms bound (SpecProduct s j) n = ⊥
  IsWordOver terms bound (SpecSum s) n = ⊥
  IsWordOver terms bound (InstanceProduct i s j) n = ⊥
  IsWordOver terms bound (InstanceSum i s) n = ⊥

  -- that stage with its size; out of memory is free
  abbrev pub IsWordRefusal : Terms → ℕ → ReduceFault → Type 0
  IsWordRefusal terms bound (TooManyTerms stage n) = IsWordOver terms bound stage n
  IsWordRefusal terms bound OutOfMemory = Unit {0}
