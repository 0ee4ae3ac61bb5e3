-- The products of the linear forms of a term's bits of a word. Source: this project's own.
use Rattle.std.specs.Prelude.{◌≡◌, ℕ, suc, ◌<◌, ◌≤◌, ◌-◌, ◌*◌, ◌==◌, cond, List, [], ◌∷◌, ◌++◌, take, Some, length, slice_get}
use Rattle.std.specs.Int.{bit_at}
use Rattle.std.specs.List.{list_all}
use Rattle.gf_basis.specs.Basis.{AreBits}
use Rattle.gf_field.specs.Power.{power}
use Rattle.poly_mixed.specs.Polynomial.{IsElement}
use Rattle.poly_mixed.specs.declared.stage.ReduceFault.{ReduceFault}
use Rattle.poly_mixed.specs.declared.stage.ReduceFault.TheVariants.{TooManyTerms, OutOfMemory}
use Rattle.poly_mixed.specs.declared.stage.Stage.{Stage}
use Rattle.poly_mixed.specs.declared.stage.Stage.TheVariants.{Cut, WordProduct, WordSum, SpecProduct, SpecSum, InstanceProduct, InstanceSum}
use Rattle.word_subst.specs.Univariate.{Powers, IsUnivariate, value_of}

-- what is kept of a term: its exponent of the word, the ranks of its bits of the word, and the product of its power with
-- the first of them, for none, for the first, for the first two, and so on
pub record Products : Type 0 where
  pub start : ℕ
  pub ranks : List ℕ
  pub products : List Powers

module _ (k : ℕ) (mul : ℕ → ℕ → ℕ) (elements : List ℕ) (word : ℕ) where
  -- the power of the word where all these bits are 1, and else 0
  pub record IsBitProduct (start : ℕ) (ranks : List ℕ) (us : Powers) : Type 0 where
    pub univariate : IsUnivariate k us
    pub values : (x d : ℕ) → IsElement k x → AreBits elements x d → value_of mul x us ≡ cond (list_all (λ r. bit_at d (r - k * word) == 1) ranks) (power mul x start) 0

  -- these products, each but the first of no more powers than the bound
  pub record AreProducts (bound : ℕ) (ps : Products) : Type 0 where
    pub start : IsElement k ps.start
    pub long : length ps.products ≡ suc (length ps.ranks)
    pub each : (j : ℕ) (us : Powers) → slice_get ps.products j ≡ Some us → IsBitProduct ps.start (take j ps.ranks) us
    pub within : (j : ℕ) (us : Powers) → 1 ≤ j → slice_get ps.products j ≡ Some us → length us ≤ bound

  -- the product with the first j of these bits has no more powers than the bound
  pub record IsProductWithin (start : ℕ) (own : List ℕ) (bound j : ℕ) : Type 0 where
    pub powers : Powers
    pub is : IsBitProduct start (take j own) powers
    pub within : length powers ≤ bound

  -- the product with the first j of these bits is the first over the bound, and has n powers
  pub record IsFirstOver (start : ℕ) (own : List ℕ) (bound j n : ℕ) : Type 0 where
    pub some : 1 ≤ j
    pub bits : j ≤ length own
    pub powers : Powers
    pub is : IsBitProduct start (take j own) powers
    pub size : length powers ≡ n
    pub over : bound < n
    pub before : (i : ℕ) → 1 ≤ i → i < j → IsProductWithin start own bound i

  -- the stage is a product of this term of the word
  abbrev pub IsOverAt : ℕ → List ℕ → ℕ → ℕ → Stage → ℕ → Type 0
  IsOverAt start own s bound (WordProduct v r j) n = (v ≡ word) × (r ≡ s) × IsFirstOver start own bound j n
  IsOverAt start own s bound (Cut t) n = ⊥
  IsOverAt start own s bound (WordSum v r) n = ⊥
  IsOverAt start own s bound (SpecProduct r j) n = ⊥
  IsOverAt start own s bound (SpecSum r) n = ⊥
  IsOverAt start own s bound (InstanceProduct i r j) n = ⊥
  IsOverAt start own s bound (InstanceSum i r) n = ⊥

  -- that stage with its size; out of memory is free
  abbrev pub IsProductRefusal : ℕ → List ℕ → ℕ → ℕ → ReduceFault → Type 0
  IsProductRefusal start own s bound (TooManyTerms stage n) = IsOverAt start own s bound stage n
  IsProductRefusal start own s bound OutOfMemory = Unit {0}

  -- the product with one bit more is over the bound, and has n powers
  pub record IsNextOver (start : ℕ) (ranks : List ℕ) (rank bound n : ℕ) : Type 0 where
    pub powers : Powers
    pub is : IsBitProduct start (ranks ++ rank ∷ []) powers
    pub size : length powers ≡ n
    pub over : bound < n

  -- that stage with its size; out of memory is free
  abbrev pub IsNextRefusal : ℕ → List ℕ → ℕ → ℕ → Stage → ReduceFault → Type 0
  IsNextRefusal start ranks rank bound stage (TooManyTerms s n) = (s ≡ stage) × IsNextOver start ranks rank bound n
  IsNextRefusal start ranks rank bound stage OutOfMemory = Unit {0}
