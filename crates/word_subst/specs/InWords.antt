-- A polynomial in the bits of a circuit's words, and the one in the words that takes its place, word by word.
-- Source: this project's own.
use Rattle.std.specs.Prelude.{◌≡◌, ℕ, zero, suc, ◌<◌, ◌+◌, ◌*◌, ◌==◌, List, [], ◌++◌, Option, Some, length, slice_get, slice_index}
use Rattle.std.specs.Int.{bit_at}
use Rattle.gf_basis.specs.Basis.{AreBits}
use Rattle.poly_mixed.specs.Polynomial.{Terms, Point, IsPoint, IsReduced, value}
use Rattle.poly_mixed.specs.laws.Uniqueness.{InBits, InFirstWords}
use Rattle.poly_mixed.specs.Steps.{Step, Tells}
use Rattle.poly_mixed.specs.declared.stage.ReduceFault.{ReduceFault}
use Rattle.poly_mixed.specs.declared.stage.ReduceFault.TheVariants.{TooManyTerms, OutOfMemory}
use Rattle.poly_mixed.specs.declared.stage.Stage.{Stage}
use Rattle.circuit_model.specs.Word.{Word, word_nets}
use Rattle.circuit_model.specs.Circuit.{Circuit}
use Rattle.stage_model.specs.First.{InFirstRanks}
use Rattle.stage_model.specs.PlainWord.{IsSumOf}
use Rattle.word_subst.specs.Read.{AreTermsWithin}
use Rattle.word_subst.specs.ReadSteps.{AreReadSteps}
use Rattle.word_subst.specs.ReadRefusal.{IsWordOver}

-- reduced, and in the bits of input, state and fed words alone
pub record IsInWordBits (circuit : Circuit) (ts : Terms) : Type 0 where
  pub reduced : IsReduced circuit.k ts
  pub bits_alone : InBits ts
  pub words_alone : InFirstRanks (length (word_nets circuit.words)) ts

-- reduced, and in the input, state and fed words alone, without bits
pub record IsInWords (circuit : Circuit) (ts : Terms) : Type 0 where
  pub reduced : IsReduced circuit.k ts
  pub words_alone : InFirstWords (length circuit.words) ts
  pub no_bits : InFirstRanks 0 ts

-- at the ranks of word w, of k bits, the point has the bits of its element of this word in a basis
pub record HasBitsOfWord (k : ℕ) (elements : List ℕ) (w : ℕ) (p : Point) : Type 0 where
  pub bits : ℕ
  pub are : AreBits elements (slice_index p.words w) bits
  pub at_ranks : (i : ℕ) → i < k → p.is_one (k * w + i) ≡ (bit_at bits i == 1)

module _ (circuit : Circuit) where
  -- the point has the bits of its elements of the first n words
  abbrev pub HasBitsTo : ℕ → Point → Type 0
  HasBitsTo n p = (w : ℕ) (word : Word) → w < n → slice_get circuit.words w ≡ Some word → HasBitsOfWord circuit.k word.basis w p

  -- ts has at each input's words the value that `bits` has at the input's bits
  abbrev pub HasValuesOfBits : Terms → Terms → Type 0
  HasValuesOfBits bits ts = (p : Point) → IsPoint circuit.k p → HasBitsTo (length circuit.words) p → value circuit.product p ts ≡ value circuit.product p bits

module _ (circuit : Circuit) (bits : Terms) (bound : ℕ) where
  -- word w is replaced in a polynomial, and none of its stages is over the bound
  pub record IsReplaced (w : ℕ) (before ts : Terms) : Type 0 where
    pub word : Word
    pub at : slice_get circuit.words w ≡ Some word
    pub sum : IsSumOf circuit.k circuit.product word.basis w before (length before) ts
    pub within : AreTermsWithin circuit.k circuit.product word.basis w before (length before) bound

  -- the first w words are replaced in `bits`, one after the other
  abbrev pub AreReplacedTo : ℕ → Terms → Type 0
  AreReplacedTo zero ts = ts ≡ bits
  AreReplacedTo (suc w) ts = (before : Terms) × AreReplacedTo w before × IsReplaced w before ts

  -- all words are
  abbrev pub AreReplaced : Terms → Type 0
  AreReplaced ts = AreReplacedTo (length circuit.words) ts

  -- as the words are replaced in `bits` one after the other, the stage is the first over the bound, and has n terms
  pub record IsFirstOver (stage : Stage) (n : ℕ) : Type 0 where
    pub w : ℕ
    pub word : Word
    pub at : slice_get circuit.words w ≡ Some word
    pub before : Terms
    pub replaced : AreReplacedTo w before
    pub over : IsWordOver circuit.k circuit.product word.basis w before bound stage n

  -- that stage with its size; out of memory is free
  abbrev pub IsReplaceRefusal : ReduceFault → Type 0
  IsReplaceRefusal (TooManyTerms stage n) = IsFirstOver stage n
  IsReplaceRefusal OutOfMemory = Unit {0}

  -- the pairs of word w: those of the terms of the polynomial in which it is replaced
  pub record AreReadPairs (w : ℕ) (steps : List Step) : Type 0 where
    pub word : Word
    pub at : slice_get circuit.words w ≡ Some word
    pub before : Terms
    pub replaced : AreReplacedTo w before
    pub are : AreReadSteps circuit.k circuit.product word.basis w before steps

  -- the pairs of the first n words, word by word
  abbrev pub AreReadPairsTo : ℕ → List Step → Type 0
  AreReadPairsTo zero steps = steps ≡ []
  AreReadPairsTo (suc n) steps = (front : List Step) × (last : List Step) × AreReadPairsTo n front × AreReadPairs n last × (steps ≡ front ++ last)

  -- where the recorder tells its pairs, it holds what it held and then those of the first n words
  pub record HoldsPairsTo (n : ℕ) (old new : Option (List Step)) : Type 0 where
    pub steps : List Step
    pub are : AreReadPairsTo n steps
    pub told : Tells old new steps

  -- and then those of all words
  abbrev pub HoldsPairs : Option (List Step) → Option (List Step) → Type 0
  HoldsPairs old new = HoldsPairsTo (length circuit.words) old new
