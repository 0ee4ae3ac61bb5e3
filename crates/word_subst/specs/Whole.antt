-- A polynomial that is the sum of a word's bits, each times its basis element, times a polynomial without the word: read
-- from the word it is that polynomial times the word. Source: this project's own.
use Rattle.std.specs.Prelude.{◌≡◌, ◌≢◌, ℕ, ◌+◌, true, false, List, [], ◌∷◌, ◌++◌, map}
use Rattle.std.specs.List.{AllByRecursion}
use Rattle.poly_mixed.specs.Monomial.{Monomial}
use Rattle.poly_mixed.specs.Polynomial.{Terms, IsElement}
use Rattle.stage_model.specs.WordStage.{is_of_word}
use Rattle.word_subst.specs.Spread.{IsRest, Groups}

module _ (mul : ℕ → ℕ → ℕ) where
  -- a term times an element and the bit of a rank, which stands before its bits
  abbrev pub with_first : ℕ → ℕ → Monomial × ℕ → Monomial × ℕ
  with_first rank b t = (record { exponents = t.0.exponents; bits = rank ∷ t.0.bits }, mul b t.1)

  -- the terms times each of these elements and the bits from a rank on, one after the other
  abbrev pub times_bits : ℕ → List ℕ → Terms → Terms
  times_bits rank [] ts = []
  times_bits rank (b ∷ bs) ts = map (with_first rank b) ts ++ times_bits (rank + 1) bs ts

-- a term without word w, of k bits, and without its bits
pub record IsPart (w k : ℕ) (t : Monomial × ℕ) : Type 0 where
  pub rest : IsRest w k t.0
  pub others : AllByRecursion (λ r. is_of_word k w r ≡ false) t.0.bits
  pub element : IsElement k t.1
  pub some : t.1 ≢ 0

-- a term whose first bit is its only one of word w, of k bits
pub record HasFirst (w k : ℕ) (t : Monomial × ℕ) : Type 0 where
  pub rank : ℕ
  pub rest : List ℕ
  pub bits : t.0.bits ≡ rank ∷ rest
  pub own : is_of_word k w rank ≡ true
  pub others : AllByRecursion (λ r. is_of_word k w r ≡ false) rest

-- each term times the word
abbrev pub times_word : Terms → Groups
times_word ts = map (λ t. (t.0, (1, t.1) ∷ [])) ts
