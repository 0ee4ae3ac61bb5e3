-- The monomial of a term without one word, and the sum with one term more. Source: this project's own.
use Rattle.std.specs.Prelude.{◌≡◌, ℕ, not, List, slice_set, bit_xor}
use Rattle.std.specs.List.{filter}
use Rattle.poly_mixed.specs.Monomial.{Monomial}
use Rattle.poly_mixed.specs.Polynomial.{Terms, Point, IsPoint, value}
use Rattle.stage_model.specs.WordStage.{is_of_word}
use Rattle.stage_model.specs.PlainWord.{IsTermRead}
use Rattle.word_subst.specs.Spread.{Groups, all_terms}

-- the monomial without word w, of k bits, and without its bits
abbrev pub rest_of : ℕ → ℕ → Monomial → Monomial
rest_of k w m = record { exponents = slice_set m.exponents w 0; bits = filter (λ r. not (is_of_word k w r)) m.bits }

module _ (k : ℕ) (mul : ℕ → ℕ → ℕ) (elements : List ℕ) (w : ℕ) where
  -- new is old with one polynomial more: that of the term, with all its bits of the word read from the word
  pub record AddsTerm (t : Monomial × ℕ) (old new : Groups) : Type 0 where
    pub part : Terms
    pub is : IsTermRead k mul elements w t part
    pub values : (p : Point) → IsPoint k p → value mul p (all_terms w new) ≡ bit_xor (value mul p (all_terms w old)) (value mul p part)
