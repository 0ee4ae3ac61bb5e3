-- Polynomials in one word times monomials without it. Source: this project's own.
use Rattle.std.specs.Prelude.{◌≡◌, ℕ, ◌+◌, List, [], ◌∷◌, ◌++◌, length, map, slice_index, slice_set, bit_xor}
use Rattle.std.specs.Map.{lookup}
use Rattle.std.specs.Option.{unwrap_or}
use Rattle.std.specs.Ordering.{eq_by_cmp}
use Rattle.std.specs.BTreeMap.{insert_entry}
use Rattle.poly_mixed.specs.Monomial.{Monomial, text_cmp}
use Rattle.poly_mixed.specs.Polynomial.{Terms, Point, IsPoint, IsMonomial, value}
use Rattle.word_subst.specs.Univariate.{Powers, IsUnivariate, IsSum}

-- polynomials in one word, each by the monomial that it is multiplied with
abbrev pub Groups : Type 0
Groups = List (Monomial × Powers)

-- how many powers they have together
abbrev pub total : Groups → ℕ
total [] = 0
total (g ∷ gs) = length g.1 + total gs

-- the polynomial of a monomial, without powers where there is none
abbrev pub found : Monomial → Groups → Powers
found m gs = unwrap_or (lookup (eq_by_cmp text_cmp m) gs) []

module _ (w : ℕ) where
  -- the monomial with this exponent of the word
  abbrev pub with_exponent : Monomial → ℕ → Monomial
  with_exponent m e = record { exponents = slice_set m.exponents w e; bits = m.bits }

  -- each power of the word times the monomial
  abbrev pub spread : Monomial → Powers → Terms
  spread m us = map (λ t. (with_exponent m t.0, t.1)) us

  -- the terms of all groups
  abbrev pub all_terms : Groups → Terms
  all_terms [] = []
  all_terms (g ∷ gs) = spread g.0 g.1 ++ all_terms gs

  -- a monomial without the word
  pub record IsRest (k : ℕ) (m : Monomial) : Type 0 where
    pub monomial : IsMonomial k m
    pub none : slice_index m.exponents w ≡ 0

  -- a polynomial in the word, and a monomial without it
  pub record IsGroup (k : ℕ) (g : Monomial × Powers) : Type 0 where
    pub rest : IsRest k g.0
    pub powers : IsUnivariate k g.1

module _ (k : ℕ) (mul : ℕ → ℕ → ℕ) where
  -- one polynomial more was added to those of its monomial, where there were `before` powers and are `after`
  pub record IsAdded (m : Monomial) (part : Powers) (old new : Groups) (before after : ℕ) : Type 0 where
    pub sum : Powers
    pub is : IsSum k mul (found m old) part sum
    pub put : new ≡ insert_entry text_cmp old m sum
    pub before_is : before ≡ length (found m old)
    pub after_is : after ≡ length sum

  -- at each point new has the sum of the values of old and of the polynomial times the monomial
  abbrev pub AddsGroup : ℕ → Monomial → Powers → Groups → Groups → Type 0
  AddsGroup w m part old new = (p : Point) → IsPoint k p → value mul p (all_terms w new) ≡ bit_xor (value mul p (all_terms w old)) (value mul p (spread w m part))
