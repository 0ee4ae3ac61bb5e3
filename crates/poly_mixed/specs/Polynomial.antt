-- Polynomials over a field of 2^k elements in eight words and in bits, and their values.
-- A polynomial is a finite map from monomials to elements that are not 0. It is kept as the list of its terms in the
-- order of a text, so that equal maps are equal lists.
-- Source: Lidl and Niederreiter, Finite Fields, chapter 7.
use Rattle.std.specs.Prelude.{◌≡◌, ◌≢◌, ℕ, ◌<◌, ◌^◌, Bool, cond, List, [], ◌∷◌, length, false, slice_index_or, Option}
use Rattle.std.specs.List.{AllByRecursion, list_all}
use Rattle.std.specs.List.Sorted.{IsStrictlySortedBy}
use Rattle.std.specs.Map.{keys_of, lookup}
use Rattle.std.specs.Option.{unwrap_or}
use Rattle.std.specs.Ordering.{nat_cmp, eq_by_cmp}
use Rattle.gf_field.specs.Power.{power}
use Rattle.poly_mixed.specs.Monomial.{Monomial, text_cmp}
use Rattle.poly_mixed.specs.Sum.{xor_sum}

-- an element of the field of 2^k elements is a number below 2^k
abbrev pub IsElement : ℕ → ℕ → Type 0
IsElement k x = x < 2 ^ k

-- monomials, each with its coefficient
abbrev pub Terms : Type 0
Terms = List (Monomial × ℕ)

-- monomials by slot; a slot may be empty
abbrev pub Slots : Type 0
Slots = List (Option Monomial)

-- what a `Poly` is: a map, kept as the list of its terms, and the slots in which its monomials stand
pub record Polynomial : Type 0 where
  pub terms : Terms
  pub slots : Slots

-- the coefficient of a monomial, 0 where the polynomial has no such term
abbrev pub coefficient : Terms → Monomial → ℕ
coefficient ts m = unwrap_or (lookup (eq_by_cmp text_cmp m) ts) 0

-- the terms stand strictly in the order of a text, ranks rise, and no coefficient is 0
pub record IsMap (ts : Terms) : Type 0 where
  pub sorted : IsStrictlySortedBy text_cmp (keys_of ts)
  pub rising : AllByRecursion (λ t. IsStrictlySortedBy nat_cmp t.0.bits) ts
  pub nonzero : AllByRecursion (λ t. t.1 ≢ 0) ts

-- the exponents of eight words, each below 2^k, and rising ranks
pub record IsMonomial (k : ℕ) (m : Monomial) : Type 0 where
  pub words : length m.exponents ≡ 8
  pub exponents : AllByRecursion (IsElement k) m.exponents
  pub rising : IsStrictlySortedBy nat_cmp m.bits

pub record IsTerm (k : ℕ) (t : Monomial × ℕ) : Type 0 where
  pub monomial : IsMonomial k t.0
  pub element : IsElement k t.1

-- a reduced polynomial over the field
pub record IsReduced (k : ℕ) (ts : Terms) : Type 0 where
  pub is_map : IsMap ts
  pub terms : AllByRecursion (IsTerm k) ts

-- an element for each word, and which ranks are 1
pub record Point : Type 0 where
  pub words : List ℕ
  pub is_one : ℕ → Bool

pub record IsPoint (k : ℕ) (p : Point) : Type 0 where
  pub words : length p.words ≡ 8
  pub elements : AllByRecursion (IsElement k) p.words

-- the point of these elements and of bits by rank; past their end ranks are 0
abbrev pub point : List ℕ → List Bool → Point
point ws bs = record { words = ws; is_one = λ r. slice_index_or bs r false }

-- below, `mul` is the product of the field
module _ (mul : ℕ → ℕ → ℕ) where
  -- the product of the words, each to its exponent
  abbrev pub powers : List ℕ → List ℕ → ℕ
  powers [] ws = 1
  powers (e ∷ es) [] = 1
  powers (e ∷ es) (w ∷ ws) = mul (power mul w e) (powers es ws)

  -- the coefficient times the powers of the words where all the term's bits are 1, else 0
  abbrev pub term_value : Point → Monomial × ℕ → ℕ
  term_value p t = cond (list_all p.is_one t.0.bits) (mul t.1 (powers t.0.exponents p.words)) 0

  -- the sum over the terms
  abbrev pub value : Point → Terms → ℕ
  value p = xor_sum (term_value p)

-- the terms are a polynomial of the function h of points: reduced, with its value at each point
pub record IsPolynomialOf (k : ℕ) (mul : ℕ → ℕ → ℕ) (h : Point → ℕ) (ts : Terms) : Type 0 where
  pub reduced : IsReduced k ts
  pub values : (p : Point) → IsPoint k p → value mul p ts ≡ h p
