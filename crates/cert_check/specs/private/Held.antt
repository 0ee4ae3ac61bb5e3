-- The running sum as the code holds it: a polynomial, and rows that are not yet added to it. A row is a monomial times a
-- sum of multiples of the linear forms of a word's bits. Source: this project's own.
use Rattle.std.specs.Prelude.{◌≡◌, ◌⊎◌, ℕ, zero, suc, ◌+◌, ◌*◌, ◌^◌, ◌<◌, ◌≤◌, ◌==◌, cond, List, [], ◌∷◌, length, replicate, slice_get, slice_set, slice_index, bit_xor, Option, None, Some}
use Rattle.std.specs.List.{AllByRecursion}
use Rattle.gf_basis.specs.declared.bases.Basis.{Basis}
use Rattle.gf_field.specs.Polynomial.{sum_of_first}
use Rattle.gf_field.specs.Trace.{frobenius}
use Rattle.net_words.specs.Binding.{BoundNet}
use Rattle.poly_mixed.specs.Monomial.{Monomial, text_cmp}
use Rattle.poly_mixed.specs.Polynomial.{Terms, Point, IsElement, IsMonomial, IsPoint, IsReduced, term_value, value}
use Rattle.poly_mixed.specs.Product.{times}
use Rattle.poly_mixed.specs.Sum.{plus_term}
use Rattle.poly_mixed.specs.declared.steps.Generator.{Generator}
use Rattle.cert_check.specs.Running.{dual_at, dual_form, dual_words, generator_value}
use Rattle.cert_check.specs.private.Reading.{multiplier_in}
use Rattle.cert_check.specs.private.Units.{AddsValue, AreTerms}
use Rattle.cert_check.specs.private.Waiting.{most_of}
use Rattle.cert_check.specs.declared.form.Form.{Form}
use Rattle.cert_check.specs.declared.last.LastGenerator.{LastGenerator}
use Rattle.cert_check.specs.declared.line.Multiplier.{Multiplier}
use Rattle.cert_check.specs.declared.row.Row.{Row}
use Rattle.cert_check.specs.declared.running_sum.RunningSum.{RunningSum}

-- ---- forms

-- element i of the dual basis of word w
abbrev pub dual_of : BoundNet → List Basis → ℕ → ℕ → ℕ
dual_of netlist bases w i = dual_at (slice_get (dual_words netlist bases) w) i

-- the form is of a bit of a word, of which there are at most 8
pub record IsForm (netlist : BoundNet) (bases : List Basis) (k : ℕ) (form : Form) : Type 0 where
  pub word : form.word < 8
  pub known : form.word < length (dual_words netlist bases)
  pub place : form.place < k

abbrev pub IsFormOrNone : BoundNet → List Basis → ℕ → Option Form → Type 0
IsFormOrNone netlist bases k None = Unit {0}
IsFormOrNone netlist bases k (Some form) = IsForm netlist bases k form

-- the value of a form at a point, 0 where there is none; dual w i is element i of the dual basis of word w
abbrev pub form_value : ℕ → (ℕ → ℕ → ℕ) → (ℕ → ℕ → ℕ) → Point → Option Form → ℕ
form_value k mul dual p None = 0
form_value k mul dual p (Some form) = dual_form k mul (dual form.word form.place) (slice_index p.words form.word)

-- a generator as terms and a form
pub record IsSplit (k : ℕ) (mul : ℕ → ℕ → ℕ) (netlist : BoundNet) (bases : List Basis) (h : Point → ℕ) (near : Terms) (form : Option Form) : Type 0 where
  pub terms : AreTerms k near
  pub is_form : IsFormOrNone netlist bases k form
  pub values : (p : Point) → IsPoint k p → bit_xor (value mul p near) (form_value k mul (dual_of netlist bases) p form) ≡ h p

-- where a generator was the last, its monomials and its form are held
abbrev pub IsLast : ℕ → (ℕ → ℕ → ℕ) → BoundNet → List Basis → LastGenerator → Type 0
IsLast k mul bound bases last = (g : Generator) → last.generator ≡ Some g → IsSplit k mul bound bases (generator_value k mul bound bases g) last.near.terms last.form

-- ---- rows

-- a power of one word
abbrev pub power_of : ℕ → ℕ → Monomial
power_of word e = record { exponents = slice_set (replicate 8 0) word e; bits = [] }

-- one more term, unless its coefficient is 0
abbrev pub with_term : Terms → Monomial × ℕ → Terms
with_term ts t = cond (t.1 == 0) ts (plus_term text_cmp ts t)

-- the monomial times the word squared j times, with this coefficient
abbrev pub square_term : ℕ → Row → ℕ → ℕ → Monomial × ℕ
square_term k row j c = (times k row.mono (power_of row.word (2 ^ j)), c)

pub record IsRow (netlist : BoundNet) (bases : List Basis) (k : ℕ) (row : Row) : Type 0 where
  pub monomial : IsMonomial k row.mono
  pub word : row.word < 8
  pub known : row.word < length (dual_words netlist bases)
  pub long : length row.coefficients.items ≡ k
  pub elements : (i : ℕ) → i < k → IsElement k (slice_index row.coefficients.items i)

abbrev pub AreRows : BoundNet → List Basis → ℕ → List Row → Type 0
AreRows netlist bases k rows = AllByRecursion (IsRow netlist bases k) rows

-- the row at a place is of this monomial and this word
abbrev pub IsRowAt : List Row → ℕ → Monomial → ℕ → Type 0
IsRowAt rows i mono word = (row : Row) × (slice_get rows i ≡ Some row) × (row.mono ≡ mono) × (row.word ≡ word)

-- below, dual w i is element i of the dual basis of word w
module _ (k : ℕ) (mul : ℕ → ℕ → ℕ) (dual : ℕ → ℕ → ℕ) where
  -- what the word squared j times is multiplied by in a sum of multiples of the forms of its bits
  abbrev pub square_of : List ℕ → ℕ → ℕ → ℕ
  square_of coefficients word j = sum_of_first k (λ i. mul (slice_index coefficients i) (frobenius mul j (dual word i)))

  -- the term of the word squared j times
  abbrev pub row_term : Row → ℕ → Monomial × ℕ
  row_term row j = square_term k row j (square_of row.coefficients.items row.word j)

  -- terms and the first so many of a row
  abbrev pub with_first : Row → ℕ → Terms → Terms
  with_first row zero ts = ts
  with_first row (suc j) ts = with_term (with_first row j ts) (row_term row j)

  -- terms and those of rows
  abbrev pub with_rows : List Row → Terms → Terms
  with_rows [] ts = ts
  with_rows (row ∷ rows) ts = with_rows rows (with_first row k ts)

  -- the polynomial that is held
  abbrev pub whole : RunningSum → Terms
  whole sum = with_rows sum.rows.items sum.poly.terms

  -- the monomial times the sum of squares
  abbrev pub row_value : Point → Row → ℕ
  row_value p row = mul (term_value mul p (row.mono, 1)) (sum_of_first k (λ j. mul (square_of row.coefficients.items row.word j) (frobenius mul j (slice_index p.words row.word))))

  abbrev pub rows_value : Point → List Row → ℕ
  rows_value p [] = 0
  rows_value p (row ∷ rows) = bit_xor (row_value p row) (rows_value p rows)

  -- the value of the polynomial that is held
  abbrev pub held_value : Point → RunningSum → ℕ
  held_value p sum = bit_xor (value mul p sum.poly.terms) (rows_value p sum.rows.items)

  -- the row grows by a multiple of the form of the bit at a place
  abbrev pub GrowsBy : Row → Row → ℕ → ℕ → Type 0
  GrowsBy old new place c = (p : Point) → IsPoint k p → row_value p new ≡ bit_xor (row_value p old) (mul (term_value mul p (old.mono, c)) (dual_form k mul (dual old.word place) (slice_index p.words old.word)))

  -- the row is the product of a term and a form
  abbrev pub IsRowOf : Monomial × ℕ → Form → Row → Type 0
  IsRowOf term form row = (p : Point) → IsPoint k p → row_value p row ≡ mul (term_value mul p term) (form_value k mul dual p (Some form))

  -- the rows grow by the product of a term and a form
  abbrev pub KeepsTerm : List Row → List Row → Monomial × ℕ → Form → Type 0
  KeepsTerm old new term form = (p : Point) → IsPoint k p → rows_value p new ≡ bit_xor (rows_value p old) (mul (term_value mul p term) (form_value k mul dual p (Some form)))

  -- the rows grow by the product of terms and a form
  abbrev pub KeepsTerms : List Row → List Row → Terms → Form → Type 0
  KeepsTerms old new terms form = (p : Point) → IsPoint k p → rows_value p new ≡ bit_xor (rows_value p old) (mul (value mul p terms) (form_value k mul dual p (Some form)))

  -- what is held grows by the product of terms with the sum of terms and a form
  abbrev pub AddsSplit : RunningSum → RunningSum → Terms → Terms → Option Form → Type 0
  AddsSplit old new factor near form = (p : Point) → IsPoint k p → held_value p new ≡ bit_xor (held_value p old) (mul (value mul p factor) (bit_xor (value mul p near) (form_value k mul dual p form)))

  -- the same polynomial is held
  abbrev pub HoldsTheSame : RunningSum → RunningSum → Type 0
  HoldsTheSame old new = whole new ≡ whole old

  -- these are what the repeated squares of a row's word are multiplied by
  abbrev pub AreSquaresOf : Row → List ℕ → Type 0
  AreSquaresOf row squares = (j : ℕ) → j < k → slice_index squares j ≡ square_of row.coefficients.items row.word j

-- a reduced polynomial, and rows over the field
pub record IsHeld (netlist : BoundNet) (bases : List Basis) (k : ℕ) (sum : RunningSum) : Type 0 where
  pub reduced : IsReduced k sum.poly.terms
  pub rows : AreRows netlist bases k sum.rows.items

-- it is seen without adding rows and what waits whether the size is within the bound
abbrev pub IsSettled : ℕ → ℕ → RunningSum → Type 0
IsSettled k bound sum = ((sum.rows.items ≡ []) × (sum.poly.waiting ≡ 0)) ⊎ (most_of sum.poly + length sum.rows.items * k ≤ bound)

module _ (k : ℕ) (mul : ℕ → ℕ → ℕ) (netlist : BoundNet) (bases : List Basis) where
  -- the held polynomial grows by the product of a generator and terms
  abbrev pub AddsPair : RunningSum → RunningSum → Generator → Terms → Type 0
  AddsPair old new generator multiplier = AddsValue k mul (λ p. mul (generator_value k mul netlist bases generator p) (value mul p multiplier)) (whole k mul (dual_of netlist bases) old) (whole k mul (dual_of netlist bases) new)

  -- the same for a multiplier where these are shared
  abbrev pub AddsEntry : RunningSum → RunningSum → List Terms → Generator → Multiplier → Type 0
  AddsEntry old new shared generator multiplier = AddsPair old new generator (multiplier_in shared multiplier)
