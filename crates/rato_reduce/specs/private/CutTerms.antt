-- The terms of a cut in the order of their keys, and the polynomial that they are. Source: this project's own.
use Rattle.std.specs.Prelude.{◌≡◌, ◌≢◌, ℕ, ◌-◌, Bool, false, nat_le, List, [], ◌∷◌, ◌++◌, map, reverse, length, slice_get}
use Rattle.std.specs.declared.cmp.Ordering.TheVariants.{Less}
use Rattle.std.specs.List.{AllByRecursion}
use Rattle.std.specs.List.Sorted.{IsStrictlySortedBy}
use Rattle.std.specs.Map.{keys_of}
use Rattle.std.specs.Option.{option_map_or}
use Rattle.std.specs.Ordering.{nat_cmp}
use Rattle.poly_mixed.specs.Monomial.{Monomial, text_cmp}
use Rattle.poly_mixed.specs.Polynomial.{Terms}
use Rattle.poly_mixed.specs.Cofactor.{cofactors, lacking}
use Rattle.poly_mixed.specs.Product.{union}
use Rattle.poly_mixed.specs.Sum.{plus, with_coefficient}
use Rattle.rato_reduce.specs.private.CutKey.{CutKey, key_of, no_bits, key_cmp}

-- what a `Cut` is: a polynomial
pub record CutPolynomial : Type 0 where
  pub terms : Terms

-- the product of bits, without words
abbrev pub of_bits : List ℕ → Monomial
of_bits bits = record { exponents = 0 ∷ 0 ∷ 0 ∷ 0 ∷ 0 ∷ 0 ∷ 0 ∷ 0 ∷ []; bits = bits }

-- a monomial without words, of rising bits, with a coefficient that is not 0
pub record IsBitTerm (t : Monomial × ℕ) : Type 0 where
  pub no_words : t.0 ≡ of_bits t.0.bits
  pub rising : IsStrictlySortedBy nat_cmp t.0.bits
  pub some : t.1 ≢ 0

-- the term of an entry
abbrev pub term_of : CutKey × ℕ → Monomial × ℕ
term_of e = (of_bits e.0.bits, e.1)

-- the entries as a polynomial
abbrev pub cut_polynomial : List (CutKey × ℕ) → CutPolynomial
cut_polynomial entries = record { terms = plus text_cmp [] (map term_of entries) }

-- an entry's key is that of its bits, which rise, and its coefficient is not 0
pub record IsEntry (places : List ℕ) (e : CutKey × ℕ) : Type 0 where
  pub key : e.0 ≡ key_of places e.0.bits
  pub rising : IsStrictlySortedBy nat_cmp e.0.bits
  pub some : e.1 ≢ 0

-- entries in the order of their keys
pub record AreEntries (places : List ℕ) (entries : List (CutKey × ℕ)) : Type 0 where
  pub sorted : IsStrictlySortedBy key_cmp (keys_of entries)
  pub each : AllByRecursion (IsEntry places) entries

-- the entries with a term without bits before them, unless its coefficient is 0
abbrev pub with_constant : ℕ → List (CutKey × ℕ) → List (CutKey × ℕ)
with_constant c entries = with_coefficient no_bits c entries

-- entries of terms with bits, in the order of their keys
pub record AreBitEntries (places : List ℕ) (entries : List (CutKey × ℕ)) : Type 0 where
  pub are : AreEntries places entries
  pub bits : AllByRecursion (λ e. key_cmp no_bits e.0 ≡ Less) entries

-- the last entry's first place is not behind this one
abbrev pub ends_up_to : ℕ → List (CutKey × ℕ) → Bool
ends_up_to place es = option_map_or (λ e. nat_le e.0.first place) (slice_get es (length es - 1)) false

-- what is left when entries were taken from the end on: the part has their terms with the bit, without it, and there are
-- the others
pub record IsTaken (rank : ℕ) (old new : List (CutKey × ℕ)) (part others : Terms) : Type 0 where
  pub taken : Terms
  pub all : map term_of old ≡ map term_of new ++ reverse taken
  pub part_is : part ≡ cofactors rank taken
  pub others_are : others ≡ lacking rank taken

-- the products of a term and of each of these sets of bits
abbrev pub products : Monomial × ℕ → List (List ℕ) → Terms
products t [] = []
products t (n ∷ ns) = (of_bits (union t.0.bits n), t.1) ∷ products t ns

-- those of each of the terms
abbrev pub all_products : Terms → List (List ℕ) → Terms
all_products [] ns = []
all_products (t ∷ ts) ns = products t ns ++ all_products ts ns

-- new is what old has without the bit, and the products of the terms with it, without it, and of each of these sets of bits
pub record HasSetsPutIn (rank : ℕ) (sets : List (List ℕ)) (old new : Terms) : Type 0 where
  pub part : Terms
  pub each : AllByRecursion IsBitTerm part
  pub part_is : plus text_cmp [] part ≡ cofactors rank old
  pub new_is : new ≡ plus text_cmp (lacking rank old) (all_products part sets)

-- new is old and the products of the terms with the bit, without it, and of each of these sets of bits; all terms have the bit
pub record ArePutIn (rank : ℕ) (terms : Terms) (sets : List (List ℕ)) (old new : Terms) : Type 0 where
  pub sum : new ≡ plus text_cmp old (all_products (cofactors rank terms) sets)
  pub no_others : lacking rank terms ≡ []
