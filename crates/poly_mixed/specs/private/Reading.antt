-- How a text is read, part by part from left to right. What it says is the grammar's to say (specs/Grammar.antt).
-- Source: this project's own.
use Rattle.std.specs.Prelude.{◌≡◌, ℕ, zero, suc, ◌+◌, ◌^◌, Bool, true, false, ◌&&◌, cond, List, [], ◌∷◌, length, drop, nat_lt, ◌==◌, Option, Some, None, Result, Ok, Err, slice_set, get_or}
use denote.Ref.{Bor}
use Rattle.text_core.specs.Numbers.{value_of}
use Rattle.poly_mixed.specs.Labels.{Labelling, word_of, bit_of}
use Rattle.poly_mixed.specs.Monomial.{Monomial, has_bit}
use Rattle.poly_mixed.specs.Polynomial.{Terms}
use Rattle.poly_mixed.specs.Product.{with_rank}
use Rattle.text_core.specs.Scan.{run, after, skip, name_of, index_of, is_digit, is_hex_digit, is_letter}
use Rattle.poly_mixed.specs.Said.{net_rank, one, added}
use Rattle.poly_mixed.specs.declared.fault.PolyFault.{PolyFault}
use Rattle.poly_mixed.specs.declared.fault.PolyFault.TheVariants.{Syntax, NoSuchNet, NoSuchBit, OutOfMemory}
use Rattle.poly_mixed.specs.declared.variables.Variable.{Variable}
use Rattle.poly_mixed.specs.declared.variables.Variable.TheVariants.{Word, Rank}

-- something at the front of a text, and what stands after it; or a fault
abbrev pub Scanned : Type 0 → Type 0
Scanned A = Result (A × List ℕ) PolyFault

-- what a call gives is what is scanned
abbrev pub IsScanned : {A : Type 0} → Scanned A → Result (A × Bor (List ℕ)) PolyFault → Type 0
IsScanned said (Ok r) = said ≡ Ok (r.0, r.1.now)
IsScanned said (Err e) = said ≡ Err e

-- ---- a variable

abbrev pub net_found : Option ℕ → List ℕ → Scanned Variable
net_found None rest = Err NoSuchNet
net_found (Some r) rest = Ok (Rank r, rest)

abbrev pub bit_found : Option ℕ → List ℕ → Scanned Variable
bit_found None rest = Err NoSuchBit
bit_found (Some r) rest = Ok (Rank r, rest)

abbrev pub word_found : Option ℕ → List ℕ → Scanned Variable
word_found None rest = Err Syntax
word_found (Some w) rest = Ok (Word w, rest)

-- `n` after `@`
abbrev pub net_at : Labelling → List ℕ → Scanned Variable
net_at l bs = cond (nat_lt 0 (length (run is_digit bs))) (net_found (net_rank l (value_of 10 (run is_digit bs))) (after is_digit bs)) (Err Syntax)

-- a name, with the index that may stand after it
abbrev pub named_at : Labelling → List ℕ → List ℕ → Option (List ℕ × List ℕ) → Scanned Variable
named_at l name rest None = word_found (word_of l.words name) rest
named_at l name rest (Some index) = bit_found (bit_of l.words name (value_of 10 index.0)) index.1

abbrev pub name_at : Labelling → List ℕ → List ℕ → Scanned Variable
name_at l bs rest = named_at l (name_of bs) rest (index_of rest)

abbrev pub variable_at : Labelling → List ℕ → Scanned Variable
variable_at l [] = Err Syntax
variable_at l (b ∷ bs) = cond (b == 64) (net_at l bs) (cond (is_letter b) (name_at l (b ∷ bs) (drop (length (name_of (b ∷ bs))) (b ∷ bs))) (Err Syntax))

-- ---- a factor

-- an exponent from 1 to 2^k - 1 after `^`, or 1 where none stands
abbrev pub number_at : ℕ → List ℕ → Scanned ℕ
number_at k bs = cond (nat_lt 0 (value_of 10 (run is_digit bs)) && nat_lt (value_of 10 (run is_digit bs)) (2 ^ k)) (Ok (value_of 10 (run is_digit bs), after is_digit bs)) (Err Syntax)

abbrev pub exponent_in : ℕ → List ℕ → List ℕ → Scanned ℕ
exponent_in k bs [] = Ok (1, bs)
exponent_in k bs (b ∷ rest) = cond (b == 94) (number_at k (skip rest)) (Ok (1, bs))

abbrev pub exponent_at : ℕ → List ℕ → Scanned ℕ
exponent_at k bs = exponent_in k bs (skip bs)

abbrev pub with_exponent : Monomial → ℕ → Scanned ℕ → Scanned Monomial
with_exponent m w (Err e) = Err e
with_exponent m w (Ok r) = Ok (record { exponents = slice_set m.exponents w r.0; bits = m.bits }, r.1)

-- a variable stands at most once in a term
abbrev pub with_variable : ℕ → Monomial → Scanned Variable → Scanned Monomial
with_variable k m (Err e) = Err e
with_variable k m (Ok (Word w, rest)) = cond (nat_lt w 8 && (get_or m.exponents w 0 == 0)) (with_exponent m w (exponent_at k rest)) (Err Syntax)
with_variable k m (Ok (Rank r, rest)) = cond (has_bit r m) (Err Syntax) (Ok (record { exponents = m.exponents; bits = with_rank m.bits r }, rest))

-- ---- terms

-- the polynomial is read, or a term or a further factor is to come, with the sum of the terms before
pub data Progress : Type 0 where
  done : Terms → Progress
  more : Bool → Terms → ℕ → Monomial → List ℕ → Progress

-- what stands after a factor
abbrev pub next_at : Terms → ℕ → Monomial → List ℕ → Result Progress PolyFault
next_at sum c m [] = Ok (done (added sum c m))
next_at sum c m (b ∷ bs) = cond (b == 42) (Ok (more false sum c m bs)) (cond (b == 43) (Ok (more true (added sum c m) 1 one bs)) (Err Syntax))

abbrev pub after_factor : Terms → ℕ → Scanned Monomial → Result Progress PolyFault
after_factor sum c (Err e) = Err e
after_factor sum c (Ok r) = next_at sum c r.0 (skip r.1)

abbrev pub factor_at : Labelling → ℕ → Terms → ℕ → Monomial → List ℕ → Result Progress PolyFault
factor_at l k sum c m bs = after_factor sum c (with_variable k m (variable_at l bs))

-- what stands after the term `0`
abbrev pub after_zero : Terms → List ℕ → Result Progress PolyFault
after_zero sum [] = Ok (done sum)
after_zero sum (b ∷ bs) = cond (b == 43) (Ok (more true sum 1 one bs)) (Err Syntax)

-- a coefficient below 2^k
abbrev pub coefficient_at : ℕ → Terms → List ℕ → Result Progress PolyFault
coefficient_at k sum bs = cond (nat_lt (value_of 16 (run is_hex_digit bs)) (2 ^ k)) (next_at sum (value_of 16 (run is_hex_digit bs)) one (skip (after is_hex_digit bs))) (Err Syntax)

-- a term that begins with `0`: a coefficient, or the term `0`
abbrev pub zero_at : ℕ → Terms → List ℕ → Result Progress PolyFault
zero_at k sum [] = Ok (done sum)
zero_at k sum (b ∷ bs) = cond ((b == 120) && nat_lt 0 (length (run is_hex_digit bs))) (coefficient_at k sum bs) (after_zero sum (skip (b ∷ bs)))

abbrev pub term_at : Labelling → ℕ → Terms → List ℕ → Result Progress PolyFault
term_at l k sum [] = Err Syntax
term_at l k sum (b ∷ bs) = cond (b == 48) (zero_at k sum bs) (factor_at l k sum 1 one (b ∷ bs))

abbrev pub step_at : Labelling → ℕ → Bool → Terms → ℕ → Monomial → List ℕ → Result Progress PolyFault
step_at l k starts sum c m bs = cond starts (term_at l k sum (skip bs)) (factor_at l k sum c m (skip bs))

-- one part further
abbrev pub advanced : Labelling → ℕ → Result Progress PolyFault → Result Progress PolyFault
advanced l k (Err e) = Err e
advanced l k (Ok (done ts)) = Ok (done ts)
advanced l k (Ok (more starts sum c m rest)) = step_at l k starts sum c m rest

abbrev pub finished : Result Progress PolyFault → Result Terms PolyFault
finished (Err e) = Err e
finished (Ok (done ts)) = Ok ts
finished (Ok (more starts sum c m rest)) = Err Syntax

-- n parts further
abbrev pub read_on : ℕ → Labelling → ℕ → Result Progress PolyFault → Result Terms PolyFault
read_on zero l k said = finished said
read_on (suc n) l k said = read_on n l k (advanced l k said)

-- the polynomial that a text says, or the fault of its first token that does not fit; it has fewer parts than bytes
abbrev pub reading : Labelling → ℕ → List ℕ → Result Terms PolyFault
reading l k bytes = read_on (length bytes + 1) l k (Ok (more true [] 1 one bytes))

-- a fault is what was said, or out of memory in its place
abbrev pub IsSaid : {A : Type 0} → Result A PolyFault → PolyFault → Type 0
IsSaid said OutOfMemory = Unit {0}
IsSaid said Syntax = said ≡ Err Syntax
IsSaid said NoSuchNet = said ≡ Err NoSuchNet
IsSaid said NoSuchBit = said ≡ Err NoSuchBit
