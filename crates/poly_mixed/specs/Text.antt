-- The text of a polynomial: its terms in their order, each its coefficient and its variables.
-- Source: this project's own.
use Rattle.std.specs.Prelude.{ℕ, ◌+◌, ◌<◌, Bool, ◌&&◌, true, false, not, cond, List, [], ◌∷◌, ◌++◌, map, length, codes, decimal, ◌==◌}
use Rattle.std.specs.List.{AllByRecursion}
pub use Rattle.text_core.specs.Numbers.{hex_text}
use Rattle.poly_mixed.specs.Monomial.{Monomial}
use Rattle.poly_mixed.specs.Polynomial.{Terms}
use Rattle.poly_mixed.specs.Labels.{Labelling, rank_text, bit_count}
use Rattle.poly_mixed.specs.laws.Uniqueness.{InFirstWords}

-- parts with a separator between them
abbrev pub joined : List ℕ → List (List ℕ) → List ℕ
joined separator [] = []
joined separator (x ∷ []) = x
joined separator (x ∷ y ∷ xs) = x ++ separator ++ joined separator (y ∷ xs)

-- a power of a word: nothing for the exponent 0, the name alone for 1
abbrev pub power_texts : List ℕ → ℕ → List (List ℕ)
power_texts name e = cond (e == 0) [] (cond (e == 1) (name ∷ []) ((name ++ codes "^" ++ decimal e) ∷ []))

abbrev pub powers_texts : List (List ℕ × ℕ) → List ℕ → List (List ℕ)
powers_texts [] es = []
powers_texts (w ∷ ws) [] = []
powers_texts (w ∷ ws) (e ∷ es) = power_texts w.0 e ++ powers_texts ws es

-- the variables of a monomial, in their order
abbrev pub variable_texts : Labelling → Monomial → List (List ℕ)
variable_texts l m = powers_texts l.words m.exponents ++ map (rank_text l.words l.nets) m.bits

abbrev pub is_none : List (List ℕ) → Bool
is_none [] = true
is_none (x ∷ xs) = false

-- the coefficient 1 is left out where there is a variable
abbrev pub factor_texts : ℕ → List (List ℕ) → List (List ℕ)
factor_texts c variables = cond ((c == 1) && not (is_none variables)) variables (hex_text c ∷ variables)

abbrev pub term_text : Labelling → Monomial × ℕ → List ℕ
term_text l t = joined (codes "*") (factor_texts t.1 (variable_texts l t.0))

-- the text of a polynomial, `0` for the one without terms
abbrev pub text : Labelling → Terms → List ℕ
text l [] = codes "0"
text l (t ∷ ts) = joined (codes " + ") (map (term_text l) (t ∷ ts))

-- each rank has a name
abbrev pub HasNames : Labelling → Terms → Type 0
HasNames l ts = AllByRecursion (λ t. AllByRecursion (λ r. r < bit_count l.words + length l.nets) t.0.bits) ts

-- a word that has no name has the exponent 0
abbrev pub HasWordNames : Labelling → Terms → Type 0
HasWordNames l ts = InFirstWords (length l.words) ts
