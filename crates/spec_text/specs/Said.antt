-- What the factors of a specification say: terms, each a coefficient and powers of words. Source: this project's own.
use Rattle.std.specs.Prelude.{ℕ, List, [], ◌∷◌, ◌++◌, Option, None, Some}
use Rattle.poly_mixed.specs.Labels.{Labelling, word_of}
use Rattle.spec_expand.specs.Specification.{SpecTerms}
use Rattle.spec_text.specs.Grammar.{Factor, number, power_of}

-- the product of the numbers, 1 if there is none
abbrev pub coefficient_of : (ℕ → ℕ → ℕ) → List Factor → ℕ
coefficient_of mul [] = 1
coefficient_of mul (number n ∷ fs) = mul n (coefficient_of mul fs)
coefficient_of mul (power_of word e ∷ fs) = coefficient_of mul fs

-- the word's number with the exponent
abbrev pub pair_of : Option ℕ → ℕ → List (ℕ × ℕ)
pair_of None e = []
pair_of (Some w) e = (w, e) ∷ []

-- the powers in their order
abbrev pub pairs_of : Labelling → List Factor → List (ℕ × ℕ)
pairs_of l [] = []
pairs_of l (number n ∷ fs) = pairs_of l fs
pairs_of l (power_of word e ∷ fs) = pair_of (word_of l.words word) e ++ pairs_of l fs

abbrev pub terms_of : Labelling → (ℕ → ℕ → ℕ) → List (List Factor) → SpecTerms
terms_of l mul [] = []
terms_of l mul (fs ∷ more) = (coefficient_of mul fs, pairs_of l fs) ∷ terms_of l mul more
