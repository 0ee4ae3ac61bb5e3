-- The words of a signature by cases. Source: this project's own.
use Rattle.std.specs.Prelude.{◌≡◌, List, [], ◌∷◌}
use Rattle.net_words.specs.declared.word.Role.TheVariants.{Input, Fed, Output}
use Rattle.net_words.specs.declared.word.WordText.{WordText}
use Rattle.mult_digit.specs.DigitForm.{IsPolyWord}

-- a fed word without nets, an input word and the output word
abbrev pub DigitWordsBy : List WordText → Type 0
DigitWordsBy [] = ⊥
DigitWordsBy (a ∷ []) = ⊥
DigitWordsBy (a ∷ b ∷ []) = ⊥
DigitWordsBy (a ∷ b ∷ z ∷ []) = IsPolyWord Fed a × (a.nets ≡ []) × IsPolyWord Input b × IsPolyWord Output z
DigitWordsBy (a ∷ b ∷ z ∷ c ∷ more) = ⊥
