-- A small worked example of the definitions of specs/, which the check computes: labels.
use Rattle.std.proofs.Common.{◌≡◌, [], ◌∷◌, List, codes, refl}
use Rattle.net_words.specs.declared.word.BasisText.TheVariants.{Poly}
use Rattle.net_words.specs.declared.word.Role.TheVariants.{Input, Output}
use Rattle.net_words.specs.declared.word.WordText.{WordText}
use Rattle.job_input.specs.Labelling.{labels_of}

abbrev signature_words : List WordText
signature_words = record { line = 3; name = codes "A"; role = Input; basis = Poly; nets = codes "a0" ∷ codes "a1" ∷ [] } ∷ record { line = 4; name = codes "Z"; role = Output; basis = Poly; nets = codes "z0" ∷ codes "z1" ∷ [] } ∷ []

-- of an input word A and the output word Z over a field of two bits, A is a label with two bits, and Z the output's
labels_of_two_words : labels_of 2 signature_words ≡ record { output = codes "Z"; words = (codes "A", 2) ∷ []; nets = [] }
labels_of_two_words = refl
