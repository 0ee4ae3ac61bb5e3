-- A worked example that the check computes: the text Z=A*B over the words A and B and the output Z.
use Rattle.std.proofs.Common.{◌≡◌, refl, ℕ, List, [], ◌∷◌, codes, Ok}
use Rattle.gf_field.specs.Ring.{IsRing}
use Rattle.poly_mixed.specs.Labels.{Labelling}
use Rattle.spec_text.specs.Fault.{SpecOutcome}
use Rattle.spec_text.specs.Token.{Token, name, equals, times}
use Rattle.spec_text.specs.Tokens.{AreTokens, ended}
use Rattle.spec_text.proofs.FrontLemmas.{front_some}
use Rattle.spec_text.proofs.GoodLemmas.{text_may}
use Rattle.spec_text.proofs.SomeTokenLemmas.{no_white, with_front}

-- its tokens with their places
tokens : List (Token × ℕ)
tokens = (name (codes "Z"), 0) ∷ (equals, 1) ∷ (name (codes "A"), 2) ∷ (times, 3) ∷ (name (codes "B"), 4) ∷ []

at_end : AreTokens 5 [] [] (ended 5)
at_end = (no_white, refl)

are_tokens : AreTokens 0 (codes "Z=A*B") tokens (ended 5)
unfolding tokens
are_tokens =
    with_front 0 1 (codes "Z=A*B") (name (codes "Z")) ((equals, 1) ∷ (name (codes "A"), 2) ∷ (times, 3) ∷ (name (codes "B"), 4) ∷ []) (ended 5) (front_some (codes "Z=A*B") (name (codes "Z")) 1 refl)
    (with_front 1 1 (codes "=A*B") equals ((name (codes "A"), 2) ∷ (times, 3) ∷ (name (codes "B"), 4) ∷ []) (ended 5) (front_some (codes "=A*B") equals 1 refl)
    (with_front 2 1 (codes "A*B") (name (codes "A")) ((times, 3) ∷ (name (codes "B"), 4) ∷ []) (ended 5) (front_some (codes "A*B") (name (codes "A")) 1 refl)
    (with_front 3 1 (codes "*B") times ((name (codes "B"), 4) ∷ []) (ended 5) (front_some (codes "*B") times 1 refl)
    (with_front 4 1 (codes "B") (name (codes "B")) [] (ended 5) (front_some (codes "B") (name (codes "B")) 1 refl) at_end))))

abbrev labels : Labelling
labels = record { output = codes "Z"; words = (codes "A", 2) ∷ (codes "B", 2) ∷ []; nets = [] }

-- it says one term: 1 times the word 0 to the power 1 times the word 1 to the power 1
says_a_product : (k : ℕ) (mul : ℕ → ℕ → ℕ) → IsRing k mul → SpecOutcome labels k mul (codes "Z=A*B") (Ok ((1, (0, 1) ∷ (1, 1) ∷ []) ∷ []))
unfolding tokens
says_a_product k mul ring = text_may labels k mul ring (codes "Z=A*B") tokens (ended 5) are_tokens
