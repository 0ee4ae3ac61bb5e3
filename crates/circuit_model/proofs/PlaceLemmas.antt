-- The input and state words of a binding, and the words of its circuit.
use Rattle.std.proofs.Common.{◌≡◌, ◌∙◌, ap, sym, refl, ℕ, zero, suc, ◌<◌, ◌+◌, List, [], ◌∷◌, ◌++◌, length, drop, Some, arith}
use Rattle.std.specs.Prelude.{slice_get}
use Rattle.std.proofs.lemmas.List.{append_assoc}
use Rattle.net_words.specs.declared.bound.BoundWord.{BoundWord}
use Rattle.net_words.specs.declared.word.Role.{Role}
use Rattle.net_words.specs.declared.word.Role.TheVariants.{Input, State, Fed, Output}
use Rattle.circuit_model.specs.Word.{Word}
use Rattle.circuit_model.specs.OfBinding.{word_with, words_of}
use Rattle.circuit_model.specs.Places.{place_with, places_from}

-- the numbers of the words from v on
from_word : (words : List BoundWord) (v : ℕ) (word : BoundWord) → slice_get words v ≡ Some word → places_from v (drop v words) ≡ place_with word.role v ++ places_from (v + 1) (drop (v + 1) words)
from_word words v word at = let up : v + 1 ≡ suc v = omega arith in rest words v at ∙ ap (λ n. place_with word.role v ++ places_from (v + 1) (drop n words)) (sym up)
  where
    rest : (us : List BoundWord) (i : ℕ) → slice_get us i ≡ Some word → places_from v (drop i us) ≡ place_with word.role v ++ places_from (v + 1) (drop (suc i) us)
    rest [] i got = absurd (cc)
    rest (u ∷ us) zero got = let same : u ≡ word = cc in ap (λ (x : BoundWord). place_with x.role v ++ places_from (v + 1) us) same
    rest (u ∷ us) (suc i) got = rest us i got

pub next_word : (words : List BoundWord) (v : ℕ) (word : BoundWord) (before after : List ℕ) → slice_get words v ≡ Some word → after ≡ before ++ place_with word.role v
    → before ++ places_from v (drop v words) ≡ places_from 0 words → after ++ places_from (v + 1) (drop (v + 1) words) ≡ places_from 0 words
next_word words v word before after at new so_far =
    ap (λ ns. ns ++ places_from (v + 1) (drop (v + 1) words)) new
    ∙ (append_assoc before (place_with word.role v) (places_from (v + 1) (drop (v + 1) words))
    ∙ (ap (λ ns. before ++ ns) (sym (from_word words v word at)) ∙ so_far))

-- there are as many as words of the circuit
pub places_long : (m : ℕ) (words : List BoundWord) (bases : List (List ℕ)) → length bases ≡ length words → length (places_from m words) ≡ length (words_of words bases)
places_long m [] bases long = refl
places_long m (word ∷ words) [] long = absurd (omega arith)
places_long m (word ∷ words) (basis ∷ bases) long = by word.role (places_long (m + 1) words bases (omega arith))
  where
    by : (r : Role) → length (places_from (m + 1) words) ≡ length (words_of words bases) → length (place_with r m ++ places_from (m + 1) words) ≡ length (word_with r word.nets basis ++ words_of words bases)
    by Input e = ap suc e
    by State e = ap suc e
    by Fed e = ap suc e
    by Output e = e

-- number w of the circuit is the word with the number v, and has its basis
pub record IsWordAt (m : ℕ) (words : List BoundWord) (bases : List (List ℕ)) (w v : ℕ) : Type 0 where
  pub index : ℕ
  pub number : v ≡ m + index
  pub inside : index < length words
  pub word : (basis : List ℕ) → slice_get bases index ≡ Some basis → (found : Word) × (slice_get (words_of words bases) w ≡ Some found) × (found.basis ≡ basis)

pub word_at : (m : ℕ) (words : List BoundWord) (bases : List (List ℕ)) (w v : ℕ) → length bases ≡ length words → slice_get (places_from m words) w ≡ Some v → IsWordAt m words bases w v
word_at m [] bases w v long got = absurd (cc)
word_at m (word ∷ words) [] w v long got = absurd (omega arith)
word_at m (word ∷ words) (basis ∷ bases) w v long got =
    let is = by word.role w got (λ i later. word_at (m + 1) words bases i v (omega arith) later) in
    record { index = is.0; number = is.1; inside = is.2; word = is.3 }
  where
    up : (index : ℕ) → v ≡ m + 1 + index → v ≡ m + suc index
    up index e = omega arith

    here : m ≡ v → v ≡ m + 0
    here e = omega arith

    by : (r : Role) (w : ℕ) → slice_get (place_with r m ++ places_from (m + 1) words) w ≡ Some v → ((i : ℕ) → slice_get (places_from (m + 1) words) i ≡ Some v → IsWordAt (m + 1) words bases i v)
        → (index : ℕ) × (v ≡ m + index) × (index < length (word ∷ words)) × ((b : List ℕ) → slice_get (basis ∷ bases) index ≡ Some b → (found : Word) × (slice_get (word_with r word.nets basis ++ words_of words bases) w ≡ Some found) × (found.basis ≡ b))
    by Input zero at more = let same : m ≡ v = cc in (0, here same, omega arith, λ b got. let equal : basis ≡ b = cc in (record { role = Input; nets = word.nets; basis = basis }, refl, equal))
    by Input (suc i) at more = let is = more i at in (suc is.index, up is.index is.number, omega (arith, is.inside), λ b got. is.word b got)
    by State zero at more = let same : m ≡ v = cc in (0, here same, omega arith, λ b got. let equal : basis ≡ b = cc in (record { role = Input; nets = word.nets; basis = basis }, refl, equal))
    by State (suc i) at more = let is = more i at in (suc is.index, up is.index is.number, omega (arith, is.inside), λ b got. is.word b got)
    by Fed zero at more = let same : m ≡ v = cc in (0, here same, omega arith, λ b got. let equal : basis ≡ b = cc in (record { role = Input; nets = word.nets; basis = basis }, refl, equal))
    by Fed (suc i) at more = let is = more i at in (suc is.index, up is.index is.number, omega (arith, is.inside), λ b got. is.word b got)
    by Output w at more = let is = more w at in (suc is.index, up is.index is.number, omega (arith, is.inside), λ b got. is.word b got)
