-- Lemmas that several crates above cite.
use Rattle.std.proofs.Common.{◌≡◌, ℕ, zero, suc, ◌+◌, List, [], ◌∷◌, ◌++◌, drop, Some, refl, subst, ◌*◌, length, arith}
use Rattle.std.specs.Prelude.{slice_get}
use Rattle.std.proofs.Math.Nat.{mul-suc}
use Rattle.lists.specs.Lists.{Has}
use Rattle.lists.specs.laws.ReadLaws.{get_front, get_back}
use Rattle.circuit_model.specs.Flat.{AreOver}
use Rattle.circuit_model.specs.OfBinding.{word_with, words_of}
use Rattle.circuit_model.specs.Word.{Word, word_nets}
use Rattle.circuit_model.specs.declared.circuit_word.CircuitWord.{CircuitWord}
use Rattle.gf_basis.specs.BasisParts.{IsBasisOver}
use Rattle.net_words.specs.declared.bound.BoundWord.{BoundWord}

pub from_word : (words : List BoundWord) (bases : List (List ℕ)) (w : ℕ) (word : BoundWord) (basis : List ℕ) → slice_get words w ≡ Some word → slice_get bases w ≡ Some basis
    → words_of (drop w words) (drop w bases) ≡ word_with word.role word.nets basis ++ words_of (drop (suc w) words) (drop (suc w) bases)
from_word [] bases w word basis got at = absurd (cc)
from_word (u ∷ us) [] w word basis got at = absurd (cc)
from_word (u ∷ us) (b ∷ bs) zero word basis got at =
    let same : u ≡ word = cc in
    let same' : b ≡ basis = cc in
    λ i. word_with (same i).role (same i).nets (same' i) ++ words_of us bs
from_word (u ∷ us) (b ∷ bs) (suc w) word basis got at = from_word us bs w word basis got at

pub place_in : (k : ℕ) (words : List Word) → ((u : Word) → Has words u → length u.nets ≡ k) → (w i n : ℕ) (word : Word) → slice_get words w ≡ Some word → slice_get word.nets i ≡ Some n → slice_get (word_nets words) (k * w + i) ≡ Some n
place_in k [] are w i n word at got = absurd (cc)
place_in k (u ∷ us) are zero i n word at got =
    let same : word ≡ u = cc in
    let e : i ≡ k * 0 + i = omega arith in
    let P : Word → Type 0 = λ v. slice_get v.nets i ≡ Some n in
    let Q : ℕ → Type 0 = λ j. slice_get (u.nets ++ word_nets us) j ≡ Some n in
    subst Q e (get_front u.nets (word_nets us) i n (subst P same got))
place_in k (u ∷ us) are (suc w) i n word at got =
    let rest = place_in k us (λ v has. are v (suc has.0, has.1)) w i n word at got in
    let e : length u.nets + (k * w + i) ≡ k * suc w + i = omega (arith, mul-suc k w, are u (0, refl)) in
    let Q : ℕ → Type 0 = λ j. slice_get (u.nets ++ word_nets us) j ≡ Some n in
    subst Q e (get_back u.nets (word_nets us) (k * w + i) n rest)

pub appended_over : (k : ℕ) (mul : ℕ → ℕ → ℕ) (word : CircuitWord) → IsBasisOver k mul word.basis → (ws : List CircuitWord) → AreOver k mul ws → AreOver k mul (ws ++ word ∷ [])
appended_over k mul word here [] each w (zero, got) = let same : word ≡ w = cc got in (let Q : CircuitWord → Type 0 = λ v. IsBasisOver k mul v.basis in subst Q same here)
appended_over k mul word here [] each w (suc i, got) = absurd (cc got)
appended_over k mul word here (v ∷ ws) each w (zero, got) = each w (0, got)
appended_over k mul word here (v ∷ ws) each w (suc i, got) = appended_over k mul word here ws (λ u has. each u (suc has.0, has.1)) w (i, got)
