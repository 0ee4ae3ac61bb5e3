-- How many ranks the labels of a circuit name.
use Rattle.std.proofs.Common.{◌≡◌, ◌∙◌, ap, refl, ℕ, zero, suc, ◌+◌, cond, not, List, [], ◌∷◌, length, filter, arith}
use Rattle.std.specs.List.{AllByRecursion}
use Rattle.std.proofs.lemmas.List.{length-append}
use Rattle.lists.specs.Lists.{Has}
use Rattle.net_words.specs.Roles.{same_role}
use Rattle.net_words.specs.Variables.{bits, bits_with}
use Rattle.net_words.specs.declared.bound.BoundWord.{BoundWord}
use Rattle.net_words.specs.declared.word.Role.{Role}
use Rattle.net_words.specs.declared.word.Role.TheVariants.{Input, State, Fed, Output}
use Rattle.poly_mixed.specs.Labels.{bit_count}
use Rattle.circuit_model.specs.OfBinding.{word_with, words_of}

-- k so many times
abbrev pub times_k : ℕ → ℕ → ℕ
times_k k zero = 0
times_k k (suc n) = k + times_k k n

-- the words that are no outputs
abbrev pub inner : List BoundWord → List BoundWord
inner words = filter (λ word. not (same_role word.role Output)) words

pub counted_labels : (k : ℕ) (ws : List (List ℕ × ℕ)) → AllByRecursion (λ w. w.1 ≡ k) ws → bit_count ws ≡ times_k k (length ws)
counted_labels k [] all = refl
counted_labels k (w ∷ ws) all = λ i. all.0 i + counted_labels k ws all.1 i

pub counted_bits : (k : ℕ) (words : List BoundWord) → ((word : BoundWord) → Has words word → length word.nets ≡ k) → length (bits words) ≡ times_k k (length (inner words))
counted_bits k [] each = refl
counted_bits k (u ∷ us) each =
    length-append (bits_with u.role u.nets) (bits us) ∙ ap (λ n. length (bits_with u.role u.nets) + n) (counted_bits k us (λ word has. each word (suc has.0, has.1))) ∙ with_role u.role
  where
    with_role : (r : Role) → length (bits_with r u.nets) + times_k k (length (inner us)) ≡ times_k k (length (cond (not (same_role r Output)) (u ∷ inner us) (inner us)))
    with_role Input = ap (λ n. n + times_k k (length (inner us))) (each u (0, refl))
    with_role State = ap (λ n. n + times_k k (length (inner us))) (each u (0, refl))
    with_role Fed = ap (λ n. n + times_k k (length (inner us))) (each u (0, refl))
    with_role Output = omega arith

pub counted_words : (words : List BoundWord) (bases : List (List ℕ)) → length bases ≡ length words → length (words_of words bases) ≡ length (inner words)
counted_words [] bases long = refl
counted_words (u ∷ us) [] long = absurd (omega (arith, long))
counted_words (u ∷ us) (b ∷ bs) long =
    length-append (word_with u.role u.nets b) (words_of us bs) ∙ ap (λ n. length (word_with u.role u.nets b) + n) (counted_words us bs (omega (arith, long))) ∙ with_role u.role
  where
    with_role : (r : Role) → length (word_with r u.nets b) + length (inner us) ≡ length (cond (not (same_role r Output)) (u ∷ inner us) (inner us))
    with_role Input = omega arith
    with_role State = omega arith
    with_role Fed = omega arith
    with_role Output = omega arith
