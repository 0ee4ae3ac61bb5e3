-- The signature of a trial has what is asked of one: words with names, and one output.
use Rattle.std.proofs.Common.{◌≡◌, ◌∙◌, ap, sym, refl, subst, inl, inr, ℕ, zero, suc, ◌<◌, ◌≤◌, List, [], ◌∷◌, codes, get_or, Option, Some, cond, arith}
use Rattle.std.specs.Prelude.{◌==◌, slice_get, slice_index}
use Rattle.text_core.specs.Names.{IsName, IsNameByte}
use Rattle.lists.specs.laws.HasLaws.{none_at}
use Rattle.lists.specs.Lists.{Has}
use Rattle.net_words.specs.Roles.{input_count}
use Rattle.net_words.specs.declared.word.Role.TheVariants.{Input, Output}
use Rattle.net_words.specs.declared.word.WordText.{WordText}
use Rattle.net_signature.specs.WordNames.{HaveNames}
use Rattle.job_input.specs.Setting.{AreSaid}
use Rattle.make_trial.specs.TwoInputs.{lettered, two_inputs, words_of_two}

one_letter : (b : ℕ) → 65 ≤ b → b ≤ 90 → IsName (b ∷ [])
one_letter b least most = record { some = omega arith; letter = inl (least, most); each = each; short = omega arith }
  where
    each : (i : ℕ) → i < 1 → IsNameByte (slice_index (b ∷ []) i)
    each zero less = inl (inl (inr (least, most)))
    each (suc i) less = absurd (omega (arith, less))

-- what the word at a place has
found : (P : WordText → Type 0) (w word : WordText) → ◌≡◌ {A = Option WordText} (Some w) (Some word) → P w → P word
found P w word e is = let same : w ≡ word = cc in subst P same is

word_named : (k : ℕ) (word : WordText) → Has (words_of_two k) word → IsName word.name
word_named k word (zero, got) = found (λ w. IsName w.name) (lettered 3 (codes "A") Input (codes "a") k) word got (one_letter 65 (omega arith) (omega arith))
word_named k word (suc zero, got) = found (λ w. IsName w.name) (lettered 4 (codes "B") Input (codes "b") k) word got (one_letter 66 (omega arith) (omega arith))
word_named k word (suc (suc zero), got) = found (λ w. IsName w.name) (lettered 5 (codes "Z") Output (codes "z") k) word got (one_letter 90 (omega arith) (omega arith))
word_named k word (suc (suc (suc i)), got) = absurd (cc)

-- the place of a word by the first letter of its name
abbrev place_of : List ℕ → ℕ
place_of name = cond (get_or name 0 0 == 65) 0 (cond (get_or name 0 0 == 66) 1 2)

word_place : (k i : ℕ) (word : WordText) → slice_get (words_of_two k) i ≡ Some word → i ≡ place_of word.name
word_place k zero word got = found (λ w. 0 ≡ place_of w.name) (lettered 3 (codes "A") Input (codes "a") k) word got refl
word_place k (suc zero) word got = found (λ w. 1 ≡ place_of w.name) (lettered 4 (codes "B") Input (codes "b") k) word got refl
word_place k (suc (suc zero)) word got = found (λ w. 2 ≡ place_of w.name) (lettered 5 (codes "Z") Output (codes "z") k) word got refl
word_place k (suc (suc (suc i))) word got = absurd (cc)

words_named : (k : ℕ) → HaveNames (words_of_two k)
words_named k = record {
  names = word_named k;
  apart = λ i j u v at_i at_j same. word_place k i u at_i ∙ ap place_of same ∙ sym (word_place k j v at_j);
}

pub trial_said : (k g : ℕ) → AreSaid (two_inputs k g)
trial_said k g = record {
  output = refl;
  others = (let two : input_count (words_of_two k) ≡ 2 = refl in omega (arith, two));
  names = words_named k;
  feeds = λ k within. record { sources = λ feed has. absurd (none_at feed has); apart = λ i j f other got. absurd (none_at f (i, got)) };
  blocks = λ block has. absurd (none_at block has);
}
