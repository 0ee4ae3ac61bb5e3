-- How many words there are after one more.
use Rattle.std.proofs.Common.{◌≡◌, ◌∙◌, ap, sym, refl, subst, ◌+◌, ◌<◌, ◌≤◌, ◌&&◌, ◌||◌, not, nat_le, List, [], ◌∷◌, ◌++◌, length, length-append, filter, Bool, true, false, cond, if◌then◌else◌, Result, Ok, Err, arith}
use Rattle.std.specs.List.{list_any}
use Rattle.std.specs.Str.{bytes_eq}
use Rattle.std.proofs.lemmas.Bool.Decides.{nat_tests}
use Rattle.std.proofs.lemmas.List.Elements.{filter-append}
use Rattle.std.proofs.lemmas.List.Filters.{length-filter_both}
use Rattle.net_words.specs.Roles.{is_output, input_count}
use Rattle.net_words.specs.declared.word.WordText.{WordText}
use Rattle.net_signature.specs.Body.{with_word}
use Rattle.net_signature.specs.Few.{AreFew}
use Rattle.net_signature.specs.declared.fault.SigFault.{SigFault}
use Rattle.net_signature.specs.declared.fault.SigFault.TheVariants.{NameTwice, TwoOutputs, TooManyWords}

module _ {X : Type 0} (p : X → Bool) where
  count_push : (xs : List X) (x : X) (b : Bool) → p x ≡ b → length (filter p (xs ++ x ∷ [])) ≡ length (filter p xs) + cond b 1 0
  count_push xs x b is = ap length (filter-append p xs (x ∷ [])) ∙ length-append (filter p xs) (filter p (x ∷ [])) ∙ ap (λ n. length (filter p xs) + n) (one b is)
    where
      one : (b : Bool) → p x ≡ b → length (filter p (x ∷ [])) ≡ cond b 1 0
      one true e = ap (λ c. length (cond c (x ∷ []) [])) e
      one false e = ap (λ c. length (cond c (x ∷ []) [])) e

  count_none : (xs : List X) → list_any p xs ≡ false → length (filter p xs) ≡ 0
  count_none [] e = refl
  count_none (x ∷ xs) e =
      let rest = count_none xs in
      elim (p x) as (λ b. (b || list_any p xs) ≡ false → length (cond b (x ∷ filter p xs) (filter p xs)) ≡ 0) [ true ↦ λ h. absurd (cc) | false ↦ λ h. rest h ] e

  pub count_some : (xs : List X) → list_any p xs ≡ true → 1 ≤ length (filter p xs)
  count_some [] e = absurd (cc)
  count_some (x ∷ xs) e =
      let rest = count_some xs in
      elim (p x) as (λ b. (b || list_any p xs) ≡ true → 1 ≤ length (cond b (x ∷ filter p xs) (filter p xs))) [ true ↦ λ h. omega arith | false ↦ λ h. rest h ] e

-- what `with_word` answers by its tests
abbrev chosen : (twice output outputs full : Bool) → List WordText → WordText → Result (List WordText) SigFault
chosen twice output outputs full words word =
    if twice then Err (NameTwice word.line)
    else if output && outputs then Err (TwoOutputs word.line)
    else if not output && full then Err (TooManyWords word.line)
    else Ok (words ++ word ∷ [])

-- one word more, and which tests it passed
record IsTaken (twice output outputs full : Bool) (words : List WordText) (word : WordText) (more : List WordText) : Type 0 where
  more_is : more ≡ words ++ word ∷ []
  new : twice ≡ false
  single : (output && outputs) ≡ false
  room : (not output && full) ≡ false

taken : (twice output outputs full : Bool) (words : List WordText) (word : WordText) (more : List WordText) → Ok more ≡ chosen twice output outputs full words word → IsTaken twice output outputs full words word more
taken true output outputs full words word more ok = absurd (cc)
taken false true true full words word more ok = absurd (cc)
taken false true false full words word more ok = record { more_is = cc; new = refl; single = refl; room = refl }
taken false false outputs true words word more ok = absurd (cc)
taken false false outputs false words word more ok = record { more_is = cc; new = refl; single = refl; room = refl }

-- one word more, whose name is new
pub word_taken : (words : List WordText) (word : WordText) (more : List WordText) → Ok more ≡ with_word words word → (more ≡ words ++ word ∷ []) × (list_any (λ (other : WordText). bytes_eq other.name word.name) words ≡ false)
word_taken words word more ok =
    let step = taken (list_any (λ (other : WordText). bytes_eq other.name word.name) words) (is_output word) (list_any is_output words) (nat_le 8 (input_count words)) words word more ok in
    (step.more_is, step.new)

pub few_more : (words : List WordText) (word : WordText) (more : List WordText) → Ok more ≡ with_word words word → AreFew words → AreFew more
few_more words word more ok few =
    let step = taken (list_any (λ (other : WordText). bytes_eq other.name word.name) words) (is_output word) (list_any is_output words) (nat_le 8 (input_count words)) words word more ok in
    subst AreFew (sym step.more_is)
    (elim (is_output word) as (λ b. is_output word ≡ b → (b && list_any is_output words) ≡ false → (not b && nat_le 8 (input_count words)) ≡ false → AreFew (words ++ word ∷ [])) [
      | true ↦ λ is single room. output_more is single
      | false ↦ λ is single room. other_more is room
    ] refl step.single step.room)
  where
    output_more : is_output word ≡ true → list_any is_output words ≡ false → AreFew (words ++ word ∷ [])
    output_more is single =
        let none = count_none is_output words single in
        let one = count_push is_output words word true is in
        let same = count_push (λ w. not (is_output w)) words word false (ap not is) in
        let before = few.others in
        record { outputs = omega arith; others = omega arith }

    other_more : is_output word ≡ false → nat_le 8 (input_count words) ≡ false → AreFew (words ++ word ∷ [])
    other_more is room =
        let less : input_count words < 8 = grind (arith, nat_tests) in
        let same = count_push is_output words word false is in
        let one = count_push (λ w. not (is_output w)) words word true (ap not is) in
        let before = few.outputs in
        record { outputs = omega arith; others = omega arith }

-- nine words at most
pub few_long : (words : List WordText) → AreFew words → length words ≤ 9
few_long words few =
    let both = length-filter_both is_output (λ word. not (is_output word)) (λ word. refl) words in
    let one = few.outputs in
    let rest = few.others in
    omega arith
