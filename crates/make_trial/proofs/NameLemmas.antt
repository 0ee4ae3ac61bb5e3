-- The nets of a trial's words have plain names, no two of which are the same.
use Rattle.std.proofs.Common.{◌≡◌, ◌∙◌, ap, sym, refl, subst, inl, inr, ℕ, zero, suc, ◌+◌, ◌<◌, ◌≤◌, List, [], ◌∷◌, ◌++◌, length, get_or, codes, Option, Some, append_assoc, append-nil, arith}
use Rattle.std.specs.Fmt.{decimal}
use Rattle.std.proofs.lemmas.Fmt.{decimal_injective, length-decimal-le}
use Rattle.std.proofs.lemmas.List.{append_cancel_left, length-append}
use Rattle.lists.specs.Lists.{Has}
use Rattle.lists.specs.laws.HasLaws.{none_at as none_of, Has_cases, one_of}
use Rattle.net_write.proofs.LineTextLemmas.{ArePlain, AreFields, IsField}
use Rattle.net_write.specs.Plain.{IsPlainByte}
use Rattle.net_words.specs.declared.word.WordText.{WordText}
use Rattle.make_nets.specs.Form.{AllWide}
use Rattle.make_nets.specs.MakerNames.{AreMakerNames, IsMakerName}
use Rattle.make_nets.specs.Ports.{outer_names}
use Rattle.make_nets.proofs.OuterLemmas.{names_more}
use Rattle.net_words.specs.declared.word.Role.TheVariants.{Input, Output}
use Rattle.make_trial.specs.TwoInputs.{lettered, net_names}
use Rattle.make_trial.proofs.NetNameLemmas.{all_from, names_fields, names_long}
use Rattle.make_trial.specs.Trial.{trial_words}

-- each name is the letter and a number
has_name : (letter : List ℕ) (k : ℕ) (name : List ℕ) → Has (net_names letter k) name → (i : ℕ) × (i < k) × (name ≡ letter ++ decimal i)
has_name letter zero name has = absurd (none_of name has)
has_name letter (suc n) name has =
    elim (Has_cases (net_names letter n) ((letter ++ decimal n) ∷ []) name has) [
      | inl w ↦ let before = has_name letter n name w in let less = before.1 in (before.0, omega (arith, less), before.2)
      | inr w ↦ (n, omega arith, one_of (letter ++ decimal n) name w)
    ]

module _ (letter : List ℕ) (plain : ArePlain letter) (one : length letter ≡ 1) where
  name_is : (i : ℕ) → i < 64 → IsMakerName (letter ++ decimal i)
  name_is i less =
      let long = length-append letter (decimal i) in
      let short = length-decimal-le 2 i (omega arith) (omega (arith, less)) in
      let field : IsField (letter ++ decimal i) = last_field i less (names_fields letter plain one (suc i) (omega (arith, less))) in
      record { plain = all_from IsPlainByte (letter ++ decimal i) field.2; some = omega (arith, long, one); most = omega (arith, long, one, short) }
    where
      last_of : (front : List (List ℕ)) (x : List ℕ) → AreFields (front ++ x ∷ []) → IsField x
      last_of [] x all = all.0
      last_of (y ∷ front) x all = last_of front x all.1

      last_field : (i : ℕ) → i < 64 → AreFields (net_names letter (suc i)) → IsField (letter ++ decimal i)
      last_field i less all = last_of (net_names letter i) (letter ++ decimal i) all

  -- with the names of such nets behind other names, which they are not
  with_names : (ns : List (List ℕ)) → AreMakerNames ns → ((i : ℕ) → Has ns (letter ++ decimal i) → ⊥) → (k : ℕ) → k ≤ 64 → AreMakerNames (ns ++ net_names letter k)
  with_names ns are other zero most = let P : List (List ℕ) → Type 0 = AreMakerNames in subst P (sym (append-nil ns)) are
  with_names ns are other (suc n) most =
      let P : List (List ℕ) → Type 0 = AreMakerNames in
      subst P (append_assoc ns (net_names letter n) ((letter ++ decimal n) ∷ []))
      (names_more (ns ++ net_names letter n) (letter ++ decimal n) (with_names ns are other n (omega (arith, most))) (name_is n (omega (arith, most)))
      (λ has. elim (Has_cases ns (net_names letter n) (letter ++ decimal n) has) [
        | inl w ↦ other n w
        | inr w ↦
            let there = has_name letter n (letter ++ decimal n) w in
            let less = there.1 in
            let same = decimal_injective n there.0 (omega (arith, most)) (omega (arith, most, less)) (append_cancel_left letter (decimal n) (decimal there.0) there.2) in
            absurd (omega (arith, less, same))
      ]))

-- names with another letter
other_letter : (letter other : ℕ) (k : ℕ) → (letter ≡ other → ⊥) → (i : ℕ) → Has (net_names (letter ∷ []) k) ((other ∷ []) ++ decimal i) → ⊥
other_letter letter other k apart i has =
    let there = has_name (letter ∷ []) k ((other ∷ []) ++ decimal i) has in
    apart (sym (ap (λ (l : List ℕ). get_or l 0 0) there.2))

letter_plain : (b : ℕ) → 97 ≤ b → b ≤ 122 → ArePlain (b ∷ [])
letter_plain b low high = ((omega (arith, low), omega (arith, high), (λ e. omega (arith, e, low)), (λ e. omega (arith, e, low))), tt)

no_names : AreMakerNames []
no_names = record { each = λ name has. absurd (none_of name has); apart = λ i j name got other. absurd (none_of name (i, got)) }

pub trial_names : (k : ℕ) → k ≤ 64 → AreMakerNames (outer_names (trial_words k) [])
trial_names k most =
    let a = net_names (codes "a") k in
    let b = net_names (codes "b") k in
    let z = net_names (codes "z") k in
    let P : List (List ℕ) → Type 0 = AreMakerNames in
    let first : AreMakerNames a = with_names (codes "a") (letter_plain 97 (omega arith) (omega arith)) refl [] no_names (λ i has. none_of (codes "a" ++ decimal i) has) k most in
    let second : AreMakerNames (a ++ b) = with_names (codes "b") (letter_plain 98 (omega arith) (omega arith)) refl a first (other_letter 97 98 k (λ e. omega (arith, e))) k most in
    let third : AreMakerNames ((a ++ b) ++ z) =
    with_names (codes "z") (letter_plain 122 (omega arith) (omega arith)) refl (a ++ b) second
    (λ i has. elim (Has_cases a b (codes "z" ++ decimal i) has) [ inl w ↦ other_letter 97 122 k (λ e. omega (arith, e)) i w | inr w ↦ other_letter 98 122 k (λ e. omega (arith, e)) i w ]) k most in
    subst P (append_assoc a b z ∙ ap (λ (l : List (List ℕ)). a ++ (b ++ l)) (sym (append-nil z)) ∙ sym (append-nil (a ++ (b ++ (z ++ []))))) third

-- each word has k nets
same_long : (k : ℕ) (w word : WordText) → ◌≡◌ {A = Option WordText} (Some w) (Some word) → length w.nets ≡ k → length word.nets ≡ k
same_long k w word e long = let is : w ≡ word = cc in ap (λ (u : WordText). length u.nets) (sym is) ∙ long

pub trial_wide : (k : ℕ) → AllWide k (trial_words k)
trial_wide k word (zero, got) = same_long k (lettered 3 (codes "A") Input (codes "a") k) word got (names_long (codes "a") k)
trial_wide k word (suc zero, got) = same_long k (lettered 4 (codes "B") Input (codes "b") k) word got (names_long (codes "b") k)
trial_wide k word (suc (suc zero), got) = same_long k (lettered 5 (codes "Z") Output (codes "z") k) word got (names_long (codes "z") k)
trial_wide k word (suc (suc (suc i)), got) = absurd (cc)
