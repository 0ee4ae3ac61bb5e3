-- The most of the bytes `w` that names begin with.
use Rattle.std.proofs.Common.{◌≡◌, ◌∙◌, ap, refl, inl, inr, ℕ, zero, suc, ◌<◌, ◌≤◌, ◌+◌, max, List, [], ◌∷◌, ◌++◌, length, Bool, true, false, cond, drop, get_or, arith}
use Rattle.std.specs.Prelude.{codes, ◌==◌}
use Rattle.std.specs.List.{repeat}
use Rattle.make_nets.specs.Makeable.{AreNames, IsPrefix}
use Rattle.make_nets.specs.MakerNames.{AreMakerNames, IsMakerName}
use Rattle.make_nets.specs.Prefix.{leading, most_leading, prefix_of}
use Rattle.net_words.specs.declared.word.WordText.{WordText}
use Rattle.make_nets.specs.Ports.{word_names}
use Rattle.std.proofs.lemmas.Bool.{eqb-true, cases_lt}
use Rattle.lists.specs.Lists.{Has}
use Rattle.lists.specs.laws.TakeLaws.{drop_read}
use Rattle.make_nets.proofs.OuterLemmas.{is_net_name}

pub most_append : (xs ys : List (List ℕ)) → most_leading (xs ++ ys) ≡ max (most_leading xs) (most_leading ys)
most_append [] ys = omega arith
most_append (x ∷ xs) ys = omega (arith, most_append xs ys)

leading_low : (name : List ℕ) → leading name ≤ length name
leading_low [] = omega arith
leading_low (byte ∷ bytes) = elim (byte == 119) as (λ b. ◌≤◌ (cond b (suc (leading bytes)) 0) (suc (length bytes))) [ true ↦ omega (arith, leading_low bytes) | false ↦ omega arith ]

most_has : (names : List (List ℕ)) (name : List ℕ) → Has names name → leading name ≤ most_leading names
most_has [] name has = let got = has.1 in absurd (cc)
most_has (x ∷ names) name (zero, got) = let same : x ≡ name = cc in omega (arith, ap leading same)
most_has (x ∷ names) name (suc k, got) = omega (arith, most_has names name (k, got))

leading_of : (n : ℕ) (rest : List ℕ) → n ≤ leading (repeat n (119 ∷ []) ++ rest)
leading_of zero rest = omega arith
leading_of (suc n) rest = omega (arith, leading_of n rest)

repeat_long : (n : ℕ) → length {A = ℕ} (repeat n (119 ∷ [])) ≡ n
repeat_long zero = refl
repeat_long (suc n) = ap suc (repeat_long n)

most_low : (names : List (List ℕ)) → ((name : List ℕ) → Has names name → IsMakerName name) → most_leading names ≤ 128
most_low [] each = omega arith
most_low (x ∷ names) each = omega (arith, leading_low x, (each x (0, refl)).most, most_low names (λ name has. each name (suc has.0, has.1)))

pub most_few : (names : List (List ℕ)) → AreMakerNames names → most_leading names ≤ 128
most_few names are = most_low names are.each

pub prefix_long : (names : List (List ℕ)) → AreMakerNames names → length (prefix_of names) ≤ 129
prefix_long names are = omega (arith, repeat_long (suc (most_leading names)), most_few names are)

-- no name begins with the prefix
pub prefix_fits : (names : List (List ℕ)) → AreMakerNames names → IsPrefix names (prefix_of names)
prefix_fits names are = record {
  some = omega (arith, repeat_long (suc (most_leading names)));
  short = omega (arith, prefix_long names are);
  fresh = λ name rest has is. omega (arith, ap leading is, leading_of (suc (most_leading names)) rest, most_has names name has);
}

pub are_names : (names : List (List ℕ)) → AreMakerNames names → AreNames names
are_names names are = record { each = λ name has. is_net_name name (are.each name has); apart = are.apart }

pub most_words_step : (words : List WordText) (i : ℕ) (word : WordText) (before after count : ℕ) → i < length words → word ≡ get_or words i word → count ≡ most_leading word.nets → after ≡ max before count → max before (most_leading (word_names (drop i words))) ≡ most_leading (word_names words) → max after (most_leading (word_names (drop (i + 1) words))) ≡ most_leading (word_names words)
most_words_step words i word before after count less is counted more all =
    let rest : most_leading (word_names (drop i words)) ≡ max (most_leading word.nets) (most_leading (word_names (drop (i + 1) words))) = ap (λ (ws : List WordText). most_leading (word_names ws)) (drop_read words i word less is) ∙ most_append word.nets (word_names (drop (i + 1) words)) in
    omega (arith, rest, counted, more, all)

-- a name that begins with so many bytes `w` is those and a rest
leading_split : (m : ℕ) (name : List ℕ) → m ≤ leading name → (rest : List ℕ) × (name ≡ repeat m (codes "w") ++ rest)
leading_split zero name less = (name, refl)
leading_split (suc m) [] less = absurd (omega arith)
leading_split (suc m) (byte ∷ bytes) less = by (leading_split m bytes) (byte == 119) refl less
  where
    by : (m ≤ leading bytes → (rest : List ℕ) × (bytes ≡ repeat m (codes "w") ++ rest)) → (b : Bool) → (byte == 119) ≡ b → suc m ≤ cond b (suc (leading bytes)) 0 → (rest : List ℕ) × (byte ∷ bytes ≡ repeat (suc m) (codes "w") ++ rest)
    by later true is low =
        let same : byte ≡ 119 = eqb-true byte 119 is in
        let rest = later (omega (arith, low)) in
        (rest.0, ap (λ b. b ∷ bytes) same ∙ ap (λ (v : List ℕ). 119 ∷ v) rest.1)
    by later false is low = absurd (omega (arith, low))

most_some : (names : List (List ℕ)) → 1 ≤ most_leading names → (name : List ℕ) × Has names name × (leading name ≡ most_leading names)
most_some [] some = absurd (omega arith)
most_some (name ∷ names) some =
    elim (cases_lt (leading name) (most_leading names)) [
      | inl less ↦ let rest = most_some names (omega (arith, less)) in (rest.0, (suc rest.1.0, rest.1.1), omega (arith, rest.2, less))
      | inr more ↦ (name, (0, refl), omega (arith, more))
    ]

-- some name begins with each shorter text
pub prefix_needed : (names : List (List ℕ)) (m : ℕ) → 1 ≤ m → m ≤ most_leading names → (name : List ℕ) × (rest : List ℕ) × Has names name × (name ≡ repeat m (codes "w") ++ rest)
prefix_needed names m some low =
    let found = most_some names (omega (arith, some, low)) in
    let rest = leading_split m found.0 (omega (arith, low, found.2)) in
    (found.0, rest.0, found.1, rest.1)
