-- Names of a made net are plain, and its words bind.
use Rattle.std.proofs.Common.{◌≡◌, ◌∙◌, ap, sym, refl, subst, inl, inr, ℕ, zero, suc, ◌<◌, ◌≤◌, ◌+◌, ◌-◌, ◌/◌, ◌%◌, ◌^◌, Bool, true, false, cond, List, [], ◌∷◌, ◌++◌, length, map, None, Some, Ok, arith}
use Rattle.std.specs.Prelude.{slice_get, codes, ◌==◌}
use Rattle.std.specs.List.{range_with_len, repeat}
use Rattle.std.specs.Fmt.{decimal, digits, digits_onto, digit_glyph}
use Rattle.lists.specs.Lists.{Has}
use Rattle.lists.specs.laws.HasLaws.{All_has, all_from as all_has, Has_cases, Has_left}
use Rattle.lists.specs.laws.ReadLaws.{get_front}
use Rattle.lists.specs.laws.TestLaws.{chosen_below}
use Rattle.net_core.specs.LatchValue.{LatchValue}
use Rattle.net_core.specs.NetList.{LabelValue, NetList}
use Rattle.net_core.specs.Sound.{IsSound}
use Rattle.net_words.specs.Bind.{BindingOf}
use Rattle.net_words.specs.Feeds.{FeedsOf, is_fed}
use Rattle.net_words.specs.declared.feed.Feed.{Feed}
use Rattle.net_words.specs.declared.feed.FeedText.{FeedText}
use Rattle.net_words.specs.declared.word.Role.TheVariants.{Input}
use Rattle.net_words.specs.declared.word.WordText.{WordText}
use Rattle.net_write.specs.Plain.{HasPlainNames, IsPlainByte, IsPlainName}
use Rattle.make_nets.specs.Plan.{Plan}
use Rattle.make_nets.specs.MadeNet.{named, inner_name, labels_with}
use Rattle.make_nets.proofs.LabelLemmas.{label_found, label_is}
use Rattle.make_nets.proofs.SoundLemmas.{sound}
use Rattle.make_nets.specs.BindingOfMade.{AreHeld, binding_of}
use Rattle.make_nets.specs.Made.{made_of, IsPlanFor}
use Rattle.make_nets.specs.MakerNames.{AreMakerNames}
use Rattle.make_nets.specs.Ports.{inputs_of, numbered, outer_names, outputs_of, role_nets, word_names}
use Rattle.make_nets.specs.Prefix.{most_leading, prefix_of}
use Rattle.make_nets.proofs.BindingLemmas.{FoundFrom, found_back, found_front, words_bind}
use Rattle.make_nets.proofs.MakeLemmas.{makeable}
use Rattle.make_nets.proofs.MostLemmas.{are_names, prefix_fits}

plain_append : (xs ys : List ℕ) → IsPlainName xs → IsPlainName ys → IsPlainName (xs ++ ys)
plain_append xs ys first second = all_has IsPlainByte (xs ++ ys) (λ x has. elim (Has_cases xs ys x has) [ inl w ↦ All_has IsPlainByte xs x first w | inr w ↦ All_has IsPlainByte ys x second w ])

repeat_plain : (n : ℕ) (xs : List ℕ) → IsPlainName xs → IsPlainName (repeat n xs)
repeat_plain zero xs plain = all_has IsPlainByte [] (λ x has. absurd (let got = has.1 in cc))
repeat_plain (suc n) xs plain = plain_append xs (repeat n xs) plain (repeat_plain n xs plain)

prefix_plain : (n : ℕ) → IsPlainName (repeat n (codes "w"))
prefix_plain n = repeat_plain n (codes "w") (all_has IsPlainByte (codes "w") one)
  where
    one : (x : ℕ) → Has (codes "w") x → IsPlainByte x
    one x (zero, got) = let same : 119 ≡ x = cc in (omega (arith, same), omega (arith, same), (λ e. omega (arith, same, e)), (λ e. omega (arith, same, e)))
    one x (suc k, got) = let none : None ≡ Some x = got in absurd (cc)

glyph_plain : (n : ℕ) → IsPlainByte (digit_glyph false (n % 10))
glyph_plain n =
    let low : n % 10 < 10 = omega arith in
    let is : digit_glyph false (n % 10) ≡ 48 + n % 10 = chosen_below (n % 10) 10 (48 + n % 10) (87 + n % 10) low in
    (omega (arith, is), omega (arith, is, low), (λ e. omega (arith, is, e)), (λ e. omega (arith, is, e, low)))

plain_first : (b : ℕ) (rest : List ℕ) → IsPlainByte b → IsPlainName rest → IsPlainName (b ∷ rest)
plain_first b rest here there = plain_append (b ∷ []) rest (all_has IsPlainByte (b ∷ []) one) there
  where
    one : (x : ℕ) → Has (b ∷ []) x → IsPlainByte x
    one x (zero, got) = let same : b ≡ x = cc in subst IsPlainByte same here
    one x (suc k, got) = let none : None ≡ Some x = got in absurd (cc)

digits_plain : (k n : ℕ) (rest : List ℕ) → IsPlainName rest → IsPlainName (digits_onto k 10 false n rest)
digits_plain zero n rest plain = plain
digits_plain (suc k) n rest plain = by (λ more. digits_plain k (n / 10) (digit_glyph false (n % 10) ∷ rest) more) (n / 10 == 0)
  where
    one : IsPlainName (digit_glyph false (n % 10) ∷ rest)
    one = plain_first (digit_glyph false (n % 10)) rest (glyph_plain n) plain

    by : (IsPlainName (digit_glyph false (n % 10) ∷ rest) → IsPlainName (digits_onto k 10 false (n / 10) (digit_glyph false (n % 10) ∷ rest))) → (b : Bool) → IsPlainName (cond b (digit_glyph false (n % 10) ∷ rest) (digits_onto k 10 false (n / 10) (digit_glyph false (n % 10) ∷ rest)))
    by later true = one
    by later false = later one

decimal_plain : (n : ℕ) → IsPlainName (decimal n)
unfolding digits
decimal_plain n = digits_plain 64 n [] (all_has IsPlainByte [] (λ x has. absurd (let got = has.1 in cc)))

module _ (words : List WordText) (fed : List (List ℕ)) (latches : List LatchValue) (targets : List ℕ) (plan : Plan) (are : AreMakerNames (outer_names words fed)) (fits : IsPlanFor words fed latches targets plan) where
  abbrev net : NetList
  net = made_of words fed latches plan

  pub made_sound : IsSound net
  made_sound = sound (outer_names words fed) (prefix_of (outer_names words fed)) (inputs_of words fed) (outputs_of words) latches targets plan (makeable words fed latches targets plan are fits)

  few : length (outer_names words fed) + (plan.next - length (outer_names words fed)) ≤ 2 ^ 20
  few = omega (arith, fits.few, fits.shape.from)

  -- the outer nets are found by their names
  pub outer_found : FoundFrom net 0 (outer_names words fed)
  outer_found i name got =
      let at : slice_get (map named (outer_names words fed)) i ≡ Some (named name) = mapped (outer_names words fed) i got in
      let there : slice_get (labels_with (outer_names words fed) (prefix_of (outer_names words fed)) (plan.next - length (outer_names words fed))) i ≡ Some (named name) = get_front (map named (outer_names words fed)) (map (λ j. named (inner_name (prefix_of (outer_names words fed)) j)) (range_with_len 0 (plan.next - length (outer_names words fed)))) i (named name) at in
      label_found (outer_names words fed) (prefix_of (outer_names words fed)) (plan.next - length (outer_names words fed)) (are_names (outer_names words fed) are) (prefix_fits (outer_names words fed) are) few i (named name) there
      ∙ ap Some (omega arith)
    where
      mapped : (names : List (List ℕ)) (k : ℕ) → slice_get names k ≡ Some name → slice_get (map named names) k ≡ Some (named name)
      mapped [] k at = absurd (cc)
      mapped (x ∷ names) zero at = let same : x ≡ name = cc in ap (λ (n : List ℕ). Some (named n)) same
      mapped (x ∷ names) (suc k) at = mapped names k at

  -- and each of them by its own, after those of the words
  pub fed_found : FoundFrom net (length (word_names words)) fed
  fed_found i name got =
      let P : ℕ → Type 0 = λ m. FoundFrom net m fed in
      subst P (omega arith) (found_back net 0 (word_names words) fed outer_found) i name got

  -- names are plain
  pub made_plain : HasPlainNames net
  made_plain n label got =
      let P : LabelValue → Type 0 = λ l. (l.named ≡ true) × IsPlainName l.text in
      elim (label_is (outer_names words fed) (prefix_of (outer_names words fed)) (plan.next - length (outer_names words fed)) (are_names (outer_names words fed) are) (prefix_fits (outer_names words fed) are) few n label got) [
        | inl w ↦ subst P (sym w.2) (refl, (are.each w.0 (n, w.1)).plain)
        | inr w ↦ subst P (sym w.3) (refl, plain_append (prefix_of (outer_names words fed)) (decimal w.0) (prefix_plain (suc (most_leading (outer_names words fed)))) (decimal_plain w.0))
      ]

  -- the words bind to their nets, and feeds that bind to theirs
  pub made_binds : (feeds : List FeedText) (bound : List Feed) → AreHeld words latches → FeedsOf net (numbered 0 words) [] feeds (Ok bound) → ((n : ℕ) → Has (range_with_len (length (word_names words)) (length fed)) n → is_fed bound n ≡ true) → BindingOf net words feeds (Ok (binding_of net words bound))
  made_binds feeds bound held feeding each =
      words_bind net words feeds bound (found_front net 0 (word_names words) fed outer_found) (λ n has. Has_left (role_nets Input 0 words) (range_with_len (length (word_names words)) (length fed)) n has) held feeding
      (λ n has. elim (Has_cases (role_nets Input 0 words) (range_with_len (length (word_names words)) (length fed)) n has) [ inl w ↦ inl w | inr w ↦ inr (each n w) ])
