-- A top has one answer.
use Rattle.std.proofs.Common.{◌≡◌, ◌≢◌, ◌∙◌, ap, sym, refl, subst, ℕ, ◌<◌, ◌≤◌, ◌+◌, ◌⊎◌, inl, inr, List, length, Some, arith}
use Rattle.std.specs.Prelude.{slice_get}
use Rattle.std.proofs.lemmas.Option.{slice_get_within}
use Rattle.std.proofs.lemmas.Bool.{cases_lt}
use Rattle.lists.specs.laws.ReadLaws.{same_lists, get_below}
use Rattle.compose_model.proofs.OutputLemmas.{same_words}
use Rattle.net_core.specs.Order.{IsBefore}
use Rattle.net_blif.specs.declared.item.Item.{Item}
use Rattle.compose_model.specs.Feeds.{AreFeedsOf, FitsWord}
use Rattle.compose_model.specs.Hierarchy.{Hierarchy}
use Rattle.compose_model.specs.NamedWord.{inputs_among}
use Rattle.compose_model.specs.declared.feeder.Feeder.{Feeder}
use Rattle.compose_wiring.specs.Answer.{AreWired, IsEarlierFeed, IsFirstFit}
use Rattle.compose_wiring.specs.Refusal.{IsFirstRefused, IsWiringFault}
use Rattle.compose_wiring.specs.declared.fault.WiringFault.{WiringFault}
use Rattle.compose_wiring.specs.declared.fault.WiringFault.TheVariants.{NotWords, OutputNotWords, OutOfMemory}
use Rattle.compose_wiring.proofs.FirstLemmas.{feeds_in_order}

-- one of two places is before the other, or they are the same
in_order : (i w j v : ℕ) → IsBefore i w j v ⊎ (IsBefore j v i w ⊎ ((i ≡ j) × (w ≡ v)))
in_order i w j v = parts (cases_lt i j) (cases_lt j i) (cases_lt w v) (cases_lt v w)
  where
    parts : (i < j) ⊎ (j ≤ i) → (j < i) ⊎ (i ≤ j) → (w < v) ⊎ (v ≤ w) → (v < w) ⊎ (w ≤ v) → IsBefore i w j v ⊎ (IsBefore j v i w ⊎ ((i ≡ j) × (w ≡ v)))
    parts (inl a) b c d = inl (inl a)
    parts (inr a) (inl b) c d = inr (inl (inl b))
    parts (inr a) (inr b) (inl c) d = inl (inr (omega (arith, a, b), c))
    parts (inr a) (inr b) (inr c) (inl d) = inr (inl (inr (omega (arith, a, b), d)))
    parts (inr a) (inr b) (inr c) (inr d) = inr (inr (omega (arith, a, b), omega (arith, c, d)))

same_place : (h : Hierarchy) (i w j v : ℕ) → IsFirstRefused h i w → IsFirstRefused h j v → (i ≡ j) × (w ≡ v)
same_place h i w j v a b = cases (in_order i w j v)
  where
    cases : IsBefore i w j v ⊎ (IsBefore j v i w ⊎ ((i ≡ j) × (w ≡ v))) → (i ≡ j) × (w ≡ v)
    cases (inl early) = absurd (b.before i w early a.here)
    cases (inr (inl late)) = absurd (a.before j v late b.here)
    cases (inr (inr same)) = same

pub one_refusal : (h : Hierarchy) (a b : WiringFault) → IsWiringFault h a → IsWiringFault h b → a ≢ OutOfMemory → b ≢ OutOfMemory → a ≡ b
one_refusal h (NotWords n w) (NotWords m v) a b some other =
    let same = same_place h a.0 w b.0 v a.2 b.2 in
    let number : n ≡ m = a.1 ∙ ap (λ i. i + 1) same.0 ∙ sym b.1 in
    λ i. NotWords (number i) (same.1 i)
one_refusal h (NotWords n w) OutputNotWords a b some other = absurd (b.0 a.0 w a.2.here)
one_refusal h OutputNotWords (NotWords m v) a b some other = absurd (a.0 b.0 v b.2.here)
one_refusal h OutputNotWords OutputNotWords a b some other = refl
one_refusal h OutOfMemory b is_a is_b some other = absurd (some refl)
one_refusal h (NotWords n w) OutOfMemory a b some other = absurd (other refl)
one_refusal h OutputNotWords OutOfMemory a b some other = absurd (other refl)

pub wired_apart : (h : Hierarchy) (rows : List (List Feeder)) (output : Feeder) (fault : WiringFault) → AreWired h rows output → IsWiringFault h fault → fault ≡ OutOfMemory
wired_apart h rows output (NotWords n w) wired is = absurd (wired.accepted is.0 w is.2.here)
wired_apart h rows output OutputNotWords wired is = absurd (is.1 output wired.feeds_output)
wired_apart h rows output OutOfMemory wired is = refl

-- ---- a top is wired in one way

-- of two feeds of which neither is earlier each is the other
same_feed : (f g : Feeder) → (IsEarlierFeed f g → ⊥) → (IsEarlierFeed g f → ⊥) → f ≡ g
same_feed f g not_before not_after = cases (feeds_in_order f g)
  where
    cases : IsEarlierFeed f g ⊎ (IsEarlierFeed g f ⊎ (f ≡ g)) → f ≡ g
    cases (inl before) = absurd (not_before before)
    cases (inr (inl after)) = absurd (not_after after)
    cases (inr (inr same)) = same

module _ (h : Hierarchy) (rows more : List (List Feeder)) (output other : Feeder) (one : AreWired h rows output) (two : AreWired h more other) where
  same_row : (i : ℕ) (row next : List Feeder) → slice_get rows i ≡ Some row → slice_get more i ≡ Some next → row ≡ next
  same_row i row next at there = same_lists row next (first.long ∙ ap (λ ws. length (inputs_among ws)) same.1 ∙ sym second.long) each
    where
      first : AreFeedsOf h i row
      first = one.feeds.each i row at

      second : AreFeedsOf h i next
      second = two.feeds.each i next there

      same : (first.item ≡ second.item) × (first.words ≡ second.words)
      same = same_words h i first.item second.item first.words second.words first.instance second.instance

      -- the feeds of one word
      each : (j : ℕ) (f g : Feeder) → slice_get row j ≡ Some f → slice_get next j ≡ Some g → f ≡ g
      each j f g at_f at_g =
          let word = get_below (inputs_among first.words) j (omega (arith, first.long, slice_get_within row j f at_f)) in
          let here : slice_get (inputs_among second.words) j ≡ Some word.0 = sym (ap (λ ws. slice_get (inputs_among ws) j) same.1) ∙ word.1 in
          let P : Item → Type 0 = λ item. FitsWord h item word.0 g in
          let Q : Item → Type 0 = λ item. IsFirstFit h item word.0 g in
          let fits_f : FitsWord h first.item word.0 f = first.each j word.0 f word.1 at_f in
          let fits_g : FitsWord h first.item word.0 g = subst P (sym same.0) (second.each j word.0 g here at_g) in
          let first_f : IsFirstFit h first.item word.0 f = one.first i row first.item first.words at first.instance j word.0 f word.1 at_f in
          let first_g : IsFirstFit h first.item word.0 g = subst Q (sym same.0) (two.first i next second.item second.words there second.instance j word.0 g here at_g) in
          same_feed f g (λ before. first_g f before fits_f) (λ after. first_f g after fits_g)

  pub one_wiring : (rows ≡ more) × (output ≡ other)
  one_wiring = (
    same_lists rows more (one.feeds.long ∙ sym two.feeds.long) same_row,
    same_feed output other (λ before. two.first_output output before one.feeds_output) (λ after. one.first_output other after two.feeds_output),
  )
