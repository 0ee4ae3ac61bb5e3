-- Rows of feeds, word by word and instance by instance.
use Rattle.std.proofs.Common.{◌≡◌, ◌≢◌, ◌∙◌, ap, sym, refl, subst, ℕ, ◌<◌, ◌≤◌, ◌+◌, true, false, ◌⊎◌, inl, inr, not, if◌then◌else◌, List, [], ◌∷◌, ◌++◌, length, take, None, Some, arith, append-nil}
use Rattle.std.specs.Prelude.{slice_get}
use Rattle.std.proofs.lemmas.Option.{slice_get_within}
use Rattle.std.proofs.lemmas.Bool.{cases_lt}
use Rattle.lists.specs.Lists.{Has}
use Rattle.lists.specs.laws.ListLaws.{length-push}
use Rattle.lists.specs.laws.ReadLaws.{get_below, got_push}
use Rattle.lists.specs.laws.TakeLaws.{taken_more}
use Rattle.net_words.specs.Roles.{same_role}
use Rattle.net_words.specs.declared.word.Role.{Role}
use Rattle.net_words.specs.declared.word.Role.TheVariants.{Input, State, Fed, Output}
use Rattle.net_blif.specs.Statement.{Token}
use Rattle.compose_model.specs.NamedWord.{inputs_among, outputs_among, NamedWord}
use Rattle.compose_model.specs.declared.feeder.Feeder.{Feeder}
use Rattle.compose_wiring.specs.private.Names.{actual_by, actuals_by}
use Rattle.compose_wiring.specs.private.Plain.{AreFedBefore, AreRows, CandidateValue, IsBadOutput, IsFedMore, IsFirstFor, IsFoundFor, IsRefusedBy, IsRefusedFirst, IsRefusedInOrder, IsRow, PlacedValue}
use Rattle.compose_wiring.specs.private.Words.{is_mixed}
use Rattle.compose_wiring.proofs.ListLemmas.{got_taken}
use Rattle.compose_wiring.proofs.NamesLemmas.{all_connected, unconnected}
use Rattle.compose_wiring.proofs.WordsLemmas.{bit_mixed, inputs_more, mixed_bit}

-- ---- the output word

-- all bits are connected, and none is an input
pub good_output : (placed : PlacedValue) (word : NamedWord) (nets : List Token) → outputs_among placed.words ≡ word ∷ [] → is_mixed placed.words ≡ false → actuals_by placed.connections word.nets ≡ Some nets → IsBadOutput placed word → ⊥
good_output placed word nets one apart connected bad = cases bad.because
  where
    cases : (actual_by placed.connections bad.net ≡ None) ⊎ ((other : NamedWord) × Has (inputs_among placed.words) other × Has other.nets bad.net) → ⊥
    cases (inl none) = all_connected placed.connections word.nets nets connected bad.net bad.bit none
    cases (inr input) = let both : true ≡ false = sym (bit_mixed placed.words word one bad.net bad.bit input.0 input.1 input.2) ∙ apart in absurd (cc)

pub mixed_output : (placed : PlacedValue) (word : NamedWord) → outputs_among placed.words ≡ word ∷ [] → is_mixed placed.words ≡ true → IsBadOutput placed word
mixed_output placed word one mixed = let found = mixed_bit placed.words word one mixed in record { net = found.0; bit = found.1; because = inr found.2 }

pub loose_output : (placed : PlacedValue) (word : NamedWord) → actuals_by placed.connections word.nets ≡ None → IsBadOutput placed word
loose_output placed word none = let found = unconnected placed.connections word.nets none in record { net = found.formal; bit = (found.place, found.at); because = inl found.none }

-- ---- one word

inputs_of_output : (word : NamedWord) → word.role ≡ Output → inputs_among (word ∷ []) ≡ []
inputs_of_output word is = ap (λ (r : Role). (if not (same_role r Output) then word ∷ [] else [])) is

inputs_of_other : (word : NamedWord) → word.role ≢ Output → inputs_among (word ∷ []) ≡ word ∷ []
inputs_of_other word other = by_role word.role refl
  where
    by_role : (r : Role) → word.role ≡ r → inputs_among (word ∷ []) ≡ word ∷ []
    by_role Input is = ap (λ (r : Role). (if not (same_role r Output) then word ∷ [] else [])) is
    by_role State is = ap (λ (r : Role). (if not (same_role r Output) then word ∷ [] else [])) is
    by_role Fed is = ap (λ (r : Role). (if not (same_role r Output) then word ∷ [] else [])) is
    by_role Output is = absurd (other is)

module _ (cs : List CandidateValue) (placed : PlacedValue) where
  -- what is found first is found
  pub first_found : (word : NamedWord) (feed : Feeder) → IsFirstFor cs placed word feed → IsFoundFor cs placed word feed
  first_found word feed is = record { nets = is.nets; actuals = is.actuals; has = (is.first.place, is.first.at) }

  -- a word that is fed is not refused
  pub fed_accepted : (word : NamedWord) (old new : List Feeder) → IsFedMore cs placed word old new → IsRefusedBy cs placed word → ⊥
  fed_accepted word old new (inl fed) (inl refused) = fed.1 refused.1
  fed_accepted word old new (inl fed) (inr refused) = refused.0 fed.0
  fed_accepted word old new (inr fed) (inl refused) = fed.0 refused.0
  fed_accepted word old new (inr fed) (inr refused) = let found = fed.1 in refused.1 found.0 (first_found word found.0 found.1)

  accepted_more : (w : ℕ) (word : NamedWord) (row new : List Feeder) → slice_get placed.words w ≡ Some word → AreFedBefore cs placed w row → IsFedMore cs placed word row new
      → (v : ℕ) (other : NamedWord) → v < w + 1 → slice_get placed.words v ≡ Some other → IsRefusedBy cs placed other → ⊥
  accepted_more w word row new at before fed v other less got refused = cases (cases_lt v w)
    where
      cases : (v < w) ⊎ (w ≤ v) → ⊥
      cases (inl early) = before.accepted v other early got refused
      cases (inr late) =
          let same_place : v ≡ w = omega (arith, late, less) in
          let P : ℕ → Type 0 = λ m. slice_get placed.words m ≡ Some other in
          let here : slice_get placed.words w ≡ Some other = subst P same_place got in
          let same : other ≡ word = cc in
          let Q : NamedWord → Type 0 = λ x. IsRefusedBy cs placed x in
          fed_accepted word row new fed (subst Q same refused)

  -- one word more
  pub row_more : (w : ℕ) (word : NamedWord) (row new : List Feeder) → slice_get placed.words w ≡ Some word → AreFedBefore cs placed w row → IsFedMore cs placed word row new → AreFedBefore cs placed (w + 1) new
  row_more w word row new at before (inl fed) =
      let P : List NamedWord → List Feeder → Type 0 = λ ws fs. (length fs ≡ length ws) × ((j : ℕ) (x : NamedWord) (feed : Feeder) → slice_get ws j ≡ Some x → slice_get fs j ≡ Some feed → IsFirstFor cs placed x feed) in
      let words_are : inputs_among (take (w + 1) placed.words) ≡ inputs_among (take w placed.words) = inputs_more placed.words w word at ∙ ap (λ ws. inputs_among (take w placed.words) ++ ws) (inputs_of_output word fed.0) ∙ append-nil (inputs_among (take w placed.words)) in
      let Q : List Feeder → Type 0 = P (inputs_among (take w placed.words)) in
      let R : List NamedWord → Type 0 = λ ws. P ws new in
      let all : P (inputs_among (take (w + 1) placed.words)) new = subst R (sym words_are) (subst Q (sym fed.2) (before.long, before.each)) in
      record { long = all.0; each = all.1; accepted = accepted_more w word row new at before (inl fed) }
  row_more w word row new at before (inr fed) =
      let found = fed.1 in
      let words_are : inputs_among (take (w + 1) placed.words) ≡ inputs_among (take w placed.words) ++ word ∷ [] = inputs_more placed.words w word at ∙ ap (λ ws. inputs_among (take w placed.words) ++ ws) (inputs_of_other word fed.0) in
      let P : List NamedWord → List Feeder → Type 0 = λ ws fs. (length fs ≡ length ws) × ((j : ℕ) (x : NamedWord) (feed : Feeder) → slice_get ws j ≡ Some x → slice_get fs j ≡ Some feed → IsFirstFor cs placed x feed) in
      let Q : List Feeder → Type 0 = P (inputs_among (take w placed.words) ++ word ∷ []) in
      let R : List NamedWord → Type 0 = λ ws. P ws new in
      let all : P (inputs_among (take (w + 1) placed.words)) new = subst R (sym words_are) (subst Q (sym found.2) (long (inputs_among (take w placed.words)) before.long, each (inputs_among (take w placed.words)) before.long before.each found.0 found.1)) in
      record { long = all.0; each = all.1; accepted = accepted_more w word row new at before (inr fed) }
    where
      long : (ws : List NamedWord) → length row ≡ length ws → (length (row ++ (fed.1).0 ∷ []) ≡ length (ws ++ word ∷ []))
      long ws is = length-push row (fed.1).0 ∙ ap (λ n. n + 1) is ∙ sym (length-push ws word)

      each : (ws : List NamedWord) → length row ≡ length ws → ((j : ℕ) (x : NamedWord) (feed : Feeder) → slice_get ws j ≡ Some x → slice_get row j ≡ Some feed → IsFirstFor cs placed x feed)
          → (last : Feeder) → IsFirstFor cs placed word last
          → (j : ℕ) (x : NamedWord) (feed : Feeder) → slice_get (ws ++ word ∷ []) j ≡ Some x → slice_get (row ++ last ∷ []) j ≡ Some feed → IsFirstFor cs placed x feed
      each ws is old last new_found j x feed at_j got = cases (got_push ws word j x at_j) (got_push row last j feed got)
        where
          cases : ((slice_get ws j ≡ Some x) × (j < length ws)) ⊎ ((j ≡ length ws) × (x ≡ word)) → ((slice_get row j ≡ Some feed) × (j < length row)) ⊎ ((j ≡ length row) × (feed ≡ last)) → IsFirstFor cs placed x feed
          cases (inl a) (inl b) = old j x feed a.0 b.0
          cases (inl a) (inr b) = absurd (omega (arith, a.1, b.0, is))
          cases (inr a) (inl b) = absurd (omega (arith, a.0, b.1, is))
          cases (inr a) (inr b) =
              let S : Feeder → Type 0 = λ f. IsFirstFor cs placed word f in
              let T : NamedWord → Type 0 = λ y. IsFirstFor cs placed y feed in
              subst T (sym a.1) (subst S (sym b.1) new_found)

  -- the first word that is refused
  pub row_refused : (w : ℕ) (word : NamedWord) (row : List Feeder) → slice_get placed.words w ≡ Some word → AreFedBefore cs placed w row → IsRefusedBy cs placed word → IsRefusedFirst cs placed w
  row_refused w word row at before refused = record { word = word; at = at; refused = refused; before = before.accepted }

  -- in a row no word is refused
  pub row_accepted : (row : List Feeder) → IsRow cs placed row → (v : ℕ) (word : NamedWord) → slice_get placed.words v ≡ Some word → IsRefusedBy cs placed word → ⊥
  row_accepted row is v word at refused = is.accepted v word (slice_get_within placed.words v word at) at refused

-- ---- all instances

module _ (cs : List CandidateValue) where
  -- the rows of the first i instances
  abbrev pub AreRowsBefore : List PlacedValue → ℕ → List (List Feeder) → Type 0
  AreRowsBefore placed i rows = AreRows cs (take i placed) rows

  pub rows_more : (placed : List PlacedValue) (i : ℕ) (instance : PlacedValue) (row : List Feeder) (rows new : List (List Feeder)) → slice_get placed i ≡ Some instance → AreRowsBefore placed i rows → IsRow cs instance row → new ≡ rows ++ row ∷ [] → AreRowsBefore placed (i + 1) new
  rows_more placed i instance row rows new at before is made =
      let P : List PlacedValue → Type 0 = λ ps. AreRows cs ps new in
      let Q : List (List Feeder) → Type 0 = λ rs. AreRows cs (take i placed ++ instance ∷ []) rs in
      subst P (sym (taken_more placed i instance at)) (subst Q (sym made) (record { long = length-push rows row ∙ ap (λ n. n + 1) before.long ∙ sym (length-push (take i placed) instance); each = each (take i placed) before }))
    where
      each : (ps : List PlacedValue) → AreRows cs ps rows → (j : ℕ) (other : PlacedValue) (feeds : List Feeder) → slice_get (ps ++ instance ∷ []) j ≡ Some other → slice_get (rows ++ row ∷ []) j ≡ Some feeds → IsRow cs other feeds
      each ps old j other feeds at_j got = cases (got_push ps instance j other at_j) (got_push rows row j feeds got)
        where
          cases : ((slice_get ps j ≡ Some other) × (j < length ps)) ⊎ ((j ≡ length ps) × (other ≡ instance)) → ((slice_get rows j ≡ Some feeds) × (j < length rows)) ⊎ ((j ≡ length rows) × (feeds ≡ row)) → IsRow cs other feeds
          cases (inl a) (inl b) = old.each j other feeds a.0 b.0
          cases (inl a) (inr b) = absurd (omega (arith, a.1, b.0, old.long))
          cases (inr a) (inl b) = absurd (omega (arith, a.0, b.1, old.long))
          cases (inr a) (inr b) =
              let S : List Feeder → Type 0 = λ fs. IsRow cs instance fs in
              let T : PlacedValue → Type 0 = λ p. IsRow cs p feeds in
              subst T (sym a.1) (subst S (sym b.1) is)

  -- no word of an instance with a row is refused
  pub rows_accepted : (placed : List PlacedValue) (rows : List (List Feeder)) → AreRows cs placed rows → (j : ℕ) (other : PlacedValue) → slice_get placed j ≡ Some other → (v : ℕ) (word : NamedWord) → slice_get other.words v ≡ Some word → IsRefusedBy cs other word → ⊥
  rows_accepted placed rows are j other at v word got refused =
      let row = get_below rows j (omega (arith, are.long, slice_get_within placed j other at)) in
      row_accepted cs other row.0 (are.each j other row.0 at row.1) v word got refused

  pub rows_refused : (placed : List PlacedValue) (i w : ℕ) (instance : PlacedValue) (rows : List (List Feeder)) → slice_get placed i ≡ Some instance → AreRowsBefore placed i rows → IsRefusedFirst cs instance w → IsRefusedInOrder cs placed i w
  rows_refused placed i w instance rows at before first =
      record { instance = instance; at = at; first = first; before = λ j other less got v word at_v refused. rows_accepted (take i placed) rows before j other (got_taken placed i j other less got) v word at_v refused }
