-- Some wiring or some fault comes of a top whose instances have words with one output word each.
use Rattle.std.proofs.Common.{◌≡◌, ◌≢◌, ◌⊎◌, ◌∙◌, ap, sym, refl, subst, inl, inr, ℕ, zero, suc, ◌+◌, ◌<◌, ◌≤◌, Bool, true, false, List, [], ◌∷◌, ◌++◌, length, take, Option, None, Some, Ok, Err, arith}
use Rattle.std.specs.Prelude.{slice_get}
use Rattle.std.proofs.lemmas.List.{take_all}
use Rattle.lists.specs.Lists.{Has}
use Rattle.lists.specs.laws.HasLaws.{none_at}
use Rattle.lists.specs.laws.ReadLaws.{get_below}
use Rattle.net_blif.specs.Statement.{Token}
use Rattle.net_words.specs.Roles.{same_role}
use Rattle.net_words.specs.declared.word.Role.TheVariants.{Output}
use Rattle.net_words.proofs.SharedLemmas.{is_role, not_role}
use Rattle.compose_model.specs.Hierarchy.{Hierarchy}
use Rattle.compose_model.specs.NamedWord.{outputs_among, NamedWord}
use Rattle.compose_model.specs.declared.feeder.Feeder.{Feeder}
use Rattle.compose_wiring.specs.private.Names.{actuals_by}
use Rattle.compose_wiring.specs.private.Plain.{candidates_of, AreFedBefore, AreRows, CandidateValue, HaveOutputs, IsFedMore, IsFirstOn, IsOutputFeed, IsRefusedBy, IsRefusedFirst, IsRefusedInOrder, PlacedValue}
use Rattle.compose_wiring.specs.private.Words.{is_mixed}
use Rattle.compose_wiring.specs.declared.fault.WiringFault.TheVariants.{NotWords, OutputNotWords}
use Rattle.compose_wiring.proofs.PlainLemmas.{ArePlain}
use Rattle.compose_wiring.proofs.RowLemmas.{good_output, loose_output, mixed_output, row_more, row_refused, rows_accepted, rows_more, rows_refused}
use Rattle.compose_wiring.proofs.WiringLemmas.{only_left, plain_fault, plainly_wired}
use Rattle.compose_wiring.proofs.WordsLemmas.{output_is}
use Rattle.block_compose.specs.Composed.{WiringOf}
use Rattle.reader_laws.proofs.DecidedLemmas.{both_decided, bytes_decided, tokens_decided}
use Rattle.job_laws.specs.HasOutcome.{HasOutcome}

-- ---- the first candidate

abbrev candidate : Feeder → List Token → List ℕ → CandidateValue
candidate feed nets basis = record { feed = feed; nets = nets; basis = basis }

module _ (nets : List Token) (basis : List ℕ) where
  abbrev Found : List CandidateValue → Type 0
  Found cs = ((feed : Feeder) × IsFirstOn cs nets basis feed) ⊎ ((feed : Feeder) → Has cs (candidate feed nets basis) → ⊥)

  differs : (c : CandidateValue) (feed : Feeder) → ((c.nets ≡ nets) × (c.basis ≡ basis) → ⊥) → c ≡ candidate feed nets basis → ⊥
  differs c feed other same = other (ap (λ (d : CandidateValue). d.nets) same, ap (λ (d : CandidateValue). d.basis) same)

  later : (c : CandidateValue) (cs : List CandidateValue) → ((c.nets ≡ nets) × (c.basis ≡ basis) → ⊥) → Found cs → Found (c ∷ cs)
  later c cs other (inl (feed, first)) = inl (feed, record { place = suc first.place; at = first.at; before = before })
    where
      before : (q : ℕ) (another : Feeder) → q < suc first.place → slice_get (c ∷ cs) q ≡ Some (candidate another nets basis) → ⊥
      before zero another less at = let same : c ≡ candidate another nets basis = cc in differs c another other same
      before (suc q) another less at = first.before q another (omega (arith, less)) at
  later c cs other (inr none) = inr never
    where
      never : (feed : Feeder) → Has (c ∷ cs) (candidate feed nets basis) → ⊥
      never feed (zero, at) = let same : c ≡ candidate feed nets basis = cc in differs c feed other same
      never feed (suc q, at) = none feed (q, at)

  first_on : (cs : List CandidateValue) → Found cs
  first_on [] = inr (λ feed has. none_at (candidate feed nets basis) has)
  first_on (c ∷ cs) =
      elim (both_decided (tokens_decided c.nets nets) (bytes_decided c.basis basis)) [
        | inl same ↦ inl (c.feed, record { place = 0; at = λ i. Some (candidate c.feed (same.0 i) (same.1 i)); before = λ q other less at. absurd (omega (arith, less)) })
        | inr other ↦ later c cs other (first_on cs)
      ]

-- ---- the words of an instance

module _ (cs : List CandidateValue) (placed : PlacedValue) (one : length (outputs_among placed.words) ≡ 1) where
  -- a word is refused, or fed
  abbrev Comes : NamedWord → Type 0
  Comes word = IsRefusedBy cs placed word ⊎ ((old : List Feeder) → (new : List Feeder) × IsFedMore cs placed word old new)

  output_comes : (word : NamedWord) → word.role ≡ Output → outputs_among placed.words ≡ word ∷ [] → (nets : Option (List Token)) → actuals_by placed.connections word.nets ≡ nets → (b : Bool) → is_mixed placed.words ≡ b → Comes word
  output_comes word role only None loose b mixed = inl (inl (role, loose_output placed word loose))
  output_comes word role only (Some nets) tied true mixed = inl (inl (role, mixed_output placed word only mixed))
  output_comes word role only (Some nets) tied false mixed = inr (λ old. (old, inl (role, good_output placed word nets only mixed tied, refl)))

  no_nets : (word : NamedWord) (nets : List Token) → actuals_by placed.connections word.nets ≡ None → actuals_by placed.connections word.nets ≡ Some nets → ⊥
  no_nets word nets loose tied = let bad : ◌≡◌ {A = Option (List Token)} None (Some nets) = sym loose ∙ tied in absurd (cc)

  one_nets : (word : NamedWord) (a b : List Token) → actuals_by placed.connections word.nets ≡ Some a → actuals_by placed.connections word.nets ≡ Some b → a ≡ b
  one_nets word a b first second = let both : ◌≡◌ {A = Option (List Token)} (Some a) (Some b) = sym first ∙ second in cc

  input_comes : (word : NamedWord) → word.role ≢ Output → (nets : Option (List Token)) → actuals_by placed.connections word.nets ≡ nets → Comes word
  input_comes word role None loose = inl (inr (role, λ feed found. no_nets word found.nets loose found.actuals))
  input_comes word role (Some nets) tied =
      elim (first_on nets word.basis cs) [
        | inl found ↦ inr (λ old. (old ++ found.0 ∷ [], inr (role, (found.0, record { nets = nets; actuals = tied; first = found.1 }, refl))))
        | inr none ↦ inl (inr (role, λ feed found. let P : List Token → Type 0 = λ ns. Has cs (candidate feed ns word.basis) in none feed (subst P (one_nets word found.nets nets found.actuals tied) found.has)))
      ]

  word_comes : (w : ℕ) (word : NamedWord) → slice_get placed.words w ≡ Some word → Comes word
  word_comes w word at =
      elim (same_role word.role Output) as (λ b. same_role word.role Output ≡ b → Comes word) [
        | true ↦ λ is. output_comes word (is_role word.role is) (output_is placed.words w word one at is) (actuals_by placed.connections word.nets) refl (is_mixed placed.words) refl
        | false ↦ λ is. input_comes word (not_role word.role is) (actuals_by placed.connections word.nets) refl
      ] refl

  -- the feeds of the first words, or the first word that is refused
  abbrev RowTo : ℕ → Type 0
  RowTo w = ((row : List Feeder) × AreFedBefore cs placed w row) ⊎ ((v : ℕ) × IsRefusedFirst cs placed v)

  row_after : (w : ℕ) (word : NamedWord) (row : List Feeder) → slice_get placed.words w ≡ Some word → AreFedBefore cs placed w row → Comes word → RowTo (suc w)
  row_after w word row at before (inl refused) = inr (w, row_refused cs placed w word row at before refused)
  row_after w word row at before (inr fed) =
      let new = fed row in
      let next : w + 1 ≡ suc w = omega arith in
      let P : ℕ → Type 0 = λ n. AreFedBefore cs placed n new.0 in
      inl (new.0, subst P next (row_more cs placed w word row new.0 at before new.1))

  row_to : (w : ℕ) → w ≤ length placed.words → RowTo w
  row_to zero within = inl ([], record { long = refl; each = λ j word feed at got. absurd (none_at feed (j, got)); accepted = λ v word less. absurd (omega (arith, less)) })
  row_to (suc w) within =
      elim (row_to w (omega (arith, within))) [
        | inl row ↦ (let word = get_below placed.words w (omega (arith, within)) in row_after w word.0 row.0 word.1 row.1 (word_comes w word.0 word.1))
        | inr first ↦ inr first
      ]

-- ---- all instances

module _ (cs : List CandidateValue) (placed : List PlacedValue) (outputs : HaveOutputs placed) where
  abbrev RowsTo : ℕ → Type 0
  RowsTo i = ((rows : List (List Feeder)) × AreRows cs (take i placed) rows) ⊎ ((j : ℕ) × (w : ℕ) × IsRefusedInOrder cs placed j w)

  rows_after : (i : ℕ) (instance : PlacedValue) (rows : List (List Feeder)) (at : slice_get placed i ≡ Some instance) → AreRows cs (take i placed) rows → RowTo cs instance (outputs i instance at) (length instance.words) → RowsTo (suc i)
  rows_after i instance rows at before (inl (row, is)) =
      let next : i + 1 ≡ suc i = omega arith in
      let P : ℕ → Type 0 = λ n. AreRows cs (take n placed) (rows ++ row ∷ []) in
      inl (rows ++ row ∷ [], subst P next (rows_more cs placed i instance row rows (rows ++ row ∷ []) at before is refl))
  rows_after i instance rows at before (inr (w, first)) = inr (i, w, rows_refused cs placed i w instance rows at before first)

  rows_to : (i : ℕ) → i ≤ length placed → RowsTo i
  rows_to zero within = inl ([], record { long = refl; each = λ i instance row at got. absurd (none_at row (i, got)) })
  rows_to (suc i) within =
      elim (rows_to i (omega (arith, within))) [
        | inl rows ↦ (
            let instance = get_below placed i (omega (arith, within)) in
            rows_after i instance.0 rows.0 instance.1 rows.1 (row_to cs instance.0 (outputs i instance.0 instance.1) (length instance.0.words) (omega arith))
            )
        | inr first ↦ inr first
      ]

  all_rows : ((rows : List (List Feeder)) × AreRows cs placed rows) ⊎ ((j : ℕ) × (w : ℕ) × IsRefusedInOrder cs placed j w)
  all_rows =
      elim (rows_to (length placed) (omega arith)) [
        | inl rows ↦ (let P : List PlacedValue → Type 0 = λ ps. AreRows cs ps rows.0 in inl (rows.0, subst P (take_all (length placed) placed (omega arith)) rows.1))
        | inr first ↦ inr first
      ]

-- ---- the whole

module _ (h : Hierarchy) (top : List NamedWord) (placed : List PlacedValue) (are : ArePlain h top placed) (outputs : HaveOutputs placed) (one : length (outputs_among top) ≡ 1) where
  abbrev cs : List CandidateValue
  cs = candidates_of top placed

  output_after : (rows : List (List Feeder)) → AreRows cs placed rows → (word : NamedWord) → outputs_among top ≡ word ∷ [] → Found word.nets word.basis cs → HasOutcome (WiringOf h)
  output_after rows rows_are word only (inl (feed, first)) = (Ok (rows, feed), plainly_wired h top placed are rows feed outputs (record { rows_are = rows_are; output_is = record { word = word; one = only; first = first } }))
  output_after rows rows_are word only (inr none) = (Err OutputNotWords, plain_fault h top placed are OutputNotWords (rows_accepted cs placed rows rows_are, never))
    where
      never : (feed : Feeder) → IsOutputFeed cs top feed → ⊥
      never feed is =
          let mine : outputs_among top ≡ word ∷ [] = only in
          let theirs : outputs_among top ≡ is.word ∷ [] = is.one in
          let same : is.word ≡ word = cc in
          let P : NamedWord → Type 0 = λ w. Has cs (candidate feed w.nets w.basis) in
          none feed (subst P same is.has)

  pub some_wiring : HasOutcome (WiringOf h)
  some_wiring =
      elim (all_rows cs placed outputs) [
        | inl rows ↦ (let word = only_left top one in output_after rows.0 rows.1 word.0 word.1 (first_on word.0.nets word.0.basis cs))
        | inr first ↦ (Err (NotWords (first.0 + 1) first.1), plain_fault h top placed are (NotWords (first.0 + 1) first.1) (first.0, refl, first.2))
      ]
