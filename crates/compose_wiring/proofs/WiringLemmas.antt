-- A wired top.
use Rattle.std.proofs.Common.{◌≡◌, ◌∙◌, ap, sym, refl, subst, ℕ, zero, suc, ◌<◌, Bool, true, false, inl, inr, if◌then◌else◌, List, [], ◌∷◌, length, take, Option, None, Some, arith, take_all}
use Rattle.std.specs.Prelude.{slice_get}
use Rattle.std.proofs.lemmas.Option.{slice_get_within}
use Rattle.lists.specs.Lists.{Has}
use Rattle.lists.specs.laws.ReadLaws.{get_below}
use Rattle.net_core.specs.Order.{IsBefore}
use Rattle.net_words.specs.Roles.{same_role}
use Rattle.net_words.specs.declared.word.Role.TheVariants.{Output}
use Rattle.net_blif.specs.Statement.{Token}
use Rattle.net_blif.specs.Top.{connections_in, instances_of}
use Rattle.net_blif.specs.declared.item.Item.{Item}
use Rattle.compose_model.specs.Feeds.{AreFeedsOf, FitsWord, FeedsOutput, IsOutputOf, IsFeedOn}
use Rattle.compose_model.specs.Hierarchy.{top_words, Hierarchy, IsInstance}
use Rattle.compose_model.specs.NamedWord.{inputs_among, outputs_among, NamedWord}
use Rattle.compose_model.specs.declared.feeder.Feeder.{Feeder}
use Rattle.compose_model.specs.declared.feeder.Feeder.TheVariants.{InputWord, OutputOf}
use Rattle.compose_wiring.specs.Answer.{AreWired, IsEarlierFeed, IsFeedIn, IsFirstFit}
use Rattle.compose_wiring.specs.Refusal.{AreAllFed, IsFirstRefused, IsRefusedAt, IsRefusedWord, IsWiringFault}
use Rattle.compose_wiring.specs.declared.fault.WiringFault.{WiringFault}
use Rattle.compose_wiring.specs.declared.fault.WiringFault.TheVariants.{NotWords, OutputNotWords, OutOfMemory}
use Rattle.compose_wiring.specs.private.Names.{actuals_by}
use Rattle.compose_wiring.specs.private.Plain.{candidates_of, AreAccepted, ArePlainlyWired, CandidateValue, HaveOutputs, IsFirstFor, IsFirstOutput, IsFoundFor, IsOutputFeed, IsPlainFault, IsRefusedBy, IsRefusedInOrder, IsRow, PlacedValue}
use Rattle.compose_wiring.proofs.FirstLemmas.{none_earlier}
use Rattle.compose_wiring.proofs.NamesLemmas.{unconnected}
use Rattle.compose_wiring.proofs.PlainLemmas.{actuals_same, fits_found, found_fits, placed_at, refused_word, stands, stood, word_refused, ArePlain}
use Rattle.compose_wiring.proofs.RowLemmas.{first_found, rows_accepted}
use Rattle.net_words.proofs.SharedLemmas.{is_role}

-- ---- lists

-- the list of one that a test leaves has an element that passes it
pub only_left : (words : List NamedWord) → length (outputs_among words) ≡ 1 → (word : NamedWord) × (outputs_among words ≡ word ∷ [])
only_left words one = of_one (outputs_among words) one
  where
    of_one : (ws : List NamedWord) → length ws ≡ 1 → (word : NamedWord) × (ws ≡ word ∷ [])
    of_one [] e = absurd (omega (arith, e))
    of_one (w ∷ []) e = (w, refl)
    of_one (w ∷ v ∷ ws) e = absurd (omega (arith, e))

-- what is left stands in the list, and passes
pub left_passes : (words : List NamedWord) (word : NamedWord) → Has (outputs_among words) word → Has words word × (same_role word.role Output ≡ true)
left_passes [] word has = let got = has.1 in absurd (cc)
left_passes (w ∷ ws) word has = parts (same_role w.role Output) refl has (left_passes ws word)
  where
    later : Has ws word × (same_role word.role Output ≡ true) → Has (w ∷ ws) word × (same_role word.role Output ≡ true)
    later more = ((suc (more.0).0, (more.0).1), more.1)

    parts : (b : Bool) → same_role w.role Output ≡ b → Has (if b then w ∷ outputs_among ws else outputs_among ws) word → (Has (outputs_among ws) word → Has ws word × (same_role word.role Output ≡ true)) → Has (w ∷ ws) word × (same_role word.role Output ≡ true)
    parts true is (zero, got) given = let same : w ≡ word = cc in ((0, got), ap (λ (x : NamedWord). same_role x.role Output) (sym same) ∙ is)
    parts true is (suc k, got) given = later (given (k, got))
    parts false is more given = later (given more)

-- ---- a feed is one of the words or instances

pub stands_among : (h : Hierarchy) (feed : Feeder) (nets : List Token) (basis : List ℕ) → IsFeedOn h feed nets basis → IsFeedIn h feed
stands_among h (InputWord w) nets basis is = slice_get_within (inputs_among (top_words h)) w is.word is.at
stands_among h (OutputOf i) nets basis is = slice_get_within (instances_of h.design) i is.item is.instance.at

module _ (h : Hierarchy) (top : List NamedWord) (placed : List PlacedValue) (are : ArePlain h top placed) where
  abbrev cs : List CandidateValue
  cs = candidates_of top placed

  -- ---- refusals

  refused_at : (i w : ℕ) (instance : PlacedValue) (word : NamedWord) → slice_get placed i ≡ Some instance → slice_get instance.words w ≡ Some word → IsRefusedBy cs instance word → IsRefusedAt h i w
  refused_at i w instance word at here refused =
      let known = are.each i instance at in
      record { item = known.0; words = instance.words; instance = known.1; word = word; at = here; refused = refused_word h top placed are i instance known.0 known.2 word refused }

  record IsPlainlyRefused (i w : ℕ) : Type 0 where
    pub instance : PlacedValue
    pub at : slice_get placed i ≡ Some instance
    pub word : NamedWord
    pub here : slice_get instance.words w ≡ Some word
    pub refused : IsRefusedBy cs instance word

  at_refused : (i w : ℕ) → IsRefusedAt h i w → IsPlainlyRefused i w
  at_refused i w is =
      let found = placed_at h top placed are i is.item is.words is.instance in
      let P : List NamedWord → Type 0 = λ ws. IsRefusedWord h is.item ws is.word in
      record { instance = found.0; at = found.1; word = is.word; here = ap (λ ws. slice_get ws w) found.2 ∙ is.at; refused = word_refused h top placed are i found.0 is.item found.3 is.word (subst P (sym found.2) is.refused) }

  all_fed : AreAccepted cs placed → AreAllFed h
  all_fed accepted i w is = let p = at_refused i w is in accepted i p.instance p.at w p.word p.here p.refused

  first_refused : (i w : ℕ) → IsRefusedInOrder cs placed i w → IsFirstRefused h i w
  first_refused i w order = record { here = refused_at i w order.instance order.first.word order.at order.first.at order.first.refused; before = before }
    where
      before : (j v : ℕ) → IsBefore j v i w → IsRefusedAt h j v → ⊥
      before j v early is = cases early
        where
          p : IsPlainlyRefused j v
          p = at_refused j v is

          here : j ≡ i → v < w → ⊥
          here same less =
              let P : ℕ → Type 0 = λ m. slice_get placed m ≡ Some p.instance in
              let at_i : slice_get placed i ≡ Some p.instance = subst P same p.at in
              let known : slice_get placed i ≡ Some order.instance = order.at in
              let one : p.instance ≡ order.instance = cc in
              let Q : PlacedValue → Type 0 = λ x. slice_get x.words v ≡ Some p.word in
              let R : PlacedValue → Type 0 = λ x. IsRefusedBy cs x p.word in
              order.first.before v p.word less (subst Q one p.here) (subst R one p.refused)

          cases : IsBefore j v i w → ⊥
          cases (inl less) = order.before j p.instance less p.at v p.word p.here p.refused
          cases (inr same) = here same.0 same.1

  -- ---- the output word of the top

  output_stands : (feed : Feeder) → IsOutputFeed cs top feed → FeedsOutput h feed
  output_stands feed is =
      record { word = is.word; output = ap outputs_among (sym are.top_is) ∙ is.one; stands = stands h top placed are (record { feed = feed; nets = is.word.nets; basis = is.word.basis }) is.has }

  stands_output : (feed : Feeder) → FeedsOutput h feed → IsOutputFeed cs top feed
  stands_output feed is = record { word = is.word; one = ap outputs_among are.top_is ∙ is.output; has = stood h top placed are feed is.word.nets is.word.basis is.stands }

  -- ---- faults

  pub plain_fault : (fault : WiringFault) → IsPlainFault top placed fault → IsWiringFault h fault
  plain_fault (NotWords n w) is = (is.0, is.1, first_refused is.0 w is.2)
  plain_fault OutputNotWords is = (all_fed is.0, λ feed feeds. is.1 feed (stands_output feed feeds))
  plain_fault OutOfMemory is = tt

  -- ---- rows

  all_inputs : (instance : PlacedValue) → inputs_among (take (length instance.words) instance.words) ≡ inputs_among instance.words
  all_inputs instance = ap inputs_among (take_all (length instance.words) instance.words (omega arith))

  -- each input word of an instance has its feed in the row
  each_found : (instance : PlacedValue) (row : List Feeder) → IsRow cs instance row → (j : ℕ) (word : NamedWord) (feed : Feeder) → slice_get (inputs_among instance.words) j ≡ Some word → slice_get row j ≡ Some feed → IsFirstFor cs instance word feed
  each_found instance row is =
      let P : List NamedWord → Type 0 = λ ws. (j : ℕ) (word : NamedWord) (feed : Feeder) → slice_get ws j ≡ Some word → slice_get row j ≡ Some feed → IsFirstFor cs instance word feed in
      subst P (all_inputs instance) is.each

  row_feeds : (i : ℕ) (instance : PlacedValue) (row : List Feeder) → slice_get placed i ≡ Some instance → IsRow cs instance row → AreFeedsOf h i row
  row_feeds i instance row at is =
      let known = are.each i instance at in
      record {
        item = known.0;
        words = instance.words;
        instance = known.1;
        long = is.long ∙ ap length (all_inputs instance);
        each = λ j word feed at_j got. found_fits h top placed are i instance known.0 known.2 word feed (first_found cs instance word feed (each_found instance row is j word feed at_j got));
      }

  -- ---- the first feeds

  -- what is found first is the first that fits
  first_fit : (i : ℕ) (instance : PlacedValue) (item : Item) (word : NamedWord) (feed : Feeder) → connections_in item ≡ instance.connections → IsFirstFor cs instance word feed → IsFirstFit h item word feed
  first_fit i instance item word feed same first other early fit =
      let found : IsFoundFor cs instance word other = fits_found h top placed are i instance item same word other fit in
      let mine : actuals_by instance.connections word.nets ≡ Some first.nets = first.actuals in
      let theirs : actuals_by instance.connections word.nets ≡ Some found.nets = found.actuals in
      let nets : found.nets ≡ first.nets = cc in
      let P : List Token → Type 0 = λ ns. Has cs (record { feed = other; nets = ns; basis = word.basis }) in
      none_earlier top placed first.nets word.basis feed other first.first early (subst P nets found.has)

  -- so it is with the output word of the top
  output_found : (feed : Feeder) → IsFirstOutput cs top feed → IsOutputFeed cs top feed
  output_found feed is = record { word = is.word; one = is.one; has = (is.first.place, is.first.at) }

  first_output : (feed other : Feeder) → IsFirstOutput cs top feed → IsEarlierFeed other feed → FeedsOutput h other → ⊥
  first_output feed other first early feeds =
      let found : IsOutputFeed cs top other = stands_output other feeds in
      let mine : outputs_among top ≡ first.word ∷ [] = first.one in
      let theirs : outputs_among top ≡ found.word ∷ [] = found.one in
      let same : found.word ≡ first.word = cc in
      let P : NamedWord → Type 0 = λ w. Has cs (record { feed = other; nets = w.nets; basis = w.basis }) in
      none_earlier top placed first.word.nets first.word.basis feed other first.first early (subst P same found.has)

  -- the output of an instance whose words are not refused
  output_with : (i : ℕ) (instance : PlacedValue) → slice_get placed i ≡ Some instance → (word : NamedWord) → outputs_among instance.words ≡ word ∷ [] → AreAccepted cs placed → (nets : List Token) × (basis : List ℕ) × IsOutputOf h i nets basis
  output_with i instance at word only accepted = parts (actuals_by instance.connections word.nets) refl
    where
      parts : (o : Option (List Token)) → actuals_by instance.connections word.nets ≡ o → (nets : List Token) × (basis : List ℕ) × IsOutputOf h i nets basis
      parts None is =
          let P : List NamedWord → Type 0 = λ ws. Has ws word in
          let found = left_passes instance.words word (subst P (sym only) (0, refl)) in
          let loose = unconnected instance.connections word.nets is in
          absurd (accepted i instance at (found.0).0 word (found.0).1 (inl (is_role word.role found.1, record { net = loose.formal; bit = (loose.place, loose.at); because = inl loose.none })))
      parts (Some nets) is =
          let known = are.each i instance at in
          (nets, word.basis, record { item = known.0; words = instance.words; instance = known.1; word = word; output = only; actuals = actuals_same known.0 word.nets ∙ ap (λ c. actuals_by c word.nets) known.2 ∙ is; basis_is = refl })

  output_of : (i : ℕ) (instance : PlacedValue) → slice_get placed i ≡ Some instance → length (outputs_among instance.words) ≡ 1 → AreAccepted cs placed → (nets : List Token) × (basis : List ℕ) × IsOutputOf h i nets basis
  output_of i instance at one accepted = let left = only_left instance.words one in output_with i instance at left.0 left.1 accepted

  pub plainly_wired : (rows : List (List Feeder)) (output : Feeder) → HaveOutputs placed → ArePlainlyWired top placed rows output → AreWired h rows output
  plainly_wired rows output outputs wired =
      let accepted : AreAccepted cs placed = rows_accepted cs placed rows wired.rows_are in
      let feeds_output : FeedsOutput h output = output_stands output (output_found output wired.output_is) in
      record {
        feeds = record { long = wired.rows_are.long ∙ are.long; each = each };
        feeds_output = feeds_output;
        accepted = all_fed accepted;
        outputs = λ i item at. let found = get_below placed i (omega (arith, are.long, slice_get_within (instances_of h.design) i item at)) in output_of i found.0 found.1 (outputs i found.0 found.1) accepted;
        among = among;
        among_output = stands_among h output feeds_output.word.nets feeds_output.word.basis feeds_output.stands;
        first = first;
        first_output = λ other early feeds. first_output output other wired.output_is early feeds;
      }
    where
      each : (i : ℕ) (feeds : List Feeder) → slice_get rows i ≡ Some feeds → AreFeedsOf h i feeds
      each i feeds got =
          let found = get_below placed i (omega (arith, wired.rows_are.long, slice_get_within rows i feeds got)) in
          row_feeds i found.0 feeds found.1 (wired.rows_are.each i found.0 feeds found.1 got)

      among : (i j : ℕ) (feeds : List Feeder) (feed : Feeder) → slice_get rows i ≡ Some feeds → slice_get feeds j ≡ Some feed → IsFeedIn h feed
      among i j feeds feed at got =
          let row : AreFeedsOf h i feeds = each i feeds at in
          let word = get_below (inputs_among row.words) j (omega (arith, row.long, slice_get_within feeds j feed got)) in
          let fit : FitsWord h row.item word.0 feed = row.each j word.0 feed word.1 got in
          stands_among h feed fit.nets (word.0).basis fit.stands

      first : (i : ℕ) (feeds : List Feeder) (item : Item) (words : List NamedWord) → slice_get rows i ≡ Some feeds → IsInstance h i item words → (j : ℕ) (word : NamedWord) (feed : Feeder) → slice_get (inputs_among words) j ≡ Some word → slice_get feeds j ≡ Some feed → IsFirstFit h item word feed
      first i feeds item words at is j word feed at_j got =
          let found = placed_at h top placed are i item words is in
          let here : slice_get (inputs_among (found.0).words) j ≡ Some word = ap (λ ws. slice_get (inputs_among ws) j) found.2 ∙ at_j in
          first_fit i found.0 item word feed found.3 (each_found found.0 feeds (wired.rows_are.each i found.0 feeds found.1 at) j word feed here got)
