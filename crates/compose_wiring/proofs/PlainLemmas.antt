-- Instances by their connections and words alone are the instances of a top.
use Rattle.std.proofs.Common.{◌≡◌, ◌∙◌, ap, sym, refl, subst, ℕ, zero, suc, ◌<◌, ◌+◌, ◌⊎◌, inl, inr, not, List, [], ◌∷◌, length, Option, None, Some, arith}
use Rattle.std.specs.Prelude.{slice_get}
use Rattle.std.specs.Option.{option_and_then, option_map, option_map_or}
use Rattle.std.proofs.lemmas.Option.{slice_get_within}
use Rattle.lists.specs.Lists.{Has}
use Rattle.lists.specs.laws.HasLaws.{Has_right, Has_cases, Has_left}
use Rattle.lists.specs.laws.ReadLaws.{get_below}
use Rattle.compose_model.proofs.OutputLemmas.{same_words}
use Rattle.net_blif.specs.Statement.{Token}
use Rattle.net_blif.specs.Top.{actual_in, connections_in, instances_of}
use Rattle.net_blif.specs.declared.item.Item.{Item}
use Rattle.compose_model.specs.Feeds.{FitsWord, IsInputWord, IsOutputOf, IsFeedOn}
use Rattle.compose_model.specs.Hierarchy.{actuals_of, top_words, Hierarchy, IsInstance}
use Rattle.compose_model.specs.NamedWord.{inputs_among, outputs_among, NamedWord}
use Rattle.compose_model.specs.declared.feeder.Feeder.{Feeder}
use Rattle.compose_model.specs.declared.feeder.Feeder.TheVariants.{InputWord, OutputOf}
use Rattle.compose_wiring.specs.Refusal.{HasNoOutputBit, IsRefusedWord}
use Rattle.net_words.specs.Roles.{same_role}
use Rattle.net_words.specs.declared.word.Role.TheVariants.{Output}
use Rattle.compose_wiring.proofs.ListLemmas.{kept_from}
use Rattle.compose_wiring.specs.private.Names.{actual_by, actuals_by}
use Rattle.compose_wiring.specs.private.Words.{AreOf}
use Rattle.compose_wiring.specs.private.Plain.{candidates_of, output_by, output_candidates, word_candidates, AreSized, CandidateValue, HaveSize, IsBadOutput, IsFoundFor, IsRefusedBy, PlacedValue}

-- ---- actuals

pub actuals_same : (item : Item) (formals : List Token) → actuals_of item formals ≡ actuals_by (connections_in item) formals
actuals_same item [] = refl
actuals_same item (f ∷ fs) = ap (λ rest. option_and_then (λ (actual : Token). option_map (λ (actuals : List Token). actual ∷ actuals) rest) (actual_in item f)) (actuals_same item fs)

-- ---- an instance has one block

-- ---- lists of candidates

-- an input word among candidates
word_of : (n : ℕ) (words : List NamedWord) (c : CandidateValue) → Has (word_candidates n words) c → (j : ℕ) × (word : NamedWord) × (slice_get words j ≡ Some word) × (c ≡ record { feed = InputWord (n + j); nets = word.nets; basis = word.basis })
word_of n [] c has = let got = has.1 in absurd (cc)
word_of n (word ∷ words) c (zero, got) =
    let same : ◌≡◌ {A = CandidateValue} (record { feed = InputWord n; nets = word.nets; basis = word.basis }) c = cc in
    let place : n ≡ n + 0 = omega arith in
    (0, word, refl, sym same ∙ ap (λ m. record { feed = InputWord m; nets = word.nets; basis = word.basis }) place)
word_of n (word ∷ words) c (suc k, got) =
    let more = word_of (n + 1) words c (k, got) in
    let place : (n + 1) + more.0 ≡ n + suc more.0 = omega arith in
    (suc more.0, more.1, more.2, more.3 ∙ ap (λ m. record { feed = InputWord m; nets = (more.1).nets; basis = (more.1).basis }) place)

of_word : (n : ℕ) (words : List NamedWord) (j : ℕ) (word : NamedWord) → slice_get words j ≡ Some word → Has (word_candidates n words) (record { feed = InputWord (n + j); nets = word.nets; basis = word.basis })
of_word n [] j word got = absurd (cc)
of_word n (x ∷ words) zero word got =
    let same : x ≡ word = cc in
    let place : n ≡ n + 0 = omega arith in
    let P : ℕ → Type 0 = λ m. slice_get (word_candidates n (x ∷ words)) 0 ≡ Some (record { feed = InputWord m; nets = word.nets; basis = word.basis }) in
    (0, subst P place (ap (λ (w : NamedWord). Some (record { feed = InputWord n; nets = w.nets; basis = w.basis })) same))
of_word n (x ∷ words) (suc j) word got =
    let more = of_word (n + 1) words j word got in
    let place : (n + 1) + j ≡ n + suc j = omega arith in
    let P : ℕ → Type 0 = λ m. slice_get (word_candidates (n + 1) words) more.0 ≡ Some (record { feed = InputWord m; nets = word.nets; basis = word.basis }) in
    (suc more.0, subst P place more.1)

-- the output of an instance as a candidate
pub record IsOutputBy (n : ℕ) (connections : List Token) (outputs : List NamedWord) (c : CandidateValue) : Type 0 where
  pub word : NamedWord
  pub one : outputs ≡ word ∷ []
  pub nets : List Token
  pub actuals : actuals_by connections word.nets ≡ Some nets
  pub is : c ≡ record { feed = OutputOf n; nets = nets; basis = word.basis }

pub output_one : (n : ℕ) (connections : List Token) (outputs : List NamedWord) (c : CandidateValue) → Has (output_by n connections outputs) c → IsOutputBy n connections outputs c
output_one n connections [] c has = let got = has.1 in absurd (cc)
output_one n connections (word ∷ []) c has = parts (actuals_by connections word.nets) refl has
  where
    parts : (o : Option (List Token)) → actuals_by connections word.nets ≡ o → Has (option_map_or (λ (nets : List Token). record { feed = OutputOf n; nets = nets; basis = word.basis } ∷ []) o []) c → IsOutputBy n connections (word ∷ []) c
    parts None is has = let got = has.1 in absurd (cc)
    parts (Some nets) is (zero, got) = record { word = word; one = refl; nets = nets; actuals = is; is = cc }
    parts (Some nets) is (suc k, got) = absurd (cc)
output_one n connections (word ∷ other ∷ words) c has = let got = has.1 in absurd (cc)

one_output : (n : ℕ) (connections : List Token) (word : NamedWord) (nets : List Token) (outputs : List NamedWord) → outputs ≡ word ∷ [] → actuals_by connections word.nets ≡ Some nets → Has (output_by n connections outputs) (record { feed = OutputOf n; nets = nets; basis = word.basis })
one_output n connections word nets outputs one is =
    let c : CandidateValue = record { feed = OutputOf n; nets = nets; basis = word.basis } in
    let P : List NamedWord → Type 0 = λ ws. Has (output_by n connections ws) c in
    let Q : Option (List Token) → Type 0 = λ o. Has (option_map_or (λ (ns : List Token). record { feed = OutputOf n; nets = ns; basis = word.basis } ∷ []) o []) c in
    subst P (sym one) (subst Q (sym is) (0, refl))

pub record IsOutputAmong (n : ℕ) (placed : List PlacedValue) (c : CandidateValue) : Type 0 where
  pub j : ℕ
  pub instance : PlacedValue
  pub at : slice_get placed j ≡ Some instance
  pub by : IsOutputBy (n + j) instance.connections (outputs_among instance.words) c

pub output_among : (n : ℕ) (placed : List PlacedValue) (c : CandidateValue) → Has (output_candidates n placed) c → IsOutputAmong n placed c
output_among n [] c has = let got = has.1 in absurd (cc)
output_among n (x ∷ placed) c has = cases (Has_cases (output_by n x.connections (outputs_among x.words)) (output_candidates (n + 1) placed) c has) (output_among (n + 1) placed c)
  where
    cases : Has (output_by n x.connections (outputs_among x.words)) c ⊎ Has (output_candidates (n + 1) placed) c → (Has (output_candidates (n + 1) placed) c → IsOutputAmong (n + 1) placed c) → IsOutputAmong n (x ∷ placed) c
    cases (inl here) given =
        let place : n ≡ n + 0 = omega arith in
        let P : ℕ → Type 0 = λ m. IsOutputBy m x.connections (outputs_among x.words) c in
        record { j = 0; instance = x; at = refl; by = subst P place (output_one n x.connections (outputs_among x.words) c here) }
    cases (inr later) given =
        let more : IsOutputAmong (n + 1) placed c = given later in
        let place : (n + 1) + more.j ≡ n + suc more.j = omega arith in
        let P : ℕ → Type 0 = λ m. IsOutputBy m more.instance.connections (outputs_among more.instance.words) c in
        record { j = suc more.j; instance = more.instance; at = more.at; by = subst P place more.by }

among_output : (n : ℕ) (placed : List PlacedValue) (j : ℕ) (instance : PlacedValue) (c : CandidateValue) → slice_get placed j ≡ Some instance → Has (output_by (n + j) instance.connections (outputs_among instance.words)) c → Has (output_candidates n placed) c
among_output n [] j instance c got has = absurd (cc)
among_output n (x ∷ placed) zero instance c got has =
    let same : x ≡ instance = cc in
    let place : n + 0 ≡ n = omega arith in
    let P : PlacedValue → Type 0 = λ p. Has (output_by n p.connections (outputs_among p.words)) c in
    let Q : ℕ → Type 0 = λ m. Has (output_by m instance.connections (outputs_among instance.words)) c in
    Has_left (output_by n x.connections (outputs_among x.words)) (output_candidates (n + 1) placed) c (subst P (sym same) (subst Q place has))
among_output n (x ∷ placed) (suc j) instance c got has =
    let place : n + suc j ≡ (n + 1) + j = omega arith in
    let P : ℕ → Type 0 = λ m. Has (output_by m instance.connections (outputs_among instance.words)) c in
    Has_right (output_by n x.connections (outputs_among x.words)) (output_candidates (n + 1) placed) c (among_output (n + 1) placed j instance c got (subst P place has))

-- ---- the bases of candidates

pub candidates_sized : (k : ℕ) (top : List NamedWord) (placed : List PlacedValue) → AreOf k top → AreSized k placed → HaveSize k (candidates_of top placed)
candidates_sized k top placed top_of sized c has = cases (Has_cases (word_candidates 0 (inputs_among top)) (output_candidates 0 placed) c has)
  where
    in_word : (ws : List NamedWord) → AreOf k ws → (word : NamedWord) → Has ws word → c.basis ≡ word.basis → length c.basis ≡ k
    in_word ws of word has same = ap length same ∙ of.bases word has

    cases : Has (word_candidates 0 (inputs_among top)) c ⊎ Has (output_candidates 0 placed) c → length c.basis ≡ k
    cases (inl here) =
        let found = word_of 0 (inputs_among top) c here in
        in_word top top_of found.1 (kept_from (λ (w : NamedWord). not (same_role w.role Output)) top found.1 (found.0, found.2)) (ap (λ (d : CandidateValue). d.basis) found.3)
    cases (inr here) =
        let found : IsOutputAmong 0 placed c = output_among 0 placed c here in
        let P : List NamedWord → Type 0 = λ ws. Has ws found.by.word in
        in_word found.instance.words (sized found.j found.instance found.at) found.by.word (kept_from (λ (w : NamedWord). same_role w.role Output) found.instance.words found.by.word (subst P (sym found.by.one) (0, refl))) (ap (λ (d : CandidateValue). d.basis) found.by.is)

-- ---- the instances of a top

pub record ArePlain (h : Hierarchy) (top : List NamedWord) (placed : List PlacedValue) : Type 0 where
  pub top_is : top ≡ top_words h
  pub long : length placed ≡ length (instances_of h.design)
  pub each : (i : ℕ) (instance : PlacedValue) → slice_get placed i ≡ Some instance → (item : Item) × IsInstance h i item instance.words × (connections_in item ≡ instance.connections)

module _ (h : Hierarchy) (top : List NamedWord) (placed : List PlacedValue) (are : ArePlain h top placed) where
  -- what connections connect is what the instance connects
  actuals_from : (i : ℕ) (instance : PlacedValue) (item : Item) (formals : List Token) → connections_in item ≡ instance.connections → actuals_of item formals ≡ actuals_by instance.connections formals
  actuals_from i instance item formals same = actuals_same item formals ∙ ap (λ cs. actuals_by cs formals) same

  -- the instance that has a number
  pub placed_at : (i : ℕ) (item : Item) (words : List NamedWord) → IsInstance h i item words → (instance : PlacedValue) × (slice_get placed i ≡ Some instance) × (instance.words ≡ words) × (connections_in item ≡ instance.connections)
  placed_at i item words is =
      let less : i < length (instances_of h.design) = slice_get_within (instances_of h.design) i item is.at in
      let found = get_below placed i (omega (arith, less, are.long)) in
      let known = are.each i found.0 found.1 in
      let same = same_words h i known.0 item (found.0).words words known.1 is in
      (found.0, found.1, same.1, ap connections_in (sym same.0) ∙ known.2)

  -- a candidate stands on its nets
  pub stands : (c : CandidateValue) → Has (candidates_of top placed) c → IsFeedOn h c.feed c.nets c.basis
  stands c has = cases (Has_cases (word_candidates 0 (inputs_among top)) (output_candidates 0 placed) c has)
    where
      from_word : (j : ℕ) (word : NamedWord) → slice_get (inputs_among top) j ≡ Some word → IsInputWord h j word.nets word.basis
      from_word j word at = let P : List NamedWord → Type 0 = λ ws. slice_get (inputs_among ws) j ≡ Some word in record { word = word; at = subst P are.top_is at; nets_are = refl; basis_is = refl }

      from_output : (j : ℕ) (instance : PlacedValue) → slice_get placed j ≡ Some instance → (word : NamedWord) (nets : List Token) → outputs_among instance.words ≡ word ∷ [] → actuals_by instance.connections word.nets ≡ Some nets → IsOutputOf h j nets word.basis
      from_output j instance at word nets one actuals =
          let known = are.each j instance at in
          record { item = known.0; words = instance.words; instance = known.1; word = word; output = one; actuals = actuals_from j instance known.0 word.nets known.2 ∙ actuals; basis_is = refl }

      cases : Has (word_candidates 0 (inputs_among top)) c ⊎ Has (output_candidates 0 placed) c → IsFeedOn h c.feed c.nets c.basis
      cases (inl here) =
          let found = word_of 0 (inputs_among top) c here in
          let place : 0 + found.0 ≡ found.0 = omega arith in
          let Q : ℕ → Type 0 = λ m. IsInputWord h m (found.1).nets (found.1).basis in
          let P : CandidateValue → Type 0 = λ d. IsFeedOn h d.feed d.nets d.basis in
          subst P (sym found.3) (subst Q (sym place) (from_word found.0 found.1 found.2))
      cases (inr here) =
          let found : IsOutputAmong 0 placed c = output_among 0 placed c here in
          let place : 0 + found.j ≡ found.j = omega arith in
          let Q : ℕ → Type 0 = λ m. IsOutputOf h m found.by.nets found.by.word.basis in
          let P : CandidateValue → Type 0 = λ d. IsFeedOn h d.feed d.nets d.basis in
          subst P (sym found.by.is) (subst Q (sym place) (from_output found.j found.instance found.at found.by.word found.by.nets found.by.one found.by.actuals))

  -- all that stands on nets is a candidate
  pub stood : (feed : Feeder) (nets : List Token) (basis : List ℕ) → IsFeedOn h feed nets basis → Has (candidates_of top placed) (record { feed = feed; nets = nets; basis = basis })
  stood (InputWord w) nets basis is =
      let P : List NamedWord → Type 0 = λ ws. slice_get (inputs_among ws) w ≡ Some is.word in
      let place : 0 + w ≡ w = omega arith in
      let R : ℕ → Type 0 = λ m. Has (word_candidates 0 (inputs_among top)) (record { feed = InputWord m; nets = is.word.nets; basis = is.word.basis }) in
      let has = subst R place (of_word 0 (inputs_among top) w is.word (subst P (sym are.top_is) is.at)) in
      let same : ◌≡◌ {A = CandidateValue} (record { feed = InputWord w; nets = is.word.nets; basis = is.word.basis }) (record { feed = InputWord w; nets = nets; basis = basis }) = λ j. record { feed = InputWord w; nets = is.nets_are j; basis = is.basis_is j } in
      let Q : CandidateValue → Type 0 = λ c. Has (candidates_of top placed) c in
      subst Q same (Has_left (word_candidates 0 (inputs_among top)) (output_candidates 0 placed) (record { feed = InputWord w; nets = is.word.nets; basis = is.word.basis }) has)
  stood (OutputOf i) nets basis is =
      let found = placed_at i is.item is.words is.instance in
      let one : outputs_among (found.0).words ≡ is.word ∷ [] = ap outputs_among found.2 ∙ is.output in
      let actuals : actuals_by (found.0).connections is.word.nets ≡ Some nets = sym (actuals_from i found.0 is.item is.word.nets found.3) ∙ is.actuals in
      let c : CandidateValue = record { feed = OutputOf i; nets = nets; basis = is.word.basis } in
      let same : c ≡ record { feed = OutputOf i; nets = nets; basis = basis } = λ j. record { feed = OutputOf i; nets = nets; basis = is.basis_is j } in
      let Q : CandidateValue → Type 0 = λ d. Has (candidates_of top placed) d in
      let place : i ≡ 0 + i = omega arith in
      let R : ℕ → Type 0 = λ m. Has (output_by m (found.0).connections (outputs_among (found.0).words)) c in
      subst Q same (Has_right (word_candidates 0 (inputs_among top)) (output_candidates 0 placed) c (among_output 0 placed i found.0 c found.1 (subst R place (one_output i (found.0).connections is.word nets (outputs_among (found.0).words) one actuals))))

  module _ (i : ℕ) (instance : PlacedValue) (item : Item) (same : connections_in item ≡ instance.connections) (word : NamedWord) where
    pub found_fits : (feed : Feeder) → IsFoundFor (candidates_of top placed) instance word feed → FitsWord h item word feed
    found_fits feed found = record { nets = found.nets; actuals = actuals_from i instance item word.nets same ∙ found.actuals; stands = stands (record { feed = feed; nets = found.nets; basis = word.basis }) found.has }

    pub fits_found : (feed : Feeder) → FitsWord h item word feed → IsFoundFor (candidates_of top placed) instance word feed
    fits_found feed fit = record { nets = fit.nets; actuals = sym (actuals_from i instance item word.nets same) ∙ fit.actuals; has = stood feed fit.nets word.basis fit.stands }

    actual_same : (net : Token) → actual_in item net ≡ actual_by instance.connections net
    actual_same net = ap (λ cs. actual_by cs net) same

    pub bad_output : IsBadOutput instance word → HasNoOutputBit item instance.words word
    bad_output bad = record { net = bad.net; bit = bad.bit; because = elim bad.because [ inl none ↦ inl (actual_same bad.net ∙ none) | inr input ↦ inr input ] }

    pub output_bad : HasNoOutputBit item instance.words word → IsBadOutput instance word
    output_bad bad = record { net = bad.net; bit = bad.bit; because = elim bad.because [ inl none ↦ inl (sym (actual_same bad.net) ∙ none) | inr input ↦ inr input ] }

    pub refused_word : IsRefusedBy (candidates_of top placed) instance word → IsRefusedWord h item instance.words word
    refused_word (inl output) = inl (output.0, bad_output output.1)
    refused_word (inr other) = inr (other.0, λ feed fit. other.1 feed (fits_found feed fit))

    pub word_refused : IsRefusedWord h item instance.words word → IsRefusedBy (candidates_of top placed) instance word
    word_refused (inl output) = inl (output.0, output_bad output.1)
    word_refused (inr other) = inr (other.0, λ feed found. other.1 feed (found_fits feed found))
