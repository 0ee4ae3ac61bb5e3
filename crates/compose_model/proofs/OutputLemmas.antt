-- The output of each instance is that of its block, and the output of the top is the value of what feeds it.
use Rattle.std.proofs.Common.{◌≡◌, ◌∙◌, ap, sym, refl, subst, ℕ, zero, suc, ◌<◌, ◌+◌, ◌^◌, Bool, List, [], ◌∷◌, length, map, Ok, Some, arith, add-one}
use Rattle.std.specs.Prelude.{slice_get, slice_index}
use Rattle.std.proofs.lemmas.Option.{get_or_from_slice_get, slice_get_within}
use Rattle.lists.specs.Lists.{Has}
use Rattle.lists.specs.laws.ReadLaws.{from_map, get_below}
use Rattle.irreducible.specs.Span.{combination}
use Rattle.irreducible.specs.laws.SpanLaws.{combination_below}
use Rattle.net_core.specs.NetList.{NetList}
use Rattle.net_core.specs.Value.{index_of, IsConsistent}
use Rattle.net_words.specs.declared.word.Role.{Role}
use Rattle.net_words.specs.declared.word.Role.TheVariants.{Input, State}
use Rattle.net_blif.specs.Statement.{Token}
use Rattle.net_blif.specs.Top.{connections_in, instances_of, model_in}
use Rattle.net_blif.specs.declared.item.Item.{Item}
use Rattle.net_flat.specs.Flat.{net_list, nothing, walked, Flat}
use Rattle.net_flat.specs.Walk.{walk_of}
use Rattle.net_flat.specs.Part.{IsPart}
use Rattle.net_flat.proofs.PartLemmas.{instance_part}
use Rattle.gf_field.specs.Field.{HasNoZeroDivisors}
use Rattle.gf_field.specs.Ring.{IsRing}
use Rattle.circuit_model.specs.declared.circuit_feed.CircuitFeed.{CircuitFeed}
use Rattle.circuit_model.specs.Circuit.{Circuit, IsInput}
use Rattle.circuit_model.specs.Feeds.{fed_nets}
use Rattle.circuit_model.specs.Out.{Ends, IsOut}
use Rattle.circuit_model.specs.Run.{HaveElements, IsClockCycle, IsFirst, IsInputWord, IsOpenRun}
use Rattle.circuit_model.specs.Word.{HasElement, Word}
use Rattle.circuit_model.proofs.OutLemmas.{open_out}
use Rattle.circuit_model.proofs.WordLemmas.{index_small}
use Rattle.compose_model.specs.Feeds.{AreFeedsOf, FeedsOutput, FitsWord, IsInputWord as IsTopWord, IsOutputOf, IsFeedOn}
use Rattle.compose_model.specs.Given.{IsGiven}
use Rattle.compose_model.specs.Hierarchy.{actuals_of, bases_at, block_of, top_words, Hierarchy, IsInstance}
use Rattle.compose_model.specs.NamedWord.{inputs_among, named_words, outputs_among, NamedWord}
use Rattle.compose_model.specs.Values.{feed_value, AreInstanceValues, IsBlockOf, IsTop}
use Rattle.compose_model.specs.Wiring.{AreAllFeeds}
use Rattle.compose_model.specs.declared.feeder.Feeder.{Feeder}
use Rattle.compose_model.specs.declared.feeder.Feeder.TheVariants.{InputWord, OutputOf}
use Rattle.compose_model.proofs.InputsLemmas.{input_named, inputs_long, named_input}
use Rattle.compose_model.proofs.InstanceLemmas.{facts_of, AreFacts}
use Rattle.compose_model.proofs.PlaceLemmas.{connected_index, named_index, numbers_in}
use Rattle.net_core.proofs.SharedLemmas.{no_latch}

-- the element that names of the top hold in a list of bits of the whole, in a basis
abbrev pub element_at : Flat → List Bool → List Token → List ℕ → ℕ
element_at whole bits nets basis = combination basis (index_of bits (numbers_in whole nets))

-- ---- an instance has one block

pub same_words : (h : Hierarchy) (i : ℕ) (item other : Item) (words more : List NamedWord) → IsInstance h i item words → IsInstance h i other more → (item ≡ other) × (words ≡ more)
same_words h i item other words more a b =
    let at_a : slice_get (instances_of h.design) i ≡ Some item = a.at in
    let at_b : slice_get (instances_of h.design) i ≡ Some other = b.at in
    let same : item ≡ other = cc in
    let P : Item → Type 0 = λ it. block_of h (model_in it) ≡ Some b.number in
    let named_a : block_of h (model_in item) ≡ Some a.number = a.named in
    let named_b : block_of h (model_in item) ≡ Some b.number = subst P (sym same) b.named in
    let number : a.number ≡ b.number = cc in
    let Q : ℕ → Type 0 = λ n. slice_get h.blocks n ≡ Some b.block in
    let found_a : slice_get h.blocks a.number ≡ Some a.block = a.found in
    let found_b : slice_get h.blocks a.number ≡ Some b.block = subst Q (sym number) b.found in
    let block : a.block ≡ b.block = cc in
    (same, sym a.words_are ∙ (λ j. named_words (block j).words (bases_at h (number j + 1))) ∙ b.words_are)

same_place : (h : Hierarchy) (whole : Flat) (bits : List Bool) (i : ℕ) (nets others : List Token) (basis more : List ℕ) → IsOutputOf h i nets basis → IsOutputOf h i others more → element_at whole bits nets basis ≡ element_at whole bits others more
same_place h whole bits i nets others basis more a b =
    let same = same_words h i a.item b.item a.words b.words a.instance b.instance in
    let one : outputs_among a.words ≡ a.word ∷ [] = a.output in
    let P : List NamedWord → Type 0 = λ ws. outputs_among ws ≡ b.word ∷ [] in
    let two : outputs_among a.words ≡ b.word ∷ [] = subst P (sym same.1) b.output in
    let listed : a.word ∷ [] ≡ b.word ∷ [] = sym one ∙ two in
    let word : a.word ≡ b.word = cc in
    let basis_same : basis ≡ more = sym a.basis_is ∙ ap (λ (w : NamedWord). w.basis) word ∙ b.basis_is in
    let actuals_a : actuals_of a.item a.word.nets ≡ Some nets = a.actuals in
    let actuals_b : actuals_of a.item a.word.nets ≡ Some others = (λ j. actuals_of (same.0 j) (word j).nets) ∙ b.actuals in
    let nets_same : nets ≡ others = cc in
    (λ j. element_at whole bits (nets_same j) (basis_same j))

-- ---- a list of values

read_value : (P : ℕ → ℕ → Type 0) (e : ℕ) (es : List ℕ) → P 0 e → ((i x : ℕ) → slice_get es i ≡ Some x → P (suc i) x) → (i x : ℕ) → slice_get (e ∷ es) i ≡ Some x → P i x
read_value P e es is rest zero x got = let same : e ≡ x = cc in let Q : ℕ → Type 0 = P 0 in subst Q same is
read_value P e es is rest (suc i) x got = rest i x got

listed : (items : List Item) (P : ℕ → ℕ → Type 0) → ((i : ℕ) (item : Item) → slice_get items i ≡ Some item → (e : ℕ) × P i e) → (es : List ℕ) × (length es ≡ length items) × ((i e : ℕ) → slice_get es i ≡ Some e → P i e)
listed [] P each = ([], refl, λ i e got. absurd (cc))
listed (item ∷ items) P each =
    let one = each 0 item refl in
    let more = listed items (λ i. P (suc i)) (λ i it got. each (suc i) it got) in
    (one.0 ∷ more.0, ap suc more.1, read_value P one.0 more.0 one.1 more.2)

-- ---- one list of bits as a run

single_at : (part bits : List Bool) (t : ℕ) → slice_get (part ∷ []) t ≡ Some bits → bits ≡ part
single_at part bits zero got = let same : part ≡ bits = cc in sym same
single_at part bits (suc t) got = absurd (cc)

single_next : (part bits : List Bool) (t : ℕ) → slice_get (part ∷ []) (t + 1) ≡ Some bits → ⊥
single_next part bits t got = let P : ℕ → Type 0 = λ n. slice_get (part ∷ []) n ≡ Some bits in past t (subst P (add-one t) got)
  where
    past : (t : ℕ) → slice_get (part ∷ []) (suc t) ≡ Some bits → ⊥
    past t e = absurd (cc)

no_feed : (feeds : List CircuitFeed) (n : ℕ) → feeds ≡ [] → Has (fed_nets feeds) n → ⊥
no_feed feeds n none has = let P : List CircuitFeed → Type 0 = λ fs. Has (fed_nets fs) n in empty (subst P none has)
  where
    empty : Has (fed_nets []) n → ⊥
    empty found = let got = found.1 in absurd (cc)

not_state : (role : Role) → role ≡ Input → role ≡ State → ⊥
not_state role a b = let e : Input ≡ State = sym a ∙ b in absurd (cc)

module _ (circuit : Circuit) (xs : List ℕ) (part : List Bool) (unfed : circuit.feeds ≡ []) (flat : circuit.net.latches ≡ []) (zero_cycles : circuit.cycles ≡ 0) (input : IsInput circuit xs) (consistent : IsConsistent circuit.net part) (all_inputs : (w : Word) → Has circuit.words w → w.role ≡ Input) (elements : HaveElements circuit IsInputWord xs part) where
  cycle : (t : ℕ) (bits : List Bool) → slice_get (part ∷ []) t ≡ Some bits → IsClockCycle circuit xs t bits
  cycle t bits got =
      let P : List Bool → Type 0 = IsClockCycle circuit xs t in
      subst P (sym (single_at part bits t got)) (record { consistent = consistent; inputs = elements; feeds = λ n fed. absurd (no_feed circuit.feeds n unfed fed) })

  first : (bits : List Bool) → IsFirst circuit xs bits
  first bits = record {
    states = λ i w x got read is. absurd (not_state w.role (all_inputs w (i, got)) is);
    latches = λ l has free. absurd (no_latch circuit.net.latches l flat has);
  }

  -- bits that agree with a circuit without latches are an open run
  pub single_run : IsOpenRun circuit xs (part ∷ [])
  single_run = record {
    input = input;
    long = let one : ◌≡◌ {A = ℕ} 1 (0 + 1) = refl in one ∙ ap (λ n. n + 1) (sym zero_cycles);
    each = cycle;
    first = λ bits got. first bits;
    next = λ t before bits at_t at_next. absurd (single_next part bits t at_next);
  }

module _ (k : ℕ) (mul : ℕ → ℕ → ℕ) (ring : IsRing k mul) (field : HasNoZeroDivisors k mul) (h : Hierarchy) (given : IsGiven k h) (xs : List ℕ) (whole : Flat) (walk : walked nothing (walk_of h.design 0) ≡ Ok whole) (bits : List Bool) (consistent : IsConsistent (net_list whole) bits) (held : (w : ℕ) (nets : List Token) (basis : List ℕ) → IsTopWord h w nets basis → element_at whole bits nets basis ≡ slice_index xs w) where
  -- the value of an instance is what its output word holds
  abbrev IsHeld : ℕ → ℕ → Type 0
  IsHeld i e = (nets : List Token) (basis : List ℕ) → IsOutputOf h i nets basis → element_at whole bits nets basis ≡ e

  some_held : (i : ℕ) (item : Item) → slice_get (instances_of h.design) i ≡ Some item → (e : ℕ) × IsHeld i e
  some_held i item got =
      let found = given.outputs i item got in
      (element_at whole bits found.0 found.1, λ nets basis is. same_place h whole bits i nets found.0 basis found.1 is found.2)

  all_held : (es : List ℕ) × (length es ≡ length (instances_of h.design)) × ((i e : ℕ) → slice_get es i ≡ Some e → IsHeld i e)
  all_held = listed (instances_of h.design) IsHeld some_held

  module _ (es : List ℕ) (long : length es ≡ length (instances_of h.design)) (are : (i e : ℕ) → slice_get es i ≡ Some e → IsHeld i e) where
    -- what stands on nets of the top holds the value of the feed
    pub feed_held : (feed : Feeder) (nets : List Token) (basis : List ℕ) → IsFeedOn h feed nets basis → element_at whole bits nets basis ≡ feed_value k mul h xs es feed
    feed_held (InputWord w) nets basis is = held w nets basis is
    feed_held (OutputOf i) nets basis is =
        let found = get_below es i (omega (arith, long, slice_get_within (instances_of h.design) i is.item is.instance.at)) in
        are i found.0 found.1 nets basis is ∙ sym (get_or_from_slice_get es i found.0 0 found.1)

    module _ (i e : ℕ) (item : Item) (feeds : List Feeder) (circuit : Circuit) (value : slice_get es i ≡ Some e) (at : slice_get (instances_of h.design) i ≡ Some item) (fed : AreFeedsOf h i feeds) (block : IsBlockOf k mul h item circuit) where
      abbrev words : List NamedWord
      words = named_words block.block.words (bases_at h (block.number + 1))

      instance : IsInstance h i item words
      instance = record { at = at; number = block.number; named = block.named; block = block.block; found = block.found; words_are = refl }

      abbrev ys : List ℕ
      ys = map (feed_value k mul h xs es) feeds

      -- the feeds of the words of this block
      feeds_long : length feeds ≡ length (inputs_among words)
      feeds_long = fed.long ∙ ap (λ ws. length (inputs_among ws)) (sym (same_words h i item fed.item words fed.words instance fed.instance).1)

      fits : (j : ℕ) (word : NamedWord) (feed : Feeder) → slice_get (inputs_among words) j ≡ Some word → slice_get feeds j ≡ Some feed → FitsWord h item word feed
      fits j word feed at_word at_feed =
          let same = same_words h i item fed.item words fed.words instance fed.instance in
          let P : List NamedWord → Type 0 = λ ws. slice_get (inputs_among ws) j ≡ Some word in
          let Q : Item → Type 0 = λ it. FitsWord h it word feed in
          subst Q (sym same.0) (fed.each j word feed (subst P same.1 at_word) at_feed)

      module _ (alone : Flat) (facts : AreFacts k mul alone block.block.words (bases_at h (block.number + 1)) circuit) (part : List Bool) (is : IsPart whole alone (i + 1) (connections_in item) bits part) (part_consistent : IsConsistent (net_list alone) part) where
        -- a word of the block holds what its feed gives
        word_value : (j : ℕ) (w : Word) (feed : Feeder) → slice_get circuit.words j ≡ Some w → slice_get feeds j ≡ Some feed → combination w.basis (index_of part w.nets) ≡ feed_value k mul h xs es feed
        word_value j w feed at_word at_feed =
            let named = input_named (net_list alone) (inputs_among words) circuit.words j w facts.inputs at_word in
            let fit = fits j named.0 feed named.1 at_feed in
            let index : index_of part w.nets ≡ index_of bits (numbers_in whole fit.nets) = connected_index whole alone bits part item (i + 1) named.0.nets fit.nets w.nets is named.3 fit.actuals in
            (λ m. combination (named.4 m) (index m)) ∙ feed_held feed fit.nets named.0.basis fit.stands

        read : (j x : ℕ) → slice_get ys j ≡ Some x → (feed : Feeder) × (slice_get feeds j ≡ Some feed) × (feed_value k mul h xs es feed ≡ x)
        read j x got = from_map (feed_value k mul h xs es) feeds j x got

        elements : HaveElements circuit IsInputWord ys part
        elements j w x at_word at_value any =
            let from = read j x at_value in
            let word = facts.well.words w (j, at_word) in
            let size : length w.basis ≡ length w.nets = word.basis.size ∙ sym word.nets in
            let short : index_of part w.nets < 2 ^ length w.basis = (let P : ℕ → Type 0 = λ n. index_of part w.nets < 2 ^ n in subst P (sym size) (index_small part w.nets)) in
            record { long = size; sum = record { short = short; is = word_value j w from.0 at_word from.1 ∙ from.2 } }

        count : length ys ≡ length circuit.words
        count = mapped feeds ∙ feeds_long ∙ sym (inputs_long (net_list alone) (inputs_among words) circuit.words facts.inputs)
          where
            mapped : (fs : List Feeder) → length (map (feed_value k mul h xs es) fs) ≡ length fs
            mapped [] = refl
            mapped (f ∷ fs) = ap suc (mapped fs)

        small : (x : ℕ) → Has ys x → x < 2 ^ circuit.k
        small x (j, got) =
            let from = read j x got in
            let found = get_below circuit.words j (omega (arith, slice_get_within ys j x got, count)) in
            let word = facts.well.words found.0 (j, found.1) in
            let P : ℕ → Type 0 = λ y. y < 2 ^ circuit.k in
            subst P (word_value j found.0 from.0 found.1 from.1 ∙ from.2) (combination_below found.0.basis circuit.k (index_of part found.0.nets) (λ m less. word.basis.inside m less))

        all_inputs : (w : Word) → Has circuit.words w → w.role ≡ Input
        all_inputs w (j, got) = (input_named (net_list alone) (inputs_among words) circuit.words j w facts.inputs got).2

        ends : Ends circuit (part ∷ []) e
        ends =
            let found = given.outputs i item at in
            let out = found.2 in
            let same = same_words h i item out.item words out.words instance out.instance in
            let P : List NamedWord → Type 0 = λ ws. outputs_among ws ≡ out.word ∷ [] in
            let one : outputs_among words ≡ out.word ∷ [] = subst P (sym same.1) out.output in
            let actuals : actuals_of item out.word.nets ≡ Some found.0 = ap (λ it. actuals_of it out.word.nets) same.0 ∙ out.actuals in
            let index : index_of part circuit.output.nets ≡ index_of bits (numbers_in whole found.0) = connected_index whole alone bits part item (i + 1) out.word.nets found.0 circuit.output.nets is (facts.output out.word one) actuals in
            let basis : circuit.output.basis ≡ found.1 = facts.basis out.word one ∙ out.basis_is in
            let size : length circuit.output.basis ≡ length circuit.output.nets = facts.well.output.basis.size ∙ sym facts.well.output.nets in
            let short : index_of part circuit.output.nets < 2 ^ length circuit.output.basis = (let Q : ℕ → Type 0 = λ n. index_of part circuit.output.nets < 2 ^ n in subst Q (sym size) (index_small part circuit.output.nets)) in
            record {
              last = part;
              at = ap (λ n. slice_get (part ∷ []) n) facts.cycles;
              element = record { long = size; sum = record { short = short; is = (λ m. combination (basis m) (index m)) ∙ are i e value found.0 found.1 out } };
            }

        block_out : IsOut circuit ys e
        block_out =
            let P : NetList → Type 0 = λ n. IsConsistent n part in
            (open_out circuit ys (part ∷ []) e facts.well (single_run circuit ys part facts.well.unfed facts.latches facts.cycles (record { long = count; elements = small }) (subst P (sym facts.net) part_consistent) all_inputs elements)).0 ends

      -- so the instance has its block's output
      pub instance_out : IsOut circuit (map (feed_value k mul h xs es) feeds) e
      instance_out =
          let based = given.blocks block.number block.block block.found in
          let found = facts_of k mul ring field h block.model block.block.words (bases_at h (block.number + 1)) based circuit block.is in
          let parts = instance_part h.design i block.model item whole found.0 given.depth walk at block.model_is found.1 bits consistent in
          block_out found.0 found.2 parts.0 parts.1 parts.2

    pub are_values : (rows : List (List Feeder)) → AreAllFeeds h rows → AreInstanceValues k mul h rows xs es
    are_values rows all = record { long = long; each = λ i e item feeds circuit value at row block. instance_out i e item feeds circuit value at (all.each i feeds row) block }

  pub some_values : (rows : List (List Feeder)) → AreAllFeeds h rows → (feed : Feeder) (nets : List Token) (basis : List ℕ) → IsFeedOn h feed nets basis → (es : List ℕ) × AreInstanceValues k mul h rows xs es × (element_at whole bits nets basis ≡ feed_value k mul h xs es feed)
  some_values rows all feed nets basis is =
      let found = all_held in
      (found.0, are_values found.0 found.1 found.2 rows all, feed_held found.0 found.1 found.2 feed nets basis is)

module _ (k : ℕ) (mul : ℕ → ℕ → ℕ) (ring : IsRing k mul) (field : HasNoZeroDivisors k mul) (h : Hierarchy) (given : IsGiven k h) (rows : List (List Feeder)) (all : AreAllFeeds h rows) where
  -- the law
  pub output_value : (top : Circuit) (feed : Feeder) (xs : List ℕ) (e : ℕ) → IsTop k mul h top → FeedsOutput h feed → IsOut top xs e → (es : List ℕ) × AreInstanceValues k mul h rows xs es × (feed_value k mul h xs es feed ≡ e)
  output_value top feed xs e is fed out =
      let found = facts_of k mul ring field h 0 h.words (bases_at h 0) given.top top is in
      let whole : Flat = found.0 in
      let facts = found.2 in
      let bits : List Bool = out.ends.last in
      let run = out.is_run.open_run in
      let cycle = run.each top.cycles bits out.ends.at in
      let P : NetList → Type 0 = λ n. IsConsistent n bits in
      let consistent : IsConsistent (net_list whole) bits = subst P facts.net cycle.consistent in
      let held : (w : ℕ) (nets : List Token) (basis : List ℕ) → IsTopWord h w nets basis → element_at whole bits nets basis ≡ slice_index xs w = (λ w nets basis word.
      let named = named_input (net_list whole) (inputs_among (top_words h)) top.words w word.word facts.inputs word.at in
      let read = get_below xs w (omega (arith, run.input.long, slice_get_within top.words w named.0 named.1)) in
      let element : HasElement bits named.0 read.0 = cycle.inputs w named.0 read.0 named.1 read.1 named.2 in
      let index : index_of bits named.0.nets ≡ index_of bits (numbers_in whole nets) = named_index whole bits word.word.nets named.0.nets named.3 ∙ ap (λ ns. index_of bits (numbers_in whole ns)) word.nets_are in
      let based : named.0.basis ≡ basis = named.4 ∙ word.basis_is in
      sym (λ m. combination (based m) (index m)) ∙ element.sum.is ∙ sym (get_or_from_slice_get xs w read.0 0 read.1)) in
      let values = some_values k mul ring field h given xs whole found.1 bits consistent held rows all feed fed.word.nets fed.word.basis fed.stands in
      let index : index_of bits top.output.nets ≡ index_of bits (numbers_in whole fed.word.nets) = named_index whole bits fed.word.nets top.output.nets (facts.output fed.word fed.output) in
      let based : top.output.basis ≡ fed.word.basis = facts.basis fed.word fed.output in
      (values.0, values.1, sym values.2 ∙ sym (λ m. combination (based m) (index m)) ∙ out.ends.element.sum.is)
