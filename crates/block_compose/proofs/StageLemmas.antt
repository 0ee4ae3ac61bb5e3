-- The stages of a composition: those of the blocks, and those of the instances.
use Rattle.std.proofs.Common.{◌≡◌, ◌∙◌, ap, sym, refl, subst, ℕ, zero, suc, ◌<◌, ◌≤◌, ◌+◌, ◌-◌, ◌^◌, not, Bool, true, false, cond, List, [], ◌∷◌, length, map, filter, Option, Some, arith}
use Rattle.std.specs.Prelude.{slice_get, slice_index}
use Rattle.std.specs.Option.{unwrap_or}
use Rattle.std.proofs.lemmas.Option.{slice_get_within}
use Rattle.lists.specs.Lists.{Has}
use Rattle.lists.specs.laws.ListLaws.{length_map as mapped_long}
use Rattle.lists.specs.laws.ReadLaws.{from_map, get_below}
use Rattle.outcome.specs.ForEach.{AreValues}
use Rattle.net_words.specs.Binding.{AreWords, BoundNet}
use Rattle.net_words.specs.Roles.{is_output, same_role}
use Rattle.net_words.specs.declared.word.Role.TheVariants.{Output}
use Rattle.net_words.specs.declared.word.WordText.{WordText}
use Rattle.net_words.proofs.VariableLemmas.{count_both}
use Rattle.net_signature.specs.Signature.{SignatureValue}
use Rattle.net_blif.specs.Design.{ModelValue}
use Rattle.net_blif.specs.Top.{instances_of, model_in}
use Rattle.net_blif.specs.declared.item.Item.{Item}
use Rattle.net_flat.specs.Flat.{net_list}
use Rattle.gf_field.specs.Field.{HasNoZeroDivisors}
use Rattle.gf_field.specs.Ring.{IsRing}
use Rattle.gf_basis.specs.BasisParts.{elements_of}
use Rattle.gf_basis.specs.declared.bases.Basis.{Basis}
use Rattle.poly_mixed.specs.Polynomial.{value, IsPoint, IsPolynomialOf, Point, Polynomial, Terms}
use Rattle.poly_mixed.specs.laws.Uniqueness.{InFirstWords}
use Rattle.circuit_model.specs.Bases.{circuit_in}
use Rattle.circuit_model.specs.Circuit.{Circuit}
use Rattle.circuit_model.specs.OfBinding.{circuit_with}
use Rattle.stage_model.specs.OutputInWords.{IsOutputInWords}
use Rattle.compose_polys.specs.Words.{feed_terms, IsBlockFor, IsFeedAmong}
use Rattle.compose_model.specs.Feeds.{AreFeedsOf}
use Rattle.compose_model.specs.Given.{IsGiven}
use Rattle.compose_model.specs.Hierarchy.{bases_at, block_of, top_words, Hierarchy, IsInstance}
use Rattle.compose_model.specs.NamedWord.{inputs_among, named_words, NamedWord}
use Rattle.compose_model.specs.Values.{IsBlockOf, IsTop}
use Rattle.compose_model.specs.Wiring.{HaveBlocks, IsWithoutCycle}
use Rattle.compose_model.specs.declared.feeder.Feeder.{Feeder}
use Rattle.compose_model.specs.declared.feeder.Feeder.TheVariants.{InputWord, OutputOf}
use Rattle.compose_model.proofs.InputsLemmas.{inputs_long}
use Rattle.compose_model.proofs.InstanceLemmas.{facts_of}
use Rattle.compose_model.proofs.OutputLemmas.{same_words}
use Rattle.compose_blocks.proofs.OneCircuitLemmas.{one_block}
use Rattle.compose_polys.specs.InstancePolys.{feed_at, HaveBlockPolys}
use Rattle.compose_polys.proofs.ComposedLemmas.{composed_output}
use Rattle.compose_polys.proofs.OrderedLemmas.{instances_made}
use Rattle.compose_polys.specs.Wired.{IsWired, IsWiredPoly}
use Rattle.compose_blocks.specs.Planned.{AreKept}
use Rattle.compose_blocks.specs.Uses.{BlockUse, UseOf}
use Rattle.compose_wiring.specs.Answer.{AreWired, IsFeedIn}
use Rattle.block_compose.specs.Composed.{hierarchy_of}
use Rattle.block_compose.specs.private.Blocks.{ArePolys, AreTaken, IsBlockPoly, IsKeptBlock}
use Rattle.block_compose.proofs.GivenLemmas.{use_at, used_block}
use Rattle.compose_stages.proofs.OrderLemmas.{graph_long}

-- ---- words

-- the words that are no output word, by their names or not
inputs_long_is : (words : List WordText) (bases : List (List ℕ)) → length bases ≡ length words → length (inputs_among (named_words words bases)) ≡ length (filter (λ (word : WordText). not (is_output word)) words)
inputs_long_is [] [] long = refl
inputs_long_is [] (basis ∷ bases) long = refl
inputs_long_is (word ∷ words) [] long = absurd (omega (arith, long))
inputs_long_is (word ∷ words) (basis ∷ bases) long = by (inputs_long_is words bases (omega (arith, long))) (same_role word.role Output)
  where
    by : length (inputs_among (named_words words bases)) ≡ length (filter (λ (w : WordText). not (is_output w)) words) → (b : Bool)
        → length (cond (not b) (record { role = word.role; nets = word.nets; basis = basis } ∷ inputs_among (named_words words bases)) (inputs_among (named_words words bases))) ≡ length (cond (not b) (word ∷ filter (λ (w : WordText). not (is_output w)) words) (filter (λ (w : WordText). not (is_output w)) words))
    by rest true = rest
    by rest false = ap suc rest

-- all words but the output word
pub count_is : (k : ℕ) (words : List WordText) (bases : List (List ℕ)) → AreWords k words → length bases ≡ length words → length words - 1 ≡ length (inputs_among (named_words words bases))
count_is k words bases are long = omega (arith, inputs_long_is words bases long, count_both is_output words, are.output)

-- ---- blocks

module _ (k : ℕ) (mul : ℕ → ℕ → ℕ) (design : List ModelValue) (signature : SignatureValue) (bases : List (List Basis)) (uses : List BlockUse) (values : AreValues (UseOf design signature.blocks) (instances_of design) uses) (numbers : List ℕ) (circuits : List (Option BoundNet)) (kept : AreKept uses numbers circuits) where
  abbrev h : Hierarchy
  h = hierarchy_of design signature bases

  pub number_at : (i : ℕ) (item : Item) → slice_get (instances_of design) i ≡ Some item → (number : ℕ) × (slice_get numbers i ≡ Some number) × (block_of h (model_in item) ≡ Some number)
  number_at i item at = let one_use = use_at k mul design signature bases uses values i item at in (one_use.0.number, kept.number i one_use.0 one_use.1, one_use.2.is_block.named)

  -- what is kept for an instance's block is the block's circuit
  pub one_kept : (i number : ℕ) (item : Item) (net : BoundNet) (list : List Basis) (circuit : Circuit) → slice_get (instances_of design) i ≡ Some item → slice_get numbers i ≡ Some number → IsKeptBlock k mul signature.blocks circuits bases number net list → IsBlockOf k mul h item circuit → circuit_in k mul net list ≡ circuit
  one_kept i number item net list circuit at got is block =
      let one_use = use_at k mul design signature bases uses values i item at in
      let there : slice_get numbers i ≡ Some one_use.0.number = kept.number i one_use.0 one_use.1 in
      let same : number ≡ one_use.0.number = cc in
      let held : slice_get circuits one_use.0.number ≡ Some (Some one_use.0.circuit) = kept.circuit i one_use.0 one_use.1 in
      let P : ℕ → Type 0 = λ n. slice_get circuits n ≡ Some (Some net) in
      let here : slice_get circuits one_use.0.number ≡ Some (Some net) = subst P same is.at in
      let nets : net ≡ one_use.0.circuit = cc in
      let read : bases_at h (number + 1) ≡ map elements_of list = ap (λ found. unwrap_or found []) (mapped_bases bases (number + 1) list is.bases_at) in
      let based : map elements_of list ≡ bases_at h (one_use.0.number + 1) = sym read ∙ ap (λ n. bases_at h (n + 1)) same in
      (λ j. circuit_with k mul (nets j) (based j)) ∙ one_block k mul h item (circuit_with k mul one_use.0.circuit (bases_at h (one_use.0.number + 1))) circuit (used_block k mul design signature bases item one_use.0 one_use.2) block
    where
      mapped_bases : (xs : List (List Basis)) (n : ℕ) (x : List Basis) → slice_get xs n ≡ Some x → slice_get (map (map elements_of) xs) n ≡ Some (map elements_of x)
      mapped_bases [] n x found = absurd (cc)
      mapped_bases (y ∷ xs) zero x found = let equal : y ≡ x = cc in ap (λ z. Some (map elements_of z)) equal
      mapped_bases (y ∷ xs) (suc n) x found = mapped_bases xs n x found

  module _ (bound : ℕ) (polys : List (Option Polynomial)) (are : ArePolys k mul signature.blocks circuits bases bound polys) (list : List Polynomial) (taken : AreTaken polys numbers list) where
    abbrev blocks : List Terms
    blocks = map (λ (q : Polynomial). q.terms) list

    -- the polynomial of an instance's block
    block_at : (i : ℕ) (block : Terms) (item : Item) → slice_get blocks i ≡ Some block → slice_get (instances_of design) i ≡ Some item → (number : ℕ) × (slice_get numbers i ≡ Some number) × IsBlockPoly k mul signature.blocks circuits bases bound number block
    block_at i block item got at =
        let poly = from_map (λ (q : Polynomial). q.terms) list i block got in
        let number = number_at i item at in
        let P : Terms → Type 0 = IsBlockPoly k mul signature.blocks circuits bases bound number.0 in
        (number.0, number.1, subst P poly.2 (are.each number.0 poly.0 (taken.each i number.0 poly.0 number.1 poly.1)))

    pub block_polys : HaveBlockPolys k mul h blocks
    block_polys i block item circuit got at is =
        let found = block_at i block item got at in
        let P : Circuit → Type 0 = λ c. IsOutputInWords c block in
        subst P (one_kept i found.0 item found.2.circuit found.2.list circuit at found.1 found.2.kept is) found.2.output

    pub blocks_long : length blocks ≡ length (instances_of design)
    blocks_long = mapped_long (λ (q : Polynomial). q.terms) list ∙ taken.long ∙ kept.long ∙ values.long

    module _ (ring : IsRing k mul) (field : HasNoZeroDivisors k mul) (given : IsGiven k h) where
      -- the input words of an instance's block are as many as its circuit's
      words_long : (i : ℕ) (item : Item) (feeds : List Feeder) (circuit : Circuit) → slice_get (instances_of design) i ≡ Some item → AreFeedsOf h i feeds → IsBlockOf k mul h item circuit → length circuit.words ≡ length feeds
      words_long i item feeds circuit at fed is =
          let named : List NamedWord = named_words is.block.words (bases_at h (is.number + 1)) in
          let instance : IsInstance h i item named = record { at = at; number = is.number; named = is.named; block = is.block; found = is.found; words_are = refl } in
          let same = same_words h i item fed.item named fed.words instance fed.instance in
          let facts = facts_of k mul ring field h is.model is.block.words (bases_at h (is.number + 1)) (given.blocks is.number is.block is.found) circuit is.is in
          inputs_long (net_list facts.0) (inputs_among named) circuit.words facts.2.inputs ∙ ap (λ ws. length (inputs_among ws)) same.1 ∙ sym fed.long

      pub wired_top : (rows : List (List Feeder)) (output : Feeder) (count : ℕ) → AreWired h rows output → HaveBlocks k mul h → count ≡ length (inputs_among (top_words h)) → count ≤ 8 → length (instances_of design) < 2 ^ 32 → IsWired k count blocks rows output
      wired_top rows output count wired have count_same few small =
          record {
            words = few;
            long = blocks_long ∙ sym wired.feeds.long;
            few = omega (arith, small, wired.feeds.long);
            blocks_are = each;
            feeds_are = λ i j feeds feed at got. among feed (wired.among i j feeds feed at got);
            output_is = among output wired.among_output;
          }
        where
          among : (feed : Feeder) → IsFeedIn h feed → IsFeedAmong count (length rows) feed
          among (InputWord w) less = omega (arith, less, count_same)
          among (OutputOf i) less = omega (arith, less, wired.feeds.long)

          each : (i : ℕ) (block : Terms) (feeds : List Feeder) → slice_get blocks i ≡ Some block → slice_get rows i ≡ Some feeds → IsBlockFor k feeds block
          each i block feeds got row =
              let item = get_below (instances_of design) i (omega (arith, wired.feeds.long, slice_get_within rows i feeds row)) in
              let circuit = have i item.0 item.1 in
              let found = block_at i block item.0 got item.1 in
              let same = one_kept i found.0 item.0 found.2.circuit found.2.list circuit.0 item.1 found.1 found.2.kept circuit.1 in
              let output_is = found.2.output in
              let P : ℕ → Type 0 = λ n. InFirstWords n block in
              let long : length (circuit_in k mul found.2.circuit found.2.list).words ≡ length feeds = ap (λ (c : Circuit). length c.words) same ∙ words_long i item.0 feeds circuit.0 item.1 (wired.feeds.each i feeds row) circuit.1 in
              record { reduced = output_is.reduced; words = subst P long output_is.words_alone; no_bits = output_is.no_bits; few = found.2.few }

-- ---- the output

-- the polynomial of a feed has the feed's value at each point
feed_same : (k : ℕ) (mul : ℕ → ℕ → ℕ) (words polys : List Terms) (n : ℕ) (feed : Feeder) → ((w : ℕ) (ts : Terms) → slice_get words w ≡ Some ts → IsPolynomialOf k mul (λ p. slice_index p.words w) ts) → IsFeedAmong (length words) n feed → (p : Point) → IsPoint k p → value mul p (feed_terms words polys feed) ≡ feed_at mul polys p feed
feed_same k mul words polys n (InputWord w) are among p at =
    let word = get_below words w among in
    ap (λ found. value mul p (unwrap_or found [])) word.1 ∙ (are w word.0 word.1).values p at
feed_same k mul words polys n (OutputOf i) are among p at = refl

module _ (k : ℕ) (mul : ℕ → ℕ → ℕ) (ring : IsRing k mul) (field : HasNoZeroDivisors k mul) (h : Hierarchy) (given : IsGiven k h) (rows : List (List Feeder)) (output : Feeder) (wired : AreWired h rows output) (have : HaveBlocks k mul h) (free : IsWithoutCycle rows) (blocks : List Terms) (made : HaveBlockPolys k mul h blocks) (count bound : ℕ) (count_same : count ≡ length (inputs_among (top_words h))) where
  -- the polynomial of a wired top is its output in words
  pub wired_output : (top : Circuit) (ts : Terms) → IsTop k mul h top → IsWiredPoly k mul count blocks rows bound output ts → IsOutputInWords top ts
  wired_output top ts is_top is =
      let levels = is.taken.by_level in
      let stand : (i : ℕ) → i < length rows → Has is.order i = λ i less. levels.2.each i (omega (arith, less, levels.1.long, graph_long rows)) in
      let polys = instances_made k mul h rows is.words blocks is.polys bound is.order wired.feeds made is.taken.words_are is.taken.ready stand is.done in
      composed_output k mul h rows is.polys top output ts ring field given wired.feeds have free polys is_top wired.feeds_output (record {
        reduced = is.is.reduced;
        values = λ p at. is.is.values p at ∙ feed_same k mul is.words is.polys (length (instances_of h.design)) output is.taken.words_are (among output wired.among_output is.taken.many) p at;
      })
    where
      among : (feed : Feeder) → IsFeedIn h feed → length is.words ≡ count → IsFeedAmong (length is.words) (length (instances_of h.design)) feed
      among (InputWord w) less many = omega (arith, less, many, count_same)
      among (OutputOf i) less many = less
