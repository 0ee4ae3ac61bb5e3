-- Instances that can be taken by level have values at each point.
use Rattle.std.proofs.Common.{◌≡◌, ◌∙◌, ap, ap₂, sym, refl, subst, inl, inr, ℕ, zero, suc, ◌<◌, ◌≤◌, ◌+◌, ◌^◌, List, [], ◌∷◌, length, map, replicate, set, take, Some, arith}
use Rattle.std.specs.Prelude.{slice_get, slice_index}
use Rattle.std.specs.List.{AllByRecursion}
use Rattle.std.proofs.Math.ListN.{length-replicate}
use Rattle.std.proofs.lemmas.Bool.{cases_order}
use Rattle.std.proofs.lemmas.List.{get_or-set_other, length-set}
use Rattle.std.proofs.lemmas.Option.{slice_get_within}
use Rattle.lists.specs.Lists.{Has}
use Rattle.lists.specs.laws.ListLaws.{length_map as mapped_long}
use Rattle.lists.specs.laws.ReadLaws.{from_map, get_below, got_set}
use Rattle.net_blif.specs.Top.{instances_of}
use Rattle.net_blif.specs.declared.item.Item.{Item}
use Rattle.net_flat.specs.Flat.{net_list}
use Rattle.gf_field.specs.Field.{HasNoZeroDivisors}
use Rattle.gf_field.specs.Ring.{IsRing}
use Rattle.poly_mixed.specs.Polynomial.{IsElement, IsPoint, Point}
use Rattle.circuit_model.specs.Circuit.{Circuit, IsInput}
use Rattle.circuit_model.specs.Out.{IsOut}
use Rattle.circuit_model.proofs.OutLemmas.{some_out}
use Rattle.compose_model.specs.Given.{IsGiven}
use Rattle.compose_model.specs.Hierarchy.{bases_at, top_words, Hierarchy, IsInstance}
use Rattle.compose_model.specs.NamedWord.{inputs_among, named_words, NamedWord}
use Rattle.compose_model.specs.Values.{feed_value, AreInstanceValues, IsBlockOf}
use Rattle.compose_model.specs.Wiring.{instances_among, AreAllFeeds, HaveBlocks}
use Rattle.compose_model.specs.declared.feeder.Feeder.{Feeder}
use Rattle.compose_model.specs.declared.feeder.Feeder.TheVariants.{InputWord, OutputOf}
use Rattle.compose_model.proofs.InputsLemmas.{inputs_long}
use Rattle.compose_model.proofs.OutputLemmas.{same_words}
use Rattle.compose_blocks.proofs.OneCircuitLemmas.{one_block}
use Rattle.compose_polys.proofs.PointLemmas.{word_element, zeros}
use Rattle.compose_stages.specs.InstanceStages.{top_elements}
use Rattle.compose_stages.proofs.BlockLemmas.{block_facts}
use Rattle.stage_model.proofs.InterpolationLemmas.{set_all}

taken_elements : (k n : ℕ) (xs : List ℕ) → AllByRecursion (IsElement k) xs → AllByRecursion (IsElement k) (take n xs)
taken_elements k zero xs all = tt
taken_elements k (suc n) [] all = tt
taken_elements k (suc n) (x ∷ xs) all = (all.0, taken_elements k n xs all.1)

module _ (k : ℕ) (mul : ℕ → ℕ → ℕ) (ring : IsRing k mul) (field : HasNoZeroDivisors k mul) (h : Hierarchy) (given : IsGiven k h) (rows : List (List Feeder)) (all : AreAllFeeds h rows) (blocks_are : HaveBlocks k mul h) (xs : List ℕ) (elements : AllByRecursion (IsElement k) xs) where
  small_feed : (es : List ℕ) → AllByRecursion (IsElement k) es → (feed : Feeder) → feed_value k mul h xs es feed < 2 ^ k
  small_feed es small (InputWord w) = word_element k xs w elements
  small_feed es small (OutputOf i) = word_element k es i small

  -- what feeds an instance is an input of its block
  fed_input : (i : ℕ) (item : Item) (feeds : List Feeder) (circuit : Circuit) (es : List ℕ) → AllByRecursion (IsElement k) es → slice_get (instances_of h.design) i ≡ Some item → slice_get rows i ≡ Some feeds → IsBlockOf k mul h item circuit → IsInput circuit (map (feed_value k mul h xs es) feeds)
  fed_input i item feeds circuit es small at row is =
      let words : List NamedWord = named_words is.block.words (bases_at h (is.number + 1)) in
      let instance : IsInstance h i item words = record { at = at; number = is.number; named = is.named; block = is.block; found = is.found; words_are = refl } in
      let found = block_facts k mul ring field h given item circuit is in
      let fed = all.each i feeds row in
      let same = same_words h i item fed.item words fed.words instance fed.instance in
      let long : length feeds ≡ length circuit.words = fed.long ∙ ap (λ ws. length (inputs_among ws)) (sym same.1) ∙ sym (inputs_long (net_list found.0) (inputs_among words) circuit.words found.1.inputs) in
      let P : ℕ → Type 0 = λ n. (x : ℕ) → Has (map (feed_value k mul h xs es) feeds) x → x < 2 ^ n in
      record {
        long = mapped_long (feed_value k mul h xs es) feeds ∙ long;
        elements = subst P (sym found.1.bits) (λ x has.
            let feed = from_map (feed_value k mul h xs es) feeds has.0 x has.1 in
            let Q : ℕ → Type 0 = λ y. y < 2 ^ k in
            subst Q feed.2 (small_feed es small feed.0));
      }

  -- feeds have the same values whatever value an instance has that is none of them
  feeds_kept : (es : List ℕ) (i e : ℕ) (feeds : List Feeder) → (Has (instances_among feeds) i → ⊥) → map (feed_value k mul h xs (set es i e)) feeds ≡ map (feed_value k mul h xs es) feeds
  feeds_kept es i e [] none = refl
  feeds_kept es i e (InputWord w ∷ feeds) none = ap (λ vs. slice_index xs w ∷ vs) (feeds_kept es i e feeds none)
  feeds_kept es i e (OutputOf j ∷ feeds) none =
      ap₂ (λ v vs. v ∷ vs)
      (get_or-set_other es i j e 0 (λ same. none (zero, ap Some same)))
      (feeds_kept es i e feeds (λ has. none (suc has.0, has.1)))

  -- instance i has its block's output at the values of what feeds it
  abbrev IsValue : List ℕ → ℕ → Type 0
  IsValue es i = (e : ℕ) (item : Item) (feeds : List Feeder) (circuit : Circuit) → slice_get es i ≡ Some e → slice_get (instances_of h.design) i ≡ Some item → slice_get rows i ≡ Some feeds → IsBlockOf k mul h item circuit → IsOut circuit (map (feed_value k mul h xs es) feeds) e

  module _ (order : List ℕ) (inside : (m i : ℕ) → slice_get order m ≡ Some i → i < length rows) (once : (m n i : ℕ) → slice_get order m ≡ Some i → slice_get order n ≡ Some i → m ≡ n) (after : (m i j : ℕ) (feeds : List Feeder) → slice_get order m ≡ Some i → slice_get rows i ≡ Some feeds → Has (instances_among feeds) j → (n : ℕ) × (n < m) × (slice_get order n ≡ Some j)) where
    -- the first n instances of the order have their values
    record AreFirst (n : ℕ) (es : List ℕ) : Type 0 where
      pub long : length es ≡ length rows
      pub small : AllByRecursion (IsElement k) es
      pub each : (m i : ℕ) → m < n → slice_get order m ≡ Some i → IsValue es i

    module _ (n i : ℕ) (here : slice_get order n ≡ Some i) (es : List ℕ) (first : AreFirst n es) (own : List Feeder) (own_row : slice_get rows i ≡ Some own) (it : Item) (own_item : slice_get (instances_of h.design) i ≡ Some it) (block : Circuit) (own_block : IsBlockOf k mul h it block) (v : ℕ) (out : IsOut block (map (feed_value k mul h xs es) own) v) where
      not_fed : (m j : ℕ) (feeds : List Feeder) → m ≤ n → slice_get order m ≡ Some j → slice_get rows j ≡ Some feeds → Has (instances_among feeds) i → ⊥
      not_fed m j feeds low at_m row has = let earlier = after m j i feeds at_m row has in absurd (omega (arith, earlier.1, once earlier.0 n i earlier.2 here, low))

      own_value : IsValue (set es i v) i
      own_value e item feeds circuit at_e at_item row is =
          let item_own : slice_get (instances_of h.design) i ≡ Some it = own_item in
          let row_own : slice_get rows i ≡ Some own = own_row in
          let same_item : it ≡ item = cc in
          let same_row : own ≡ feeds = cc in
          let P : Item → Type 0 = λ t. IsBlockOf k mul h t block in
          let same_block : block ≡ circuit = one_block k mul h item block circuit (subst P same_item own_block) is in
          let kept : map (feed_value k mul h xs es) own ≡ map (feed_value k mul h xs (set es i v)) own = sym (feeds_kept es i v own (not_fed n i own (omega arith) here own_row)) in
          let Q : List ℕ → Type 0 = λ ys. IsOut block ys v in
          let R : List Feeder → Type 0 = λ fs. IsOut block (map (feed_value k mul h xs (set es i v)) fs) v in
          let S : Circuit → Type 0 = λ c. IsOut c (map (feed_value k mul h xs (set es i v)) feeds) v in
          let T : ℕ → Type 0 = λ x. IsOut circuit (map (feed_value k mul h xs (set es i v)) feeds) x in
          elim (got_set es i v i e at_e) [
            | inl new ↦ subst T (sym new.1) (subst S same_block (subst R same_row (subst Q kept out)))
            | inr old ↦ absurd (old.0 refl)
          ]

      other_value : (m j : ℕ) → m < n → slice_get order m ≡ Some j → IsValue (set es i v) j
      other_value m j low at_m e item feeds circuit at_e at_item row is =
          let kept : map (feed_value k mul h xs es) feeds ≡ map (feed_value k mul h xs (set es i v)) feeds = sym (feeds_kept es i v feeds (not_fed m j feeds (omega (arith, low)) at_m row)) in
          let Q : List ℕ → Type 0 = λ ys. IsOut circuit ys e in
          elim (got_set es i v j e at_e) [
            | inl new ↦
                let U : ℕ → Type 0 = λ l. slice_get order m ≡ Some l in
                absurd (omega (arith, low, once m n i (subst U new.0 at_m) here))
            | inr old ↦ subst Q kept (first.each m j low at_m e item feeds circuit old.1 at_item row is)
          ]

      one_more : v < 2 ^ k → AreFirst (n + 1) (set es i v)
      one_more less = record { long = length-set es i v ∙ first.long; small = set_all k es i v first.small less; each = each }
        where
          each : (m j : ℕ) → m < n + 1 → slice_get order m ≡ Some j → IsValue (set es i v) j
          each m j low at_m =
              elim (cases_order m n) [
                | inl same ↦
                    let P : ℕ → Type 0 = λ l. slice_get order l ≡ Some j in
                    let at_n : slice_get order n ≡ Some j = subst P same at_m in
                    let at_i : slice_get order n ≡ Some i = here in
                    let equal : i ≡ j = cc in
                    let Q : ℕ → Type 0 = λ l. IsValue (set es i v) l in
                    subst Q equal own_value
                | inr apart ↦ elim apart [ inl lower ↦ other_value m j lower at_m | inr high ↦ absurd (omega (arith, low, high)) ]
              ]

    -- the next instance has a value
    next_first : (n : ℕ) → n < length order → (es : List ℕ) → AreFirst n es → (more : List ℕ) × AreFirst (n + 1) more
    next_first n less es first =
        let here = get_below order n less in
        let own = get_below rows here.0 (inside n here.0 here.1) in
        let it = get_below (instances_of h.design) here.0 (omega (arith, all.long, slice_get_within rows here.0 own.0 own.1)) in
        let block = blocks_are here.0 it.0 it.1 in
        let facts = (block_facts k mul ring field h given it.0 block.0 block.1).1 in
        let out = some_out block.0 (map (feed_value k mul h xs es) own.0) facts.well (fed_input here.0 it.0 own.0 block.0 es first.small it.1 own.1 block.1) in
        let P : ℕ → Type 0 = λ l. out.0 < 2 ^ l in
        (set es here.0 out.0, one_more n here.0 here.1 es first own.0 own.1 it.0 it.1 block.0 block.1 out.0 out.1 (subst P facts.bits out.2))

    some_first : (n : ℕ) → n ≤ length order → (es : List ℕ) × AreFirst n es
    some_first zero low = (replicate (length rows) 0, record { long = length-replicate {A = ℕ} (length rows) 0; small = zeros k (length rows); each = λ m i less at_m. absurd (omega (arith, less)) })
    some_first (suc n) low =
        let before = some_first n (omega (arith, low)) in
        let more = next_first n (omega (arith, low)) before.0 before.1 in
        let next : n + 1 ≡ suc n = omega arith in
        let P : ℕ → Type 0 = λ l. AreFirst l more.0 in
        (more.0, subst P next more.1)

    -- where all stand in the order, all have values
    pub some_values : ((i : ℕ) → i < length rows → Has order i) → (es : List ℕ) × AreInstanceValues k mul h rows xs es
    some_values stand =
        let found = some_first (length order) (omega arith) in (
          found.0,
          record {
            long = found.1.long ∙ all.long;
            each = λ i e item feeds circuit at_e at_item row is.
                let place = stand i (slice_get_within rows i feeds row) in
                found.1.each place.0 i (slice_get_within order place.0 i place.1) place.1 e item feeds circuit at_e at_item row is;
          },
        )

-- at each point
pub values_at : (k : ℕ) (mul : ℕ → ℕ → ℕ) → IsRing k mul → HasNoZeroDivisors k mul → (h : Hierarchy) → IsGiven k h → (rows : List (List Feeder)) → AreAllFeeds h rows → HaveBlocks k mul h → (order : List ℕ) → ((m i : ℕ) → slice_get order m ≡ Some i → i < length rows) → ((m n i : ℕ) → slice_get order m ≡ Some i → slice_get order n ≡ Some i → m ≡ n)
    → ((m i j : ℕ) (feeds : List Feeder) → slice_get order m ≡ Some i → slice_get rows i ≡ Some feeds → Has (instances_among feeds) j → (n : ℕ) × (n < m) × (slice_get order n ≡ Some j)) → ((i : ℕ) → i < length rows → Has order i) → (p : Point) → IsPoint k p → (es : List ℕ) × AreInstanceValues k mul h rows (top_elements h p) es
values_at k mul ring field h given rows all blocks_are order inside once after stand p at = some_values k mul ring field h given rows all blocks_are (top_elements h p) (taken_elements k (length (inputs_among (top_words h))) p.words at.elements) order inside once after stand
