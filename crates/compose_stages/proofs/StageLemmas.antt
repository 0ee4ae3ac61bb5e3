-- The stages of instances whose feeds are polynomials, as functions of the top's words.
use Rattle.std.proofs.Common.{◌≡◌, ◌∙◌, ap, sym, refl, subst, inl, inr, ℕ, ◌<◌, ◌≤◌, ◌+◌, ◌-◌, List, length, Some, arith}
use Rattle.std.specs.Prelude.{slice_get, slice_index}
use Rattle.std.proofs.lemmas.Option.{slice_get_within}
use Rattle.lists.specs.Lists.{Has}
use Rattle.lists.specs.laws.ReadLaws.{get_below}
use Rattle.net_core.specs.Order.{IsBefore}
use Rattle.net_blif.specs.Top.{instances_of}
use Rattle.gf_field.specs.Field.{HasNoZeroDivisors}
use Rattle.gf_field.specs.Ring.{IsRing}
use Rattle.poly_mixed.specs.Polynomial.{value, IsPoint, Point, Terms}
use Rattle.poly_mixed.specs.declared.stage.Stage.{Stage}
use Rattle.poly_mixed.specs.declared.stage.Stage.TheVariants.{Cut, WordProduct, WordSum, SpecProduct, SpecSum, InstanceProduct, InstanceSum}
use Rattle.stage_model.specs.Stage.{HasSize, IsWithin}
use Rattle.term_expand.specs.Sums.{SumOfProducts}
use Rattle.compose_polys.specs.Instance.{block_terms}
use Rattle.compose_polys.specs.InstanceListing.{instance_stage_of, is_instance_stage}
use Rattle.compose_model.specs.Given.{IsGiven}
use Rattle.compose_model.specs.Hierarchy.{top_words, Hierarchy}
use Rattle.compose_model.specs.NamedWord.{inputs_among}
use Rattle.compose_model.specs.Values.{AreInstanceValues}
use Rattle.compose_model.specs.Wiring.{feeding_graph, AreAllFeeds, HaveBlocks}
use Rattle.compose_model.specs.declared.feeder.Feeder.{Feeder}
use Rattle.compose_polys.specs.LevelOrder.{IsLevelOrder}
use Rattle.compose_polys.specs.Instances.{AreDone, IsFirstOver, IsReady}
use Rattle.compose_polys.specs.Words.{values_of, AreWordPolys}
use Rattle.compose_polys.specs.InstancePolys.{HaveBlockPolys}
use Rattle.compose_stages.specs.InstanceStages.{instance_in, is_earlier_stage, top_elements, AreInstancesWithin, IsBlockPoly, IsEarlierInstance, IsFirstOfInstances, IsStageName, IsStageOf}
use Rattle.compose_stages.proofs.BlockLemmas.{one_poly}
use Rattle.compose_stages.proofs.OrderLemmas.{graph_long, no_cycle, one_level, stands_before}
use Rattle.compose_stages.proofs.SomeValuesLemmas.{values_at}
use Rattle.compose_stages.proofs.ValueLemmas.{fed_same}

-- ---- names

pub number_of : (name : Stage) (n : ℕ) (block : SumOfProducts) → is_instance_stage n block name → instance_in name ≡ n
number_of (InstanceProduct m s j) n block is = is.0
number_of (InstanceSum m s) n block is = is.0
number_of (Cut t) n block is = absurd is
number_of (WordProduct w s j) n block is = absurd is
number_of (WordSum w s) n block is = absurd is
number_of (SpecProduct s j) n block is = absurd is
number_of (SpecSum s) n block is = absurd is

-- a stage at feeds is one at their values
at_values : (mul : ℕ → ℕ → ℕ) (feeds : Point → List ℕ) (block : SumOfProducts) (name : Stage) (p : Point) (e : ℕ) → instance_stage_of mul feeds block name p e → instance_stage_of mul (λ q. feeds p) block name p e
at_values mul feeds block (InstanceProduct m s j) p e is = record { place = is.place; term = is.term; number = is.number; at = is.at; is = is.is }
at_values mul feeds block (InstanceSum m s) p e is = is
at_values mul feeds block (Cut t) p e is = absurd is
at_values mul feeds block (WordProduct w s j) p e is = absurd is
at_values mul feeds block (WordSum w s) p e is = absurd is
at_values mul feeds block (SpecProduct s j) p e is = absurd is
at_values mul feeds block (SpecSum s) p e is = absurd is

-- ---- the order

-- an instance that comes before another one stands before it
pub earlier_place : (h : Hierarchy) (rows : List (List Feeder)) (order : List ℕ) (m n i j : ℕ) → AreAllFeeds h rows → IsLevelOrder (feeding_graph rows) order → slice_get order m ≡ Some i → slice_get order n ≡ Some j → i < length rows → j < length rows → IsEarlierInstance rows (i + 1) (j + 1) → m < n
earlier_place h rows order m n i j all by_level at_i at_j less_i less_j earlier =
    let free = no_cycle h rows order all by_level in
    let level : (a : ℕ) → a < length rows → slice_index earlier.levels (a + 1 - 1) ≡ slice_index by_level.0 a = (λ a less.
    let back : a + 1 - 1 ≡ a = omega arith in
    ap (slice_index earlier.levels) back ∙ one_level (feeding_graph rows) earlier.levels by_level.0 earlier.are by_level.1 a (free a less)) in
    stands_before by_level.0 order by_level.2 m n i j at_i at_j (moved i j (slice_index earlier.levels (i + 1 - 1)) (slice_index earlier.levels (j + 1 - 1)) (slice_index by_level.0 i) (slice_index by_level.0 j) (level i less_i) (level j less_j) earlier.before)
  where
    moved : (i j l r x y : ℕ) → l ≡ x → r ≡ y → IsBefore l (i + 1) r (j + 1) → IsBefore x i y j
    moved i j l r x y a b (inl low) = inl (omega (arith, a, b, low))
    moved i j l r x y a b (inr tie) = inr (omega (arith, a, b, tie.0), omega (arith, tie.1))

module _ (k : ℕ) (mul : ℕ → ℕ → ℕ) (ring : IsRing k mul) (field : HasNoZeroDivisors k mul) (h : Hierarchy) (given : IsGiven k h) (rows : List (List Feeder)) (all : AreAllFeeds h rows) (blocks_are : HaveBlocks k mul h) (words blocks : List Terms) (made : HaveBlockPolys k mul h blocks) (words_are : AreWordPolys k mul words) (count : length words ≡ length (inputs_among (top_words h))) (bound : ℕ) (order : List ℕ) (ready : IsReady k words blocks rows order) (by_level : IsLevelOrder (feeding_graph rows) order) where
  stand : (i : ℕ) → i < length rows → Has order i
  stand i less = by_level.2.each i (omega (arith, less, by_level.1.long, graph_long rows))

  some_at : (p : Point) → IsPoint k p → (es : List ℕ) × AreInstanceValues k mul h rows (top_elements h p) es
  some_at = values_at k mul ring field h given rows all blocks_are order ready.inside ready.once ready.after stand

  -- the polynomial of an instance's block
  block_at : (i : ℕ) (block : Terms) → i < length rows → slice_get blocks i ≡ Some block → IsBlockPoly k mul h (i + 1) block
  block_at i block less at =
      let item = get_below (instances_of h.design) i (omega (arith, less, all.long)) in
      let circuit = blocks_are i item.0 item.1 in
      record { place = i; number = refl; item = item.0; at = item.1; circuit = circuit.0; block_is = circuit.1; output = made i block item.0 circuit.0 at item.1 circuit.1 }

  module _ (polys : List Terms) (n : ℕ) (done : AreDone k mul words blocks rows bound order n polys) (m i : ℕ) (low : m ≤ n) (here : slice_get order m ≡ Some i) (block : Terms) (at_block : slice_get blocks i ≡ Some block) (feeds : List Feeder) (row : slice_get rows i ≡ Some feeds) where
    has_block : (name : Stage) → instance_in name ≡ i + 1 → IsBlockPoly k mul h (instance_in name) block
    has_block name number = let P : ℕ → Type 0 = λ l. IsBlockPoly k mul h l block in subst P (sym number) (block_at i block (slice_get_within rows i feeds row) at_block)

    -- a stage of an instance that is done, or of the next one
    stage_at : (name : Stage) → instance_in name ≡ i + 1 → (p : Point) → IsPoint k p → (e : ℕ) → instance_stage_of mul (values_of mul words polys feeds) (block_terms block) name p e → IsStageOf k mul h rows name p e
    stage_at name number p at e is =
        let some = some_at p at in
        record {
          block = block;
          has = has_block name number;
          ys = values_of mul words polys feeds p;
          fed = record {
            es = some.0;
            values = some.1;
            place = i;
            number = sym number;
            feeds = feeds;
            row = row;
            are = fed_same k mul ring field h given rows all blocks_are words blocks polys made words_are count bound order ready n done p at some.0 some.1 m i feeds low here row;
          };
          is = at_values mul (values_of mul words polys feeds) (block_terms block) name p e is;
        }

    size_at : (name : Stage) → instance_in name ≡ i + 1 → (size : ℕ) → HasSize k mul (instance_stage_of mul (values_of mul words polys feeds) (block_terms block) name) size → HasSize k mul (IsStageOf k mul h rows name) size
    size_at name number size has = record {
      terms = has.terms;
      is = record { reduced = has.is.reduced; values = λ p at. stage_at name number p at (value mul p has.terms) (has.is.values p at) };
      size = has.size;
    }

    within_at : (name : Stage) → instance_in name ≡ i + 1 → IsWithin k mul (instance_stage_of mul (values_of mul words polys feeds) (block_terms block) name) bound → IsWithin k mul (IsStageOf k mul h rows name) bound
    within_at name number within = record { size = within.size; has = size_at name number within.size within.has; within = within.within }

    -- the name of a stage of this instance, by its own terms
    own_name : (name : Stage) → (is : IsStageName k mul h name) → instance_in name ≡ i + 1 → is_instance_stage (i + 1) (block_terms block) name
    own_name name is number =
        let same : is.block ≡ block = one_poly k mul ring field h given (instance_in name) is.block block is.has (has_block name number) in
        let P : Terms → Type 0 = λ ts. is_instance_stage (instance_in name) (block_terms ts) name in
        let Q : ℕ → Type 0 = λ l. is_instance_stage l (block_terms block) name in
        subst Q number (subst P same is.is)

  -- the place of a named instance
  place_of : (name : Stage) → (is : IsStageName k mul h name) → is.has.place < length rows
  place_of name is = omega (arith, all.long, slice_get_within (instances_of h.design) is.has.place is.has.item is.has.at)

  -- no stage of an instance that is done is over the bound
  done_within : (polys : List Terms) (n : ℕ) → AreDone k mul words blocks rows bound order n polys → (name : Stage) → (is : IsStageName k mul h name) → (m : ℕ) → m < n → slice_get order m ≡ Some is.has.place → IsWithin k mul (IsStageOf k mul h rows name) bound
  done_within polys n done name is m less at =
      let i : ℕ = is.has.place in
      let was = done.each m i less at in
      let low : m ≤ n = omega (arith, less) in
      within_at polys n done m i low at was.block was.block_at was.feeds was.row name (sym is.has.number)
      (was.within name (own_name polys n done m i low at was.block was.block_at was.feeds was.row name is (sym is.has.number)))

  pub all_done : (polys : List Terms) → AreDone k mul words blocks rows bound order (length order) polys → AreInstancesWithin k mul h rows bound
  all_done polys done name is =
      let place = stand is.has.place (place_of name is) in
      done_within polys (length order) done name is place.0 (slice_get_within order place.0 is.has.place place.1) place.1

  -- the stage at which an instance is refused is the first over the bound
  module _ (stage : Stage) (size : ℕ) (first : IsFirstOver k mul words blocks rows bound order stage size) where
    number : instance_in stage ≡ first.i + 1
    number = number_of stage (first.i + 1) (block_terms first.block) first.over.listed

    before : (other : Stage) → IsStageName k mul h other → is_earlier_stage rows other stage → IsWithin k mul (IsStageOf k mul h rows other) bound
    before other is (inl earlier) =
        let i : ℕ = is.has.place in
        let place = stand i (place_of other is) in
        let P : ℕ → ℕ → Type 0 = λ l r. IsEarlierInstance rows l r in
        let Q : ℕ → Type 0 = λ l. P l (instance_in stage) in
        let R : ℕ → Type 0 = λ r. P (i + 1) r in
        let less = earlier_place h rows order place.0 first.n i first.i all by_level place.1 first.here (place_of other is) (slice_get_within rows first.i first.feeds first.row) (subst R number (subst Q (sym is.has.number) earlier)) in
        done_within first.polys first.n first.before other is place.0 less place.1
    before other is (inr same) =
        let own : instance_in other ≡ first.i + 1 = same.0 ∙ number in
        within_at first.polys first.n first.before first.n first.i (omega arith) first.here first.block first.block_at first.feeds first.row other own
        (first.over.before other (own_name first.polys first.n first.before first.n first.i (omega arith) first.here first.block first.block_at first.feeds first.row other is own) same.1)

    pub refused_first : IsFirstOfInstances k mul h rows bound stage size
    refused_first =
        let Q : ℕ → Type 0 = λ l. is_instance_stage l (block_terms first.block) stage in
        record {
          listed = record {
            block = first.block;
            has = has_block first.polys first.n first.before first.n first.i (omega arith) first.here first.block first.block_at first.feeds first.row stage number;
            is = subst Q (sym number) first.over.listed;
          };
          size = size_at first.polys first.n first.before first.n first.i (omega arith) first.here first.block first.block_at first.feeds first.row stage number size first.over.size;
          over = first.over.over;
          before = before;
        }
