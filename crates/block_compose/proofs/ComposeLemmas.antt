-- The steps of a composition, one after another.
use Rattle.std.proofs.Common.{◌≡◌, ◌≢◌, ◌∙◌, ap, sym, refl, subst, inl, inr, ℕ, ◌<◌, ◌^◌, All, Global, List, [], ◌∷◌, Vec, length, map, Option, Some, Ok, arith}
use Rattle.std.specs.Prelude.{slice_get}
use Rattle.std.proofs.lemmas.Option.{slice_get_within}
use Rattle.lists.specs.laws.HasLaws.{all_from}
use Rattle.lists.specs.laws.ListLaws.{length_map as mapped_long}
use Rattle.lists.specs.laws.ReadLaws.{get_below, mapped_at}
use Rattle.outcome.specs.ForEach.{AreValues}
use Rattle.outcome.specs.Outcome.{Outcome}
use Rattle.graph_core.specs.Arranged.{IsArranged}
use Rattle.graph_core.specs.Cycle.{IsCycleOf}
use Rattle.graph_core.specs.Graph.{Graph, IsCycle}
use Rattle.graph_core.proofs.GraphLemmas.{edges_within}
use Rattle.graph_core.proofs.LawLemmas.{arranged_grounded, is_cycle}
use Rattle.net_words.specs.Binding.{BoundNet}
use Rattle.net_words.specs.declared.word.WordText.{WordText}
use Rattle.net_signature.specs.Body.{BlockValue}
use Rattle.net_signature.specs.Signature.{SignatureValue}
use Rattle.net_blif.specs.Design.{ModelValue}
use Rattle.net_blif.specs.Top.{instances_of, model_in}
use Rattle.net_blif.specs.declared.item.Item.{Item}
use Rattle.gf_field.specs.Field.{HasNoZeroDivisors}
use Rattle.gf_field.specs.Ring.{IsRing}
use Rattle.gf_basis.specs.BasisParts.{elements_of}
use Rattle.gf_basis.specs.declared.bases.Basis.{Basis}
use Rattle.poly_mixed.specs.Polynomial.{Polynomial, Terms}
use Rattle.poly_mixed.specs.declared.stage.ReduceFault.{ReduceFault}
use Rattle.poly_mixed.specs.declared.stage.ReduceFault.TheVariants as stages
use Rattle.circuit_model.specs.Circuit.{Circuit}
use Rattle.stage_model.specs.CircuitListing.{circuit_stages}
use Rattle.stage_model.specs.Listing.{AreAllWithin, IsOver}
use Rattle.stage_model.proofs.ListingLemmas.{all_of_both, earlier_over, later_over}
use Rattle.abstraction.specs.Stages.{joined, stages_in, IsFirstRefusal}
use Rattle.compose_polys.specs.LevelOrder.{first_numbers, IsLevelOrder}
use Rattle.compose_polys.proofs.AfterLemmas.{all_stand, level_arranged}
use Rattle.compose_model.specs.Given.{IsGiven}
use Rattle.compose_model.specs.Hierarchy.{block_of, top_words, Hierarchy}
use Rattle.compose_model.specs.NamedWord.{inputs_among}
use Rattle.compose_model.specs.Values.{IsBlockOf, IsTop}
use Rattle.compose_model.specs.Wiring.{feeding_graph, instances_among, HaveBlocks, IsWithoutCycle}
use Rattle.compose_model.specs.declared.feeder.Feeder.{Feeder}
use Rattle.compose_model.specs.declared.feeder.Feeder.TheVariants.{InputWord, OutputOf}
use Rattle.compose_polys.specs.Words.{IsFeedAmong}
use Rattle.compose_polys.specs.InstancePolys.{HaveBlockPolys}
use Rattle.compose_polys.specs.Wired.{IsStageFault, IsWiredPoly}
use Rattle.compose_polys.proofs.WiredLemmas.{among_instances, graph_inside}
use Rattle.compose_blocks.specs.Plan.{UsesOf}
use Rattle.compose_blocks.specs.Planned as planned
use Rattle.compose_blocks.specs.Planned.{AreKept}
use Rattle.compose_blocks.specs.Uses.{BlockUse, UseOf}
use Rattle.compose_blocks.specs.declared.plan_fault.PlanFault.{PlanFault}
use Rattle.compose_blocks.specs.declared.plan_fault.PlanFault.TheVariants as plans
use Rattle.compose_blocks.proofs.ListLemmas.{lifted}
use Rattle.compose_wiring.specs.Answer.{AreWired, IsFeedIn}
use Rattle.compose_wiring.specs.Instanced.{elements_in, hierarchy}
use Rattle.compose_wiring.specs.Refusal.{IsWiringFault}
use Rattle.compose_wiring.specs.declared.fault.WiringFault.{WiringFault}
use Rattle.compose_wiring.specs.declared.fault.WiringFault.TheVariants as wirings
use Rattle.compose_stages.specs.BlockStages.{block_stages, AreBlocksWithin, AreEarlierWithin, IsFirstUse, IsUsedBlock}
use Rattle.compose_stages.specs.InstanceStages.{instance_stages}
use Rattle.compose_stages.proofs.JoinLemmas.{bound_stages_over, bound_stages_within}
use Rattle.compose_stages.proofs.StageLemmas.{all_done, refused_first}
use Rattle.compose_stages.proofs.UsedLemmas.{block_over, blocks_within}
use Rattle.block_compose.specs.Composed.{fault_of_plan, fault_of_wiring, hierarchy_of, refusal, Composes, HasNoCycle, IsBlockOver, IsComposed, MayFault, StagesOf}
use Rattle.block_compose.specs.declared.fault.ComposeFault.{ComposeFault}
use Rattle.block_compose.specs.private.Blocks.{block_fault_of, instance_fault_of, ArePolys, HasPoly, IsBlockPoly, IsFirstBlockOver}
use Rattle.block_compose.specs.private.Planned.{ComposesPlanned}
use Rattle.block_compose.proofs.GivenLemmas.{have_blocks}
use Rattle.block_compose.proofs.StageLemmas.{number_at, one_kept, wired_output}
use Rattle.compose_stages.proofs.OrderLemmas.{graph_long}

-- ---- cycles

among_rows : (h : Hierarchy) (n : ℕ) (feed : Feeder) → n ≡ length (instances_of h.design) → IsFeedIn h feed → IsFeedAmong (length (inputs_among (top_words h))) n feed
among_rows h n (InputWord w) same less = less
among_rows h n (OutputOf i) same less = omega (arith, less, same)

-- what feeds an instance or the output word is a word or an instance
pub among_wired : (h : Hierarchy) (rows : List (List Feeder)) (output : Feeder) → AreWired h rows output → (i j : ℕ) (feeds : List Feeder) (feed : Feeder) → slice_get rows i ≡ Some feeds → slice_get feeds j ≡ Some feed → IsFeedAmong (length (inputs_among (top_words h))) (length rows) feed
among_wired h rows output wired i j feeds feed at got = among_rows h (length rows) feed wired.feeds.long (wired.among i j feeds feed at got)

-- instances that stand in an order by level feed each other in no cycle
pub no_cycle : (h : Hierarchy) (rows : List (List Feeder)) (output : Feeder) (order : List ℕ) → AreWired h rows output → IsLevelOrder (feeding_graph rows) order → IsWithoutCycle rows
no_cycle h rows output order wired by_level i less =
    let graph : Graph = feeding_graph rows in
    let inside = graph_inside (length (inputs_among (top_words h))) rows (among_wired h rows output wired) in
    let arranged : IsArranged graph (first_numbers (length graph)) order = level_arranged graph order inside by_level in
    arranged_grounded graph (first_numbers (length graph)) order i arranged (all_stand graph order arranged i (omega (arith, less, graph_long rows)))

-- the first point of a cycle is one of the graph
pub cycle_first : (graph : Graph) (cycle : List ℕ) → IsCycle graph cycle → (a : ℕ) × (slice_get cycle 0 ≡ Some a) × (a < length graph)
cycle_first graph [] is = absurd is
cycle_first graph (a ∷ []) is = (a, refl, edges_within graph a is.0 a is.1)
cycle_first graph (a ∷ c ∷ rest) is = (a, refl, edges_within graph a is.0.0 c is.0.1)

-- the first instance of a cycle is one of the top
pub first_of_cycle : (rows : List (List Feeder)) (roots cycle : List ℕ) → IsCycleOf (feeding_graph rows) roots cycle → (a : ℕ) × (slice_get cycle 0 ≡ Some a) × (a < length rows)
first_of_cycle rows roots cycle is =
    let found = cycle_first (feeding_graph rows) cycle (is_cycle (feeding_graph rows) roots cycle is) in
    (found.0, found.1, omega (arith, found.2, graph_long rows))

-- ---- hierarchies

elements_same : (lists : List (Vec Basis Global)) → elements_in lists ≡ map (map elements_of) (map (λ (list : Vec Basis Global). list.items) lists)
elements_same [] = refl
elements_same (list ∷ lists) = ap (λ rest. map elements_of list.items ∷ rest) (elements_same lists)

pub same_hierarchy : (design : List ModelValue) (signature : SignatureValue) (lists : List (Vec Basis Global)) → hierarchy design signature.words signature.blocks lists ≡ hierarchy_of design signature (map (λ (list : Vec Basis Global). list.items) lists)
same_hierarchy design signature lists = λ i. record { design = design; words = signature.words; blocks = signature.blocks; bases = elements_same lists i }

pub hierarchy_is : (design : List ModelValue) (signature : SignatureValue) (words : List WordText) (blocks : List BlockValue) (lists : List (Vec Basis Global)) (bases : List (List Basis)) → words ≡ signature.words → blocks ≡ signature.blocks → map (λ (list : Vec Basis Global). list.items) lists ≡ bases → hierarchy design words blocks lists ≡ hierarchy_of design signature bases
hierarchy_is design signature words blocks lists bases of_words of_blocks of_bases =
    (λ i. hierarchy design (of_words i) (of_blocks i) lists) ∙ same_hierarchy design signature lists ∙ ap (λ bs. hierarchy_of design signature bs) of_bases

-- the instances that feed an instance are instances of the top
pub rows_inside : (h : Hierarchy) (vectors : List (Vec Feeder Global)) (output : Feeder) → AreWired h (map (λ (v : Vec Feeder Global). v.items) vectors) output → (i : ℕ) (row : Vec Feeder Global) → slice_get vectors i ≡ Some row → All (λ a. a < length vectors) (instances_among row.items)
rows_inside h vectors output wired i row got =
    let rows : List (List Feeder) = map (λ (v : Vec Feeder Global). v.items) vectors in
    let at : slice_get rows i ≡ Some row.items = mapped_at (λ (v : Vec Feeder Global). v.items) vectors i row got in
    all_from (λ a. a < length vectors) (instances_among row.items) (λ a has. omega (arith, among_instances (length (inputs_among (top_words h))) (length rows) row.items (λ j feed at_j. among_wired h rows output wired i j row.items feed at at_j) has.0 a has.1, mapped_long (λ (v : Vec Feeder Global). v.items) vectors))

pub rows_few : (h : Hierarchy) (vectors : List (Vec Feeder Global)) (output : Feeder) → AreWired h (map (λ (v : Vec Feeder Global). v.items) vectors) output → length (instances_of h.design) < 2 ^ 32 → length vectors < 2 ^ 32
rows_few h vectors output wired few = omega (arith, few, wired.feeds.long, mapped_long (λ (v : Vec Feeder Global). v.items) vectors)

-- ---- the whole, step by step

module _ (k : ℕ) (mul : ℕ → ℕ → ℕ) (design : List ModelValue) (signature : SignatureValue) (bases : List (List Basis)) (bound : ℕ) where
  abbrev h : Hierarchy
  h = hierarchy_of design signature bases

  abbrev Whole : ComposeFault → Type 0
  Whole = MayFault (Composes k mul design signature bases bound)

  abbrev Rest : Outcome ComposeFault Terms
  Rest = ComposesPlanned k mul h bound

  pub plan_refused : (fault : PlanFault) → planned.MayFault (UsesOf design signature) fault → Whole (fault_of_plan fault)
  plan_refused plans.OutOfMemory is = tt
  plan_refused fault is = inl (fault, is, refl)

  module _ (uses : List BlockUse) (are : UsesOf design signature (Ok uses)) where
    pub planned_refused : (fault : ComposeFault) → MayFault Rest fault → Whole fault
    planned_refused fault may = lifted Rest (Composes k mul design signature bases bound) (λ e is. inr (uses, are, is)) (refusal fault) may

    pub composed : (ts : Terms) → Rest (Ok ts) → Composes k mul design signature bases bound (Ok ts)
    composed ts is = (uses, are, is)

  pub wiring_refused : (fault : WiringFault) → IsWiringFault h fault → MayFault Rest (fault_of_wiring fault)
  wiring_refused wirings.OutOfMemory is = tt
  wiring_refused fault is = inl (fault, is, refl)

  module _ (rows : List (List Feeder)) (output : Feeder) (wired : AreWired h rows output) where
    pub cycle_refused : (fault : ComposeFault) → MayFault (HasNoCycle rows) fault → MayFault Rest fault
    cycle_refused fault may = lifted (HasNoCycle rows) Rest (λ e is. inr ((rows, output), wired, inl is)) (refusal fault) may

    module _ (free : IsWithoutCycle rows) where
      pub stage_refused : (fault : ComposeFault) → MayFault (StagesOf k mul h rows bound) fault → MayFault Rest fault
      stage_refused fault may = lifted (StagesOf k mul h rows bound) Rest (λ e is. inr ((rows, output), wired, inr (tt, free, is))) (refusal fault) may

      pub planned_composed : (ts : Terms) → StagesOf k mul h rows bound (Ok ts) → Rest (Ok ts)
      planned_composed ts is = ((rows, output), wired, (tt, free, is))

-- ---- the stages

module _ (k : ℕ) (mul : ℕ → ℕ → ℕ) (design : List ModelValue) (signature : SignatureValue) (bases : List (List Basis)) (uses : List BlockUse) (values : AreValues (UseOf design signature.blocks) (instances_of design) uses) (numbers : List ℕ) (circuits : List (Option BoundNet)) (kept : AreKept uses numbers circuits) (bound : ℕ) where
  abbrev top : Hierarchy
  top = hierarchy_of design signature bases

  have : HaveBlocks k mul top
  have = have_blocks k mul design signature bases uses values

  -- the block of an instance within the bound
  circuit_within : (i number : ℕ) (item : Item) (circuit : Circuit) (ts : Terms) → slice_get (instances_of design) i ≡ Some item → slice_get numbers i ≡ Some number → IsBlockOf k mul top item circuit → IsBlockPoly k mul signature.blocks circuits bases bound number ts → AreAllWithin k mul (circuit_stages circuit) bound
  circuit_within i number item circuit ts at got is poly =
      let same = one_kept k mul design signature bases uses values numbers circuits kept i number item poly.circuit poly.list circuit at got poly.kept is in
      let long : length (map elements_of poly.list) ≡ length poly.circuit.binding.words = mapped_long elements_of poly.list ∙ poly.kept.bases_are.long in
      let P : Circuit → Type 0 = λ c. AreAllWithin k mul (circuit_stages c) bound in
      subst P same ((bound_stages_within k mul poly.circuit (map elements_of poly.list) long bound).0 poly.within)

  -- all blocks have polynomials
  pub blocks_all : (polys : List (Option Polynomial)) → ArePolys k mul signature.blocks circuits bases bound polys → ((i number : ℕ) → slice_get numbers i ≡ Some number → HasPoly polys number) → AreBlocksWithin k mul top bound
  blocks_all polys are has = (blocks_within k mul top bound).1 each
    where
      each : (b : ℕ) (circuit : Circuit) → IsUsedBlock k mul top b circuit → AreAllWithin k mul (circuit_stages circuit) bound
      each b circuit used =
          let number = number_at k mul design signature bases uses values numbers circuits kept used.place used.use_is.item used.use_is.at in
          let poly = has used.place number.0 number.1 in
          circuit_within used.place number.0 used.use_is.item circuit poly.0.terms used.use_is.at number.1 used.is (are.each number.0 poly.0 poly.1)

  module _ (rows : List (List Feeder)) where
    -- the first block that is refused
    pub block_refused : (fault : ComposeFault) → IsFirstBlockOver k mul signature.blocks circuits bases bound numbers fault → MayFault (StagesOf k mul top rows bound) fault
    block_refused fault first = by first.refused.refused first.refused.is first.refused.fault_is
      where
        by : (refused : ReduceFault) → IsFirstRefusal k mul (stages_in k mul first.refused.circuit first.refused.list) bound refused → fault ≡ block_fault_of refused first.refused.kept.block.model → MayFault (StagesOf k mul top rows bound) fault
        by stages.OutOfMemory is same = let P : ComposeFault → Type 0 = MayFault (StagesOf k mul top rows bound) in subst P (sym same) tt
        by (stages.TooManyTerms stage n) is same =
            let P : ComposeFault → Type 0 = MayFault (StagesOf k mul top rows bound) in
            let less = slice_get_within numbers first.place first.number first.at in
            let item = get_below (instances_of design) first.place (omega (arith, less, kept.long, values.long)) in
            let circuit = have first.place item.0 item.1 in
            let named = number_at k mul design signature bases uses values numbers circuits kept first.place item.0 item.1 in
            let there : slice_get numbers first.place ≡ Some first.number = first.at in
            let number_same : named.0 ≡ first.number = (let here : slice_get numbers first.place ≡ Some named.0 = named.1 in cc) in
            let one_use : IsFirstUse top first.number first.place = record { item = item.0; at = item.1; named = named.2 ∙ ap Some number_same; first = others } in
            let used : IsUsedBlock k mul top first.number circuit.0 = record { place = first.place; use_is = one_use; is = circuit.1 } in
            let over_net : IsOver k mul (stages_in k mul first.refused.circuit first.refused.list) bound (joined stage) n = is in
            let long : length (map elements_of first.refused.list) ≡ length first.refused.circuit.binding.words = mapped_long elements_of first.refused.list ∙ first.refused.kept.bases_are.long in
            let one = one_kept k mul design signature bases uses values numbers circuits kept first.place first.number item.0 first.refused.circuit first.refused.list circuit.0 item.1 first.at first.refused.kept circuit.1 in
            let Q : Circuit → Type 0 = λ c. IsOver k mul (circuit_stages c) bound (joined stage) n in
            let over : IsOver k mul (circuit_stages circuit.0) bound (joined stage) n = subst Q one ((bound_stages_over k mul first.refused.circuit (map elements_of first.refused.list) long bound (joined stage) n).0 over_net) in
            let of_blocks = block_over k mul top bound first.number (joined stage) n circuit.0 used earlier over in
            let is_over : IsBlockOver k mul top rows bound first.refused.kept.block.model stage n = record {
              number = first.number;
              block = first.refused.kept.block;
              found = first.refused.kept.found;
              model_is = refl;
              over = (earlier_over k mul (block_stages k mul top) (instance_stages k mul top rows) bound (first.number, joined stage) n).1 of_blocks;
            } in
            subst P (sym same) is_over
          where
            others : (j : ℕ) (other : Item) → j < first.place → slice_get (instances_of design) j ≡ Some other → block_of top (model_in other) ≢ Some first.number
            others j other lower at_j names =
                let number = number_at k mul design signature bases uses values numbers circuits kept j other at_j in
                let own : block_of top (model_in other) ≡ Some number.0 = number.2 in
                let equal : number.0 ≡ first.number = cc in
                (first.before j number.0 lower number.1).0 equal

            earlier : AreEarlierWithin k mul top bound first.place
            earlier b circuit used lower =
                let number = number_at k mul design signature bases uses values numbers circuits kept used.place used.use_is.item used.use_is.at in
                let poly = (first.before used.place number.0 lower number.1).1 in
                circuit_within used.place number.0 used.use_is.item circuit poly.0 used.use_is.at number.1 used.is poly.1

    module _ (ring : IsRing k mul) (field : HasNoZeroDivisors k mul) (given : IsGiven k top) (output : Feeder) (wired : AreWired top rows output) (free : IsWithoutCycle rows) (blocks : List Terms) (made : HaveBlockPolys k mul top blocks) (within : AreBlocksWithin k mul top bound) (count : ℕ) (count_same : count ≡ length (inputs_among (top_words top))) where
      -- the first stage of an instance over the bound
      pub instance_refused : (fault : ReduceFault) → IsStageFault k mul count blocks rows bound fault → MayFault (StagesOf k mul top rows bound) (instance_fault_of fault)
      instance_refused stages.OutOfMemory is = tt
      instance_refused (stages.TooManyTerms stage n) is =
          let first = refused_first k mul ring field top given rows wired.feeds have is.words blocks made is.taken.words_are (is.taken.many ∙ count_same) bound is.order is.taken.ready is.taken.by_level stage n is.refused in
          (later_over k mul (block_stages k mul top) (instance_stages k mul top rows) bound stage n).1 (within, first)

      -- the polynomial, where no stage is over the bound
      pub all_composed : (whole : Circuit) (ts : Terms) → IsTop k mul top whole → IsWiredPoly k mul count blocks rows bound output ts → IsComposed k mul top rows bound ts
      all_composed whole ts is_top is =
          let done = all_done k mul ring field top given rows wired.feeds have is.words blocks made is.taken.words_are (is.taken.many ∙ count_same) bound is.order is.taken.ready is.taken.by_level is.polys is.done in
          record {
            top = whole;
            top_is = is_top;
            output = wired_output k mul ring field top given rows output wired have free blocks made count bound count_same whole ts is_top is;
            within = (all_of_both k mul (block_stages k mul top) (instance_stages k mul top rows) bound).1 (within, done);
          }
