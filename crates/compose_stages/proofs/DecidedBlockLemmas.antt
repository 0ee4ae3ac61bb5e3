-- All stages of used blocks are within a bound, or one of them is the first over it; and so for all stages of a composition.
use Rattle.std.proofs.Common.{◌≡◌, ◌≢◌, sym, refl, subst, inl, inr, ◌⊎◌, ap, ℕ, ◌<◌, List, length, Option, None, Some, arith}
use Rattle.std.specs.Prelude.{slice_get}
use Rattle.std.proofs.lemmas.Bool.{cases_eq}
use Rattle.std.proofs.lemmas.Option.{slice_get_within}
use Rattle.lists.specs.laws.ReadLaws.{get_below}
use Rattle.net_blif.specs.Top.{instances_of, model_in}
use Rattle.net_blif.specs.declared.item.Item.{Item}
use Rattle.gf_field.specs.Field.{HasNoZeroDivisors}
use Rattle.gf_field.specs.Ring.{IsRing}
use Rattle.poly_mixed.specs.declared.stage.Stage.{Stage}
use Rattle.circuit_model.specs.Circuit.{Circuit}
use Rattle.stage_model.specs.CircuitListing.{circuit_stages}
use Rattle.stage_model.specs.Listing.{AreAllWithin, IsOver, Joined}
use Rattle.stage_model.proofs.SearchLemmas.{both_decided, search, IsDecided}
use Rattle.stage_model.proofs.SomeOverLemmas.{stages_decided}
use Rattle.compose_model.specs.Given.{IsGiven}
use Rattle.compose_model.specs.Hierarchy.{block_of, Hierarchy}
use Rattle.compose_model.specs.Values.{IsBlockOf}
use Rattle.compose_model.specs.Wiring.{feeding_graph, AreAllFeeds, HaveBlocks}
use Rattle.compose_model.specs.declared.feeder.Feeder.{Feeder}
use Rattle.compose_polys.specs.LevelOrder.{IsLevelOrder}
use Rattle.compose_stages.specs.BlockStages.{block_stages, IsFirstUse, IsUsedBlock}
use Rattle.compose_stages.specs.CompositionStages.{composition_stages}
use Rattle.compose_stages.specs.InstanceStages.{instance_stages}
use Rattle.compose_stages.proofs.BlockLemmas.{block_facts}
use Rattle.compose_stages.proofs.DecidedLemmas.{instances_decided}
use Rattle.compose_stages.proofs.UsedLemmas.{block_over, blocks_within, one_number, one_used}

is_number : (found : Option ℕ) (b : ℕ) → (found ≡ Some b) ⊎ (found ≢ Some b)
is_number None b = inr (λ e. absurd (cc))
is_number (Some c) b = elim (cases_eq c b) [ inl same ↦ inl (ap Some same) | inr other ↦ inr (λ e. let same : c ≡ b = cc in other same) ]

module _ (k : ℕ) (mul : ℕ → ℕ → ℕ) (h : Hierarchy) (ring : IsRing k mul) (field : HasNoZeroDivisors k mul) (given : IsGiven k h) (blocks_are : HaveBlocks k mul h) (bound : ℕ) where
  -- no stage of a block that is first used at this instance is over the bound
  abbrev UseFine : ℕ → Type 0
  UseFine i = (b : ℕ) (circuit : Circuit) → (used : IsUsedBlock k mul h b circuit) → used.place ≡ i → AreAllWithin k mul (circuit_stages circuit) bound

  -- a block is first used at this instance, and has a first stage over the bound
  record UseOver (i : ℕ) : Type 0 where
    pub b : ℕ
    pub circuit : Circuit
    pub used : IsUsedBlock k mul h b circuit
    pub place : used.place ≡ i
    pub name : Joined Stage Stage
    pub size : ℕ
    pub over : IsOver k mul (circuit_stages circuit) bound name size

  module _ (i : ℕ) (item : Item) (at : slice_get (instances_of h.design) i ≡ Some item) (circuit : Circuit) (is : IsBlockOf k mul h item circuit) where
    abbrev Other : ℕ → Type 0
    Other j = (other : Item) → slice_get (instances_of h.design) j ≡ Some other → block_of h (model_in other) ≢ Some is.number

    abbrev Same : ℕ → Type 0
    Same j = (other : Item) × (slice_get (instances_of h.design) j ≡ Some other) × (block_of h (model_in other) ≡ Some is.number)

    use_at : (j : ℕ) → j < i → Other j ⊎ Same j
    use_at j less =
        let found = get_below (instances_of h.design) j (omega (arith, less, slice_get_within (instances_of h.design) i item at)) in
        elim (is_number (block_of h (model_in found.0)) is.number) [
          | inl same ↦ inr (found.0, found.1, same)
          | inr apart ↦ inl (λ other got.
              let there : slice_get (instances_of h.design) j ≡ Some found.0 = found.1 in
              let equal : found.0 ≡ other = cc in
              let P : Item → Type 0 = λ it. block_of h (model_in it) ≢ Some is.number in
              subst P equal apart)
        ]

    -- the block was used before
    seen : (j : ℕ) → j < i → Same j → UseFine i
    seen j less same b other used place =
        let P : ℕ → Type 0 = λ l. slice_get (instances_of h.design) l ≡ Some used.use_is.item in
        let here : slice_get (instances_of h.design) i ≡ Some used.use_is.item = subst P place used.use_is.at in
        let there : slice_get (instances_of h.design) i ≡ Some item = at in
        let item_same : used.use_is.item ≡ item = cc in
        let Q : Item → Type 0 = λ it. block_of h (model_in it) ≡ Some b in
        let named : block_of h (model_in item) ≡ Some b = subst Q item_same used.use_is.named in
        let own : block_of h (model_in item) ≡ Some is.number = is.named in
        let number : is.number ≡ b = cc in
        let R : ℕ → Type 0 = λ l. block_of h (model_in same.0) ≡ Some l in
        let low : j < used.place = omega (arith, less, place) in
        absurd (used.use_is.first j same.0 low same.1 (subst R number same.2))

    -- it was not
    new : ((j : ℕ) → j < i → Other j) → UseFine i ⊎ UseOver i
    new none =
        let first : IsFirstUse h is.number i = record { item = item; at = at; named = is.named; first = λ j other less got. none j less other got } in
        let used : IsUsedBlock k mul h is.number circuit = record { place = i; use_is = first; is = is } in
        let facts = (block_facts k mul ring field h given item circuit is).1 in
        let P : ℕ → Type 0 = λ l. IsDecided l circuit.product (circuit_stages circuit) bound in
        let Q : (ℕ → ℕ → ℕ) → Type 0 = λ times. IsDecided k times (circuit_stages circuit) bound in
        elim (subst Q facts.product (subst P facts.bits (stages_decided circuit facts.well bound))) [
          | inl fine ↦ inl (λ b other another place.
              let number : is.number ≡ b = one_number h is.number b i another.place first another.use_is (sym place) in
              let R : ℕ → Type 0 = λ l. IsUsedBlock k mul h l circuit in
              let same : circuit ≡ other = one_used k mul h b circuit other (subst R number used) another in
              let S : Circuit → Type 0 = λ c. AreAllWithin k mul (circuit_stages c) bound in
              subst S same fine)
          | inr over ↦ inr (record { b = is.number; circuit = circuit; used = used; place = refl; name = over.0; size = over.1; over = over.2 })
        ]

    use_decided : UseFine i ⊎ UseOver i
    use_decided = elim (search i Other Same use_at) [ inl none ↦ new none | inr first ↦ inl (seen first.at first.low first.is) ]

  at_instance : (i : ℕ) → i < length (instances_of h.design) → UseFine i ⊎ UseOver i
  at_instance i less =
      let item = get_below (instances_of h.design) i less in
      let circuit = blocks_are i item.0 item.1 in
      use_decided i item.0 item.1 circuit.0 circuit.1

  pub blocks_decided : IsDecided k mul (block_stages k mul h) bound
  blocks_decided =
      elim (search (length (instances_of h.design)) UseFine UseOver at_instance) [
        | inl fine ↦ inl ((blocks_within k mul h bound).1 (λ b circuit used. fine used.place (slice_get_within (instances_of h.design) used.place used.use_is.item used.use_is.at) b circuit used refl))
        | inr first ↦
            let over = first.is in
            inr ((over.b, over.name), over.size, block_over k mul h bound over.b over.name over.size over.circuit over.used (λ b circuit used low. first.before used.place (omega (arith, low, over.place)) b circuit used refl) over.over)
      ]

  pub composition_decided : (rows : List (List Feeder)) → AreAllFeeds h rows → (order : List ℕ) → IsLevelOrder (feeding_graph rows) order → IsDecided k mul (composition_stages k mul h rows) bound
  composition_decided rows all order by_level = both_decided k mul (block_stages k mul h) (instance_stages k mul h rows) bound blocks_decided (instances_decided k mul h rows ring field given all blocks_are order by_level bound)
