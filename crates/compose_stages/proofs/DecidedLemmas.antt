-- All stages of instances are within a bound, or one of them is the first over it.
use Rattle.std.proofs.Common.{◌≡◌, ◌∙◌, sym, refl, subst, inl, inr, ◌⊎◌, ℕ, zero, suc, ◌<◌, ◌≤◌, ◌+◌, List, length, Some, arith}
use Rattle.std.specs.Prelude.{slice_get}
use Rattle.std.proofs.lemmas.Bool.{cases_lt}
use Rattle.std.proofs.lemmas.Option.{slice_get_within}
use Rattle.lists.specs.Lists.{Has}
use Rattle.lists.specs.laws.ReadLaws.{get_below}
use Rattle.net_blif.specs.Top.{instances_of}
use Rattle.gf_field.specs.Field.{HasNoZeroDivisors}
use Rattle.gf_field.specs.Ring.{IsRing}
use Rattle.poly_mixed.specs.Polynomial.{Terms}
use Rattle.poly_mixed.specs.declared.stage.Stage.{Stage}
use Rattle.poly_mixed.specs.declared.stage.Stage.TheVariants.{Cut, WordProduct, WordSum, SpecProduct, SpecSum, InstanceProduct, InstanceSum}
use Rattle.stage_model.specs.Stage.{IsWithin}
use Rattle.stage_model.proofs.SearchLemmas.{measured, search, IsDecided, IsOverBound}
use Rattle.term_expand.specs.SumListing.{HasFactor}
use Rattle.term_expand.specs.SumValue.{factors_of}
use Rattle.compose_polys.specs.Instance.{block_terms}
use Rattle.compose_polys.specs.InstanceListing.{is_earlier_instance_stage}
use Rattle.compose_polys.proofs.StageLemmas.{mapped_long}
use Rattle.compose_model.specs.Given.{IsGiven}
use Rattle.compose_model.specs.Hierarchy.{Hierarchy}
use Rattle.compose_model.specs.Wiring.{feeding_graph, AreAllFeeds, HaveBlocks}
use Rattle.compose_model.specs.declared.feeder.Feeder.{Feeder}
use Rattle.compose_polys.specs.LevelOrder.{IsLevelOrder}
use Rattle.compose_stages.specs.InstanceStages.{instance_in, instance_stages, is_earlier_stage, IsBlockPoly, IsEarlierInstance, IsStageName, IsStageOf}
use Rattle.compose_stages.proofs.BlockLemmas.{one_poly}
use Rattle.compose_stages.proofs.OrderLemmas.{graph_long}
use Rattle.compose_stages.proofs.SizedLemmas.{some_terms}
use Rattle.compose_stages.proofs.SomeStageLemmas.{some_poly}
use Rattle.compose_stages.proofs.StageLemmas.{earlier_place}

-- the term of a stage of an instance, counted from 1
abbrev term_in : Stage → ℕ
term_in (InstanceProduct n s j) = s
term_in (InstanceSum n s) = s
term_in (Cut t) = 0
term_in (WordProduct w s j) = 0
term_in (WordSum w s) = 0
term_in (SpecProduct s j) = 0
term_in (SpecSum s) = 0

-- what comes before in an instance is of an earlier term or of the same
earlier_term : (other name : Stage) → is_earlier_instance_stage other name → (term_in other < term_in name) ⊎ (term_in other ≡ term_in name)
earlier_term (InstanceProduct m r i) (InstanceProduct n s j) (inl low) = inl low
earlier_term (InstanceProduct m r i) (InstanceProduct n s j) (inr tie) = inr tie.0
earlier_term (InstanceProduct m r i) (InstanceSum n s) low = elim (cases_lt r s) [ inl less ↦ inl less | inr past ↦ inr (omega (arith, low, past)) ]
earlier_term (InstanceSum m r) (InstanceProduct n s j) low = inl low
earlier_term (InstanceSum m r) (InstanceSum n s) low = inl low
earlier_term (InstanceProduct m r i) (Cut t) x = absurd x
earlier_term (InstanceProduct m r i) (WordProduct w s j) x = absurd x
earlier_term (InstanceProduct m r i) (WordSum w s) x = absurd x
earlier_term (InstanceProduct m r i) (SpecProduct s j) x = absurd x
earlier_term (InstanceProduct m r i) (SpecSum s) x = absurd x
earlier_term (InstanceSum m r) (Cut t) x = absurd x
earlier_term (InstanceSum m r) (WordProduct w s j) x = absurd x
earlier_term (InstanceSum m r) (WordSum w s) x = absurd x
earlier_term (InstanceSum m r) (SpecProduct s j) x = absurd x
earlier_term (InstanceSum m r) (SpecSum s) x = absurd x
earlier_term (Cut t) b x = absurd x
earlier_term (WordProduct w s j) b x = absurd x
earlier_term (WordSum w s) b x = absurd x
earlier_term (SpecProduct s j) b x = absurd x
earlier_term (SpecSum s) b x = absurd x

module _ (k : ℕ) (mul : ℕ → ℕ → ℕ) (h : Hierarchy) (rows : List (List Feeder)) (ring : IsRing k mul) (field : HasNoZeroDivisors k mul) (given : IsGiven k h) (all : AreAllFeeds h rows) (blocks_are : HaveBlocks k mul h) (order : List ℕ) (by_level : IsLevelOrder (feeding_graph rows) order) (bound : ℕ) where
  -- the stage is within the bound, if it is listed
  abbrev Fine : Stage → Type 0
  Fine name = IsStageName k mul h name → IsWithin k mul (IsStageOf k mul h rows name) bound

  -- the stage is listed and over the bound
  record Over (name : Stage) : Type 0 where
    pub listed : IsStageName k mul h name
    pub over : IsOverBound k mul (IsStageOf k mul h rows name) bound

  judged : (name : Stage) → IsStageName k mul h name → Fine name ⊎ Over name
  judged name is =
      let made = some_terms k mul h rows ring field given all blocks_are order by_level name is in
      elim (measured k mul (IsStageOf k mul h rows name) bound (length made.0) (record { terms = made.0; is = made.1; size = refl })) [ inl fine ↦ inl (λ any. fine) | inr over ↦ inr (record { listed = is; over = over }) ]

  -- the stages of term s of instance n are within the bound
  record TermFine (n s : ℕ) : Type 0 where
    pub products : (j : ℕ) → Fine (InstanceProduct n s j)
    pub sum : Fine (InstanceSum n s)

  -- a stage of instance n is over the bound, and those of the instance before it and with this property are within
  record FirstOver (n : ℕ) (among : Stage → Type 0) : Type 0 where
    pub name : Stage
    pub number : instance_in name ≡ n
    pub belongs : among name
    pub over : Over name
    pub before : (other : Stage) → instance_in other ≡ n → among other → is_earlier_instance_stage other name → Fine other

  abbrev TermOver : ℕ → ℕ → Type 0
  TermOver n s = FirstOver n (λ name. term_in name ≡ s)

  abbrev InstanceOver : ℕ → Type 0
  InstanceOver n = FirstOver n (λ name. Unit {0})

  abbrev InstanceFine : ℕ → Type 0
  InstanceFine n = (name : Stage) → instance_in name ≡ n → Fine name

  -- where the terms are within the bound, so is a stage of them
  of_terms : (n : ℕ) (name : Stage) → instance_in name ≡ n → TermFine n (term_in name) → Fine name
  of_terms n (InstanceProduct m s j) same fine is = let P : ℕ → Type 0 = λ l. Fine (InstanceProduct l s j) in subst P (sym same) (fine.products j) is
  of_terms n (InstanceSum m s) same fine is = let P : ℕ → Type 0 = λ l. Fine (InstanceSum l s) in subst P (sym same) fine.sum is
  of_terms n (Cut t) same fine is = absurd is.is
  of_terms n (WordProduct w s j) same fine is = absurd is.is
  of_terms n (WordSum w s) same fine is = absurd is.is
  of_terms n (SpecProduct s j) same fine is = absurd is.is
  of_terms n (SpecSum s) same fine is = absurd is.is

  module _ (n : ℕ) (block : Terms) (has : IsBlockPoly k mul h n block) where
    factor : (s j : ℕ) → IsStageName k mul h (InstanceProduct n s j) → HasFactor (block_terms block) s j
    factor s j is =
        let same : is.block ≡ block = one_poly k mul ring field h given n is.block block is.has has in
        let P : Terms → Type 0 = λ ts. HasFactor (block_terms ts) s j in
        subst P same is.is.1

    summed : (s : ℕ) → IsStageName k mul h (InstanceSum n s) → 1 ≤ s × (s ≤ length block)
    summed s is =
        let same : is.block ≡ block = one_poly k mul ring field h given n is.block block is.has has in
        let P : Terms → Type 0 = λ ts. 1 ≤ s × (s ≤ length ts) in
        subst P same (is.is.1, omega (arith, is.is.2, mapped_long is.block))

    -- there is no such term
    none_there : (s : ℕ) → (1 ≤ s → s ≤ length block → ⊥) → TermFine n s
    none_there s none = record {
      products = λ j is. let f = factor s j is in absurd (none (omega (arith, f.number)) (omega (arith, f.number, slice_get_within (block_terms block) f.place f.term f.at, mapped_long block)));
      sum = λ is. let f = summed s is in absurd (none f.0 f.1);
    }

    module _ (s : ℕ) (less : s < length block) (t : ℕ × List (ℕ × ℕ)) (at : slice_get (block_terms block) s ≡ Some t) where
      abbrev factors : ℕ
      factors = length (factors_of t.1)

      past_factors : (j : ℕ) → (1 ≤ j → j ≤ factors → ⊥) → Fine (InstanceProduct n (s + 1) j)
      past_factors j none is =
          let f = factor (s + 1) j is in
          let place : f.place ≡ s = omega (arith, f.number) in
          let P : ℕ → Type 0 = λ l. slice_get (block_terms block) l ≡ Some f.term in
          let here : slice_get (block_terms block) s ≡ Some f.term = subst P place f.at in
          let there : slice_get (block_terms block) s ≡ Some t = at in
          let same : f.term ≡ t = cc in
          let Q : ℕ × List (ℕ × ℕ) → Type 0 = λ u. j ≤ length (factors_of u.1) in
          absurd (none f.some (subst Q same f.most))

      one_product : (j : ℕ) → Fine (InstanceProduct n (s + 1) j) ⊎ Over (InstanceProduct n (s + 1) j)
      one_product zero = inl (past_factors zero (λ some most. absurd (omega (arith, some))))
      one_product (suc j) =
          elim (cases_lt j factors) [
            | inl low ↦ judged (InstanceProduct n (s + 1) (suc j)) (record { block = block; has = has; is = (refl, record { place = s; term = t; number = refl; at = at; some = omega arith; most = omega (arith, low) }) })
            | inr past ↦ inl (past_factors (suc j) (λ some most. absurd (omega (arith, past, most))))
          ]

      -- within one term
      before_product : (j : ℕ) → ((i : ℕ) → i < j → Fine (InstanceProduct n (s + 1) i)) → (other : Stage) → instance_in other ≡ n → term_in other ≡ s + 1 → is_earlier_instance_stage other (InstanceProduct n (s + 1) j) → Fine other
      before_product j before (InstanceProduct m r i) same equal (inl low) = absurd (omega (arith, equal, low))
      before_product j before (InstanceProduct m r i) same equal (inr tie) =
          let P : ℕ → Type 0 = λ l. Fine (InstanceProduct l r i) in
          let Q : ℕ → Type 0 = λ l. Fine (InstanceProduct n l i) in
          subst P (sym same) (subst Q (sym equal) (before i tie.1))
      before_product j before (InstanceSum m r) same equal low = absurd (omega (arith, equal, low))
      before_product j before (Cut c) same equal low = absurd low
      before_product j before (WordProduct w r i) same equal low = absurd low
      before_product j before (WordSum w r) same equal low = absurd low
      before_product j before (SpecProduct r i) same equal low = absurd low
      before_product j before (SpecSum r) same equal low = absurd low

      before_sum : ((i : ℕ) → Fine (InstanceProduct n (s + 1) i)) → (other : Stage) → instance_in other ≡ n → term_in other ≡ s + 1 → is_earlier_instance_stage other (InstanceSum n (s + 1)) → Fine other
      before_sum before (InstanceProduct m r i) same equal low =
          let P : ℕ → Type 0 = λ l. Fine (InstanceProduct l r i) in
          let Q : ℕ → Type 0 = λ l. Fine (InstanceProduct n l i) in
          subst P (sym same) (subst Q (sym equal) (before i))
      before_sum before (InstanceSum m r) same equal low = absurd (omega (arith, equal, low))
      before_sum before (Cut c) same equal low = absurd low
      before_sum before (WordProduct w r i) same equal low = absurd low
      before_sum before (WordSum w r) same equal low = absurd low
      before_sum before (SpecProduct r i) same equal low = absurd low
      before_sum before (SpecSum r) same equal low = absurd low

      summed_decided : ((j : ℕ) → Fine (InstanceProduct n (s + 1) j)) → TermFine n (s + 1) ⊎ TermOver n (s + 1)
      summed_decided fine =
          elim (judged (InstanceSum n (s + 1)) (record { block = block; has = has; is = (refl, omega arith, omega (arith, less, mapped_long block)) })) [
            | inl sum ↦ inl (record { products = fine; sum = sum })
            | inr over ↦ inr (record { name = InstanceSum n (s + 1); number = refl; belongs = refl; over = over; before = before_sum fine })
          ]

      term_decided : TermFine n (s + 1) ⊎ TermOver n (s + 1)
      term_decided =
          elim (search (suc factors) (λ j. Fine (InstanceProduct n (s + 1) j)) (λ j. Over (InstanceProduct n (s + 1) j)) (λ j low. one_product j)) [
            | inl fine ↦ summed_decided (λ j. elim (cases_lt j (suc factors)) [ inl low ↦ fine j low | inr past ↦ past_factors j (λ some most. absurd (omega (arith, past, most))) ])
            | inr first ↦ inr (record { name = InstanceProduct n (s + 1) first.at; number = refl; belongs = refl; over = first.is; before = before_product first.at first.before })
          ]

    one_term : (s : ℕ) → TermFine n s ⊎ TermOver n s
    one_term zero = inl (none_there zero (λ some most. absurd (omega (arith, some))))
    one_term (suc s) =
        elim (cases_lt s (length block)) [
          | inl less ↦
              let t = get_below (block_terms block) s (omega (arith, less, mapped_long block)) in
              let next : s + 1 ≡ suc s = omega arith in
              let P : ℕ → Type 0 = λ l. TermFine n l ⊎ TermOver n l in
              subst P next (term_decided s less t.0 t.1)
          | inr past ↦ inl (none_there (suc s) (λ some most. absurd (omega (arith, past, most))))
        ]

    instance_decided : InstanceFine n ⊎ InstanceOver n
    instance_decided =
        elim (search (suc (length block)) (TermFine n) (TermOver n) (λ s low. one_term s)) [
          | inl fine ↦ inl (λ name same. of_terms n name same (elim (cases_lt (term_in name) (suc (length block))) [ inl low ↦ fine (term_in name) low | inr past ↦ none_there (term_in name) (λ some most. absurd (omega (arith, past, most))) ]))
          | inr first ↦
              let over = first.is in
              inr (record {
                name = over.name;
                number = over.number;
                belongs = tt;
                over = over.over;
                before = λ other same any low.
                    elim (earlier_term other over.name low) [
                      | inl less ↦ of_terms n other same (first.before (term_in other) (omega (arith, less, over.belongs)))
                      | inr equal ↦ over.before other same (equal ∙ over.belongs) low
                    ];
              })
        ]

  -- ---- instances by level

  place_low : (m i : ℕ) → slice_get order m ≡ Some i → i < length rows
  place_low m i at = omega (arith, by_level.2.within i (m, at), by_level.1.long, graph_long rows)

  abbrev AtFine : ℕ → Type 0
  AtFine m = (i : ℕ) → slice_get order m ≡ Some i → InstanceFine (i + 1)

  abbrev AtOver : ℕ → Type 0
  AtOver m = (i : ℕ) × (slice_get order m ≡ Some i) × InstanceOver (i + 1)

  at_place : (m : ℕ) → m < length order → AtFine m ⊎ AtOver m
  at_place m less =
      let here = get_below order m less in
      let block = some_poly k mul ring field h given blocks_are here.0 (omega (arith, place_low m here.0 here.1, all.long)) in
      elim (instance_decided (here.0 + 1) block.0 block.1) [
        | inl fine ↦ inl (λ i at.
            let there : slice_get order m ≡ Some here.0 = here.1 in
            let other : slice_get order m ≡ Some i = at in
            let same : here.0 ≡ i = cc in
            let P : ℕ → Type 0 = λ l. InstanceFine (l + 1) in
            subst P same fine)
        | inr over ↦ inr (here.0, here.1, over)
      ]

  -- the place of a named instance in the order
  stands : (name : Stage) → (is : IsStageName k mul h name) → Has order is.has.place
  stands name is = by_level.2.each is.has.place (omega (arith, slice_get_within (instances_of h.design) is.has.place is.has.item is.has.at, all.long, by_level.1.long, graph_long rows))

  module _ (m i : ℕ) (at : slice_get order m ≡ Some i) (first : InstanceOver (i + 1)) (before : (l : ℕ) → l < m → AtFine l) where
    before_all : (other : Stage) → IsStageName k mul h other → is_earlier_stage rows other first.name → IsWithin k mul (IsStageOf k mul h rows other) bound
    before_all other is (inl earlier) =
        let place = stands other is in
        let P : ℕ → ℕ → Type 0 = λ l r. IsEarlierInstance rows l r in
        let Q : ℕ → Type 0 = λ l. P l (instance_in first.name) in
        let R : ℕ → Type 0 = λ r. P (is.has.place + 1) r in
        let low = earlier_place h rows order place.0 m is.has.place i all by_level place.1 at (place_low place.0 is.has.place place.1) (place_low m i at) (subst R first.number (subst Q (sym is.has.number) earlier)) in
        before place.0 low is.has.place place.1 other (sym is.has.number) is
    before_all other is (inr same) = first.before other (same.0 ∙ first.number) tt same.1 is

  pub instances_decided : IsDecided k mul (instance_stages k mul h rows) bound
  instances_decided =
      elim (search (length order) AtFine AtOver at_place) [
        | inl fine ↦ inl (λ name is.
            let place = stands name is in
            fine place.0 (slice_get_within order place.0 is.has.place place.1) is.has.place place.1 name (sym is.has.number) is)
        | inr first ↦
            let over = first.is.2 in
            inr (over.name, over.over.over.size, record { listed = over.over.listed; size = over.over.over.has; over = over.over.over.over; before = before_all first.at first.is.0 first.is.1 over first.before })
      ]
