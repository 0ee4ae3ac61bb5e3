-- A listed stage of an instance relates each point to an element of the field, and an instance's block has a polynomial in words.
use Rattle.std.proofs.Common.{sym, refl, subst, ℕ, ◌<◌, ◌+◌, ◌^◌, List, length, map, arith}
use Rattle.std.proofs.lemmas.Option.{slice_get_within}
use Rattle.lists.specs.Lists.{Has}
use Rattle.lists.specs.laws.ReadLaws.{get_below}
use Rattle.compose_model.proofs.OneValueLemmas.{row_edges}
use Rattle.graph_core.specs.Arranged.{IsArranged}
use Rattle.graph_core.specs.Graph.{Graph}
use Rattle.net_blif.specs.Top.{instances_of}
use Rattle.gf_field.specs.Field.{HasNoZeroDivisors}
use Rattle.gf_field.specs.Ring.{IsRing}
use Rattle.poly_mixed.specs.Polynomial.{IsPoint, Point, Terms}
use Rattle.poly_mixed.specs.declared.stage.Stage.{Stage}
use Rattle.stage_model.proofs.OutputInWordsLemmas.{all_words_is_output}
use Rattle.stage_model.proofs.SomeStageLemmas.{mix_polynomial}
use Rattle.compose_polys.specs.Instance.{block_terms}
use Rattle.compose_polys.proofs.StageLemmas.{some_stage}
use Rattle.compose_model.specs.Given.{IsGiven}
use Rattle.compose_model.specs.Hierarchy.{Hierarchy}
use Rattle.compose_model.specs.Values.{feed_value, AreInstanceValues}
use Rattle.compose_model.specs.Wiring.{feeding_graph, AreAllFeeds, HaveBlocks}
use Rattle.compose_model.specs.declared.feeder.Feeder.{Feeder}
use Rattle.compose_polys.specs.LevelOrder.{first_numbers, IsLevelOrder}
use Rattle.compose_polys.proofs.AfterLemmas.{all_stand, level_arranged}
use Rattle.compose_stages.specs.InstanceStages.{instance_in, top_elements, IsBlockPoly, IsStageName, IsStageOf}
use Rattle.compose_stages.proofs.BlockLemmas.{block_facts}
use Rattle.compose_stages.proofs.OrderLemmas.{graph_long, rows_inside}
use Rattle.compose_stages.proofs.SomeValuesLemmas.{values_at}

module _ (k : ℕ) (mul : ℕ → ℕ → ℕ) (ring : IsRing k mul) (field : HasNoZeroDivisors k mul) (h : Hierarchy) (given : IsGiven k h) where
  pub some_poly : HaveBlocks k mul h → (i : ℕ) → i < length (instances_of h.design) → (block : Terms) × IsBlockPoly k mul h (i + 1) block
  some_poly blocks_are i less =
      let item = get_below (instances_of h.design) i less in
      let circuit = blocks_are i item.0 item.1 in
      let facts = (block_facts k mul ring field h given item.0 circuit.0 circuit.1).1 in
      let mix = mix_polynomial circuit.0 facts.well (length circuit.0.words) (omega arith) in
      (mix.0, record { place = i; number = refl; item = item.0; at = item.1; circuit = circuit.0; block_is = circuit.1; output = (all_words_is_output circuit.0 facts.well mix.0).0 mix.1 })

  module _ (rows : List (List Feeder)) (all : AreAllFeeds h rows) (blocks_are : HaveBlocks k mul h) (order : List ℕ) (by_level : IsLevelOrder (feeding_graph rows) order) where
    -- at each point instances that can be taken by level have values
    pub values_by_level : (p : Point) → IsPoint k p → (es : List ℕ) × AreInstanceValues k mul h rows (top_elements h p) es
    values_by_level =
        let graph : Graph = feeding_graph rows in
        let arranged : IsArranged graph (first_numbers (length graph)) order = level_arranged graph order (rows_inside h rows all) by_level in
        values_at k mul ring field h given rows all blocks_are order
        (λ m i at. omega (arith, arranged.inside i (m, at), graph_long rows))
        arranged.once
        (λ m i j feeds at row has. let P : List ℕ → Type 0 = λ js. Has js j in arranged.after m i j at (subst P (sym (row_edges rows i feeds row)) has))
        (λ i less. all_stand graph order arranged i (omega (arith, less, graph_long rows)))

    pub some_element : (name : Stage) (p : Point) → IsPoint k p → IsStageName k mul h name → (e : ℕ) × IsStageOf k mul h rows name p e × (e < 2 ^ k)
    some_element name p at is =
        let i : ℕ = is.has.place in
        let row = get_below rows i (omega (arith, all.long, slice_get_within (instances_of h.design) i is.has.item is.has.at)) in
        let values = values_by_level p at in
        let ys : List ℕ = map (feed_value k mul h (top_elements h p) values.0) row.0 in
        let found = some_stage k mul ring (λ q. ys) (instance_in name) (block_terms is.block) name p is.is in (
          found.0,
          record { block = is.block; has = is.has; ys = ys; fed = record { es = values.0; values = values.1; place = i; number = is.has.number; feeds = row.0; row = row.1; are = refl }; is = found.1 },
          found.2,
        )
