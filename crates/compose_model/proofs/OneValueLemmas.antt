-- Instances that do not feed each other in a cycle have one value each.
use Rattle.std.proofs.Common.{◌≡◌, ◌∙◌, ap, ap₂, sym, refl, subst, inl, inr, ℕ, zero, suc, ◌+◌, List, [], ◌∷◌, length, map, Some, arith}
use Rattle.std.specs.Prelude.{slice_get, slice_index}
use Rattle.std.proofs.lemmas.Bool.{cases_lt}
use Rattle.std.proofs.lemmas.List.{get_or_past}
use Rattle.std.proofs.lemmas.Option.{get_or_from_slice_get, slice_get_within}
use Rattle.lists.specs.Lists.{Has}
use Rattle.lists.specs.laws.ReadLaws.{get_below, same_lists}
use Rattle.graph_core.specs.Cycle.{grounded, IsGrounded}
use Rattle.graph_core.specs.Graph.{edges, HasEdge}
use Rattle.net_blif.specs.Top.{instances_of}
use Rattle.gf_field.specs.Field.{HasNoZeroDivisors}
use Rattle.gf_field.specs.Ring.{IsRing}
use Rattle.circuit_model.specs.Out.{IsOut}
use Rattle.circuit_model.proofs.OutLemmas.{one_out}
use Rattle.compose_model.specs.Given.{IsGiven}
use Rattle.compose_model.specs.Hierarchy.{bases_at, Hierarchy}
use Rattle.compose_model.specs.Values.{feed_value, AreInstanceValues}
use Rattle.compose_model.specs.Wiring.{feeding_graph, instances_among, AreAllFeeds, HaveBlocks, IsWithoutCycle}
use Rattle.compose_model.specs.declared.feeder.Feeder.{Feeder}
use Rattle.compose_model.specs.declared.feeder.Feeder.TheVariants.{InputWord, OutputOf}
use Rattle.compose_model.proofs.InstanceLemmas.{facts_of}

pub row_edges : (rows : List (List Feeder)) (i : ℕ) (feeds : List Feeder) → slice_get rows i ≡ Some feeds → edges (feeding_graph rows) i ≡ instances_among feeds
row_edges [] i feeds got = absurd (cc)
row_edges (row ∷ rows) zero feeds got = let same : row ≡ feeds = cc in ap instances_among same
row_edges (row ∷ rows) (suc i) feeds got = row_edges rows i feeds got

module _ (k : ℕ) (mul : ℕ → ℕ → ℕ) (h : Hierarchy) (xs es others : List ℕ) where
  -- feeds have the same values where the instances among them have
  same_values : (feeds : List Feeder) → ((j : ℕ) → Has (instances_among feeds) j → slice_index es j ≡ slice_index others j) → map (feed_value k mul h xs es) feeds ≡ map (feed_value k mul h xs others) feeds
  same_values [] same = refl
  same_values (InputWord w ∷ feeds) same = ap (λ vs. slice_index xs w ∷ vs) (same_values feeds same)
  same_values (OutputOf i ∷ feeds) same = ap₂ (λ v vs. v ∷ vs) (same i (zero, refl)) (same_values feeds (λ j has. same j (suc has.0, has.1)))

  module _ (ring : IsRing k mul) (field : HasNoZeroDivisors k mul) (given : IsGiven k h) (rows : List (List Feeder)) (fed : AreAllFeeds h rows) (blocks : HaveBlocks k mul h) (a : AreInstanceValues k mul h rows xs es) (b : AreInstanceValues k mul h rows xs others) where
    -- an instance has one value where those that feed it have
    own_value : (i x y : ℕ) → ((j : ℕ) → HasEdge (feeding_graph rows) i j → slice_index es j ≡ slice_index others j) → slice_get es i ≡ Some x → slice_get others i ≡ Some y → x ≡ y
    own_value i x y earlier at_x at_y =
        let item = get_below (instances_of h.design) i (omega (arith, a.long, slice_get_within es i x at_x)) in
        let row = get_below rows i (omega (arith, fed.long, slice_get_within (instances_of h.design) i item.0 item.1)) in
        let block = blocks i item.0 item.1 in
        let is = block.1 in
        let facts = facts_of k mul ring field h is.model is.block.words (bases_at h (is.number + 1)) (given.blocks is.number is.block is.found) block.0 is.is in
        let first = a.each i x item.0 row.0 block.0 at_x item.1 row.1 is in
        let second = b.each i y item.0 row.0 block.0 at_y item.1 row.1 is in
        let P : ℕ → List ℕ → Type 0 = λ j js. Has js j in
        let same : map (feed_value k mul h xs es) row.0 ≡ map (feed_value k mul h xs others) row.0 = same_values row.0 (λ j has. earlier j (subst (P j) (sym (row_edges rows i row.0 row.1)) has)) in
        let Q : List ℕ → Type 0 = λ ys. IsOut block.0 ys y in
        one_out block.0 (map (feed_value k mul h xs es) row.0) x y facts.2.well first (subst Q (sym same) second)

    next_value : (i : ℕ) → ((j : ℕ) → HasEdge (feeding_graph rows) i j → slice_index es j ≡ slice_index others j) → slice_index es i ≡ slice_index others i
    next_value i earlier =
        elim (cases_lt i (length es)) [
          | inl less ↦
              let x = get_below es i less in
              let y = get_below others i (omega (arith, less, a.long, b.long)) in
              get_or_from_slice_get es i x.0 0 x.1 ∙ own_value i x.0 y.0 earlier x.1 y.1 ∙ sym (get_or_from_slice_get others i y.0 0 y.1)
          | inr past ↦ get_or_past es i 0 (omega (arith, past)) ∙ sym (get_or_past others i 0 (omega (arith, past, a.long, b.long)))
        ]

    -- an instance that is grounded has one value
    one_value : (i : ℕ) → IsGrounded (feeding_graph rows) i → slice_index es i ≡ slice_index others i
    one_value _ (grounded i below) = next_value i (λ j edge. one_value j (below j edge))

    pub one_list : IsWithoutCycle rows → es ≡ others
    one_list free =
        same_lists es others (a.long ∙ sym b.long) (λ i x y at_x at_y.
        let grounded_here = free i (omega (arith, slice_get_within es i x at_x, a.long, fed.long)) in
        sym (get_or_from_slice_get es i x 0 at_x) ∙ one_value i grounded_here ∙ get_or_from_slice_get others i y 0 at_y)
