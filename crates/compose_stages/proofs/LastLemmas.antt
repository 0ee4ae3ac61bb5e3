-- The sum of all terms of an instance's block is the instance's value.
use Rattle.std.proofs.Common.{◌≡◌, ◌∙◌, ap, sym, refl, subst, ℕ, ◌+◌, List, length, map, Some, arith}
use Rattle.std.specs.Prelude.{slice_get}
use Rattle.std.specs.List.{AllByRecursion}
use Rattle.std.proofs.lemmas.List.{take_all}
use Rattle.std.proofs.lemmas.Option.{slice_get_within}
use Rattle.lists.specs.laws.ReadLaws.{get_below}
use Rattle.net_blif.specs.Top.{instances_of}
use Rattle.gf_field.specs.Field.{HasNoZeroDivisors}
use Rattle.gf_field.specs.Ring.{IsRing}
use Rattle.poly_mixed.specs.Polynomial.{value, IsTerm, Point, Terms}
use Rattle.poly_mixed.specs.declared.stage.Stage.TheVariants.{InstanceSum}
use Rattle.circuit_model.specs.Out.{IsOut}
use Rattle.term_expand.specs.SumValue.{sum_at}
use Rattle.compose_polys.specs.Instance.{block_terms, point_of}
use Rattle.compose_polys.proofs.StageLemmas.{mapped_long}
use Rattle.compose_polys.proofs.ValueLemmas.{terms_value}
use Rattle.compose_model.specs.Given.{IsGiven}
use Rattle.compose_model.specs.Hierarchy.{Hierarchy}
use Rattle.compose_model.specs.Values.{feed_value, AreInstanceValues}
use Rattle.compose_model.specs.Wiring.{AreAllFeeds}
use Rattle.compose_model.specs.declared.feeder.Feeder.{Feeder}
use Rattle.compose_stages.specs.InstanceStages.{top_elements, IsBlockPoly, IsStageOf}
use Rattle.compose_stages.proofs.BlockLemmas.{block_facts, block_value}

pub last_sum : (k : ℕ) (mul : ℕ → ℕ → ℕ) (h : Hierarchy) (rows : List (List Feeder)) (i v : ℕ) (block : Terms) (p : Point) (es : List ℕ) → IsRing k mul → HasNoZeroDivisors k mul → IsGiven k h → AreAllFeeds h rows → IsBlockPoly k mul h (i + 1) block → AreInstanceValues k mul h rows (top_elements h p) es → slice_get es i ≡ Some v → IsStageOf k mul h rows (InstanceSum (i + 1) (length block)) p v
last_sum k mul h rows i v block p es ring field given all has values at =
    let xs : List ℕ = top_elements h p in
    let row = get_below rows i (omega (arith, slice_get_within es i v at, values.long, all.long)) in
    let ys : List ℕ = map (feed_value k mul h xs es) row.0 in
    let place : has.place ≡ i = omega (arith, has.number) in
    let P : ℕ → Type 0 = λ j. slice_get (instances_of h.design) j ≡ Some has.item in
    let out : IsOut has.circuit ys v = values.each i v has.item row.0 has.circuit at (subst P place has.at) row.1 has.block_is in
    let facts = (block_facts k mul ring field h given has.item has.circuit has.block_is).1 in
    let Q : ℕ → Type 0 = λ l. AllByRecursion (IsTerm l) block in
    let terms : sum_at mul ys (block_terms block) ≡ value mul (point_of ys) block = terms_value k mul ys block (subst Q facts.bits has.output.reduced.terms) has.output.no_bits in
    let own : v ≡ value mul (point_of ys) block = block_value k mul ring field h given has.item has.circuit block ys v has.block_is has.output out in
    record {
      block = block;
      has = has;
      ys = ys;
      fed = record { es = es; values = values; place = i; number = refl; feeds = row.0; row = row.1; are = refl };
      is = ap (sum_at mul ys) (take_all (length block) (block_terms block) (omega (arith, mapped_long block))) ∙ terms ∙ sym own;
    }
