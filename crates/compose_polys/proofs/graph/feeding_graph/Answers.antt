use Rattle.std.proofs.Common.{◌≡◌, ◌∙◌, ◌<◌, ◌≤◌, ◌-◌, ◌++◌, [], All, ap, append-nil, arith, sym, subst, ℕ, List, length, map, replicate, take}
use Rattle.std.proofs.lemmas.List.{take_all}
use Rattle.lists.specs.laws.ListLaws.{length_map as mapped_long}
use Rattle.lists.specs.laws.ReadLaws.{got_read, mapped_at}
use Rattle.compose_model.specs.Wiring.{feeding_graph, instances_among}
use Rattle.compose_model.specs.declared.feeder.Feeder.{Feeder}
use Rattle.compose_polys.proofs.GraphLemmas.{graph_long}
use Rattle.compose_polys.proofs.WiredLemmas.{graph_more}
use Rattle.compose_polys.proofs.graph.feeding_graph.Goals as goal

pub set_edges-requires-clause-from : goal.set_edges-requires-clause-from
set_edges-requires-clause-from c =
    let rows : List (List Feeder) = map (λ row. row.items) c.args.rows.now in
    let long : length c.loop-i.graph ≡ length c.args.rows.now = graph_long rows (length c.args.rows.now) c.loop-i.i c.loop-i.graph (mapped_long (λ row. row.items) c.args.rows.now) c.loop-i-test.true c.loop-i.invariant in
    omega (arith, long, c.loop-i-test.true)

pub set_edges-requires-clause-to : goal.set_edges-requires-clause-to
set_edges-requires-clause-to c =
    let rows : List (List Feeder) = map (λ row. row.items) c.args.rows.now in
    let long : length c.loop-i.graph ≡ length c.args.rows.now = graph_long rows (length c.args.rows.now) c.loop-i.i c.loop-i.graph (mapped_long (λ row. row.items) c.args.rows.now) c.loop-i-test.true c.loop-i.invariant in
    let is : c.deref-in-loop-i.result.now ≡ instances_among c.index-rows-i.result.items = c.deref-in-loop-i.ensures.value ∙ c.in_ok-row.ensures ∙ ap instances_among c.deref.ensures.value in
    let P : List ℕ → Type 0 = λ row. All (λ a. a < length c.args.rows.now) row in
    let Q : ℕ → Type 0 = λ n. All (λ a. a < n) c.deref-in-loop-i.result.now in
    subst Q (sym long) (subst P (sym is) (c.requires.inside c.loop-i.i c.index-rows-i.result (got_read c.args.rows.now c.loop-i.i c.index-rows-i.result c.loop-i-test.true c.index-rows-i.is)))

pub loop-i-preserved : goal.loop-i-preserved
loop-i-preserved c =
    graph_more (map (λ row. row.items) c.args.rows.now) (length c.args.rows.now) c.loop-i.i c.index-rows-i.result.items c.deref-in-loop-i.result.now c.loop-i.graph c.set_edges.new.self c.loop-i-test.true
    (mapped_at (λ row. row.items) c.args.rows.now c.loop-i.i c.index-rows-i.result (got_read c.args.rows.now c.loop-i.i c.index-rows-i.result c.loop-i-test.true c.index-rows-i.is))
    (c.deref-in-loop-i.ensures.value ∙ c.in_ok-row.ensures ∙ ap instances_among c.deref.ensures.value) c.loop-i.invariant c.in_ok-set_edges.ensures.made

pub returns : goal.returns
returns c =
    let rows : List (List Feeder) = map (λ row. row.items) c.args.rows.now in
    let none : length c.args.rows.now - c.loop-i.i ≡ 0 = omega (arith, c.loop-i-test.false) in
    let past : length rows ≤ c.loop-i.i = omega (arith, c.loop-i-test.false, mapped_long (λ row. row.items) c.args.rows.now) in
    c.loop-i.invariant ∙ ap (λ n. feeding_graph (take c.loop-i.i rows) ++ replicate n []) none ∙ append-nil (feeding_graph (take c.loop-i.i rows)) ∙ ap feeding_graph (take_all c.loop-i.i rows past)
