use Rattle.std.proofs.Common.{◌≡◌, ◌∙◌, ◌<◌, ◌≤◌, All, sym, ap, subst, refl, ℕ, List, Some, length, set, arith}
use Rattle.std.specs.Prelude.{slice_get, slice_index}
use Rattle.std.proofs.lemmas.Option.{slice_get-get_or}
use Rattle.lists.specs.laws.HasLaws.{all_from}
use Rattle.graph_core.specs.Graph.{edges, Graph}
use Rattle.compose_polys.specs.LevelOrder.{level_over}
use Rattle.compose_polys.proofs.LevelLemmas.{all_levels, one_level}
use Rattle.compose_polys.proofs.levels.levels.Goals as goal

pub edges-requires : goal.edges-requires
edges-requires c =
    let graph : Graph = c.args.graph.now in
    let order : List ℕ = c.args.order.now in
    let m : ℕ = c.loop-m.m in
    let a : ℕ = slice_index order m in
    let here : slice_get order m ≡ Some a = slice_get-get_or order m 0 c.loop-m-test.true in
    let inside : a < length graph = c.requires.arranged.inside a (m, here) in
    inside

pub level_over-requires-clause-inside : goal.level_over-requires-clause-inside
level_over-requires-clause-inside c =
    let graph : Graph = c.args.graph.now in
    let order : List ℕ = c.args.order.now in
    let m : ℕ = c.loop-m.m in
    let a : ℕ = slice_index order m in
    let here : slice_get order m ≡ Some a = slice_get-get_or order m 0 c.loop-m-test.true in
    let inside : a < length graph = c.requires.arranged.inside a (m, here) in
    let long : length c.deref.result.now ≡ length graph = ap length c.deref.ensures.value ∙ c.loop-m.invariant.long in
    let P : List ℕ → Type 0 = λ bs. All (λ b. b < length c.deref.result.now) bs in
    subst P (sym c.edges.ensures.edges) (all_from (λ b. b < length c.deref.result.now) (edges graph a) (λ b has. omega (arith, long, c.edges.ensures.inside a b has)))

pub level_over-requires-clause-low : goal.level_over-requires-clause-low
level_over-requires-clause-low c =
    let graph : Graph = c.args.graph.now in
    let order : List ℕ = c.args.order.now in
    let m : ℕ = c.loop-m.m in
    let a : ℕ = slice_index order m in
    let here : slice_get order m ≡ Some a = slice_get-get_or order m 0 c.loop-m-test.true in
    let inside : a < length graph = c.requires.arranged.inside a (m, here) in
    let P : List ℕ → Type 0 = λ ls. All (λ l. l ≤ m) ls in
    subst P (sym c.deref.ensures.value) (all_from (λ l. l ≤ m) c.loop-m.levels.items (λ l has. c.loop-m.invariant.low l has))

pub index_mut-requires : goal.index_mut-requires
index_mut-requires c =
    let graph : Graph = c.args.graph.now in
    let order : List ℕ = c.args.order.now in
    let m : ℕ = c.loop-m.m in
    let a : ℕ = slice_index order m in
    let here : slice_get order m ≡ Some a = slice_get-get_or order m 0 c.loop-m-test.true in
    let inside : a < length graph = c.requires.arranged.inside a (m, here) in
    omega (arith, inside, c.loop-m.invariant.long, ap length c.deref.ensures.value, c.deref.ensures.len)

pub loop-m-preserved : goal.loop-m-preserved
loop-m-preserved c =
    let graph : Graph = c.args.graph.now in
    let order : List ℕ = c.args.order.now in
    let m : ℕ = c.loop-m.m in
    let a : ℕ = slice_index order m in
    let here : slice_get order m ≡ Some a = slice_get-get_or order m 0 c.loop-m-test.true in
    let inside : a < length graph = c.requires.arranged.inside a (m, here) in
    let v : ℕ = c.level_over.result in
    let P : List ℕ → List ℕ → Type 0 = λ ls bs. v ≡ level_over ls bs in
    let Q : List ℕ → Type 0 = λ ls. P ls c.edges.result.now in
    let is : v ≡ level_over c.loop-m.levels.items (edges graph a) = subst (P c.loop-m.levels.items) c.edges.ensures.edges (subst Q c.deref.ensures.value c.level_over.ensures.level) in
    one_level graph c.args.roots.now order c.requires.arranged m a v c.loop-m.levels.items (set c.loop-m.levels.items a v) here refl is c.level_over.ensures.low c.loop-m.invariant

pub returns : goal.returns
returns c = all_levels c.args.graph.now c.args.roots.now c.args.order.now c.requires.arranged c.loop-m.m c.loop-m.levels.items (omega (arith, c.loop-m-test.false)) c.requires.all c.loop-m.invariant
