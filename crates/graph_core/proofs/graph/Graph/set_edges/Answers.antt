use Rattle.std.proofs.Common.{◌≡◌, ◌∙◌, ap, sym, subst, ℕ, List, arith, length}
use Rattle.std.proofs.Math.ListN.{set}
use Rattle.graph_core.specs.Graph.{Graph}
use Rattle.graph_core.specs.Rows.{AreRowsOfGraph}
use Rattle.graph_core.proofs.RowLemmas.{rows_set, set_fits}
use Rattle.graph_core.proofs.graph.Graph.set_edges.Goals as goal

pub invariant_of-self : goal.invariant_of-self
invariant_of-self c =
    let P : List ℕ → Type 0 = λ heads. AreRowsOfGraph heads c.self.inside.rows.items in
    subst P (sym c.in_err-extend_from_slice.ensures.items) c.self.invariant

pub invariant_of-self-2 : goal.invariant_of-self-2
invariant_of-self-2 c =
    let start : c.len-start.result ≡ length c.self.inside.heads.items = omega (arith, c.len-start.ensures) in
    let end : c.len-end.result ≡ length c.extend_from_slice.new.self.items = omega (arith, c.len-end.ensures) in
    set_fits c.self.inside.heads.items c.args.to.now c.extend_from_slice.new.self.items c.self.inside.rows.items c.args.from (record { start = c.len-start.result; end = c.len-end.result }) c.self.invariant.0 c.in_ok-extend_from_slice.ensures.items start end c.args.self.now c.self.view_is c.requires.from c.requires.to (c.self.invariant.1, c.self.invariant.2)

pub returns-clause-made : goal.returns-clause-made
returns-clause-made c =
    let start : c.len-start.result ≡ length c.self.inside.heads.items = omega (arith, c.len-start.ensures) in
    let end : c.len-end.result ≡ length c.extend_from_slice.new.self.items = omega (arith, c.len-end.ensures) in
    rows_set c.self.inside.heads.items c.args.to.now c.extend_from_slice.new.self.items c.self.inside.rows.items c.args.from (record { start = c.len-start.result; end = c.len-end.result }) c.self.invariant.0 c.in_ok-extend_from_slice.ensures.items start end
    ∙ ap (λ (g : Graph). set g c.args.from c.args.to.now) c.self.view_is
