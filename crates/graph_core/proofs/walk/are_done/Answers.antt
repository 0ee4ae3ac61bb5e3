use Rattle.std.proofs.Common.{◌≡◌, refl, arith, ℕ, ◌≤◌, get_or, length, Some}
use Rattle.std.specs.Prelude.{slice_get}
use Rattle.std.proofs.lemmas.Option.{slice_get_within}
use Rattle.lists.specs.laws.ReadLaws.{got_at}
use Rattle.graph_core.proofs.WalkLemmas.{done_more}
use Rattle.graph_core.proofs.walk.are_done.Goals as goal

pub loop-point-preserved : goal.loop-point-preserved
loop-point-preserved c =
    let i : ℕ = c.loop-point.point-index in
    let point : ℕ = get_or c.args.points.now i 0 in
    let here : slice_get c.args.points.now i ≡ Some point = got_at c.args.points.now i point 0 c.loop-point-test.true refl in
    done_more c.args.marks.now c.args.points.now i point here (c.is_done.ensures c.if-not-is_done.false) c.loop-point.invariant

pub returns : goal.returns
returns c =
    let past : length c.args.points.now ≤ c.loop-point.point-index = c.loop-point-test.false in
    λ all k to got. c.loop-point.invariant k to (omega (arith, slice_get_within c.args.points.now k to got, past)) got
