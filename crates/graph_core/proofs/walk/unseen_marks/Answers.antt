use Rattle.std.proofs.Common.{◌≡◌, sym, subst, List, replicate, vec_len}
use Rattle.graph_core.specs.Walking.{AreUnseen}
use Rattle.graph_core.specs.declared.walk.Mark.{Mark}
use Rattle.graph_core.specs.declared.walk.Mark.TheVariants.{Unseen}
use Rattle.graph_core.proofs.RowLemmas.{filled}
use Rattle.graph_core.proofs.WalkLemmas.{all_unseen}
use Rattle.graph_core.proofs.walk.unseen_marks.Goals as goal

pub returns-clause-each : goal.returns-clause-each
returns-clause-each c =
    let all : c.resize.new.self.items ≡ replicate c.args.points Unseen = filled c.new-marks.result.items c.resize.new.self.items Unseen c.args.points (vec_len c.new-marks.result) c.new-marks.ensures.items c.new-marks.ensures.len c.in_ok-resize.ensures.items in
    let P : List Mark → Type 0 = AreUnseen in
    subst P (sym all) (all_unseen c.args.points)
