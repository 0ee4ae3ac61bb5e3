use Rattle.std.proofs.Common.{rules, ◌≡◌, ◌++◌, ◌∙◌, List, length, take, drop, sym, ap, subst}
use Rattle.std.specs.List.{filter}
use Rattle.std.proofs.lemmas.Fn.{filter_same}
use Rattle.rato_reduce.specs.declared.row.Row.{Row}
use Rattle.rato_reduce.specs.private.Rows.{AreAddedUp}
use Rattle.rato_reduce.proofs.AddedLemmas.{refilled}
use Rattle.rato_reduce.proofs.RowLemmas.{merged_rows, row_stays}
use Rattle.rato_reduce.proofs.merge.merge_rows.Goals as goal

added : (c : goal.After-drop-table) → AreAddedUp c.args.ranks.now c.args.rows.now.items c.add_up.new.rows
added c = let P : List Row → Type 0 = λ rs. AreAddedUp c.args.ranks.now rs c.add_up.new.rows in subst P c.as_mut_slice.ensures.value c.add_up.ensures.same

kept : (c : goal.After-drop-table) → c.retain.new.self.items ≡ filter row_stays c.add_up.new.rows
kept c =
    let old : List Row = c.args.rows.now.items in
    let new : List Row = c.add_up.new.rows in
    let long : length new ≡ length old = c.add_up.ensures.long ∙ ap length c.as_mut_slice.ensures.value in
    let is = refilled old new c.args.rows.now.len long (sym c.as_mut_slice.ensures.len ∙ ap length c.as_mut_slice.ensures.value) in
    let filtered : c.retain.new.self.items ≡ filter row_stays (take c.args.rows.now.len (new ++ drop (length new) old)) = filter_same _ row_stays _ (λ x b g called. search rules) _ _ c.retain.ensures.filtered in
    filtered ∙ ap (filter row_stays) is

pub returns-clause-merged : goal.returns-clause-merged
returns-clause-merged c = merged_rows c.args.ranks.now c.args.rows.now.items c.add_up.new.rows c.retain.new.self.items (added c) (kept c)
