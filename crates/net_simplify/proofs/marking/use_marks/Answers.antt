use Rattle.std.proofs.Common.{◌≡◌, ◌∙◌, ◌++◌, ℕ, List, length, take, drop, ap, sym, subst, rules}
use Rattle.lists.specs.laws.TakeLaws.{taken_front}
use Rattle.net_simplify.specs.private.Marks.{AreCounts, gates_by}
use Rattle.net_simplify.specs.private.Underway.{AreMarks}
use Rattle.net_simplify.proofs.MarkLemmas.{zero_counts}
use Rattle.net_simplify.proofs.marking.use_marks.Goals as goal

pub returns : goal.returns
returns c =
    let new : List ℕ = c.mark_all.new.marks in
    let long : length new ≡ c.in_ok-marks.marks.len = search rules in
    let P : List ℕ → Type 0 = AreMarks c.args.net.now c.args.ends.now (gates_by c.args.net.now.gates c.args.order.now) in
    let Q : List ℕ → Type 0 = λ ms. AreCounts ms (λ n. 0) in
    let items = c.in_ok-marks.ensures.items_if_clones_equal (λ y e. e) in
    let none = subst Q (sym (c.deref_mut.ensures.value ∙ items)) (zero_counts _) in
    record { marks = λ flat. subst P (sym (taken_front new (drop (length new) c.in_ok-marks.marks.items) c.in_ok-marks.marks.len long)) (c.mark_all.ensures.marks none flat) }
