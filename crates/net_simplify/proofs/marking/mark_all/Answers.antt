use Rattle.std.proofs.Common.{◌∙◌, ◌+◌, ◌<◌, ℕ, List, arith, subst}
use Rattle.std.specs.Prelude.{All}
use Rattle.lists.specs.Lists.{Has, times}
use Rattle.lists.specs.laws.HasLaws.{All_has}
use Rattle.net_core.specs.NetList.{nets}
use Rattle.net_simplify.specs.private.Marks.{AreCounts, gates_by}
use Rattle.net_simplify.proofs.MarkLemmas.{all_marks, in_order_by}
use Rattle.net_simplify.proofs.PlacedLemmas.{are_placed}
use Rattle.net_simplify.proofs.marking.mark_all.Goals as goal

pub add_all-requires : goal.add_all-requires
add_all-requires c = λ n has.
    let P : List ℕ → Type 0 = λ ns. Has ns n in
    omega (arith, c.requires.long, c.add_gates.ensures.long, All_has (λ m. m < nets c.args.net.now) c.args.net.now.inputs n c.inputs-inputs.ensures.sound.inside.inputs (subst P c.inputs-inputs.ensures.inputs has))

pub add_all-requires-2 : goal.add_all-requires-2
add_all-requires-2 c = λ n has.
    let P : List ℕ → Type 0 = λ ns. Has ns n in
    omega (arith, c.requires.long, c.add_gates.ensures.long, c.add_all.ensures.long, All_has (λ m. m < nets c.args.net.now) c.args.net.now.inputs n c.inputs-inputs.ensures.sound.inside.inputs (subst P c.inputs-inputs.ensures.inputs has))

pub returns-clause-marks : goal.returns-clause-marks
returns-clause-marks c = λ none flat.
    let same = c.inputs-inputs.ensures.inputs in
    all_marks c.args.net.now c.args.ends.now c.args.order.now c.args.marks.now c.add_gates.new.marks c.add_all.new.marks c.add_all-2.new.marks c.inputs-inputs.ensures.sound c.requires.order
    (are_placed c.args.net.now (gates_by c.args.net.now.gates c.args.order.now) c.inputs-inputs.ensures.sound (in_order_by c.args.net.now c.args.order.now c.requires.order)) flat none c.add_gates.ensures.each
    (λ f counts. let P : List ℕ → Type 0 = λ ns. AreCounts c.add_all.new.marks (λ n. f n + times n ns) in subst P same (c.add_all.ensures.each f counts))
    (λ f counts. let P : List ℕ → Type 0 = λ ns. AreCounts c.add_all-2.new.marks (λ n. f n + times n ns) in subst P same (c.add_all-2.ensures.each f counts))
