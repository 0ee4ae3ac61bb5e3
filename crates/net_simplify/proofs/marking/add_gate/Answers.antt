use Rattle.std.proofs.Common.{◌+◌, ℕ, List, subst}
use Rattle.lists.specs.Lists.{Has, times}
use Rattle.net_simplify.specs.private.Marks.{AreCounts}
use Rattle.net_simplify.proofs.MarkLemmas.{gate_used}
use Rattle.net_simplify.proofs.marking.add_gate.Goals as goal

pub add_all-requires : goal.add_all-requires
add_all-requires c = λ n has. let P : List ℕ → Type 0 = λ ns. Has ns n in c.requires n (subst P c.inputs.ensures.inputs has)

pub returns-then-mark_at-ne0-clause-each : goal.returns-then-mark_at-ne0-clause-each
returns-then-mark_at-ne0-clause-each c = λ ends gates are.
    gate_used c.args.marks.now c.add_all.new.marks ends gates c.args.gate.now c.out.result c.mark_at.result c.out.ensures c.mark_at.ensures c.if-mark_at-ne0.true
    (λ f counts. let P : List ℕ → Type 0 = λ ns. AreCounts c.add_all.new.marks (λ n. f n + times n ns) in subst P c.inputs.ensures.inputs (c.add_all.ensures.each f counts)) are
