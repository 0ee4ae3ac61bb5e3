use Rattle.std.proofs.Common.{sym, subst, List}
use Rattle.circuit_model.specs.Flat.{AreOver}
use Rattle.circuit_model.specs.declared.circuit_word.CircuitWord.{CircuitWord}
use Rattle.circuit_model.proofs.SharedLemmas.{appended_over}
use Rattle.worked_polynomials.proofs.rato_reduce_net_tests.input_words.Goals as goal

pub loop-i-preserved : goal.loop-i-preserved
loop-i-preserved g c =
    let k = g.F.Ring.degree c.args.field.now in
    let mul = g.F.Ring.product c.args.field.now in
    let P : List CircuitWord → Type 0 = AreOver k mul in
    record { over = subst P (sym c.in_ok-push.ensures.items) (appended_over k mul c.in_ok-word.field-0 c.in_ok-word.ensures.over c.loop-i.list.items c.loop-i.invariant.over) }
