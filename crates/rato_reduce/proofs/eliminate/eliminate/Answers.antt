use Rattle.std.proofs.Common.{◌≡◌, List, None, Option, OnOk, sym, subst}
use Rattle.net_core.specs.NetList.{nets}
use Rattle.net_words.specs.Variables.{variables}
use Rattle.poly_mixed.specs.Polynomial.{Terms, IsReduced}
use Rattle.poly_mixed.specs.Steps.{Step, Tells}
use Rattle.stage_model.specs.Variables.{rank_in}
use Rattle.rato_reduce.specs.GatePoint.{HasGatePutIn}
use Rattle.rato_reduce.specs.Recorded.{IsGateRecorded}
use Rattle.rato_reduce.proofs.SilentLemmas.{silent_step}
use Rattle.rato_reduce.proofs.eliminate.eliminate.Goals as goal

pub returns-then-put_line-clause-reduced : goal.returns-then-put_line-clause-reduced
returns-then-put_line-clause-reduced g c = c.put_line.ensures.reduced c.if-put_line.true

pub returns-then-put_line-clause-values : goal.returns-then-put_line-clause-values
returns-then-put_line-clause-values g c = c.put_line.ensures.values c.if-put_line.true

pub returns-then-put_line-clause-steps : goal.returns-then-put_line-clause-steps
returns-then-put_line-clause-steps g c =
    let degree = g.F.Ring.degree c.args.field.now in
    let order = variables (nets c.args.circuit.now.net) c.args.circuit.now.binding.words in
    let gate = c.args.gate.now in
    let silent : g.T.Steps.steps c.args.steps.now ≡ None = c.tells.ensures c.if-tells.false in
    let made = silent_step degree (rank_in order gate.out) gate.out c.args.cut.now.terms c.requires.cut in
    let P : Option (List Step) → Type 0 = λ told. Tells told told made.0 in
    (made.0, made.1, subst P (sym silent) tt)

pub put_gate-requires-2-clause-cut : goal.put_gate-requires-2-clause-cut
put_gate-requires-2-clause-cut g c =
    let P : Terms → Type 0 = IsReduced (g.F.Ring.degree c.args.field.now) in
    subst P (sym (c.put_line.ensures.kept c.if-put_line.false)) c.requires.cut

pub returns-clause-values : goal.returns-clause-values
returns-clause-values g c =
    let degree = g.F.Ring.degree c.args.field.now in
    let mul = g.F.Ring.product c.args.field.now in
    let order = variables (nets c.args.circuit.now.net) c.args.circuit.now.binding.words in
    let P : Terms → Type 0 = λ old. OnOk c.put_gate-2.result (HasGatePutIn degree mul order c.args.gate.now old c.put_gate-2.new.cut.terms) in
    subst P (c.put_line.ensures.kept c.if-put_line.false) c.put_gate-2.ensures.values

pub returns-clause-steps : goal.returns-clause-steps
returns-clause-steps g c =
    let degree = g.F.Ring.degree c.args.field.now in
    let order = variables (nets c.args.circuit.now.net) c.args.circuit.now.binding.words in
    let P : Terms → Type 0 = λ old. OnOk c.put_gate-2.result (IsGateRecorded degree order c.args.gate.now old (g.T.Steps.steps c.args.steps.now) (g.T.Steps.steps c.put_gate-2.new.steps)) in
    subst P (c.put_line.ensures.kept c.if-put_line.false) c.put_gate-2.ensures.steps
