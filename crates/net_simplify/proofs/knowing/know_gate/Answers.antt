use Rattle.std.proofs.Common.{◌∙◌, ap, sym, refl}
use Rattle.std.proofs.lemmas.Result.{on_ok_weaker}
use Rattle.net_simplify.specs.private.Marks.{count_at}
use Rattle.net_simplify.proofs.SettleLemmas.{idle_next}
use Rattle.net_simplify.proofs.knowing.know_gate.Goals as goal

pub returns-then-mark_at-eq0-clause-step : goal.returns-then-mark_at-eq0-clause-step
returns-then-mark_at-eq0-clause-step c = λ net ends gates i placed got marked is.
    idle_next net ends gates i c.args.gate.now c.args.known.now c.args.catalog.now got
    (marked.idle c.args.gate.now (i, got) (sym (c.mark_at.ensures ∙ ap (count_at c.args.marks.now) c.out.ensures) ∙ c.if-mark_at-eq0.true)) is

pub returns-clause-step : goal.returns-clause-step
returns-clause-step c =
    on_ok_weaker c.settle.result (λ step net ends gates i placed got marked is.
    step net ends gates i (record {
      placed = placed;
      got = got;
      used = marked.used c.args.gate.now (i, got) (λ none. c.if-mark_at-eq0.false (c.mark_at.ensures ∙ ap (count_at c.args.marks.now) c.out.ensures ∙ none));
      underway = is;
    }) marked.singles) c.settle.ensures.step
