use Rattle.std.proofs.Common.{◌∙◌, ap, sym}
use Rattle.compose_wiring.specs.private.Words.{is_mixed}
use Rattle.compose_wiring.proofs.RowLemmas.{good_output, loose_output, mixed_output}
use Rattle.compose_wiring.proofs.row.is_good_output.Goals as goal

pub returns-then-is_mixed-clause-bad : goal.returns-then-is_mixed-clause-bad
returns-then-is_mixed-clause-bad c = λ e at got. mixed_output c.args.placed.now at (c.requires.output at got) (ap is_mixed (sym c.block.ensures) ∙ sym c.is_mixed.ensures ∙ c.if-is_mixed.true)

pub returns-in-Some-clause-good : goal.returns-in-Some-clause-good
returns-in-Some-clause-good c = λ e at got bad. good_output c.args.placed.now at c.in-Some.field-0.now (c.requires.output at got) (ap is_mixed (sym c.block.ensures) ∙ sym c.is_mixed.ensures ∙ c.if-is_mixed.false) (c.in-Some.ensures.some at got) bad

pub returns-in-None-clause-bad : goal.returns-in-None-clause-bad
returns-in-None-clause-bad c = λ e at got. loose_output c.args.placed.now at (c.in-None.ensures.none at got)
