use Rattle.std.proofs.Common.{◌∙◌, sym, refl}
use Rattle.net_blif.proofs.LineLemmas.{trim_at, trim_stays}
use Rattle.net_blif.proofs.lines.trim_end.Goals as goal

pub returns-then-not-is_trailing : goal.returns-then-not-is_trailing
returns-then-not-is_trailing c = trim_stays c.loop-line.line.now _ c.in-len1-up.len_at_least refl (sym c.is_trailing.ensures ∙ c.if-not-is_trailing.true) ∙ c.loop-line.invariant

pub loop-line-preserved : goal.loop-line-preserved
loop-line-preserved c = trim_at c.loop-line.line.now _ c.in-len1-up.len_at_least refl (sym c.is_trailing.ensures ∙ c.if-not-is_trailing.false) ∙ c.loop-line.invariant
