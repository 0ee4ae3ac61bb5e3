use Rattle.std.proofs.Common.{drop, Result}
use Rattle.job_words.specs.declared.signature_fault.SignatureFault.{SignatureFault}
use Rattle.job_input.specs.SettingOf.{BlocksHaveBases}
use Rattle.job_input.proofs.setting.judge_blocks.Given as goal

-- what may come of the rest may come of the whole
abbrev pub invariant-loop-block : goal.invariant-loop-block
invariant-loop-block g l =
    (outcome : Result (Unit {0}) SignatureFault) → BlocksHaveBases (g.F.Ring.degree l.poly.field.now) (g.F.Ring.product l.poly.field.now) (drop l.block-index l.blocks) outcome → BlocksHaveBases (g.F.Ring.degree l.poly.field.now) (g.F.Ring.product l.poly.field.now) l.blocks outcome
