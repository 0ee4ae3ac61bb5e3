use Rattle.std.proofs.Common.{ℕ, List, drop, Result}
use Rattle.job_words.specs.declared.signature_fault.SignatureFault.{SignatureFault}
use Rattle.job_input.specs.SettingOf.{BasesOf}
use Rattle.job_input.specs.Setting.{elements_of_each, AreBasesOver}
use Rattle.job_input.proofs.BasesLemmas.{Rest}
use Rattle.job_input.proofs.setting.bases_of.Given as goal

-- what may come of the rest may come of the whole
abbrev pub invariant-loop-word : goal.invariant-loop-word
invariant-loop-word g l =
    AreBasesOver (g.F.Ring.degree l.poly.field.now) (g.F.Ring.product l.poly.field.now) l.bases.items
    × ((outcome : Result (List (List ℕ)) SignatureFault) → Rest (g.F.Ring.degree l.poly.field.now) (g.F.Ring.product l.poly.field.now) (elements_of_each l.bases.items) (drop l.word-index l.words) outcome → BasesOf (g.F.Ring.degree l.poly.field.now) (g.F.Ring.product l.poly.field.now) l.words outcome)
