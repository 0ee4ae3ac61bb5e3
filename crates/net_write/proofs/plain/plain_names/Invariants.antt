use Rattle.std.proofs.Common.{◌≡◌, ℕ, ◌<◌, true, Some}
use Rattle.std.specs.Prelude.{slice_get}
use Rattle.net_core.specs.NetList.{LabelValue}
use Rattle.net_write.specs.Plain.{IsPlainName}
use Rattle.net_write.proofs.plain.plain_names.Given as goal

abbrev pub invariant-loop-number : goal.invariant-loop-number
invariant-loop-number l = (n : ℕ) (label : LabelValue) → n < l.number → slice_get l.net.labels n ≡ Some label → (label.named ≡ true) × IsPlainName label.text
