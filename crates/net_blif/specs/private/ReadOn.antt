-- Lines read one after another. Source: this project's own.
use Rattle.std.specs.Prelude.{ℕ, List, Result}
use Rattle.std.specs.Str.Lines.{lines}
use Rattle.net_blif.specs.Lines.{joined}
use Rattle.net_blif.specs.Models.{Reading, Reads}
use Rattle.net_blif.specs.declared.fault.BlifFault.{BlifFault}

-- What the text that follows may give behind what was read then, the text may give behind what was read before.
abbrev pub ReadsOn : Reading → ℕ → List ℕ → Reading → ℕ → List ℕ → Type 0
ReadsOn before n text then m after = (outcome : Result Reading BlifFault) → Reads then (joined m (lines after)) outcome → Reads before (joined n (lines text)) outcome
