-- Nets whose names can stand in a text in BLIF. Source: the Berkeley Logic Interchange Format (BLIF), University of California, Berkeley.
use Rattle.std.specs.Prelude.{◌≡◌, ◌≢◌, ℕ, ◌≤◌, List, true, Some, slice_get, All}
use Rattle.net_core.specs.NetList.{LabelValue, NetList}

-- a byte from `!` to `~` that is neither `#`, which begins a comment, nor `\`, which joins lines
abbrev pub IsPlainByte : ℕ → Type 0
IsPlainByte b = (33 ≤ b) × (b ≤ 126) × (b ≢ 35) × (b ≢ 92)

abbrev pub IsPlainName : List ℕ → Type 0
IsPlainName name = All IsPlainByte name

-- every net is named, and names have plain bytes alone
abbrev pub HasPlainNames : NetList → Type 0
HasPlainNames net = (n : ℕ) (label : LabelValue) → slice_get net.labels n ≡ Some label → (label.named ≡ true) × IsPlainName label.text
