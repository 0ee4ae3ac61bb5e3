-- Names that the outer nets of a made net may have. Source: this project's own; plain names as the BLIF format of UC Berkeley takes them.
use Rattle.std.specs.Prelude.{◌≡◌, ℕ, ◌≤◌, Bool, true, false, List, Some, length, slice_get}
use Rattle.lists.specs.Lists.{Has}
use Rattle.net_core.specs.NetList.{NetList}
use Rattle.make_nets.specs.MadeNet.{outer_net}
use Rattle.net_write.specs.Plain.{IsPlainName}

-- a plain name of at most 128 bytes
pub record IsMakerName (name : List ℕ) : Type 0 where
  pub plain : IsPlainName name
  pub some : 1 ≤ length name
  pub most : length name ≤ 128

-- no two of them are the same
abbrev pub AreApart : List (List ℕ) → Type 0
AreApart names = (i j : ℕ) (name : List ℕ) → slice_get names i ≡ Some name → slice_get names j ≡ Some name → i ≡ j

-- such names, no two of which are the same
pub record AreMakerNames (names : List (List ℕ)) : Type 0 where
  pub each : (name : List ℕ) → Has names name → IsMakerName name
  pub apart : AreApart names

-- whether nets of these names alone were made; they were not where these are no such names
abbrev pub AreMade : List (List ℕ) → NetList → Bool → Type 0
AreMade names maker true = (maker ≡ outer_net names) × AreMakerNames names
AreMade names maker false = AreMakerNames names → ⊥
