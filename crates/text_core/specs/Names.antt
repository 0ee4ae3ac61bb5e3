-- Names of words. Source: this project's own, docs/FORMATS.md.
use Rattle.std.specs.Prelude.{◌≡◌, ◌⊎◌, ℕ, ◌<◌, ◌≤◌, List, length, slice_index, EachIndex}
use Rattle.std.specs.Char.{IsAsciiAlphabetic, IsAsciiAlphanumeric}

-- a letter, a digit or `_`
abbrev pub IsNameByte : ℕ → Type 0
IsNameByte b = IsAsciiAlphanumeric b ⊎ (b ≡ 95)

-- an ASCII letter, and then letters, digits and `_`, at most 255 bytes in all
pub record IsName (token : List ℕ) : Type 0 where
  pub some : 0 < length token
  pub letter : IsAsciiAlphabetic (slice_index token 0)
  pub each : EachIndex token (λ k. IsNameByte (slice_index token k))
  pub short : length token ≤ 255
