-- How often nets are driven. Source: this project's own.
use Rattle.std.specs.Prelude.{◌≡◌, ℕ, ◌<◌, List, length, min, slice_index}
use Rattle.lists.specs.Lists.{times}

-- how often each net below the bound stands in the list, where 2 stands for more too
pub record AreCounts (driven : List ℕ) (bound : ℕ) (counts : List ℕ) : Type 0 where
  pub long : length counts ≡ bound
  pub each : (n : ℕ) → n < bound → slice_index counts n ≡ min 2 (times n driven)
