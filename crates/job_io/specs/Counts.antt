-- Counts that never fall, and stop at the greatest number of 64 bits. Source: this project's own.
use Rattle.std.specs.Prelude.{◌≡◌, ◌⊎◌, ℕ, ◌+◌, ◌<◌, ◌-◌, ◌^◌, min, Bool, ◌==◌, List}
use Rattle.std.specs.List.{list_any}

-- the count is greater than before, or stands at the greatest number
abbrev pub Rose : ℕ → ℕ → Type 0
Rose old new = (old < new) ⊎ (new ≡ 2 ^ 64 - 1)

-- one more, up to the greatest number
abbrev pub next_of : ℕ → ℕ
next_of count = min (count + 1) (2 ^ 64 - 1)

-- whether the number stands in the list
abbrev pub is_listed : List ℕ → ℕ → Bool
is_listed numbers number = list_any (λ listed. listed == number) numbers
