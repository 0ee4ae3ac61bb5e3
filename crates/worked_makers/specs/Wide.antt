-- Words with as many nets as the field's degree. Source: this project's own.
use Rattle.std.specs.Prelude.{◌≡◌, ◌≢◌, ℕ, length}
use Rattle.net_words.specs.declared.word.Role.TheVariants.{Fed}
use Rattle.net_words.specs.declared.word.WordText.{WordText}

-- the word has k nets, unless it is fed
abbrev pub IsWide : ℕ → WordText → Type 0
IsWide k word = word.role ≢ Fed → length word.nets ≡ k
