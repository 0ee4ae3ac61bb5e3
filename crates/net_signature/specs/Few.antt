-- How many words stand together. Source: this project's own format, docs/FORMATS.md.
use Rattle.std.specs.Prelude.{◌≤◌, List, length, filter}
use Rattle.net_words.specs.Roles.{is_output, input_count}
use Rattle.net_words.specs.declared.word.WordText.{WordText}

-- at most one output word and at most eight others
pub record AreFew (words : List WordText) : Type 0 where
  pub outputs : length (filter is_output words) ≤ 1
  pub others : input_count words ≤ 8
