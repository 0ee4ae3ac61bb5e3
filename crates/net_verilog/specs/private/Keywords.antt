-- Keywords that are no gates: words of this crate's code. Source: this project's own.
use Rattle.std.specs.Prelude.{ℕ, Bool, List, [], ◌∷◌, codes}
use Rattle.std.specs.List.{list_any}
use Rattle.std.specs.Str.{bytes_eq}

-- a keyword that is the word of no gate
abbrev pub is_plain_keyword : List ℕ → Bool
is_plain_keyword word = list_any (λ keyword. bytes_eq word keyword) (codes "module" ∷ codes "endmodule" ∷ codes "input" ∷ codes "output" ∷ codes "wire" ∷ codes "assign" ∷ [])
