-- Parts that are appended one by one, each after a separator but for a first one. Source: this project's own.
use Rattle.std.specs.Prelude.{ℕ, Bool, false, cond, List, [], ◌∷◌, ◌++◌}

abbrev pub part_after : List ℕ → Bool → List ℕ → List ℕ → List ℕ
part_after separator first out part = cond first (out ++ part) (out ++ separator ++ part)

abbrev pub parts_after : List ℕ → Bool → List ℕ → List (List ℕ) → List ℕ
parts_after separator first out [] = out
parts_after separator first out (x ∷ xs) = parts_after separator false (part_after separator first out x) xs
