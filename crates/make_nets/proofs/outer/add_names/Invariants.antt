-- Nets of the names before were made.
use Rattle.std.proofs.Common.{◌≡◌, ◌+◌, ◌++◌, List, ℕ, true, take}
use Rattle.make_nets.specs.MakerNames.{AreMade}
use Rattle.make_nets.proofs.outer.add_names.Given as goal

abbrev pub invariant-loop-name : goal.invariant-loop-name
invariant-loop-name l =
    ((names : List (List ℕ)) → AreMade names l.fn.maker true → AreMade (names ++ take l.name-index l.list) l.maker true)
    × (l.count ≡ l.fn.count + l.name-index)
