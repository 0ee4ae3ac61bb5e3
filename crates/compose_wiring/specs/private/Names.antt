-- Names and what they are connected to, step by step. Source: this project's own.
use Rattle.std.specs.Prelude.{ℕ, ◌+◌, ◌&&◌, Bool, true, false, List, [], ◌∷◌, Option, None, Some, if◌then◌else◌}
use Rattle.std.specs.Option.{option_and_then, option_map}
use Rattle.std.specs.Str.{bytes_eq}
use Rattle.net_blif.specs.Connection.{formal_of}
use Rattle.net_blif.specs.Instances.{first_found}
use Rattle.net_blif.specs.Statement.{Token}
use Rattle.net_blif.specs.Top.{actual_at}
use Rattle.net_blif.specs.declared.item.Item.{Item}
use Rattle.net_blif.specs.declared.item.Item.TheVariants.{Instance}

-- the names are the same, place by place
abbrev pub same_names : List Token → List Token → Bool
same_names [] [] = true
same_names [] (y ∷ ys) = false
same_names (x ∷ xs) [] = false
same_names (x ∷ xs) (y ∷ ys) = bytes_eq x y && same_names xs ys

-- the place of the first connection with this formal, where they are numbered from n
abbrev pub place_from : ℕ → List Token → Token → Option ℕ
place_from n [] formal = None
place_from n (connection ∷ connections) formal = if bytes_eq (formal_of connection) formal then Some n else place_from (n + 1) connections formal

-- what connections connect to a formal
abbrev pub actual_by : List Token → Token → Option Token
actual_by connections formal = first_found (actual_at formal) connections

-- what connections connect to formals, one by one; none where one is not connected
abbrev pub actuals_by : List Token → List Token → Option (List Token)
actuals_by connections [] = Some []
actuals_by connections (formal ∷ formals) = option_and_then (λ actual. option_map (λ actuals. actual ∷ actuals) (actuals_by connections formals)) (actual_by connections formal)

-- the connections of an instance
abbrev pub connections_of : Item → List (List Token)
connections_of (Instance line model connections) = connections ∷ []
connections_of item = []
