-- Small worked examples of the definitions of specs/, which the check computes.
use Rattle.std.proofs.Common.{◌≡◌, List, [], ◌∷◌, false, codes, refl, Ok}
use Rattle.net_blif.specs.Design.{ModelValue}
use Rattle.net_blif.specs.declared.item.Item.TheVariants as items
use Rattle.std.specs.Fmt.{digits}
use Rattle.net_flat.specs.Paths.{inner, label_of, path_in, top, At, Path}
use Rattle.net_flat.specs.Steps.{steps_of, Mention, Input, Output, Gate, Enter}
use Rattle.net_flat.specs.Walk.{walk_of, walk_within}
use Rattle.net_flat.specs.Flat.{nothing, walked}

-- in the third instance of the top, which connects a to x, the formal a is the net x
connected_formal : path_in (inner top 3 (codes "a=x" ∷ [])) (codes "a") ≡ At [] (codes "x")
connected_formal = refl

-- and the unconnected output z is a net of the instance
unconnected_output : path_in (inner top 3 (codes "a=x" ∷ [])) (codes "z") ≡ At (3 ∷ []) (codes "z")
unconnected_output = refl

-- the net n in the second instance of the first instance is called by both numbers, and is not found by that name
label_inside : label_of (At (1 ∷ 2 ∷ []) (codes "n")) ≡ record { text = codes "1/2/n"; named = false }
unfolding digits
label_inside = refl

-- in an instance an input is only mentioned
input_inside : steps_of false (items.Inputs (codes "a" ∷ [])) ≡ Mention (codes "a") ∷ []
input_inside = refl

-- the inverter m
abbrev inverter : ModelValue
inverter = record { name = codes "m"; items = items.Inputs (codes "a" ∷ []) ∷ items.Outputs (codes "z" ∷ []) ∷ items.Gate 12 (codes "a" ∷ []) (codes "z") 1 ∷ [] }

-- a top with two of them: the first goes from the input x to the output y, the second reads y and its output is not connected
abbrev twice : List ModelValue
twice = record { name = codes "t"; items = items.Inputs (codes "x" ∷ []) ∷ items.Outputs (codes "y" ∷ []) ∷ items.Instance 4 (codes "m") (codes "a=x" ∷ codes "z=y" ∷ []) ∷ items.Instance 5 (codes "m") (codes "a=y" ∷ []) ∷ [] } ∷ inverter ∷ []

abbrev x : Path
x = At [] (codes "x")

abbrev y : Path
y = At [] (codes "y")

-- the output of the second instance
abbrev z : Path
z = At (2 ∷ []) (codes "z")

-- what is connected is mentioned where an instance is entered, and then its lines are walked
walk_twice : walk_of twice 0 ≡
    Mention x ∷ Input x ∷ Mention y ∷ Output y
    ∷ Enter ∷ Mention x ∷ Mention y ∷ Mention x ∷ Mention y ∷ Mention x ∷ Mention y ∷ Gate (x ∷ []) y 1
    ∷ Enter ∷ Mention y ∷ Mention y ∷ Mention z ∷ Mention y ∷ Mention z ∷ Gate (y ∷ []) z 1 ∷ []
unfolding walk_within
walk_twice = refl

-- three nets, two gates and two instances come of it
met_twice : walked nothing (walk_of twice 0) ≡ Ok (record { paths = x ∷ y ∷ z ∷ []; inputs = 0 ∷ []; outputs = 1 ∷ []; gates = record { out = 1; inputs = 0 ∷ []; table = 1 } ∷ record { out = 2; inputs = 1 ∷ []; table = 1 } ∷ []; latches = []; instances = 2 })
unfolding walk_within
met_twice = refl

-- a top that has p, which has the inverter: the formal a is p's formal b, and so the net x
abbrev nested : List ModelValue
nested = record { name = codes "t"; items = items.Instance 2 (codes "p") (codes "b=x" ∷ []) ∷ [] } ∷ record { name = codes "p"; items = items.Instance 6 (codes "m") (codes "a=b" ∷ []) ∷ [] } ∷ inverter ∷ []

-- the output of the inverter, which is the first instance of the first instance
abbrev deep : Path
deep = At (1 ∷ 1 ∷ []) (codes "z")

walk_nested : walk_of nested 0 ≡ Enter ∷ Mention x ∷ Enter ∷ Mention x ∷ Mention x ∷ Mention deep ∷ Mention x ∷ Mention deep ∷ Gate (x ∷ []) deep 1 ∷ []
unfolding walk_within
walk_nested = refl

-- the model p by itself, which a chain from the top reaches: its formals are nets of their own
walk_of_p : walk_of nested 1 ≡ Enter ∷ Mention (At [] (codes "b")) ∷ Mention (At [] (codes "b")) ∷ Mention (At (1 ∷ []) (codes "z")) ∷ Mention (At [] (codes "b")) ∷ Mention (At (1 ∷ []) (codes "z")) ∷ Gate (At [] (codes "b") ∷ []) (At (1 ∷ []) (codes "z")) 1 ∷ []
unfolding walk_within
walk_of_p = refl
