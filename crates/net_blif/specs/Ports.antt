-- The lines of a model with each port once, which stand for its lines where it is the model of an instance. There an input
-- or an output is only mentioned, and a second mention of a name does nothing. So a line of ports, of inputs as well as of
-- outputs, becomes a line of `Outputs` for each of its names that stood in no line before it, and any other line stays as it
-- is. The ports that stood are the names that have a number, which is 0 for each. Source: this project's own.
use Rattle.std.specs.Prelude.{◌≡◌, ◌⊎◌, List, [], ◌∷◌, ◌++◌, is_some, if◌then◌else◌}
use Rattle.net_blif.specs.Statement.{Token}
use Rattle.net_blif.specs.Table.{no_numbers, with_number, Numbers}
use Rattle.net_blif.specs.declared.item.Item.{Item}
use Rattle.net_blif.specs.declared.item.Item.TheVariants.{Inputs, Outputs}

-- the ports that stood, with one more
abbrev pub with_port : Numbers → Token → Numbers
with_port stood name = if is_some (stood name) then stood else with_number stood name 0

-- with the names of a line
abbrev pub with_ports : Numbers → List Token → Numbers
with_ports stood [] = stood
with_ports stood (name ∷ names) = with_ports (with_port stood name) names

-- each name of a line that did not stand before, in a line of its own: one of `Outputs`, since in an instance inputs and
-- outputs are alike
abbrev pub new_ports : Numbers → List Token → List Item
new_ports stood [] = []
new_ports stood (name ∷ names) =
    if is_some (stood name) then new_ports stood names
    else Outputs (name ∷ []) ∷ new_ports (with_number stood name 0) names

-- a line of ports has those that did not stand before; any other line stays
abbrev pub line_once : Numbers → Item → List Item
line_once stood (Inputs nets) = new_ports stood nets
line_once stood (Outputs nets) = new_ports stood nets
line_once stood item = item ∷ []

-- the ports that stood, after a line
abbrev pub after_line : Numbers → Item → Numbers
after_line stood (Inputs nets) = with_ports stood nets
after_line stood (Outputs nets) = with_ports stood nets
after_line stood item = stood

-- line by line, behind those in which these ports stood
abbrev pub lines_once : Numbers → List Item → List Item
lines_once stood [] = []
lines_once stood (item ∷ items) = line_once stood item ++ lines_once (after_line stood item) items

-- each port stands once, where it stands first
abbrev pub ports_once : List Item → List Item
ports_once items = lines_once no_numbers items

-- what a walk in an instance goes through: the lines of the model, or these with each port once
abbrev pub IsBody : List Item → List Item → Type 0
IsBody items body = (body ≡ items) ⊎ (body ≡ ports_once items)
