-- The lines of a model with each port once, as far as its lines were gone through: the ports that stood so far, each of
-- which has the number 0, and the lines that stand for those so far, where a new port has a line of `Outputs` of its own and
-- an old one has none. Behind the last line these are `ports_once` of the lines of the model. Source: this project's own.
use Rattle.std.specs.Prelude.{List, [], ◌∷◌, ◌++◌, is_some, if◌then◌else◌}
use Rattle.net_blif.specs.Statement.{Token}
use Rattle.net_blif.specs.Table.{no_numbers, numbers_in, with_number, Numbers}
use Rattle.net_blif.specs.private.Connecting.{after}
use Rattle.net_blif.specs.declared.item.Item.{Item}
use Rattle.net_blif.specs.declared.item.Item.TheVariants.{Inputs, Outputs}
use Rattle.net_blif.specs.declared.once.Once.{Once}

-- the ports so far, and the lines that stand for those so far
pub record OnceValue : Type 0 where
  pub stood : Numbers
  pub lines : List Item

abbrev pub once_in : Once → OnceValue
once_in once = record { stood = numbers_in once.stood; lines = once.lines }

abbrev pub no_lines : OnceValue
no_lines = record { stood = no_numbers; lines = [] }

-- one more port, unless it stood before
abbrev pub with_one_port : OnceValue → Token → OnceValue
with_one_port once name =
    if is_some (once.stood name) then once
    else record { stood = with_number once.stood name 0; lines = once.lines ++ Outputs (name ∷ []) ∷ [] }

-- one more line
abbrev pub with_line : OnceValue → Item → OnceValue
with_line once (Inputs nets) = after with_one_port once nets
with_line once (Outputs nets) = after with_one_port once nets
with_line once item = record { stood = once.stood; lines = once.lines ++ item ∷ [] }
