-- The statement that tokens spell: the inverse of `spelled`, for proofs. Source: this project's own.
use Rattle.std.specs.Prelude.{◌-◌, Bool, true, false, List, [], ◌∷◌, length, take, codes, nat_lt, Option, None, Some, slice_index_or, if◌then◌else◌}
use Rattle.std.specs.List.{list_all}
use Rattle.std.specs.Option.{option_map}
use Rattle.std.specs.Str.{bytes_eq}
use Rattle.net_blif.specs.Connection.{is_connection}
use Rattle.net_blif.specs.Statement.{Token, is_cell, is_dotted, is_latch_end}
use Rattle.net_blif.specs.declared.statement.Statement.{Statement}
use Rattle.net_blif.specs.declared.statement.Statement.TheVariants.{Model, Inputs, Outputs, Clock, Cover, Latch, Instance, Row, End, Other}

abbrev pub bit_of : Token → Option Bool
bit_of token = if bytes_eq token (codes "1") then Some true else (if bytes_eq token (codes "0") then Some false else None)

abbrev pub model_of : List Token → Option Statement
model_of [] = Some (Model [])
model_of (name ∷ []) = Some (Model name)
model_of (name ∷ other ∷ rest) = None

abbrev pub cover_of : List Token → Option Statement
cover_of nets = if nat_lt 0 (length nets) then Some (Cover (take (length nets - 1) nets) (slice_index_or nets (length nets - 1) [])) else None

abbrev pub latch_of : List Token → Option Statement
latch_of [] = None
latch_of (next ∷ []) = None
latch_of (next ∷ out ∷ rest) = if is_latch_end rest then Some (Latch next out rest) else None

abbrev pub instance_of : List Token → Option Statement
instance_of [] = None
instance_of (model ∷ connections) = if list_all is_connection connections then Some (Instance model connections) else None

abbrev pub end_of : List Token → Option Statement
end_of [] = Some End
end_of (token ∷ rest) = None

abbrev pub dotted_of : Token → List Token → Option Statement
dotted_of word rest =
    if bytes_eq word (codes ".model") then model_of rest
    else (if bytes_eq word (codes ".inputs") then Some (Inputs rest)
    else (if bytes_eq word (codes ".outputs") then Some (Outputs rest)
    else (if bytes_eq word (codes ".clock") then Some (Clock rest)
    else (if bytes_eq word (codes ".names") then cover_of rest
    else (if bytes_eq word (codes ".latch") then latch_of rest
    else (if bytes_eq word (codes ".subckt") then instance_of rest
    else (if bytes_eq word (codes ".end") then end_of rest
    else Some (Other word rest))))))))

abbrev pub row_of : List Token → Option Statement
row_of [] = None
row_of (out ∷ []) = option_map (λ output. Row [] output) (bit_of out)
row_of (pattern ∷ out ∷ []) = if list_all is_cell pattern then option_map (λ output. Row pattern output) (bit_of out) else None
row_of (pattern ∷ out ∷ other ∷ rest) = None

abbrev pub statement_of : List Token → Option Statement
statement_of [] = None
statement_of (word ∷ rest) = if is_dotted word then dotted_of word rest else row_of (word ∷ rest)
