-- The key of a word: the names of its nets and the elements of its basis, one after another. Source: this project's own.
use Rattle.std.specs.Prelude.{ℕ, false, List, [], ◌∷◌, ◌++◌, map}
use Rattle.std.specs.Fmt.{digits}
use Rattle.net_blif.specs.Statement.{Token}

-- an element in hexadecimal
abbrev pub hex_of : ℕ → Token
hex_of element = digits 16 false element

-- parts with a space behind each
abbrev pub spaced : List Token → Token
spaced [] = []
spaced (part ∷ parts) = (part ++ 32 ∷ []) ++ spaced parts

-- the key of nets and a basis
abbrev pub key_of : List Token → List ℕ → Token
key_of nets basis = spaced nets ++ spaced (map hex_of basis)
