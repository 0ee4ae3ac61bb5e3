-- What a line says, by its spelling. Source: the Berkeley Logic Interchange Format (BLIF), University of California, Berkeley.
use Rattle.std.specs.Prelude.{ℕ, ◌≤◌, ◌==◌, ◌||◌, ◌&&◌, Bool, true, false, not, List, [], ◌∷◌, ◌++◌, length, codes}
use Rattle.std.specs.List.{list_any, list_all}
use Rattle.std.specs.Str.{bytes_eq}
use Rattle.text_core.specs.Lines.{IsPrinting}
use Rattle.net_blif.specs.Connection.{is_connection}
use Rattle.net_blif.specs.declared.statement.Statement.{Statement}
use Rattle.net_blif.specs.declared.statement.Statement.TheVariants.{Model, Inputs, Outputs, Clock, Cover, Latch, Instance, Row, End, Other}

abbrev pub Token : Type 0
Token = List ℕ

-- 1 to 255 bytes from `!` to `~`
abbrev pub IsToken : Token → Type 0
IsToken token = (1 ≤ length token) × (length token ≤ 255) × IsPrinting token

-- the output of a row
abbrev pub bit_token : Bool → Token
bit_token true = codes "1"
bit_token false = codes "0"

-- a model without a name has the empty one
abbrev pub model_tokens : Token → List Token
model_tokens [] = codes ".model" ∷ []
model_tokens (b ∷ bs) = codes ".model" ∷ (b ∷ bs) ∷ []

-- a row of a cover without inputs has the output alone
abbrev pub row_tokens : Token → Bool → List Token
row_tokens [] output = bit_token output ∷ []
row_tokens (b ∷ bs) output = (b ∷ bs) ∷ bit_token output ∷ []

-- the kinds of a latch's clock
abbrev pub is_kind : Token → Bool
is_kind token = bytes_eq token (codes "fe") || (bytes_eq token (codes "re") || (bytes_eq token (codes "ah") || (bytes_eq token (codes "al") || bytes_eq token (codes "as"))))

-- a latch's start: 0, 1, or 2 and 3, which say that it is not known
abbrev pub is_start : Token → Bool
is_start token = bytes_eq token (codes "0") || (bytes_eq token (codes "1") || (bytes_eq token (codes "2") || bytes_eq token (codes "3")))

-- what may stand behind the nets of a latch: a kind and a control, or neither, and then a start, or none
abbrev pub is_latch_end : List Token → Bool
is_latch_end [] = true
is_latch_end (start ∷ []) = is_start start
is_latch_end (kind ∷ control ∷ []) = is_kind kind
is_latch_end (kind ∷ control ∷ start ∷ []) = is_kind kind && is_start start
is_latch_end (kind ∷ control ∷ start ∷ more ∷ rest) = false

-- the tokens of a statement
abbrev pub spelled : Statement → List Token
spelled (Model name) = model_tokens name
spelled (Inputs nets) = codes ".inputs" ∷ nets
spelled (Outputs nets) = codes ".outputs" ∷ nets
spelled (Clock nets) = codes ".clock" ∷ nets
spelled (Cover inputs out) = codes ".names" ∷ (inputs ++ out ∷ [])
spelled (Latch next out rest) = codes ".latch" ∷ next ∷ out ∷ rest
spelled (Instance model connections) = codes ".subckt" ∷ model ∷ connections
spelled (Row pattern output) = row_tokens pattern output
spelled End = codes ".end" ∷ []
spelled (Other word rest) = word ∷ rest

-- the words that begin a statement
abbrev pub keywords : List Token
keywords = codes ".model" ∷ codes ".inputs" ∷ codes ".outputs" ∷ codes ".clock" ∷ codes ".names" ∷ codes ".latch" ∷ codes ".subckt" ∷ codes ".end" ∷ []

abbrev pub is_dotted : Token → Bool
is_dotted [] = false
is_dotted (b ∷ bs) = b == 46

-- a word that begins with `.` and with which no statement begins
abbrev pub is_other : Token → Bool
is_other word = is_dotted word && not (list_any (λ keyword. bytes_eq word keyword) keywords)

-- `0`, `1` or `-`
abbrev pub is_cell : ℕ → Bool
is_cell b = (b == 48) || (b == 49) || (b == 45)

-- a row asks cell by cell, the end of a latch is one of those that there are, an instance has connections, and another word is no keyword
abbrev pub is_well : Statement → Bool
is_well (Row pattern output) = list_all is_cell pattern
is_well (Latch next out rest) = is_latch_end rest
is_well (Instance model connections) = list_all is_connection connections
is_well (Other word rest) = is_other word
is_well s = true
