-- Places in a text, and the tokens from there: words of this crate's code. Source: this project's own.
use Rattle.std.specs.Prelude.{◌≡◌, Bool, true, false, List}
use Rattle.text_core.specs.Lines.{IsPrinting}
use Rattle.net_verilog.specs.declared.kind.Kind.{Kind}
use Rattle.net_verilog.specs.declared.kind.Kind.TheVariants as kinds
use Rattle.net_verilog.specs.Tokens.{TokenValue, tokens_from}
use Rattle.net_verilog.specs.declared.cursor.Cursor.{Cursor}
use Rattle.net_verilog.specs.declared.cursor.Token.{Token}

abbrev pub value_of : Token → TokenValue
value_of token = record { kind = token.kind; text = token.text.now; line = token.line }

-- the tokens from a place on
abbrev pub left : Cursor → List TokenValue
left place = tokens_from 0 place.line place.first place.rest.now

abbrev pub is_wrong : Kind → Bool
is_wrong kinds.Wrong = true
is_wrong kind = false

-- all tokens print but for the bytes that no token has
abbrev pub Prints : TokenValue → Type 0
Prints t = is_wrong t.kind ≡ false → IsPrinting t.text
