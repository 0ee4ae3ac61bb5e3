-- What a test of kinds says that the end, or a byte that no token has, does not pass.
use Rattle.std.proofs.Common.{◌≡◌, ◌∙◌, ap, refl, Bool, true, false}
use Rattle.net_verilog.specs.Tokens.{TokenValue, is_end}
use Rattle.net_verilog.specs.Words.{start_kind, start_of}
use Rattle.net_verilog.specs.private.Places.{is_wrong}
use Rattle.net_verilog.specs.declared.kind.Kind.{Kind}
use Rattle.net_verilog.specs.declared.kind.Kind.TheVariants as kinds
use Rattle.net_verilog.specs.declared.operator.Start.{Start}
use Rattle.net_verilog.specs.declared.operator.Start.TheVariants as starts

-- it is no end
pub goes : (test : Kind → Bool) → test kinds.End ≡ false → (kind : Kind) → test kind ≡ true → is_end kind ≡ false
goes test none kinds.End is = absurd (cc)
goes test none kind is = refl

-- it is no wrong byte
pub is_right : (test : Kind → Bool) → test kinds.Wrong ≡ false → (kind : Kind) → test kind ≡ true → is_wrong kind ≡ false
is_right test none kinds.Wrong is = absurd (cc)
is_right test none kind is = refl

-- what an operand begins with
abbrev pub begins : Start → Bool
begins starts.Other = false
begins start = true

pub begins_goes : (t : TokenValue) (start : Start) → start_of t ≡ start → begins start ≡ true → is_end t.kind ≡ false
begins_goes t start is some = goes (λ kind. begins (start_kind kind t.text)) refl t.kind (ap begins is ∙ some)

pub begins_right : (t : TokenValue) (start : Start) → start_of t ≡ start → begins start ≡ true → is_wrong t.kind ≡ false
begins_right t start is some = is_right (λ kind. begins (start_kind kind t.text)) refl t.kind (ap begins is ∙ some)
