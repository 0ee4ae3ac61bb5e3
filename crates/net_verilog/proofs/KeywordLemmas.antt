-- The keywords are those of gates and the others.
use Rattle.std.proofs.Common.{◌≡◌, ◌∙◌, ap, sym, refl, ℕ, Bool, true, false, List, codes, Option, None, Some}
use Rattle.std.specs.Prelude.{◌||◌, is_some, if◌then◌else◌}
use Rattle.std.specs.Str.{bytes_eq}
use Rattle.net_verilog.specs.Words.{is_keyword}
use Rattle.net_verilog.specs.Instances.{gate_of}
use Rattle.net_verilog.specs.private.Keywords.{is_plain_keyword}
use Rattle.net_verilog.specs.declared.gate_kind.GateKind.{GateKind}
use Rattle.net_verilog.specs.declared.gate_kind.GateKind.TheVariants.{And, Or, Xor, Nand, Nor, Xnor, Not, Buf}

link : (b : Bool) (kind : GateKind) (rest : Option GateKind) (more : Bool) → more ≡ is_some rest → (b || more) ≡ is_some (if b then Some kind else rest)
link true kind rest more is = refl
link false kind rest more is = is

gathered : (a b c d e f more rest : Bool) → more ≡ rest → (a || (b || (c || (d || (e || (f || more)))))) ≡ ((a || (b || (c || (d || (e || (f || false)))))) || rest)
gathered true b c d e f more rest is = refl
gathered false true c d e f more rest is = refl
gathered false false true d e f more rest is = refl
gathered false false false true e f more rest is = refl
gathered false false false false true f more rest is = refl
gathered false false false false false true more rest is = refl
gathered false false false false false false more rest is = is

keyword_parts : (word : List ℕ) → is_keyword word ≡ (is_plain_keyword word || is_some (gate_of word))
keyword_parts word =
    gathered (bytes_eq word (codes "module")) (bytes_eq word (codes "endmodule")) (bytes_eq word (codes "input")) (bytes_eq word (codes "output")) (bytes_eq word (codes "wire")) (bytes_eq word (codes "assign")) _ _
    (link (bytes_eq word (codes "and")) And _ _
    (link (bytes_eq word (codes "or")) Or _ _
    (link (bytes_eq word (codes "xor")) Xor _ _
    (link (bytes_eq word (codes "nand")) Nand _ _
    (link (bytes_eq word (codes "nor")) Nor _ _
    (link (bytes_eq word (codes "xnor")) Xnor _ _
    (link (bytes_eq word (codes "not")) Not _ _
    (link (bytes_eq word (codes "buf")) Buf None false refl))))))))

-- what the two tests of a word say
pub keyword_plain : (word : List ℕ) → is_plain_keyword word ≡ true → true ≡ is_keyword word
keyword_plain word is = sym (keyword_parts word ∙ ap (λ b. b || is_some (gate_of word)) is)

pub keyword_gate : (word : List ℕ) → is_plain_keyword word ≡ false → is_some (gate_of word) ≡ is_keyword word
keyword_gate word is = sym (keyword_parts word ∙ ap (λ b. b || is_some (gate_of word)) is)
