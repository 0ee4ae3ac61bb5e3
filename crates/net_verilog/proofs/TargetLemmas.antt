-- A target is an identifier with what follows it.
use Rattle.std.proofs.Common.{◌≡◌, ◌∙◌, ap, refl, sym, ℕ, ◌≤◌, Bool, true, false, List, [], ◌∷◌, length, Option, None, Some, Ok, Err}
use Rattle.std.specs.Prelude.{◌==◌, ◌||◌, ◌&&◌, is_some, nat_le, nat_lt, unwrap_or, if◌then◌else◌}
use Rattle.std.specs.Option.{option_map}
use Rattle.std.proofs.lemmas.Bool.{le-leb}
use Rattle.lists.specs.laws.BoolLaws.{and_made}
use Rattle.outcome.specs.Steps.{on_value}
use Rattle.net_verilog.specs.Tokens.{TokenValue, is_end}
use Rattle.net_verilog.specs.Words.{wrong}
use Rattle.net_verilog.specs.Targets.{Answer, after_name, closed, decimal_kind, indexed, is_close_index, name_kind, named, target_of, within}
use Rattle.net_verilog.specs.Parts.{identified, identifier, taken}
use Rattle.net_verilog.specs.Declarations.{Declarations, bit_name, range_of}
use Rattle.net_verilog.specs.private.Decimals.{short}
use Rattle.net_verilog.specs.declared.sign.Sign.TheVariants as signs
use Rattle.net_verilog.specs.declared.fault.VerilogFault.TheVariants.{OutOfRange, Syntax}
use Rattle.net_verilog.proofs.KindLemmas.{goes}

-- the target whose identifier was read
abbrev pub after_identifier : Declarations → Answer (ℕ × List ℕ) → Answer (List ℕ)
after_identifier declared (Ok p) = after_name p.0.0 p.0.1 (range_of declared p.0.1) p.1
after_identifier declared (Err e) = Err e

pub target_parts : (declared : Declarations) (tokens : List TokenValue) → target_of declared tokens ≡ after_identifier declared (identifier tokens)
target_parts declared [] = refl
target_parts declared (t ∷ ts) = by (name_kind t.kind t.text)
  where
    long : (name : List ℕ) (b : Bool) → ◌≡◌ {A = Answer (List ℕ)} (if b then Err (Syntax t.line) else after_name t.line name (range_of declared name) ts) (after_identifier declared (if b then Err (Syntax t.line) else Ok ((t.line, name), ts)))
    long name true = refl
    long name false = refl

    by : (o : Option (List ℕ)) → named declared t o ts ≡ after_identifier declared (identified t o ts)
    by None = refl
    by (Some name) = long name (nat_lt 255 (length name) || (length name == 0))

-- the `]` of a target is a sign like others
closed_taken : (net : List ℕ) (tokens : List TokenValue) → closed net tokens ≡ on_value (λ (p : ℕ × List TokenValue). Ok (net, p.1)) (taken signs.CloseIndex tokens)
closed_taken net [] = refl
closed_taken net (t ∷ ts) = by (is_close_index t.kind)
  where
    by : (b : Bool) → ◌≡◌ {A = Answer (List ℕ)} (if b then Ok (net, ts) else Err (wrong t)) (on_value (λ (p : ℕ × List TokenValue). Ok (net, p.1)) (if b then Ok (t.line, ts) else Err (wrong t)))
    by true = refl
    by false = refl

-- a decimal number is no end
pub decimal_goes : (t : TokenValue) (value : Option ℕ) → Some value ≡ option_map short (decimal_kind t.kind t.text) → is_end t.kind ≡ false
decimal_goes t value is = goes (λ kind. is_some (decimal_kind kind t.text)) refl t.kind (some (decimal_kind t.kind t.text) is)
  where
    some : (o : Option ℕ) → Some value ≡ option_map short o → is_some o ≡ true
    some None is = absurd (cc)
    some (Some n) is = refl

-- an index inside the range, and the `]` after it
pub index_taken : (name : List ℕ) (low high i : ℕ) (here : List TokenValue) (t : TokenValue) (ts : List TokenValue) → here ≡ t ∷ ts → Some (Some i) ≡ option_map short (decimal_kind t.kind t.text) → low ≤ i → i ≤ high → indexed name low high here ≡ on_value (λ (p : ℕ × List TokenValue). Ok (bit_name name i, p.1)) (taken signs.CloseIndex ts)
index_taken name low high i here t ts split is above below = ap (indexed name low high) split ∙ by (decimal_kind t.kind t.text) is
  where
    inside : (nat_le low i && nat_le i high) ≡ true
    inside = and_made (nat_le low i) (nat_le i high) (le-leb low i above) (le-leb i high below)

    value : (n : ℕ) (b : Bool) → Some i ≡ (if b then Some n else None) → i ≡ n
    value n true is = ap (λ (o : Option ℕ). unwrap_or o i) is
    value n false is = absurd (cc)

    stands : within name low high t (Some i) ts ≡ closed (bit_name name i) ts
    stands = let F : Bool → Answer (List ℕ) = λ b. if b then closed (bit_name name i) ts else Err (OutOfRange t.line) in ap F inside

    by : (o : Option ℕ) → Some (Some i) ≡ option_map short o → within name low high t o ts ≡ on_value (λ (p : ℕ × List TokenValue). Ok (bit_name name i, p.1)) (taken signs.CloseIndex ts)
    by None is = absurd (cc)
    by (Some n) is =
        let held : Some i ≡ short n = ap (λ (o : Option (Option ℕ)). unwrap_or o None) is in
        ap (λ k. within name low high t (Some k) ts) (sym (value n (nat_le n 4294967295) held)) ∙ stands ∙ closed_taken (bit_name name i) ts
