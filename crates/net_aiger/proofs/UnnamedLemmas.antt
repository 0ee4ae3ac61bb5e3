-- Ports that are given no names have names of their own.
use Rattle.std.proofs.Common.{◌≡◌, ◌∙◌, ap, sym, refl, ℕ, ◌<◌, ◌≤◌, ◌+◌, ◌-◌, ◌^◌, ◌&&◌, Bool, true, false, cond, List, [], ◌∷◌, length, get_or, drop, not, Option, None, Some, Ok, arith}
use Rattle.std.specs.Prelude.{is_some, nat_eq, nat_lt, unwrap_or}
use Rattle.std.specs.Fmt.{decimal}
use Rattle.std.specs.Map.{lookup}
use Rattle.std.specs.Str.{bytes_eq}
use Rattle.std.proofs.lemmas.Bool.{ltb-false}
use Rattle.std.proofs.lemmas.Fmt.{decimal_injective}
use Rattle.lists.specs.laws.BoolLaws.{both_true}
use Rattle.lists.specs.laws.TestLaws.{other_bytes}
use Rattle.net_aiger.specs.Checks.{apart, own_net}
use Rattle.net_aiger.specs.Reading.{Name, Reading, default_name, driven, port_name}
use Rattle.net_aiger.specs.declared.reading.Header.{Header}
use Rattle.net_aiger.specs.private.Shared.{IsAlone, first_of}
use Rattle.net_aiger.proofs.AloneLemmas.{skipped}

-- ---- a default name tells its port

-- the letter and the number of a port's default name
pub record Told (header : Header) (port : ℕ) : Type 0 where
  pub letter : ℕ
  pub number : ℕ
  pub named : default_name header port ≡ letter ∷ decimal number
  pub place : port ≡ first_of header letter + number
  pub small : number ≤ port

pub told : (header : Header) (port : ℕ) → Told header port
told header port = by (nat_lt port header.inputs) refl (nat_lt port (driven header)) refl
  where
    by : (a : Bool) → nat_lt port header.inputs ≡ a → (b : Bool) → nat_lt port (driven header) ≡ b → Told header port
    by true input b any =
        let at : port ≡ 0 + port = omega arith in
        record { letter = 105; number = port; named = rw input refl; place = at; small = omega arith }
    by false past true latch =
        let first = ltb-false port header.inputs past in
        let at : port ≡ header.inputs + (port - header.inputs) = omega (arith, first) in
        record { letter = 108; number = port - header.inputs; named = rw (past, latch) refl; place = at; small = omega arith }
    by false past false output =
        let first = ltb-false port (driven header) output in
        let at : port ≡ driven header + (port - driven header) = omega (arith, first) in
        record { letter = 111; number = port - driven header; named = rw (past, output) refl; place = at; small = omega arith }

pub default_apart : (header : Header) (p q : ℕ) → p < 2 ^ 64 → q < 2 ^ 64 → default_name header p ≡ default_name header q → p ≡ q
default_apart header p q small less same =
    let a = told header p in
    let b = told header q in
    let names : a.letter ∷ decimal a.number ≡ b.letter ∷ decimal b.number = sym a.named ∙ (same ∙ b.named) in
    let letter : a.letter ≡ b.letter = ap (λ (name : Name). get_or name 0 0) names in
    let number : a.number ≡ b.number = decimal_injective a.number b.number (omega (arith, small, a.small)) (omega (arith, less, b.small)) (ap (λ (name : Name). drop 1 name) names) in
    a.place ∙ (ap (λ (n : ℕ). first_of header n + a.number) letter ∙ (ap (λ (n : ℕ). first_of header b.letter + n) number ∙ sym b.place))

-- ---- an output and another port

-- a port that is given no name
default_of : (reading : Reading) (port : ℕ) → not (is_some (lookup (nat_eq port) reading.symbols)) ≡ true → port_name reading port ≡ default_name reading.header port
default_of reading port none = by (lookup (nat_eq port) reading.symbols) none
  where
    by : (found : Option Name) → not (is_some found) ≡ true → unwrap_or found (default_name reading.header port) ≡ default_name reading.header port
    by None e = refl
    by (Some name) e = absurd (cc)

pub not_own : (reading : Reading) (port net : ℕ) → (not (is_some (lookup (nat_eq port) reading.symbols)) && not (is_some (lookup (nat_eq net) reading.symbols))) ≡ true → net < port → port < 2 ^ 64 → own_net reading port (Some net) ≡ None
not_own reading port net unnamed less small =
    let both = both_true (not (is_some (lookup (nat_eq port) reading.symbols))) (not (is_some (lookup (nat_eq net) reading.symbols))) unnamed in
    let other : bytes_eq (port_name reading port) (port_name reading net) ≡ false = other_bytes (port_name reading port) (port_name reading net) (λ same. let equal = default_apart reading.header port net small (omega (arith, less, small)) (sym (default_of reading port both.0) ∙ (same ∙ default_of reading net both.1)) in omega (arith, equal, less)) in
    by (nat_lt net (driven reading.header)) (bytes_eq (port_name reading port) (port_name reading net)) other
  where
    by : (a b : Bool) → b ≡ false → ◌≡◌ {A = Option ℕ} (cond (a && b) (Some net) None) None
    by true true e = absurd (cc)
    by true false e = refl
    by false b e = refl

-- ---- where no port is given a name

module _ (reading : Reading) (none : reading.symbols ≡ []) where
  own_name : (port : ℕ) → port_name reading port ≡ default_name reading.header port
  own_name port = ap (λ (symbols : List (ℕ × Name)). unwrap_or (lookup (nat_eq port) symbols) (default_name reading.header port)) none

  each_alone : (port : ℕ) → port < 2 ^ 64 → IsAlone reading port
  each_alone port small other less same = default_apart reading.header other port less small (sym (own_name other) ∙ (same ∙ own_name port))

  apart_from : (port : ℕ) (ports : List ℕ) → port + length ports < 2 ^ 64 → apart reading port [] ports ≡ Ok tt
  apart_from port [] few = refl
  apart_from port (literal ∷ ports) few =
      skipped reading port literal [] ports few (each_alone port (omega (arith, few))) (λ later past small alone. refl)
      ∙ apart_from (port + 1) ports (omega (arith, few))

-- where no port is given a name, no two have the same
pub unnamed_apart : (reading : Reading) → reading.symbols ≡ [] → length reading.ports < 2 ^ 63 → apart reading 0 [] reading.ports ≡ Ok tt
unnamed_apart reading none few = apart_from reading none 0 reading.ports (omega (arith, few))
