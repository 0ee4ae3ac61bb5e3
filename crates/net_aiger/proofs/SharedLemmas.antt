-- The ports whose names another one may have are found by the names that are given; every other port is alone with its name.
use Rattle.std.proofs.Common.{◌≡◌, ◌∙◌, ap, sym, refl, subst, ℕ, zero, suc, ◌<◌, ◌≤◌, ◌+◌, ◌-◌, ◌^◌, ◌||◌, min, Bool, true, false, cond, List, [], ◌∷◌, ◌++◌, length, get_or, drop, not, Option, None, Some, arith}
use Rattle.std.specs.Prelude.{nat_eq, nat_lt, slice_get, unwrap_or}
use Rattle.std.specs.Fmt.{decimal}
use Rattle.std.specs.List.{list_any}
use Rattle.std.specs.Map.{lookup}
use Rattle.std.proofs.lemmas.Bool.{eqb-true, eq-eqb, ltb-false, ltb-true}
use Rattle.std.proofs.lemmas.List.Folds.{list_any-append}
use Rattle.std.proofs.lemmas.Option.{slice_get_within}
use Rattle.indexmap.specs.IndexSet.{insert_key}
use Rattle.lists.specs.Lists.{Has}
use Rattle.text_core.specs.Numbers.{IsDecimal, value_of}
use Rattle.text_core.proofs.WrittenLemmas.{decimal_back}
use Rattle.net_aiger.specs.Reading.{Name, Reading, default_name, port_name, stands}
use Rattle.net_aiger.specs.declared.reading.Header.{Header}
use Rattle.net_aiger.specs.private.Shared.{AreNoted, IsAlone, IsNoted, Keeps, first_of}
use Rattle.net_aiger.proofs.UnnamedLemmas.{default_apart, told}

-- ---- one more port in a set

pub own_key : (ports : List ℕ) (port : ℕ) → stands (insert_key nat_eq ports port) port ≡ true
own_key ports port = by (list_any (nat_eq port) ports) refl
  where
    by : (b : Bool) → list_any (nat_eq port) ports ≡ b → list_any (nat_eq port) (cond b ports (ports ++ port ∷ [])) ≡ true
    by true is = is
    by false is = list_any-append (nat_eq port) ports (port ∷ []) ∙ (ap (λ (b : Bool). b || list_any (nat_eq port) (port ∷ [])) is ∙ ap (λ (b : Bool). b || false) (eq-eqb port port refl))

pub kept_key : (ports : List ℕ) (port other : ℕ) → stands ports other ≡ true → stands (insert_key nat_eq ports port) other ≡ true
kept_key ports port other is = by (list_any (nat_eq port) ports)
  where
    by : (b : Bool) → list_any (nat_eq other) (cond b ports (ports ++ port ∷ [])) ≡ true
    by true = is
    by false = list_any-append (nat_eq other) ports (port ∷ []) ∙ ap (λ (b : Bool). b || list_any (nat_eq other) (port ∷ [])) is

-- ---- names that are given, one after another

noted_kept : (header : Header) (old new : List ℕ) (symbol : ℕ × Name) → Keeps old new → IsNoted header old symbol → IsNoted header new symbol
noted_kept header old new symbol keeps is = record { given = keeps symbol.0 is.given; by_default = λ port small same. keeps port (is.by_default port small same) }

-- what is found at a place, of the header's own
pub symbol_noted : (header own : Header) (ports : List ℕ) (port : ℕ) (name : Name) (found : Option (ℕ × Name)) (symbol : ℕ × Name) → own ≡ header → ◌≡◌ {A = Option (ℕ × Name)} (Some (port, name)) found → found ≡ Some symbol → IsNoted own ports (port, name) → IsNoted header ports symbol
symbol_noted header own ports port name found symbol same here at is =
    let both : ◌≡◌ {A = Option (ℕ × Name)} (Some (port, name)) (Some symbol) = here ∙ at in
    let equal : ◌≡◌ {A = ℕ × Name} (port, name) symbol = cc in
    let P : ℕ × Name → Type 0 = λ s. IsNoted own ports s in
    let Q : Header → Type 0 = λ h. IsNoted h ports symbol in
    subst Q same (subst P equal is)

pub noted_more : (reading : Reading) (old new : List ℕ) (place : ℕ) → AreNoted reading old place → Keeps old new → ((symbol : ℕ × Name) → slice_get reading.symbols place ≡ Some symbol → IsNoted reading.header new symbol) → AreNoted reading new (place + 1)
noted_more reading old new place before keeps here i symbol less at = by (nat_lt i place) refl
  where
    by : (b : Bool) → nat_lt i place ≡ b → IsNoted reading.header new symbol
    by true first = noted_kept reading.header old new symbol keeps (before i symbol (ltb-true i place first) at)
    by false past =
        let from = ltb-false i place past in
        let same : i ≡ place = omega (arith, from, less) in
        let P : ℕ → Type 0 = λ n. slice_get reading.symbols n ≡ Some symbol in
        here symbol (subst P same at)

-- ---- the port that has a name by default

pub default_found : (header : Header) (port letter place : ℕ) (digits : List ℕ) → port < 2 ^ 64 → default_name header port ≡ letter ∷ digits → IsDecimal digits place → first_of header letter + place ≡ port
default_found header port letter place digits small is said =
    let t = told header port in
    let names : letter ∷ digits ≡ t.letter ∷ decimal t.number = sym is ∙ t.named in
    let back = decimal_back t.number (omega (arith, small, t.small)) in
    let number : place ≡ t.number = said.1 ∙ (ap (λ (name : Name). value_of 10 (drop 1 name)) names ∙ sym back.1) in
    (λ i. first_of header (get_or (names i) 0 0) + number i) ∙ sym t.place

pub default_none : (header : Header) (port letter : ℕ) (digits : List ℕ) → port < 2 ^ 64 → default_name header port ≡ letter ∷ digits → ((n : ℕ) → IsDecimal digits n → n ≤ 18446744073709551615 → ⊥) → ⊥
default_none header port letter digits small is never =
    let t = told header port in
    let names : letter ∷ digits ≡ t.letter ∷ decimal t.number = sym is ∙ t.named in
    let same : decimal t.number ≡ digits = sym (ap (λ (name : Name). drop 1 name) names) in
    let P : List ℕ → Type 0 = λ token. IsDecimal token t.number in
    never t.number (subst P same (decimal_back t.number (omega (arith, small, t.small)))) (omega (arith, small, t.small))

-- a sum of 64 bits
pub saturated : (sum port : ℕ) → sum ≡ port → port < 2 ^ 64 → min sum (2 ^ 64 - 1) ≡ port
saturated sum port is small = omega (arith, is, small)

-- ---- every other port

found_at : (symbols : List (ℕ × Name)) (port : ℕ) (name : Name) → lookup (nat_eq port) symbols ≡ Some name → Has symbols (port, name)
found_at [] port name found = absurd (cc)
found_at (s ∷ symbols) port name found = by (found_at symbols port name) (nat_eq port s.0) refl found
  where
    by : (lookup (nat_eq port) symbols ≡ Some name → Has symbols (port, name)) → (b : Bool) → nat_eq port s.0 ≡ b → cond b (Some s.1) (lookup (nat_eq port) symbols) ≡ Some name → Has (s ∷ symbols) (port, name)
    by later true is e =
        let key : s.0 ≡ port = sym (eqb-true port s.0 is) in
        let value : s.1 ≡ name = cc in
        (zero, λ i. Some (key i, value i))
    by later false is e = let (k, at) = later e in (suc k, at)

module _ (reading : Reading) (ports : List ℕ) (noted : AreNoted reading ports (length reading.symbols)) where
  noted_at : (port : ℕ) (name : Name) → lookup (nat_eq port) reading.symbols ≡ Some name → IsNoted reading.header ports (port, name)
  noted_at port name found =
      let (i, at) = found_at reading.symbols port name found in
      noted i (port, name) (slice_get_within reading.symbols i (port, name) at) at

  name_with : (port : ℕ) (found : Option Name) → lookup (nat_eq port) reading.symbols ≡ found → port_name reading port ≡ unwrap_or found (default_name reading.header port)
  name_with port found is = ap (λ (given : Option Name). unwrap_or given (default_name reading.header port)) is

  pub alone_with : (port : ℕ) → port < 2 ^ 64 → not (stands ports port) ≡ true → IsAlone reading port
  alone_with port small lacks other less same = by (lookup (nat_eq port) reading.symbols) refl (lookup (nat_eq other) reading.symbols) refl
    where
      never : stands ports port ≡ true → ⊥
      never is = let wrong : true ≡ false = sym lacks ∙ ap not is in absurd (cc)

      by : (a : Option Name) → lookup (nat_eq port) reading.symbols ≡ a → (b : Option Name) → lookup (nat_eq other) reading.symbols ≡ b → other ≡ port
      by (Some name) e b f = let is = noted_at port name e in absurd (never is.given)
      by None e (Some name) f =
          let is = noted_at other name f in
          let named : default_name reading.header port ≡ name = sym (name_with port None e) ∙ (sym same ∙ name_with other (Some name) f) in
          absurd (never (is.by_default port small named))
      by None e None f = default_apart reading.header other port less small (sym (name_with other None f) ∙ (same ∙ name_with port None e))
