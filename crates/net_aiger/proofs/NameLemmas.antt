-- Names that are given.
use Rattle.std.proofs.Common.{◌≡◌, ◌∙◌, ap, sym, refl, subst, ℕ, zero, suc, ◌<◌, ◌^◌, ◌||◌, Bool, true, false, cond, List, [], ◌∷◌, ◌++◌, length, map, get_or, Some, Result, Ok, Err, arith}
use Rattle.std.specs.Prelude.{All, IfOk, nat_eq, string_bytes}
use Rattle.std.specs.Fmt.{decimal}
use Rattle.std.specs.List.{list_any}
use Rattle.std.specs.Map.{lookup}
use Rattle.std.specs.Str.{bytes_eq}
use Rattle.std.specs.String.{string_eq}
use Rattle.std.specs.declared.string.String.{String}
use Rattle.std.proofs.lemmas.Fmt.{length-decimal-le}
use Rattle.std.proofs.lemmas.List.{length-append}
use Rattle.std.proofs.lemmas.List.Elements.{All-append}
use Rattle.net_core.specs.Inside.{IsNetName}
use Rattle.net_aiger.specs.Reading.{Name}

-- a set of names is asked by their bytes
pub added_same : {Z : Type 0} (keys : List (String Z)) (text : String Z) (name : Name) → string_bytes text ≡ name → list_any (string_eq text) keys ≡ list_any (bytes_eq name) (map string_bytes keys)
added_same [] text name is = refl
added_same (key ∷ keys) text name is = ap (λ (n : Name). bytes_eq n (string_bytes key) || list_any (string_eq text) keys) is ∙ ap (λ (b : Bool). bytes_eq name (string_bytes key) || b) (added_same keys text name is)

-- a letter and a number make a name
pub default_fits : (letter : Name) (n : ℕ) → length letter ≡ 1 → n < 2 ^ 64 → IsNetName (letter ++ decimal n)
default_fits letter n single less =
    let digits = length-decimal-le 20 n (omega arith) (omega (arith, less)) less in
    let long = length-append letter (decimal n) in
    (omega (arith, long, single), omega (arith, long, single, digits))

pub fits_where_same : {E : Type 0} (r : Result Name E) (text : Name) → IfOk r (λ name. name ≡ text) → IsNetName text → IfOk r (λ name. IsNetName name)
fits_where_same (Ok name) text is fits = let P : Name → Type 0 = IsNetName in subst P (sym is) fits
fits_where_same (Err e) text is fits = tt

-- each name that was given is one of a net
pub lookup_fits : (symbols : List (ℕ × Name)) (port : ℕ) (name : Name) → All (λ (s : ℕ × Name). IsNetName s.1) symbols → lookup (nat_eq port) symbols ≡ Some name → IsNetName name
lookup_fits [] port name all found = absurd (cc)
lookup_fits (s ∷ symbols) port name all found = by (lookup_fits symbols port name (λ k d less. all (suc k) d (omega arith))) (nat_eq port s.0) found
  where
    by : (lookup (nat_eq port) symbols ≡ Some name → IsNetName name) → (b : Bool) → cond b (Some s.1) (lookup (nat_eq port) symbols) ≡ Some name → IsNetName name
    by later true e = let same : s.1 ≡ name = cc in let P : Name → Type 0 = IsNetName in subst P same (all zero s (omega arith))
    by later false e = later e

pub all_more : (symbols new : List (ℕ × Name)) (port : ℕ) (name : Name) → new ≡ symbols ++ (port, name) ∷ [] → IsNetName name → All (λ (s : ℕ × Name). IsNetName s.1) symbols → All (λ (s : ℕ × Name). IsNetName s.1) new
all_more symbols new port name is fits all =
    let P : List (ℕ × Name) → Type 0 = λ xs. All (λ (s : ℕ × Name). IsNetName s.1) xs in
    subst P (sym is) (All-append (λ (s : ℕ × Name). IsNetName s.1) symbols ((port, name) ∷ []) all last)
  where
    last : (k : ℕ) (d : ℕ × Name) → k < 1 → IsNetName (get_or ((port, name) ∷ []) k d).1
    last zero d less = fits
    last (suc k) d less = absurd (omega arith)
