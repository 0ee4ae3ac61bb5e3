-- Reading part by part.
use Rattle.std.proofs.Common.{◌≡◌, ℕ, zero, suc, ◌+◌, ◌-◌, ◌<◌, ◌≤◌, get_or, take, drop, Bool, false, ◌&&◌, cond, List, ◌∷◌, length, ◌==◌, nat_lt, Result, Ok, Err, refl, sym, ◌∙◌, ap, subst, arith}
use Rattle.poly_mixed.specs.Labels.{Labelling}
use Rattle.poly_mixed.specs.Monomial.{Monomial}
use Rattle.poly_mixed.specs.Polynomial.{Terms}
use Rattle.poly_mixed.specs.private.Reading.{Progress, advanced, read_on, zero_at, after_zero, coefficient_at, IsSaid}
use Rattle.poly_mixed.specs.private.ReadingState.{IsStep}
use Rattle.text_core.specs.Scan.{run, skip, is_hex_digit}
use Rattle.poly_mixed.specs.declared.fault.PolyFault.{PolyFault}
use Rattle.poly_mixed.specs.declared.fault.PolyFault.TheVariants.{Syntax, NoSuchNet, NoSuchBit, OutOfMemory}
use Rattle.poly_mixed.specs.declared.read.Next.{Next}
use Rattle.poly_mixed.proofs.SimpleLemmas.{first_and_rest}

pub err_on : (n : ℕ) (l : Labelling) (k : ℕ) (e : PolyFault) → read_on n l k (Err e) ≡ Err e
err_on zero l k e = refl
err_on (suc n) l k e = err_on n l k e

said_on : (n : ℕ) (l : Labelling) (k : ℕ) (step : Result Progress PolyFault) (e : PolyFault) → IsSaid step e → IsSaid (read_on n l k step) e
said_on n l k step OutOfMemory h = tt
said_on n l k step Syntax h = ap (read_on n l k) h ∙ err_on n l k Syntax
said_on n l k step NoSuchNet h = ap (read_on n l k) h ∙ err_on n l k NoSuchNet
said_on n l k step NoSuchBit h = ap (read_on n l k) h ∙ err_on n l k NoSuchBit

left : (n c : ℕ) → c < n → n - c ≡ suc (n - (c + 1))
left n c h = omega arith

pub turn_said : (n c : ℕ) (l : Labelling) (k : ℕ) (p q : Progress) → c < n → advanced l k (Ok p) ≡ Ok q → read_on (n - (c + 1)) l k (Ok q) ≡ read_on (n - c) l k (Ok p)
turn_said n c l k p q h e = sym (ap (λ (m : ℕ). read_on m l k (Ok p)) (left n c h) ∙ ap (read_on (n - (c + 1)) l k) e)

pub turn_fault : (n c : ℕ) (l : Labelling) (k : ℕ) (p : Progress) (e : PolyFault) → c < n → IsSaid (advanced l k (Ok p)) e → IsSaid (read_on (n - c) l k (Ok p)) e
turn_fault n c l k p e h said =
    let P : ℕ → Type 0 = λ m. IsSaid (read_on m l k (Ok p)) e in
    subst P (sym (left n c h)) (said_on (n - (c + 1)) l k (advanced l k (Ok p)) e said)

zero_else : (k : ℕ) (sum : Terms) (b : ℕ) (bs : List ℕ) (c : ℕ) (m : Monomial) (found : Result Next PolyFault) → ((b == 120) && nat_lt 0 (length (run is_hex_digit bs))) ≡ false → IsStep (after_zero sum (skip (b ∷ bs))) sum c m found → IsStep (zero_at k sum (b ∷ bs)) sum c m found
zero_else k sum b bs c m found e h =
    let P : Bool → Type 0 = λ v. IsStep (cond v (coefficient_at k sum bs) (after_zero sum (skip (b ∷ bs)))) sum c m found in
    subst P (sym e) h

pub zero_else_at : (k : ℕ) (sum : Terms) (bs : List ℕ) (c : ℕ) (m : Monomial) (found : Result Next PolyFault) → 1 ≤ length bs → ((get_or bs 0 0 == 120) && nat_lt 0 (length (run is_hex_digit (take (length bs - 1) (drop 1 bs))))) ≡ false
    → IsStep (after_zero sum (skip bs)) sum c m found → IsStep (zero_at k sum bs) sum c m found
zero_else_at k sum bs c m found some e h =
    let whole = first_and_rest bs some in
    let P : List ℕ → Type 0 = λ xs. IsStep (zero_at k sum xs) sum c m found in
    let Q : List ℕ → Type 0 = λ xs. IsStep (after_zero sum (skip xs)) sum c m found in
    subst P (sym whole) (zero_else k sum (get_or bs 0 0) (take (length bs - 1) (drop 1 bs)) c m found e (subst Q whole h))
