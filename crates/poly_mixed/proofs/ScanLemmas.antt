-- Places of names and numbers.
use Rattle.std.proofs.Common.{◌≡◌, ℕ, zero, suc, ◌+◌, ◌<◌, ◌≤◌, ◌^◌, false, cond, List, [], ◌∷◌, length, ◌==◌, Some, None, slice_index, refl, sym, ◌∙◌, ap, arith, add-one}
use Rattle.std.proofs.lemmas.Bool.{ne_eqb, eq-eqb}
use Rattle.std.specs.List.{AllByRecursion}
use Rattle.std.specs.Option.{option_map}
use Rattle.poly_mixed.specs.Labels.{Differs, AreDifferent, net_of}

pub none_of_large : (nets : List ℕ) (n : ℕ) → 2 ^ 32 ≤ n → AllByRecursion (λ m. m < 2 ^ 32) nets → net_of nets n ≡ None
none_of_large [] n h all = refl
none_of_large (x ∷ xs) n h all =
    let apart : (x == n) ≡ false = ne_eqb x n (λ e. let l = all.0 in omega arith) in
    ap (λ b. cond b (Some 0) (option_map (λ i. i + 1) (net_of xs n))) apart ∙ ap (option_map (λ i. i + 1)) (none_of_large xs n h all.1)

differs_at : (x : ℕ) (xs : List ℕ) (i : ℕ) → Differs x xs → i < length xs → x ≡ slice_index xs i → ⊥
differs_at x [] i d l e = absurd (omega arith)
differs_at x (y ∷ ys) zero d l e = d.0 e
differs_at x (y ∷ ys) (suc i) d l e = differs_at x ys i d.1 (omega arith) e

pub net_at_place : (nets : List ℕ) (n i : ℕ) → AreDifferent nets → i < length nets → slice_index nets i ≡ n → net_of nets n ≡ Some i
net_at_place [] n i d l e = absurd (omega arith)
net_at_place (x ∷ xs) n zero d l e = ap (λ b. cond b (Some 0) (option_map (λ i. i + 1) (net_of xs n))) (eq-eqb x n e)
net_at_place (x ∷ xs) n (suc i) d l e =
    let apart : (x == n) ≡ false = ne_eqb x n (λ q. differs_at x xs i d.0 (omega arith) (q ∙ sym e)) in
    ap (λ b. cond b (Some 0) (option_map (λ i. i + 1) (net_of xs n))) apart
    ∙ ap (option_map (λ i. i + 1)) (net_at_place xs n i d.1 (omega arith) e)
    ∙ ap Some (add-one i)
