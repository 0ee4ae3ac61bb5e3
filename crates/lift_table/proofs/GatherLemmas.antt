-- Elements of a list with a distance between them, one after another.
use Rattle.std.proofs.Common.{◌≡◌, ◌∙◌, ap, sym, inl, inr, ℕ, ◌+◌, ◌*◌, ◌<◌, ◌≤◌, List, [], ◌∷◌, ◌++◌, length, get_or, length-append, arith}
use Rattle.std.proofs.Math.ListN.{get_or-append}
use Rattle.std.proofs.Math.Nat.{add-mul, mul-le-mul_right}
use Rattle.std.proofs.Math.Seq.{get_or-append_seam}
use Rattle.std.proofs.lemmas.Bool.{cases_eq}

pub inside : (i distance place count n : ℕ) → i < count → place < distance → count * distance ≤ n → i * distance + place < n
inside i distance place count n less within room =
    let next : (i + 1) * distance ≤ count * distance = mul-le-mul_right distance (omega arith) in
    let open_next : (i + 1) * distance ≡ i * distance + 1 * distance = add-mul i 1 distance in
    let one : 1 * distance ≡ distance = omega arith in
    omega arith

pub pushed_long : (before after : List ℕ) (v i : ℕ) → after ≡ before ++ v ∷ [] → length before ≡ i → length after ≡ i + 1
pushed_long before after v i is long = ap length is ∙ (length-append before (v ∷ []) ∙ omega (arith, long))

pub pushed_at : (place_of : ℕ → ℕ) (list before after : List ℕ) (i : ℕ) → after ≡ before ++ get_or list (place_of i) 0 ∷ [] → length before ≡ i
    → ((j : ℕ) → j < i → get_or before j 0 ≡ get_or list (place_of j) 0) → (j : ℕ) → j < i + 1 → get_or after j 0 ≡ get_or list (place_of j) 0
pushed_at place_of list before after i is long so_far j less =
    let v = get_or list (place_of i) 0 in
    ap (λ (xs : List ℕ). get_or xs j 0) is
    ∙ elim (cases_eq j i) [
      | inl e ↦ ap (λ n. get_or (before ++ v ∷ []) n 0) (e ∙ sym long) ∙ (get_or-append_seam before v [] 0 ∙ ap (λ n. get_or list (place_of n) 0) (sym e))
      | inr n ↦ let small : j < i = omega arith in let within : j < length before = omega (arith, long) in get_or-append before (v ∷ []) 0 j within ∙ so_far j small
    ]
