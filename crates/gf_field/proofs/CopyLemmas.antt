-- Arrays of zeros, into which numbers are written one by one.
use Rattle.std.proofs.Common.{◌≡◌, ◌≢◌, ℕ, zero, suc, refl, replicate, get_or-set_other, sym, ◌∙◌, ap, ◌<◌, ◌≤◌, ◌+◌, arith, List, [], ◌∷◌, ◌++◌, length, get_or, set, take}
use Rattle.std.proofs.Math.Seq.{take-length}
use Rattle.std.proofs.lemmas.List.{take_more, take_more_set}

pub copied_more : (all rows : List ℕ) (i : ℕ) → i < length all → i < length rows → take i all ≡ take i rows → take (i + 1) (set all i (get_or rows i 0)) ≡ take (i + 1) rows
copied_more all rows i h l e = take_more_set all i (get_or rows i 0) h ∙ ap (λ xs. xs ++ get_or rows i 0 ∷ []) e ∙ sym (take_more rows i 0 l)

pub copied_all : (all rows : List ℕ) (i : ℕ) → length rows ≤ i → i ≤ length rows → take i all ≡ take i rows → take (length rows) all ≡ rows
copied_all all rows i low high e = ap (λ n. take n all) whole ∙ e ∙ ap (λ n. take n rows) (sym whole) ∙ take-length rows
  where
    whole : length rows ≡ i
    whole = omega arith

pub zeros : (n t : ℕ) → get_or (replicate {A = ℕ} n 0) t 0 ≡ 0
zeros zero t = refl
zeros (suc n) zero = refl
zeros (suc n) (suc t) = zeros n t

pub set_rest : (xs : List ℕ) (i v : ℕ) → ((j : ℕ) → i ≤ j → get_or xs j 0 ≡ 0) → (j : ℕ) → i + 1 ≤ j → get_or (set xs i v) j 0 ≡ 0
set_rest xs i v none j h = let ne : j ≢ i = omega arith in rw get_or-set_other (none j (omega arith))
