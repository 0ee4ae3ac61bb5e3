-- Runs of bytes at the front of a text.
use Rattle.std.proofs.Common.{◌≡◌, ◌∙◌, ap, sym, refl, subst, ℕ, zero, suc, ◌+◌, ◌<◌, ◌≤◌, Bool, true, false, cond, List, [], ◌∷◌, ◌++◌, length, take, drop, arith}
use Rattle.std.specs.Prelude.{slice_index, EachIndex}
use Rattle.std.specs.List.{AllByRecursion}
use Rattle.std.proofs.lemmas.List.Sums.{take_while-cons}
use Rattle.std.proofs.Math.Seq.{drop-append_seam}
use Rattle.text_core.specs.Lines.{is_blank}
use Rattle.text_core.specs.Scan.{run, after, skip}

abbrev pub Passes : (ℕ → Bool) → List ℕ → Type 0
Passes q xs = AllByRecursion (λ b. q b ≡ true) xs

abbrev pub Stops : (ℕ → Bool) → List ℕ → Type 0
Stops q [] = Unit {0}
Stops q (b ∷ bs) = q b ≡ false

pub run_front : (q : ℕ → Bool) (xs rest : List ℕ) → Passes q xs → Stops q rest → run q (xs ++ rest) ≡ xs
run_front q [] [] all s = refl
run_front q [] (b ∷ bs) all s = take_while-cons q b bs ∙ ap (λ v. cond v (b ∷ run q bs) []) s
run_front q (x ∷ xs) rest all s = take_while-cons q x (xs ++ rest) ∙ ap (λ v. cond v (x ∷ run q (xs ++ rest)) []) all.0 ∙ ap (λ ys. x ∷ ys) (run_front q xs rest all.1 s)

pub after_front : (q : ℕ → Bool) (xs rest : List ℕ) → Passes q xs → Stops q rest → after q (xs ++ rest) ≡ rest
after_front q xs rest all s = ap (λ (ys : List ℕ). drop (length ys) (xs ++ rest)) (run_front q xs rest all s) ∙ drop-append_seam xs rest

pub skip_none : (b : ℕ) (bs : List ℕ) → is_blank b ≡ false → skip (b ∷ bs) ≡ b ∷ bs
skip_none b bs e = after_front is_blank [] (b ∷ bs) tt e

pub skip_space : (bs : List ℕ) → skip (32 ∷ bs) ≡ skip bs
skip_space bs = ap (λ (ys : List ℕ). drop (length ys) (32 ∷ bs)) (take_while-cons is_blank 32 bs)

module _ (q : ℕ → Bool) where
  pub run_yes : (b : ℕ) (bs : List ℕ) → q b ≡ true → run q (b ∷ bs) ≡ b ∷ run q bs
  run_yes b bs e = take_while-cons q b bs ∙ ap (λ v. cond v (b ∷ run q bs) []) e

  run_not : (b : ℕ) (bs : List ℕ) → q b ≡ false → run q (b ∷ bs) ≡ []
  run_not b bs e = take_while-cons q b bs ∙ ap (λ v. cond v (b ∷ run q bs) []) e

  pub run_within : (bs : List ℕ) → length (run q bs) ≤ length bs
  run_within [] = omega arith
  run_within (b ∷ bs) =
      elim (q b) as (λ v. q b ≡ v → length (run q (b ∷ bs)) ≤ suc (length bs)) [
        | true ↦ λ e. omega (arith, ap length (run_yes b bs e), run_within bs)
        | false ↦ λ e. omega (arith, ap length (run_not b bs e))
      ] refl

  pub run_pass : (bs : List ℕ) → Passes q (run q bs)
  run_pass [] = tt
  run_pass (b ∷ bs) =
      let P : List ℕ → Type 0 = Passes q in
      elim (q b) as (λ v. q b ≡ v → Passes q (run q (b ∷ bs))) [
        | true ↦ λ e. subst P (sym (run_yes b bs e)) (e, run_pass bs)
        | false ↦ λ e. subst P (sym (run_not b bs e)) tt
      ] refl

  pub take_run : (bs : List ℕ) (j : ℕ) → j ≤ length (run q bs) → take j bs ≡ take j (run q bs)
  take_run bs zero low = refl
  take_run [] (suc j) low = absurd (omega (arith, low))
  take_run (b ∷ bs) (suc j) low =
      elim (q b) as (λ v. q b ≡ v → take (suc j) (b ∷ bs) ≡ take (suc j) (run q (b ∷ bs))) [
        | true ↦ λ e. ap (λ (xs : List ℕ). b ∷ xs) (take_run bs j (omega (arith, low, ap length (run_yes b bs e)))) ∙ ap (take (suc j)) (sym (run_yes b bs e))
        | false ↦ λ e. absurd (omega (arith, low, ap length (run_not b bs e)))
      ] refl

  pub run_long : (bs : List ℕ) (m : ℕ) → m ≤ length bs → Passes q (take m bs) → m ≤ length (run q bs)
  run_long bs zero low all = omega arith
  run_long [] (suc m) low all = absurd (omega (arith, low))
  run_long (b ∷ bs) (suc m) low all = omega (arith, run_long bs m (omega (arith, low)) all.1, ap length (run_yes b bs all.0))

  -- the byte after the run
  pub run_ends : (bs : List ℕ) → length (run q bs) < length bs → Passes q (take (length (run q bs) + 1) bs) → ⊥
  run_ends bs less all = omega (arith, run_long bs (length (run q bs) + 1) (omega (arith, less)) all)

pub each_passes : (q : ℕ → Bool) (P : ℕ → Type 0) → ((b : ℕ) → P b → q b ≡ true) → (bs : List ℕ) → EachIndex bs (λ k. P (slice_index bs k)) → Passes q bs
each_passes q P is [] all = tt
each_passes q P is (b ∷ bs) all = (is b (all 0 (omega arith)), each_passes q P is bs (λ k less. all (suc k) (omega (arith, less))))

each_more : (P : ℕ → Type 0) (b : ℕ) (bs : List ℕ) → P b → EachIndex bs (λ k. P (slice_index bs k)) → EachIndex (b ∷ bs) (λ k. P (slice_index (b ∷ bs) k))
each_more P b bs here rest zero less = here
each_more P b bs here rest (suc k) less = rest k (omega (arith, less))

pub passes_each : (q : ℕ → Bool) (P : ℕ → Type 0) → ((b : ℕ) → q b ≡ true → P b) → (bs : List ℕ) → Passes q bs → EachIndex bs (λ k. P (slice_index bs k))
passes_each q P is [] all = λ k less. absurd (omega (arith, less))
passes_each q P is (b ∷ bs) all = each_more P b bs (is b all.0) (passes_each q P is bs all.1)

pub take_taken : (i : ℕ) (xs : List ℕ) → take (length (take i xs)) xs ≡ take i xs
take_taken zero xs = refl
take_taken (suc i) [] = refl
take_taken (suc i) (x ∷ xs) = ap (λ (ys : List ℕ). x ∷ ys) (take_taken i xs)

pub taken_long : (i m : ℕ) (xs : List ℕ) → m ≤ i → m ≤ length xs → m ≤ length (take i xs)
taken_long i zero xs p q = omega arith
taken_long zero (suc m) xs p q = absurd (omega (arith, p))
taken_long (suc i) (suc m) [] p q = absurd (omega (arith, q))
taken_long (suc i) (suc m) (x ∷ xs) p q = let rest = taken_long i m xs (omega (arith, p)) (omega (arith, q)) in omega (arith, rest)

pub taken_short : (i : ℕ) (xs : List ℕ) → (length (take i xs) ≤ i) × (length (take i xs) ≤ length xs)
taken_short zero xs = (omega arith, omega arith)
taken_short (suc i) [] = (omega arith, omega arith)
taken_short (suc i) (x ∷ xs) = let rest = taken_short i xs in (omega (arith, rest.0), omega (arith, rest.1))

pub taken_pass : (q : ℕ → Bool) (i : ℕ) (xs : List ℕ) → Passes q xs → Passes q (take i xs)
taken_pass q zero xs all = tt
taken_pass q (suc i) [] all = tt
taken_pass q (suc i) (x ∷ xs) all = (all.0, taken_pass q i xs all.1)
