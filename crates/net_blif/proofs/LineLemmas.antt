-- Trimmed and joined lines.
use Rattle.std.proofs.Common.{◌≡◌, ◌∙◌, ap, sym, refl, ℕ, zero, suc, ◌≤◌, ◌+◌, Bool, true, false, cond, List, [], ◌∷◌, ◌++◌, length, take, get_or, arith, ◌-◌}
use Rattle.net_blif.specs.Lines.{Numbered, is_trailing, before_trimmed, trim_end, join_first, goes_on, without_last, joined, clean}

-- a further byte that trails
trim_more : (line : List ℕ) (b : ℕ) → is_trailing b ≡ true → trim_end (line ++ b ∷ []) ≡ trim_end line
trim_more [] b trail = rw trail refl
trim_more (x ∷ xs) b trail = ap (before_trimmed x) (trim_more xs b trail)

-- a byte at the end that does not trail stays
trim_kept : (line : List ℕ) (b : ℕ) → is_trailing b ≡ false → trim_end (line ++ b ∷ []) ≡ line ++ b ∷ []
trim_kept [] b kept = rw kept refl
trim_kept (x ∷ xs) b kept = ap (before_trimmed x) (trim_kept xs b kept) ∙ keeps xs
  where
    keeps : (xs : List ℕ) → before_trimmed x (xs ++ b ∷ []) ≡ x ∷ (xs ++ b ∷ [])
    keeps [] = refl
    keeps (y ∷ ys) = refl

pub split_last : (xs : List ℕ) (n : ℕ) → length xs ≡ suc n → take n xs ++ get_or xs n 0 ∷ [] ≡ xs
split_last [] n long = absurd (omega arith)
split_last (x ∷ xs) zero long = single xs (omega arith)
  where
    single : (xs : List ℕ) → length xs ≡ 0 → x ∷ [] ≡ x ∷ xs
    single [] e = refl
    single (y ∷ ys) e = absurd (omega arith)
split_last (x ∷ xs) (suc n) long = ap (λ ys. x ∷ ys) (split_last xs n (omega arith))

pub trim_at : (xs : List ℕ) (n : ℕ) → 1 ≤ length xs → n ≡ length xs - 1 → is_trailing (get_or xs n 0) ≡ true → trim_end (take n xs) ≡ trim_end xs
trim_at xs n some is trail = sym (trim_more (take n xs) (get_or xs n 0) trail) ∙ ap trim_end (split_last xs n (omega arith))

pub trim_stays : (xs : List ℕ) (n : ℕ) → 1 ≤ length xs → n ≡ length xs - 1 → is_trailing (get_or xs n 0) ≡ false → xs ≡ trim_end xs
trim_stays xs n some is kept = let whole = split_last xs n (omega arith) in sym whole ∙ (sym (trim_kept (take n xs) (get_or xs n 0) kept) ∙ ap trim_end whole)

append_byte : (xs : List ℕ) (b : ℕ) (ys : List ℕ) → (xs ++ b ∷ []) ++ ys ≡ xs ++ b ∷ ys
append_byte [] b ys = refl
append_byte (x ∷ xs) b ys = ap (λ zs. x ∷ zs) (append_byte xs b ys)

append_twice : (f g l : List ℕ) → (f ++ 32 ∷ g) ++ 32 ∷ l ≡ f ++ 32 ∷ (g ++ 32 ∷ l)
append_twice [] g l = refl
append_twice (x ∷ xs) g l = ap (λ zs. x ∷ zs) (append_twice xs g l)

-- two lines that are joined to a third, one after the other
join_twice : (m n : ℕ) (f g : List ℕ) (rest : List Numbered) → join_first m f (join_first n g rest) ≡ join_first m (f ++ 32 ∷ g) rest
join_twice m n f g [] = refl
join_twice m n f g (line ∷ rest) = ap (λ bytes. (m, bytes) ∷ rest) (sym (append_twice f g line.1))

join_part : (n m : ℕ) (was line : List ℕ) (more : Bool) (rest : List Numbered) → join_first n was (cond more (join_first m (without_last line) rest) ((m, line) ∷ rest)) ≡ cond more (join_first n (was ++ 32 ∷ cond more (without_last line) line) rest) ((n, was ++ 32 ∷ cond more (without_last line) line) ∷ rest)
join_part n m was line true rest = join_twice n m was (without_last line) rest
join_part n m was line false rest = refl

-- what was read so far, with one more physical line
pub join_more : (all : List Numbered) (n count : ℕ) (was front line : List ℕ) (left after : List (List ℕ)) (physical : List ℕ) (more : Bool) → all ≡ join_first n was (joined (n + count) left) → left ≡ physical ∷ after → more ≡ goes_on (clean physical) → front ≡ cond more (without_last (clean physical)) (clean physical) → line ≡ (was ++ 32 ∷ []) ++ front → all ≡ cond more (join_first n line (joined (n + (count + 1)) after)) ((n, line) ∷ joined (n + (count + 1)) after)
join_more all n count was front line left after physical more is split goes part longer =
    let place : n + count + 1 ≡ n + (count + 1) = omega arith in
    let whole : line ≡ was ++ 32 ∷ cond more (without_last (clean physical)) (clean physical) = longer ∙ append_byte was 32 front ∙ ap (λ f. was ++ 32 ∷ f) part in
    let step : join_first n was (joined (n + count) (physical ∷ after)) ≡ join_first n was (cond more (join_first (n + count) (without_last (clean physical)) (joined (n + count + 1) after)) ((n + count, clean physical) ∷ joined (n + count + 1) after)) = rw goes refl in
    rw (whole, ← place) (is ∙ ap (λ l. join_first n was (joined (n + count) l)) split ∙ step ∙ join_part n (n + count) was (clean physical) more (joined (n + count + 1) after))
