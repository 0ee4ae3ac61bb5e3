-- The lines of words, one after another.
use Rattle.std.proofs.Common.{◌≡◌, ◌∙◌, ap, sym, refl, ℕ, zero, suc, ◌<◌, ◌≤◌, ◌+◌, List, [], ◌∷◌, ◌++◌, length, take, drop, get_or, append-nil, drop_of_length-le, arith}
use Rattle.std.proofs.lemmas.List.{append_assoc}
use Rattle.poly_mixed.specs.Labels.{word_at}
use Rattle.answer_core.specs.DifferingLines.{word_line, word_lines}

-- the line of the next word
next_lines : (words : List (List ℕ × ℕ)) (elements : List ℕ) (w : ℕ) (e d : ℕ) → w < length words → w < length elements → e ≡ get_or elements w d
    → word_lines (drop w words) (drop w elements) ≡ word_line (word_at words w).0 e ++ word_lines (drop (suc w) words) (drop (suc w) elements)
next_lines [] elements w e d less more is = absurd (omega arith)
next_lines (u ∷ us) [] w e d less more is = absurd (omega arith)
next_lines (u ∷ us) (x ∷ xs) zero e d less more is = ap (λ n. word_line u.0 n ++ word_lines us xs) (sym is)
next_lines (u ∷ us) (x ∷ xs) (suc w) e d less more is = next_lines us xs w e d (omega arith) (omega arith) is

pub one_more : (words : List (List ℕ × ℕ)) (elements old new name all : List ℕ) (w e d : ℕ) → w < length words → w < length elements → e ≡ get_or elements w d → name ≡ (word_at words w).0
    → old ++ word_lines (drop w words) (drop w elements) ≡ all → new ≡ old ++ word_line name e → new ++ word_lines (drop (w + 1) words) (drop (w + 1) elements) ≡ all
one_more words elements old new name all w e d less more read named so_far is =
    let step : w + 1 ≡ suc w = omega arith in
    let rest = word_lines (drop (suc w) words) (drop (suc w) elements) in
    ap (λ n. new ++ word_lines (drop n words) (drop n elements)) step
    ∙ ap (λ t. t ++ rest) (is ∙ ap (λ t. old ++ word_line t e) named)
    ∙ append_assoc old (word_line (word_at words w).0 e) rest
    ∙ ap (λ t. old ++ t) (sym (next_lines words elements w e d less more read)) ∙ so_far

pub all_lines : (words : List (List ℕ × ℕ)) (elements lines all : List ℕ) (w : ℕ) → length words ≤ w → lines ++ word_lines (drop w words) (drop w elements) ≡ all → lines ≡ all
all_lines words elements lines all w past so_far = sym (append-nil lines) ∙ ap (λ us. lines ++ word_lines us (drop w elements)) (sym (drop_of_length-le words past)) ∙ so_far

-- elements past the words have no line
pub lines_taken : (words : List (List ℕ × ℕ)) (elements : List ℕ) → word_lines words (take (length words) elements) ≡ word_lines words elements
lines_taken [] elements = refl
lines_taken (u ∷ us) [] = refl
lines_taken (u ∷ us) (x ∷ xs) = ap (λ t. word_line u.0 x ++ t) (lines_taken us xs)
