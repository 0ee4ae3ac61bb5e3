-- A name that stands behind a prefix for a while.
use Rattle.std.proofs.Common.{◌≡◌, ◌∙◌, ap, sym, ℕ, ◌<◌, ◌≤◌, ◌+◌, List, ◌++◌, length, get_or, take, arith}
use Rattle.std.specs.Prelude.{slice_index}
use Rattle.std.proofs.lemmas.List.{get_or-append-add, length-append}
use Rattle.lists.specs.laws.TakeLaws.{taken_front}
use Rattle.text_core.specs.Lines.{IsPrinting}

-- a text may be cut there
abbrev pub IsCut : List ℕ → ℕ → Type 0
IsCut text n = (n ≤ length text) × (0 < n → n < length text → 128 ≤ slice_index text n → 192 ≤ slice_index text n)

-- where a name that prints begins, a text may be cut
pub cut_before : (text prefix name : List ℕ) (n : ℕ) → text ≡ prefix ++ name → n ≡ length prefix → IsPrinting name → IsCut text n
cut_before text prefix name n is size printing =
    let long : length (prefix ++ name) ≡ length prefix + length name = length-append prefix name in
    let first : get_or (prefix ++ name) (length prefix) 0 ≡ get_or name 0 0 = (let zero_more : length prefix + 0 ≡ length prefix = omega arith in ap (λ k. get_or (prefix ++ name) k 0) (sym zero_more) ∙ get_or-append-add prefix name 0 0) in
    rw (is, size) (omega (arith, long), λ some less high. absurd (omega (arith, high, first, (printing 0 0 (omega (arith, less, long))).1)))

-- and what is left is the prefix
pub cut_back : (text cut prefix name : List ℕ) (n : ℕ) → text ≡ prefix ++ name → n ≡ length prefix → cut ≡ take n text → cut ≡ prefix
cut_back text cut prefix name n is size cut_is = cut_is ∙ (ap (take n) is ∙ taken_front prefix name n (sym size))
