-- The last `[` of a name.
use Rattle.std.proofs.Common.{◌≡◌, ◌∙◌, ap, sym, subst, ℕ, zero, suc, ◌+◌, ◌≤◌, List, [], ◌∷◌, ◌++◌, length, take, drop, decimal, Some, arith}
use Rattle.std.specs.Prelude.{slice_get}
use Rattle.std.proofs.lemmas.List.{length-take-le as taken_length}
use Rattle.verilog_reader.specs.private.Meets.{IsCutOf, IsNoBit}
use Rattle.verilog_reader.proofs.NumeralLemmas.{NoOpen, digits_no_open}
use Rattle.verilog_reader.proofs.NameLemmas.{closed, has_open, name_split, same_before}

split_at : (xs : List ℕ) (n b : ℕ) → slice_get xs n ≡ Some b → xs ≡ take n xs ++ b ∷ drop (suc n) xs
split_at [] n b got = absurd (cc)
split_at (x ∷ xs) zero b got = let e : x ≡ b = cc in ap (λ y. y ∷ xs) e
split_at (x ∷ xs) (suc n) b got = ap (λ ys. x ∷ ys) (split_at xs n b got)

placed : (xs : List ℕ) (n b : ℕ) → slice_get xs n ≡ Some b → n ≤ length xs
placed [] n b got = absurd (cc)
placed (x ∷ xs) zero b got = omega arith
placed (x ∷ xs) (suc n) b got = omega (arith, placed xs n b got)

pub cut_found : (name : List ℕ) (cut : ℕ) → slice_get name cut ≡ Some 91 → NoOpen (drop (suc cut) name) → IsCutOf name cut
cut_found name cut got none before i same =
    let e : take cut name ≡ before = same_before (take cut name) before (drop (suc cut) name) (decimal i ++ 93 ∷ []) none (closed (decimal i) (digits_no_open i)) (sym (split_at name cut 91 got) ∙ same ∙ name_split before i) in
    ap length (sym e) ∙ taken_length cut name (placed name cut 91 got)

pub cut_nowhere : (name : List ℕ) → NoOpen name → IsNoBit name
cut_nowhere name none before i same = has_open before (decimal i ++ 93 ∷ []) (subst NoOpen (same ∙ name_split before i) none)
