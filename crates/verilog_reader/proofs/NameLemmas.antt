-- Names of bits: what stands before the last `[` is the vector's name.
use Rattle.std.proofs.Common.{◌≡◌, ◌∙◌, ap, sym, refl, subst, ℕ, ◌<◌, List, [], ◌∷◌, ◌++◌, length, codes, decimal, append_assoc, length-append, arith}
use Rattle.net_verilog.specs.Declarations.{bit_name}
use Rattle.verilog_reader.proofs.NumeralLemmas.{NoOpen, digits_no_open}

pub name_split : (name : List ℕ) (i : ℕ) → bit_name name i ≡ name ++ 91 ∷ (decimal i ++ 93 ∷ [])
name_split name i = append_assoc (name ++ codes "[") (decimal i) (codes "]") ∙ append_assoc name (codes "[") (decimal i ++ codes "]")

pub has_open : (xs rest : List ℕ) → NoOpen (xs ++ 91 ∷ rest) → ⊥
has_open [] rest none = none.0 refl
has_open (x ∷ xs) rest none = has_open xs rest none.1

pub same_before : (v w x y : List ℕ) → NoOpen x → NoOpen y → v ++ 91 ∷ x ≡ w ++ 91 ∷ y → v ≡ w
same_before [] [] x y one other same = refl
same_before [] (b ∷ w) x y one other same =
    let tail : x ≡ w ++ 91 ∷ y = cc in
    absurd (has_open w y (subst NoOpen tail one))
same_before (a ∷ v) [] x y one other same =
    let tail : y ≡ v ++ 91 ∷ x = cc in
    absurd (has_open v x (subst NoOpen tail other))
same_before (a ∷ v) (b ∷ w) x y one other same =
    let head : a ≡ b = cc in
    let tail : v ++ 91 ∷ x ≡ w ++ 91 ∷ y = cc in
    λ i. head i ∷ same_before v w x y one other tail i

pub closed : (xs : List ℕ) → NoOpen xs → NoOpen (xs ++ 93 ∷ [])
closed [] none = ((λ e. absurd (omega (arith, e))), tt)
closed (x ∷ xs) none = (none.0, closed xs none.1)

-- bits of one name are of one vector
pub same_vector : (v w : List ℕ) (i j : ℕ) → bit_name v i ≡ bit_name w j → v ≡ w
same_vector v w i j same = same_before v w (decimal i ++ 93 ∷ []) (decimal j ++ 93 ∷ []) (closed (decimal i) (digits_no_open i)) (closed (decimal j) (digits_no_open j)) (sym (name_split v i) ∙ same ∙ name_split w j)

pub longer : (name : List ℕ) (i : ℕ) → length name < length (bit_name name i)
longer name i = omega (arith, ap length (name_split name i), length-append name (91 ∷ (decimal i ++ 93 ∷ [])))
