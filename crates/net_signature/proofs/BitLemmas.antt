-- The parts of a token `NAME[DEC]`.
use Rattle.std.proofs.Common.{◌≡◌, ◌≢◌, ◌∙◌, ap, sym, refl, inl, inr, ℕ, suc, ◌<◌, List, [], ◌∷◌, ◌++◌, length, drop, ◌+◌, ◌-◌, ◌≤◌, subst, get_or, arith, codes}
use Rattle.std.specs.Prelude.{slice_index}
use Rattle.std.proofs.lemmas.List.{append_cancel_right, append_assoc, length-append}
use Rattle.text_core.specs.Names.{IsName, IsNameByte}
use Rattle.text_core.specs.Numbers.{IsDecimal}
use Rattle.net_signature.specs.Lines.{Token}
use Rattle.net_signature.specs.Statement.{SaysBit}

-- no byte is a `[`
abbrev pub HasNoBracket : List ℕ → Type 0
HasNoBracket xs = (k : ℕ) → k < length xs → slice_index xs k ≢ 91

no_bracket : (b : ℕ) → IsNameByte b → b ≢ 91
no_bracket b (inl (inl (inl digit))) same = absurd (omega (arith, digit, same))
no_bracket b (inl (inl (inr upper))) same = absurd (omega (arith, upper, same))
no_bracket b (inl (inr lower)) same = absurd (omega (arith, lower, same))
no_bracket b (inr line) same = absurd (omega (arith, line, same))

-- a name has no `[`
pub name_free : (word : Token) → IsName word → HasNoBracket word
name_free word is k less = no_bracket (slice_index word k) (is.each k less)

-- the first `[` parts a token in one way
pub parted : (a b c d : List ℕ) → HasNoBracket a → HasNoBracket c → a ++ 91 ∷ b ≡ c ++ 91 ∷ d → (a ≡ c) × (b ≡ d)
parted [] b [] d free free' e = (refl, ap (drop 1) e)
parted [] b (y ∷ c) d free free' e = absurd (free' 0 (omega arith) (sym (ap (λ t. get_or t 0 0) e)))
parted (x ∷ a) b [] d free free' e = absurd (free 0 (omega arith) (ap (λ t. get_or t 0 0) e))
parted (x ∷ a) b (y ∷ c) d free free' e =
    let head : x ≡ y = ap (λ t. get_or t 0 0) e in
    let rest = parted a b c d (λ k less. free (suc k) (omega arith)) (λ k less. free' (suc k) (omega arith)) (ap (drop 1) e) in
    (rw (head, rest.0) refl, rest.1)

-- the same, as it is spelled
pub parted_at : (a b c d : Token) → HasNoBracket a → HasNoBracket c → a ++ codes "[" ++ b ≡ c ++ codes "[" ++ d → (a ≡ c) × (b ≡ d)
parted_at a b c d free free' e = parted a b c d free free' (sym (append_assoc a (codes "[") b) ∙ e ∙ append_assoc c (codes "[") d)

-- what says a bit ends with `]`
pub ends : (token word : Token) (place : ℕ) → SaysBit token word place → (front : Token) × (token ≡ front ++ codes "]")
ends token word place says = (word ++ codes "[" ++ says.digits, says.token_is)

-- what stands before the last `]`
pub front_is : (token front word : Token) (place : ℕ) (says : SaysBit token word place) → token ≡ front ++ codes "]" → front ≡ word ++ codes "[" ++ says.digits
front_is token front word place says e = append_cancel_right front (word ++ codes "[" ++ says.digits) (codes "]") (sym e ∙ says.token_is)

-- the parts of a token that says a bit
pub parts_are : (token front word digits name : Token) (place : ℕ) (says : SaysBit token name place) → token ≡ front ++ codes "]" → front ≡ word ++ codes "[" ++ digits → HasNoBracket word → (word ≡ name) × (digits ≡ says.digits)
parts_are token front word digits name place says e parts free =
    parted_at word digits name says.digits free (name_free name says.is_name) (sym parts ∙ front_is token front name place says e)

-- a token of one byte says no bit
pub one_byte : (b : ℕ) (word : Token) (place : ℕ) → SaysBit (b ∷ []) word place → ⊥
one_byte b word place says =
    let long : 1 ≡ length (word ++ codes "[" ++ says.digits ++ codes "]") = ap length says.token_is in
    let front = length-append (word ++ codes "[" ++ says.digits) (codes "]") in
    let back = length-append (word ++ codes "[") says.digits in
    let start = length-append word (codes "[") in
    let some = says.is_name.some in
    absurd (omega (arith, long, front, back, start, some))

-- a name and a place that are not there are not in the token either
pub no_bit : (token front word digits : Token) → token ≡ front ++ codes "]" → front ≡ word ++ codes "[" ++ digits → HasNoBracket word → ((place : ℕ) → IsName word → IsDecimal digits place → place ≤ 63 → ⊥) → (name : Token) (place : ℕ) → SaysBit token name place → ⊥
no_bit token front word digits ends parts free none name place says =
    let are = parts_are token front word digits name place says ends parts free in
    let P : Token → Type 0 = λ t. IsName t in
    let Q : Token → Type 0 = λ t. IsDecimal t place in
    none place (subst P (sym are.0) says.is_name) (subst Q (sym are.1) says.is_place) says.within
