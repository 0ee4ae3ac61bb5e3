-- A list of tokens is one specification at most.
use Rattle.std.proofs.Common.{◌≡◌, ◌≢◌, ◌∙◌, ap, sym, subst, inl, inr, ℕ, List, ◌∷◌}
use Rattle.text_core.proofs.JoinedLemmas.{Lacks, one_joined, joined_lacks}
use Rattle.spec_text.specs.Token.{Token, name, hex, decimal, equals, plus, times, power}
use Rattle.spec_text.specs.Grammar.{Factor, number, power_of, IsFactor, IsTerm, IsSpec}
use Rattle.text_core.specs.Joined.{AreJoined}

factor_lacks : (sign : Token) → ((n : ℕ) → hex n ≢ sign) → ((n : ℕ) → decimal n ≢ sign) → ((n : List ℕ) → name n ≢ sign) → power ≢ sign → (ts : List Token) (a : Factor) → IsFactor ts a → Lacks sign ts
factor_lacks sign h d m p ts (number n) (inl e) = let P : List Token → Type 0 = Lacks sign in subst P (sym e) (h n, tt)
factor_lacks sign h d m p ts (number n) (inr e) = let P : List Token → Type 0 = Lacks sign in subst P (sym e) (d n, tt)
factor_lacks sign h d m p ts (power_of w e) (inl is) = let P : List Token → Type 0 = Lacks sign in subst P (sym is.0) (m w, tt)
factor_lacks sign h d m p ts (power_of w e) (inr is) = let P : List Token → Type 0 = Lacks sign in subst P (sym is) (m w, (p, (d e, tt)))

lacks_times : (ts : List Token) (a : Factor) → IsFactor ts a → Lacks times ts
lacks_times = factor_lacks times (λ n e. cc) (λ n e. cc) (λ n e. cc) (λ e. cc)

lacks_plus : (ts : List Token) (a : Factor) → IsFactor ts a → Lacks plus ts
lacks_plus = factor_lacks plus (λ n e. cc) (λ n e. cc) (λ n e. cc) (λ e. cc)

-- the factor of tokens
factor_of : List Token → Factor
factor_of (hex n ∷ ts) = number n
factor_of (decimal n ∷ ts) = number n
factor_of (name w ∷ t ∷ decimal e ∷ ts) = power_of w e
factor_of (name w ∷ ts) = power_of w 1
factor_of ts = number 0

factor_is : (ts : List Token) (a : Factor) → IsFactor ts a → factor_of ts ≡ a
unfolding factor_of
factor_is ts (number n) (inl e) = ap factor_of e
factor_is ts (number n) (inr e) = ap factor_of e
factor_is ts (power_of w e) (inl is) = ap factor_of is.0 ∙ ap (power_of w) (sym is.1)
factor_is ts (power_of w e) (inr is) = ap factor_of is

one_factor : (ts : List Token) (a b : Factor) → IsFactor ts a → IsFactor ts b → a ≡ b
one_factor ts a b p q = sym (factor_is ts a p) ∙ factor_is ts b q

one_term : (ts : List Token) (xs bs : List Factor) → IsTerm ts xs → IsTerm ts bs → xs ≡ bs
one_term = one_joined times IsFactor lacks_times one_factor

pub one_spec : (ts : List Token) (out other : List ℕ) (xs bs : List (List Factor)) → IsSpec ts out xs → IsSpec ts other bs → (out ≡ other) × (xs ≡ bs)
one_spec ts out other xs bs p q =
    let same : name out ∷ equals ∷ p.0 ≡ name other ∷ equals ∷ q.0 = sym p.1 ∙ q.1 in
    let outs : out ≡ other = cc in
    let rests : p.0 ≡ q.0 = cc in
    let P : List Token → Type 0 = λ us. AreJoined plus IsTerm us xs in
    (outs, one_joined plus IsTerm (joined_lacks times plus IsFactor lacks_plus (λ e. cc)) one_term q.0 xs bs (subst P rests p.2) q.2)
