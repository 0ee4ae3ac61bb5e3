-- Lists with commas, one after another.
use Rattle.std.proofs.Common.{◌≡◌, ◌∙◌, ap, inl, inr, sym, refl, subst, ℕ, zero, suc, Bool, true, false, List, Result, Ok, Err}
use Rattle.outcome.specs.Outcome.{Determined, Exactly, ◌>>=◌}
use Rattle.net_verilog.specs.Tokens.{TokenValue, is_end}
use Rattle.net_verilog.specs.declared.kind.Kind.{Kind}
use Rattle.net_verilog.specs.Parts.{is_comma}
use Rattle.net_verilog.specs.Assigns.{Reads}
use Rattle.net_verilog.specs.Several.{Either, SeveralOf, Several, after_first, comma_first}
use Rattle.net_verilog.specs.declared.fault.VerilogFault.{VerilogFault}
use Rattle.net_verilog.proofs.KindLemmas.{goes}

module _ {S : Type 0} (one : S → List TokenValue → Reads S) where
  -- the last one
  pub several_last : (state s : S) (tokens rest : List TokenValue) → one state tokens (Ok (s, rest)) → comma_first rest ≡ false → Several one state tokens (Ok (s, rest))
  several_last state s tokens rest reads ends =
      let P : Bool → Type 0 = λ b. Either b (SeveralOf 0 one s (after_first rest)) (Exactly (s, rest)) (Ok (s, rest)) in
      (1, ((s, rest), reads, subst P (sym ends) refl))

  -- one before others
  pub several_more : (state s : S) (tokens rest : List TokenValue) (outcome : Result (S × List TokenValue) VerilogFault) → one state tokens (Ok (s, rest)) → comma_first rest ≡ true → Several one s (after_first rest) outcome → Several one state tokens outcome
  several_more state s tokens rest (Ok found) reads goes (n, more) =
      let P : Bool → Type 0 = λ b. Either b (SeveralOf n one s (after_first rest)) (Exactly (s, rest)) (Ok found) in
      (suc n, ((s, rest), reads, subst P (sym goes) more))
  several_more state s tokens rest (Err fault) reads goes (n, more) =
      let P : Bool → Type 0 = λ b. Either b (SeveralOf n one s (after_first rest)) (Exactly (s, rest)) (Err fault) in
      (suc n, inr ((s, rest), reads, subst P (sym goes) more))

  pub several_fails : (state : S) (tokens : List TokenValue) (fault : VerilogFault) → one state tokens (Err fault) → Several one state tokens (Err fault)
  several_fails state tokens fault refuses = (1, inl refuses)

-- a comma is not the end
pub comma_goes : (kind : Kind) → is_comma kind ≡ true → is_end kind ≡ false
comma_goes kind is = goes is_comma refl kind is

-- two outcomes of a step and of what follows it are equal, where those of what follows are
module _ {A B : Type 0} (first : Reads A) (second third : A × List TokenValue → Reads B) (one : Determined first) (two : (a : A × List TokenValue) (x y : Result (B × List TokenValue) VerilogFault) → second a x → third a y → x ≡ y) where
  same_rest : (a b : A × List TokenValue) (x y : Result (B × List TokenValue) VerilogFault) → first (Ok a) → first (Ok b) → second a x → third b y → x ≡ y
  same_rest a b x y f g h k =
      let same : a ≡ b = ok_same a b (one (Ok a) (Ok b) f g) in
      let P : A × List TokenValue → Type 0 = λ c. third c y in
      two a x y h (subst P (sym same) k)
    where
      ok_same : (a b : A × List TokenValue) → ◌≡◌ {A = Result (A × List TokenValue) VerilogFault} (Ok a) (Ok b) → a ≡ b
      ok_same a b e = cc

  never_both : (a : A × List TokenValue) (e : VerilogFault) (C : Type 0) → first (Ok a) → first (Err e) → C
  never_both a e C f g = let same = one (Ok a) (Err e) f g in absurd (cc)

  pub bind_same : (x y : Result (B × List TokenValue) VerilogFault) → (first >>= second) x → (first >>= third) y → x ≡ y
  bind_same (Ok x) (Ok y) h k = same_rest h.0 k.0 (Ok x) (Ok y) h.1 k.1 h.2 k.2
  bind_same (Ok x) (Err e) h k = elim k [ inl w ↦ never_both h.0 e _ h.1 w | inr w ↦ same_rest h.0 w.0 (Ok x) (Err e) h.1 w.1 h.2 w.2 ]
  bind_same (Err d) (Ok y) h k = elim h [ inl w ↦ never_both k.0 d _ k.1 w | inr w ↦ same_rest w.0 k.0 (Err d) (Ok y) w.1 k.1 w.2 k.2 ]
  bind_same (Err d) (Err e) h k = elim h [
    | inl w ↦ elim k [ inl v ↦ errors (one (Err d) (Err e) w v) | inr v ↦ never_both v.0 d _ v.1 w ]
    | inr w ↦ elim k [ inl v ↦ never_both w.0 e _ w.1 v | inr v ↦ same_rest w.0 v.0 (Err d) (Err e) w.1 v.1 w.2 v.2 ]
  ]
    where
      errors : ◌≡◌ {A = Result (A × List TokenValue) VerilogFault} (Err d) (Err e) → ◌≡◌ {A = Result (B × List TokenValue) VerilogFault} (Err d) (Err e)
      errors same = let same' : d ≡ e = cc in ap Err same'

pub exactly_same : {A : Type 0} (a : A × List TokenValue) (x y : Result (A × List TokenValue) VerilogFault) → Exactly a x → Exactly a y → x ≡ y
exactly_same a (Ok x) (Ok y) h k = ap (λ z. Ok z) (h ∙ sym k)
exactly_same a (Ok x) (Err e) h k = absurd k
exactly_same a (Err d) y h k = absurd h

either_same : {A : Type 0} (b : Bool) (a : A × List TokenValue) (p q : Reads A) → ((x y : Result (A × List TokenValue) VerilogFault) → p x → q y → x ≡ y) → (x y : Result (A × List TokenValue) VerilogFault) → Either b p (Exactly a) x → Either b q (Exactly a) y → x ≡ y
either_same true a p q same x y h k = same x y h k
either_same false a p q same x y h k = exactly_same a x y h k

several_same : {S : Type 0} (one : S → List TokenValue → Reads S) → ((state : S) (tokens : List TokenValue) → Determined (one state tokens)) → (n m : ℕ) (state : S) (tokens : List TokenValue) (x y : Result (S × List TokenValue) VerilogFault) → SeveralOf n one state tokens x → SeveralOf m one state tokens y → x ≡ y
several_same one each zero m state tokens x y h k = absurd h
several_same one each (suc n) zero state tokens x y h k = absurd k
several_same one each (suc n) (suc m) state tokens x y h k =
    bind_same
    (one state tokens)
    (λ first. Either (comma_first first.1) (SeveralOf n one first.0 (after_first first.1)) (Exactly first))
    (λ first. Either (comma_first first.1) (SeveralOf m one first.0 (after_first first.1)) (Exactly first))
    (each state tokens)
    (λ first x y. either_same (comma_first first.1) first (SeveralOf n one first.0 (after_first first.1)) (SeveralOf m one first.0 (after_first first.1)) (several_same one each n m first.0 (after_first first.1)) x y)
    x
    y
    h
    k

-- at most one outcome comes of a list, where at most one comes of each part
pub several_determined : {S : Type 0} (one : S → List TokenValue → Reads S) → ((state : S) (tokens : List TokenValue) → Determined (one state tokens)) → (state : S) (tokens : List TokenValue) → Determined (Several one state tokens)
several_determined one each state tokens x y h k = several_same one each h.0 k.0 state tokens x y h.1 k.1
