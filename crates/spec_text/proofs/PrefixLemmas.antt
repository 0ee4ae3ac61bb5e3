-- What was read of a specification so far, as closed terms, closed factors and a part of a factor; and the specifications
-- that begin so.
use Rattle.std.proofs.Common.{◌≡◌, ◌∙◌, ap, sym, refl, ℕ, List, [], ◌∷◌, ◌++◌, append_assoc, append-nil}
use Rattle.gf_field.specs.Ring.{IsRing}
use Rattle.poly_mixed.specs.Labels.{Labelling, word_of}
use Rattle.text_core.proofs.JoinedLemmas.{AreClosed, none_closed, closed_more, closed_last}
use Rattle.spec_text.specs.Token.{Token, name, equals, plus, times}
use Rattle.spec_text.specs.Grammar.{Factor, number, power_of, IsFactor, IsTerm, IsSpec, IsBeginning}
use Rattle.spec_text.specs.Said.{coefficient_of, pair_of, pairs_of, terms_of}

-- ---- what terms say

module _ (l : Labelling) (mul : ℕ → ℕ → ℕ) where
  pub pairs_more : (fs : List Factor) (a : Factor) → pairs_of l (fs ++ a ∷ []) ≡ pairs_of l fs ++ pairs_of l (a ∷ [])
  pairs_more [] a = refl
  pairs_more (number n ∷ fs) a = pairs_more fs a
  pairs_more (power_of w e ∷ fs) a =
      ap (λ (ps : List (ℕ × ℕ)). pair_of (word_of l.words w) e ++ ps) (pairs_more fs a) ∙ sym (append_assoc (pair_of (word_of l.words w) e) (pairs_of l fs) (pairs_of l (a ∷ [])))

  pub terms_more : (xs : List (List Factor)) (fs : List Factor) → terms_of l mul (xs ++ fs ∷ []) ≡ terms_of l mul xs ++ (coefficient_of mul fs, pairs_of l fs) ∷ []
  terms_more [] fs = refl
  terms_more (x ∷ xs) fs = ap (λ ts. (coefficient_of mul x, pairs_of l x) ∷ ts) (terms_more xs fs)

  pub coefficient_power : (fs : List Factor) (w : List ℕ) (e : ℕ) → coefficient_of mul (fs ++ power_of w e ∷ []) ≡ coefficient_of mul fs
  coefficient_power [] w e = refl
  coefficient_power (number n ∷ fs) w e = ap (mul n) (coefficient_power fs w e)
  coefficient_power (power_of v d ∷ fs) w e = coefficient_power fs w e

  module _ (k : ℕ) (ring : IsRing k mul) where
    pub coefficient_number : (fs : List Factor) (n : ℕ) → coefficient_of mul (fs ++ number n ∷ []) ≡ mul (coefficient_of mul fs) n
    coefficient_number [] n = ring.comm n 1
    coefficient_number (number m ∷ fs) n = ap (mul m) (coefficient_number fs n) ∙ sym (ring.assoc m (coefficient_of mul fs) n)
    coefficient_number (power_of v d ∷ fs) n = coefficient_number fs n

-- ---- a prefix

-- the left side, closed terms, and of the term that is read closed factors and the tokens after them
pub record IsPrefix (ts : List Token) (out : List ℕ) (xs : List (List Factor)) (fs : List Factor) (part : List Token) : Type 0 where
  pub front : List Token
  pub middle : List Token
  pub is : ts ≡ name out ∷ equals ∷ (front ++ (middle ++ part))
  pub terms : AreClosed plus IsTerm front xs
  pub factors : AreClosed times IsFactor middle fs

pub first_prefix : (out : List ℕ) → IsPrefix (name out ∷ equals ∷ []) out [] [] []
first_prefix out = record { front = []; middle = []; is = refl; terms = none_closed plus IsTerm; factors = none_closed times IsFactor }

module _ (ts : List Token) (out : List ℕ) (xs : List (List Factor)) (fs : List Factor) (part : List Token) (p : IsPrefix ts out xs fs part) where
  moved : (us : List Token) → ts ++ us ≡ name out ∷ equals ∷ (p.front ++ (p.middle ++ (part ++ us)))
  moved us =
      ap (λ vs. vs ++ us) p.is
      ∙ ap (λ vs. name out ∷ equals ∷ vs) (append_assoc p.front (p.middle ++ part) us ∙ ap (λ vs. p.front ++ vs) (append_assoc p.middle part us))

  -- more tokens of the factor
  pub prefix_more : (us : List Token) → IsPrefix (ts ++ us) out xs fs (part ++ us)
  prefix_more us = record { front = p.front; middle = p.middle; is = moved us; terms = p.terms; factors = p.factors }

  -- the factor is closed by `*`
  pub prefix_times : (a : Factor) → IsFactor part a → IsPrefix (ts ++ times ∷ []) out xs (fs ++ a ∷ []) []
  prefix_times a is = record {
    front = p.front;
    middle = p.middle ++ (part ++ times ∷ []);
    is = moved (times ∷ []) ∙ ap (λ vs. name out ∷ equals ∷ (p.front ++ vs)) (sym (append-nil (p.middle ++ (part ++ times ∷ []))));
    terms = p.terms;
    factors = closed_more times IsFactor p.middle part fs a p.factors is;
  }

  -- the term is closed by `+`
  pub prefix_plus : (a : Factor) → IsFactor part a → IsPrefix (ts ++ plus ∷ []) out (xs ++ (fs ++ a ∷ []) ∷ []) [] []
  prefix_plus a is =
      let P : List Token → Type 0 = λ vs. AreClosed plus IsTerm vs (xs ++ (fs ++ a ∷ []) ∷ []) in
      let term : IsTerm (p.middle ++ part) (fs ++ a ∷ []) = closed_last times IsFactor p.middle part fs a p.factors is in
      record {
        front = p.front ++ ((p.middle ++ part) ++ plus ∷ []);
        middle = [];
        is = moved (plus ∷ []) ∙ ap (λ vs. name out ∷ equals ∷ vs) (ap (λ vs. p.front ++ vs) (sym (append_assoc p.middle part (plus ∷ []))) ∙ sym (append-nil (p.front ++ ((p.middle ++ part) ++ plus ∷ []))));
        terms = closed_more plus IsTerm p.front (p.middle ++ part) xs (fs ++ a ∷ []) p.terms term;
        factors = none_closed times IsFactor;
      }

  -- with tokens that make the part a factor it is a specification
  pub prefix_spec : (us : List Token) (a : Factor) → IsFactor (part ++ us) a → IsSpec (ts ++ us) out (xs ++ (fs ++ a ∷ []) ∷ [])
  prefix_spec us a is =
      (p.front ++ (p.middle ++ (part ++ us)), moved us, closed_last plus IsTerm p.front (p.middle ++ (part ++ us)) xs (fs ++ a ∷ []) p.terms (closed_last times IsFactor p.middle (part ++ us) fs a p.factors is))

  pub prefix_begins : (us : List Token) (a : Factor) → IsFactor (part ++ us) a → IsBeginning ts
  prefix_begins us a is = (us, (out, xs ++ (fs ++ a ∷ []) ∷ []), prefix_spec us a is)
