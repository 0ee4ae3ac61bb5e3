-- What was read says what its tokens say, and each token that was taken is without a fault.
use Rattle.std.proofs.Common.{◌≡◌, ◌∙◌, ap, sym, refl, subst, inl, inr, ℕ, ◌^◌, List, [], ◌∷◌, ◌++◌, Some, append-nil}
use Rattle.gf_field.specs.Ring.{IsRing}
use Rattle.poly_mixed.specs.Labels.{Labelling, word_of}
use Rattle.spec_text.specs.Token.{Token, name, hex, decimal, equals, plus, times, power}
use Rattle.spec_text.specs.Grammar.{Factor, number, power_of, IsFactor, IsSpec, IsBeginning}
use Rattle.spec_expand.specs.Specification.{SpecTerms}
use Rattle.spec_text.specs.Said.{coefficient_of, pair_of, pairs_of, terms_of}
use Rattle.spec_text.specs.declared.reader.Next.{Next}
use Rattle.spec_text.specs.declared.reader.Next.TheVariants.{Output, Assign, Factor as AtFactor, AfterNumber, AfterName, Exponent}
use Rattle.spec_text.specs.private.Progress.{Progress, progress, closed, to_next, with_power, next_term}
use Rattle.spec_text.proofs.ReadTokens.{start}
use Rattle.spec_text.proofs.MoveLemmas.{Move, reads_output, reads_sign, reads_word, reads_element, reads_bit, reads_power, reads_exponent, times_number, times_name, plus_number, plus_name, Shape, go, shape}
use Rattle.spec_text.proofs.PrefixLemmas.{IsPrefix, first_prefix, prefix_more, prefix_times, prefix_plus, prefix_spec, prefix_begins, pairs_more, terms_more, coefficient_power, coefficient_number}

module _ (l : Labelling) (k : ℕ) (mul : ℕ → ℕ → ℕ) (ring : IsRing k mul) where
  -- the terms, the coefficient and the powers are those of closed terms and of factors
  pub record IsSaid (out : List ℕ) (xs : List (List Factor)) (fs : List Factor) (ts : SpecTerms) (c : ℕ) (ps : List (ℕ × ℕ)) : Type 0 where
    pub terms : ts ≡ terms_of l mul xs
    pub coefficient : c ≡ coefficient_of mul fs
    pub powers : ps ≡ pairs_of l fs

  -- after `=`, `*` or `+`
  pub record IsOpen (tokens : List Token) (p : Progress) : Type 0 where
    pub out : List ℕ
    pub xs : List (List Factor)
    pub fs : List Factor
    pub prefix : IsPrefix tokens out xs fs []
    pub said : IsSaid out xs fs p.terms p.coefficient p.powers

  -- after a factor
  pub record IsFull (tokens : List Token) (ts : SpecTerms) (c : ℕ) (ps : List (ℕ × ℕ)) : Type 0 where
    pub out : List ℕ
    pub xs : List (List Factor)
    pub fs : List Factor
    pub part : List Token
    pub last : Factor
    pub is_factor : IsFactor part last
    pub prefix : IsPrefix tokens out xs fs part
    pub said : IsSaid out xs (fs ++ last ∷ []) ts c ps

  -- after a name, and after `^`
  pub record IsNamed (tokens : List Token) (w : ℕ) (after : List Token) (p : Progress) : Type 0 where
    pub out : List ℕ
    pub xs : List (List Factor)
    pub fs : List Factor
    pub word : List ℕ
    pub number : word_of l.words word ≡ Some w
    pub prefix : IsPrefix tokens out xs fs (name word ∷ after)
    pub said : IsSaid out xs fs p.terms p.coefficient p.powers

  unfoldable pub Says : Next → List Token → Progress → Type 0
  Says Output tokens p = (tokens ≡ []) × (p.terms ≡ []) × (p.coefficient ≡ 1) × (p.powers ≡ [])
  Says Assign tokens p = (out : List ℕ) × (tokens ≡ name out ∷ []) × (p.terms ≡ []) × (p.coefficient ≡ 1) × (p.powers ≡ [])
  Says AtFactor tokens p = IsOpen tokens p
  Says AfterNumber tokens p = IsFull tokens p.terms p.coefficient p.powers
  Says (AfterName w) tokens p = IsNamed tokens w [] p
  Says (Exponent w) tokens p = IsNamed tokens w (power ∷ []) p

  pub says_start : Says Output [] start
  unfolding Says
  says_start = (refl, refl, refl, refl)

  -- a name with its exponent is a factor
  named_full : (tokens us : List Token) (w e : ℕ) (after : List Token) (p : Progress) (is : IsNamed tokens w after p) → IsFactor (name is.word ∷ (after ++ us)) (power_of is.word e) → IsFull (tokens ++ us) p.terms p.coefficient (p.powers ++ (w, e) ∷ [])
  named_full tokens us w e after p is factor = record {
    out = is.out;
    xs = is.xs;
    fs = is.fs;
    part = name is.word ∷ (after ++ us);
    last = power_of is.word e;
    is_factor = factor;
    prefix = prefix_more tokens is.out is.xs is.fs (name is.word ∷ after) is.prefix us;
    said = record {
      terms = is.said.terms;
      coefficient = is.said.coefficient ∙ sym (coefficient_power l mul is.fs is.word e);
      powers =
          ap (λ (ps : List (ℕ × ℕ)). ps ++ (w, e) ∷ []) is.said.powers
          ∙ ap (λ o. pairs_of l is.fs ++ (pair_of o e ++ [])) (sym is.number)
          ∙ sym (pairs_more l mul is.fs (power_of is.word e));
    };
  }

  -- after a name the factor may be whole
  name_full : (tokens : List Token) (w : ℕ) (p : Progress) → IsNamed tokens w [] p → IsFull tokens p.terms p.coefficient (p.powers ++ (w, 1) ∷ [])
  name_full tokens w p is =
      let P : List Token → Type 0 = λ us. IsFull us p.terms p.coefficient (p.powers ++ (w, 1) ∷ []) in
      subst P (append-nil tokens) (named_full tokens [] w 1 [] p is (inl (refl, refl)))

  full_times : (tokens : List Token) (n : Next) (ts : SpecTerms) (c : ℕ) (ps : List (ℕ × ℕ)) → IsFull tokens ts c ps → IsOpen (tokens ++ times ∷ []) (progress n ts c ps)
  full_times tokens n ts c ps is = record { out = is.out; xs = is.xs; fs = is.fs ++ is.last ∷ []; prefix = prefix_times tokens is.out is.xs is.fs is.part is.prefix is.last is.is_factor; said = is.said }

  closed_is : (xs : List (List Factor)) (fs : List Factor) (ts : SpecTerms) (c : ℕ) (ps : List (ℕ × ℕ)) (out : List ℕ) → IsSaid out xs fs ts c ps → closed ts c ps ≡ terms_of l mul (xs ++ fs ∷ [])
  closed_is xs fs ts c ps out is = (λ i. is.terms i ++ (is.coefficient i, is.powers i) ∷ []) ∙ sym (terms_more l mul xs fs)

  full_plus : (tokens : List Token) (ts : SpecTerms) (c : ℕ) (ps : List (ℕ × ℕ)) → IsFull tokens ts c ps → IsOpen (tokens ++ plus ∷ []) (progress AtFactor (closed ts c ps) 1 [])
  full_plus tokens ts c ps is = record {
    out = is.out;
    xs = is.xs ++ (is.fs ++ is.last ∷ []) ∷ [];
    fs = [];
    prefix = prefix_plus tokens is.out is.xs is.fs is.part is.prefix is.last is.is_factor;
    said = record { terms = closed_is is.xs (is.fs ++ is.last ∷ []) ts c ps is.out is.said; coefficient = refl; powers = refl };
  }

  number_full : (tokens : List Token) (t : Token) (n : ℕ) (p : Progress) → IsOpen tokens p → IsFactor (t ∷ []) (number n) → IsFull (tokens ++ t ∷ []) p.terms (mul p.coefficient n) p.powers
  number_full tokens t n p is factor = record {
    out = is.out;
    xs = is.xs;
    fs = is.fs;
    part = t ∷ [];
    last = number n;
    is_factor = factor;
    prefix = prefix_more tokens is.out is.xs is.fs [] is.prefix (t ∷ []);
    said = record {
      terms = is.said.terms;
      coefficient = ap (λ c. mul c n) is.said.coefficient ∙ sym (coefficient_number l mul k ring is.fs n);
      powers = is.said.powers ∙ sym (append-nil (pairs_of l is.fs)) ∙ sym (pairs_more l mul is.fs (number n));
    };
  }

  at_next : (tokens : List Token) (p : Progress) (n : Next) → p.next ≡ n → Says p.next tokens p → Says n tokens p
  at_next tokens p n at says = let P : Next → Type 0 = λ m. Says m tokens p in subst P at says

  -- a token more
  pub says_more : (tokens : List Token) (p q : Progress) (t : Token) → Says p.next tokens p → Move l k mul p t q → Says q.next (tokens ++ t ∷ []) q
  unfolding Says
  says_more tokens p q t says (reads_output n at is ok new) =
      let here : Says Output tokens p = at_next tokens p Output at says in
      let P : Progress → Type 0 = λ r. Says r.next (tokens ++ t ∷ []) r in
      subst P (sym new) (n, (λ i. here.0 i ++ is i ∷ []), here.1, here.2, here.3)
  says_more tokens p q t says (reads_sign at is new) =
      let here : Says Assign tokens p = at_next tokens p Assign at says in
      let P : Progress → Type 0 = λ r. Says r.next (tokens ++ t ∷ []) r in
      let Q : List Token → Type 0 = λ us. IsOpen us (to_next AtFactor p) in
      let fresh : IsOpen (name here.0 ∷ equals ∷ []) (to_next AtFactor p) = record { out = here.0; xs = []; fs = []; prefix = first_prefix here.0; said = record { terms = here.2; coefficient = here.3; powers = here.4 } } in
      subst P (sym new) (subst Q (λ i. sym here.1 i ++ sym is i ∷ []) fresh)
  says_more tokens p q t says (reads_word n w at is ok new) =
      let here : Says AtFactor tokens p = at_next tokens p AtFactor at says in
      let P : Progress → Type 0 = λ r. Says r.next (tokens ++ t ∷ []) r in
      let Q : Token → Type 0 = λ u. IsNamed (tokens ++ u ∷ []) w [] (to_next (AfterName w) p) in
      subst P (sym new) (subst Q (sym is) (record { out = here.out; xs = here.xs; fs = here.fs; word = n; number = ok; prefix = prefix_more tokens here.out here.xs here.fs [] here.prefix (name n ∷ []); said = here.said }))
  says_more tokens p q t says (reads_element n at is ok new) =
      let here : Says AtFactor tokens p = at_next tokens p AtFactor at says in
      let P : Progress → Type 0 = λ r. Says r.next (tokens ++ t ∷ []) r in
      let Q : Token → Type 0 = λ u. IsFull (tokens ++ u ∷ []) p.terms (mul p.coefficient n) p.powers in
      subst P (sym new) (subst Q (sym is) (number_full tokens (hex n) n p here (inl refl)))
  says_more tokens p q t says (reads_bit n at is ok new) =
      let here : Says AtFactor tokens p = at_next tokens p AtFactor at says in
      let P : Progress → Type 0 = λ r. Says r.next (tokens ++ t ∷ []) r in
      let Q : Token → Type 0 = λ u. IsFull (tokens ++ u ∷ []) p.terms (mul p.coefficient n) p.powers in
      subst P (sym new) (subst Q (sym is) (number_full tokens (decimal n) n p here (inr refl)))
  says_more tokens p q t says (reads_power w at is new) =
      let here : Says (AfterName w) tokens p = at_next tokens p (AfterName w) at says in
      let P : Progress → Type 0 = λ r. Says r.next (tokens ++ t ∷ []) r in
      let Q : Token → Type 0 = λ u. IsNamed (tokens ++ u ∷ []) w (power ∷ []) (to_next (Exponent w) p) in
      subst P (sym new) (subst Q (sym is) (record { out = here.out; xs = here.xs; fs = here.fs; word = here.word; number = here.number; prefix = prefix_more tokens here.out here.xs here.fs (name here.word ∷ []) here.prefix (power ∷ []); said = here.said }))
  says_more tokens p q t says (reads_exponent w n at is ok new) =
      let here : Says (Exponent w) tokens p = at_next tokens p (Exponent w) at says in
      let P : Progress → Type 0 = λ r. Says r.next (tokens ++ t ∷ []) r in
      let Q : Token → Type 0 = λ u. IsFull (tokens ++ u ∷ []) p.terms p.coefficient (p.powers ++ (w, n) ∷ []) in
      subst P (sym new) (subst Q (sym is) (named_full tokens (decimal n ∷ []) w n (power ∷ []) p here (inr refl)))
  says_more tokens p q t says (times_number at is new) =
      let here : Says AfterNumber tokens p = at_next tokens p AfterNumber at says in
      let P : Progress → Type 0 = λ r. Says r.next (tokens ++ t ∷ []) r in
      let Q : Token → Type 0 = λ u. IsOpen (tokens ++ u ∷ []) (to_next AtFactor p) in
      subst P (sym new) (subst Q (sym is) (full_times tokens AtFactor p.terms p.coefficient p.powers here))
  says_more tokens p q t says (times_name w at is new) =
      let here : Says (AfterName w) tokens p = at_next tokens p (AfterName w) at says in
      let P : Progress → Type 0 = λ r. Says r.next (tokens ++ t ∷ []) r in
      let Q : Token → Type 0 = λ u. IsOpen (tokens ++ u ∷ []) (with_power AtFactor w 1 p) in
      subst P (sym new) (subst Q (sym is) (full_times tokens AtFactor p.terms p.coefficient (p.powers ++ (w, 1) ∷ []) (name_full tokens w p here)))
  says_more tokens p q t says (plus_number at is new) =
      let here : Says AfterNumber tokens p = at_next tokens p AfterNumber at says in
      let P : Progress → Type 0 = λ r. Says r.next (tokens ++ t ∷ []) r in
      let Q : Token → Type 0 = λ u. IsOpen (tokens ++ u ∷ []) (next_term p) in
      subst P (sym new) (subst Q (sym is) (full_plus tokens p.terms p.coefficient p.powers here))
  says_more tokens p q t says (plus_name w at is new) =
      let here : Says (AfterName w) tokens p = at_next tokens p (AfterName w) at says in
      let P : Progress → Type 0 = λ r. Says r.next (tokens ++ t ∷ []) r in
      let Q : Token → Type 0 = λ u. IsOpen (tokens ++ u ∷ []) (next_term (with_power AfterNumber w 1 p)) in
      subst P (sym new) (subst Q (sym is) (full_plus tokens p.terms p.coefficient (p.powers ++ (w, 1) ∷ []) (name_full tokens w p here)))

  -- ---- some specification goes on

  unfoldable pub IsStarted : Next → Type 0
  IsStarted Output = ⊥
  IsStarted n = Unit {0}

  pub begins : (n : Next) (tokens : List Token) (p : Progress) → IsStarted n → Says n tokens p → IsBeginning tokens
  unfolding Says IsStarted
  begins Output tokens p some says = absurd some
  begins Assign tokens p some says =
      let P : List Token → Type 0 = IsBeginning in
      let short : IsSpec (name says.0 ∷ equals ∷ decimal 0 ∷ []) says.0 ((number 0 ∷ []) ∷ []) = (decimal 0 ∷ [], refl, inr refl) in
      subst P (sym says.1) (equals ∷ decimal 0 ∷ [], (says.0, (number 0 ∷ []) ∷ []), short)
  begins AtFactor tokens p some says = prefix_begins tokens says.out says.xs says.fs [] says.prefix (decimal 0 ∷ []) (number 0) (inr refl)
  begins AfterNumber tokens p some says =
      let P : List Token → Type 0 = λ us. IsFactor us says.last in
      prefix_begins tokens says.out says.xs says.fs says.part says.prefix [] says.last (subst P (sym (append-nil says.part)) says.is_factor)
  begins (AfterName w) tokens p some says = prefix_begins tokens says.out says.xs says.fs (name says.word ∷ []) says.prefix [] (power_of says.word 1) (inl (refl, refl))
  begins (Exponent w) tokens p some says = prefix_begins tokens says.out says.xs says.fs (name says.word ∷ power ∷ []) says.prefix (decimal 0 ∷ []) (power_of says.word 0) (inr refl)

  -- after these tokens a name, whatever it names, or a number, however large, is no fault of the grammar
  pub name_goes : (next : Next) (tokens : List Token) (p : Progress) (n : List ℕ) (u : Shape) → Says next tokens p → go (shape next) (name n) ≡ Some u → IsBeginning (tokens ++ name n ∷ [])
  unfolding Says go
  name_goes Output tokens p n u says e =
      let P : List Token → Type 0 = λ us. IsBeginning (us ++ name n ∷ []) in
      subst P (sym says.0) (equals ∷ decimal 0 ∷ [], (n, (number 0 ∷ []) ∷ []), (decimal 0 ∷ [], refl, inr refl))
  name_goes AtFactor tokens p n u says e =
      prefix_begins (tokens ++ name n ∷ []) says.out says.xs says.fs (name n ∷ []) (prefix_more tokens says.out says.xs says.fs [] says.prefix (name n ∷ [])) [] (power_of n 1) (inl (refl, refl))
  name_goes Assign tokens p n u says e = absurd (cc)
  name_goes AfterNumber tokens p n u says e = absurd (cc)
  name_goes (AfterName w) tokens p n u says e = absurd (cc)
  name_goes (Exponent w) tokens p n u says e = absurd (cc)

  pub hex_goes : (next : Next) (tokens : List Token) (p : Progress) (n : ℕ) (u : Shape) → Says next tokens p → go (shape next) (hex n) ≡ Some u → IsBeginning (tokens ++ hex n ∷ [])
  unfolding Says go
  hex_goes AtFactor tokens p n u says e =
      prefix_begins (tokens ++ hex n ∷ []) says.out says.xs says.fs (hex n ∷ []) (prefix_more tokens says.out says.xs says.fs [] says.prefix (hex n ∷ [])) [] (number n) (inl refl)
  hex_goes Output tokens p n u says e = absurd (cc)
  hex_goes Assign tokens p n u says e = absurd (cc)
  hex_goes AfterNumber tokens p n u says e = absurd (cc)
  hex_goes (AfterName w) tokens p n u says e = absurd (cc)
  hex_goes (Exponent w) tokens p n u says e = absurd (cc)

  pub decimal_goes : (next : Next) (tokens : List Token) (p : Progress) (n : ℕ) (u : Shape) → Says next tokens p → go (shape next) (decimal n) ≡ Some u → IsBeginning (tokens ++ decimal n ∷ [])
  unfolding Says go
  decimal_goes AtFactor tokens p n u says e =
      prefix_begins (tokens ++ decimal n ∷ []) says.out says.xs says.fs (decimal n ∷ []) (prefix_more tokens says.out says.xs says.fs [] says.prefix (decimal n ∷ [])) [] (number n) (inr refl)
  decimal_goes (Exponent w) tokens p n u says e =
      prefix_begins (tokens ++ decimal n ∷ []) says.out says.xs says.fs (name says.word ∷ power ∷ decimal n ∷ []) (prefix_more tokens says.out says.xs says.fs (name says.word ∷ power ∷ []) says.prefix (decimal n ∷ [])) [] (power_of says.word n) (inr refl)
  decimal_goes Output tokens p n u says e = absurd (cc)
  decimal_goes Assign tokens p n u says e = absurd (cc)
  decimal_goes AfterNumber tokens p n u says e = absurd (cc)
  decimal_goes (AfterName w) tokens p n u says e = absurd (cc)

  pub move_starts : (p q : Progress) (t : Token) → Move l k mul p t q → IsStarted q.next
  unfolding IsStarted
  move_starts p q t (reads_output n at is ok new) = let P : Progress → Type 0 = λ r. IsStarted r.next in subst P (sym new) tt
  move_starts p q t (reads_sign at is new) = let P : Progress → Type 0 = λ r. IsStarted r.next in subst P (sym new) tt
  move_starts p q t (reads_word n w at is ok new) = let P : Progress → Type 0 = λ r. IsStarted r.next in subst P (sym new) tt
  move_starts p q t (reads_element n at is ok new) = let P : Progress → Type 0 = λ r. IsStarted r.next in subst P (sym new) tt
  move_starts p q t (reads_bit n at is ok new) = let P : Progress → Type 0 = λ r. IsStarted r.next in subst P (sym new) tt
  move_starts p q t (reads_power w at is new) = let P : Progress → Type 0 = λ r. IsStarted r.next in subst P (sym new) tt
  move_starts p q t (reads_exponent w n at is ok new) = let P : Progress → Type 0 = λ r. IsStarted r.next in subst P (sym new) tt
  move_starts p q t (times_number at is new) = let P : Progress → Type 0 = λ r. IsStarted r.next in subst P (sym new) tt
  move_starts p q t (times_name w at is new) = let P : Progress → Type 0 = λ r. IsStarted r.next in subst P (sym new) tt
  move_starts p q t (plus_number at is new) = let P : Progress → Type 0 = λ r. IsStarted r.next in subst P (sym new) tt
  move_starts p q t (plus_name w at is new) = let P : Progress → Type 0 = λ r. IsStarted r.next in subst P (sym new) tt

  -- ---- the end

  -- a whole specification, and what it says
  pub record IsEnded (tokens : List Token) (ts : SpecTerms) : Type 0 where
    pub out : List ℕ
    pub xs : List (List Factor)
    pub is_spec : IsSpec tokens out xs
    pub said : ts ≡ terms_of l mul xs

  full_ended : (tokens : List Token) (ts : SpecTerms) (c : ℕ) (ps : List (ℕ × ℕ)) → IsFull tokens ts c ps → IsEnded tokens (closed ts c ps)
  full_ended tokens ts c ps is =
      let P : List Token → Type 0 = λ us. IsFactor us is.last in
      let Q : List Token → Type 0 = λ us. IsSpec us is.out (is.xs ++ (is.fs ++ is.last ∷ []) ∷ []) in
      record {
        out = is.out;
        xs = is.xs ++ (is.fs ++ is.last ∷ []) ∷ [];
        is_spec = subst Q (append-nil tokens) (prefix_spec tokens is.out is.xs is.fs is.part is.prefix [] is.last (subst P (sym (append-nil is.part)) is.is_factor));
        said = closed_is is.xs (is.fs ++ is.last ∷ []) ts c ps is.out is.said;
      }

  pub number_ended : (tokens : List Token) (p : Progress) → Says AfterNumber tokens p → IsEnded tokens (closed p.terms p.coefficient p.powers)
  unfolding Says
  number_ended tokens p says = full_ended tokens p.terms p.coefficient p.powers says

  pub name_ended : (tokens : List Token) (w : ℕ) (p : Progress) → Says (AfterName w) tokens p → IsEnded tokens (closed p.terms p.coefficient (p.powers ++ (w, 1) ∷ []))
  unfolding Says
  name_ended tokens w p says = full_ended tokens p.terms p.coefficient (p.powers ++ (w, 1) ∷ []) (name_full tokens w p says)
