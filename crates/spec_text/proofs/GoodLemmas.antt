-- A token that was taken has no fault, and what may come of a text is what its tokens are read as.
use Rattle.std.proofs.Common.{◌≡◌, ◌∙◌, ap, sym, refl, subst, inl, inr, ◌⊎◌, ℕ, ◌^◌, Bool, true, false, cond, List, [], ◌∷◌, ◌++◌, nat_lt, nat_le, Some, Ok, Err, append_assoc, append-nil}
use Rattle.gf_field.specs.Ring.{IsRing}
use Rattle.poly_mixed.specs.Labels.{Labelling}
use Rattle.spec_text.specs.Token.{Token, decimal}
use Rattle.spec_text.specs.Tokens.{Stop, ended, stuck, AreTokens, plain}
use Rattle.spec_text.specs.Grammar.{Factor, IsBeginning, IsSpec}
use Rattle.spec_expand.specs.Specification.{SpecTerms}
use Rattle.spec_text.specs.Fault.{is_some, is_power, ends_in_power, is_known, is_in_range, is_named, HasNoFault, AreGood, IsFaulty, IsCutOff, IsRead, MayCome, SpecOutcome}
use Rattle.spec_text.specs.declared.fault.SpecFault.{SpecFault}
use Rattle.spec_text.specs.declared.fault.SpecFault.TheVariants.{Syntax}
use Rattle.spec_text.specs.declared.reader.Next.{Next}
use Rattle.spec_text.specs.declared.reader.Next.TheVariants.{Output, Assign, Factor as AtFactor, AfterNumber, AfterName, Exponent}
use Rattle.spec_text.specs.private.Progress.{Progress, Read, closed, token_read, end_read}
use Rattle.spec_text.proofs.ReadTokens.{start, tokens_read, stop_read}
use Rattle.spec_text.proofs.MoveLemmas.{Shape, Move, reads_output, reads_sign, reads_word, reads_element, reads_bit, reads_power, reads_exponent, times_number, times_name, plus_number, plus_name, Refused, unfit, unknown, large, wrong, shape, go, known_at, fits_at, at_left, at_sign, at_factor, at_number, at_name, at_power, moves, refused, move_goes}
use Rattle.text_core.proofs.WalkLemmas.{walk}
use Rattle.spec_text.proofs.WalkLemmas.{IsAfter, no_beginning, walk_more, no_spec}
use Rattle.spec_text.proofs.SaidLemmas.{Says, IsEnded, says_start, says_more, begins, move_starts, number_ended, name_ended, name_goes, hex_goes, decimal_goes}
use Rattle.spec_text.proofs.OneOutcomeLemmas.{Placed, plain_both}

abbrev is_raised : Shape → Bool
is_raised at_power = true
is_raised at_left = false
is_raised at_sign = false
is_raised at_factor = false
is_raised at_number = false
is_raised at_name = false

ends_more : (ts : List Token) (t : Token) → ends_in_power (ts ++ t ∷ []) ≡ is_power t
ends_more [] t = refl
ends_more (x ∷ []) t = refl
ends_more (x ∷ y ∷ ts) t = ends_more (y ∷ ts) t

module _ (l : Labelling) (k : ℕ) (mul : ℕ → ℕ → ℕ) (ring : IsRing k mul) where
  move_power : (p q : Progress) (t : Token) → Move l k mul p t q → is_power t ≡ is_raised (shape q.next)
  move_power p q t (reads_output n at is ok new) = ap is_power is ∙ ap (λ r. is_raised (shape r.next)) (sym new)
  move_power p q t (reads_sign at is new) = ap is_power is ∙ ap (λ r. is_raised (shape r.next)) (sym new)
  move_power p q t (reads_word n w at is ok new) = ap is_power is ∙ ap (λ r. is_raised (shape r.next)) (sym new)
  move_power p q t (reads_element n at is ok new) = ap is_power is ∙ ap (λ r. is_raised (shape r.next)) (sym new)
  move_power p q t (reads_bit n at is ok new) = ap is_power is ∙ ap (λ r. is_raised (shape r.next)) (sym new)
  move_power p q t (reads_power w at is new) = ap is_power is ∙ ap (λ r. is_raised (shape r.next)) (sym new)
  move_power p q t (reads_exponent w n at is ok new) = ap is_power is ∙ ap (λ r. is_raised (shape r.next)) (sym new)
  move_power p q t (times_number at is new) = ap is_power is ∙ ap (λ r. is_raised (shape r.next)) (sym new)
  move_power p q t (times_name w at is new) = ap is_power is ∙ ap (λ r. is_raised (shape r.next)) (sym new)
  move_power p q t (plus_number at is new) = ap is_power is ∙ ap (λ r. is_raised (shape r.next)) (sym new)
  move_power p q t (plus_name w at is new) = ap is_power is ∙ ap (λ r. is_raised (shape r.next)) (sym new)

  known_is : (next : Next) (ts : List Token) (p : Progress) (n : List ℕ) → Says l k mul ring next ts p → is_known l ts n ≡ known_at l k mul (shape next) n
  unfolding Says
  known_is Output ts p n says = ap (λ us. is_known l us n) says.0
  known_is Assign ts p n says = ap (λ us. is_known l us n) says.1
  known_is AtFactor ts p n says = ap (λ us. is_known l us n) says.prefix.is
  known_is AfterNumber ts p n says = ap (λ us. is_known l us n) says.prefix.is
  known_is (AfterName w) ts p n says = ap (λ us. is_known l us n) says.prefix.is
  known_is (Exponent w) ts p n says = ap (λ us. is_known l us n) says.prefix.is

  fits_is : (s : Shape) (n : ℕ) → cond (is_raised s) (nat_lt n (2 ^ 64)) (nat_le n 1) ≡ fits_at l k mul s n
  fits_is at_left n = refl
  fits_is at_sign n = refl
  fits_is at_factor n = refl
  fits_is at_number n = refl
  fits_is at_name n = refl
  fits_is at_power n = refl

  -- what is known after tokens that were taken
  record IsTaken (ts : List Token) (p : Progress) : Type 0 where
    pub says : Says l k mul ring p.next ts p
    pub ends : ends_in_power ts ≡ is_raised (shape p.next)
    pub walked : walk go at_left ts ≡ Some (shape p.next)
    pub good : AreGood l k ts

  name_known : (ts : List Token) (p : Progress) (n : List ℕ) (s : Shape) → IsTaken ts p → shape p.next ≡ s → is_known l ts n ≡ known_at l k mul s n
  name_known ts p n s is at = known_is p.next ts p n is.says ∙ ap (λ u. known_at l k mul u n) at

  number_fits : (ts : List Token) (p : Progress) (n : ℕ) (s : Shape) → IsTaken ts p → shape p.next ≡ s → is_in_range k ts (decimal n) ≡ fits_at l k mul s n
  number_fits ts p n s is at = ap (λ b. cond b (nat_lt n (2 ^ 64)) (nat_le n 1)) (is.ends ∙ ap is_raised at) ∙ fits_is s n

  move_known : (ts : List Token) (p q : Progress) (t : Token) → IsTaken ts p → Move l k mul p t q → is_named l ts t ≡ true
  move_known ts p q t is (reads_output n at same ok new) = ap (is_named l ts) same ∙ name_known ts p n at_left is (ap shape at) ∙ ok
  move_known ts p q t is (reads_sign at same new) = ap (is_named l ts) same
  move_known ts p q t is (reads_word n w at same ok new) = ap (is_named l ts) same ∙ name_known ts p n at_factor is (ap shape at) ∙ ap is_some ok
  move_known ts p q t is (reads_element n at same ok new) = ap (is_named l ts) same
  move_known ts p q t is (reads_bit n at same ok new) = ap (is_named l ts) same
  move_known ts p q t is (reads_power w at same new) = ap (is_named l ts) same
  move_known ts p q t is (reads_exponent w n at same ok new) = ap (is_named l ts) same
  move_known ts p q t is (times_number at same new) = ap (is_named l ts) same
  move_known ts p q t is (times_name w at same new) = ap (is_named l ts) same
  move_known ts p q t is (plus_number at same new) = ap (is_named l ts) same
  move_known ts p q t is (plus_name w at same new) = ap (is_named l ts) same

  move_range : (ts : List Token) (p q : Progress) (t : Token) → IsTaken ts p → Move l k mul p t q → is_in_range k ts t ≡ true
  move_range ts p q t is (reads_output n at same ok new) = ap (is_in_range k ts) same
  move_range ts p q t is (reads_sign at same new) = ap (is_in_range k ts) same
  move_range ts p q t is (reads_word n w at same ok new) = ap (is_in_range k ts) same
  move_range ts p q t is (reads_element n at same ok new) = ap (is_in_range k ts) same ∙ ok
  move_range ts p q t is (reads_bit n at same ok new) = ap (is_in_range k ts) same ∙ number_fits ts p n at_factor is (ap shape at) ∙ ok
  move_range ts p q t is (reads_power w at same new) = ap (is_in_range k ts) same
  move_range ts p q t is (reads_exponent w n at same ok new) = ap (is_in_range k ts) same ∙ number_fits ts p n at_power is (ap shape at) ∙ ok
  move_range ts p q t is (times_number at same new) = ap (is_in_range k ts) same
  move_range ts p q t is (times_name w at same new) = ap (is_in_range k ts) same
  move_range ts p q t is (plus_number at same new) = ap (is_in_range k ts) same
  move_range ts p q t is (plus_name w at same new) = ap (is_in_range k ts) same

  no_fault : (ts : List Token) (p q : Progress) (t : Token) → IsTaken ts p → Move l k mul p t q → HasNoFault l k ts t
  no_fault ts p q t is move = record {
    fits = begins l k mul ring q.next (ts ++ t ∷ []) q (move_starts l k mul ring p q t move) (says_more l k mul ring ts p q t is.says move);
    known = move_known ts p q t is move;
    in_range = move_range ts p q t is move;
  }

  -- the last token of a list, or one before it
  at_last : (ts before after : List Token) (t u : Token) → ts ++ t ∷ [] ≡ before ++ u ∷ after → ((ts ≡ before) × (t ≡ u)) ⊎ ((rest : List Token) × (ts ≡ before ++ u ∷ rest))
  at_last [] [] after t u e = let heads : t ≡ u = cc in inl (refl, heads)
  at_last [] (b ∷ []) after t u e = let tails : [] ≡ u ∷ after = cc in absurd (cc)
  at_last [] (b ∷ c ∷ before) after t u e = let tails : [] ≡ c ∷ (before ++ u ∷ after) = cc in absurd (cc)
  at_last (x ∷ ts) [] after t u e = let heads : x ≡ u = cc in inr (ts, (λ i. heads i ∷ ts))
  at_last (x ∷ ts) (b ∷ before) after t u e =
      let heads : x ≡ b = cc in
      let tails : ts ++ t ∷ [] ≡ before ++ u ∷ after = cc in
      elim (at_last ts before after t u tails) [
        | inl same ↦ inl ((λ i. heads i ∷ same.0 i), same.1)
        | inr rest ↦ inr (rest.0, (λ i. heads i ∷ rest.1 i))
      ]

  good_more : (ts : List Token) (t : Token) → AreGood l k ts → HasNoFault l k ts t → AreGood l k (ts ++ t ∷ [])
  good_more ts t good fine before u after e =
      elim (at_last ts before after t u e) [
        | inl same ↦ (let P : List Token → Type 0 = λ us. HasNoFault l k us u in let Q : Token → Type 0 = λ x. HasNoFault l k ts x in subst P same.0 (subst Q same.1 fine))
        | inr rest ↦ good before u rest.0 rest.1
      ]

  taken_more : (ts : List Token) (p q : Progress) (t : Token) → IsTaken ts p → Move l k mul p t q → IsTaken (ts ++ t ∷ []) q
  taken_more ts p q t is move = record {
    says = says_more l k mul ring ts p q t is.says move;
    ends = ends_more ts t ∙ move_power p q t move;
    walked = walk_more ts t (shape p.next) (shape q.next) is.walked (move_goes l k mul p q t move);
    good = good_more ts t is.good (no_fault ts p q t is move);
  }

  none_good : AreGood l k []
  none_good [] u after e = absurd (cc)
  none_good (b ∷ before) u after e = absurd (cc)

  taken_start : IsTaken [] start
  taken_start = record { says = says_start l k mul ring; ends = refl; walked = refl; good = none_good }

  module _ (tokens : Placed) (stop : Stop) where
    -- ---- the end of the tokens

    module _ (front : Placed) (p : Progress) (at : ℕ) (whole : tokens ≡ front) (is : IsTaken (plain front) p) (stops : stop ≡ ended at) where
      all_good : AreGood l k (plain tokens)
      all_good = let P : Placed → Type 0 = λ ts. AreGood l k (plain ts) in subst P (sym whole) is.good

      read_all : (ts : SpecTerms) → IsEnded l k mul ring (plain front) ts → IsRead l k mul tokens stop ts
      read_all ts end =
          let P : Placed → Type 0 = λ us. IsSpec (plain us) end.out end.xs in
          record { place = at; whole = stops; good = all_good; out = end.out; terms = end.xs; is_spec = subst P (sym whole) end.is_spec; said_is = end.said }

      cut : (n : Next) → p.next ≡ n → (IsAfter (shape n) → ⊥) → MayCome l k mul tokens stop (Err (Syntax at))
      cut n e never =
          let P : Stop → Type 0 = λ s. IsCutOff l k tokens s at in
          let Q : Placed → Type 0 = λ us. (out : List ℕ) (terms : List (List Factor)) → IsSpec (plain us) out terms → ⊥ in
          let R : Next → Type 0 = λ m. IsAfter (shape m) in
          inr (subst P (sym stops) (refl, all_good, subst Q (sym whole) (no_spec (plain front) (shape p.next) is.walked (λ after. never (subst R e after)))))

      says_at : (n : Next) → p.next ≡ n → Says l k mul ring n (plain front) p
      says_at n e = let P : Next → Type 0 = λ m. Says l k mul ring m (plain front) p in subst P e is.says

      ended_may : (n : Next) → p.next ≡ n → MayCome l k mul tokens stop (end_read n p at)
      unfolding IsAfter
      ended_may Output e = cut Output e (λ x. x)
      ended_may Assign e = cut Assign e (λ x. x)
      ended_may AtFactor e = cut AtFactor e (λ x. x)
      ended_may AfterNumber e = read_all (closed p.terms p.coefficient p.powers) (number_ended l k mul ring (plain front) p (says_at AfterNumber e))
      ended_may (AfterName w) e = read_all (closed p.terms p.coefficient (p.powers ++ (w, 1) ∷ [])) (name_ended l k mul ring (plain front) w p (says_at (AfterName w) e))
      ended_may (Exponent w) e = cut (Exponent w) e (λ x. x)

    stop_may : (front : Placed) (p : Progress) (s : Stop) → tokens ≡ front → IsTaken (plain front) p → stop ≡ s → MayCome l k mul tokens stop (stop_read p s)
    stop_may front p (ended at) whole is e = ended_may front p at whole is e p.next refl
    stop_may front p (stuck at) whole is e =
        let P : Stop → Type 0 = λ s. IsCutOff l k tokens s at in
        let Q : Placed → Type 0 = λ ts. AreGood l k (plain ts) in
        inr (subst P (sym e) (refl, subst Q (sym whole) is.good))

    -- ---- a token with a fault

    faulty : (front after : Placed) (p : Progress) (t : Token) (place : ℕ) → tokens ≡ front ++ (t, place) ∷ after → IsTaken (plain front) p → IsFaulty l k tokens place (plain front) t
    faulty front after p t place e is = record { front = front; after = after; at = e; before_is = refl; good = is.good }

    fault_may : (front after : Placed) (p : Progress) (t : Token) (place : ℕ) (f : SpecFault) → tokens ≡ front ++ (t, place) ∷ after → IsTaken (plain front) p → Refused l k mul (shape p.next) t place f → MayCome l k mul tokens stop (Err f)
    fault_may front after p t place f e is (unfit bad said) =
        let P : SpecFault → Type 0 = λ g. MayCome l k mul tokens stop (Err g) in
        subst P (sym said) (inl (plain front, t, faulty front after p t place e is, no_beginning (plain front) t (shape p.next) is.walked bad))
    fault_may front after p t place f e is (unknown u n goes same bad said) =
        let P : SpecFault → Type 0 = λ g. MayCome l k mul tokens stop (Err g) in
        subst P (sym said) (plain front, t, faulty front after p t place e is, (let Q : Token → Type 0 = λ x. IsBeginning (plain front ++ x ∷ []) in let G : Token → Type 0 = λ x. go (shape p.next) x ≡ Some u in subst Q (sym same) (name_goes l k mul ring p.next (plain front) p n u is.says (subst G same goes))), ap (is_named l (plain front)) same ∙ name_known (plain front) p n (shape p.next) is refl ∙ bad)
    fault_may front after p t place f e is (large u n goes same bad said) =
        let P : SpecFault → Type 0 = λ g. MayCome l k mul tokens stop (Err g) in
        subst P (sym said) (plain front, t, faulty front after p t place e is, (let Q : Token → Type 0 = λ x. IsBeginning (plain front ++ x ∷ []) in let G : Token → Type 0 = λ x. go (shape p.next) x ≡ Some u in subst Q (sym same) (hex_goes l k mul ring p.next (plain front) p n u is.says (subst G same goes))), ap (is_in_range k (plain front)) same ∙ bad)
    fault_may front after p t place f e is (wrong u n goes same bad said) =
        let P : SpecFault → Type 0 = λ g. MayCome l k mul tokens stop (Err g) in
        subst P (sym said) (plain front, t, faulty front after p t place e is, (let Q : Token → Type 0 = λ x. IsBeginning (plain front ++ x ∷ []) in let G : Token → Type 0 = λ x. go (shape p.next) x ≡ Some u in subst Q (sym same) (decimal_goes l k mul ring p.next (plain front) p n u is.says (subst G same goes))), ap (is_in_range k (plain front)) same ∙ number_fits (plain front) p n (shape p.next) is refl ∙ bad)

    -- ---- all tokens

    longer : (front : Placed) (p q : Progress) (t : Token × ℕ) → IsTaken (plain front) p → Move l k mul p t.0 q → IsTaken (plain (front ++ t ∷ [])) q
    longer front p q t is move = let P : List Token → Type 0 = λ us. IsTaken us q in subst P (sym (plain_both front (t ∷ []))) (taken_more (plain front) p q t.0 is move)

    one_may : (front ts : Placed) (p : Progress) (t : Token × ℕ) → tokens ≡ front ++ t ∷ ts → IsTaken (plain front) p → ((q : Progress) → IsTaken (plain (front ++ t ∷ [])) q → MayCome l k mul tokens stop (tokens_read l k mul (Ok q) ts stop)) → (read : Read) → token_read l k mul p t.0 t.1 ≡ read → MayCome l k mul tokens stop (tokens_read l k mul read ts stop)
    one_may front ts p t e is rest (Err f) said = fault_may front ts p t.0 t.1 f e is (refused l k mul p t.0 t.1 f said)
    one_may front ts p t e is rest (Ok q) said = rest q (longer front p q t is (moves l k mul p q t.0 t.1 said))

    tokens_may : (ts front : Placed) (p : Progress) → tokens ≡ front ++ ts → IsTaken (plain front) p → MayCome l k mul tokens stop (tokens_read l k mul (Ok p) ts stop)
    tokens_may [] front p e is = stop_may front p stop (e ∙ append-nil front) is refl
    tokens_may (t ∷ ts) front p e is =
        one_may front ts p t e is (λ q taken. tokens_may ts (front ++ t ∷ []) q (e ∙ sym (append_assoc front (t ∷ []) ts)) taken) (token_read l k mul p t.0 t.1) refl

  -- a text is read as its tokens are
  pub text_may : (bytes : List ℕ) (ts : Placed) (stop : Stop) → AreTokens 0 bytes ts stop → SpecOutcome l k mul bytes (tokens_read l k mul (Ok start) ts stop)
  text_may bytes ts stop are = (ts, stop, are, tokens_may ts stop ts [] start refl taken_start)
