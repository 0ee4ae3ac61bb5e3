-- What a reader keeps, from place to place of a text.
use Rattle.std.proofs.Common.{◌≡◌, ◌∙◌, ap, sym, refl, subst, ℕ, suc, ◌+◌, ◌<◌, ◌≤◌, ◌^◌, List, [], ◌∷◌, ◌++◌, length, take, drop, Option, Some, None, Result, Ok, Err, arith, length-drop}
use Rattle.std.specs.List.{AllByRecursion}
use Rattle.std.specs.Option.{option_map}
use Rattle.std.proofs.Math.ListN.{drop_of_length-le}
use Rattle.lists.specs.laws.ListLaws.{length-push}
use Rattle.lists.specs.laws.NumberLaws.{self_zero_plus}
use Rattle.lists.specs.laws.OptionLaws.{same_some}
use Rattle.lists.specs.laws.TestLaws.{below_if_less}
use Rattle.gf_field.specs.Ring.{IsRing}
use Rattle.gf_field.specs.laws.PowerLaws.{one_below}
use Rattle.poly_mixed.specs.Labels.{Labelling}
use Rattle.text_core.specs.Scan.{run, is_white}
use Rattle.poly_mixed.proofs.TextLemmas.{all_more}
use Rattle.poly_mixed.proofs.TrackLemmas.{word_small}
use Rattle.spec_text.specs.Token.{Token, AreWhite, IsFront, HasNoFront}
use Rattle.spec_text.specs.Tokens.{Stop, ended, stuck, AreTokens}
use Rattle.spec_expand.specs.Specification.{SpecTerms, IsTermOver, IsOverWords}
use Rattle.spec_text.specs.Fault.{SpecOutcome}
use Rattle.spec_text.specs.declared.fault.SpecFault.{SpecFault}
use Rattle.spec_text.specs.declared.fault.SpecFault.TheVariants.{Syntax, UnknownWord, BadNumber, OutOfMemory}
use Rattle.spec_text.specs.declared.reader.Next.{Next}
use Rattle.spec_text.specs.declared.reader.Next.TheVariants.{Output, Assign, Factor, AfterNumber, AfterName, Exponent}
use Rattle.spec_text.specs.declared.scan.Scanned.{Scanned}
use Rattle.spec_text.specs.private.Scanning.{front_of, IsSeen, IsSeenAs, IsSeenAt}
use Rattle.spec_text.specs.private.Progress.{Progress, Read, progress, closed, token_read, end_read, IsSaid}
use Rattle.spec_text.proofs.ReadTokens.{start, tokens_read, IsShort}
use Rattle.spec_text.proofs.MoveLemmas.{Move, reads_output, reads_sign, reads_word, reads_element, reads_bit, reads_power, reads_exponent, times_number, times_name, plus_number, plus_name, moves}
use Rattle.spec_text.proofs.GoodLemmas.{text_may}
use Rattle.spec_text.proofs.FrontLemmas.{front_some, front_none}
use Rattle.text_core.proofs.RunLemmas.{run_within}
use Rattle.spec_text.proofs.SomeTokenLemmas.{white_run, white_ends, after_white, with_front, front_length, some_tokens, join_taken, dropped, no_white}

later_word : (m w : ℕ) (found : Option ℕ) → ((i : ℕ) → found ≡ Some i → i < m) → option_map (λ i. i + 1) found ≡ Some w → w < suc m
later_word m w None below q = absurd (cc)
later_word m w (Some i) below q = omega (arith, same_some (i + 1) w q, below i refl)

module _ (l : Labelling) (k : ℕ) (mul : ℕ → ℕ → ℕ) (ring : IsRing k mul) where
  -- ---- what was read is over the field and its words exist

  abbrev pub IsPower : ℕ × ℕ → Type 0
  IsPower p = (p.0 < length l.words) × (p.1 < 2 ^ 64)

  unfoldable pub HasWord : Next → Type 0
  HasWord (AfterName w) = w < length l.words
  HasWord (Exponent w) = w < length l.words
  HasWord n = Unit {0}

  pub record IsOver (p : Progress) : Type 0 where
    pub terms : IsOverWords k (length l.words) p.terms
    pub element : p.coefficient < 2 ^ k
    pub powers : AllByRecursion IsPower p.powers
    pub word : HasWord p.next

  over_start : IsOver start
  unfolding HasWord
  over_start = record { terms = tt; element = one_below k mul ring; powers = tt; word = tt }

  at_word : (p : Progress) (n : Next) → p.next ≡ n → IsOver p → HasWord n
  at_word p n at over = let P : Next → Type 0 = HasWord in subst P at over.word

  one_more : (ps : List (ℕ × ℕ)) (w e : ℕ) → AllByRecursion IsPower ps → w < length l.words → e < 2 ^ 64 → AllByRecursion IsPower (ps ++ (w, e) ∷ [])
  one_more ps w e all low small = all_more IsPower ps (w, e) all (low, small)

  closed_over : (ts : SpecTerms) (c : ℕ) (ps : List (ℕ × ℕ)) → IsOverWords k (length l.words) ts → c < 2 ^ k → AllByRecursion IsPower ps → IsOverWords k (length l.words) (closed ts c ps)
  closed_over ts c ps terms element powers = all_more (IsTermOver k (length l.words)) ts (c, ps) terms (record { element = element; powers = powers })

  small_one : 1 < 2 ^ 64
  small_one = omega arith

  over_more : (p q : Progress) (t : Token) → IsOver p → Move l k mul p t q → IsOver q
  unfolding HasWord
  over_more p q t over (reads_output n at is ok new) = let P : Progress → Type 0 = IsOver in subst P (sym new) (record { terms = over.terms; element = over.element; powers = over.powers; word = tt })
  over_more p q t over (reads_sign at is new) = let P : Progress → Type 0 = IsOver in subst P (sym new) (record { terms = over.terms; element = over.element; powers = over.powers; word = tt })
  over_more p q t over (reads_word n w at is ok new) = let P : Progress → Type 0 = IsOver in subst P (sym new) (record { terms = over.terms; element = over.element; powers = over.powers; word = word_small l.words n w ok })
  over_more p q t over (reads_element n at is ok new) = let P : Progress → Type 0 = IsOver in subst P (sym new) (record { terms = over.terms; element = ring.closed p.coefficient n; powers = over.powers; word = tt })
  over_more p q t over (reads_bit n at is ok new) = let P : Progress → Type 0 = IsOver in subst P (sym new) (record { terms = over.terms; element = ring.closed p.coefficient n; powers = over.powers; word = tt })
  over_more p q t over (reads_power w at is new) = let P : Progress → Type 0 = IsOver in subst P (sym new) (record { terms = over.terms; element = over.element; powers = over.powers; word = at_word p (AfterName w) at over })
  over_more p q t over (reads_exponent w n at is ok new) = let P : Progress → Type 0 = IsOver in subst P (sym new) (record { terms = over.terms; element = over.element; powers = one_more p.powers w n over.powers (at_word p (Exponent w) at over) (below_if_less n (2 ^ 64) ok); word = tt })
  over_more p q t over (times_number at is new) = let P : Progress → Type 0 = IsOver in subst P (sym new) (record { terms = over.terms; element = over.element; powers = over.powers; word = tt })
  over_more p q t over (times_name w at is new) = let P : Progress → Type 0 = IsOver in subst P (sym new) (record { terms = over.terms; element = over.element; powers = one_more p.powers w 1 over.powers (at_word p (AfterName w) at over) small_one; word = tt })
  over_more p q t over (plus_number at is new) = let P : Progress → Type 0 = IsOver in subst P (sym new) (record { terms = closed_over p.terms p.coefficient p.powers over.terms over.element over.powers; element = one_below k mul ring; powers = tt; word = tt })
  over_more p q t over (plus_name w at is new) = let P : Progress → Type 0 = IsOver in subst P (sym new) (record { terms = closed_over p.terms p.coefficient (p.powers ++ (w, 1) ∷ []) over.terms over.element (one_more p.powers w 1 over.powers (at_word p (AfterName w) at over) small_one); element = one_below k mul ring; powers = tt; word = tt })

  -- ---- powers and terms are fewer than bytes

  abbrev pub IsSmall : ℕ → Progress → Type 0
  IsSmall at p = IsShort p.next at (length p.powers) × (length p.terms ≤ at)

  at_short : (p : Progress) (n : Next) (at : ℕ) → p.next ≡ n → IsSmall at p → IsShort n at (length p.powers)
  at_short p n at here small = let P : Next → Type 0 = λ m. IsShort m at (length p.powers) in subst P here small.0

  small_more : (p q : Progress) (t : Token) (at up : ℕ) → at < up → IsSmall at p → Move l k mul p t q → IsSmall up q
  small_more p q t at up less small (reads_output n here is ok new) =
      let P : Progress → Type 0 = IsSmall up in
      let short : length p.powers ≡ 0 = at_short p Output at here small in
      subst P (sym new) ((short, omega (arith, less)), omega (arith, small.1, less))
  small_more p q t at up less small (reads_sign here is new) =
      let P : Progress → Type 0 = IsSmall up in
      let short : (length p.powers ≡ 0) × (1 ≤ at) = at_short p Assign at here small in
      subst P (sym new) (omega (arith, short.0, short.1, less), omega (arith, small.1, less))
  small_more p q t at up less small (reads_word n w here is ok new) =
      let P : Progress → Type 0 = IsSmall up in
      let short : length p.powers + 2 ≤ at = at_short p Factor at here small in
      subst P (sym new) (omega (arith, short, less), omega (arith, small.1, less))
  small_more p q t at up less small (reads_element n here is ok new) =
      let P : Progress → Type 0 = IsSmall up in
      let short : length p.powers + 2 ≤ at = at_short p Factor at here small in
      subst P (sym new) (omega (arith, short, less), omega (arith, small.1, less))
  small_more p q t at up less small (reads_bit n here is ok new) =
      let P : Progress → Type 0 = IsSmall up in
      let short : length p.powers + 2 ≤ at = at_short p Factor at here small in
      subst P (sym new) (omega (arith, short, less), omega (arith, small.1, less))
  small_more p q t at up less small (reads_power w here is new) =
      let P : Progress → Type 0 = IsSmall up in
      let short : length p.powers + 2 ≤ at = at_short p (AfterName w) at here small in
      subst P (sym new) (omega (arith, short, less), omega (arith, small.1, less))
  small_more p q t at up less small (reads_exponent w n here is ok new) =
      let P : Progress → Type 0 = IsSmall up in
      let short : length p.powers + 2 ≤ at = at_short p (Exponent w) at here small in
      subst P (sym new) (omega (arith, short, less, length-push p.powers (w, n)), omega (arith, small.1, less))
  small_more p q t at up less small (times_number here is new) =
      let P : Progress → Type 0 = IsSmall up in
      let short : length p.powers + 2 ≤ at = at_short p AfterNumber at here small in
      subst P (sym new) (omega (arith, short, less), omega (arith, small.1, less))
  small_more p q t at up less small (times_name w here is new) =
      let P : Progress → Type 0 = IsSmall up in
      let short : length p.powers + 2 ≤ at = at_short p (AfterName w) at here small in
      subst P (sym new) (omega (arith, short, less, length-push p.powers (w, 1)), omega (arith, small.1, less))
  small_more p q t at up less small (plus_number here is new) =
      let P : Progress → Type 0 = IsSmall up in
      let short : length p.powers + 2 ≤ at = at_short p AfterNumber at here small in
      subst P (sym new) (omega (arith, short, less), omega (arith, small.1, less, length-push p.terms (p.coefficient, p.powers)))
  small_more p q t at up less small (plus_name w here is new) =
      let P : Progress → Type 0 = IsSmall up in
      let short : length p.powers + 2 ≤ at = at_short p (AfterName w) at here small in
      subst P (sym new) (omega (arith, short, less), omega (arith, small.1, less, length-push p.terms (p.coefficient, p.powers ++ (w, 1) ∷ [])))

  short_few : (n : Next) (at m : ℕ) → IsShort n at m → at ≤ 67108864 → m + 1 < 2 ^ 26
  short_few Output at m short low = omega (arith, short)
  short_few Assign at m short low = omega (arith, short.0)
  short_few Factor at m short low = omega (arith, short, low)
  short_few AfterNumber at m short low = omega (arith, short, low)
  short_few (AfterName w) at m short low = omega (arith, short, low)
  short_few (Exponent w) at m short low = omega (arith, short, low)

  -- ---- a place of the text

  module _ (bytes : List ℕ) where
    pub record IsReading (at : ℕ) (p : Progress) : Type 0 where
      pub within : at ≤ length bytes
      pub small : IsSmall at p
      pub over : IsOver p
      pub black : at < length bytes → AreWhite (take 1 (drop at bytes)) → ⊥
      pub said : (ts : List (Token × ℕ)) (stop : Stop) → AreTokens at (drop at bytes) ts stop → SpecOutcome l k mul bytes (tokens_read l k mul (Ok p) ts stop)

    black_after : (from : ℕ) → length (run is_white (drop from bytes)) < length (drop from bytes) → AreWhite (take 1 (drop (from + length (run is_white (drop from bytes))) bytes)) → ⊥
    black_after from less white =
        let w : ℕ = length (run is_white (drop from bytes)) in
        let P : List ℕ → Type 0 = λ bs. AreWhite (take 1 bs) in
        white_ends (drop from bytes) less (join_taken w 1 (drop from bytes) (white_run (drop from bytes)) (subst P (sym (dropped from w bytes)) white))

    pub reading_start : (w : ℕ) → w ≡ length (run is_white bytes) → IsReading w start
    reading_start w e =
        let P : ℕ → Type 0 = λ n. IsReading n start in
        subst P (sym e) (record {
          within = run_within is_white bytes;
          small = (refl, omega arith);
          over = over_start;
          black = λ less white. (let Q : ℕ → Type 0 = λ i. AreWhite (take 1 (drop i bytes)) in black_after 0 less (subst Q (self_zero_plus (length (run is_white bytes))) white));
          said = λ ts stop are. (let Q : ℕ → Type 0 = λ i. AreTokens i (drop (length (run is_white bytes)) bytes) ts stop in
              text_may l k mul ring bytes ts stop (after_white 0 (length (run is_white bytes)) bytes ts stop (run_within is_white bytes) (white_run bytes) (subst Q (self_zero_plus (length (run is_white bytes))) are)));
        })

    pub reading_few : (at : ℕ) (p : Progress) → IsReading at p → length bytes ≤ 67108864 → length p.powers + 1 < 2 ^ 26
    reading_few at p is low = short_few p.next at (length p.powers) is.small.0 (omega (arith, is.within, low))

    module _ (at n : ℕ) (p : Progress) (t : Token) (is : IsReading at p) (front : IsFront (drop at bytes) t n) where
      -- the tokens from the place on
      tokens_on : (w : ℕ) → w ≡ length (run is_white (drop (at + n) bytes)) → (ts : List (Token × ℕ)) (stop : Stop) → AreTokens (at + n + w) (drop (at + n + w) bytes) ts stop → AreTokens at (drop at bytes) ((t, at) ∷ ts) stop
      tokens_on w e ts stop are =
          let rest : List ℕ = drop (at + n) bytes in
          let P : List ℕ → Type 0 = λ bs. AreTokens (at + n + w) bs ts stop in
          let Q : ℕ → Type 0 = λ i. AreWhite (take i rest) in
          let low : w ≤ length rest = omega (arith, e, run_within is_white rest) in
          let after : AreTokens (at + n) rest ts stop = after_white (at + n) w rest ts stop low (subst Q (sym e) (white_run rest)) (subst P (sym (dropped (at + n) w bytes)) are) in
          let R : List ℕ → Type 0 = λ bs. AreTokens (at + n) bs ts stop in
          with_front at n (drop at bytes) t ts stop front (subst R (sym (dropped at n bytes)) after)

      pub reading_step : (q : Progress) (w : ℕ) → token_read l k mul p t at ≡ Ok q → w ≡ length (run is_white (drop (at + n) bytes)) → IsReading (at + n + w) q
      reading_step q w said e =
          let some : 1 ≤ n = front_length (drop at bytes) t n front in
          let move = moves l k mul p q t at said in
          let low : n ≤ length (drop at bytes) = front.within in
          let P : Read → (List (Token × ℕ)) → Stop → Type 0 = λ r ts stop. SpecOutcome l k mul bytes (tokens_read l k mul r ts stop) in
          record {
            within = omega (arith, low, is.within, length-drop at bytes, e, run_within is_white (drop (at + n) bytes), length-drop (at + n) bytes);
            small = small_more p q t at (at + n + w) (omega (arith, some)) is.small move;
            over = over_more p q t is.over move;
            black = λ less white. black_after (at + n) (omega (arith, less, e, length-drop (at + n) bytes)) (let Q : ℕ → Type 0 = λ i. AreWhite (take 1 (drop (at + n + i) bytes)) in subst Q e white);
            said = λ ts stop are. (let R : Read → Type 0 = λ r. P r ts stop in subst R said (is.said ((t, at) ∷ ts) stop (tokens_on w e ts stop are)));
          }

      fault_said : (f : SpecFault) → token_read l k mul p t at ≡ Err f → SpecOutcome l k mul bytes (Err f)
      fault_said f said =
          let w : ℕ = length (run is_white (drop (at + n) bytes)) in
          let rest = some_tokens (at + n + w) (drop (at + n + w) bytes) in
          let R : Read → Type 0 = λ r. SpecOutcome l k mul bytes (tokens_read l k mul r rest.tokens rest.stop) in
          subst R said (is.said ((t, at) ∷ rest.tokens) rest.stop (tokens_on w refl rest.tokens rest.stop rest.are))

      pub reading_fault : (f : SpecFault) → IsSaid (token_read l k mul p t at) f → SpecOutcome l k mul bytes (Err f)
      reading_fault (Syntax place) said = fault_said (Syntax place) said
      reading_fault (UnknownWord place) said = fault_said (UnknownWord place) said
      reading_fault (BadNumber place) said = fault_said (BadNumber place) said
      reading_fault OutOfMemory said = let all = some_tokens 0 bytes in (all.tokens, all.stop, all.are, tt)

    pub reading_stuck : (at : ℕ) (p : Progress) → IsReading at p → at < length bytes → HasNoFront (drop at bytes) → SpecOutcome l k mul bytes (Err (Syntax at))
    reading_stuck at p is less none =
        let here : AreTokens at (drop at bytes) [] (stuck at) = (0, omega (arith, less, length-drop at bytes), no_white, omega arith, (λ white. is.black less white), none) in
        is.said [] (stuck at) here

    module _ (at : ℕ) (p : Progress) (is : IsReading at p) (last : length bytes ≤ at) where
      end_tokens : AreTokens at (drop at bytes) [] (ended at)
      end_tokens =
          let P : List ℕ → Type 0 = λ bs. AreTokens at bs [] (ended at) in
          let nothing : AreTokens at [] [] (ended at) = (no_white, omega arith) in
          subst P (sym (drop_of_length-le bytes last)) nothing

      end_said : (r : Result SpecTerms SpecFault) → end_read p.next p at ≡ r → SpecOutcome l k mul bytes r
      end_said r e = let P : Result SpecTerms SpecFault → Type 0 = SpecOutcome l k mul bytes in subst P e (is.said [] (ended at) end_tokens)

      pub reading_end : (ts : SpecTerms) → end_read p.next p at ≡ Ok ts → SpecOutcome l k mul bytes (Ok ts)
      reading_end ts e = end_said (Ok ts) e

      pub reading_unended : (f : SpecFault) → IsSaid (end_read p.next p at) f → SpecOutcome l k mul bytes (Err f)
      reading_unended (Syntax place) said = end_said (Err (Syntax place)) said
      reading_unended (UnknownWord place) said = end_said (Err (UnknownWord place)) said
      reading_unended (BadNumber place) said = end_said (Err (BadNumber place)) said
      reading_unended OutOfMemory said = let all = some_tokens 0 bytes in (all.tokens, all.stop, all.are, tt)

      same_ok : (a b : SpecTerms) → ◌≡◌ {A = Result SpecTerms SpecFault} (Ok a) (Ok b) → a ≡ b
      same_ok a b e = cc

      over_at : (n : Next) → p.next ≡ n → (ts : SpecTerms) → end_read n p at ≡ Ok ts → IsOverWords k (length l.words) ts × (length ts ≤ length p.terms + 1)
      unfolding HasWord
      over_at Output here ts e = absurd (cc)
      over_at Assign here ts e = absurd (cc)
      over_at Factor here ts e = absurd (cc)
      over_at (Exponent w) here ts e = absurd (cc)
      over_at AfterNumber here ts e =
          let same = same_ok (closed p.terms p.coefficient p.powers) ts e in
          let P : SpecTerms → Type 0 = λ us. IsOverWords k (length l.words) us × (length us ≤ length p.terms + 1) in
          subst P same (closed_over p.terms p.coefficient p.powers is.over.terms is.over.element is.over.powers, omega (arith, length-push p.terms (p.coefficient, p.powers)))
      over_at (AfterName w) here ts e =
          let ps : List (ℕ × ℕ) = p.powers ++ (w, 1) ∷ [] in
          let same = same_ok (closed p.terms p.coefficient ps) ts e in
          let P : SpecTerms → Type 0 = λ us. IsOverWords k (length l.words) us × (length us ≤ length p.terms + 1) in
          subst P same (closed_over p.terms p.coefficient ps is.over.terms is.over.element (one_more p.powers w 1 is.over.powers (at_word p (AfterName w) here is.over) small_one), omega (arith, length-push p.terms (p.coefficient, ps)))

      pub end_over : (ts : SpecTerms) → end_read p.next p at ≡ Ok ts → IsOverWords k (length l.words) ts
      end_over ts e = (over_at p.next refl ts e).0

      pub end_few : (ts : SpecTerms) → end_read p.next p at ≡ Ok ts → length bytes ≤ 67108864 → length ts < 2 ^ 32
      end_few ts e low = omega (arith, (over_at p.next refl ts e).1, is.small.1, is.within, low)

    -- ---- what the code sees at a place

    seen_some : (o : Option (Token × ℕ)) (s : Scanned × ℕ) → IsSeenAt o (Some s) → (f : Token × ℕ) × (o ≡ Some f) × IsSeenAs f s
    seen_some None s seen = absurd seen
    seen_some (Some f) s seen = (f, refl, seen)

    seen_none : (o : Option (Token × ℕ)) → IsSeenAt o None → o ≡ None
    seen_none None seen = refl
    seen_none (Some f) seen = absurd seen

    module _ (at : ℕ) (p : Progress) (is : IsReading at p) (text : List ℕ) (text_is : text ≡ drop at bytes) where
      front_here : (s : Scanned × ℕ) → IsSeenAt (front_of text) (Some s) → (t : Token) × IsFront (drop at bytes) t s.1 × IsSeen s.0 t
      front_here s seen =
          let found = seen_some (front_of text) s seen in
          let P : ℕ → Type 0 = λ n. IsFront (drop at bytes) found.0.0 n in
          (found.0.0, subst P (sym found.2.1) (front_some (drop at bytes) found.0.0 found.0.1 (ap front_of (sym text_is) ∙ found.1)), found.2.0)

      pub within_here : (s : Scanned × ℕ) → IsSeenAt (front_of text) (Some s) → (1 ≤ s.1) × (at + s.1 ≤ length bytes)
      within_here s seen = let found = front_here s seen in (front_length (drop at bytes) found.0 s.1 found.1, omega (arith, found.1.within, length-drop at bytes, is.within))

      -- one token further
      pub turned : (s : Scanned × ℕ) (next : Next) (ts : SpecTerms) (c : ℕ) (ps : List (ℕ × ℕ)) (w : ℕ) → IsSeenAt (front_of text) (Some s) → ((t : Token) → IsSeen s.0 t → token_read l k mul p t at ≡ Ok (progress next ts c ps)) → w ≡ length (run is_white (drop (at + s.1) bytes)) → IsReading (at + s.1 + w) (progress next ts c ps)
      turned s next ts c ps w seen step e = let found = front_here s seen in reading_step at s.1 p found.0 is found.1 (progress next ts c ps) w (step found.0 found.2) e

      -- a token with a fault
      pub failed : (s : Scanned × ℕ) (f : SpecFault) → IsSeenAt (front_of text) (Some s) → ((t : Token) → IsSeen s.0 t → IsSaid (token_read l k mul p t at) f) → SpecOutcome l k mul bytes (Err f)
      failed s f seen step = let found = front_here s seen in reading_fault at s.1 p found.0 is found.1 f (step found.0 found.2)

      -- no token
      pub stuck_here : at < length bytes → IsSeenAt (front_of text) None → SpecOutcome l k mul bytes (Err (Syntax at))
      stuck_here less seen = reading_stuck at p is less (front_none (drop at bytes) (ap front_of (sym text_is) ∙ seen_none (front_of text) seen))
