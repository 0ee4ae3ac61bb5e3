-- What may come after a part of a term, and a term with one more factor.
use Rattle.std.proofs.Common.{◌≡◌, ℕ, zero, suc, ◌<◌, ◌≤◌, true, false, List, [], ◌∷◌, ◌++◌, length, Some, None, Result, Ok, Err, refl, sym, ◌∙◌, ap, subst, arith}
use Rattle.std.proofs.lemmas.List.{length-drop}
use Rattle.text_core.specs.Lines.{is_blank}
use Rattle.poly_mixed.specs.Labels.{Labelling, AreLabels}
use Rattle.poly_mixed.specs.Monomial.{Monomial}
use Rattle.poly_mixed.specs.Polynomial.{Terms}
use Rattle.text_core.specs.Scan.{run, skip}
use Rattle.poly_mixed.specs.Token.{Named, word, Token, variable, hex, figures, plus_sign, times_sign, power_sign, Front, token_front}
use Rattle.poly_mixed.specs.Grammar.{Part, number, factor, variables}
use Rattle.poly_mixed.specs.Said.{one, with_part, monomial_of, coefficient_of, added, with_term, sum_of}
use Rattle.poly_mixed.specs.private.Reading.{Progress, done, next_at, after_zero, read_on}
use Rattle.poly_mixed.specs.declared.fault.PolyFault.{PolyFault}
use Rattle.poly_mixed.specs.declared.fault.PolyFault.TheVariants.{Syntax}
use Rattle.poly_mixed.proofs.MachineLemmas.{State, start, inside, named, closed, empty, step, final, variables_more}
use Rattle.poly_mixed.proofs.TrackLemmas.{Tracks}
use Rattle.poly_mixed.proofs.FrontLemmas.{IsSign, IsLeft, front_left}
use Rattle.poly_mixed.proofs.ReadTermLemmas.{sign_in, next_in, next_is, zero_next_is}
use Rattle.poly_mixed.proofs.ReadPlaceLemmas.{ArePartsOf, MayCome, IsAt, forward, bad_token, bad_end, accepted, refuses, Goes}

-- ---- sums

sum_more : (l : Labelling) (sum : Terms) (ts : List (List Part)) (t : List Part) → sum_of l sum (ts ++ t ∷ []) ≡ with_term l (sum_of l sum ts) t
sum_more l sum [] t = refl
sum_more l sum (u ∷ ts) t = sum_more l (with_term l sum u) ts t

monomial_more : (l : Labelling) (m : Monomial) (ps : List Part) (p : Part) → monomial_of l m (ps ++ p ∷ []) ≡ with_part l (monomial_of l m ps) p
monomial_more l m [] p = refl
monomial_more l m (q ∷ ps) p = monomial_more l (with_part l m q) ps p

coefficient_more : (ps : List Part) (v : Named) (e : ℕ) → coefficient_of (ps ++ factor v e ∷ []) ≡ coefficient_of ps
coefficient_more [] v e = refl
coefficient_more (number c ∷ ps) v e = refl
coefficient_more (factor w d ∷ ps) v e = refl

term_more : (l : Labelling) (sum : Terms) (ps : List Part) (p : Part) → with_term l sum (ps ++ p ∷ []) ≡ added sum (coefficient_of (ps ++ p ∷ [])) (monomial_of l one (ps ++ p ∷ []))
term_more l sum [] p = refl
term_more l sum (q ∷ ps) p = refl

skipped : (bs : List ℕ) → length (skip bs) ≤ length bs
skipped bs = omega (arith, length-drop (length (run is_blank bs)) bs)

pub done_stays : (n : ℕ) (l : Labelling) (k : ℕ) (ts : Terms) → read_on n l k (Ok (done ts)) ≡ Ok ts
done_stays zero l k ts = refl
done_stays (suc n) l k ts = done_stays n l k ts

module _ (l : Labelling) (k : ℕ) (bytes : List ℕ) (some : 1 ≤ k) (are : AreLabels l) where
  module _ (n : ℕ) (goes_on : Goes l k bytes some are n) where
    left_after : (rest after : List ℕ) (t : Token) → token_front (skip rest) ≡ Some (t, after) → IsLeft (length (skip rest)) (Some (t, after))
    left_after rest after t e = let P : Front → Type 0 = IsLeft (length (skip rest)) in subst P e (front_left (skip rest))

    pub shorter : (rest after : List ℕ) (t : Token) → token_front (skip rest) ≡ Some (t, after) → length rest ≤ n → length after ≤ n
    shorter rest after t e low = omega (arith, (left_after rest after t e).0, skipped rest, low)

    shorter_sign : (rest after : List ℕ) (t : Token) → token_front (skip rest) ≡ Some (t, after) → IsSign t → length rest ≤ n → length after < n
    shorter_sign rest after t e sign low = omega (arith, (left_after rest after t e).1 sign, skipped rest, low)

    -- after a whole term that no `*` may follow
    sign_zero : (before : List Token) (ts : List (List Part)) (sum : Terms) (rest : List ℕ) (front : Front) → IsAt l k bytes some are before (empty ts) rest → sum ≡ sum_of l [] ts → length rest ≤ n
        → token_front (skip rest) ≡ front → (skip rest ≡ [] → ⊥) → MayCome l k bytes some are (read_on n l k (sign_in sum sum 1 one false front))
    sign_zero before ts sum rest None a is low e some' = refuses l k bytes some are n (Err Syntax) refl (bad_end l k bytes some are before (empty ts) rest a e (λ none. absurd (some' none)))
    sign_zero before ts sum rest (Some (plus_sign, after)) a is low e some' =
        goes_on.at_start (before ++ plus_sign ∷ []) (ts ++ [] ∷ []) sum after (forward l k bytes some are before (empty ts) (start (ts ++ [] ∷ [])) rest after plus_sign a e refl refl) (is ∙ sym (sum_more l [] ts [])) (shorter_sign rest after plus_sign e tt low)
    sign_zero before ts sum rest (Some (times_sign, after)) a is low e some' = refuses l k bytes some are n (Err Syntax) refl (bad_token l k bytes some are before (empty ts) rest after times_sign a e refl)
    sign_zero before ts sum rest (Some (power_sign, after)) a is low e some' = refuses l k bytes some are n (Err Syntax) refl (bad_token l k bytes some are before (empty ts) rest after power_sign a e refl)
    sign_zero before ts sum rest (Some (variable v, after)) a is low e some' = refuses l k bytes some are n (Err Syntax) refl (bad_token l k bytes some are before (empty ts) rest after (variable v) a e refl)
    sign_zero before ts sum rest (Some (hex d, after)) a is low e some' = refuses l k bytes some are n (Err Syntax) refl (bad_token l k bytes some are before (empty ts) rest after (hex d) a e refl)
    sign_zero before ts sum rest (Some (figures ds, after)) a is low e some' = refuses l k bytes some are n (Err Syntax) refl (bad_token l k bytes some are before (empty ts) rest after (figures ds) a e refl)

    pub after_zero_comes : (before : List Token) (ts : List (List Part)) (sum : Terms) (rest : List ℕ) → IsAt l k bytes some are before (empty ts) rest → sum ≡ sum_of l [] ts → length rest ≤ n → MayCome l k bytes some are (read_on n l k (after_zero sum (skip rest)))
    after_zero_comes before ts sum rest a is low =
        let P : Result Progress PolyFault → Type 0 = λ r. MayCome l k bytes some are (read_on n l k r) in
        subst P (sym (zero_next_is sum (skip rest)))
        (elim (skip rest) as (λ (bs : List ℕ). skip rest ≡ bs → MayCome l k bytes some are (read_on n l k (next_in sum sum 1 one false bs (token_front bs)))) [
          | [] ↦ λ e.
              let Q : Result Terms PolyFault → Type 0 = MayCome l k bytes some are in
              subst Q (sym (done_stays n l k sum)) (accepted l k bytes some are before (empty ts) rest (ts ++ [] ∷ []) sum a e refl (is ∙ sym (sum_more l [] ts [])))
          | b ∷ bs ↦ λ e. sign_zero before ts sum rest (token_front (b ∷ bs)) a is low (ap token_front e) (λ none. (let bad : [] ≡ b ∷ bs = sym none ∙ e in absurd (cc)))
        ] refl)

    -- a state after a part
    pub record IsReadied (s : State) (ts : List (List Part)) (ps : List Part) : Type 0 where
      pub times : step k s times_sign ≡ Some (inside ts ps)
      pub plus : step k s plus_sign ≡ Some (start (ts ++ ps ∷ []))
      pub end : final s ≡ Some (ts ++ ps ∷ [])
      pub numbers : (d : ℕ) → step k s (hex d) ≡ None
      pub digits : (ds : List ℕ) → step k s (figures ds) ≡ None
      pub names : (v : Named) → step k s (variable v) ≡ None

    pub readied_closed : (ts : List (List Part)) (ps : List Part) → IsReadied (closed ts ps) ts ps
    readied_closed ts ps = record { times = refl; plus = refl; end = refl; numbers = λ d. refl; digits = λ ds. refl; names = λ v. refl }

    pub readied_named : (ts : List (List Part)) (ps : List Part) (x : List ℕ) → IsReadied (named ts ps x) ts (ps ++ factor (word x) 1 ∷ [])
    readied_named ts ps x = record { times = refl; plus = refl; end = refl; numbers = λ d. refl; digits = λ ds. refl; names = λ v. refl }

    -- the sum with the term that ends here
    ends_with : (ts : List (List Part)) (ps : List Part) (sum : Terms) (c : ℕ) (m : Monomial) → sum ≡ sum_of l [] ts → with_term l sum ps ≡ added sum c m → added sum c m ≡ sum_of l [] (ts ++ ps ∷ [])
    ends_with ts ps sum c m is adds = sym adds ∙ ap (λ (x : Terms). with_term l x ps) is ∙ sym (sum_more l [] ts ps)

    sign_next : (before : List Token) (s : State) (ts : List (List Part)) (ps : List Part) (sum : Terms) (c : ℕ) (m : Monomial) (rest : List ℕ) (front : Front)
        → IsAt l k bytes some are before s rest → IsReadied s ts ps → sum ≡ sum_of l [] ts → ArePartsOf l ps c m → with_term l sum ps ≡ added sum c m → length rest ≤ n
        → token_front (skip rest) ≡ front → ((after : List ℕ) → front ≡ Some (power_sign, after) → step k s power_sign ≡ None) → (skip rest ≡ [] → ⊥)
        → MayCome l k bytes some are (read_on n l k (sign_in sum (added sum c m) c m true front))
    sign_next before s ts ps sum c m rest None a ready is parts adds low e power some' = refuses l k bytes some are n (Err Syntax) refl (bad_end l k bytes some are before s rest a e (λ none. absurd (some' none)))
    sign_next before s ts ps sum c m rest (Some (plus_sign, after)) a ready is parts adds low e power some' =
        goes_on.at_start (before ++ plus_sign ∷ []) (ts ++ ps ∷ []) (added sum c m) after (forward l k bytes some are before s (start (ts ++ ps ∷ [])) rest after plus_sign a e ready.plus refl) (ends_with ts ps sum c m is adds) (shorter_sign rest after plus_sign e tt low)
    sign_next before s ts ps sum c m rest (Some (times_sign, after)) a ready is parts adds low e power some' =
        goes_on.at_inside (before ++ times_sign ∷ []) ts ps sum c m after (forward l k bytes some are before s (inside ts ps) rest after times_sign a e ready.times refl) is parts (shorter_sign rest after times_sign e tt low)
    sign_next before s ts ps sum c m rest (Some (power_sign, after)) a ready is parts adds low e power some' = refuses l k bytes some are n (Err Syntax) refl (bad_token l k bytes some are before s rest after power_sign a e (power after refl))
    sign_next before s ts ps sum c m rest (Some (variable v, after)) a ready is parts adds low e power some' = refuses l k bytes some are n (Err Syntax) refl (bad_token l k bytes some are before s rest after (variable v) a e (ready.names v))
    sign_next before s ts ps sum c m rest (Some (hex d, after)) a ready is parts adds low e power some' = refuses l k bytes some are n (Err Syntax) refl (bad_token l k bytes some are before s rest after (hex d) a e (ready.numbers d))
    sign_next before s ts ps sum c m rest (Some (figures ds, after)) a ready is parts adds low e power some' = refuses l k bytes some are n (Err Syntax) refl (bad_token l k bytes some are before s rest after (figures ds) a e (ready.digits ds))

    pub next_comes : (before : List Token) (s : State) (ts : List (List Part)) (ps : List Part) (sum : Terms) (c : ℕ) (m : Monomial) (rest : List ℕ)
        → IsAt l k bytes some are before s rest → IsReadied s ts ps → sum ≡ sum_of l [] ts → ArePartsOf l ps c m → with_term l sum ps ≡ added sum c m → length rest ≤ n
        → ((after : List ℕ) → token_front (skip rest) ≡ Some (power_sign, after) → step k s power_sign ≡ None)
        → MayCome l k bytes some are (read_on n l k (next_at sum c m (skip rest)))
    next_comes before s ts ps sum c m rest a ready is parts adds low power =
        let P : Result Progress PolyFault → Type 0 = λ r. MayCome l k bytes some are (read_on n l k r) in
        subst P (sym (next_is sum c m (skip rest)))
        (elim (skip rest) as (λ (bs : List ℕ). skip rest ≡ bs → MayCome l k bytes some are (read_on n l k (next_in sum (added sum c m) c m true bs (token_front bs)))) [
          | [] ↦ λ e.
              let Q : Result Terms PolyFault → Type 0 = MayCome l k bytes some are in
              subst Q (sym (done_stays n l k (added sum c m))) (accepted l k bytes some are before s rest (ts ++ ps ∷ []) (added sum c m) a e ready.end (ends_with ts ps sum c m is adds))
          | b ∷ bs ↦ λ e. sign_next before s ts ps sum c m rest (token_front (b ∷ bs)) a ready is parts adds low (ap token_front e) (λ after f. power after (ap token_front e ∙ f)) (λ none. (let bad : [] ≡ b ∷ bs = sym none ∙ e in absurd (cc)))
        ] refl)

    -- ---- one more factor

    pub parts_more : (ps : List Part) (c : ℕ) (m new : Monomial) (v : Named) (e : ℕ) → ArePartsOf l ps c m → with_part l m (factor v e) ≡ new → Tracks l (variables ps ++ v ∷ []) new → ArePartsOf l (ps ++ factor v e ∷ []) c new
    parts_more ps c m new v e parts is tracks = record {
      coefficient = parts.coefficient ∙ sym (coefficient_more ps v e);
      monomial = sym (monomial_more l one ps (factor v e) ∙ ap (λ (x : Monomial). with_part l x (factor v e)) (sym parts.monomial) ∙ is);
      tracks = (let P : List Named → Type 0 = λ vs. Tracks l vs new in subst P (sym (variables_more ps v e)) tracks);
    }

    pub adds_more : (ps : List Part) (sum : Terms) (c : ℕ) (new : Monomial) (v : Named) (e : ℕ) → ArePartsOf l (ps ++ factor v e ∷ []) c new → with_term l sum (ps ++ factor v e ∷ []) ≡ added sum c new
    adds_more ps sum c new v e parts = term_more l sum ps (factor v e) ∙ (λ i. added sum (sym parts.coefficient i) (sym parts.monomial i))
