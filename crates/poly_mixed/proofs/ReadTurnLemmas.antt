-- Each turn of reading goes on to what may come of the text.
use Rattle.std.proofs.Common.{◌≡◌, ◌≢◌, ℕ, zero, suc, ◌+◌, ◌<◌, ◌≤◌, ◌^◌, Bool, true, false, cond, ◌&&◌, not, List, [], ◌∷◌, ◌++◌, length, nat_lt, ◌==◌, Option, Some, None, Result, Ok, Err, slice_set, get_or, refl, sym, ◌∙◌, ap, subst, arith}
use Rattle.std.specs.Prelude.{bytes_eq}
use Rattle.std.proofs.lemmas.Bool.{ltb-true, and_parts}
use Rattle.lists.specs.laws.OptionLaws.{same_some as some_is}
use Rattle.text_core.specs.Numbers.{value_of}
use Rattle.poly_mixed.specs.Labels.{Labelling, AreLabels, word_of, bit_of}
use Rattle.poly_mixed.specs.Monomial.{Monomial, has_bit}
use Rattle.poly_mixed.specs.Polynomial.{Terms}
use Rattle.poly_mixed.specs.Product.{with_rank}
use Rattle.text_core.specs.Scan.{skip}
use Rattle.poly_mixed.specs.Token.{Named, word, bit, net, Token, variable, hex, figures, plus_sign, times_sign, power_sign, Front, token_front}
use Rattle.poly_mixed.specs.Grammar.{Part, number, factor, variables}
use Rattle.poly_mixed.specs.Said.{net_rank, one, with_power, with_bit_of, with_part, sum_of}
use Rattle.poly_mixed.specs.TextOutcome.{TextFault, no_polynomial, no_such_net, no_such_bit, or_else, name_fault, IsRefused}
use Rattle.poly_mixed.specs.private.Reading.{Scanned, Progress, net_found, bit_found, word_found, exponent_at, with_exponent, with_variable, next_at, after_factor, after_zero, read_on, reading}
use Rattle.poly_mixed.specs.declared.fault.PolyFault.{PolyFault}
use Rattle.poly_mixed.specs.declared.fault.PolyFault.TheVariants.{Syntax, NoSuchNet, NoSuchBit}
use Rattle.poly_mixed.specs.declared.variables.Variable.{Variable}
use Rattle.poly_mixed.specs.declared.variables.Variable.TheVariants.{Word, Rank}
use Rattle.poly_mixed.proofs.PartLemmas.{err_on}
use Rattle.poly_mixed.proofs.MachineLemmas.{State, start, inside, named, raised, closed, empty, has, enter, step}
use Rattle.poly_mixed.proofs.TrackLemmas.{rank_of, holds_word, tracks_nothing, tracks_word, tracks_rank}
use Rattle.poly_mixed.proofs.ReadFactorLemmas.{variable_in, variable_is, number_in, number_is, power_in, exponent_is}
use Rattle.poly_mixed.proofs.ReadTermLemmas.{term_in, term_is}
use Rattle.poly_mixed.proofs.ReadPlaceLemmas.{ArePartsOf, MayCome, IsAt, forward, bad_token, bad_name, bad_end, refuses, Goes}
use Rattle.poly_mixed.proofs.ReadPartLemmas.{shorter, after_zero_comes, readied_closed, readied_named, next_comes, parts_more, adds_more}

abbrev is_power : Token → Bool
is_power (variable v) = false
is_power (hex d) = false
is_power (figures ds) = false
is_power plus_sign = false
is_power times_sign = false
is_power power_sign = true

-- a front with another token is not one with `^`
not_power : {P : Type 0} (t : Token) (xs ys : List ℕ) → is_power t ≡ false → ◌≡◌ {A = Front} (Some (t, xs)) (Some (power_sign, ys)) → P
not_power t xs ys other e =
    let both : ◌≡◌ {A = Token × List ℕ} (t, xs) (power_sign, ys) = some_is (t, xs) (power_sign, ys) e in
    let bad : false ≡ true = sym other ∙ (λ i. is_power (both i).0) in
    absurd (cc)

module _ (l : Labelling) (k : ℕ) (bytes : List ℕ) (some : 1 ≤ k) (are : AreLabels l) where
  module _ (n : ℕ) (goes_on : Goes l k bytes some are n) where
    -- a word that labels name, and what stands after it
    module _ (before : List Token) (ts : List (List Part)) (ps : List Part) (sum : Terms) (c : ℕ) (m : Monomial) (x : List ℕ) (w : ℕ) (rest : List ℕ)
        (a : IsAt l k bytes some are before (named ts ps x) rest) (is : sum ≡ sum_of l [] ts) (parts : ArePartsOf l ps c m) (found : word_of l.words x ≡ Some w) (low : length rest ≤ n) where
      abbrev with_word : ℕ → Monomial
      with_word e = record { exponents = slice_set m.exponents w e; bits = m.bits }

      word_parts : (e : ℕ) → 0 < e → ArePartsOf l (ps ++ factor (word x) e ∷ []) c (with_word e)
      word_parts e pos = parts_more l k bytes some are n goes_on ps c m (with_word e) (word x) e parts (ap (λ (o : Option ℕ). with_power m o e) found) (tracks_word l (variables ps) m x w e are.few parts.tracks found pos)

      -- to the power 1
      bare_word : ((after : List ℕ) → token_front (skip rest) ≡ Some (power_sign, after) → ⊥) → MayCome l k bytes some are (read_on n l k (after_factor sum c (with_exponent m w (Ok (1, rest)))))
      bare_word none =
          let parts' = word_parts 1 (omega arith) in
          next_comes l k bytes some are n goes_on before (named ts ps x) ts (ps ++ factor (word x) 1 ∷ []) sum c (with_word 1) rest a (readied_named l k bytes some are n goes_on ts ps x) is parts' (adds_more l k bytes some are n goes_on ps sum c (with_word 1) (word x) 1 parts') low (λ after e. absurd (none after e))

      -- the exponent after `^`
      raised_word : (mid : List Token) (rest' : List ℕ) (front : Front) → IsAt l k bytes some are mid (raised ts ps x) rest' → length rest' ≤ n → token_front (skip rest') ≡ front → MayCome l k bytes some are (read_on n l k (after_factor sum c (with_exponent m w (number_in k front))))
      raised_word mid rest' None b low' e = refuses l k bytes some are n (Err Syntax) refl (bad_end l k bytes some are mid (raised ts ps x) rest' b e (λ none. refl))
      raised_word mid rest' (Some (variable v, after)) b low' e = refuses l k bytes some are n (Err Syntax) refl (bad_token l k bytes some are mid (raised ts ps x) rest' after (variable v) b e refl)
      raised_word mid rest' (Some (hex d, after)) b low' e = refuses l k bytes some are n (Err Syntax) refl (bad_token l k bytes some are mid (raised ts ps x) rest' after (hex d) b e refl)
      raised_word mid rest' (Some (plus_sign, after)) b low' e = refuses l k bytes some are n (Err Syntax) refl (bad_token l k bytes some are mid (raised ts ps x) rest' after plus_sign b e refl)
      raised_word mid rest' (Some (times_sign, after)) b low' e = refuses l k bytes some are n (Err Syntax) refl (bad_token l k bytes some are mid (raised ts ps x) rest' after times_sign b e refl)
      raised_word mid rest' (Some (power_sign, after)) b low' e = refuses l k bytes some are n (Err Syntax) refl (bad_token l k bytes some are mid (raised ts ps x) rest' after power_sign b e refl)
      raised_word mid rest' (Some (figures ds, after)) b low' e =
          let v = value_of 10 ds in
          elim (nat_lt 0 v && nat_lt v (2 ^ k)) as (λ t. (nat_lt 0 v && nat_lt v (2 ^ k)) ≡ t → MayCome l k bytes some are (read_on n l k (after_factor sum c (with_exponent m w (cond t (Ok (v, after)) (Err Syntax)))))) [
            | true ↦ λ f.
                let pos = ltb-true 0 v (and_parts (nat_lt 0 v) (nat_lt v (2 ^ k)) f).0 in
                let qs = ps ++ factor (word x) v ∷ [] in
                let there = forward l k bytes some are mid (raised ts ps x) (closed ts qs) rest' after (figures ds) b e (ap (λ t. cond t (Some (closed ts qs)) None) f) refl in
                next_comes l k bytes some are n goes_on (mid ++ figures ds ∷ []) (closed ts qs) ts qs sum c (with_word v) after there (readied_closed l k bytes some are n goes_on ts qs) is (word_parts v pos) (adds_more l k bytes some are n goes_on ps sum c (with_word v) (word x) v (word_parts v pos)) (shorter l k bytes some are n goes_on rest' after (figures ds) e low') (λ after' g. refl)
            | false ↦ λ f. refuses l k bytes some are n (Err Syntax) refl (bad_token l k bytes some are mid (raised ts ps x) rest' after (figures ds) b e (ap (λ t. cond t (Some (closed ts (ps ++ factor (word x) v ∷ []))) None) f))
          ] refl

      power_word : (front : Front) → token_front (skip rest) ≡ front → MayCome l k bytes some are (read_on n l k (after_factor sum c (with_exponent m w (power_in k rest front))))
      power_word None e = bare_word (λ after f. (let bad : None ≡ Some (power_sign, after) = sym e ∙ f in absurd (cc)))
      power_word (Some (variable v, after)) e = bare_word (λ after' f. not_power (variable v) after after' refl (sym e ∙ f))
      power_word (Some (hex d, after)) e = bare_word (λ after' f. not_power (hex d) after after' refl (sym e ∙ f))
      power_word (Some (figures ds, after)) e = bare_word (λ after' f. not_power (figures ds) after after' refl (sym e ∙ f))
      power_word (Some (plus_sign, after)) e = bare_word (λ after' f. not_power (plus_sign) after after' refl (sym e ∙ f))
      power_word (Some (times_sign, after)) e = bare_word (λ after' f. not_power (times_sign) after after' refl (sym e ∙ f))
      power_word (Some (power_sign, after)) e =
          let there = forward l k bytes some are before (named ts ps x) (raised ts ps x) rest after power_sign a e refl refl in
          let P : Scanned ℕ → Type 0 = λ r. MayCome l k bytes some are (read_on n l k (after_factor sum c (with_exponent m w r))) in
          subst P (sym (number_is k (skip after))) (raised_word (before ++ power_sign ∷ []) after (token_front (skip after)) there (shorter l k bytes some are n goes_on rest after power_sign e low) refl)

      word_comes : MayCome l k bytes some are (read_on n l k (after_factor sum c (with_exponent m w (exponent_at k rest))))
      word_comes =
          let P : Scanned ℕ → Type 0 = λ r. MayCome l k bytes some are (read_on n l k (after_factor sum c (with_exponent m w r))) in
          subst P (sym (exponent_is k rest (skip rest))) (power_word (token_front (skip rest)) refl)

    -- a bit or a net that labels name
    rank_comes : (before : List Token) (ts : List (List Part)) (ps : List Part) (sum : Terms) (c : ℕ) (m : Monomial) (v : Named) (r : ℕ) (rest : List ℕ)
        → IsAt l k bytes some are before (closed ts (ps ++ factor v 1 ∷ [])) rest → sum ≡ sum_of l [] ts → ArePartsOf l ps c m → rank_of l v ≡ Some r → with_part l m (factor v 1) ≡ record { exponents = m.exponents; bits = with_rank m.bits r } → length rest ≤ n
        → MayCome l k bytes some are (read_on n l k (next_at sum c (record { exponents = m.exponents; bits = with_rank m.bits r }) (skip rest)))
    rank_comes before ts ps sum c m v r rest a is parts found with_it low =
        let new : Monomial = record { exponents = m.exponents; bits = with_rank m.bits r } in
        let qs = ps ++ factor v 1 ∷ [] in
        let parts' = parts_more l k bytes some are n goes_on ps c m new v 1 parts with_it (tracks_rank l (variables ps) m v r parts.tracks found) in
        next_comes l k bytes some are n goes_on before (closed ts qs) ts qs sum c new rest a (readied_closed l k bytes some are n goes_on ts qs) is parts' (adds_more l k bytes some are n goes_on ps sum c new v 1 parts') low (λ after e. refl)

    -- a variable where one may come
    module _ (before : List Token) (s : State) (ts : List (List Part)) (ps : List Part) (sum : Terms) (c : ℕ) (m : Monomial) (rest after : List ℕ)
        (a : IsAt l k bytes some are before s rest) (is : sum ≡ sum_of l [] ts) (parts : ArePartsOf l ps c m) (low : length rest ≤ n)
        (fresh : (v : Named) → has v (variables ps) ≡ false → step k s (variable v) ≡ Some (enter ts ps v)) (used : (v : Named) → has v (variables ps) ≡ true → step k s (variable v) ≡ None) where
      unknown_word : (x : List ℕ) → token_front (skip rest) ≡ Some (variable (word x), after) → word_of l.words x ≡ None → IsRefused l k bytes no_polynomial
      unknown_word x e none =
          (elim (has (word x) (variables ps)) as (λ b. has (word x) (variables ps) ≡ b → IsRefused l k bytes no_polynomial) [
            | true ↦ λ h. bad_token l k bytes some are before s rest after (variable (word x)) a e (used (word x) h)
            | false ↦ λ h. bad_name l k bytes some are before s (named ts ps x) rest after (variable (word x)) no_polynomial a e (fresh (word x) h) (ap (or_else no_polynomial) none)
          ]) refl

      -- a word that stands in the term already, or one more
      known_word : (x : List ℕ) (w : ℕ) → token_front (skip rest) ≡ Some (variable (word x), after) → word_of l.words x ≡ Some w → MayCome l k bytes some are (read_on n l k (after_factor sum c (with_variable k m (Ok (Word w, after)))))
      known_word x w e found =
          let free = nat_lt w 8 && (get_or m.exponents w 0 == 0) in
          let stands : has (word x) (variables ps) ≡ not free = parts.tracks.words x ∙ ap (holds_word m) found in
          (elim free as (λ b. free ≡ b → MayCome l k bytes some are (read_on n l k (after_factor sum c (cond b (with_exponent m w (exponent_at k after)) (Err Syntax))))) [
            | true ↦ λ f.
                let there = forward l k bytes some are before s (named ts ps x) rest after (variable (word x)) a e (fresh (word x) (stands ∙ ap not f)) (ap (or_else no_polynomial) found) in
                word_comes (before ++ variable (word x) ∷ []) ts ps sum c m x w after there is parts found (shorter l k bytes some are n goes_on rest after (variable (word x)) e low)
            | false ↦ λ f. refuses l k bytes some are n (Err Syntax) refl (bad_token l k bytes some are before s rest after (variable (word x)) a e (used (word x) (stands ∙ ap not f)))
          ]) refl

      word_at : (x : List ℕ) → token_front (skip rest) ≡ Some (variable (word x), after) → MayCome l k bytes some are (read_on n l k (after_factor sum c (with_variable k m (word_found (word_of l.words x) after))))
      word_at x e =
          (elim (word_of l.words x) as (λ (o : Option ℕ). word_of l.words x ≡ o → MayCome l k bytes some are (read_on n l k (after_factor sum c (with_variable k m (word_found o after))))) [
            | None ↦ λ f. refuses l k bytes some are n (Err Syntax) refl (unknown_word x e f)
            | Some w ↦ λ f. known_word x w e f
          ]) refl

      known_rank : (v : Named) (r : ℕ) → token_front (skip rest) ≡ Some (variable v, after) → enter ts ps v ≡ closed ts (ps ++ factor v 1 ∷ []) → name_fault l (variable v) ≡ None → rank_of l v ≡ Some r → with_part l m (factor v 1) ≡ record { exponents = m.exponents; bits = with_rank m.bits r }
          → MayCome l k bytes some are (read_on n l k (after_factor sum c (with_variable k m (Ok (Rank r, after)))))
      known_rank v r e enters fine found with_it =
          let stands : has v (variables ps) ≡ has_bit r m = parts.tracks.ranks v r found in
          (elim (has_bit r m) as (λ b. has_bit r m ≡ b → MayCome l k bytes some are (read_on n l k (after_factor sum c (cond b (Err Syntax) (Ok (record { exponents = m.exponents; bits = with_rank m.bits r }, after)))))) [
            | true ↦ λ f. refuses l k bytes some are n (Err Syntax) refl (bad_token l k bytes some are before s rest after (variable v) a e (used v (stands ∙ f)))
            | false ↦ λ f.
                let there = forward l k bytes some are before s (closed ts (ps ++ factor v 1 ∷ [])) rest after (variable v) a e (fresh v (stands ∙ f) ∙ ap Some enters) fine in
                rank_comes (before ++ variable v ∷ []) ts ps sum c m v r after there is parts found with_it (shorter l k bytes some are n goes_on rest after (variable v) e low)
          ]) refl

      unknown_rank : (v : Named) (fault : TextFault) → token_front (skip rest) ≡ Some (variable v, after) → ((x : List ℕ) → v ≢ word x) → rank_of l v ≡ None → name_fault l (variable v) ≡ Some fault → IsRefused l k bytes fault
      unknown_rank v fault e ne none bad = bad_name l k bytes some are before s (enter ts ps v) rest after (variable v) fault a e (fresh v (parts.tracks.unknown v none ne)) bad

      variable_comes : (v : Named) → token_front (skip rest) ≡ Some (variable v, after) → MayCome l k bytes some are (read_on n l k (after_factor sum c (with_variable k m (variable_in l (Some (variable v, after))))))
      variable_comes (word x) e = word_at x e
      variable_comes (bit x i) e =
          (elim (bit_of l.words x i) as (λ (o : Option ℕ). bit_of l.words x i ≡ o → MayCome l k bytes some are (read_on n l k (after_factor sum c (with_variable k m (bit_found o after))))) [
            | None ↦ λ f.
                let P : Result Terms PolyFault → Type 0 = MayCome l k bytes some are in
                subst P (sym (err_on n l k NoSuchBit)) (unknown_rank (bit x i) no_such_bit e (λ y z. absurd (cc)) f (ap (or_else no_such_bit) f))
            | Some r ↦ λ f. known_rank (bit x i) r e refl (ap (or_else no_such_bit) f) f (ap (λ (o : Option ℕ). with_bit_of m o) f)
          ]) refl
      variable_comes (net x) e =
          (elim (net_rank l x) as (λ (o : Option ℕ). net_rank l x ≡ o → MayCome l k bytes some are (read_on n l k (after_factor sum c (with_variable k m (net_found o after))))) [
            | None ↦ λ f.
                let P : Result Terms PolyFault → Type 0 = MayCome l k bytes some are in
                subst P (sym (err_on n l k NoSuchNet)) (unknown_rank (net x) no_such_net e (λ y z. absurd (cc)) f (ap (or_else no_such_net) f))
            | Some r ↦ λ f. known_rank (net x) r e refl (ap (or_else no_such_net) f) f (ap (λ (o : Option ℕ). with_bit_of m o) f)
          ]) refl

    -- ---- one turn

    inside_front : (before : List Token) (ts : List (List Part)) (ps : List Part) (sum : Terms) (c : ℕ) (m : Monomial) (rest : List ℕ) (front : Front) → IsAt l k bytes some are before (inside ts ps) rest → sum ≡ sum_of l [] ts → ArePartsOf l ps c m → length rest ≤ n
        → token_front (skip rest) ≡ front → MayCome l k bytes some are (read_on n l k (after_factor sum c (with_variable k m (variable_in l front))))
    inside_front before ts ps sum c m rest None a is parts low e = refuses l k bytes some are n (Err Syntax) refl (bad_end l k bytes some are before (inside ts ps) rest a e (λ none. refl))
    inside_front before ts ps sum c m rest (Some (hex d, after)) a is parts low e = refuses l k bytes some are n (Err Syntax) refl (bad_token l k bytes some are before (inside ts ps) rest after (hex d) a e refl)
    inside_front before ts ps sum c m rest (Some (figures ds, after)) a is parts low e = refuses l k bytes some are n (Err Syntax) refl (bad_token l k bytes some are before (inside ts ps) rest after (figures ds) a e refl)
    inside_front before ts ps sum c m rest (Some (plus_sign, after)) a is parts low e = refuses l k bytes some are n (Err Syntax) refl (bad_token l k bytes some are before (inside ts ps) rest after plus_sign a e refl)
    inside_front before ts ps sum c m rest (Some (times_sign, after)) a is parts low e = refuses l k bytes some are n (Err Syntax) refl (bad_token l k bytes some are before (inside ts ps) rest after times_sign a e refl)
    inside_front before ts ps sum c m rest (Some (power_sign, after)) a is parts low e = refuses l k bytes some are n (Err Syntax) refl (bad_token l k bytes some are before (inside ts ps) rest after power_sign a e refl)
    inside_front before ts ps sum c m rest (Some (variable v, after)) a is parts low e =
        variable_comes before (inside ts ps) ts ps sum c m rest after a is parts low
        (λ u h. ap (λ b. cond b None (Some (enter ts ps u))) h) (λ u h. ap (λ b. cond b None (Some (enter ts ps u))) h) v e

    nothing_yet : ArePartsOf l [] 1 one
    nothing_yet = record { coefficient = refl; monomial = refl; tracks = tracks_nothing l are.few }

    start_front : (before : List Token) (ts : List (List Part)) (sum : Terms) (rest : List ℕ) (front : Front) → IsAt l k bytes some are before (start ts) rest → sum ≡ sum_of l [] ts → length rest ≤ n
        → token_front (skip rest) ≡ front → MayCome l k bytes some are (read_on n l k (term_in l k sum front))
    start_front before ts sum rest None a is low e = refuses l k bytes some are n (Err Syntax) refl (bad_end l k bytes some are before (start ts) rest a e (λ none. refl))
    start_front before ts sum rest (Some (plus_sign, after)) a is low e = refuses l k bytes some are n (Err Syntax) refl (bad_token l k bytes some are before (start ts) rest after plus_sign a e refl)
    start_front before ts sum rest (Some (times_sign, after)) a is low e = refuses l k bytes some are n (Err Syntax) refl (bad_token l k bytes some are before (start ts) rest after times_sign a e refl)
    start_front before ts sum rest (Some (power_sign, after)) a is low e = refuses l k bytes some are n (Err Syntax) refl (bad_token l k bytes some are before (start ts) rest after power_sign a e refl)
    start_front before ts sum rest (Some (variable v, after)) a is low e =
        variable_comes before (start ts) ts [] sum 1 one rest after a is nothing_yet low (λ u h. refl) (λ u h. (let bad : false ≡ true = h in absurd (cc))) v e
    start_front before ts sum rest (Some (hex d, after)) a is low e =
        (elim (nat_lt d (2 ^ k)) as (λ b. nat_lt d (2 ^ k) ≡ b → MayCome l k bytes some are (read_on n l k (cond b (next_at sum d one (skip after)) (Err Syntax)))) [
          | true ↦ λ f.
              let qs = number d ∷ [] in
              let there = forward l k bytes some are before (start ts) (closed ts qs) rest after (hex d) a e (ap (λ b. cond b (Some (closed ts qs)) None) f) refl in
              let parts : ArePartsOf l qs d one = record { coefficient = refl; monomial = refl; tracks = tracks_nothing l are.few } in
              next_comes l k bytes some are n goes_on (before ++ hex d ∷ []) (closed ts qs) ts qs sum d one after there (readied_closed l k bytes some are n goes_on ts qs) is parts refl (shorter l k bytes some are n goes_on rest after (hex d) e low) (λ after' g. refl)
          | false ↦ λ f. refuses l k bytes some are n (Err Syntax) refl (bad_token l k bytes some are before (start ts) rest after (hex d) a e (ap (λ b. cond b (Some (closed ts (number d ∷ []))) None) f))
        ]) refl
    start_front before ts sum rest (Some (figures ds, after)) a is low e =
        (elim (bytes_eq ds (48 ∷ [])) as (λ b. bytes_eq ds (48 ∷ []) ≡ b → MayCome l k bytes some are (read_on n l k (cond b (after_zero sum (skip after)) (Err Syntax)))) [
          | true ↦ λ f.
              let there = forward l k bytes some are before (start ts) (empty ts) rest after (figures ds) a e (ap (λ b. cond b (Some (empty ts)) None) f) refl in
              after_zero_comes l k bytes some are n goes_on (before ++ figures ds ∷ []) ts sum after there is (shorter l k bytes some are n goes_on rest after (figures ds) e low)
          | false ↦ λ f. refuses l k bytes some are n (Err Syntax) refl (bad_token l k bytes some are before (start ts) rest after (figures ds) a e (ap (λ b. cond b (Some (empty ts)) None) f))
        ]) refl

    one_turn : Goes l k bytes some are (suc n)
    one_turn = record {
      at_start = λ before ts sum rest a is low.
          let P : Result Progress PolyFault → Type 0 = λ r. MayCome l k bytes some are (read_on n l k r) in
          subst P (sym (term_is l k sum (skip rest))) (start_front before ts sum rest (token_front (skip rest)) a is (omega (arith, low)) refl);
      at_inside = λ before ts ps sum c m rest a is parts low.
          let P : Result Progress PolyFault → Type 0 = λ r. MayCome l k bytes some are (read_on n l k r) in
          subst P (sym (ap (λ (r : Scanned Variable). after_factor sum c (with_variable k m r)) (variable_is l (skip rest)))) (inside_front before ts ps sum c m rest (token_front (skip rest)) a is parts (omega (arith, low)) refl);
    }

  all_turns : (n : ℕ) → Goes l k bytes some are n
  all_turns zero = record { at_start = λ before ts sum rest a is low. absurd (omega (arith, low)); at_inside = λ before ts ps sum c m rest a is parts low. absurd (omega (arith, low)) }
  all_turns (suc n) = one_turn n (all_turns n)

  pub reading_comes : MayCome l k bytes some are (reading l k bytes)
  reading_comes = (all_turns (length bytes + 1)).at_start [] [] [] bytes (record { front = refl; goes_on = refl; known = tt }) refl (omega arith)
