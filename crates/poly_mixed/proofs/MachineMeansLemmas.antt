-- Where the machine goes on, some polynomial begins with what it read.
use Rattle.std.proofs.Common.{◌≡◌, ℕ, ◌<◌, ◌≤◌, ◌^◌, true, false, cond, ◌&&◌, List, [], ◌∷◌, ◌++◌, nat_lt, Option, Some, None, inl, inr, refl, sym, ◌∙◌, ap, subst, arith}
use Rattle.std.specs.Prelude.{bytes_eq}
use Rattle.std.specs.Option.{option_and_then}
use Rattle.std.proofs.Math.Nat.{pow-le-pow_right}
use Rattle.std.proofs.lemmas.Bool.{lt-ltb, ltb-true, and_parts}
use Rattle.std.proofs.lemmas.List.{append_assoc, append-nil}
use Rattle.std.proofs.lemmas.Slice.Eq.{bytes_eq-Decides}
use Rattle.text_core.specs.Numbers.{value_of}
use Rattle.poly_mixed.specs.Labels.{AreDifferent}
use Rattle.poly_mixed.specs.Token.{Named, word, bit, net, Token, variable, hex, figures, plus_sign, times_sign, power_sign}
use Rattle.poly_mixed.specs.Grammar.{Part, number, factor, IsFactor, IsPart, variables, IsInOrder, IsTerm, IsPolynomial, IsBeginning}
use Rattle.text_core.specs.Joined.{AreJoined}
use Rattle.text_core.proofs.JoinedLemmas.{AreClosed, none_closed, closed_last, joined_closed}
use Rattle.text_core.proofs.WalkLemmas.{walk_then}
use Rattle.poly_mixed.proofs.MachineLemmas.{State, start, inside, named, raised, closed, empty, has, enter, step, final, goes, different_then, order_then, top, above_all}

module _ (k : ℕ) where
  -- before the next factor of a term
  record IsInside (before : List Token) (done : List (List Part)) (ps : List Part) : Type 0 where
    pub pre : List Token
    pub mid : List Token
    pub at : before ≡ pre ++ mid
    pub terms : AreClosed plus_sign (IsTerm k) pre done
    pub parts : AreClosed times_sign (IsPart k) mid ps
    pub order : IsInOrder ps
    pub different : AreDifferent (variables ps)

  -- after a part of a term
  record IsClosed (before : List Token) (done : List (List Part)) (ps : List Part) : Type 0 where
    pub pre : List Token
    pub mid : List Token
    pub at : before ≡ pre ++ mid
    pub terms : AreClosed plus_sign (IsTerm k) pre done
    pub joined : AreJoined times_sign (IsPart k) mid ps
    pub order : IsInOrder ps
    pub different : AreDifferent (variables ps)

  -- after a term
  record IsEnded (before : List Token) (done : List (List Part)) (last : List Part) : Type 0 where
    pub pre : List Token
    pub mid : List Token
    pub at : before ≡ pre ++ mid
    pub terms : AreClosed plus_sign (IsTerm k) pre done
    pub term : IsTerm k mid last

  -- after a word, and the signs after it
  record IsNamed (before : List Token) (after : List Token) (done : List (List Part)) (ps : List Part) (n : List ℕ) : Type 0 where
    pub front : List Token
    pub at : before ≡ front ++ variable (word n) ∷ after
    pub inside_of : IsInside front done ps
    pub fresh : has (word n) (variables ps) ≡ false

  abbrev Means : List Token → State → Type 0
  Means before (start done) = AreClosed plus_sign (IsTerm k) before done
  Means before (inside done ps) = IsInside before done ps
  Means before (named done ps n) = IsNamed before [] done ps n
  Means before (raised done ps n) = IsNamed before (power_sign ∷ []) done ps n
  Means before (closed done ps) = IsClosed before done ps
  Means before (empty done) = IsEnded before done []

  moved : (s u : State) (before : List Token) → Some s ≡ Some u → Means before s → Means before u
  moved s u before e m = let same : s ≡ u = cc in let P : State → Type 0 = λ x. Means before x in subst P same m

  close : (front us before : List Token) (done : List (List Part)) (ps : List Part) (v : Named) (e : ℕ) → IsInside front done ps → IsFactor k us v e → has v (variables ps) ≡ false → before ≡ front ++ us → IsClosed before done (ps ++ factor v e ∷ [])
  close front us before done ps v e m is fresh at = record {
    pre = m.pre;
    mid = m.mid ++ us;
    at = at ∙ ap (λ (ys : List Token). ys ++ us) m.at ∙ append_assoc m.pre m.mid us;
    terms = m.terms;
    joined = closed_last times_sign (IsPart k) m.mid us ps (factor v e) m.parts is;
    order = order_then ps v e m.order;
    different = different_then ps v e m.different fresh;
  }

  entered : (before : List Token) (done : List (List Part)) (ps : List Part) (v : Named) → IsInside before done ps → has v (variables ps) ≡ false → Means (before ++ variable v ∷ []) (enter done ps v)
  entered before done ps (word n) m fresh = record { front = before; at = refl; inside_of = m; fresh = fresh }
  entered before done ps (bit n i) m fresh = close before (variable (bit n i) ∷ []) (before ++ variable (bit n i) ∷ []) done ps (bit n i) 1 m (refl, refl) fresh refl
  entered before done ps (net n) m fresh = close before (variable (net n) ∷ []) (before ++ variable (net n) ∷ []) done ps (net n) 1 m (refl, refl) fresh refl

  named_closed : (before : List Token) (done : List (List Part)) (ps : List Part) (n : List ℕ) → IsNamed before [] done ps n → IsClosed before done (ps ++ factor (word n) 1 ∷ [])
  named_closed before done ps n m = close m.front (variable (word n) ∷ []) before done ps (word n) 1 m.inside_of (inl (refl, refl)) m.fresh m.at

  opened : (before : List Token) (done : List (List Part)) (ps : List Part) → IsClosed before done ps → IsInside (before ++ times_sign ∷ []) done ps
  opened before done ps m = record {
    pre = m.pre;
    mid = m.mid ++ times_sign ∷ [];
    at = ap (λ (ys : List Token). ys ++ times_sign ∷ []) m.at ∙ append_assoc m.pre m.mid (times_sign ∷ []);
    terms = m.terms;
    parts = joined_closed times_sign (IsPart k) m.mid ps m.joined;
    order = m.order;
    different = m.different;
  }

  ended : (before : List Token) (done : List (List Part)) (ps : List Part) → IsClosed before done ps → IsEnded before done ps
  ended before done [] m = absurd m.joined
  ended before done (p ∷ ps) m = record { pre = m.pre; mid = m.mid; at = m.at; terms = m.terms; term = (m.joined, m.order, m.different) }

  whole_of : (before : List Token) (done : List (List Part)) (last : List Part) → IsEnded before done last → IsPolynomial k before (done ++ last ∷ [])
  whole_of before done last m = let P : List Token → Type 0 = λ ys. IsPolynomial k ys (done ++ last ∷ []) in subst P (sym m.at) (closed_last plus_sign (IsTerm k) m.pre m.mid done last m.terms m.term)

  next_term : (before : List Token) (done : List (List Part)) (last : List Part) → IsEnded before done last → AreClosed plus_sign (IsTerm k) (before ++ plus_sign ∷ []) (done ++ last ∷ [])
  next_term before done last m = joined_closed plus_sign (IsTerm k) before (done ++ last ∷ []) (whole_of before done last m)

  means_step : (s : State) (t : Token) (u : State) (before : List Token) → Means before s → step k s t ≡ Some u → Means (before ++ t ∷ []) u
  means_step (start done) (variable v) u before m e = moved (enter done [] v) u (before ++ variable v ∷ []) e (entered before done [] v (record { pre = before; mid = []; at = sym (append-nil before); terms = m; parts = none_closed times_sign (IsPart k); order = tt; different = tt }) refl)
  means_step (start done) (hex c) u before m e =
      elim (nat_lt c (2 ^ k)) as (λ b. nat_lt c (2 ^ k) ≡ b → cond b (Some (closed done (number c ∷ []))) None ≡ Some u → Means (before ++ hex c ∷ []) u) [
        | true ↦ λ is f. moved (closed done (number c ∷ [])) u (before ++ hex c ∷ []) f (record { pre = before; mid = hex c ∷ []; at = refl; terms = m; joined = (refl, ltb-true c (2 ^ k) is); order = tt; different = tt })
        | false ↦ λ is f. absurd (cc)
      ] refl e
  means_step (start done) (figures ds) u before m e =
      elim (bytes_eq ds (48 ∷ [])) as (λ b. bytes_eq ds (48 ∷ []) ≡ b → cond b (Some (empty done)) None ≡ Some u → Means (before ++ figures ds ∷ []) u) [
        | true ↦ λ is f. moved (empty done) u (before ++ figures ds ∷ []) f (record { pre = before; mid = figures ds ∷ []; at = refl; terms = m; term = (λ i. figures ((bytes_eq-Decides ds (48 ∷ [])).0 is i) ∷ []) })
        | false ↦ λ is f. absurd (cc)
      ] refl e
  means_step (start done) plus_sign u before m e = absurd (cc)
  means_step (start done) times_sign u before m e = absurd (cc)
  means_step (start done) power_sign u before m e = absurd (cc)
  means_step (inside done ps) (variable v) u before m e =
      elim (has v (variables ps)) as (λ b. has v (variables ps) ≡ b → cond b None (Some (enter done ps v)) ≡ Some u → Means (before ++ variable v ∷ []) u) [
        | true ↦ λ is f. absurd (cc)
        | false ↦ λ is f. moved (enter done ps v) u (before ++ variable v ∷ []) f (entered before done ps v m is)
      ] refl e
  means_step (inside done ps) (hex c) u before m e = absurd (cc)
  means_step (inside done ps) (figures ds) u before m e = absurd (cc)
  means_step (inside done ps) plus_sign u before m e = absurd (cc)
  means_step (inside done ps) times_sign u before m e = absurd (cc)
  means_step (inside done ps) power_sign u before m e = absurd (cc)
  means_step (named done ps n) (variable v) u before m e = absurd (cc)
  means_step (named done ps n) (hex c) u before m e = absurd (cc)
  means_step (named done ps n) (figures ds) u before m e = absurd (cc)
  means_step (named done ps n) plus_sign u before m e =
      let ps' = ps ++ factor (word n) 1 ∷ [] in
      moved (start (done ++ ps' ∷ [])) u (before ++ plus_sign ∷ []) e (next_term before done ps' (ended before done ps' (named_closed before done ps n m)))
  means_step (named done ps n) times_sign u before m e =
      moved (inside done (ps ++ factor (word n) 1 ∷ [])) u (before ++ times_sign ∷ []) e (opened before done (ps ++ factor (word n) 1 ∷ []) (named_closed before done ps n m))
  means_step (named done ps n) power_sign u before m e =
      moved (raised done ps n) u (before ++ power_sign ∷ []) e (record { front = m.front; at = ap (λ (xs : List Token). xs ++ power_sign ∷ []) m.at ∙ append_assoc m.front (variable (word n) ∷ []) (power_sign ∷ []); inside_of = m.inside_of; fresh = m.fresh })
  means_step (raised done ps n) (variable v) u before m e = absurd (cc)
  means_step (raised done ps n) (hex c) u before m e = absurd (cc)
  means_step (raised done ps n) (figures ds) u before m e =
      let v = value_of 10 ds in
      elim (nat_lt 0 v && nat_lt v (2 ^ k)) as (λ b. (nat_lt 0 v && nat_lt v (2 ^ k)) ≡ b → cond b (Some (closed done (ps ++ factor (word n) v ∷ []))) None ≡ Some u → Means (before ++ figures ds ∷ []) u) [
        | true ↦ λ is f.
            let both = and_parts (nat_lt 0 v) (nat_lt v (2 ^ k)) is in
            moved (closed done (ps ++ factor (word n) v ∷ [])) u (before ++ figures ds ∷ []) f
            (close m.front (variable (word n) ∷ power_sign ∷ figures ds ∷ []) (before ++ figures ds ∷ []) done ps (word n) v m.inside_of
            (inr (ds, refl, refl, ltb-true 0 v both.0, ltb-true v (2 ^ k) both.1)) m.fresh
            (ap (λ (xs : List Token). xs ++ figures ds ∷ []) m.at ∙ append_assoc m.front (variable (word n) ∷ power_sign ∷ []) (figures ds ∷ [])))
        | false ↦ λ is f. absurd (cc)
      ] refl e
  means_step (raised done ps n) plus_sign u before m e = absurd (cc)
  means_step (raised done ps n) times_sign u before m e = absurd (cc)
  means_step (raised done ps n) power_sign u before m e = absurd (cc)
  means_step (closed done ps) (variable v) u before m e = absurd (cc)
  means_step (closed done ps) (hex c) u before m e = absurd (cc)
  means_step (closed done ps) (figures ds) u before m e = absurd (cc)
  means_step (closed done ps) plus_sign u before m e = moved (start (done ++ ps ∷ [])) u (before ++ plus_sign ∷ []) e (next_term before done ps (ended before done ps m))
  means_step (closed done ps) times_sign u before m e = moved (inside done ps) u (before ++ times_sign ∷ []) e (opened before done ps m)
  means_step (closed done ps) power_sign u before m e = absurd (cc)
  means_step (empty done) (variable v) u before m e = absurd (cc)
  means_step (empty done) (hex c) u before m e = absurd (cc)
  means_step (empty done) (figures ds) u before m e = absurd (cc)
  means_step (empty done) plus_sign u before m e = moved (start (done ++ [] ∷ [])) u (before ++ plus_sign ∷ []) e (next_term before done [] m)
  means_step (empty done) times_sign u before m e = absurd (cc)
  means_step (empty done) power_sign u before m e = absurd (cc)

  means_goes : (ts : List Token) (s u : State) (before : List Token) → Means before s → goes k s ts ≡ Some u → Means (before ++ ts) u
  means_goes [] s u before m e = let P : List Token → Type 0 = λ ys. Means ys u in subst P (sym (append-nil before)) (moved s u before e m)
  means_goes (t ∷ ts) s u before m e =
      elim (step k s t) as (λ (o : Option State). step k s t ≡ o → option_and_then (λ v. goes k v ts) o ≡ Some u → Means (before ++ t ∷ ts) u) [
        | None ↦ λ is f. absurd (cc)
        | Some v ↦ λ is f. let P : List Token → Type 0 = λ ys. Means ys u in subst P (append_assoc before (t ∷ []) ts) (means_goes ts v u (before ++ t ∷ []) (means_step s t v before m is) f)
      ] refl e

  -- where the text may end, it is a polynomial
  means_whole : (s : State) (before : List Token) (terms : List (List Part)) → Means before s → final s ≡ Some terms → IsPolynomial k before terms
  means_whole (start done) before terms m e = absurd (cc)
  means_whole (inside done ps) before terms m e = absurd (cc)
  means_whole (named done ps n) before terms m e =
      let same : done ++ (ps ++ factor (word n) 1 ∷ []) ∷ [] ≡ terms = cc in
      let P : List (List Part) → Type 0 = IsPolynomial k before in
      subst P same (whole_of before done (ps ++ factor (word n) 1 ∷ []) (ended before done (ps ++ factor (word n) 1 ∷ []) (named_closed before done ps n m)))
  means_whole (raised done ps n) before terms m e = absurd (cc)
  means_whole (closed done ps) before terms m e =
      let same : done ++ ps ∷ [] ≡ terms = cc in
      let P : List (List Part) → Type 0 = IsPolynomial k before in
      subst P same (whole_of before done ps (ended before done ps m))
  means_whole (empty done) before terms m e =
      let same : done ++ [] ∷ [] ≡ terms = cc in
      let P : List (List Part) → Type 0 = IsPolynomial k before in
      subst P same (whole_of before done [] m)

  pub is_whole : (ts : List Token) (s : State) (terms : List (List Part)) → goes k (start []) ts ≡ Some s → final s ≡ Some terms → IsPolynomial k ts terms
  is_whole ts s terms e f = means_whole s ts terms (means_goes ts (start []) s [] (none_closed plus_sign (IsTerm k)) e) f

  -- each state has a shortest way on
  record IsCompleted (s : State) : Type 0 where
    pub rest : List Token
    pub state : State
    pub terms : List (List Part)
    pub goes_on : goes k s rest ≡ Some state
    pub end : final state ≡ Some terms

  completed : 1 ≤ k → (s : State) → IsCompleted s
  completed some (start done) = record { rest = figures (48 ∷ []) ∷ []; state = empty done; terms = done ++ [] ∷ []; goes_on = refl; end = refl }
  completed some (inside done ps) =
      let n = top (variables ps) in
      let qs = ps ++ factor (net n) 1 ∷ [] in
      record {
        rest = variable (net n) ∷ [];
        state = closed done qs;
        terms = done ++ qs ∷ [];
        goes_on = ap (λ b. option_and_then (λ u. goes k u []) (cond b None (Some (closed done qs)))) (above_all n (variables ps) (omega arith));
        end = refl;
      }
  completed some (named done ps n) = record { rest = []; state = named done ps n; terms = done ++ (ps ++ factor (word n) 1 ∷ []) ∷ []; goes_on = refl; end = refl }
  completed some (raised done ps n) =
      let less : 1 < 2 ^ k = (let le : 2 ^ 1 ≤ 2 ^ k = pow-le-pow_right (omega arith) some in omega (arith, le)) in
      let qs = ps ++ factor (word n) 1 ∷ [] in
      record {
        rest = figures (49 ∷ []) ∷ [];
        state = closed done qs;
        terms = done ++ qs ∷ [];
        goes_on = ap (λ b. option_and_then (λ u. goes k u []) (cond b (Some (closed done qs)) None)) (lt-ltb 1 (2 ^ k) less);
        end = refl;
      }
  completed some (closed done ps) = record { rest = []; state = closed done ps; terms = done ++ ps ∷ []; goes_on = refl; end = refl }
  completed some (empty done) = record { rest = []; state = empty done; terms = done ++ [] ∷ []; goes_on = refl; end = refl }

  pub goes_beginning : 1 ≤ k → (ts : List Token) (s : State) → goes k (start []) ts ≡ Some s → IsBeginning k ts
  goes_beginning some ts s e =
      let c = completed some s in
      (c.rest, c.terms, is_whole (ts ++ c.rest) c.state c.terms (walk_then (step k) (start []) s ts c.rest e ∙ c.goes_on) c.end)
