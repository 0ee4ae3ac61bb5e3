-- A machine that reads the tokens of a polynomial from left to right. It goes on exactly as long as some polynomial begins
-- with what it read.
use Rattle.std.proofs.Common.{◌≡◌, ◌≢◌, ℕ, suc, ◌+◌, ◌<◌, ◌≤◌, ◌^◌, Bool, true, false, cond, ◌&&◌, ◌||◌, List, [], ◌∷◌, ◌++◌, nat_eq, nat_lt, Option, Some, None, inl, inr, refl, sym, ◌∙◌, ap, subst, arith}
use Rattle.std.specs.Prelude.{bytes_eq}
use Rattle.std.specs.Option.{option_and_then}
use Rattle.std.specs.List.{AllByRecursion}
use Rattle.std.proofs.lemmas.Bool.{lt-ltb, and_parts, eqb-true, eq-eqb, ne_eqb}
use Rattle.std.proofs.lemmas.List.{append_assoc}
use Rattle.std.proofs.lemmas.Slice.Eq.{bytes_eq-Decides}
use Rattle.text_core.specs.Numbers.{value_of}
use Rattle.poly_mixed.specs.Labels.{Differs, AreDifferent}
use Rattle.poly_mixed.specs.Token.{Named, word, bit, net, Token, variable, hex, figures, plus_sign, times_sign, power_sign}
use Rattle.poly_mixed.specs.Grammar.{Part, number, factor, IsFactor, IsPart, IsVariable, variables, IsInOrder, IsTerm, IsPolynomial, IsBeginning}
use Rattle.text_core.specs.Joined.{AreJoined}
use Rattle.poly_mixed.proofs.TextLemmas.{all_more, different_more}
use Rattle.text_core.proofs.WalkLemmas.{walk, walk_then, walk_first}

-- a term is to come; a factor is to come; after a word; after `^`; after another part; after the term `0`
pub data State : Type 0 where
  start : List (List Part) → State
  inside : List (List Part) → List Part → State
  named : List (List Part) → List Part → List ℕ → State
  raised : List (List Part) → List Part → List ℕ → State
  closed : List (List Part) → List Part → State
  empty : List (List Part) → State

-- ---- names

abbrev pub same_name : Named → Named → Bool
same_name (word a) (word b) = bytes_eq a b
same_name (word a) (bit b j) = false
same_name (word a) (net n) = false
same_name (bit a i) (word b) = false
same_name (bit a i) (bit b j) = bytes_eq a b && nat_eq i j
same_name (bit a i) (net n) = false
same_name (net m) (word b) = false
same_name (net m) (bit b j) = false
same_name (net m) (net n) = nat_eq m n

abbrev pub has : Named → List Named → Bool
has v [] = false
has v (w ∷ ws) = same_name v w || has v ws

pub same_itself : (v : Named) → same_name v v ≡ true
same_itself (word a) = (bytes_eq-Decides a a).1 refl
same_itself (bit a i) = λ j. (bytes_eq-Decides a a).1 refl j && eq-eqb i i refl j
same_itself (net n) = eq-eqb n n refl

pub is_same : (v w : Named) → same_name v w ≡ true → v ≡ w
is_same (word a) (word b) e = ap word ((bytes_eq-Decides a b).0 e)
is_same (word a) (bit b j) e = absurd (cc)
is_same (word a) (net n) e = absurd (cc)
is_same (bit a i) (word b) e = absurd (cc)
is_same (bit a i) (bit b j) e = let both = and_parts (bytes_eq a b) (nat_eq i j) e in λ x. bit ((bytes_eq-Decides a b).0 both.0 x) (eqb-true i j both.1 x)
is_same (bit a i) (net n) e = absurd (cc)
is_same (net m) (word b) e = absurd (cc)
is_same (net m) (bit b j) e = absurd (cc)
is_same (net m) (net n) e = ap net (eqb-true m n e)

pub other_name : (v w : Named) → v ≢ w → same_name v w ≡ false
other_name v w ne = elim (same_name v w) as (λ b. same_name v w ≡ b → b ≡ false) [ true ↦ λ e. absurd (ne (is_same v w e)) | false ↦ λ e. refl ] refl

differs : (v : Named) (vs : List Named) → has v vs ≡ false → AllByRecursion (λ y. v ≢ y) vs
differs v [] e = tt
differs v (w ∷ ws) e =
    elim (same_name v w) as (λ b. same_name v w ≡ b → (b || has v ws) ≡ false → AllByRecursion (λ y. v ≢ y) (w ∷ ws)) [
      | true ↦ λ is f. absurd (cc)
      | false ↦ λ is f. ((λ same. let P : Named → Type 0 = λ x. same_name v x ≡ true in let bad : true ≡ false = sym (subst P same (same_itself v)) ∙ is in absurd (cc)), differs v ws f)
    ] refl e

flipped : (v : Named) (vs : List Named) → AllByRecursion (λ y. v ≢ y) vs → Differs v vs
flipped v vs d = d

pub variables_more : (ps : List Part) (v : Named) (e : ℕ) → variables (ps ++ factor v e ∷ []) ≡ variables ps ++ v ∷ []
variables_more [] v e = refl
variables_more (number c ∷ ps) v e = variables_more ps v e
variables_more (factor w d ∷ ps) v e = ap (λ ws. w ∷ ws) (variables_more ps v e)

-- a variable after others is none of them
apart_from : (w : Named) (ps : List Part) (v : Named) (e : ℕ) (more : List Part) → Differs w (variables (ps ++ factor v e ∷ more)) → w ≢ v
apart_from w [] v e more d = d.0
apart_from w (number c ∷ ps) v e more d = apart_from w ps v e more d
apart_from w (factor u x ∷ ps) v e more d = apart_from w ps v e more d.1

pub not_before : (ps : List Part) (v : Named) (e : ℕ) (more : List Part) → AreDifferent (variables (ps ++ factor v e ∷ more)) → has v (variables ps) ≡ false
not_before [] v e more d = refl
not_before (number c ∷ ps) v e more d = not_before ps v e more d
not_before (factor w x ∷ ps) v e more d =
    (λ i. other_name v w (λ same. apart_from w ps v e more d.0 (sym same)) i || has v (variables ps)) ∙ not_before ps v e more d.1

pub different_then : (ps : List Part) (v : Named) (e : ℕ) → AreDifferent (variables ps) → has v (variables ps) ≡ false → AreDifferent (variables (ps ++ factor v e ∷ []))
different_then ps v e d none = let P : List Named → Type 0 = AreDifferent in subst P (sym (variables_more ps v e)) (different_more (variables ps) v d (flipped v (variables ps) (differs v (variables ps) none)))

pub order_then : (ps : List Part) (v : Named) (e : ℕ) → IsInOrder ps → IsInOrder (ps ++ factor v e ∷ [])
order_then [] v e o = tt
order_then (p ∷ ps) v e o = all_more IsVariable ps (factor v e) o tt

-- a net that is none of these variables
abbrev pub top : List Named → ℕ
top [] = 0
top (word a ∷ vs) = top vs
top (bit a i ∷ vs) = top vs
top (net n ∷ vs) = suc (n + top vs)

pub above_all : (n : ℕ) (vs : List Named) → top vs ≤ n → has (net n) vs ≡ false
above_all n [] low = refl
above_all n (word a ∷ vs) low = above_all n vs low
above_all n (bit a i ∷ vs) low = above_all n vs low
above_all n (net m ∷ vs) low = (λ i. ne_eqb n m (λ e. omega (arith, e, low)) i || has (net n) vs) ∙ above_all n vs (omega (arith, low))

-- ---- the machine

abbrev pub enter : List (List Part) → List Part → Named → State
enter done ps (word n) = named done ps n
enter done ps (bit n i) = closed done (ps ++ factor (bit n i) 1 ∷ [])
enter done ps (net n) = closed done (ps ++ factor (net n) 1 ∷ [])

abbrev pub step : ℕ → State → Token → Option State
step k (start done) (variable v) = Some (enter done [] v)
step k (start done) (hex c) = cond (nat_lt c (2 ^ k)) (Some (closed done (number c ∷ []))) None
step k (start done) (figures ds) = cond (bytes_eq ds (48 ∷ [])) (Some (empty done)) None
step k (start done) plus_sign = None
step k (start done) times_sign = None
step k (start done) power_sign = None
step k (inside done ps) (variable v) = cond (has v (variables ps)) None (Some (enter done ps v))
step k (inside done ps) (hex c) = None
step k (inside done ps) (figures ds) = None
step k (inside done ps) plus_sign = None
step k (inside done ps) times_sign = None
step k (inside done ps) power_sign = None
step k (named done ps n) (variable v) = None
step k (named done ps n) (hex c) = None
step k (named done ps n) (figures ds) = None
step k (named done ps n) plus_sign = Some (start (done ++ (ps ++ factor (word n) 1 ∷ []) ∷ []))
step k (named done ps n) times_sign = Some (inside done (ps ++ factor (word n) 1 ∷ []))
step k (named done ps n) power_sign = Some (raised done ps n)
step k (raised done ps n) (variable v) = None
step k (raised done ps n) (hex c) = None
step k (raised done ps n) (figures ds) = cond (nat_lt 0 (value_of 10 ds) && nat_lt (value_of 10 ds) (2 ^ k)) (Some (closed done (ps ++ factor (word n) (value_of 10 ds) ∷ []))) None
step k (raised done ps n) plus_sign = None
step k (raised done ps n) times_sign = None
step k (raised done ps n) power_sign = None
step k (closed done ps) (variable v) = None
step k (closed done ps) (hex c) = None
step k (closed done ps) (figures ds) = None
step k (closed done ps) plus_sign = Some (start (done ++ ps ∷ []))
step k (closed done ps) times_sign = Some (inside done ps)
step k (closed done ps) power_sign = None
step k (empty done) (variable v) = None
step k (empty done) (hex c) = None
step k (empty done) (figures ds) = None
step k (empty done) plus_sign = Some (start (done ++ [] ∷ []))
step k (empty done) times_sign = None
step k (empty done) power_sign = None

-- the terms, where the text may end
abbrev pub final : State → Option (List (List Part))
final (start done) = None
final (inside done ps) = None
final (named done ps n) = Some (done ++ (ps ++ factor (word n) 1 ∷ []) ∷ [])
final (raised done ps n) = None
final (closed done ps) = Some (done ++ ps ∷ [])
final (empty done) = Some (done ++ [] ∷ [])

-- where tokens lead from a state
abbrev pub goes : ℕ → State → List Token → Option State
goes k s ts = walk (step k) s ts

-- ---- a polynomial makes the machine go

-- after a whole part
record IsReady (k : ℕ) (s : State) (done : List (List Part)) (ps : List Part) : Type 0 where
  pub times : step k s times_sign ≡ Some (inside done ps)
  pub plus : step k s plus_sign ≡ Some (start (done ++ ps ∷ []))
  pub end : final s ≡ Some (done ++ ps ∷ [])

-- after a whole term
record IsDone (k : ℕ) (s : State) (terms : List (List Part)) : Type 0 where
  pub plus : step k s plus_sign ≡ Some (start terms)
  pub end : final s ≡ Some terms

-- a state at which a part ends
record Readied (k : ℕ) (s : State) (ts : List Token) (done : List (List Part)) (ps : List Part) : Type 0 where
  pub state : State
  pub goes_on : goes k s ts ≡ Some state
  pub ready : IsReady k state done ps

record Ended (k : ℕ) (s : State) (ts : List Token) (terms : List (List Part)) : Type 0 where
  pub state : State
  pub goes_on : goes k s ts ≡ Some state
  pub done : IsDone k state terms

ready_closed : (k : ℕ) (done : List (List Part)) (ps : List Part) → IsReady k (closed done ps) done ps
ready_closed k done ps = record { times = refl; plus = refl; end = refl }

ready_named : (k : ℕ) (done : List (List Part)) (ps : List Part) (n : List ℕ) → IsReady k (named done ps n) done (ps ++ factor (word n) 1 ∷ [])
ready_named k done ps n = record { times = refl; plus = refl; end = refl }

module _ (k : ℕ) where
  one_factor : (s : State) (done : List (List Part)) (ps : List Part) (v : Named) (e : ℕ) (ts : List Token) → step k s (variable v) ≡ Some (enter done ps v) → IsFactor k ts v e → Readied k s ts done (ps ++ factor v e ∷ [])
  one_factor s done ps (word n) e ts first (inl is) =
      let P : ℕ → Type 0 = λ x. Readied k s ts done (ps ++ factor (word n) x ∷ []) in
      subst P (sym is.1) (record { state = named done ps n; goes_on = ap (goes k s) is.0 ∙ ap (λ (o : Option State). option_and_then (λ u. goes k u []) o) first; ready = ready_named k done ps n })
  one_factor s done ps (word n) e ts first (inr is) =
      let v = value_of 10 is.0 in
      let pos : 0 < v = (let P : ℕ → Type 0 = λ x. 0 < x in subst P is.2 is.3) in
      let low : v < 2 ^ k = (let P : ℕ → Type 0 = λ x. x < 2 ^ k in subst P is.2 is.4) in
      let P : ℕ → Type 0 = λ x. Readied k s ts done (ps ++ factor (word n) x ∷ []) in
      subst P (sym is.2) (record {
        state = closed done (ps ++ factor (word n) v ∷ []);
        goes_on = ap (goes k s) is.1
            ∙ ap (λ (o : Option State). option_and_then (λ u. goes k u (power_sign ∷ figures is.0 ∷ [])) o) first
            ∙ (λ i. option_and_then (λ u. goes k u []) (cond (lt-ltb 0 v pos i && lt-ltb v (2 ^ k) low i) (Some (closed done (ps ++ factor (word n) v ∷ []))) None));
        ready = ready_closed k done (ps ++ factor (word n) v ∷ []);
      })
  one_factor s done ps (bit n i) e ts first is =
      let P : ℕ → Type 0 = λ x. Readied k s ts done (ps ++ factor (bit n i) x ∷ []) in
      subst P (sym is.1) (record { state = closed done (ps ++ factor (bit n i) 1 ∷ []); goes_on = ap (goes k s) is.0 ∙ ap (λ (o : Option State). option_and_then (λ u. goes k u []) o) first; ready = ready_closed k done (ps ++ factor (bit n i) 1 ∷ []) })
  one_factor s done ps (net n) e ts first is =
      let P : ℕ → Type 0 = λ x. Readied k s ts done (ps ++ factor (net n) x ∷ []) in
      subst P (sym is.1) (record { state = closed done (ps ++ factor (net n) 1 ∷ []); goes_on = ap (goes k s) is.0 ∙ ap (λ (o : Option State). option_and_then (λ u. goes k u []) o) first; ready = ready_closed k done (ps ++ factor (net n) 1 ∷ []) })

  next_factor : (done : List (List Part)) (ps : List Part) (v : Named) (e : ℕ) (more : List Part) (ts : List Token) → AreDifferent (variables (ps ++ factor v e ∷ more)) → IsFactor k ts v e → Readied k (inside done ps) ts done (ps ++ factor v e ∷ [])
  next_factor done ps v e more ts d is =
      one_factor (inside done ps) done ps v e ts (ap (λ b. cond b None (Some (enter done ps v))) (not_before ps v e more d)) is

  -- parts after the first `*` of a term
  next_parts : (done : List (List Part)) (ps more : List Part) (ts : List Token) → AllByRecursion IsVariable more → AreDifferent (variables (ps ++ more)) → AreJoined times_sign (IsPart k) ts more → Readied k (inside done ps) ts done (ps ++ more)
  next_parts done ps [] ts all d is = absurd is
  next_parts done ps (number c ∷ more) ts all d is = absurd all.0
  next_parts done ps (factor v e ∷ []) ts all d is = next_factor done ps v e [] ts d is
  next_parts done ps (factor v e ∷ p ∷ more) ts all d is =
      let front = next_factor done ps v e (p ∷ more) is.0 d is.3 in
      let shape : (ps ++ factor v e ∷ []) ++ p ∷ more ≡ ps ++ factor v e ∷ p ∷ more = append_assoc ps (factor v e ∷ []) (p ∷ more) in
      let D : List Part → Type 0 = λ qs. AreDifferent (variables qs) in
      let rest = next_parts done (ps ++ factor v e ∷ []) (p ∷ more) is.1 all.1 (subst D (sym shape) d) is.4 in
      let P : List Part → Type 0 = λ qs. Readied k (inside done ps) ts done qs in
      subst P shape (record {
        state = rest.state;
        goes_on = ap (goes k (inside done ps)) is.2 ∙ walk_then (step k) (inside done ps) front.state is.0 (times_sign ∷ is.1) front.goes_on
            ∙ ap (λ (o : Option State). option_and_then (λ u. goes k u is.1) o) front.ready.times ∙ rest.goes_on;
        ready = rest.ready;
      })

  first_part : (done : List (List Part)) (p : Part) (ts : List Token) → IsPart k ts p → Readied k (start done) ts done (p ∷ [])
  first_part done (number c) ts is = record {
    state = closed done (number c ∷ []);
    goes_on = ap (goes k (start done)) is.0 ∙ ap (λ b. option_and_then (λ u. goes k u []) (cond b (Some (closed done (number c ∷ []))) None)) (lt-ltb c (2 ^ k) is.1);
    ready = ready_closed k done (number c ∷ []);
  }
  first_part done (factor v e) ts is = one_factor (start done) done [] v e ts refl is

  one_term : (done : List (List Part)) (term : List Part) (ts : List Token) → IsTerm k ts term → Ended k (start done) ts (done ++ term ∷ [])
  one_term done [] ts is = record { state = empty done; goes_on = ap (goes k (start done)) is; done = record { plus = refl; end = refl } }
  one_term done (p ∷ []) ts is =
      let first = first_part done p ts is.0 in
      record { state = first.state; goes_on = first.goes_on; done = record { plus = first.ready.plus; end = first.ready.end } }
  one_term done (p ∷ q ∷ more) ts is =
      let joined = is.0 in
      let first = first_part done p joined.0 joined.3 in
      let rest = next_parts done (p ∷ []) (q ∷ more) joined.1 is.1 is.2 joined.4 in
      record {
        state = rest.state;
        goes_on = ap (goes k (start done)) joined.2 ∙ walk_then (step k) (start done) first.state joined.0 (times_sign ∷ joined.1) first.goes_on
            ∙ ap (λ (o : Option State). option_and_then (λ u. goes k u joined.1) o) first.ready.times ∙ rest.goes_on;
        done = record { plus = rest.ready.plus; end = rest.ready.end };
      }

  -- where it stands at the end of a polynomial
  record IsWhole (done : List (List Part)) (ts : List Token) (terms : List (List Part)) : Type 0 where
    pub state : State
    pub goes_on : goes k (start done) ts ≡ Some state
    pub end : final state ≡ Some (done ++ terms)

  one_whole : (done terms : List (List Part)) (ts : List Token) → IsPolynomial k ts terms → IsWhole done ts terms
  one_whole done [] ts is = absurd is
  one_whole done (t ∷ []) ts is = let term = one_term done t ts is in record { state = term.state; goes_on = term.goes_on; end = term.done.end }
  one_whole done (t ∷ u ∷ more) ts is =
      let first = one_term done t is.0 is.3 in
      let rest = one_whole (done ++ t ∷ []) (u ∷ more) is.1 is.4 in
      record {
        state = rest.state;
        goes_on = ap (goes k (start done)) is.2 ∙ walk_then (step k) (start done) first.state is.0 (plus_sign ∷ is.1) first.goes_on
            ∙ ap (λ (o : Option State). option_and_then (λ v. goes k v is.1) o) first.done.plus ∙ rest.goes_on;
        end = rest.end ∙ ap Some (append_assoc done (t ∷ []) (u ∷ more));
      }

  some_is : {A : Type 0} (x y : A) → Some x ≡ Some y → x ≡ y
  some_is x y e = cc

  -- the grammar is not ambiguous
  pub one_polynomial : (ts : List Token) (terms others : List (List Part)) → IsPolynomial k ts terms → IsPolynomial k ts others → terms ≡ others
  one_polynomial ts terms others a b =
      let x = one_whole [] terms ts a in
      let y = one_whole [] others ts b in
      let same : x.state ≡ y.state = some_is x.state y.state (sym x.goes_on ∙ y.goes_on) in
      some_is terms others (sym x.end ∙ ap final same ∙ y.end)

  -- the machine is at the end of a polynomial exactly with its terms
  pub whole_ends : (ts : List Token) (terms : List (List Part)) (s : State) → IsPolynomial k ts terms → goes k (start []) ts ≡ Some s → final s ≡ Some terms
  whole_ends ts terms s a e =
      let x = one_whole [] terms ts a in
      let same : s ≡ x.state = some_is s x.state (sym e ∙ x.goes_on) in
      ap final same ∙ x.end

  pub beginning_goes : (ts : List Token) → IsBeginning k ts → (s : State) × (goes k (start []) ts ≡ Some s)
  beginning_goes ts is = let x = one_whole [] is.1 (ts ++ is.0) is.2 in walk_first (step k) (start []) x.state ts is.0 x.goes_on
