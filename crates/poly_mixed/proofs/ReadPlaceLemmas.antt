-- Where the machine stands in a text that is read, and what may come of the text there.
use Rattle.std.proofs.Common.{◌≡◌, inl, inr, ℕ, ◌<◌, ◌≤◌, true, false, List, [], ◌∷◌, ◌++◌, length, Option, Some, None, Result, Ok, Err, refl, sym, ◌∙◌, ap, subst}
use Rattle.std.specs.Option.{option_and_then}
use Rattle.std.specs.List.{AllByRecursion}
use Rattle.poly_mixed.specs.Labels.{Labelling, AreLabels}
use Rattle.poly_mixed.specs.Monomial.{Monomial}
use Rattle.poly_mixed.specs.Polynomial.{Terms}
use Rattle.text_core.specs.Scan.{skip}
use Rattle.poly_mixed.specs.Token.{Token, Front, token_front, AreFront}
use Rattle.poly_mixed.specs.Grammar.{Part, variables}
use Rattle.poly_mixed.specs.Said.{one, monomial_of, coefficient_of, sum_of}
use Rattle.poly_mixed.specs.TextOutcome.{TextFault, no_polynomial, no_such_net, no_such_bit, name_fault, IsSoFar, IsRefusedAt, IsRefused, IsRead}
use Rattle.poly_mixed.specs.private.Reading.{Progress, more, read_on}
use Rattle.poly_mixed.specs.declared.fault.PolyFault.{PolyFault}
use Rattle.poly_mixed.specs.declared.fault.PolyFault.TheVariants.{Syntax, NoSuchNet, NoSuchBit, OutOfMemory}
use Rattle.poly_mixed.proofs.PartLemmas.{err_on}
use Rattle.poly_mixed.proofs.TextLemmas.{all_more}
use Rattle.text_core.proofs.WalkLemmas.{walk_then}
use Rattle.poly_mixed.proofs.MachineLemmas.{State, start, inside, step, final, goes, whole_ends, beginning_goes}
use Rattle.poly_mixed.proofs.MachineMeansLemmas.{is_whole, goes_beginning}
use Rattle.poly_mixed.proofs.TrackLemmas.{Tracks}

-- the coefficient and the monomial of the parts of a term that were read
pub record ArePartsOf (l : Labelling) (ps : List Part) (c : ℕ) (m : Monomial) : Type 0 where
  pub coefficient : c ≡ coefficient_of ps
  pub monomial : m ≡ monomial_of l one ps
  pub tracks : Tracks l (variables ps) m

module _ (l : Labelling) (k : ℕ) (bytes : List ℕ) (some : 1 ≤ k) (are : AreLabels l) where
  -- what may come, in the code's faults
  abbrev pub MayCome : Result Terms PolyFault → Type 0
  MayCome (Ok said) = IsRead l k bytes said
  MayCome (Err Syntax) = IsRefused l k bytes no_polynomial
  MayCome (Err NoSuchNet) = IsRefused l k bytes no_such_net
  MayCome (Err NoSuchBit) = IsRefused l k bytes no_such_bit
  MayCome (Err OutOfMemory) = ⊥

  -- after these tokens the machine is in this state, and this is left
  pub record IsAt (before : List Token) (s : State) (rest : List ℕ) : Type 0 where
    pub front : AreFront bytes before rest
    pub goes_on : goes k (start []) before ≡ Some s
    pub known : AllByRecursion (λ t. name_fault l t ≡ None) before

  front_more : (bs : List ℕ) (before : List Token) (rest after : List ℕ) (t : Token) → AreFront bs before rest → token_front (skip rest) ≡ Some (t, after) → AreFront bs (before ++ t ∷ []) after
  front_more bs [] rest after t a e = (after, ap (λ (xs : List ℕ). token_front (skip xs)) (sym a) ∙ e, refl)
  front_more bs (x ∷ before) rest after t a e = (a.0, a.1, front_more a.0 before rest after t a.2 e)

  goes_more : (before : List Token) (s u : State) (t : Token) → goes k (start []) before ≡ Some s → step k s t ≡ Some u → goes k (start []) (before ++ t ∷ []) ≡ Some u
  goes_more before s u t e f = walk_then (step k) (start []) s before (t ∷ []) e ∙ ap (λ (o : Option State). option_and_then (λ v. goes k v []) o) f

  pub forward : (before : List Token) (s u : State) (rest after : List ℕ) (t : Token) → IsAt before s rest → token_front (skip rest) ≡ Some (t, after) → step k s t ≡ Some u → name_fault l t ≡ None → IsAt (before ++ t ∷ []) u after
  forward before s u rest after t a e f n = record {
    front = front_more bytes before rest after t a.front e;
    goes_on = goes_more before s u t a.goes_on f;
    known = all_more (λ x. name_fault l x ≡ None) before t a.known n;
  }

  so_far : (before : List Token) (s : State) (rest : List ℕ) → IsAt before s rest → IsSoFar l k bytes before rest
  so_far before s rest a = record { front = a.front; fits = goes_beginning k some before s a.goes_on; known = a.known }

  pub bad_token : (before : List Token) (s : State) (rest after : List ℕ) (t : Token) → IsAt before s rest → token_front (skip rest) ≡ Some (t, after) → step k s t ≡ None → IsRefused l k bytes no_polynomial
  bad_token before s rest after t a e f =
      let P : Front → Type 0 = λ x. IsRefusedAt l k before (skip rest) x no_polynomial in
      record {
        before = before;
        rest = rest;
        so_far = so_far before s rest a;
        refused = subst P (sym e) (inl (
          refl,
          λ is.
              let found = beginning_goes k (before ++ t ∷ []) is in
              let stops : goes k (start []) (before ++ t ∷ []) ≡ None = walk_then (step k) (start []) s before (t ∷ []) a.goes_on ∙ ap (λ (o : Option State). option_and_then (λ v. goes k v []) o) f in
              let bad : None ≡ Some found.0 = sym stops ∙ found.1 in
              absurd (cc),
        ));
      }

  pub bad_name : (before : List Token) (s u : State) (rest after : List ℕ) (t : Token) (fault : TextFault) → IsAt before s rest → token_front (skip rest) ≡ Some (t, after) → step k s t ≡ Some u → name_fault l t ≡ Some fault → IsRefused l k bytes fault
  bad_name before s u rest after t fault a e f n =
      let P : Front → Type 0 = λ x. IsRefusedAt l k before (skip rest) x fault in
      record {
        before = before;
        rest = rest;
        so_far = so_far before s rest a;
        refused = subst P (sym e) (inr (goes_beginning k some (before ++ t ∷ []) u (goes_more before s u t a.goes_on f), n));
      }

  pub bad_end : (before : List Token) (s : State) (rest : List ℕ) → IsAt before s rest → token_front (skip rest) ≡ None → (skip rest ≡ [] → final s ≡ None) → IsRefused l k bytes no_polynomial
  bad_end before s rest a e f =
      let P : Front → Type 0 = λ x. IsRefusedAt l k before (skip rest) x no_polynomial in
      record {
        before = before;
        rest = rest;
        so_far = so_far before s rest a;
        refused = subst P (sym e) (refl, λ none terms grammar. (let bad : None ≡ Some terms = sym (f none) ∙ whole_ends k before terms s grammar a.goes_on in absurd (cc)));
      }

  pub accepted : (before : List Token) (s : State) (rest : List ℕ) (terms : List (List Part)) (said : Terms) → IsAt before s rest → skip rest ≡ [] → final s ≡ Some terms → said ≡ sum_of l [] terms → IsRead l k bytes said
  accepted before s rest terms said a none e is = record {
    tokens = before;
    rest = rest;
    so_far = so_far before s rest a;
    whole = none;
    terms = terms;
    grammar = is_whole k before s terms a.goes_on e;
    said_is = is;
  }

  pub refuses : (n : ℕ) (said : Result Progress PolyFault) → said ≡ Err Syntax → IsRefused l k bytes no_polynomial → MayCome (read_on n l k said)
  refuses n said e is = let P : Result Terms PolyFault → Type 0 = MayCome in subst P (sym (ap (read_on n l k) e ∙ err_on n l k Syntax)) is

  -- reading with n more turns
  pub record Goes (n : ℕ) : Type 0 where
    pub at_start : (before : List Token) (ts : List (List Part)) (sum : Terms) (rest : List ℕ) → IsAt before (start ts) rest → sum ≡ sum_of l [] ts → length rest < n → MayCome (read_on n l k (Ok (more true sum 1 one rest)))
    pub at_inside : (before : List Token) (ts : List (List Part)) (ps : List Part) (sum : Terms) (c : ℕ) (m : Monomial) (rest : List ℕ) → IsAt before (inside ts ps) rest → sum ≡ sum_of l [] ts → ArePartsOf l ps c m → length rest < n → MayCome (read_on n l k (Ok (more false sum c m rest)))
