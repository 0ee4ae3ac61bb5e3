-- Candidates found by their keys.
use Rattle.std.proofs.Common.{◌≡◌, ◌∙◌, ap, sym, refl, subst, ℕ, zero, suc, ◌<◌, ◌≤◌, ◌+◌, ◌-◌, Bool, true, false, ◌&&◌, ◌⊎◌, inl, inr, List, [], ◌∷◌, length, drop, set, Option, None, Some, if◌then◌else◌, arith, add-one, drop_of_length-le}
use Rattle.std.specs.Prelude.{slice_get, ◌==◌}
use Rattle.std.proofs.lemmas.List.{length-set}
use Rattle.std.proofs.lemmas.Option.{slice_get_within}
use Rattle.std.specs.Str.{bytes_eq}
use Rattle.std.proofs.lemmas.Bool.{eq-eqb, eqb-true, cases_lt}
use Rattle.std.proofs.lemmas.Slice.Eq.{bytes_eq-Decides}
use Rattle.lists.specs.Lists.{Has}
use Rattle.lists.specs.laws.ReadLaws.{get_set_other, get_set_same, get_below}
use Rattle.lists.specs.laws.TakeLaws.{dropped_at, get_drop}
use Rattle.net_blif.specs.Statement.{Token}
use Rattle.net_blif.specs.Table.{no_numbers, with_number, Numbers}
use Rattle.compose_model.specs.declared.feeder.Feeder.{Feeder}
use Rattle.compose_wiring.specs.private.Keys.{key_of}
use Rattle.compose_wiring.specs.private.Linked.{first_from, is_on, its_key, same_elements, LeadOn}
use Rattle.compose_wiring.specs.private.Names.{same_names}
use Rattle.compose_wiring.specs.private.Plain.{CandidateValue, IsFirstOn}
use Rattle.compose_wiring.proofs.NamesLemmas.{same_itself, same_means}

-- ---- the first one of a key

first_here : (n : ℕ) (c : CandidateValue) (cs : List CandidateValue) (key : Token) (b : Bool) → bytes_eq (its_key c) key ≡ b → first_from n (c ∷ cs) key ≡ (if b then Some n else first_from (n + 1) cs key)
first_here n c cs key b is = ap (λ d. if d then Some n else first_from (n + 1) cs key) is

-- a candidate that is found first among some, from number n on
pub record IsFirstOf (n : ℕ) (cs : List CandidateValue) (key : Token) (p : ℕ) : Type 0 where
  pub j : ℕ
  pub place : p ≡ n + j
  pub candidate : CandidateValue
  pub at : slice_get cs j ≡ Some candidate
  pub keyed : its_key candidate ≡ key
  pub first : (i : ℕ) (other : CandidateValue) → i < j → slice_get cs i ≡ Some other → its_key other ≡ key → ⊥

pub first_some : (n : ℕ) (cs : List CandidateValue) (key : Token) (p : ℕ) → first_from n cs key ≡ Some p → IsFirstOf n cs key p
first_some n [] key p e = absurd (cc)
first_some n (c ∷ cs) key p e = parts (bytes_eq (its_key c) key) refl (first_some (n + 1) cs key p)
  where
    parts : (b : Bool) → bytes_eq (its_key c) key ≡ b → (first_from (n + 1) cs key ≡ Some p → IsFirstOf (n + 1) cs key p) → IsFirstOf n (c ∷ cs) key p
    parts true is given =
        let same : Some n ≡ Some p = sym (first_here n c cs key true is) ∙ e in
        let at : n ≡ p = cc in
        record { j = 0; place = omega (arith, at); candidate = c; at = refl; keyed = (bytes_eq-Decides (its_key c) key).0 is; first = λ i other less got keyed. absurd (omega (arith, less)) }
    parts false is given =
        let more : IsFirstOf (n + 1) cs key p = given (sym (first_here n c cs key false is) ∙ e) in
        record { j = suc more.j; place = omega (arith, more.place); candidate = more.candidate; at = more.at; keyed = more.keyed; first = before more }
      where
        before : (more : IsFirstOf (n + 1) cs key p) (i : ℕ) (other : CandidateValue) → i < suc more.j → slice_get (c ∷ cs) i ≡ Some other → its_key other ≡ key → ⊥
        before more zero other less got keyed =
            let same : c ≡ other = cc in
            let yes_it_is : bytes_eq (its_key c) key ≡ true = (bytes_eq-Decides (its_key c) key).1 (ap its_key same ∙ keyed) in
            let both : true ≡ false = sym yes_it_is ∙ is in
            absurd (cc)
        before more (suc i) other less got keyed = more.first i other (omega (arith, less)) got keyed

pub first_none : (n : ℕ) (cs : List CandidateValue) (key : Token) → first_from n cs key ≡ None → (i : ℕ) (other : CandidateValue) → slice_get cs i ≡ Some other → its_key other ≡ key → ⊥
first_none n [] key e i other got keyed = absurd (cc)
first_none n (c ∷ cs) key e i other got keyed = parts (bytes_eq (its_key c) key) refl (λ none j at. first_none (n + 1) cs key none j other at keyed)
  where
    after : (j : ℕ) → bytes_eq (its_key c) key ≡ false → slice_get (c ∷ cs) j ≡ Some other → (first_from (n + 1) cs key ≡ None → (m : ℕ) → slice_get cs m ≡ Some other → ⊥) → ⊥
    after zero is got given =
        let same : c ≡ other = cc in
        let yes_it_is : bytes_eq (its_key c) key ≡ true = (bytes_eq-Decides (its_key c) key).1 (ap its_key same ∙ keyed) in
        let both : true ≡ false = sym yes_it_is ∙ is in
        absurd (cc)
    after (suc j) is got given = given (sym (first_here n c cs key false is) ∙ e) j got

    parts : (b : Bool) → bytes_eq (its_key c) key ≡ b → (first_from (n + 1) cs key ≡ None → (m : ℕ) → slice_get cs m ≡ Some other → ⊥) → ⊥
    parts true is given = let same : Some n ≡ None = sym (first_here n c cs key true is) ∙ e in absurd (cc)
    parts false is given = after i is got given

-- ---- links

pub linked_none : (cs : List CandidateValue) (n : ℕ) (next : List (Option ℕ)) → n ≡ length cs → length next ≡ length cs → (no_numbers ≡ first_from n (drop n cs)) × LeadOn n cs next
linked_none cs n next is long =
    let past : drop n cs ≡ [] = drop_of_length-le cs {i = n} (omega (arith, is)) in
    (ap (first_from n) (sym past), record { long = long; each = λ q j c at got. absurd (beyond q j c at got) })
  where
    beyond : (q j : ℕ) (c : CandidateValue) → q ≡ n + j → slice_get cs q ≡ Some c → ⊥
    beyond q j c at got = let less : q < length cs = slice_get_within cs q c got in omega (arith, less, at, is)

pub linked_step : (cs : List CandidateValue) (n p : ℕ) (c : CandidateValue) (firsts firsts_new : Numbers) (next next_new : List (Option ℕ)) → n ≡ p + 1 → slice_get cs p ≡ Some c → firsts ≡ first_from n (drop n cs) → LeadOn n cs next
    → firsts_new ≡ with_number firsts (its_key c) p → next_new ≡ set next p (firsts (its_key c)) → (firsts_new ≡ first_from p (drop p cs)) × LeadOn p cs next_new
linked_step cs n p c firsts firsts_new next next_new after got is leads made written =
    let here : drop p cs ≡ c ∷ drop n cs = dropped_at cs p c got ∙ ap (λ m. c ∷ drop m cs) (sym (after ∙ add-one p)) in (
      made ∙ ap (λ f. with_number f (its_key c) p) (is ∙ ap (λ m. first_from m (drop n cs)) after) ∙ ap (first_from p) (sym here),
      record { long = ap length written ∙ length-set next p (firsts (its_key c)) ∙ leads.long; each = each },
    )
  where
    value_is : firsts (its_key c) ≡ first_from (p + 1) (drop (p + 1) cs) (its_key c)
    value_is = ap (λ (f : Numbers). f (its_key c)) is ∙ ap (λ m. first_from m (drop m cs) (its_key c)) after

    each : (q j : ℕ) (d : CandidateValue) → q ≡ p + j → slice_get cs q ≡ Some d → slice_get next_new q ≡ Some (first_from (q + 1) (drop (q + 1) cs) (its_key d))
    each q zero d at found =
        let same_place : p ≡ q = omega (arith, at) in
        let P : ℕ → Type 0 = λ m. slice_get cs m ≡ Some d in
        let found_here : slice_get cs p ≡ Some d = subst P (sym same_place) found in
        let same : c ≡ d = cc in
        let less : p < length next = omega (arith, leads.long, slice_get_within cs p c got) in
        let old = get_below next p less in
        let Q : ℕ → Type 0 = λ m. slice_get next_new m ≡ Some (first_from (m + 1) (drop (m + 1) cs) (its_key d)) in
        subst Q same_place (ap (λ ns. slice_get ns p) written ∙ get_set_same next p old.0 (firsts (its_key c)) old.1 ∙ ap Some (value_is ∙ ap (λ (e : CandidateValue). first_from (p + 1) (drop (p + 1) cs) (its_key e)) same))
    each q (suc j) d at found =
        let old = leads.each q j d (omega (arith, at, after)) found in
        ap (λ ns. slice_get ns q) written ∙ get_set_other next p (firsts (its_key c)) q (first_from (q + 1) (drop (q + 1) cs) (its_key d)) (λ e. omega (arith, at, e)) old

-- ---- the search

-- no candidate before number `start` is on these nets, and `at` is the first with their key from there on
pub record IsSearch (cs : List CandidateValue) (nets : List Token) (basis : List ℕ) (at : Option ℕ) : Type 0 where
  pub start : ℕ
  pub at_is : at ≡ first_from start (drop start cs) (key_of nets basis)
  pub before : (q : ℕ) (d : CandidateValue) → q < start → slice_get cs q ≡ Some d → is_on nets basis d ≡ true → ⊥

-- how many candidates are left
abbrev pub left_after : ℕ → Option ℕ → ℕ
left_after count None = 0
left_after count (Some p) = count - p

elements_mean : (xs ys : List ℕ) → same_elements xs ys ≡ true → xs ≡ ys
elements_mean [] [] e = refl
elements_mean [] (y ∷ ys) e = absurd (cc)
elements_mean (x ∷ xs) [] e = absurd (cc)
elements_mean (x ∷ xs) (y ∷ ys) e = parts (x == y) refl e (elements_mean xs ys)
  where
    parts : (b : Bool) → (x == y) ≡ b → (b && same_elements xs ys) ≡ true → (same_elements xs ys ≡ true → xs ≡ ys) → x ∷ xs ≡ y ∷ ys
    parts true is more given = let here : x ≡ y = eqb-true x y is in let rest : xs ≡ ys = given more in λ i. here i ∷ rest i
    parts false is more given = absurd (cc)

-- a candidate on these nets and with this basis
found_on : (nets : List Token) (basis : List ℕ) (d : CandidateValue) (feed : Feeder) → feed ≡ d.feed → is_on nets basis d ≡ true → d ≡ record { feed = feed; nets = nets; basis = basis }
found_on nets basis d feed same on = parts (same_names d.nets nets) refl on
  where
    parts : (b : Bool) → same_names d.nets nets ≡ b → (b && same_elements d.basis basis) ≡ true → d ≡ record { feed = feed; nets = nets; basis = basis }
    parts true is more = let here : d.nets ≡ nets = same_means d.nets nets is in let rest : d.basis ≡ basis = elements_mean d.basis basis more in λ i. record { feed = sym same i; nets = here i; basis = rest i }
    parts false is more = absurd (cc)

-- what is on nets has their key
on_keyed : (nets : List Token) (basis : List ℕ) (d : CandidateValue) → is_on nets basis d ≡ true → its_key d ≡ key_of nets basis
on_keyed nets basis d on = ap its_key (found_on nets basis d d.feed refl on)

elements_itself : (xs : List ℕ) → same_elements xs xs ≡ true
elements_itself [] = refl
elements_itself (x ∷ xs) = ap (λ b. b && same_elements xs xs) (eq-eqb x x refl) ∙ elements_itself xs

-- what stands on nets is on them
pub on_itself : (nets : List Token) (basis : List ℕ) (feed : Feeder) → is_on nets basis (record { feed = feed; nets = nets; basis = basis }) ≡ true
on_itself nets basis feed = ap (λ b. b && same_elements basis basis) (same_itself nets) ∙ elements_itself basis

module _ (cs : List CandidateValue) (nets : List Token) (basis : List ℕ) where
  -- the candidate of the search
  pub search_at : (p : ℕ) → IsSearch cs nets basis (Some p) → (c : CandidateValue) × (slice_get cs p ≡ Some c) × (its_key c ≡ key_of nets basis)
  search_at p state =
      let found = first_some state.start (drop state.start cs) (key_of nets basis) p (sym state.at_is) in
      (found.candidate, ap (slice_get cs) found.place ∙ sym (get_drop state.start cs found.j) ∙ found.at, found.keyed)

  -- no candidate before that of the search is on these nets
  search_before : (p : ℕ) → IsSearch cs nets basis (Some p) → (q : ℕ) (d : CandidateValue) → q < p → slice_get cs q ≡ Some d → is_on nets basis d ≡ true → ⊥
  search_before p state q d less found on = cases (cases_lt q state.start)
    where
      found_first : IsFirstOf state.start (drop state.start cs) (key_of nets basis) p
      found_first = first_some state.start (drop state.start cs) (key_of nets basis) p (sym state.at_is)

      cases : (q < state.start) ⊎ (state.start ≤ q) → ⊥
      cases (inl early) = state.before q d early found on
      cases (inr late) =
          let i : ℕ = q - state.start in
          let place : q ≡ state.start + i = omega (arith, late) in
          found_first.first i d (omega (arith, place, found_first.place, less)) (get_drop state.start cs i ∙ ap (slice_get cs) (sym place) ∙ found) (on_keyed nets basis d on)

  -- the candidate of the search is the first on these nets, if it is on them
  pub search_found : (p : ℕ) (c : CandidateValue) (feed : Feeder) → IsSearch cs nets basis (Some p) → slice_get cs p ≡ Some c → feed ≡ c.feed → is_on nets basis c ≡ true → IsFirstOn cs nets basis feed
  search_found p c feed state got same on =
      record {
        place = p;
        at = got ∙ ap Some (found_on nets basis c feed same on);
        before = λ q other less found. search_before p state q (record { feed = other; nets = nets; basis = basis }) less found (on_itself nets basis other);
      }

  -- one candidate more is not on these nets
  pub search_on : (next : List (Option ℕ)) (p : ℕ) (c : CandidateValue) (at : Option ℕ) → LeadOn 0 cs next → IsSearch cs nets basis (Some p) → slice_get cs p ≡ Some c → is_on nets basis c ≡ false → slice_get next p ≡ Some at
      → IsSearch cs nets basis at × (left_after (length cs) at < left_after (length cs) (Some p))
  search_on next p c at links state got off leads =
      let known = search_at p state in
      let here : slice_get cs p ≡ Some known.0 = known.1 in
      let same : known.0 ≡ c = cc in
      let same_key : its_key c ≡ key_of nets basis = ap its_key (sym same) ∙ known.2 in
      let told : slice_get next p ≡ Some (first_from (p + 1) (drop (p + 1) cs) (its_key c)) = links.each p p c (omega arith) got in
      let at_is : at ≡ first_from (p + 1) (drop (p + 1) cs) (its_key c) = cc in
      let at_keyed : at ≡ first_from (p + 1) (drop (p + 1) cs) (key_of nets basis) = at_is ∙ ap (first_from (p + 1) (drop (p + 1) cs)) same_key in
      (record { start = p + 1; at_is = at_keyed; before = before }, smaller at at_keyed)
    where
      before : (q : ℕ) (d : CandidateValue) → q < p + 1 → slice_get cs q ≡ Some d → is_on nets basis d ≡ true → ⊥
      before q d less found on = cases (cases_lt q p)
        where
          here : q ≡ p → ⊥
          here e =
              let P : ℕ → Type 0 = λ m. slice_get cs m ≡ Some d in
              let at_p : slice_get cs p ≡ Some d = subst P e found in
              let same : c ≡ d = cc in
              let both : true ≡ false = sym on ∙ ap (is_on nets basis) (sym same) ∙ off in
              absurd (cc)

          cases : (q < p) ⊎ (p ≤ q) → ⊥
          cases (inl early) = search_before p state q d early found on
          cases (inr late) = here (omega (arith, late, less))

      smaller : (found : Option ℕ) → found ≡ first_from (p + 1) (drop (p + 1) cs) (key_of nets basis) → left_after (length cs) found < left_after (length cs) (Some p)
      smaller None is = omega (arith, slice_get_within cs p c got)
      smaller (Some q) is = let further = first_some (p + 1) (drop (p + 1) cs) (key_of nets basis) q (sym is) in omega (arith, slice_get_within cs p c got, further.place)

  -- the search has come to its end
  pub search_end : IsSearch cs nets basis None → (d : CandidateValue) → Has cs d → is_on nets basis d ≡ true → ⊥
  search_end state d has on = cases (cases_lt has.0 state.start)
    where
      cases : (has.0 < state.start) ⊎ (state.start ≤ has.0) → ⊥
      cases (inl early) = state.before has.0 d early has.1 on
      cases (inr late) =
          let i : ℕ = has.0 - state.start in
          let place : state.start + i ≡ has.0 = omega (arith, late) in
          first_none state.start (drop state.start cs) (key_of nets basis) (sym state.at_is) i d (get_drop state.start cs i ∙ ap (slice_get cs) place ∙ has.1) (on_keyed nets basis d on)
