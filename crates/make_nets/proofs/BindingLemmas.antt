-- Words bind to a made net.
use Rattle.std.proofs.Common.{◌≡◌, ◌≢◌, ◌⊎◌, ◌∙◌, ap, sym, refl, subst, inl, inr, ℕ, zero, suc, ◌<◌, ◌≤◌, ◌+◌, Bool, true, false, ◌&&◌, not, cond, List, [], ◌∷◌, ◌++◌, length, map, None, Some, Result, Ok, append-nil, arith}
use Rattle.std.specs.Prelude.{slice_get, ◌==◌, ◌||◌}
use Rattle.std.specs.List.{range_with_len}
use Rattle.std.proofs.lemmas.List.{append_assoc}
use Rattle.std.proofs.lemmas.Bool.{eq-eqb}
use Rattle.lists.specs.Lists.{Has}
use Rattle.lists.specs.laws.BoolLaws.{or_right}
use Rattle.lists.specs.laws.HasLaws.{Has_cases, Has_left, Has_right, any_has, has_range}
use Rattle.lists.specs.laws.ReadLaws.{get_front, from_map, get_back}
use Rattle.net_core.specs.LatchValue.{LatchValue}
use Rattle.net_core.specs.NetList.{NetList, number_of}
use Rattle.net_words.specs.Bind.{is_latch, with_role, names_with, place_net, taken_with, NetsOf, bound_word, BoundOf, is_used, is_uncovered, is_unknown, started, BindingOf}
use Rattle.net_words.specs.Feeds.{FeedsOf, is_fed}
use Rattle.net_words.specs.Roles.{same_role, stands_in, in_word}
use Rattle.net_words.specs.declared.binding.BindFault.{BindFault}
use Rattle.net_words.specs.declared.bound.BoundWord.{BoundWord}
use Rattle.net_words.specs.declared.feed.Feed.{Feed}
use Rattle.net_words.specs.declared.feed.FeedText.{FeedText}
use Rattle.net_words.specs.declared.word.Role.{Role}
use Rattle.net_words.specs.declared.word.Role.TheVariants.{Input, State, Fed, Output}
use Rattle.net_words.specs.declared.word.WordText.{WordText}
use Rattle.net_words.proofs.MemberLemmas.{stands_has, has_stands}
use Rattle.make_nets.specs.BindingOfMade.{AreHeld, binding_of}
use Rattle.make_nets.specs.Ports.{numbered, role_nets, word_names}

not_stands : (list : List ℕ) (n : ℕ) → (Has list n → ⊥) → stands_in list n ≡ false
not_stands list n none = elim (stands_in list n) as (λ b. stands_in list n ≡ b → b ≡ false) [ true ↦ λ e. absurd (none (stands_has list n e)) | false ↦ λ e. refl ] refl

latch_is : (net : NetList) (n : ℕ) → Has (map (λ (l : LatchValue). l.out) net.latches) n → is_latch net n ≡ true
latch_is net n has =
    let from = from_map (λ (l : LatchValue). l.out) net.latches has.0 n has.1 in
    any_has (λ (l : LatchValue). l.out == n) net.latches from.0 (has.0, from.1) (eq-eqb from.0.out n from.2)

-- what the role asks of a net
abbrev Suits : NetList → Role → ℕ → Type 0
Suits net Input n = Has net.inputs n
Suits net State n = Has (map (λ (l : LatchValue). l.out) net.latches) n
Suits net Fed n = ⊥
Suits net Output n = Unit {0}

placed : (net : NetList) (word place : ℕ) (taken : List ℕ) (role : Role) (n : ℕ) → Suits net role n → (Has taken n → ⊥) → with_role net word place taken role n ≡ Ok n
placed net word place taken Input n suits free = rw (has_stands net.inputs n suits, not_stands taken n free) refl
placed net word place taken State n suits free = rw (latch_is net n suits, not_stands taken n free) refl
placed net word place taken Fed n suits free = absurd suits
placed net word place taken Output n suits free = refl

has_push : (xs : List ℕ) (m n : ℕ) → Has (xs ++ m ∷ []) n → Has xs n ⊎ (m ≡ n)
has_push xs m n has = elim (Has_cases xs (m ∷ []) n has) [ inl w ↦ inl w | inr w ↦ inr (one w) ]
  where
    one : Has (m ∷ []) n → m ≡ n
    one (zero, got) = let same : Some m ≡ Some n = got in cc
    one (suc k, got) = let none : None ≡ Some n = got in absurd (cc)

taken_low : (role : Role) (m : ℕ) (taken : List ℕ) → ((n : ℕ) → Has taken n → n < m) → (n : ℕ) → Has (taken_with role m taken) n → n < m + 1
taken_low Input m taken low n has = elim (has_push taken m n has) [ inl w ↦ omega (arith, low n w) | inr w ↦ omega (arith, w) ]
taken_low State m taken low n has = elim (has_push taken m n has) [ inl w ↦ omega (arith, low n w) | inr w ↦ omega (arith, w) ]
taken_low Fed m taken low n has = elim (has_push taken m n has) [ inl w ↦ omega (arith, low n w) | inr w ↦ omega (arith, w) ]
taken_low Output m taken low n has = omega (arith, low n has)

-- the names are those of the nets from m on
abbrev pub FoundFrom : NetList → ℕ → List (List ℕ) → Type 0
FoundFrom net m names = (i : ℕ) (name : List ℕ) → slice_get names i ≡ Some name → number_of net name ≡ Some (m + i)

found_rest : (net : NetList) (m : ℕ) (name : List ℕ) (names : List (List ℕ)) → FoundFrom net m (name ∷ names) → FoundFrom net (m + 1) names
found_rest net m name names found i x got = found (suc i) x got ∙ ap Some (omega arith)

pub found_front : (net : NetList) (m : ℕ) (xs ys : List (List ℕ)) → FoundFrom net m (xs ++ ys) → FoundFrom net m xs
found_front net m xs ys found i name got = found i name (get_front xs ys i name got)

pub found_back : (net : NetList) (m : ℕ) (xs ys : List (List ℕ)) → FoundFrom net m (xs ++ ys) → FoundFrom net (m + length xs) ys
found_back net m xs ys found i name got = found (length xs + i) name (get_back xs ys i name got) ∙ ap Some (omega arith)

-- nets of words, or a fault
abbrev Nets : NetList → ℕ → Role → List ℕ → List ℕ → List (List ℕ) → List ℕ → List ℕ → Type 0
Nets net word role taken before names whole taken' = NetsOf net word role taken before names (Ok (whole, taken'))

nets_from : (net : NetList) (word : ℕ) (role : Role) (names : List (List ℕ)) (m : ℕ) (taken before : List ℕ) → FoundFrom net m names → ((n : ℕ) → Has taken n → n < m) → ((n : ℕ) → m ≤ n → n < m + length names → Suits net role n) → (taken' : List ℕ) × ((n : ℕ) → Has taken' n → n < m + length names) × Nets net word role taken before names (before ++ range_with_len m (length names)) taken'
nets_from net word role [] m taken before found low suits = (taken, (λ n has. omega (arith, low n has)), ap (λ (v : List ℕ). (v, taken)) (append-nil before))
nets_from net word role (name ∷ names) m taken before found low suits =
    let here : number_of net name ≡ Some m = found 0 name refl ∙ ap Some (omega arith) in
    let free : Has taken m → ⊥ = λ has. omega (arith, low m has) in
    let fits : with_role net word (length before) taken role m ≡ Ok m = placed net word (length before) taken role m (suits m (omega arith) (omega arith)) free in
    let step : place_net net word (length before) taken role (number_of net name) ≡ Ok m = ap (place_net net word (length before) taken role) here ∙ fits in
    let rest = nets_from net word role names (m + 1) (taken_with role m taken) (before ++ m ∷ []) (found_rest net m name names found) (taken_low role m taken low) (λ n from less. suits n (omega (arith, from)) (omega (arith, less))) in
    let whole : before ++ m ∷ [] ++ range_with_len (m + 1) (length names) ≡ before ++ range_with_len m (suc (length names)) = append_assoc before (m ∷ []) (range_with_len (m + 1) (length names)) in
    let P : List ℕ → Type 0 = λ v. Nets net word role (taken_with role m taken) (before ++ m ∷ []) names v rest.0 in
    (rest.0, (λ n has. omega (arith, rest.1 n has)), (m, sym step, subst P whole rest.2))

by_role : (net : NetList) (index : ℕ) (role : Role) (names : List (List ℕ)) (m : ℕ) (taken : List ℕ) → FoundFrom net m names → ((n : ℕ) → Has taken n → n < m) → (role ≡ Fed → names ≡ []) → ((n : ℕ) → m ≤ n → n < m + length names → role ≢ Fed → Suits net role n) → (taken' : List ℕ) × ((n : ℕ) → Has taken' n → n < m + length names) × NetsOf net index role taken [] (names_with role names) (Ok (range_with_len m (length names), taken'))
by_role net index Input names m taken found low fed suits = nets_from net index Input names m taken [] found low (λ n from less. suits n from less (λ e. absurd (cc)))
by_role net index State names m taken found low fed suits = nets_from net index State names m taken [] found low (λ n from less. suits n from less (λ e. absurd (cc)))
by_role net index Fed names m taken found low fed suits =
    let none : names ≡ [] = fed refl in
    let P : List (List ℕ) → Type 0 = λ ns. (taken' : List ℕ) × ((n : ℕ) → Has taken' n → n < m + length ns) × NetsOf net index Fed taken [] [] (Ok (range_with_len m (length ns), taken')) in
    subst P (sym none) (taken, (λ n has. omega (arith, low n has)), refl)
by_role net index Output names m taken found low fed suits = nets_from net index Output names m taken [] found low (λ n from less. tt)

-- what the roles ask of the nets of words that are numbered from m
abbrev pub AllSuit : NetList → ℕ → List WordText → Type 0
AllSuit net m words = ((n : ℕ) → Has (role_nets Input m words) n → Has net.inputs n) × ((n : ℕ) → Has (role_nets State m words) n → Has (map (λ (l : LatchValue). l.out) net.latches) n)

has_after : (role other : Role) (list more : List ℕ) (n : ℕ) → Has more n → Has (cond (same_role role other) list [] ++ more) n
has_after role other list more n has = Has_right (cond (same_role role other) list []) more n has

word_suits : (net : NetList) (m : ℕ) (role : Role) (names : List (List ℕ)) (n : ℕ) → m ≤ n → n < m + length names → role ≢ Fed
    → ((k : ℕ) → Has (cond (same_role role Input) (range_with_len m (length names)) []) k → Has net.inputs k)
    → ((k : ℕ) → Has (cond (same_role role State) (range_with_len m (length names)) []) k → Has (map (λ (l : LatchValue). l.out) net.latches) k)
    → Suits net role n
word_suits net m Input names n low high other inputs latches = inputs n (has_range m (length names) n low high)
word_suits net m State names n low high other inputs latches = latches n (has_range m (length names) n low high)
word_suits net m Fed names n low high other inputs latches = other refl
word_suits net m Output names n low high other inputs latches = tt

bound_from : (net : NetList) (words : List WordText) (m : ℕ) (taken : List ℕ) (before : List BoundWord) → FoundFrom net m (word_names words) → ((n : ℕ) → Has taken n → n < m) → ((word : WordText) → Has words word → word.role ≡ Fed → word.nets ≡ []) → AllSuit net m words → (taken' : List ℕ) × BoundOf net taken before words (Ok (before ++ numbered m words, taken'))
bound_from net [] m taken before found low fed suits = (taken, ap (λ (v : List BoundWord). (v, taken)) (append-nil before))
bound_from net (word ∷ words) m taken before found low fed suits =
    let long : ℕ = length word.nets in
    let own = by_role net (length before) word.role word.nets m taken (found_front net m word.nets (word_names words) found) low (fed word (0, refl))
    (λ n from less other. word_suits net m word.role word.nets n from less other
    (λ k has. suits.0 k (Has_left (cond (same_role word.role Input) (range_with_len m (length word.nets)) []) (role_nets Input (m + length word.nets) words) k has))
    (λ k has. suits.1 k (Has_left (cond (same_role word.role State) (range_with_len m (length word.nets)) []) (role_nets State (m + length word.nets) words) k has))) in
    let bound : BoundWord = bound_word word (range_with_len m (length word.nets)) in
    let rest = bound_from net words (m + length word.nets) own.0 (before ++ bound ∷ []) (found_back net m word.nets (word_names words) found) own.1 (λ w has. fed w (suc has.0, has.1)) (
      (λ n has. suits.0 n (has_after word.role Input (range_with_len m (length word.nets)) (role_nets Input (m + length word.nets) words) n has)),
      (λ n has. suits.1 n (has_after word.role State (range_with_len m (length word.nets)) (role_nets State (m + length word.nets) words) n has)),
    ) in
    let whole : before ++ bound ∷ [] ++ numbered (m + length word.nets) words ≡ before ++ (bound ∷ numbered (m + length word.nets) words) = append_assoc before (bound ∷ []) (numbered (m + length word.nets) words) in
    let P : List BoundWord → Type 0 = λ v. BoundOf net own.0 (before ++ bound ∷ []) words (Ok (v, rest.0)) in
    (rest.0, ((range_with_len m (length word.nets), own.0), own.2, subst P whole rest.1))

-- a net of a word with a role is in such a word
in_word_numbered : (role : Role) (m : ℕ) (words : List WordText) (n : ℕ) → Has (role_nets role m words) n → in_word role (numbered m words) n ≡ true
in_word_numbered role m [] n has = absurd (let got = has.1 in cc)
in_word_numbered role m (word ∷ words) n has =
    elim (Has_cases (cond (same_role word.role role) (range_with_len m (length word.nets)) []) (role_nets role (m + length word.nets) words) n has) [
      | inl w ↦ ap (λ b. b || in_word role (numbered (m + length word.nets) words) n) (here (same_role word.role role) w)
      | inr w ↦ or_right (same_role word.role role && stands_in (range_with_len m (length word.nets)) n) (in_word role (numbered (m + length word.nets) words) n) (in_word_numbered role (m + length word.nets) words n w)
    ]
  where
    here : (b : Bool) → Has (cond b (range_with_len m (length word.nets)) []) n → (b && stands_in (range_with_len m (length word.nets)) n) ≡ true
    here true h = has_stands (range_with_len m (length word.nets)) n h
    here false h = absurd (let got = h.1 in cc)

started_all : (bound : List BoundWord) (latches : List LatchValue) → ((l : LatchValue) → Has latches l → is_unknown l.start ≡ true → in_word State bound l.out ≡ true) → ◌≡◌ {A = Result (Unit {0}) BindFault} (started bound latches) (Ok tt)
started_all bound [] each = refl
started_all bound (l ∷ latches) each =
    let rest : ◌≡◌ {A = Result (Unit {0}) BindFault} (started bound latches) (Ok tt) = started_all bound latches (λ x has. each x (suc has.0, has.1)) in
    let known : (is_unknown l.start && not (in_word State bound l.out)) ≡ false = by (is_unknown l.start) (in_word State bound l.out) (each l (0, refl)) in
    rw known rest
  where
    by : (a b : Bool) → (a ≡ true → b ≡ true) → (a && not b) ≡ false
    by false b e = refl
    by true true e = refl
    by true false e = absurd (let told = e refl in cc)

covered_by : (net : NetList) (bound : List BoundWord) (feeds : List Feed) → ((n : ℕ) → Has net.inputs n → (in_word Input bound n ≡ true) ⊎ (is_fed feeds n ≡ true)) → (n : ℕ) → is_uncovered net bound feeds n ≡ false
covered_by net bound feeds each n =
    elim (stands_in net.inputs n) as (λ b. stands_in net.inputs n ≡ b → (b && not (in_word Input bound n) && not (is_fed feeds n) && is_used net bound n) ≡ false) [
      | true ↦ λ e. by (in_word Input bound n) (is_fed feeds n) (is_used net bound n) (each n (stands_has net.inputs n e))
      | false ↦ λ e. refl
    ] refl
  where
    by : (a b c : Bool) → (a ≡ true) ⊎ (b ≡ true) → (true && not a && not b && c) ≡ false
    by true b c e = refl
    by false true c e = refl
    by false false c (inl e) = absurd (cc)
    by false false c (inr e) = absurd (cc)

-- the words bind to their nets, where these are found by their names, and the feeds to theirs
pub words_bind : (net : NetList) (words : List WordText) (feeds : List FeedText) (fed : List Feed) → FoundFrom net 0 (word_names words) → ((n : ℕ) → Has (role_nets Input 0 words) n → Has net.inputs n) → AreHeld words net.latches → FeedsOf net (numbered 0 words) [] feeds (Ok fed) → ((n : ℕ) → Has net.inputs n → Has (role_nets Input 0 words) n ⊎ (is_fed fed n ≡ true)) → BindingOf net words feeds (Ok (binding_of net words fed))
words_bind net words feeds fed found inputs held feeding covered =
    let bound = bound_from net words 0 [] [] found (λ n has. absurd (let got = has.1 in cc)) held.fed (inputs, held.states) in (
      (numbered 0 words, bound.0),
      bound.1,
      (
        fed,
        feeding,
        (
          tt,
          (λ n less. covered_by net (numbered 0 words) fed (λ m has. elim (covered m has) [ inl w ↦ inl (in_word_numbered Input 0 words m w) | inr w ↦ inr w ]) n),
          (tt, sym (started_all (numbered 0 words) net.latches (λ l has unknown. in_word_numbered State 0 words l.out (held.starts l has unknown))), refl),
        ),
      ),
    )
