-- Words and feeds that are bound to one net list are bound to the other.
use Rattle.std.proofs.Common.{◌≡◌, ◌∙◌, ap, sym, refl, subst, inl, inr, ℕ, suc, ◌<◌, ◌&&◌, not, Bool, true, false, List, [], ◌∷◌, ◌++◌, length, map, Option, None, Some, Result, Ok, Err, if◌then◌else◌}
use Rattle.std.specs.Option.{option_map}
use Rattle.lists.specs.Lists.{Has}
use Rattle.lists.specs.laws.HasLaws.{All_has, Has_cases, only_one}
use Rattle.net_core.specs.Inside.{IsInside, LatchIsInside}
use Rattle.net_core.specs.LatchValue.{LatchValue}
use Rattle.net_core.specs.NetList.{NetList, nets, number_of}
use Rattle.net_words.specs.Bind.{BindingOf, BoundOf, IsCovered, NetsOf, bound_word, is_latch, is_unknown, names_with, place_net, started, taken_with, with_role, bits_of}
use Rattle.net_words.specs.Binding.{Binding}
use Rattle.net_words.specs.Feeds.{FeedsOf, bound_feed, free_net, is_free}
use Rattle.net_words.specs.Roles.{in_word, stands_in}
use Rattle.net_words.specs.declared.binding.BindFault.{BindFault}
use Rattle.net_words.specs.declared.binding.BindFault.TheVariants.{NotInput, NotLatch, NetTwice, FeedNotFree, UnknownStart}
use Rattle.net_words.specs.declared.bound.BoundWord.{BoundWord}
use Rattle.net_words.specs.declared.feed.Feed.{Feed}
use Rattle.net_words.specs.declared.feed.FeedText.{FeedText}
use Rattle.net_words.specs.declared.word.Role.{Role}
use Rattle.net_words.specs.declared.word.Role.TheVariants.{Input, State, Fed, Output}
use Rattle.net_words.specs.declared.word.WordText.{WordText}
use Rattle.make_laws.specs.Renumbering.{IsRenumbering, latch_under}
use Rattle.make_laws.proofs.BindingUnder.{IsBindingUnder, feed_under, word_under}
use Rattle.make_laws.proofs.NumberListLemmas.{map_join}
use Rattle.make_laws.proofs.MemberLemmas.{AreNets, FeedNets, StandOnNets, free_under, in_word_under, input_under, latch_out_under, stands_under, uncovered_under}
use Rattle.make_laws.proofs.NameLemmas.{found_net}

-- ---- choices

ok_same : {A : Type 0} (x y : A) → ◌≡◌ {A = Result A BindFault} (Ok x) (Ok y) → x ≡ y
ok_same x y e = cc

-- where both tests let a net through, they let the other through
both_pass : (a b : Bool) (n x y : ℕ) (e e' d d' : BindFault) → ◌≡◌ {A = Result ℕ BindFault} (Ok n) (if not a then Err e else if b then Err d else Ok x) → (◌≡◌ {A = Result ℕ BindFault} (Ok y) (if not a then Err e' else if b then Err d' else Ok y)) × (n ≡ x)
both_pass true false n x y e e' d d' is = (refl, ok_same n x is)
both_pass true true n x y e e' d d' is = absurd (cc)
both_pass false b n x y e e' d d' is = absurd (cc)

one_passes : (a : Bool) (n x y : ℕ) (e e' : BindFault) → ◌≡◌ {A = Result ℕ BindFault} (Ok n) (if a then Ok x else Err e) → (◌≡◌ {A = Result ℕ BindFault} (Ok y) (if a then Ok y else Err e')) × (n ≡ x)
one_passes true n x y e e' is = (refl, ok_same n x is)
one_passes false n x y e e' is = absurd (cc)

pass_on : (b : Bool) (e e' : BindFault) (r r' : Result (Unit {0}) BindFault) → ◌≡◌ {A = Result (Unit {0}) BindFault} (Ok tt) (if b then Err e else r) → (Ok tt ≡ r → Ok tt ≡ r') → ◌≡◌ {A = Result (Unit {0}) BindFault} (Ok tt) (if b then Err e' else r')
pass_on true e e' r r' is rest = absurd (cc)
pass_on false e e' r r' is rest = rest is

-- ---- one more

has_more : {A : Type 0} (P : A → Type 0) (xs : List A) (x : A) → ((y : A) → Has xs y → P y) → P x → (y : A) → Has (xs ++ x ∷ []) y → P y
has_more P xs x each last y has = elim (Has_cases xs (x ∷ []) y has) [
  | inl before ↦ each y before
  | inr here ↦ (let Q : _ → Type 0 = P in subst Q (only_one x y here) last)
]

none_of : {A : Type 0} (P : A → Type 0) (y : A) → Has {X = A} [] y → P y
none_of P y has = absurd (let got = has.1 in cc)

module _ (f : ℕ → ℕ) (from to : NetList) (is : IsRenumbering f from to) (inside : IsInside from) where
  -- ---- places of words

  role_step : (word word' place place' : ℕ) (taken : List ℕ) (role : Role) (m : ℕ) → AreNets from taken → m < nets from → (n : ℕ) → ◌≡◌ {A = Result ℕ BindFault} (Ok n) (with_role to word place (map f taken) role (f m)) → (◌≡◌ {A = Result ℕ BindFault} (Ok m) (with_role from word' place' taken role m)) × (n ≡ f m)
  role_step word word' place place' taken Input m low below n e =
      both_pass (stands_in from.inputs m) (stands_in taken m) n (f m) m (NotInput word place) (NotInput word' place') (NetTwice (f m)) (NetTwice m)
      (e ∙ (λ i. if not (input_under f from to is inside m below i) then Err (NotInput word place) else if stands_under f from to is inside taken low m below i then Err (NetTwice (f m)) else Ok (f m)))
  role_step word word' place place' taken State m low below n e =
      both_pass (is_latch from m) (stands_in taken m) n (f m) m (NotLatch word place) (NotLatch word' place') (NetTwice (f m)) (NetTwice m)
      (e ∙ (λ i. if not (latch_out_under f from to is inside m below i) then Err (NotLatch word place) else if stands_under f from to is inside taken low m below i then Err (NetTwice (f m)) else Ok (f m)))
  role_step word word' place place' taken Fed m low below n e = absurd (cc)
  role_step word word' place place' taken Output m low below n e = (refl, ok_same n (f m) e)

  place_step : (word word' place place' : ℕ) (taken : List ℕ) (role : Role) (name : List ℕ) → AreNets from taken → (n : ℕ) → ◌≡◌ {A = Result ℕ BindFault} (Ok n) (place_net to word place (map f taken) role (number_of to name))
      → (m : ℕ) × (m < nets from) × (◌≡◌ {A = Result ℕ BindFault} (Ok m) (place_net from word' place' taken role (number_of from name))) × (n ≡ f m)
  place_step word word' place place' taken role name low n e = by (number_of from name) refl (e ∙ ap (λ (o : Option ℕ). place_net to word place (map f taken) role o) (is.names name))
    where
      by : (found : Option ℕ) → number_of from name ≡ found → ◌≡◌ {A = Result ℕ BindFault} (Ok n) (place_net to word place (map f taken) role (option_map f found)) → (m : ℕ) × (m < nets from) × (◌≡◌ {A = Result ℕ BindFault} (Ok m) (place_net from word' place' taken role found)) × (n ≡ f m)
      by (Some m) at got = let below = (found_net from name m at).0 in let step = role_step word word' place place' taken role m low below n got in (m, below, step.0, step.1)
      by None at got = absurd (cc)

  taken_under : (role : Role) (m : ℕ) (taken : List ℕ) → taken_with role (f m) (map f taken) ≡ map f (taken_with role m taken)
  taken_under Input m taken = sym (map_join f taken (m ∷ []))
  taken_under State m taken = sym (map_join f taken (m ∷ []))
  taken_under Fed m taken = sym (map_join f taken (m ∷ []))
  taken_under Output m taken = refl

  taken_low : (role : Role) (m : ℕ) (taken : List ℕ) → AreNets from taken → m < nets from → AreNets from (taken_with role m taken)
  taken_low Input m taken low below = has_more (λ n. n < nets from) taken m low below
  taken_low State m taken low below = has_more (λ n. n < nets from) taken m low below
  taken_low Fed m taken low below = has_more (λ n. n < nets from) taken m low below
  taken_low Output m taken low below = low

  -- ---- words

  record NetsUnder (word : ℕ) (role : Role) (taken before : List ℕ) (names : List (List ℕ)) (out : List ℕ × List ℕ) : Type 0 where
    list : List ℕ
    after : List ℕ
    list_low : AreNets from list
    after_low : AreNets from after
    nets_of : NetsOf from word role taken before names (Ok (list, after))
    same_list : out.0 ≡ map f list
    same_after : out.1 ≡ map f after

  nets_under : (word word' : ℕ) (role : Role) (taken before : List ℕ) (names : List (List ℕ)) → AreNets from taken → AreNets from before → (out : List ℕ × List ℕ) → NetsOf to word role (map f taken) (map f before) names (Ok out) → NetsUnder word' role taken before names out
  nets_under word word' role taken before [] low low' out e = record { list = before; after = taken; list_low = low'; after_low = low; nets_of = refl; same_list = ap (λ (o : List ℕ × List ℕ). o.0) e; same_after = ap (λ (o : List ℕ × List ℕ). o.1) e }
  nets_under word word' role taken before (name ∷ names) low low' out (n, found, rest) =
      let step = place_step word word' (length (map f before)) (length before) taken role name low n found in
      let m = step.0 in
      let P : ℕ → Type 0 = λ x. NetsOf to word role (taken_with role x (map f taken)) (map f before ++ x ∷ []) names (Ok out) in
      let Q : List ℕ → Type 0 = λ xs. NetsOf to word role xs (map f before ++ f m ∷ []) names (Ok out) in
      let R : List ℕ → Type 0 = λ xs. NetsOf to word role (map f (taken_with role m taken)) xs names (Ok out) in
      let inner = nets_under word word' role (taken_with role m taken) (before ++ m ∷ []) names (taken_low role m taken low step.1) (has_more (λ x. x < nets from) before m low' step.1) out (subst R (sym (map_join f before (m ∷ []))) (subst Q (taken_under role m taken) (subst P step.3 rest))) in
      record { list = inner.list; after = inner.after; list_low = inner.list_low; after_low = inner.after_low; nets_of = (m, step.2, inner.nets_of); same_list = inner.same_list; same_after = inner.same_after }

  record WordsUnder (taken : List ℕ) (before : List BoundWord) (words : List WordText) (out : List BoundWord × List ℕ) : Type 0 where
    bound : List BoundWord
    after : List ℕ
    low : StandOnNets from bound
    bound_of : BoundOf from taken before words (Ok (bound, after))
    same : out.0 ≡ map (word_under f) bound

  words_under : (taken : List ℕ) (before : List BoundWord) (words : List WordText) → AreNets from taken → StandOnNets from before → (out : List BoundWord × List ℕ) → BoundOf to (map f taken) (map (word_under f) before) words (Ok out) → WordsUnder taken before words out
  words_under taken before [] low low' out e = record { bound = before; after = taken; low = low'; bound_of = refl; same = ap (λ (o : List BoundWord × List ℕ). o.0) e }
  words_under taken before (word ∷ words) low low' out (list, first, rest) =
      let step = nets_under (length (map (word_under f) before)) (length before) word.role taken [] (names_with word.role word.nets) low (none_of (λ x. x < nets from)) list first in
      let w = bound_word word step.list in
      let P : List ℕ → Type 0 = λ xs. BoundOf to xs (map (word_under f) before ++ bound_word word list.0 ∷ []) words (Ok out) in
      let Q : List ℕ → Type 0 = λ xs. BoundOf to (map f step.after) (map (word_under f) before ++ bound_word word xs ∷ []) words (Ok out) in
      let R : List BoundWord → Type 0 = λ ws. BoundOf to (map f step.after) ws words (Ok out) in
      let inner = words_under step.after (before ++ w ∷ []) words step.after_low (has_more (λ v. AreNets from v.nets) before w low' step.list_low) out (subst R (sym (map_join (word_under f) before (w ∷ []))) (subst Q step.same_list (subst P step.same_after rest))) in
      record { bound = inner.bound; after = inner.after; low = inner.low; bound_of = ((step.list, step.after), step.nets_of, inner.bound_of); same = inner.same }

  -- ---- feeds

  feed_step : (bound : List BoundWord) (line : ℕ) (name : List ℕ) → StandOnNets from bound → (n : ℕ) → ◌≡◌ {A = Result ℕ BindFault} (Ok n) (free_net to (map (word_under f) bound) line (number_of to name))
      → (m : ℕ) × (m < nets from) × (◌≡◌ {A = Result ℕ BindFault} (Ok m) (free_net from bound line (number_of from name))) × (n ≡ f m)
  feed_step bound line name low n e = by (number_of from name) refl (e ∙ ap (λ (o : Option ℕ). free_net to (map (word_under f) bound) line o) (is.names name))
    where
      by : (found : Option ℕ) → number_of from name ≡ found → ◌≡◌ {A = Result ℕ BindFault} (Ok n) (free_net to (map (word_under f) bound) line (option_map f found)) → (m : ℕ) × (m < nets from) × (◌≡◌ {A = Result ℕ BindFault} (Ok m) (free_net from bound line found)) × (n ≡ f m)
      by (Some m) at got =
          let below = (found_net from name m at).0 in
          let step = one_passes (is_free from bound m) n (f m) m (FeedNotFree line) (FeedNotFree line) (got ∙ (λ i. if free_under f from to is inside bound low m below i then Ok (f m) else Err (FeedNotFree line))) in
          (m, below, step.0, step.1)
      by None at got = absurd (cc)

  record FeedsUnder (bound : List BoundWord) (before : List Feed) (feeds : List FeedText) (out : List Feed) : Type 0 where
    fed : List Feed
    low : FeedNets from fed
    feeds_of : FeedsOf from bound before feeds (Ok fed)
    same : out ≡ map (feed_under f) fed

  feeds_under : (bound : List BoundWord) (before : List Feed) (feeds : List FeedText) → StandOnNets from bound → FeedNets from before → (out : List Feed) → FeedsOf to (map (word_under f) bound) (map (feed_under f) before) feeds (Ok out) → FeedsUnder bound before feeds out
  feeds_under bound before [] low low' out e = record { fed = before; low = low'; feeds_of = refl; same = e }
  feeds_under bound before (feed ∷ feeds) low low' out (n, found, rest) =
      let step = feed_step bound feed.line feed.net low n found in
      let m = step.0 in
      let P : ℕ → Type 0 = λ x. FeedsOf to (map (word_under f) bound) (map (feed_under f) before ++ bound_feed feed x ∷ []) feeds (Ok out) in
      let R : List Feed → Type 0 = λ xs. FeedsOf to (map (word_under f) bound) xs feeds (Ok out) in
      let inner = feeds_under bound (before ++ bound_feed feed m ∷ []) feeds low (has_more (λ v. v.net < nets from) before (bound_feed feed m) low' step.1) out (subst R (sym (map_join (feed_under f) before (bound_feed feed m ∷ []))) (subst P step.3 rest)) in
      record { fed = inner.fed; low = inner.low; feeds_of = (m, step.2, inner.feeds_of); same = inner.same }

  -- ---- the rest

  started_under : (bound : List BoundWord) (ls : List LatchValue) → StandOnNets from bound → ((l : LatchValue) → Has ls l → l.out < nets from) → ◌≡◌ {A = Result (Unit {0}) BindFault} (Ok tt) (started (map (word_under f) bound) (map (latch_under f) ls)) → ◌≡◌ {A = Result (Unit {0}) BindFault} (Ok tt) (started bound ls)
  started_under bound [] low below e = refl
  started_under bound (l ∷ ls) low below e =
      let same : in_word State (map (word_under f) bound) (f l.out) ≡ in_word State bound l.out = in_word_under f from to is inside State bound low l.out (below l (0, refl)) in
      pass_on (is_unknown l.start && not (in_word State bound l.out)) (UnknownStart (f l.out)) (UnknownStart l.out) (started (map (word_under f) bound) (map (latch_under f) ls)) (started bound ls)
      (e ∙ (λ i. if is_unknown l.start && not (same i) then Err (UnknownStart (f l.out)) else started (map (word_under f) bound) (map (latch_under f) ls)))
      (λ rest. started_under bound ls low (λ k has. below k (suc has.0, has.1)) rest)

  pub record BoundUnder (words : List WordText) (feeds : List FeedText) (b : Binding) : Type 0 where
    pub binding : Binding
    pub bound : BindingOf from words feeds (Ok binding)
    pub under : IsBindingUnder f binding b
    pub words_low : StandOnNets from binding.words
    pub feeds_low : FeedNets from binding.feeds

  pub bound_under : (words : List WordText) (feeds : List FeedText) (b : Binding) → BindingOf to words feeds (Ok b) → BoundUnder words feeds b
  bound_under words feeds b (bound, are, (fed, fit, (u, covered, (v, known, e)))) =
      let ws = words_under [] [] words (none_of (λ x. x < nets from)) (none_of (λ w. AreNets from w.nets)) bound are in
      let P : List BoundWord → Type 0 = λ bs. FeedsOf to bs [] feeds (Ok fed) in
      let fs = feeds_under ws.bound [] feeds ws.low (none_of (λ w. w.net < nets from)) fed (subst P ws.same fit) in
      let C : List BoundWord → Type 0 = λ bs. IsCovered to bs fed (Ok tt) in
      let D : List Feed → Type 0 = λ xs. IsCovered to (map (word_under f) ws.bound) xs (Ok tt) in
      let all : IsCovered to (map (word_under f) ws.bound) (map (feed_under f) fs.fed) (Ok tt) = subst D fs.same (subst C ws.same covered) in
      let S : List BoundWord → Type 0 = λ bs. ◌≡◌ {A = Result (Unit {0}) BindFault} (Ok tt) (started bs to.latches) in
      let T : List LatchValue → Type 0 = λ ls. ◌≡◌ {A = Result (Unit {0}) BindFault} (Ok tt) (started (map (word_under f) ws.bound) ls) in
      record {
        binding = record { k = bits_of words; words = ws.bound; feeds = fs.fed; nets = nets from };
        bound = (
          (ws.bound, ws.after),
          ws.bound_of,
          (
            fs.fed,
            fs.feeds_of,
            (
              tt,
              (λ m low. sym (uncovered_under f from to is inside ws.bound fs.fed ws.low fs.low m low) ∙ all (f m) (is.below m low)),
              (tt, started_under ws.bound from.latches ws.low (λ l has. (All_has (LatchIsInside (nets from)) from.latches l inside.latches has).1) (subst T is.latches (subst S ws.same known)), refl),
            ),
          ),
        );
        under = record { bits = ap (λ (x : Binding). x.k) e; words = ap (λ (x : Binding). x.words) e ∙ ws.same; feeds = ap (λ (x : Binding). x.feeds) e ∙ fs.same };
        words_low = ws.low;
        feeds_low = fs.low;
      }
