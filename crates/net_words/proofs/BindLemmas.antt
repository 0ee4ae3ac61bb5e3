-- The steps of a binding, one after another.
use Rattle.std.proofs.Common.{◌≡◌, ◌∙◌, ◌⊎◌, refl, inl, inr, sym, subst, arith, ℕ, ◌<◌, ◌+◌, List, [], ◌∷◌, ◌++◌, length, drop, get_or, Result, Ok, Err, IfOk}
use Rattle.std.proofs.lemmas.List.{drop_more}
use Rattle.outcome.specs.Outcome.{Outcome, ◌>>=◌, Returns}
use Rattle.net_core.specs.NetList.{NetList, number_of}
use Rattle.net_words.specs.Binding.{Binding}
use Rattle.net_words.specs.Bind.{place_net, names_with, taken_with, NetsOf, bound_word, BoundOf, IsCovered, started, BindingOf}
use Rattle.net_words.specs.BindReading.{FitsBinding}
use Rattle.net_words.specs.Feeds.{FeedsOf, bound_feed, free_net}
use Rattle.net_words.specs.declared.binding.BindFault.{BindFault}
use Rattle.net_words.specs.declared.binding.BindFault.TheVariants.{NoSuchNet, NotInput, NotLatch, NetTwice, FeedNotFree, Uncovered, UnknownStart, OutOfMemory}
use Rattle.net_words.specs.declared.bound.BoundWord.{BoundWord}
use Rattle.net_words.specs.declared.feed.Feed.{Feed}
use Rattle.net_words.specs.declared.feed.FeedText.{FeedText}
use Rattle.net_words.specs.declared.word.Role.{Role}
use Rattle.net_words.specs.declared.word.Role.TheVariants.{Input, State, Fed, Output}
use Rattle.net_words.specs.declared.word.WordText.{WordText}

-- what comes of the second step, after a value of the first, comes of both
after : {A B : Type 0} (first : Outcome BindFault A) (second : A → Outcome BindFault B) (a : A) (outcome : Result B BindFault) → first (Ok a) → second a outcome → (first >>= second) outcome
after first second a (Ok b) one two = (a, one, two)
after first second a (Err e) one two = inr (a, one, two)

-- a fault of a step is one of the whole
pub step_fails : {X Y A B : Type 0} (view : X → A) (view' : Y → B) (fault : BindFault) (step : Outcome BindFault A) (whole : Outcome BindFault B) → ((e : BindFault) → step (Err e) → whole (Err e)) → FitsBinding view (Err fault) step → FitsBinding view' (Err fault) whole
step_fails view view' (NoSuchNet word place) step whole through fits = through (NoSuchNet word place) fits
step_fails view view' (NotInput word place) step whole through fits = through (NotInput word place) fits
step_fails view view' (NotLatch word place) step whole through fits = through (NotLatch word place) fits
step_fails view view' (NetTwice n) step whole through fits = through (NetTwice n) fits
step_fails view view' (FeedNotFree line) step whole through fits = through (FeedNotFree line) fits
step_fails view view' (Uncovered n) step whole through fits = through (Uncovered n) fits
step_fails view view' (UnknownStart n) step whole through fits = through (UnknownStart n) fits
step_fails view view' OutOfMemory step whole through fits = tt

-- a place of a word without a net
pub nets_fail : (net : NetList) (word : ℕ) (role : Role) (taken before : List ℕ) (names : List (List ℕ)) (i : ℕ) (d name : List ℕ) (e : BindFault) → i < length names → length before ≡ i → name ≡ get_or names i d → Err e ≡ place_net net word i taken role (number_of net name) → NetsOf net word role taken before (drop i names) (Err e)
nets_fail net word role taken before names i d name e less long is fails =
    let P : List (List ℕ) → Type 0 = λ xs. NetsOf net word role taken before xs (Err e) in
    let S : ℕ → Type 0 = λ j. Err e ≡ place_net net word j taken role (number_of net name) in
    let T : List ℕ → Type 0 = λ x. NetsOf net word role taken before (x ∷ drop (i + 1) names) (Err e) in
    subst P (sym (drop_more names i d less)) (subst T is (inl (subst S (sym long) fails)))

-- a word with such a place
pub words_fail : (net : NetList) (taken : List ℕ) (before : List BoundWord) (words : List WordText) (i : ℕ) (d word : WordText) (e : BindFault) → i < length words → length before ≡ i → word ≡ get_or words i d → NetsOf net i word.role taken [] (names_with word.role word.nets) (Err e) → BoundOf net taken before (drop i words) (Err e)
words_fail net taken before words i d word e less long is fails =
    let P : List WordText → Type 0 = λ xs. BoundOf net taken before xs (Err e) in
    let S : ℕ → Type 0 = λ j. NetsOf net j word.role taken [] (names_with word.role word.nets) (Err e) in
    let T : WordText → Type 0 = λ x. BoundOf net taken before (x ∷ drop (i + 1) words) (Err e) in
    subst P (sym (drop_more words i d less)) (subst T is (inl (subst S (sym long) fails)))

-- a feed without a free net
pub feeds_fail : (net : NetList) (words : List BoundWord) (before : List Feed) (feeds : List FeedText) (i : ℕ) (d feed : FeedText) (e : BindFault) → i < length feeds → feed ≡ get_or feeds i d → Err e ≡ free_net net words feed.line (number_of net feed.net) → FeedsOf net words before (drop i feeds) (Err e)
feeds_fail net words before feeds i d feed e less is fails =
    let P : List FeedText → Type 0 = λ xs. FeedsOf net words before xs (Err e) in
    let T : FeedText → Type 0 = λ x. FeedsOf net words before (x ∷ drop (i + 1) feeds) (Err e) in
    subst P (sym (drop_more feeds i d less)) (subst T is (inl fails))

-- one more net of a word
pub nets_step : (net : NetList) (word : ℕ) (role : Role) (taken taken' before new : List ℕ) (names : List (List ℕ)) (i : ℕ) (d name : List ℕ) (n : ℕ) (outcome : Result (List ℕ × List ℕ) BindFault) → i < length names → length before ≡ i → name ≡ get_or names i d → Ok n ≡ place_net net word i taken role (number_of net name) → taken' ≡ taken_with role n taken → new ≡ before ++ n ∷ [] → NetsOf net word role taken' new (drop (i + 1) names) outcome → NetsOf net word role taken before (drop i names) outcome
nets_step net word role taken taken' before new names i d name n outcome less long is found taken-is new-is rest =
    let more : List (List ℕ) = drop (i + 1) names in
    let P : List (List ℕ) → Type 0 = λ xs. NetsOf net word role taken before xs outcome in
    let Q : List ℕ → Type 0 = λ xs. NetsOf net word role xs new more outcome in
    let R : List ℕ → Type 0 = λ xs. NetsOf net word role (taken_with role n taken) xs more outcome in
    let S : ℕ → Type 0 = λ j. Ok n ≡ place_net net word j taken role (number_of net name) in
    let T : List ℕ → Type 0 = λ x. NetsOf net word role taken before (x ∷ more) outcome in
    subst P (sym (drop_more names i d less)) (subst T is
    (after (Returns (place_net net word (length before) taken role (number_of net name))) (λ m. NetsOf net word role (taken_with role m taken) (before ++ m ∷ []) more) n outcome (subst S (sym long) found) (subst R new-is (subst Q taken-is rest))))

-- one more word
pub words_step : (net : NetList) (taken taken' : List ℕ) (before new : List BoundWord) (words : List WordText) (i : ℕ) (d word : WordText) (bound : BoundWord) (list : List ℕ) (outcome : Result (List BoundWord × List ℕ) BindFault) → i < length words → length before ≡ i → word ≡ get_or words i d → NetsOf net i word.role taken [] (names_with word.role word.nets) (Ok (list, taken')) → bound ≡ bound_word word list → new ≡ before ++ bound ∷ [] → BoundOf net taken' new (drop (i + 1) words) outcome → BoundOf net taken before (drop i words) outcome
words_step net taken taken' before new words i d word bound list outcome less long is found bound-is new-is rest =
    let more : List WordText = drop (i + 1) words in
    let P : List WordText → Type 0 = λ xs. BoundOf net taken before xs outcome in
    let Q : BoundWord → Type 0 = λ b. BoundOf net taken' (before ++ b ∷ []) more outcome in
    let R : List BoundWord → Type 0 = λ xs. BoundOf net taken' xs more outcome in
    let S : ℕ → Type 0 = λ j. NetsOf net j word.role taken [] (names_with word.role word.nets) (Ok (list, taken')) in
    let T : WordText → Type 0 = λ x. BoundOf net taken before (x ∷ more) outcome in
    subst P (sym (drop_more words i d less)) (subst T is
    (after (NetsOf net (length before) word.role taken [] (names_with word.role word.nets)) (λ pair. BoundOf net pair.1 (before ++ bound_word word pair.0 ∷ []) more) (list, taken') outcome (subst S (sym long) found) (subst Q bound-is (subst R new-is rest))))

-- a word that is bound by its names has k nets, or is fed and has none
pub width_of : (k : ℕ) (role : Role) (names : List (List ℕ)) (list : List ℕ) → length list ≡ length (names_with role names) → (length names ≡ k) ⊎ (role ≡ Fed) → (length list ≡ k) ⊎ ((role ≡ Fed) × (list ≡ []))
width_of k Input names list same (inl long) = inl (same ∙ long)
width_of k Input names list same (inr fed) = absurd (cc)
width_of k State names list same (inl long) = inl (same ∙ long)
width_of k State names list same (inr fed) = absurd (cc)
width_of k Fed names [] same long = inr (refl, refl)
width_of k Fed names (n ∷ ns) same long = absurd (omega (arith, same))
width_of k Output names list same (inl long) = inl (same ∙ long)
width_of k Output names list same (inr fed) = absurd (cc)

-- one more feed
pub feeds_step : (net : NetList) (words : List BoundWord) (before new : List Feed) (feeds : List FeedText) (i : ℕ) (d feed : FeedText) (fed : Feed) (n : ℕ) (outcome : Result (List Feed) BindFault) → i < length feeds → feed ≡ get_or feeds i d → Ok n ≡ free_net net words feed.line (number_of net feed.net) → fed ≡ bound_feed feed n → new ≡ before ++ fed ∷ [] → FeedsOf net words new (drop (i + 1) feeds) outcome → FeedsOf net words before (drop i feeds) outcome
feeds_step net words before new feeds i d feed fed n outcome less is found fed-is new-is rest =
    let more : List FeedText = drop (i + 1) feeds in
    let P : List FeedText → Type 0 = λ xs. FeedsOf net words before xs outcome in
    let Q : Feed → Type 0 = λ f. FeedsOf net words (before ++ f ∷ []) more outcome in
    let R : List Feed → Type 0 = λ xs. FeedsOf net words xs more outcome in
    let T : FeedText → Type 0 = λ x. FeedsOf net words before (x ∷ more) outcome in
    subst P (sym (drop_more feeds i d less)) (subst T is
    (after (Returns (free_net net words feed.line (number_of net feed.net))) (λ m. FeedsOf net words (before ++ bound_feed feed m ∷ []) more) n outcome found (subst Q fed-is (subst R new-is rest))))

-- a fault of the inputs, after words and feeds that are bound
pub covered_fails : (net : NetList) (words : List WordText) (feeds : List FeedText) (bound : List BoundWord) (taken : List ℕ) (fed : List Feed) (fault : BindFault) → BoundOf net [] [] words (Ok (bound, taken)) → FeedsOf net bound [] feeds (Ok fed) → FitsBinding {X = Unit {0}} {A = Unit {0}} (λ u. tt) (Err fault) (IsCovered net bound fed) → FitsBinding {X = Binding} {A = Binding} (λ b. b) (Err fault) (BindingOf net words feeds)
covered_fails net words feeds bound taken fed (NoSuchNet word place) ok is_fed fits = inr ((bound, taken), ok, inr (fed, is_fed, inl fits))
covered_fails net words feeds bound taken fed (NotInput word place) ok is_fed fits = inr ((bound, taken), ok, inr (fed, is_fed, inl fits))
covered_fails net words feeds bound taken fed (NotLatch word place) ok is_fed fits = inr ((bound, taken), ok, inr (fed, is_fed, inl fits))
covered_fails net words feeds bound taken fed (NetTwice n) ok is_fed fits = inr ((bound, taken), ok, inr (fed, is_fed, inl fits))
covered_fails net words feeds bound taken fed (FeedNotFree line) ok is_fed fits = inr ((bound, taken), ok, inr (fed, is_fed, inl fits))
covered_fails net words feeds bound taken fed (Uncovered n) ok is_fed fits = inr ((bound, taken), ok, inr (fed, is_fed, inl fits))
covered_fails net words feeds bound taken fed (UnknownStart n) ok is_fed fits = inr ((bound, taken), ok, inr (fed, is_fed, inl fits))
covered_fails net words feeds bound taken fed OutOfMemory ok is_fed fits = tt

-- a fault of a latch's start, after words and feeds that are bound and cover the inputs
pub started_fails : (net : NetList) (words : List WordText) (feeds : List FeedText) (bound : List BoundWord) (taken : List ℕ) (fed : List Feed) (fault : BindFault) → BoundOf net [] [] words (Ok (bound, taken)) → FeedsOf net bound [] feeds (Ok fed) → IsCovered net bound fed (Ok tt) → FitsBinding {X = Unit {0}} {A = Unit {0}} (λ u. tt) (Err fault) (Returns (started bound net.latches)) → FitsBinding {X = Binding} {A = Binding} (λ b. b) (Err fault) (BindingOf net words feeds)
started_fails net words feeds bound taken fed (NoSuchNet word place) ok is_fed covered fits = inr ((bound, taken), ok, inr (fed, is_fed, inr (tt, covered, inl fits)))
started_fails net words feeds bound taken fed (NotInput word place) ok is_fed covered fits = inr ((bound, taken), ok, inr (fed, is_fed, inr (tt, covered, inl fits)))
started_fails net words feeds bound taken fed (NotLatch word place) ok is_fed covered fits = inr ((bound, taken), ok, inr (fed, is_fed, inr (tt, covered, inl fits)))
started_fails net words feeds bound taken fed (NetTwice n) ok is_fed covered fits = inr ((bound, taken), ok, inr (fed, is_fed, inr (tt, covered, inl fits)))
started_fails net words feeds bound taken fed (FeedNotFree line) ok is_fed covered fits = inr ((bound, taken), ok, inr (fed, is_fed, inr (tt, covered, inl fits)))
started_fails net words feeds bound taken fed (Uncovered n) ok is_fed covered fits = inr ((bound, taken), ok, inr (fed, is_fed, inr (tt, covered, inl fits)))
started_fails net words feeds bound taken fed (UnknownStart n) ok is_fed covered fits = inr ((bound, taken), ok, inr (fed, is_fed, inr (tt, covered, inl fits)))
started_fails net words feeds bound taken fed OutOfMemory ok is_fed covered fits = tt

-- what is bound, where anything is
pub if_bound : (result : Result Binding BindFault) (outcome : Outcome BindFault Binding) (P : Binding → Type 0) → ((bound : Binding) → outcome (Ok bound) → P bound) → FitsBinding {X = Binding} {A = Binding} (λ b. b) result outcome → IfOk result P
if_bound (Ok bound) outcome P all fits = all bound fits
if_bound (Err fault) outcome P all fits = tt
