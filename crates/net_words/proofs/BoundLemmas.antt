-- What comes of binding words is bound to the net list.
use Rattle.std.proofs.Common.{◌≡◌, ◌∙◌, ◌⊎◌, ap, sym, refl, ⊎_elim, subst, append_assoc, ℕ, zero, suc, ◌<◌, ◌≤◌, ◌==◌, ◌&&◌, ◌||◌, not, List, [], ◌∷◌, ◌++◌, length, map, filter, Bool, true, false, cond, Option, Some, None, Result, Ok, Err, arith, All, append-nil}
use Rattle.std.proofs.lemmas.Bool.{true≢false}
use Rattle.std.proofs.lemmas.Bool.Decides.{eqb_tells}
use Rattle.lists.specs.Lists.{Has, times}
use Rattle.lists.specs.laws.BoolLaws.{not_false, or_right}
use Rattle.lists.specs.laws.HasLaws.{Has_map, times_append, All_has, any_has, has_any}
use Rattle.lists.specs.laws.OptionLaws.{same_ok, ok_no_fault}
use Rattle.lists.specs.laws.TestLaws.{none_here}
use Rattle.graph_core.specs.Walk.{IsChain}
use Rattle.net_core.specs.GateValue.{GateValue}
use Rattle.net_core.specs.LatchValue.{LatchValue}
use Rattle.net_core.specs.NetList.{NetList, nets, number_of}
use Rattle.net_core.specs.Inside.{IsInside}
use Rattle.net_core.specs.Sound.{IsSound}
use Rattle.net_core.specs.declared.latch.Start.TheVariants.{Unknown}
use Rattle.net_core.proofs.NameLemmas.{some_below}
use Rattle.net_words.specs.Binding.{Binding, AreWords, HasWidth, IsBinding}
use Rattle.net_words.specs.Bind.{is_latch, with_role, names_with, place_net, taken_with, NetsOf, bound_word, BoundOf, feeds_gate, feeds_latch, is_used, IsCovered, is_unknown, started, bits_of, BindingOf}
use Rattle.net_words.specs.BoundTo.{output_bits, StandsOn, IsBoundTo}
use Rattle.net_words.specs.Feeds.{AreFeeds, FeedsOf, fed_nets, is_fed}
use Rattle.net_words.specs.Reach.{Draws, Reaches}
use Rattle.net_words.specs.Roles.{is_output, input_count, same_role, in_word, stands_in}
use Rattle.net_words.specs.Variables.{bits, bits_with}
use Rattle.net_words.specs.declared.binding.BindFault.{BindFault}
use Rattle.net_words.specs.declared.binding.BindFault.TheVariants.{NotInput, NotLatch, NetTwice, UnknownStart}
use Rattle.net_words.specs.declared.bound.BoundWord.{BoundWord}
use Rattle.net_words.specs.declared.feed.Feed.{Feed}
use Rattle.net_words.specs.declared.feed.FeedText.{FeedText}
use Rattle.net_words.specs.declared.word.Role.{Role}
use Rattle.net_words.specs.declared.word.Role.TheVariants.{Input, State, Fed, Output}
use Rattle.net_words.specs.declared.word.WordText.{WordText}
use Rattle.net_words.proofs.BindLemmas.{width_of}
use Rattle.net_words.proofs.FeedLemmas.{feed_is, feeds_apart, fed_has}
use Rattle.net_words.proofs.MemberLemmas.{stands_has, has_stands, stands_none, word_bits, output_word}

-- no number stands twice
abbrev pub AreApart : List ℕ → Type 0
AreApart xs = (n : ℕ) → times n xs ≤ 1

apart_more : (xs : List ℕ) (n : ℕ) → stands_in xs n ≡ false → AreApart xs → AreApart (xs ++ n ∷ [])
apart_more xs n miss apart m =
    ⊎_elim (λ w. let same : n ≡ m = w.1 in omega (arith, times_append m xs (n ∷ []), rw same at (stands_none xs n miss), few (n == m))) (λ w. omega (arith, times_append m xs (n ∷ []), none_here m n w.1, apart m)) (eqb_tells n m)
  where
    few : (b : Bool) → cond b 1 0 ≤ 1
    few true = omega arith
    few false = omega arith

-- a place's net stands on what its word's role asks for, and in no other place
record IsPlaced (net : NetList) (role : Role) (taken : List ℕ) (n : ℕ) : Type 0 where
  stands : StandsOn net role n
  apart : AreApart taken → AreApart (taken_with role n taken)

latch_stands : (net : NetList) (n : ℕ) → is_latch net n ≡ true → Has (map (λ (l : LatchValue). l.out) net.latches) n
latch_stands net n hit =
    let found = has_any (λ (l : LatchValue). l.out == n) net.latches hit in
    let out : List ℕ = map (λ (l : LatchValue). l.out) net.latches in
    let has : Has out found.0.out = Has_map (λ (l : LatchValue). l.out) net.latches found.0 found.1 in
    ⊎_elim (λ w. let P : ℕ → Type 0 = λ m. Has out m in subst P w.1 has) (λ w. absurd (true≢false (sym found.2 ∙ w.0))) (eqb_tells found.0.out n)

-- the two tests of a place, which both let it through
let_through : (n m : ℕ) (b c : Bool) (e f : BindFault) → ◌≡◌ {A = Result ℕ BindFault} (Ok n) (cond (not b) (Err e) (cond c (Err f) (Ok m))) → (b ≡ true) × (c ≡ false) × (n ≡ m)
let_through n m true true e f h = absurd (ok_no_fault n f h)
let_through n m true false e f h = (refl, refl, same_ok n m h)
let_through n m false true e f h = absurd (ok_no_fault n e h)
let_through n m false false e f h = absurd (ok_no_fault n e h)

role_placed : (net : NetList) (word place : ℕ) (taken : List ℕ) (role : Role) (m n : ℕ) → m < nets net → Ok n ≡ with_role net word place taken role m → IsPlaced net role taken n
role_placed net word place taken Input m n below is =
    let through = let_through n m (stands_in net.inputs m) (stands_in taken m) (NotInput word place) (NetTwice m) is in
    let same : n ≡ m = through.2 in
    let P : ℕ → Type 0 = λ k. IsPlaced net Input taken k in
    subst P (sym same) (record { stands = stands_has net.inputs m through.0; apart = apart_more taken m through.1 })
role_placed net word place taken State m n below is =
    let through = let_through n m (is_latch net m) (stands_in taken m) (NotLatch word place) (NetTwice m) is in
    let same : n ≡ m = through.2 in
    let P : ℕ → Type 0 = λ k. IsPlaced net State taken k in
    subst P (sym same) (record { stands = latch_stands net m through.0; apart = apart_more taken m through.1 })
role_placed net word place taken Fed m n below is = absurd (ok_no_fault n (NotInput word place) is)
role_placed net word place taken Output m n below is =
    let same : n ≡ m = same_ok n m is in
    record { stands = omega arith; apart = λ apart. apart }

place_placed : (net : NetList) (word place : ℕ) (taken : List ℕ) (role : Role) (name : List ℕ) (o : Option ℕ) (n : ℕ) → o ≡ number_of net name → Ok n ≡ place_net net word place taken role o → IsPlaced net role taken n
place_placed net word place taken role name None n found is = absurd (cc)
place_placed net word place taken role name (Some m) n found is = role_placed net word place taken role m n (some_below net name (Some m) found) is

taken_more : (role : Role) (n : ℕ) (taken more : List ℕ) → taken_with role n taken ++ bits_with role more ≡ taken ++ bits_with role (n ∷ more)
taken_more Input n taken more = append_assoc taken (n ∷ []) more
taken_more State n taken more = append_assoc taken (n ∷ []) more
taken_more Fed n taken more = append_assoc taken (n ∷ []) more
taken_more Output n taken more = refl

-- the nets of a word, after those before
record NetsAdded (net : NetList) (role : Role) (taken before : List ℕ) (names : List (List ℕ)) (whole taken' : List ℕ) : Type 0 where
  more : List ℕ
  whole_is : whole ≡ before ++ more
  taken_is : taken' ≡ taken ++ bits_with role more
  long : length more ≡ length names
  stand : (n : ℕ) → Has more n → StandsOn net role n
  apart : AreApart taken → AreApart taken'

has_first : {X : Type 0} (P : X → Type 0) (x : X) (xs : List X) → P x → ((y : X) → Has xs y → P y) → (y : X) → Has (x ∷ xs) y → P y
has_first P x xs here there y (zero, got) = let same : x ≡ y = cc in subst P same here
has_first P x xs here there y (suc k, got) = there y (k, got)

nets_added : (net : NetList) (word : ℕ) (role : Role) (taken before : List ℕ) (names : List (List ℕ)) (whole taken' : List ℕ) → NetsOf net word role taken before names (Ok (whole, taken')) → NetsAdded net role taken before names whole taken'
nets_added net word role taken before [] whole taken' is =
    let taken_same : taken' ≡ taken = ap (λ p. p.1) is in
    let P : List ℕ → Type 0 = λ xs. AreApart xs in
    record {
      more = [];
      whole_is = ap (λ p. p.0) is ∙ sym (append-nil before);
      taken_is = taken_same ∙ sym (none_added role taken);
      long = refl;
      stand = λ n has. absurd (let got = has.1 in cc);
      apart = λ apart. subst P (sym taken_same) apart;
    }
  where
    none_added : (r : Role) (xs : List ℕ) → xs ++ bits_with r [] ≡ xs
    none_added Input xs = append-nil xs
    none_added State xs = append-nil xs
    none_added Fed xs = append-nil xs
    none_added Output xs = append-nil xs
nets_added net word role taken before (name ∷ names) whole taken' is =
    let n : ℕ = is.0 in
    let placed : IsPlaced net role taken n = place_placed net word (length before) taken role name (number_of net name) n refl is.1 in
    let rest : NetsAdded net role (taken_with role n taken) (before ++ n ∷ []) names whole taken' = nets_added net word role (taken_with role n taken) (before ++ n ∷ []) names whole taken' is.2 in
    record {
      more = n ∷ rest.more;
      whole_is = rest.whole_is ∙ append_assoc before (n ∷ []) rest.more;
      taken_is = rest.taken_is ∙ taken_more role n taken rest.more;
      long = omega (arith, rest.long);
      stand = has_first (StandsOn net role) n rest.more placed.stands rest.stand;
      apart = λ apart. rest.apart (placed.apart apart);
    }

-- The words bound so far, beside those of the signature.
record WordsAdded (net : NetList) (taken : List ℕ) (before : List BoundWord) (words : List WordText) (whole : List BoundWord) (taken' : List ℕ) : Type 0 where
  more : List BoundWord
  whole_is : whole ≡ before ++ more
  taken_is : taken' ≡ taken ++ bits more
  long : length more ≡ length words
  each : (k : ℕ) → All (λ word. (length word.nets ≡ k) ⊎ (word.role ≡ Fed)) words → All (HasWidth k) more
  roles : map (λ word. word.role) more ≡ map (λ word. word.role) words
  outputs : length (filter (λ word. same_role word.role Output) more) ≡ length (filter is_output words)
  others : length (filter (λ word. not (same_role word.role Output)) more) ≡ input_count words
  places : (word : BoundWord) (n : ℕ) → Has more word → Has word.nets n → StandsOn net word.role n
  apart : AreApart taken → AreApart taken'

-- two tests that say the same of the first element, and of as many after it, say it of as many
count_more : {X Y : Type 0} (p : X → Bool) (q : Y → Bool) (x : X) (y : Y) (xs : List X) (ys : List Y) → p x ≡ q y → length (filter p xs) ≡ length (filter q ys) → length (filter p (x ∷ xs)) ≡ length (filter q (y ∷ ys))
count_more p q x y xs ys same rest =
    ap (λ b. length (cond b (x ∷ filter p xs) (filter p xs))) same ∙ either (q y)
  where
    either : (b : Bool) → length (cond b (x ∷ filter p xs) (filter p xs)) ≡ length (cond b (y ∷ filter q ys) (filter q ys))
    either true = omega (arith, rest)
    either false = rest

all_first : {X : Type 0} (P : X → Type 0) (x : X) (xs : List X) → P x → All P xs → All P (x ∷ xs)
all_first P x xs here there zero d below = here
all_first P x xs here there (suc i) d below = there i d (omega arith)

words_added : (net : NetList) (taken : List ℕ) (before : List BoundWord) (words : List WordText) (whole : List BoundWord) (taken' : List ℕ) → BoundOf net taken before words (Ok (whole, taken')) → WordsAdded net taken before words whole taken'
words_added net taken before [] whole taken' is =
    let taken_same : taken' ≡ taken = ap (λ p. p.1) is in
    let P : List ℕ → Type 0 = λ xs. AreApart xs in
    record {
      more = [];
      whole_is = ap (λ p. p.0) is ∙ sym (append-nil before);
      taken_is = taken_same ∙ sym (append-nil taken);
      long = refl;
      each = λ k all i d below. absurd (omega arith);
      roles = refl;
      outputs = refl;
      others = refl;
      places = λ word n has. absurd (let got = has.1 in cc);
      apart = λ apart. subst P (sym taken_same) apart;
    }
words_added net taken before (word ∷ words) whole taken' is =
    let list : List ℕ × List ℕ = is.0 in
    let bound : BoundWord = bound_word word list.0 in
    let names : List (List ℕ) = names_with word.role word.nets in
    let here : NetsAdded net word.role taken [] names list.0 list.1 = nets_added net (length before) word.role taken [] names list.0 list.1 is.1 in
    let rest : WordsAdded net list.1 (before ++ bound ∷ []) words whole taken' = words_added net list.1 (before ++ bound ∷ []) words whole taken' is.2 in
    let nets_are : here.more ≡ list.0 = sym here.whole_is in
    let P : List ℕ → Type 0 = λ xs. (n : ℕ) → Has xs n → StandsOn net word.role n in
    let Q : BoundWord → Type 0 = λ w. (n : ℕ) → Has w.nets n → StandsOn net w.role n in
    let stand : Q bound = subst P nets_are here.stand in
    let placed : (w : BoundWord) → Has (bound ∷ rest.more) w → Q w = has_first Q bound rest.more stand (λ w has n. rest.places w n has) in
    record {
      more = bound ∷ rest.more;
      whole_is = rest.whole_is ∙ append_assoc before (bound ∷ []) rest.more;
      taken_is = rest.taken_is ∙ ap (λ xs. xs ++ bits rest.more) (here.taken_is ∙ ap (λ xs. taken ++ bits_with word.role xs) nets_are) ∙ append_assoc taken (bits_with word.role list.0) (bits rest.more);
      long = omega (arith, rest.long);
      each = λ k all. all_first (HasWidth k) bound rest.more (width_of k word.role word.nets list.0 (ap length (sym nets_are) ∙ here.long) (all 0 word (omega arith))) (rest.each k (λ i d below. all (suc i) d (omega arith)));
      roles = ap (λ roles. word.role ∷ roles) rest.roles;
      outputs = count_more (λ w. same_role w.role Output) is_output bound word rest.more words refl rest.outputs;
      others = count_more (λ w. not (same_role w.role Output)) (λ w. not (is_output w)) bound word rest.more words refl rest.others;
      places = λ w n has. placed w has n;
      apart = λ apart. rest.apart (here.apart apart);
    }

-- a latch without a start is in a state word
started_each : (words : List BoundWord) (latches : List LatchValue) → Ok tt ≡ started words latches → (l : LatchValue) → Has latches l → l.start ≡ Unknown → in_word State words l.out ≡ true
started_each words [] ok l has start = absurd (let got = has.1 in cc)
started_each words (latch ∷ latches) ok l has start =
    let P : LatchValue → Type 0 = λ l. l.start ≡ Unknown → in_word State words l.out ≡ true in
    elim (is_unknown latch.start && not (in_word State words latch.out)) as (λ b. (is_unknown latch.start && not (in_word State words latch.out)) ≡ b → Ok tt ≡ cond b (Err (UnknownStart latch.out)) (started words latches) → (l : LatchValue) → Has (latch ∷ latches) l → P l) [
      | true ↦ λ e h. absurd (cc)
      | false ↦ λ e h. has_first P latch latches (λ unknown. not_false (in_word State words latch.out) (sym (ap (λ s. is_unknown s && not (in_word State words latch.out)) unknown) ∙ e)) (started_each words latches h)
    ] refl ok l has start

-- the last net of a chain is drawn from
last_draw : (R : ℕ → ℕ → Type 0) (m : ℕ) (over : List ℕ) (n : ℕ) → IsChain R m over n → (x : ℕ) × R x n
last_draw R m [] n chain = (m, chain)
last_draw R m (c ∷ cs) n chain = last_draw R c cs n chain.1

or_left : (a b : Bool) → a ≡ true → (a || b) ≡ true
or_left true b e = refl
or_left false b e = absurd (cc)

drawn_used : (net : NetList) (words : List BoundWord) (x n : ℕ) → Draws net x n → is_used net words n ≡ true
drawn_used net words x n draws =
    ⊎_elim (λ gate. or_left (feeds_gate net n || feeds_latch net n) (in_word Output words n) (or_left (feeds_gate net n) (feeds_latch net n) (any_has (λ (g : GateValue). stands_in g.inputs n) net.gates gate.0 gate.1 (has_stands gate.0.inputs n gate.3)))) (λ latch. or_left (feeds_gate net n || feeds_latch net n) (in_word Output words n) (or_right (feeds_gate net n) (feeds_latch net n) (any_has (λ (l : LatchValue). l.next == n) net.latches latch.0 latch.1 (is_same latch.0.next latch.3)))) draws
  where
    is_same : (m : ℕ) → m ≡ n → (m == n) ≡ true
    is_same m e = ⊎_elim (λ w. w.0) (λ w. absurd (w.1 e)) (eqb_tells m n)

reach_used : (net : NetList) (words : List BoundWord) (n : ℕ) → Reaches net n (output_bits words) → is_used net words n ≡ true
reach_used net words n reaches =
    ⊎_elim (λ here. or_right (feeds_gate net n || feeds_latch net n) (in_word Output words n) (output_word words n here)) (λ far. let last = last_draw (Draws net) far.0 far.1 n far.3 in drawn_used net words last.0 n last.1) reaches

-- a primary input that is in no word and not fed reaches no bit of the output word
covered_reach : (net : NetList) (words : List BoundWord) (feeds : List Feed) (n : ℕ) → IsInside net → IsCovered net words feeds (Ok tt) → Has net.inputs n → (Has (bits words) n → ⊥) → (Has (fed_nets feeds) n → ⊥) → Reaches net n (output_bits words) → ⊥
covered_reach net words feeds n inside covered has free unfed reaches =
    let below : n < nets net = All_has (λ m. m < nets net) net.inputs n inside.inputs has in
    true≢false (sym (uncovered (stands_in net.inputs n) (in_word Input words n) (is_fed feeds n) (is_used net words n) (has_stands net.inputs n has) (λ hit. free (word_bits Input words n refl hit)) (λ hit. unfed (fed_has feeds n hit)) (reach_used net words n reaches)) ∙ covered n below)
  where
    uncovered : (a b c d : Bool) → a ≡ true → (b ≡ true → ⊥) → (c ≡ true → ⊥) → d ≡ true → (a && not b && not c && d) ≡ true
    uncovered true true c d ea eb ec ed = absurd (eb refl)
    uncovered true false true d ea eb ec ed = absurd (ec refl)
    uncovered true false false d ea eb ec ed = ed
    uncovered false b c d ea eb ec ed = absurd (cc)

-- the first word that is not fed has k nets, as each such word has
pub first_long : (k : ℕ) (words : List WordText) → AreWords k words → bits_of words ≡ k
first_long k words are = first words are.each (omega (arith, are.output))
  where
    first : (ws : List WordText) → All (λ word. (length word.nets ≡ k) ⊎ (word.role ≡ Fed)) ws → 1 ≤ length (filter is_output ws) → bits_of ws ≡ k
    first [] each some = absurd (omega (arith, some))
    first (word ∷ ws) each some = by word.role refl (each 0 word (omega arith)) some (first ws (λ i d below. each (suc i) d (omega arith)))
      where
        by : (r : Role) → word.role ≡ r → (length word.nets ≡ k) ⊎ (word.role ≡ Fed) → 1 ≤ length (cond (same_role r Output) (word ∷ filter is_output ws) (filter is_output ws)) → (1 ≤ length (filter is_output ws) → bits_of ws ≡ k) → cond (same_role r Fed) (bits_of ws) (length word.nets) ≡ k
        by Input is own some rest = ⊎_elim (λ long. long) (λ fed. absurd (cc)) own
        by State is own some rest = ⊎_elim (λ long. long) (λ fed. absurd (cc)) own
        by Fed is own some rest = rest some
        by Output is own some rest = ⊎_elim (λ long. long) (λ fed. absurd (cc)) own

-- words that are bound are parts of a binding
pub bound_parts : (net : NetList) (k : ℕ) (words : List WordText) (list : List BoundWord) (taken : List ℕ) (feeds : List Feed) (count : ℕ) → AreWords k words → BoundOf net [] [] words (Ok (list, taken)) → IsBinding (record { k = bits_of words; words = list; feeds = feeds; nets = count })
bound_parts net k words list taken feeds count are is =
    let added : WordsAdded net [] [] words list taken = words_added net [] [] words list taken is in
    let long : bits_of words ≡ k = first_long k words are in
    let same : added.more ≡ list = sym added.whole_is in
    let A : ℕ → Type 0 = λ j. All (HasWidth j) added.more in
    let Q : List BoundWord → Type 0 = λ xs. IsBinding (record { k = bits_of words; words = xs; feeds = feeds; nets = count }) in
    subst Q same (record {
      some = omega (arith, are.some, long);
      most = omega (arith, are.most, long);
      one = added.outputs ∙ are.output;
      few = omega (arith, added.others, are.others);
      each = subst A (sym long) (added.each k are.each);
    })

-- words and feeds that are bound by the list are bound to the net list
pub bound_to : (net : NetList) (k : ℕ) (words : List WordText) (feeds : List FeedText) (binding : Binding) → IsSound net → AreWords k words → AreFeeds k (map (λ word. word.role) words) feeds → BindingOf net words feeds (Ok binding) → IsBoundTo net binding
bound_to net k words feeds binding sound are fed is =
    let list : List BoundWord = is.0.0 in
    let added : WordsAdded net [] [] words list is.0.1 = words_added net [] [] words list is.0.1 is.1 in
    let found : List Feed = is.2.0 in
    let of : FeedsOf net list [] feeds (Ok found) = is.2.1 in
    let covered : IsCovered net list found (Ok tt) = is.2.2.1 in
    let known : Ok tt ≡ started list net.latches = is.2.2.2.1 in
    let long : bits_of words ≡ k = first_long k words are in
    let same : added.more ≡ list = sym added.whole_is in
    let apart : AreApart (bits added.more) = subst AreApart added.taken_is (added.apart (λ n. omega arith)) in
    let P : Binding → Type 0 = λ b. IsBoundTo net b in
    let Q : List BoundWord → Type 0 = λ xs. IsBoundTo net (record { k = bits_of words; words = xs; feeds = found; nets = nets net }) in
    let R : List BoundWord → Type 0 = λ xs. IsCovered net xs found (Ok tt) in
    let S : List BoundWord → Type 0 = λ xs. Ok tt ≡ started xs net.latches in
    let T : List BoundWord → Type 0 = λ xs. FeedsOf net xs [] feeds (Ok found) in
    let covers : IsCovered net added.more found (Ok tt) = subst R (sym same) covered in
    let starts : Ok tt ≡ started added.more net.latches = subst S (sym same) known in
    let fed_of : FeedsOf net added.more [] feeds (Ok found) = subst T (sym same) of in
    let B : List BoundWord → Type 0 = λ xs. IsBinding (record { k = bits_of words; words = xs; feeds = found; nets = nets net }) in
    let F : List Role → Type 0 = λ roles. AreFeeds k roles feeds in
    let are_fed : AreFeeds k (map (λ (w : BoundWord). w.role) added.more) feeds = subst F (sym added.roles) fed in
    let G : ℕ → Type 0 = λ j. AreFeeds j (map (λ (w : BoundWord). w.role) added.more) feeds in
    let all_fed : AreFeeds (bits_of words) (map (λ (w : BoundWord). w.role) added.more) feeds = subst G (sym long) are_fed in
    subst P (sym is.2.2.2.2) (subst Q same (record {
      parts = subst B (sym same) (bound_parts net k words list is.0.1 found (nets net) are is.1);
      count = refl;
      once = apart;
      places = added.places;
      feeds = λ f has. feed_is net (bits_of words) added.more feeds found all_fed fed_of (record { k = bits_of words; words = added.more; feeds = found; nets = nets net }) refl refl f has;
      apart = λ i j f g at_f at_g net_same cycle_same. feeds_apart net (bits_of words) added.more feeds found all_fed fed_of i j f g at_f at_g net_same cycle_same;
      starts = λ l has free unknown. free (word_bits State added.more l.out refl (started_each added.more net.latches starts l has unknown));
      covered = λ n has free unfed reaches. covered_reach net added.more found n sound.inside covers has free unfed reaches;
    }))
