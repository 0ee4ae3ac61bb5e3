-- What comes of binding feeds.
use Rattle.std.proofs.Common.{◌≡◌, ◌∙◌, ap, sym, refl, ⊎_elim, subst, append_assoc, ℕ, zero, suc, ◌≤◌, ◌+◌, ◌==◌, ◌&&◌, not, List, [], ◌∷◌, ◌++◌, map, true, false, cond, Option, Some, None, Result, Ok, Err, arith, append-nil}
use Rattle.std.specs.Prelude.{slice_get}
use Rattle.std.specs.Str.{bytes_eq}
use Rattle.std.proofs.lemmas.Bool.{true≢false}
use Rattle.std.proofs.lemmas.Bool.Decides.{eqb_tells}
use Rattle.std.proofs.lemmas.Slice.Eq.{bytes_eq-Decides}
use Rattle.lists.specs.Lists.{Has}
use Rattle.lists.specs.laws.BoolLaws.{first_true as and_left, second_true as and_right, not_true}
use Rattle.lists.specs.laws.HasLaws.{Has_map, has_any}
use Rattle.net_core.specs.NetList.{NetList, LabelValue, is_named, number_from, number_of}
use Rattle.net_words.specs.Binding.{Binding}
use Rattle.net_words.specs.BoundTo.{IsBoundFeed}
use Rattle.net_words.specs.Feeds.{AreFeeds, FeedsOf, IsSource, bound_feed, fed_nets, free_net, is_fed, is_free}
use Rattle.net_words.specs.Roles.{in_word, stands_in}
use Rattle.net_words.specs.declared.binding.BindFault.{BindFault}
use Rattle.net_words.specs.declared.binding.BindFault.TheVariants.{FeedNotFree}
use Rattle.net_words.specs.declared.bound.BoundWord.{BoundWord}
use Rattle.net_words.specs.declared.feed.Feed.{Feed}
use Rattle.net_words.specs.declared.feed.FeedText.{FeedText}
use Rattle.net_words.specs.declared.feed.Source.{Source}
use Rattle.net_words.specs.declared.word.Role.TheVariants.{Input}
use Rattle.net_words.proofs.MemberLemmas.{stands_has}

-- a number that is found is one of those from n on
number_past : (n : ℕ) (labels : List LabelValue) (name : List ℕ) (k : ℕ) → number_from n labels name ≡ Some k → n ≤ k
number_past n [] name k found = absurd (cc)
number_past n (x ∷ xs) name k found =
    elim (is_named name x) as (λ b. cond b (Some n) (number_from (n + 1) xs name) ≡ Some k → n ≤ k) [
      | true ↦ λ e. let same : n ≡ k = cc in omega arith
      | false ↦ λ e. omega (arith, number_past (n + 1) xs name k e)
    ] found

-- two names that are both a label's are one
same_label : (a b : List ℕ) (x : LabelValue) → is_named a x ≡ true → is_named b x ≡ true → a ≡ b
same_label a b x is_a is_b = (bytes_eq-Decides a x.text).0 (and_right x.named (bytes_eq a x.text) is_a) ∙ sym ((bytes_eq-Decides b x.text).0 (and_right x.named (bytes_eq b x.text) is_b))

-- no two names have one number
names_apart : (n : ℕ) (labels : List LabelValue) (a b : List ℕ) (k : ℕ) → number_from n labels a ≡ Some k → number_from n labels b ≡ Some k → a ≡ b
names_apart n [] a b k found also = absurd (cc)
names_apart n (x ∷ xs) a b k found also =
    elim (is_named a x) as (λ p. is_named a x ≡ p → cond p (Some n) (number_from (n + 1) xs a) ≡ Some k → a ≡ b) [
      | true ↦ λ is_a e. elim (is_named b x) as (λ q. is_named b x ≡ q → cond q (Some n) (number_from (n + 1) xs b) ≡ Some k → a ≡ b) [
        | true ↦ λ is_b f. same_label a b x is_a is_b
        | false ↦ λ is_b f. let same : n ≡ k = cc in absurd (omega (arith, number_past (n + 1) xs b k f, same))
      ] refl also
      | false ↦ λ is_a e. elim (is_named b x) as (λ q. is_named b x ≡ q → cond q (Some n) (number_from (n + 1) xs b) ≡ Some k → a ≡ b) [
        | true ↦ λ is_b f. let same : n ≡ k = cc in absurd (omega (arith, number_past (n + 1) xs a k e, same))
        | false ↦ λ is_b f. names_apart (n + 1) xs a b k e f
      ] refl also
    ] refl found

-- a feed of this text
record IsOf (net : NetList) (words : List BoundWord) (text : FeedText) (feed : Feed) : Type 0 where
  number : number_of net text.net ≡ Some feed.net
  free : is_free net words feed.net ≡ true
  cycle : feed.cycle ≡ text.cycle
  source : feed.source ≡ text.source

free_is : (net : NetList) (words : List BoundWord) (text : FeedText) (o : Option ℕ) (n : ℕ) → number_of net text.net ≡ o → Ok n ≡ free_net net words text.line o → IsOf net words text (bound_feed text n)
free_is net words text None n found is = absurd (cc)
free_is net words text (Some m) n found is =
    elim (is_free net words m) as (λ b. is_free net words m ≡ b → ◌≡◌ {A = Result ℕ BindFault} (Ok n) (cond b (Ok m) (Err (FeedNotFree text.line))) → IsOf net words text (bound_feed text n)) [
      | true ↦ λ e h. (let same : n ≡ m = cc in record { number = found ∙ ap Some (sym same); free = ap (is_free net words) same ∙ e; cycle = refl; source = refl })
      | false ↦ λ e h. absurd (cc)
    ] refl is

-- the feeds after those before, each of its text
record FeedsAdded (net : NetList) (words : List BoundWord) (before : List Feed) (feeds : List FeedText) (whole : List Feed) : Type 0 where
  more : List Feed
  whole_is : whole ≡ before ++ more
  each : (i : ℕ) (f : Feed) → slice_get more i ≡ Some f → (text : FeedText) × (slice_get feeds i ≡ Some text) × IsOf net words text f

feeds_added : (net : NetList) (words : List BoundWord) (before : List Feed) (feeds : List FeedText) (whole : List Feed) → FeedsOf net words before feeds (Ok whole) → FeedsAdded net words before feeds whole
feeds_added net words before [] whole is = record { more = []; whole_is = is ∙ sym (append-nil before); each = λ i f at. absurd (cc) }
feeds_added net words before (text ∷ texts) whole is =
    let n : ℕ = is.0 in
    let own : IsOf net words text (bound_feed text n) = free_is net words text (number_of net text.net) n refl is.1 in
    let rest : FeedsAdded net words (before ++ bound_feed text n ∷ []) texts whole = feeds_added net words (before ++ bound_feed text n ∷ []) texts whole is.2 in
    record {
      more = bound_feed text n ∷ rest.more;
      whole_is = rest.whole_is ∙ append_assoc before (bound_feed text n ∷ []) rest.more;
      each = first own rest.more rest.each;
    }
  where
    first : {feed : Feed} → IsOf net words text feed → (more : List Feed) → ((i : ℕ) (f : Feed) → slice_get more i ≡ Some f → (t : FeedText) × (slice_get texts i ≡ Some t) × IsOf net words t f) → (i : ℕ) (f : Feed) → slice_get (feed ∷ more) i ≡ Some f → (t : FeedText) × (slice_get (text ∷ texts) i ≡ Some t) × IsOf net words t f
    first {feed} own more each zero f at = let same : feed ≡ f = cc in let P : Feed → Type 0 = λ g. IsOf net words text g in (text, refl, subst P same own)
    first own more each (suc i) f at = each i f at

module _ (net : NetList) (k : ℕ) (words : List BoundWord) (feeds : List FeedText) (found : List Feed) (are : AreFeeds k (map (λ (w : BoundWord). w.role) words) feeds) (is : FeedsOf net words [] feeds (Ok found)) where
  of_text : (i : ℕ) (f : Feed) → slice_get found i ≡ Some f → (text : FeedText) × (slice_get feeds i ≡ Some text) × IsOf net words text f
  of_text i f at =
      let added = feeds_added net words [] feeds found is in
      let P : List Feed → Type 0 = λ fs. slice_get fs i ≡ Some f in
      added.each i f (subst P added.whole_is at)

  -- what is bound is a feed
  pub feed_is : (binding : Binding) → binding.k ≡ k → binding.words ≡ words → (f : Feed) → Has found f → IsBoundFeed net binding f
  feed_is binding same_k same_words f has =
      let text = of_text has.0 f has.1 in
      let P : ℕ → Type 0 = λ j. IsSource j (map (λ (w : BoundWord). w.role) binding.words) f.source in
      let Q : List BoundWord → Type 0 = λ ws. IsSource k (map (λ (w : BoundWord). w.role) ws) f.source in
      let R : Source → Type 0 = λ s. IsSource k (map (λ (w : BoundWord). w.role) words) s in
      let both : (stands_in net.inputs f.net && not (in_word Input words f.net)) ≡ true = text.2.free in
      record {
        input = stands_has net.inputs f.net (and_left (stands_in net.inputs f.net) (not (in_word Input words f.net)) both);
        unheld = ap (λ ws. in_word Input ws f.net) same_words ∙ not_true (in_word Input words f.net) (and_right (stands_in net.inputs f.net) (not (in_word Input words f.net)) both);
        source = subst P (sym same_k) (subst Q (sym same_words) (subst R (sym text.2.source) (are.sources text.0 (has.0, text.1))));
      }

  -- no two have the same net and cycle
  pub feeds_apart : (i j : ℕ) (f g : Feed) → slice_get found i ≡ Some f → slice_get found j ≡ Some g → f.net ≡ g.net → f.cycle ≡ g.cycle → i ≡ j
  feeds_apart i j f g at_f at_g net_same cycle_same =
      let s = of_text i f at_f in
      let t = of_text j g at_g in
      are.apart i j s.0 t.0 s.1 t.1 (names_apart 0 net.labels s.0.net t.0.net f.net s.2.number (t.2.number ∙ ap Some (sym net_same))) (sym s.2.cycle ∙ cycle_same ∙ t.2.cycle)

-- a net that is fed is that of a feed
pub fed_has : (feeds : List Feed) (n : ℕ) → is_fed feeds n ≡ true → Has (fed_nets feeds) n
fed_has feeds n hit =
    let found = has_any (λ (f : Feed). f.net == n) feeds hit in
    let has : Has (fed_nets feeds) found.0.net = Has_map (λ (f : Feed). f.net) feeds found.0 found.1 in
    ⊎_elim (λ w. let P : ℕ → Type 0 = λ m. Has (fed_nets feeds) m in subst P w.1 has) (λ w. absurd (true≢false (sym found.2 ∙ w.0))) (eqb_tells found.0.net n)
