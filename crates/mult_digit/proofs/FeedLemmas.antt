-- The feeds of digits bind to the nets of a digit, each to its own.
use Rattle.std.proofs.Common.{◌≡◌, ◌∙◌, ap, ap₂, sym, refl, subst, ℕ, zero, suc, ◌<◌, ◌≤◌, ◌+◌, ◌-◌, ◌*◌, ◌/◌, ◌%◌, mul-suc, mul-le-mul_left, Bool, true, false, cond, List, [], ◌∷◌, ◌++◌, append-nil, Some, Ok, arith}
use Rattle.std.specs.Prelude.{slice_get, ◌==◌, ◌&&◌}
use Rattle.std.proofs.Math.Nat.{div-add-mod, mod-lt, div-lt_iff_lt-mul, mul_comm}
use Rattle.std.proofs.lemmas.List.{append_assoc}
use Rattle.std.proofs.lemmas.Bool.{eqb-true}
use Rattle.lists.specs.laws.TestLaws.{equal_itself}
use Rattle.net_core.specs.NetList.{NetList, number_of}
use Rattle.net_words.specs.Feeds.{FeedsOf, bound_feed, free_net, is_free}
use Rattle.net_words.specs.declared.bound.BoundWord.{BoundWord}
use Rattle.net_words.specs.declared.feed.Feed.{Feed}
use Rattle.net_words.specs.declared.feed.FeedText.{FeedText}
use Rattle.circuit_model.specs.declared.circuit_feed.CircuitFeed.{CircuitFeed}
use Rattle.circuit_model.specs.Feeds.{source_at}

-- ---- lines one after another
-- the feeds of lines, where line i feeds the net with this number
pub bound_from : (ℕ → ℕ) → ℕ → List FeedText → List Feed
bound_from number i [] = []
bound_from number i (feed ∷ feeds) = bound_feed feed (number i) ∷ bound_from number (suc i) feeds

pub bound_get : (number : ℕ → ℕ) (i : ℕ) (feeds : List FeedText) (j : ℕ) (f : Feed) → slice_get (bound_from number i feeds) j ≡ Some f → (feed : FeedText) × (slice_get feeds j ≡ Some feed) × (bound_feed feed (number (i + j)) ≡ f)
unfolding bound_from
bound_get number i [] j f got = absurd (cc)
bound_get number i (feed ∷ feeds) zero f got = let e : i + 0 ≡ i = omega arith in let same : bound_feed feed (number i) ≡ f = cc in (feed, refl, ap (λ n. bound_feed feed (number n)) e ∙ same)
bound_get number i (feed ∷ feeds) (suc j) f got =
    let rest = bound_get number (suc i) feeds j f got in
    let e : i + suc j ≡ suc i + j = omega arith in
    (rest.0, rest.1, ap (λ n. bound_feed rest.0 (number n)) e ∙ rest.2)

pub get_bound : (number : ℕ → ℕ) (i : ℕ) (feeds : List FeedText) (j : ℕ) (feed : FeedText) → slice_get feeds j ≡ Some feed → slice_get (bound_from number i feeds) j ≡ Some (bound_feed feed (number (i + j)))
unfolding bound_from
get_bound number i [] j feed got = absurd (cc)
get_bound number i (g ∷ feeds) zero feed got = let e : i + 0 ≡ i = omega arith in let same : g ≡ feed = cc in ap₂ (λ (h : FeedText) (n : ℕ). Some (bound_feed h (number n))) same (sym e)
get_bound number i (g ∷ feeds) (suc j) feed got =
    let e : suc i + j ≡ i + suc j = omega arith in
    get_bound number (suc i) feeds j feed got ∙ ap (λ n. Some (bound_feed feed (number n))) e

-- where each line's net has its number and is free, they bind
pub feeds_bind : (net : NetList) (words : List BoundWord) (number : ℕ → ℕ) (i : ℕ) (before : List Feed) (feeds : List FeedText)
    → ((j : ℕ) (feed : FeedText) → slice_get feeds j ≡ Some feed → (number_of net feed.net ≡ Some (number (i + j))) × (is_free net words (number (i + j)) ≡ true))
    → FeedsOf net words before feeds (Ok (before ++ bound_from number i feeds))
unfolding bound_from
feeds_bind net words number i before [] each = append-nil before
feeds_bind net words number i before (feed ∷ feeds) each =
    let e : i + 0 ≡ i = omega arith in
    let here = each 0 feed refl in
    let named : number_of net feed.net ≡ Some (number i) = here.0 ∙ ap (λ n. Some (number n)) e in
    let free : is_free net words (number i) ≡ true = ap (λ n. is_free net words (number n)) (sym e) ∙ here.1 in
    let step : free_net net words feed.line (number_of net feed.net) ≡ Ok (number i) = ap (free_net net words feed.line) named ∙ rw free refl in
    let rest = feeds_bind net words number (suc i) (before ++ bound_feed feed (number i) ∷ []) feeds (λ j g got.
    let f : i + suc j ≡ suc i + j = omega arith in
    let later = each (suc j) g got in
    (later.0 ∙ ap (λ n. Some (number n)) f, ap (λ n. is_free net words (number n)) (sym f) ∙ later.1)) in
    let whole : before ++ bound_feed feed (number i) ∷ [] ++ bound_from number (suc i) feeds ≡ before ++ bound_feed feed (number i) ∷ bound_from number (suc i) feeds = append_assoc before (bound_feed feed (number i) ∷ []) (bound_from number (suc i) feeds) in
    let P : List Feed → Type 0 = λ v. FeedsOf net words (before ++ bound_feed feed (number i) ∷ []) feeds (Ok v) in
    (number i, sym step, subst P whole rest)

-- the source that is found is that of the only feed of a net in a cycle
pub found_source : (fs : List CircuitFeed) (i : ℕ) (f : CircuitFeed) → slice_get fs i ≡ Some f → ((j : ℕ) (g : CircuitFeed) → slice_get fs j ≡ Some g → g.net ≡ f.net → g.cycle ≡ f.cycle → j ≡ i) → source_at fs f.net f.cycle ≡ f.source
found_source [] i f got only = absurd (cc)
found_source (g ∷ fs) zero f got only =
    let same : g ≡ f = cc in
    let P : CircuitFeed → Type 0 = λ h. source_at (h ∷ fs) f.net f.cycle ≡ f.source in
    subst P (sym same) (told (f.net == f.net) (f.cycle == f.cycle) (equal_itself f.net) (equal_itself f.cycle))
  where
    told : (p q : Bool) → p ≡ true → q ≡ true → cond (p && q) f.source (source_at fs f.net f.cycle) ≡ f.source
    told p q yes' yes'' = rw (yes', yes'') refl
found_source (g ∷ fs) (suc i) f got only = later (g.net == f.net) (g.cycle == f.cycle) refl refl (found_source fs i f got (λ j h at net cycle. pred (only (suc j) h at net cycle)))
  where
    pred : {j i : ℕ} → suc j ≡ suc i → j ≡ i
    pred e = omega (arith, e)

    never : 0 ≡ suc i → ⊥
    never e = omega (arith, e)

    later : (p q : Bool) → (g.net == f.net) ≡ p → (g.cycle == f.cycle) ≡ q → source_at fs f.net f.cycle ≡ f.source → cond (p && q) g.source (source_at fs f.net f.cycle) ≡ f.source
    later true true net cycle rest = absurd (never (only 0 g refl (eqb-true g.net f.net net) (eqb-true g.cycle f.cycle cycle)))
    later true false net cycle rest = rest
    later false q net cycle rest = rest

-- ---- places of bits
-- line i of k = width * count feeds is bit i % width of digit i / width
module _ (k width count : ℕ) (some : 1 ≤ width) (whole : k ≡ width * count) where
  pub cycle_low : (i : ℕ) → i < k → i / width < count
  cycle_low i less = (div-lt_iff_lt-mul {k = width} {x = i} {y = count} (omega (arith, some))).1 (omega (arith, less, whole, mul_comm width count))

  pub place_low : (i : ℕ) → i % width < width
  place_low i = mod-lt i (omega (arith, some))

  pub place_inside : (i : ℕ) → i < k → k - width * suc (i / width) + i % width < k
  place_inside i less =
      let room : width * suc (i / width) ≤ width * count = mul-le-mul_left width (cycle_low i less) in
      omega (arith, room, whole, place_low i, mul-suc width (i / width), some)

  pub same_line : (i j : ℕ) → i / width ≡ j / width → i % width ≡ j % width → i ≡ j
  same_line i j cycles places = sym (div-add-mod i width) ∙ (ap₂ (λ q r. width * q + r) cycles places ∙ div-add-mod j width)
