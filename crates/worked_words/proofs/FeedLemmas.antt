-- Feeds that can be bound, by their first and the rest.
use Rattle.std.proofs.Common.{◌≡◌, ap, sym, refl, subst, ℕ, zero, suc, ◌≤◌, List, [], ◌∷◌, length, get_or, Some, arith}
use Rattle.std.specs.Prelude.{slice_get}
use Rattle.lists.specs.Lists.{Has}
use Rattle.net_words.specs.Feeds.{AreFeeds, IsSource}
use Rattle.net_words.specs.declared.feed.FeedText.{FeedText}
use Rattle.net_words.specs.declared.word.Role.{Role}
use Rattle.circuit_model.proofs.SliceLemmas.{rest, rest_is}

-- no feed of a list has this one's net and cycle
abbrev pub IsApart : FeedText → List FeedText → Type 0
IsApart feed others = (other : FeedText) → Has others other → feed.net ≡ other.net → feed.cycle ≡ other.cycle → ⊥

pub apart_in : (feed : FeedText) (others : List FeedText) (first : FeedText) → 1 ≤ length others → first ≡ get_or others 0 first → (feed.net ≡ first.net → feed.cycle ≡ first.cycle → ⊥) → IsApart feed (rest others) → IsApart feed others
apart_in feed [] first some is differ apart other has = absurd (omega arith)
apart_in feed (g ∷ gs) first some is differ apart other (zero, got) =
    let same : first ≡ other = cc in
    let P : FeedText → Type 0 = λ h. feed.net ≡ h.net → feed.cycle ≡ h.cycle → ⊥ in
    subst P same differ
apart_in feed (g ∷ gs) first some is differ apart other (suc n, got) =
    let P : List FeedText → Type 0 = λ hs. IsApart feed hs in
    subst P (rest_is g gs) apart other (n, got)

source_in : (k : ℕ) (roles : List Role) (f : FeedText) (fs : List FeedText) → IsSource k roles f.source → ((feed : FeedText) → Has fs feed → IsSource k roles feed.source) → (feed : FeedText) → Has (f ∷ fs) feed → IsSource k roles feed.source
source_in k roles f fs here later feed (zero, got) =
    let same : f ≡ feed = cc in
    let P : FeedText → Type 0 = λ g. IsSource k roles g.source in
    subst P same here
source_in k roles f fs here later feed (suc n, got) = later feed (n, got)

apart_from : (f : FeedText) (fs : List FeedText) → IsApart f fs → (j : ℕ) (g h : FeedText) → f ≡ g → slice_get fs j ≡ Some h → g.net ≡ h.net → g.cycle ≡ h.cycle → ⊥
apart_from f fs apart j g h same at =
    let P : FeedText → Type 0 = λ x. x.net ≡ h.net → x.cycle ≡ h.cycle → ⊥ in
    subst P same (apart h (j, at))

two_in : (k : ℕ) (roles : List Role) (f : FeedText) (fs : List FeedText) → IsApart f fs → AreFeeds k roles fs → (i j : ℕ) (g h : FeedText) → slice_get (f ∷ fs) i ≡ Some g → slice_get (f ∷ fs) j ≡ Some h → g.net ≡ h.net → g.cycle ≡ h.cycle → i ≡ j
two_in k roles f fs apart feeds zero zero g h at there net cycle = refl
two_in k roles f fs apart feeds zero (suc j) g h at there net cycle =
    let same : f ≡ g = cc in
    absurd (apart_from f fs apart j g h same there net cycle)
two_in k roles f fs apart feeds (suc i) zero g h at there net cycle =
    let same : f ≡ h = cc in
    absurd (apart_from f fs apart i h g same at (sym net) (sym cycle))
two_in k roles f fs apart feeds (suc i) (suc j) g h at there net cycle = ap suc (feeds.apart i j g h at there net cycle)

feeds_cons : (k : ℕ) (roles : List Role) (f : FeedText) (fs : List FeedText) → IsSource k roles f.source → IsApart f fs → AreFeeds k roles fs → AreFeeds k roles (f ∷ fs)
feeds_cons k roles f fs source apart feeds = record { sources = source_in k roles f fs source feeds.sources; apart = two_in k roles f fs apart feeds }

pub feeds_in : (k : ℕ) (roles : List Role) (feeds : List FeedText) (first : FeedText) → 1 ≤ length feeds → first ≡ get_or feeds 0 first → IsSource k roles first.source → IsApart first (rest feeds) → AreFeeds k roles (rest feeds) → AreFeeds k roles feeds
feeds_in k roles [] first some is source apart later = absurd (omega arith)
feeds_in k roles (g ∷ gs) first some is source apart later =
    let P : FeedText → Type 0 = λ h. IsSource k roles h.source in
    let Q : List FeedText → Type 0 = λ hs. IsApart first hs in
    let R : FeedText → Type 0 = λ h. IsApart h gs in
    let S : List FeedText → Type 0 = λ hs. AreFeeds k roles hs in
    feeds_cons k roles g gs (subst P is source) (subst R is (subst Q (rest_is g gs) apart)) (subst S (rest_is g gs) later)
