-- At most one outcome comes of binding words.
use Rattle.std.proofs.Common.{◌≡◌, ◌∙◌, ap, sym, refl, ⊎_elim, ℕ, ◌<◌, List, [], ◌∷◌, ◌++◌, length, true, false, Ok, Err, arith}
use Rattle.std.proofs.lemmas.Bool.{cases_lt, true≢false}
use Rattle.outcome.proofs.DeterminedLemmas.{determined_returns, determined_bind, determined_exactly}
use Rattle.outcome.specs.Outcome.{Outcome, ◌>>=◌, Exactly, Returns, Determined}
use Rattle.net_core.specs.NetList.{NetList, nets, number_of}
use Rattle.net_words.specs.Binding.{Binding}
use Rattle.net_words.specs.Bind.{place_net, names_with, taken_with, NetsOf, bound_word, BoundOf, IsCovered, is_uncovered, started, bits_of, BindingOf}
use Rattle.net_words.specs.Feeds.{FeedsOf, bound_feed, free_net}
use Rattle.net_words.specs.declared.binding.BindFault.{BindFault}
use Rattle.net_words.specs.declared.binding.BindFault.TheVariants.{NoSuchNet, NotInput, NotLatch, NetTwice, FeedNotFree, Uncovered, UnknownStart, OutOfMemory}
use Rattle.net_words.specs.declared.bound.BoundWord.{BoundWord}
use Rattle.net_words.specs.declared.feed.Feed.{Feed}
use Rattle.net_words.specs.declared.feed.FeedText.{FeedText}
use Rattle.net_words.specs.declared.word.Role.{Role}
use Rattle.net_words.specs.declared.word.WordText.{WordText}

nets_determined : (net : NetList) (word : ℕ) (role : Role) (taken before : List ℕ) (names : List (List ℕ)) → Determined (NetsOf net word role taken before names)
nets_determined net word role taken before [] = determined_exactly (before, taken)
nets_determined net word role taken before (name ∷ names) =
    let answer = place_net net word (length before) taken role (number_of net name) in
    determined_bind (Returns answer) (λ n. NetsOf net word role (taken_with role n taken) (before ++ n ∷ []) names) (determined_returns answer) (λ n. nets_determined net word role (taken_with role n taken) (before ++ n ∷ []) names)

words_determined : (net : NetList) (taken : List ℕ) (before : List BoundWord) (words : List WordText) → Determined (BoundOf net taken before words)
words_determined net taken before [] = determined_exactly (before, taken)
words_determined net taken before (word ∷ words) =
    determined_bind (NetsOf net (length before) word.role taken [] (names_with word.role word.nets)) (λ list. BoundOf net list.1 (before ++ bound_word word list.0 ∷ []) words) (nets_determined net (length before) word.role taken [] (names_with word.role word.nets)) (λ list. words_determined net list.1 (before ++ bound_word word list.0 ∷ []) words)

feeds_determined : (net : NetList) (words : List BoundWord) (before : List Feed) (feeds : List FeedText) → Determined (FeedsOf net words before feeds)
feeds_determined net words before [] = determined_exactly before
feeds_determined net words before (feed ∷ feeds) =
    let answer = free_net net words feed.line (number_of net feed.net) in
    determined_bind (Returns answer) (λ n. FeedsOf net words (before ++ bound_feed feed n ∷ []) feeds) (determined_returns answer) (λ n. feeds_determined net words (before ++ bound_feed feed n ∷ []) feeds)

module _ (net : NetList) (words : List BoundWord) (feeds : List Feed) where
  -- what a fault of the inputs says
  record IsLeast (e : BindFault) (n : ℕ) : Type 0 where
    is : e ≡ Uncovered n
    exists : n < nets net
    uncovered : is_uncovered net words feeds n ≡ true
    least : (m : ℕ) → m < n → is_uncovered net words feeds m ≡ false

  fault_is : (e : BindFault) → IsCovered net words feeds (Err e) → (n : ℕ) × IsLeast e n
  fault_is (Uncovered n) h = (n, record { is = refl; exists = h.0; uncovered = h.1; least = h.2 })
  fault_is (NoSuchNet word place) h = absurd h
  fault_is (NotInput word place) h = absurd h
  fault_is (NotLatch word place) h = absurd h
  fault_is (NetTwice n) h = absurd h
  fault_is (FeedNotFree line) h = absurd h
  fault_is (UnknownStart n) h = absurd h
  fault_is OutOfMemory h = absurd h

  never : (C : Type 0) (e : BindFault) → IsCovered net words feeds (Ok tt) → IsCovered net words feeds (Err e) → C
  never C e h k = let f = fault_is e k in absurd (true≢false (sym f.1.uncovered ∙ h f.0 f.1.exists))

  before_none : (m n : ℕ) (d e : BindFault) → IsLeast d m → IsLeast e n → m < n → ⊥
  before_none m n d e f g less = true≢false (sym f.uncovered ∙ g.least m less)

  one_least : (m n : ℕ) (d e : BindFault) → IsLeast d m → IsLeast e n → m ≡ n
  one_least m n d e f g =
      ⊎_elim (λ less. absurd (before_none m n d e f g less)) (λ past. ⊎_elim (λ less. absurd (before_none n m e d g f less)) (λ more. omega arith) (cases_lt n m)) (cases_lt m n)

  covered_determined : Determined (IsCovered net words feeds)
  covered_determined (Ok u) (Ok v) h k = refl
  covered_determined (Ok u) (Err e) h k = never _ e h k
  covered_determined (Err d) (Ok v) h k = never _ d k h
  covered_determined (Err d) (Err e) h k =
      let f = fault_is d h in
      let g = fault_is e k in
      ap Err (f.1.is ∙ ap Uncovered (one_least f.0 g.0 d e f.1 g.1) ∙ sym g.1.is)

pub binding_determined : (net : NetList) (words : List WordText) (feeds : List FeedText) → Determined (BindingOf net words feeds)
binding_determined net words feeds =
    determined_bind (BoundOf net [] [] words) (λ bound. FeedsOf net bound.0 [] feeds >>= (λ fed. after bound.0 fed)) (words_determined net [] [] words) (λ bound.
    determined_bind (FeedsOf net bound.0 [] feeds) (λ fed. after bound.0 fed) (feeds_determined net bound.0 [] feeds) (λ fed.
    determined_bind (IsCovered net bound.0 fed) (λ covered. known bound.0 fed) (covered_determined net bound.0 fed) (λ covered.
    determined_bind (Returns (started bound.0 net.latches)) (λ u. Exactly (made bound.0 fed)) (determined_returns (started bound.0 net.latches)) (λ u. determined_exactly (made bound.0 fed)))))
  where
    made : List BoundWord → List Feed → Binding
    made list fed = record { k = bits_of words; words = list; feeds = fed; nets = nets net }

    known : List BoundWord → List Feed → Outcome BindFault Binding
    known list fed = Returns (started list net.latches) >>= (λ u. Exactly (made list fed))

    after : List BoundWord → List Feed → Outcome BindFault Binding
    after list fed = IsCovered net list fed >>= (λ covered. known list fed)
