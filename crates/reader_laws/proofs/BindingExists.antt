-- Some outcome comes of binding words.
use Rattle.std.proofs.Common.{◌≡◌, ◌⊎◌, refl, inl, inr, ℕ, zero, suc, ◌<◌, Bool, true, false, List, [], ◌∷◌, ◌++◌, length, Result, Ok, Err, arith}
use Rattle.lists.specs.laws.NumberLaws.{nat_eq_or}
use Rattle.outcome.specs.Outcome.{◌>>=◌, Exactly, Returns}
use Rattle.outcome.proofs.SomeLemmas.{some_bind, some_exactly, some_returns}
use Rattle.net_core.specs.NetList.{NetList, nets, number_of}
use Rattle.net_words.specs.Binding.{Binding}
use Rattle.net_words.specs.Bind.{bits_of, bound_word, is_uncovered, names_with, place_net, started, taken_with, BindingOf, BoundOf, IsCovered, NetsOf}
use Rattle.net_words.specs.Feeds.{bound_feed, free_net, FeedsOf}
use Rattle.net_words.specs.declared.binding.BindFault.{BindFault}
use Rattle.net_words.specs.declared.binding.BindFault.TheVariants.{Uncovered}
use Rattle.net_words.specs.declared.bound.BoundWord.{BoundWord}
use Rattle.net_words.specs.declared.feed.Feed.{Feed}
use Rattle.net_words.specs.declared.feed.FeedText.{FeedText}
use Rattle.net_words.specs.declared.word.Role.{Role}
use Rattle.net_words.specs.declared.word.WordText.{WordText}

some_nets : (net : NetList) (word : ℕ) (role : Role) (taken before : List ℕ) (names : List (List ℕ)) → (outcome : Result (List ℕ × List ℕ) BindFault) × NetsOf net word role taken before names outcome
some_nets net word role taken before [] = (Ok (before, taken), refl)
some_nets net word role taken before (name ∷ names) =
    let answer = place_net net word (length before) taken role (number_of net name) in
    some_bind (Returns answer) (λ n. NetsOf net word role (taken_with role n taken) (before ++ n ∷ []) names) (some_returns answer) (λ n may. some_nets net word role (taken_with role n taken) (before ++ n ∷ []) names)

some_words : (net : NetList) (taken : List ℕ) (before : List BoundWord) (words : List WordText) → (outcome : Result (List BoundWord × List ℕ) BindFault) × BoundOf net taken before words outcome
some_words net taken before [] = (Ok (before, taken), refl)
some_words net taken before (word ∷ words) =
    some_bind (NetsOf net (length before) word.role taken [] (names_with word.role word.nets)) (λ list. BoundOf net list.1 (before ++ bound_word word list.0 ∷ []) words)
    (some_nets net (length before) word.role taken [] (names_with word.role word.nets)) (λ list may. some_words net list.1 (before ++ bound_word word list.0 ∷ []) words)

some_feeds : (net : NetList) (words : List BoundWord) (before : List Feed) (feeds : List FeedText) → (outcome : Result (List Feed) BindFault) × FeedsOf net words before feeds outcome
some_feeds net words before [] = (Ok before, refl)
some_feeds net words before (feed ∷ feeds) =
    let answer = free_net net words feed.line (number_of net feed.net) in
    some_bind (Returns answer) (λ n. FeedsOf net words (before ++ bound_feed feed n ∷ []) feeds) (some_returns answer) (λ n may. some_feeds net words (before ++ bound_feed feed n ∷ []) feeds)

-- ---- the least number below a bound that passes a test, if there is one

module _ (test : ℕ → Bool) where
  none_more : (bound : ℕ) → ((n : ℕ) → n < bound → test n ≡ false) → test bound ≡ false → (n : ℕ) → n < suc bound → test n ≡ false
  none_more bound none here n less =
      elim (nat_eq_or n bound) [ inl same ↦ rw same here | inr other ↦ none n (omega (arith, less, other)) ]

  least_or : (bound : ℕ) → ((n : ℕ) → n < bound → test n ≡ false) ⊎ ((n : ℕ) × (n < bound) × (test n ≡ true) × ((m : ℕ) → m < n → test m ≡ false))
  least_or zero = inl (λ n less. absurd (omega (arith, less)))
  least_or (suc bound) = by (least_or bound) (test bound) refl
    where
      by : ((n : ℕ) → n < bound → test n ≡ false) ⊎ ((n : ℕ) × (n < bound) × (test n ≡ true) × ((m : ℕ) → m < n → test m ≡ false)) → (b : Bool) → test bound ≡ b → ((n : ℕ) → n < suc bound → test n ≡ false) ⊎ ((n : ℕ) × (n < suc bound) × (test n ≡ true) × ((m : ℕ) → m < n → test m ≡ false))
      by (inr (n, less, is, before)) b at = inr (n, omega (arith, less), is, before)
      by (inl none) true at = inr (bound, omega arith, at, none)
      by (inl none) false at = inl (none_more bound none at)

some_covered : (net : NetList) (words : List BoundWord) (feeds : List Feed) → (outcome : Result (Unit {0}) BindFault) × IsCovered net words feeds outcome
some_covered net words feeds = by (least_or (is_uncovered net words feeds) (nets net))
  where
    by : ((n : ℕ) → n < nets net → is_uncovered net words feeds n ≡ false) ⊎ ((n : ℕ) × (n < nets net) × (is_uncovered net words feeds n ≡ true) × ((m : ℕ) → m < n → is_uncovered net words feeds m ≡ false)) → (outcome : Result (Unit {0}) BindFault) × IsCovered net words feeds outcome
    by (inl none) = (Ok tt, none)
    by (inr (n, less, is, before)) = (Err (Uncovered n), (less, is, before))

-- ---- the whole

abbrev made : NetList → List WordText → List BoundWord → List Feed → Binding
made net words list fed = record { k = bits_of words; words = list; feeds = fed; nets = nets net }

pub some_binding : (net : NetList) (words : List WordText) (feeds : List FeedText) → (outcome : Result Binding BindFault) × BindingOf net words feeds outcome
some_binding net words feeds =
    some_bind (BoundOf net [] [] words) (λ bound. FeedsOf net bound.0 [] feeds >>= (λ fed. IsCovered net bound.0 fed >>= (λ covered. Returns (started bound.0 net.latches) >>= (λ u. Exactly (made net words bound.0 fed))))) (some_words net [] [] words)
    (λ bound may. some_bind (FeedsOf net bound.0 [] feeds) (λ fed. IsCovered net bound.0 fed >>= (λ covered. Returns (started bound.0 net.latches) >>= (λ u. Exactly (made net words bound.0 fed)))) (some_feeds net bound.0 [] feeds)
    (λ fed are. some_bind (IsCovered net bound.0 fed) (λ covered. Returns (started bound.0 net.latches) >>= (λ u. Exactly (made net words bound.0 fed))) (some_covered net bound.0 fed)
    (λ covered all. some_bind (Returns (started bound.0 net.latches)) (λ u. Exactly (made net words bound.0 fed)) (some_returns (started bound.0 net.latches))
    (λ u known. some_exactly (made net words bound.0 fed)))))
