-- What stands in lists and words, under new numbers.
use Rattle.std.proofs.Common.{◌≡◌, ◌∙◌, ap, ℕ, ◌<◌, ◌==◌, ◌&&◌, ◌||◌, not, List, map}
use Rattle.std.specs.List.{list_any}
use Rattle.lists.specs.Lists.{Has}
use Rattle.lists.specs.laws.HasLaws.{All_has}
use Rattle.net_core.specs.GateValue.{GateValue}
use Rattle.net_core.specs.Inside.{GateIsInside, IsInside, LatchIsInside}
use Rattle.net_core.specs.LatchValue.{LatchValue}
use Rattle.net_core.specs.NetList.{NetList, nets}
use Rattle.net_words.specs.Bind.{feeds_gate, feeds_latch, is_latch, is_uncovered, is_used}
use Rattle.net_words.specs.Feeds.{is_fed, is_free}
use Rattle.net_words.specs.Roles.{in_word, same_role, stands_in}
use Rattle.net_words.specs.declared.bound.BoundWord.{BoundWord}
use Rattle.net_words.specs.declared.feed.Feed.{Feed}
use Rattle.net_words.specs.declared.word.Role.{Role}
use Rattle.net_words.specs.declared.word.Role.TheVariants.{Input, Output}
use Rattle.make_laws.specs.Renumbering.{IsRenumbering, gate_under, latch_under}
use Rattle.make_laws.proofs.BindingUnder.{feed_under, word_under}
use Rattle.make_laws.proofs.NumberListLemmas.{any_under, equal_under}

-- the numbers are nets
abbrev pub AreNets : NetList → List ℕ → Type 0
AreNets net ns = (n : ℕ) → Has ns n → n < nets net

-- the words stand on nets
abbrev pub StandOnNets : NetList → List BoundWord → Type 0
StandOnNets net words = (word : BoundWord) → Has words word → AreNets net word.nets

-- the feeds feed nets
abbrev pub FeedNets : NetList → List Feed → Type 0
FeedNets net feeds = (feed : Feed) → Has feeds feed → feed.net < nets net

module _ (f : ℕ → ℕ) (from to : NetList) (is : IsRenumbering f from to) (inside : IsInside from) where
  pub same_net : (m n : ℕ) → m < nets from → n < nets from → (f m == f n) ≡ (m == n)
  same_net m n low low' = equal_under f m n (is.apart m n low low')

  pub stands_under : (ns : List ℕ) → AreNets from ns → (n : ℕ) → n < nets from → stands_in (map f ns) (f n) ≡ stands_in ns n
  stands_under ns low n below = any_under f (λ m. m == n) (λ m. m == f n) ns (λ m has. same_net m n (low m has) below)

  pub in_word_under : (role : Role) (words : List BoundWord) → StandOnNets from words → (n : ℕ) → n < nets from → in_word role (map (word_under f) words) (f n) ≡ in_word role words n
  in_word_under role words low n below =
      any_under (word_under f) (λ word. same_role word.role role && stands_in word.nets n) (λ word. same_role word.role role && stands_in word.nets (f n)) words
      (λ word has. ap (λ b. same_role word.role role && b) (stands_under word.nets (low word has) n below))

  pub input_under : (n : ℕ) → n < nets from → stands_in to.inputs (f n) ≡ stands_in from.inputs n
  input_under n below = ap (λ (ns : List ℕ). stands_in ns (f n)) is.inputs ∙ stands_under from.inputs (λ m has. All_has (λ k. k < nets from) from.inputs m inside.inputs has) n below

  pub latch_out_under : (n : ℕ) → n < nets from → is_latch to (f n) ≡ is_latch from n
  latch_out_under n below =
      ap (λ (ls : List LatchValue). list_any (λ (l : LatchValue). l.out == f n) ls) is.latches
      ∙ any_under (latch_under f) (λ (l : LatchValue). l.out == n) (λ (l : LatchValue). l.out == f n) from.latches (λ l has. same_net l.out n (All_has (LatchIsInside (nets from)) from.latches l inside.latches has).1 below)

  next_under : (n : ℕ) → n < nets from → feeds_latch to (f n) ≡ feeds_latch from n
  next_under n below =
      ap (λ (ls : List LatchValue). list_any (λ (l : LatchValue). l.next == f n) ls) is.latches
      ∙ any_under (latch_under f) (λ (l : LatchValue). l.next == n) (λ (l : LatchValue). l.next == f n) from.latches (λ l has. same_net l.next n (All_has (LatchIsInside (nets from)) from.latches l inside.latches has).0 below)

  gate_input_under : (n : ℕ) → n < nets from → feeds_gate to (f n) ≡ feeds_gate from n
  gate_input_under n below =
      ap (λ (gs : List GateValue). list_any (λ (g : GateValue). stands_in g.inputs (f n)) gs) is.gates
      ∙ any_under (gate_under f) (λ (g : GateValue). stands_in g.inputs n) (λ (g : GateValue). stands_in g.inputs (f n)) from.gates
      (λ g has. stands_under g.inputs (λ m at. All_has (λ k. k < nets from) g.inputs m (All_has (GateIsInside (nets from)) from.gates g inside.gates has).1 at) n below)

  pub fed_under : (feeds : List Feed) → FeedNets from feeds → (n : ℕ) → n < nets from → is_fed (map (feed_under f) feeds) (f n) ≡ is_fed feeds n
  fed_under feeds low n below = any_under (feed_under f) (λ (feed : Feed). feed.net == n) (λ (feed : Feed). feed.net == f n) feeds (λ feed has. same_net feed.net n (low feed has) below)

  pub free_under : (words : List BoundWord) → StandOnNets from words → (n : ℕ) → n < nets from → is_free to (map (word_under f) words) (f n) ≡ is_free from words n
  free_under words low n below = (λ i. input_under n below i && not (in_word_under Input words low n below i))

  used_under : (words : List BoundWord) → StandOnNets from words → (n : ℕ) → n < nets from → is_used to (map (word_under f) words) (f n) ≡ is_used from words n
  used_under words low n below = (λ i. (gate_input_under n below i || next_under n below i) || in_word_under Output words low n below i)

  pub uncovered_under : (words : List BoundWord) (feeds : List Feed) → StandOnNets from words → FeedNets from feeds → (n : ℕ) → n < nets from → is_uncovered to (map (word_under f) words) (map (feed_under f) feeds) (f n) ≡ is_uncovered from words feeds n
  uncovered_under words feeds low fed n below = (λ i. input_under n below i && not (in_word_under Input words low n below i) && not (fed_under feeds fed n below i) && used_under words low n below i)
