-- The words of the unrolled net.
use Rattle.std.proofs.Common.{◌≡◌, ◌⊎◌, ◌∙◌, ap, sym, refl, subst, inl, inr, ℕ, suc, ◌<◌, ◌≤◌, ◌+◌, ◌*◌, Bool, true, false, not, List, [], ◌∷◌, ◌++◌, length, length-append, map, take, drop, arith, All, mul-suc}
use Rattle.std.specs.List.{filter, range_with_len}
use Rattle.std.proofs.Math.Seq.{take-append_seam, drop-append_seam}
use Rattle.std.proofs.lemmas.Bool.{cases_lt}
use Rattle.std.proofs.lemmas.List.FromFn.{length-range_with_len}
use Rattle.lists.specs.Lists.{Has, times}
use Rattle.lists.specs.laws.BoolLaws.{and_made}
use Rattle.lists.specs.laws.HasLaws.{all_from, All_has, Has_cases, Has_left, Has_map, Has_right, times_append, any_has, has_range, times_none, range_has, range_once}
use Rattle.lists.specs.laws.ListLaws.{length_map as map-long}
use Rattle.lists.specs.laws.ReadLaws.{from_map}
use Rattle.net_core.specs.Inside.{LatchIsInside}
use Rattle.net_core.specs.LatchValue.{LatchValue}
use Rattle.net_core.specs.NetList.{NetList, nets}
use Rattle.net_core.specs.Sound.{IsSound}
use Rattle.net_words.specs.Binding.{Binding, HasWidth}
use Rattle.net_words.specs.BoundTo.{IsBoundTo, StandsOn}
use Rattle.net_words.specs.Feeds.{is_fed}
use Rattle.net_words.specs.Rebind.{AreNets, rebound}
use Rattle.net_words.specs.Roles.{in_word, same_role}
use Rattle.net_words.specs.Variables.{bits, bits_with}
use Rattle.net_words.specs.declared.bound.BoundWord.{BoundWord}
use Rattle.net_words.specs.declared.feed.Feed.{Feed}
use Rattle.net_words.specs.declared.word.Role.{Role}
use Rattle.net_words.specs.declared.word.Role.TheVariants.{Input, State, Fed, Output}
use Rattle.net_words.proofs.FeedLemmas.{fed_has}
use Rattle.net_words.proofs.MemberLemmas.{bits_word, has_stands}
use Rattle.net_words.proofs.SharedLemmas.{same_self}
use Rattle.unroll.specs.Gates.{is_held}
use Rattle.unroll.specs.Nets.{all_cycles, unrolled_inputs}
use Rattle.unroll.specs.Places.{net_at, cycle_nets, fed_bits, fed_count}
use Rattle.unroll.specs.Unrolled.{nets_of_words, nets_with, unrolled_nets}
use Rattle.unroll.specs.private.Plan.{net_count}
use Rattle.unroll.proofs.CountLemmas.{nets_long}
use Rattle.unroll.proofs.DrivenLemmas.{has_shift}
use Rattle.unroll.proofs.LaidLemmas.{filter_has}
use Rattle.unroll.proofs.SoundLemmas.{at_count, low_count}

-- the words with their nets in the unrolled net
abbrev pub moved : (v c k base : ℕ) → List BoundWord → List BoundWord
moved v c k base [] = []
moved v c k base (word ∷ words) = record { name = word.name; role = word.role; nets = nets_with v c k base word.role word.nets } ∷ moved v c k (base + fed_bits k word.role) words

-- a word has k nets in the unrolled net
pub with_long : (v c k base : ℕ) (word : BoundWord) → HasWidth k word → length (nets_with v c k base word.role word.nets) ≡ k
with_long v c k base word width = by word.role refl width
  where
    by : (r : Role) → word.role ≡ r → HasWidth k word → length (nets_with v c k base r word.nets) ≡ k
    by Input is (inl long) = long
    by Input is (inr w) = let wrong : Input ≡ Fed = sym is ∙ w.0 in absurd (cc)
    by State is (inl long) = long
    by State is (inr w) = let wrong : State ≡ Fed = sym is ∙ w.0 in absurd (cc)
    by Fed is width = length-range_with_len base k
    by Output is (inl long) = map-long (net_at v c) word.nets ∙ long
    by Output is (inr w) = let wrong : Output ≡ Fed = sym is ∙ w.0 in absurd (cc)

rest_width : (k : ℕ) (word : BoundWord) (words : List BoundWord) → All (HasWidth k) (word ∷ words) → All (HasWidth k) words
rest_width k word words each i d less = each (suc i) d (omega arith)

take_whole : (k : ℕ) (a b : List ℕ) → length a ≡ k → take k (a ++ b) ≡ a
take_whole k a b long = ap (λ n. take n (a ++ b)) (sym long) ∙ take-append_seam a b

drop_whole : (k : ℕ) (a b : List ℕ) → length a ≡ k → drop k (a ++ b) ≡ b
drop_whole k a b long = ap (λ n. drop n (a ++ b)) (sym long) ∙ drop-append_seam a b

-- the words that are bound to the unrolled net
pub rebound_is : (v c k base : ℕ) (words : List BoundWord) → All (HasWidth k) words → rebound k words (nets_of_words v c k base words) ≡ moved v c k base words
rebound_is v c k base [] each = refl
rebound_is v c k base (word ∷ words) each =
    let own : List ℕ = nets_with v c k base word.role word.nets in
    let rest : List ℕ = nets_of_words v c k (base + fed_bits k word.role) words in
    let long : length own ≡ k = with_long v c k base word (each 0 word (omega arith)) in
    ap (λ (list : List ℕ). record { name = word.name; role = word.role; nets = list } ∷ rebound k words (drop k (own ++ rest))) (take_whole k own rest long)
    ∙ ap (λ (ws : List BoundWord). record { name = word.name; role = word.role; nets = own } ∷ ws) (ap (rebound k words) (drop_whole k own rest long) ∙ rebound_is v c k (base + fed_bits k word.role) words (rest_width k word words each))

pub words_long : (v c k base : ℕ) (words : List BoundWord) → All (HasWidth k) words → length (nets_of_words v c k base words) ≡ k * length words
words_long v c k base [] each = omega arith
words_long v c k base (word ∷ words) each = omega (arith, length-append (nets_with v c k base word.role word.nets) (nets_of_words v c k (base + fed_bits k word.role) words), with_long v c k base word (each 0 word (omega arith)), words_long v c k (base + fed_bits k word.role) words (rest_width k word words each), mul-suc k (length words))

-- ---- the bits of words

-- a bit of a word is one in the unrolled net
pub bits_up : (v c k base n : ℕ) (words : List BoundWord) → ((word : BoundWord) → Has words word → word.role ≡ Fed → word.nets ≡ []) → Has (bits words) n → Has (bits (moved v c k base words)) n
bits_up v c k base n [] none has = has
bits_up v c k base n (word ∷ words) none has =
    elim (Has_cases (bits_with word.role word.nets) (bits words) n has) [
      | inl here ↦ Has_left (bits_with word.role (nets_with v c k base word.role word.nets)) (bits (moved v c k (base + fed_bits k word.role) words)) n (own word.role refl here)
      | inr later ↦ Has_right (bits_with word.role (nets_with v c k base word.role word.nets)) (bits (moved v c k (base + fed_bits k word.role) words)) n (bits_up v c k (base + fed_bits k word.role) n words (λ w in_words. none w (suc in_words.0, in_words.1)) later)
    ]
  where
    own : (r : Role) → word.role ≡ r → Has (bits_with r word.nets) n → Has (bits_with r (nets_with v c k base r word.nets)) n
    own Input is has = has
    own State is has = has
    own Fed is has = let P : List ℕ → Type 0 = λ ns. Has ns n in let got = (subst P (none word (0, refl) is) has).1 in absurd (cc)
    own Output is has = has

-- each bit of a fed word is one
pub bits_fed : (v c k base n : ℕ) (words : List BoundWord) → base ≤ n → n < base + fed_count k words → Has (bits (moved v c k base words)) n
bits_fed v c k base n [] low high = absurd (omega arith)
bits_fed v c k base n (word ∷ words) low high = by word.role (bits_fed v c k (base + fed_bits k word.role) n words) high
  where
    by : (r : Role) → (base + fed_bits k r ≤ n → n < base + fed_bits k r + fed_count k words → Has (bits (moved v c k (base + fed_bits k r) words)) n) → n < base + (fed_bits k r + fed_count k words) → Has (bits_with r (nets_with v c k base r word.nets) ++ bits (moved v c k (base + fed_bits k r) words)) n
    by Input rest high = Has_right word.nets (bits (moved v c k (base + 0) words)) n (rest (omega (arith, low)) (omega (arith, high)))
    by State rest high = Has_right word.nets (bits (moved v c k (base + 0) words)) n (rest (omega (arith, low)) (omega (arith, high)))
    by Output rest high = rest (omega (arith, low)) (omega (arith, high))
    by Fed rest high =
        elim (cases_lt n (base + k)) [
          | inl less ↦ Has_left (range_with_len base k) (bits (moved v c k (base + k) words)) n (has_range base k n low less)
          | inr more ↦ Has_right (range_with_len base k) (bits (moved v c k (base + k) words)) n (rest more (omega (arith, high)))
        ]

-- where a bit in the unrolled net is from: an input or a state word, or it is a bit of a fed word
pub bits_down : (v c k base n : ℕ) (words : List BoundWord) → Has (bits (moved v c k base words)) n → ((word : BoundWord) × Has words word × Has word.nets n × ((word.role ≡ Input) ⊎ (word.role ≡ State))) ⊎ ((base ≤ n) × (n < base + fed_count k words))
bits_down v c k base n [] has = let got = has.1 in absurd (cc)
bits_down v c k base n (word ∷ words) has =
    elim (Has_cases (bits_with word.role (nets_with v c k base word.role word.nets)) (bits (moved v c k (base + fed_bits k word.role) words)) n has) [
      | inl here ↦ own word.role refl here
      | inr later ↦ elim (bits_down v c k (base + fed_bits k word.role) n words later) [
        | inl found ↦ inl (found.0, (suc found.1.0, found.1.1), found.2, found.3)
        | inr within ↦ inr (omega (arith, within.0), omega (arith, within.1))
      ]
    ]
  where
    own : (r : Role) → word.role ≡ r → Has (bits_with r (nets_with v c k base r word.nets)) n → ((w : BoundWord) × Has (word ∷ words) w × Has w.nets n × ((w.role ≡ Input) ⊎ (w.role ≡ State))) ⊎ ((base ≤ n) × (n < base + (fed_bits k word.role + fed_count k words)))
    own Input is has = inl (word, (0, refl), has, inl is)
    own State is has = inl (word, (0, refl), has, inr is)
    own Fed is has = let within = range_has base k n has in inr (within.0, omega (arith, within.1, ap (fed_bits k) is))
    own Output is has = let got = has.1 in absurd (cc)

-- no net of the cycles stands oftener than before
low_times : (v c k base n : ℕ) (words : List BoundWord) → n < base → ((word : BoundWord) → Has words word → word.role ≡ Fed → word.nets ≡ []) → times n (bits (moved v c k base words)) ≡ times n (bits words)
low_times v c k base n [] low none = refl
low_times v c k base n (word ∷ words) low none =
    let rest = low_times v c k (base + fed_bits k word.role) n words (omega (arith, low)) (λ w has. none w (suc has.0, has.1)) in
    omega (arith, times_append n (bits_with word.role (nets_with v c k base word.role word.nets)) (bits (moved v c k (base + fed_bits k word.role) words)), times_append n (bits_with word.role word.nets) (bits words), rest, own word.role refl)
  where
    own : (r : Role) → word.role ≡ r → times n (bits_with r (nets_with v c k base r word.nets)) ≡ times n (bits_with r word.nets)
    own Input is = refl
    own State is = refl
    own Output is = refl
    own Fed is = omega (arith, times_none n (range_with_len base k) (λ has. omega (arith, low, (range_has base k n has).0)), ap (times n) (none word (0, refl) is))

-- a net that no word has stands once at most
high_times : (v c k base n : ℕ) (words : List BoundWord) → times n (bits words) ≡ 0 → ((word : BoundWord) → Has words word → word.role ≡ Fed → word.nets ≡ []) → times n (bits (moved v c k base words)) ≤ 1
high_times v c k base n [] free none = omega arith
high_times v c k base n (word ∷ words) free none =
    let split = times_append n (bits_with word.role word.nets) (bits words) in
    by word.role (high_times v c k (base + fed_bits k word.role) n words (omega (arith, split, free)) (λ w has. none w (suc has.0, has.1))) (λ low. low_times v c k (base + fed_bits k word.role) n words low (λ w has. none w (suc has.0, has.1))) (omega (arith, split, free)) (omega (arith, split, free))
  where
    by : (r : Role) → times n (bits (moved v c k (base + fed_bits k r) words)) ≤ 1 → (n < base + fed_bits k r → times n (bits (moved v c k (base + fed_bits k r) words)) ≡ times n (bits words)) → times n (bits_with r word.nets) ≡ 0 → times n (bits words) ≡ 0 → times n (bits_with r (nets_with v c k base r word.nets) ++ bits (moved v c k (base + fed_bits k r) words)) ≤ 1
    by Input rest low own later = omega (arith, times_append n word.nets (bits (moved v c k (base + 0) words)), rest, own)
    by State rest low own later = omega (arith, times_append n word.nets (bits (moved v c k (base + 0) words)), rest, own)
    by Output rest low own later = rest
    by Fed rest low own later =
        elim (cases_lt n (base + k)) [
          | inl less ↦ omega (arith, times_append n (range_with_len base k) (bits (moved v c k (base + k) words)), low less, later, range_most n)
          | inr more ↦ omega (arith, times_append n (range_with_len base k) (bits (moved v c k (base + k) words)), rest, times_none n (range_with_len base k) (λ has. omega (arith, more, (range_has base k n has).1)))
        ]
      where
        range_most : (m : ℕ) → times m (range_with_len base k) ≤ 1
        range_most m =
            elim (cases_lt m base) [
              | inl under ↦ omega (arith, times_none m (range_with_len base k) (λ has. omega (arith, under, (range_has base k m has).0)))
              | inr over ↦ elim (cases_lt m (base + k)) [
                | inl inside ↦ omega (arith, range_once base k m over inside)
                | inr past ↦ omega (arith, times_none m (range_with_len base k) (λ has. omega (arith, past, (range_has base k m has).1)))
              ]
            ]

-- ---- what is bound to the unrolled net

-- the words of a binding that is of the net
pub fed_bare : (net : NetList) (b : Binding) → IsBoundTo net b → (word : BoundWord) → Has b.words word → word.role ≡ Fed → word.nets ≡ []
fed_bare net b bound word has is = none word.nets (λ n in_w. let P : Role → Type 0 = λ r. StandsOn net r n in subst P is (bound.places word n has in_w))
  where
    none : (ns : List ℕ) → ((n : ℕ) → Has ns n → ⊥) → ns ≡ []
    none [] no_net = refl
    none (n ∷ ns) no_net = absurd (no_net n (0, refl))

pub stood : (net : NetList) (b : Binding) (word : BoundWord) (n : ℕ) (r : Role) → IsBoundTo net b → Has b.words word → Has word.nets n → word.role ≡ r → StandsOn net r n
stood net b word n r bound has in_w is = let P : Role → Type 0 = λ q. StandsOn net q n in subst P is (bound.places word n has in_w)

pub in_some : (words : List BoundWord) (word : BoundWord) (n : ℕ) (r : Role) → Has words word → Has word.nets n → word.role ≡ r → in_word r words n ≡ true
in_some words word n r has in_w is = any_has _ words word has (and_made (same_role word.role r) _ (ap (λ q. same_role q r) is ∙ same_self r) (has_stands word.nets n in_w))

bit_low : (net : NetList) (b : Binding) (n : ℕ) → IsSound net → IsBoundTo net b → Has (bits b.words) n → n < nets net
bit_low net b n sound bound has =
    let found = bits_word b.words n has in
    by found.0.role found.3 (bound.places found.0 n found.1 found.2)
  where
    by : (r : Role) → same_role r Output ≡ false → StandsOn net r n → n < nets net
    by Input other stands = All_has (λ m. m < nets net) net.inputs n sound.inside.inputs stands
    by State other stands = let from = from_map (λ (l : LatchValue). l.out) net.latches stands.0 n stands.1 in omega (arith, from.2, (All_has (LatchIsInside (nets net)) net.latches from.0 sound.inside.latches (stands.0, from.1)).1)
    by Fed other stands = absurd stands
    by Output other stands = absurd (cc)

-- no net stands twice in these words
bits_once : (net : NetList) (b : Binding) (c n : ℕ) → IsSound net → IsBoundTo net b → times n (bits (moved (nets net) c b.k (cycle_nets (nets net) c) b.words)) ≤ 1
bits_once net b c n sound bound =
    elim (cases_lt n (cycle_nets (nets net) c)) [
      | inl low ↦ omega (arith, low_times (nets net) c b.k (cycle_nets (nets net) c) n b.words low (fed_bare net b bound), bound.once n)
      | inr high ↦ high_times (nets net) c b.k (cycle_nets (nets net) c) n b.words (times_none n (bits b.words) (λ has. omega (arith, high, bit_low net b n sound bound has))) (fed_bare net b bound)
    ]

-- an input word's net is not fed
unfed : (net : NetList) (b : Binding) (word : BoundWord) (n : ℕ) → IsBoundTo net b → Has b.words word → Has word.nets n → word.role ≡ Input → is_fed b.feeds n ≡ false
unfed net b word n bound has in_w is = by (is_fed b.feeds n) refl
  where
    by : (r : Bool) → is_fed b.feeds n ≡ r → r ≡ false
    by false no_feed = refl
    by true fed =
        let found = fed_has b.feeds n fed in
        let from = from_map (λ (f : Feed). f.net) b.feeds found.0 n found.1 in
        let unheld : in_word Input b.words from.0.net ≡ false = (bound.feeds from.0 (found.0, from.1)).unheld in
        let held : in_word Input b.words n ≡ true = in_some b.words word n Input has in_w is in
        let at : in_word Input b.words n ≡ false = ap (in_word Input b.words) (sym from.2) ∙ unheld in
        absurd (cc)

-- the bits of these words are primary inputs
bits_inputs : (net : NetList) (b : Binding) (c n : ℕ) → IsBoundTo net b → Has (bits (moved (nets net) c b.k (cycle_nets (nets net) c) b.words)) n → Has (unrolled_inputs net b c) n
bits_inputs net b c n bound has =
    let free : List ℕ = filter (λ m. not (is_fed b.feeds m)) net.inputs in
    let states : List ℕ = map (λ l. l.out) (filter (is_held b) net.latches) in
    let range : List ℕ = range_with_len (cycle_nets (nets net) c) (fed_count b.k b.words) in
    elim (bits_down (nets net) c b.k (cycle_nets (nets net) c) n b.words has) [
      | inl found ↦ elim found.3 [
        | inl input ↦ Has_left free (states ++ range) n (filter_has (λ m. not (is_fed b.feeds m)) net.inputs n (stood net b found.0 n Input bound found.1 found.2 input) (ap not (unfed net b found.0 n bound found.1 found.2 input)))
        | inr state ↦
            let stands = stood net b found.0 n State bound found.1 found.2 state in
            let from = from_map (λ (l : LatchValue). l.out) net.latches stands.0 n stands.1 in
            let held : is_held b from.0 ≡ true = ap (in_word State b.words) from.2 ∙ in_some b.words found.0 n State found.1 found.2 state in
            let P : ℕ → Type 0 = λ m. Has states m in
            Has_right free (states ++ range) n (Has_left states range n (subst P from.2 (Has_map (λ (l : LatchValue). l.out) (filter (is_held b) net.latches) from.0 (filter_has (is_held b) net.latches from.0 (stands.0, from.1) held))))
      ]
      | inr within ↦ Has_right free (states ++ range) n (Has_right states range n (has_range (cycle_nets (nets net) c) (fed_count b.k b.words) n within.0 within.1))
    ]

-- each net of a word exists
nets_exist : (net : NetList) (b : Binding) (c base : ℕ) (words : List BoundWord) → IsSound net → IsBoundTo net b → ((word : BoundWord) → Has words word → Has b.words word) → base + fed_count b.k words ≤ net_count net b c → (n : ℕ) → Has (nets_of_words (nets net) c b.k base words) n → n < net_count net b c
nets_exist net b c base [] sound bound each fits n has = let got = has.1 in absurd (cc)
nets_exist net b c base (word ∷ words) sound bound each fits n has =
    elim (Has_cases (nets_with (nets net) c b.k base word.role word.nets) (nets_of_words (nets net) c b.k (base + fed_bits b.k word.role) words) n has) [
      | inl here ↦ own word.role refl here
      | inr later ↦ nets_exist net b c (base + fed_bits b.k word.role) words sound bound (λ w in_words. each w (suc in_words.0, in_words.1)) (omega (arith, fits)) n later
    ]
  where
    own : (r : Role) → word.role ≡ r → Has (nets_with (nets net) c b.k base r word.nets) n → n < net_count net b c
    own Input is has = low_count net b c n (All_has (λ m. m < nets net) net.inputs n sound.inside.inputs (stood net b word n Input bound (each word (0, refl)) has is))
    own State is has =
        let stands = stood net b word n State bound (each word (0, refl)) has is in
        let from = from_map (λ (l : LatchValue). l.out) net.latches stands.0 n stands.1 in
        low_count net b c n (omega (arith, from.2, (All_has (LatchIsInside (nets net)) net.latches from.0 sound.inside.latches (stands.0, from.1)).1))
    own Fed is has = omega (arith, (range_has base b.k n has).1, fits, ap (fed_bits b.k) is)
    own Output is has =
        let from = has_shift (nets net) c word.nets n has in
        omega (arith, from.2, at_count net b c c from.0 (omega arith) (stood net b word from.0 Output bound (each word (0, refl)) from.1 is))

-- these nets can be bound to
pub are_nets : (net : NetList) (b : Binding) (c : ℕ) → IsSound net → IsBoundTo net b → AreNets (all_cycles net b c) b (unrolled_nets net b c)
are_nets net b c sound bound =
    let same : rebound b.k b.words (unrolled_nets net b c) ≡ moved (nets net) c b.k (cycle_nets (nets net) c) b.words = rebound_is (nets net) c b.k (cycle_nets (nets net) c) b.words bound.parts.each in
    let P : List BoundWord → Type 0 = λ ws. (n : ℕ) → times n (bits ws) ≤ 1 in
    let Q : List BoundWord → Type 0 = λ ws. (n : ℕ) → Has (bits ws) n → Has (unrolled_inputs net b c) n in
    let R : ℕ → Type 0 = λ k. All (λ n. n < k) (unrolled_nets net b c) in
    record {
      flat = refl;
      long = words_long (nets net) c b.k (cycle_nets (nets net) c) b.words bound.parts.each;
      once = subst P (sym same) (λ n. bits_once net b c n sound bound);
      inputs = subst Q (sym same) (λ n has. bits_inputs net b c n bound has);
      exist = subst R (sym (nets_long net b c)) (all_from (λ n. n < net_count net b c) (unrolled_nets net b c) (nets_exist net b c (cycle_nets (nets net) c) b.words sound bound (λ word has. has) (omega arith)));
    }
