-- What is known while the cycles of a net are laid out.
use Rattle.std.proofs.Common.{◌≡◌, ◌≢◌, ◌⊎◌, ◌∙◌, ap, sym, refl, subst, inl, inr, ℕ, zero, suc, ◌<◌, ◌≤◌, ◌+◌, ◌-◌, ◌^◌, ◌&&◌, ◌||◌, Bool, true, false, List, [], ◌∷◌, ◌++◌, length, length-append, map, take, drop, Some, get_or, cond, arith, add-one, append_assoc, drop-cons, get_or-set_other, get_or-set_same}
use Rattle.std.specs.Prelude.{slice_get, ◌==◌, ◌↔◌, Result, Err, IfErr, IsTrue}
use Rattle.std.proofs.Math.ListN.{set}
use Rattle.std.proofs.lemmas.Bool.{cases_lt, eq-eqb as both_true}
use Rattle.std.proofs.lemmas.Bool.Decides.{eqb_tells}
use Rattle.std.proofs.lemmas.Option.{slice_get_within, slice_get-get_or}
use Rattle.std.proofs.lemmas.List.FromFn.{get_or-range_with_len}
use Rattle.std.proofs.Math.Bool.{or-false}
use Rattle.lists.specs.Lists.{Has}
use Rattle.lists.specs.laws.HasLaws.{All_has}
use Rattle.lists.specs.laws.ReadLaws.{get_below, from_map}
use Rattle.net_words.proofs.ZipLemmas.{map-get}
use Rattle.net_core.specs.GateValue.{GateValue}
use Rattle.net_core.specs.Inside.{GateIsInside}
use Rattle.net_core.specs.NetList.{NetList, empty, nets}
use Rattle.net_core.specs.Sound.{IsSound}
use Rattle.net_words.specs.Binding.{Binding, HasWidth, IsBinding}
use Rattle.net_words.specs.BoundTo.{IsBoundTo}
use Rattle.net_words.specs.Feeds.{IsSource}
use Rattle.net_words.specs.OneCycle.{IsClosed, IsFlat, IsOneCycle}
use Rattle.net_words.specs.Rebind.{AreNets, rebinding}
use Rattle.net_words.specs.Roles.{in_word, same_role, stands_in}
use Rattle.net_words.specs.declared.bound.BoundWord.{BoundWord}
use Rattle.net_words.specs.declared.feed.Feed.{Feed}
use Rattle.net_words.specs.declared.feed.Source.{Source}
use Rattle.net_words.specs.declared.feed.Source.TheVariants.{Zero, Bit}
use Rattle.net_words.specs.declared.word.Role.{Role}
use Rattle.net_words.specs.declared.word.Role.TheVariants.{Input, State, Fed, Output}
use Rattle.unroll.specs.declared.fault.UnrollFault.{UnrollFault}
use Rattle.unroll.specs.declared.fault.UnrollFault.TheVariants.{TooManyNets}
use Rattle.unroll.specs.Gates.{bit_net, gate_at, gates_to}
use Rattle.unroll.specs.Nets.{all_cycles, fed_labels, labels_to, unrolled_inputs}
use Rattle.unroll.specs.Places.{net_at, cycle_nets, fed_bits, first_bit}
use Rattle.unroll.specs.Sources.{source_at}
use Rattle.unroll.specs.Unrolled.{in_one_cycle, nets_of_words, nets_with, unrolled, unrolled_nets}
use Rattle.unroll.specs.private.Plan.{AreFirstBits, HasRoom, IsBit, net_count, with_inputs, with_labels, with_outputs}
use Rattle.unroll.proofs.PlaceLemmas.{at_below, bit_within, one_cycle, one_net}
use Rattle.unroll.proofs.CountLemmas.{fed_long, labels_long}
use Rattle.unroll.proofs.SoundLemmas.{cycles_sound, moved_inside}
use Rattle.unroll.proofs.WordLemmas.{are_nets, stood}
use Rattle.unroll.proofs.ClosedLemmas.{closed}
use Rattle.unroll.proofs.FlatLemmas.{unrolled_laid}
use Rattle.unroll.proofs.CodeLemmas.{first_bit_here, nets_more, word_drop}
use Rattle.unroll.proofs.GrowLemmas.{front_more}

-- ---- bits of fed words

pub source_is_bit : (b : Binding) (source : Source) (w place : ℕ) → source ≡ Bit w place → IsSource b.k (map (λ word. word.role) b.words) source → IsBit b w place
source_is_bit b source w place is fits =
    let P : Source → Type 0 = λ s. IsSource b.k (map (λ word. word.role) b.words) s in
    let at : IsSource b.k (map (λ word. word.role) b.words) (Bit w place) = subst P is fits in
    let from = from_map (λ (word : BoundWord). word.role) b.words w Fed at.1 in
    (at.0, (from.0, from.1, from.2))

pub bit_is : (net : NetList) (b : Binding) (c : ℕ) (firsts : List ℕ) (w place : ℕ) → AreFirstBits net b c firsts → IsBit b w place → get_or firsts w 0 + place ≡ bit_net net b c w place
bit_is net b c firsts w place are bit = ap (λ n. n + place) (are.each w (slice_get_within b.words w bit.1.0 bit.1.1))

pub bit_low : (net : NetList) (b : Binding) (c w place : ℕ) → IsBit b w place → bit_net net b c w place < net_count net b c
bit_low net b c w place bit = (bit_within b.k (cycle_nets (nets net) c) b.words w place bit.1.0 bit.1.1 bit.1.2 bit.0).1

pub bit_place : (net : NetList) (b : Binding) (c : ℕ) (firsts : List ℕ) (w place : ℕ) → AreFirstBits net b c firsts → IsBit b w place → w < length firsts
bit_place net b c firsts w place are bit = omega (arith, are.long, slice_get_within b.words w bit.1.0 bit.1.1)

-- ---- a gate in a cycle

pub gate_fits : (net : NetList) (b : Binding) (c t : ℕ) (gate : GateValue) (n out table : ℕ) (inputs : List ℕ) → n ≡ net_count net b c → t ≤ c → GateIsInside (nets net) gate → out ≡ net_at (nets net) t gate.out → inputs ≡ map (net_at (nets net) t) gate.inputs → table ≡ gate.table → GateIsInside n (record { out = out; inputs = inputs; table = table })
gate_fits net b c t gate n out table inputs count within inside out_is inputs_are table_is =
    let P : ℕ → Type 0 = λ k. GateIsInside k (record { out = out; inputs = inputs; table = table }) in
    let Q : GateValue → Type 0 = λ g. GateIsInside (net_count net b c) g in
    let same : record { out = out; inputs = inputs; table = table } ≡ gate_at (nets net) t gate =
    ap (λ (x : ℕ). record { out = x; inputs = inputs; table = table }) out_is
    ∙ (ap (λ (x : List ℕ). record { out = net_at (nets net) t gate.out; inputs = x; table = table }) inputs_are
    ∙ ap (λ (x : ℕ). record { out = net_at (nets net) t gate.out; inputs = map (net_at (nets net) t) gate.inputs; table = x }) table_is) in
    subst P (sym count) (subst Q (sym same) (moved_inside net b c t gate within inside))

-- ---- the nets of words

-- a word that is not fed has k nets
pub wide : (b : Binding) (word : BoundWord) → IsBinding b → Has b.words word → word.role ≢ Fed → length word.nets ≡ b.k
wide b word is has other = by (All_has (HasWidth b.k) b.words word is.each has)
  where
    by : HasWidth b.k word → length word.nets ≡ b.k
    by (inl long) = long
    by (inr w) = absurd (other w.0)

pub first_bit_next : (k base : ℕ) (words : List BoundWord) (w : ℕ) (word : BoundWord) → slice_get words w ≡ Some word → first_bit k base words (w + 1) ≡ first_bit k base words w + fed_bits k word.role
first_bit_next k base words w word got = rw add-one (by words base w got)
  where
    here : (base : ℕ) (us : List BoundWord) → first_bit k base us 0 ≡ base
    here base [] = refl
    here base (u ∷ us) = refl

    by : (words : List BoundWord) (base w : ℕ) → slice_get words w ≡ Some word → first_bit k base words (suc w) ≡ first_bit k base words w + fed_bits k word.role
    by [] base w got = absurd (cc)
    by (u ∷ us) base zero got = let same : u ≡ word = cc in here (base + fed_bits k u.role) us ∙ ap (λ (v : BoundWord). base + fed_bits k v.role) same
    by (u ∷ us) base (suc w) got = by us (base + fed_bits k u.role) w got

pub words_step : (v c k base : ℕ) (words : List BoundWord) (w : ℕ) (list new whole : List ℕ) → w < length words → ((word : BoundWord) → slice_get words w ≡ Some word → new ≡ list ++ nets_with v c k (first_bit k base words w) word.role word.nets) → list ++ nets_of_words v c k (first_bit k base words w) (drop w words) ≡ whole → new ++ nets_of_words v c k (first_bit k base words (w + 1)) (drop (w + 1) words) ≡ whole
words_step v c k base words w list new whole less made was =
    let got = get_below words w less in
    let word : BoundWord = got.0 in
    let own : List ℕ = nets_with v c k (first_bit k base words w) word.role word.nets in
    let rest : ℕ → List ℕ = λ (n : ℕ). nets_of_words v c k n (drop (w + 1) words) in
    ap (λ ns. ns ++ rest (first_bit k base words (w + 1))) (made word got.1)
    ∙ (append_assoc list own (rest (first_bit k base words (w + 1)))
    ∙ (ap (λ n. list ++ (own ++ rest n)) (first_bit_next k base words w word got.1)
    ∙ (ap (λ (ws : List BoundWord). list ++ nets_of_words v c k (first_bit k base words w) ws) (sym (word_drop words w word got.1)) ∙ was)))

-- ---- sources

pub feeds_back : (feeds : List Feed) (i : ℕ) (d : Feed) → 0 < i → i ≤ length feeds → drop (i - 1) feeds ≡ get_or feeds (i - 1) d ∷ drop i feeds
feeds_back feeds i d some within =
    let at : suc (i - 1) ≡ i = omega (arith, some) in
    drop-cons feeds (i - 1) d (omega (arith, some, within)) ∙ ap (λ n. get_or feeds (i - 1) d ∷ drop n feeds) at

pub put_here : (v c : ℕ) (old new : List Source) (feed : Feed) (feeds : List Feed) → length old ≡ cycle_nets v c → feed.net < v → (feed.cycle ≤ c → new ≡ set old (net_at v feed.cycle feed.net) feed.source) → (c < feed.cycle → new ≡ old) → ((t n : ℕ) → t ≤ c → n < v → get_or old (net_at v t n) Zero ≡ source_at feeds n t) → (t n : ℕ) → t ≤ c → n < v → get_or new (net_at v t n) Zero ≡ source_at (feed ∷ feeds) n t
put_here v c old new feed feeds long low put kept was t n within less =
    elim (cases_lt c feed.cycle) [
      | inl late ↦ ap (λ xs. get_or xs (net_at v t n) Zero) (kept late) ∙ (was t n within less ∙ sym (miss (λ same. omega (arith, same.1, within, late))))
      | inr early ↦ ap (λ xs. get_or xs (net_at v t n) Zero) (put early) ∙ at early
    ]
  where
    by_tests : (x y : Bool) → (feed.net == n) ≡ x → (feed.cycle == t) ≡ y → (feed.net ≡ n) × (feed.cycle ≡ t) → cond (x && y) feed.source (source_at feeds n t) ≡ feed.source
    by_tests true true a b same = refl
    by_tests true false a b same = let c : (feed.cycle == t) ≡ true = both_true feed.cycle t same.1 in absurd (cc)
    by_tests false y a b same = let c : (feed.net == n) ≡ true = both_true feed.net n same.0 in absurd (cc)

    hit : (feed.net ≡ n) × (feed.cycle ≡ t) → source_at (feed ∷ feeds) n t ≡ feed.source
    hit same = by_tests (feed.net == n) (feed.cycle == t) refl refl same

    miss : ((feed.net ≡ n) × (feed.cycle ≡ t) → ⊥) → source_at (feed ∷ feeds) n t ≡ source_at feeds n t
    miss other =
        elim (eqb_tells feed.net n) [
          | inl w ↦ elim (eqb_tells feed.cycle t) [
            | inl u ↦ absurd (other (w.1, u.1))
            | inr u ↦ ap (λ (r : Bool). cond ((feed.net == n) && r) feed.source (source_at feeds n t)) u.0 ∙ off (feed.net == n)
          ]
          | inr w ↦ ap (λ (r : Bool). cond (r && (feed.cycle == t)) feed.source (source_at feeds n t)) w.0
        ]
      where
        off : (x : Bool) → cond (x && false) feed.source (source_at feeds n t) ≡ source_at feeds n t
        off true = refl
        off false = refl

    at : feed.cycle ≤ c → get_or (set old (net_at v feed.cycle feed.net) feed.source) (net_at v t n) Zero ≡ source_at (feed ∷ feeds) n t
    at early =
        let place : net_at v feed.cycle feed.net < length old = omega (arith, long, at_below v c feed.cycle feed.net early low) in
        elim (eqb_tells (net_at v feed.cycle feed.net) (net_at v t n)) [
          | inl w ↦
              let same : (feed.net ≡ n) × (feed.cycle ≡ t) = (one_net v feed.cycle t feed.net n low less w.1, one_cycle v feed.cycle t feed.net n low less w.1) in
              ap (λ i. get_or (set old (net_at v feed.cycle feed.net) feed.source) i Zero) (sym w.1) ∙ (get_or-set_same old (net_at v feed.cycle feed.net) feed.source Zero place ∙ sym (hit same))
          | inr w ↦
              let apart : net_at v t n ≢ net_at v feed.cycle feed.net = λ e. w.1 (sym e) in
              get_or-set_other old (net_at v feed.cycle feed.net) (net_at v t n) feed.source Zero apart ∙ (was t n within less ∙ sym (miss (λ same. w.1 (ap (λ m. net_at v feed.cycle m) same.0 ∙ ap (λ s. net_at v s n) same.1))))
        ]

-- ---- what is made

pub labels_count : (net : NetList) (b : Binding) (c : ℕ) (old now : NetList) → nets old ≡ 0 → now ≡ with_labels old (labels_to net.labels c ++ fed_labels b.k b.words) → nets now ≡ net_count net b c
labels_count net b c old now none is = omega (arith, nets_more old now (labels_to net.labels c ++ fed_labels b.k b.words) is, none, length-append (labels_to net.labels c) (fed_labels b.k b.words), labels_long net.labels c, fed_long b.k b.words)

pub fed_room : (net : NetList) (b : Binding) (c : ℕ) (old now : NetList) → nets old ≡ 0 → net_count net b c ≤ 2 ^ 20 → now ≡ with_labels old (labels_to net.labels c) → nets now + length (fed_labels b.k b.words) ≤ 2 ^ 20
fed_room net b c old now none few is = omega (arith, nets_more old now (labels_to net.labels c) is, none, labels_long net.labels c, fed_long b.k b.words, few)

pub made_sound : (net : NetList) (b : Binding) (c : ℕ) (made : NetList) → IsSound net → IsBoundTo net b → net_count net b c ≤ 2 ^ 20 → length (gates_to net b c c) ≤ 2 ^ 20 → made ≡ all_cycles net b c → IsSound made
made_sound net b c made sound bound few small is = let P : NetList → Type 0 = λ n. IsSound n in subst P (sym is) (cycles_sound net b c sound bound few small)

pub made_nets : (net : NetList) (b : Binding) (c : ℕ) (made : NetList) (list : List ℕ) → IsSound net → IsBoundTo net b → made ≡ all_cycles net b c → list ≡ unrolled_nets net b c → AreNets made b list
made_nets net b c made list sound bound is are =
    let P : NetList → Type 0 = λ n. AreNets n b list in
    let Q : List ℕ → Type 0 = λ ns. AreNets (all_cycles net b c) b ns in
    subst P (sym is) (subst Q (sym are) (are_nets net b c sound bound))

pub made_cycle : (net : NetList) (b : Binding) (c : ℕ) (made : NetList) (list : List ℕ) (binding : Binding) → IsSound net → IsBoundTo net b → made ≡ all_cycles net b c → list ≡ unrolled_nets net b c → binding ≡ rebinding made b list → (IsClosed made binding.words → IsOneCycle made binding) → IsOneCycle made binding
made_cycle net b c made list binding sound bound is are same each =
    let whole : binding ≡ rebinding (all_cycles net b c) b (unrolled_nets net b c) = same ∙ (ap (λ (n : NetList). rebinding n b list) is ∙ ap (λ (ns : List ℕ). rebinding (all_cycles net b c) b ns) are) in
    let P : NetList → Type 0 = λ n. IsClosed n binding.words in
    let Q : Binding → Type 0 = λ x. IsClosed (all_cycles net b c) x.words in
    each (subst P (sym is) (subst Q (sym whole) (closed net b c sound bound)))

-- what was laid out of the net that was handed back
pub laid_same : (net other : NetList) (b binding : Binding) (c : ℕ) → other ≡ net → binding ≡ b → IsBoundTo net b → (IsFlat net b → ⊥) → in_one_cycle other binding c ≡ unrolled net b c
laid_same net other b binding c same equal bound left = ap (λ (n : NetList). in_one_cycle n binding c) same ∙ (ap (λ (x : Binding). in_one_cycle net x c) equal ∙ sym (unrolled_laid net b c bound left))

-- ---- words and their nets

bare : (r : Bool) → r ≡ false → IsTrue r → ⊥
bare true is holds = absurd (cc)
bare false is holds = absurd (cc)

-- a word of which it is told that it has not k nets has none
pub no_nets : (b : Binding) (w : ℕ) (r : Bool) (word : BoundWord) → IsBinding b → slice_get b.words w ≡ Some word → (IsTrue r ↔ (length word.nets ≡ b.k)) → r ≡ false → word.nets ≡ []
no_nets b w r word is got tells miss = by (All_has (HasWidth b.k) b.words word is.each (w, got))
  where
    by : HasWidth b.k word → word.nets ≡ []
    by (inl long) = absurd (bare r miss (tells.1 long))
    by (inr none) = none.1

pub has_k : (b : Binding) (w : ℕ) (r : Bool) (word : BoundWord) → (IsTrue r ↔ (length word.nets ≡ b.k)) → r ≡ true → length word.nets ≡ b.k
has_k b w r word tells hit = let P : Bool → Type 0 = λ x. IsTrue x → length word.nets ≡ b.k in subst P hit tells.0 refl

-- one more net of a word
pub nets_step : (nets list new : List ℕ) (place x : ℕ) → place < length nets → list ≡ take place nets → x ≡ get_or nets place 0 → new ≡ list ++ x ∷ [] → new ≡ take (place + 1) nets
nets_step nets list new place x less was is made = made ∙ (ap (λ ns. ns ++ x ∷ []) was ∙ (ap (λ n. take place nets ++ n ∷ []) is ∙ sym (front_more nets place 0 less)))

pub more_step : (old nets list new : List ℕ) (place x : ℕ) → place < length nets → list ≡ old ++ take place nets → x ≡ get_or nets place 0 → new ≡ list ++ x ∷ [] → new ≡ old ++ take (place + 1) nets
more_step old nets list new place x less was is made =
    made ∙ (ap (λ ns. ns ++ x ∷ []) was ∙ (append_assoc old (take place nets) (x ∷ []) ∙ ap (λ ns. old ++ ns) (nets_step nets (take place nets) (take place nets ++ x ∷ []) place x less refl is refl)))

pub not_fed : (role : Role) (word : BoundWord) → role ≡ word.role → (role ≡ Input) ⊎ (role ≡ State) → word.role ≢ Fed
not_fed role word is (inl input) fed = let wrong : Input ≡ Fed = sym input ∙ (is ∙ fed) in absurd (cc)
not_fed role word is (inr state) fed = let wrong : State ≡ Fed = sym state ∙ (is ∙ fed) in absurd (cc)

pub output_not_fed : (role : Role) (word : BoundWord) → role ≡ word.role → role ≡ Output → word.role ≢ Fed
output_not_fed role word is out fed = let wrong : Output ≡ Fed = sym out ∙ (is ∙ fed) in absurd (cc)

-- the output word's nets exist
pub output_exists : (net : NetList) (b : Binding) (w place x : ℕ) (role : Role) (word : BoundWord) → IsBoundTo net b → slice_get b.words w ≡ Some word → role ≡ word.role → role ≡ Output → place < b.k → x ≡ get_or word.nets place 0 → x < nets net
output_exists net b w place x role word bound got is out less at =
    let long : length word.nets ≡ b.k = wide b word bound.parts (w, got) (output_not_fed role word is out) in
    let here : slice_get word.nets place ≡ Some (get_or word.nets place 0) = slice_get-get_or word.nets place 0 (omega (arith, long, less)) in
    omega (arith, at, stood net b word (get_or word.nets place 0) Output bound (w, got) (place, here) (sym is ∙ out))

pub fed_place : (v c k s place x : ℕ) (role : Role) (ns : List ℕ) → role ≡ Fed → place < k → x ≡ s + place → x ≡ get_or (nets_with v c k s role ns) place 0
fed_place v c k s place x role ns is less at =
    let P : Role → Type 0 = λ r. x ≡ get_or (nets_with v c k s r ns) place 0 in
    subst P (sym is) (at ∙ sym (get_or-range_with_len s k place 0 less))

pub output_place : (v c k s place x y : ℕ) (role : Role) (ns : List ℕ) → role ≡ Output → place < length ns → x ≡ net_at v c y → y ≡ get_or ns place 0 → x ≡ get_or (nets_with v c k s role ns) place 0
output_place v c k s place x y role ns is less at from =
    let P : Role → Type 0 = λ r. x ≡ get_or (nets_with v c k s r ns) place 0 in
    subst P (sym is) (at ∙ (ap (net_at v c) from ∙ sym (map-get (net_at v c) ns place 0 0 less)))

pub words_init : (v c k base : ℕ) (words : List BoundWord) (list : List ℕ) → list ≡ [] → list ++ nets_of_words v c k (first_bit k base words 0) words ≡ nets_of_words v c k base words
words_init v c k base words list none = ap (λ ns. ns ++ nets_of_words v c k (first_bit k base words 0) words) none ∙ ap (λ n. nets_of_words v c k n words) (first_bit_here k base words)

-- ---- marks

pub held_step : (words : List BoundWord) (w n : ℕ) (old was new : Bool) (word : BoundWord) → slice_get words w ≡ Some word → was ≡ (old || in_word State (take w words) n) → new ≡ (was || (same_role word.role State && stands_in word.nets n)) → new ≡ (old || in_word State (take (w + 1) words) n)
held_step words w n old was new word got before made =
    let p : BoundWord → Bool = λ u. same_role u.role State && stands_in u.nets n in
    made ∙ (ap (λ r. r || p word) before ∙ (join old (in_word State (take w words) n) (p word) ∙ ap (λ r. old || r) (sym (rw add-one (more words w got)))))
  where
    join : (x y z : Bool) → ((x || y) || z) ≡ (x || (y || z))
    join true y z = refl
    join false y z = refl

    more : (us : List BoundWord) (i : ℕ) → slice_get us i ≡ Some word → in_word State (take (suc i) us) n ≡ (in_word State (take i us) n || (same_role word.role State && stands_in word.nets n))
    more [] i at = absurd (cc)
    more (u ∷ us) zero at = let same : u ≡ word = cc in ap (λ (v : BoundWord). (same_role v.role State && stands_in v.nets n) || false) same ∙ or-false (same_role word.role State && stands_in word.nets n)
    more (u ∷ us) (suc i) at = ap (λ r. (same_role u.role State && stands_in u.nets n) || r) (more us i at) ∙ sym (join (same_role u.role State && stands_in u.nets n) (in_word State (take i us) n) (same_role word.role State && stands_in word.nets n))

-- ---- faults

pub no_fault : {X : Type 0} (fault : UnrollFault) (n count : ℕ) → fault ≢ TooManyNets → n ≡ count → count ≤ 2 ^ 20 → (◌≡◌ {A = Result X UnrollFault} (Err fault) (Err TooManyNets)) ↔ (2 ^ 20 < n)
no_fault fault n count other is few = ((λ same. absurd (other (cc))), (λ more. absurd (omega (arith, is, few, more))))

-- ---- room

pub made_room : (net : NetList) (b : Binding) (c : ℕ) (new labels inputs outputs : NetList) → new ≡ empty → labels ≡ with_labels new (labels_to net.labels c ++ fed_labels b.k b.words) → inputs ≡ with_inputs labels (unrolled_inputs net b c) → outputs ≡ with_outputs inputs (map (net_at (nets net) c) net.outputs) → length (gates_to net b c c) ≤ 2 ^ 20 → HasRoom (net_count net b c) (length (gates_to net b c c)) outputs
made_room net b c new labels inputs outputs one two three four few =
    let all : outputs ≡ with_outputs (with_inputs (with_labels empty (labels_to net.labels c ++ fed_labels b.k b.words)) (unrolled_inputs net b c)) (map (net_at (nets net) c) net.outputs) =
    four ∙ ap (λ (m : NetList). with_outputs m (map (net_at (nets net) c) net.outputs)) (three ∙ ap (λ (m : NetList). with_inputs m (unrolled_inputs net b c)) (two ∙ ap (λ (m : NetList). with_labels m (labels_to net.labels c ++ fed_labels b.k b.words)) one)) in
    let P : NetList → Type 0 = λ m. HasRoom (net_count net b c) (length (gates_to net b c c)) m in
    subst P (sym all) (record { nets_are = omega (arith, length-append (labels_to net.labels c) (fed_labels b.k b.words), labels_long net.labels c, fed_long b.k b.words); flat = refl; room = omega (arith, few) })

pub within_no_fault : {X : Type 0} (r : Result X UnrollFault) (n count : ℕ) → IfErr r (λ fault. fault ≢ TooManyNets) → n ≡ count → count ≤ 2 ^ 20 → (r ≡ Err TooManyNets) ↔ (2 ^ 20 < n)
within_no_fault {X} r n count other is few =
    let P : Result X UnrollFault → Type 0 = λ q. IfErr q (λ fault. fault ≢ TooManyNets) in
    ((λ same. absurd (subst P same other refl)), (λ more. absurd (omega (arith, is, few, more))))

-- ---- feeds

pub feeds_low : (net : NetList) (b : Binding) (feeds : List Feed) (count : ℕ) → IsSound net → IsBoundTo net b → feeds ≡ b.feeds → count ≡ nets net → (feed : Feed) → Has feeds feed → feed.net < count
feeds_low net b feeds count sound bound are is feed has =
    let P : List Feed → Type 0 = λ fs. Has fs feed in
    let input : Has net.inputs feed.net = (bound.feeds feed (subst P are has)).input in
    omega (arith, is, All_has (λ n. n < nets net) net.inputs feed.net sound.inside.inputs input)
