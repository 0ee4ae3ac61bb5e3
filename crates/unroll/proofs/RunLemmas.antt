-- The bits of all cycles as the bits of the unrolled net.
use Rattle.std.proofs.Common.{◌≡◌, ◌∙◌, ap, sym, refl, ℕ, zero, suc, ◌<◌, ◌≤◌, ◌+◌, ◌-◌, ◌*◌, ◌/◌, ◌%◌, Bool, true, false, List, [], ◌∷◌, length, map, Some, get_or, cond, arith}
use Rattle.std.specs.Prelude.{slice_get, ◌==◌}
use Rattle.std.specs.Int.{bit_at}
use Rattle.lists.specs.Lists.{Has}
use Rattle.lists.specs.laws.HasLaws.{All_has}
use Rattle.lists.specs.laws.ReadLaws.{from_map}
use Rattle.net_core.specs.GateValue.{GateValue}
use Rattle.net_core.specs.Inside.{LatchIsInside}
use Rattle.net_core.specs.LatchValue.{LatchValue}
use Rattle.net_core.specs.NetList.{NetList, nets}
use Rattle.net_core.specs.Sound.{IsSound}
use Rattle.net_core.specs.Value.{bit_of, index_of, IsConsistent, IsRight}
use Rattle.net_core.proofs.DriverLemmas.{gate_inside}
use Rattle.net_core.specs.declared.latch.Start.TheVariants as starts
use Rattle.net_words.specs.Binding.{Binding}
use Rattle.net_words.specs.BoundTo.{IsBoundTo}
use Rattle.net_words.specs.Feeds.{is_fed, IsSource}
use Rattle.net_words.specs.declared.bound.BoundWord.{BoundWord}
use Rattle.net_words.specs.declared.feed.Source.{Source}
use Rattle.net_words.specs.declared.feed.Source.TheVariants.{Zero, One, Bit}
use Rattle.net_words.specs.declared.word.Role.TheVariants.{Fed}
use Rattle.circuit_model.specs.JobOfBinding.{inner_number}
use Rattle.circuit_model.proofs.GivenLemmas.{bits_at, bits_by, bits_long}
use Rattle.unroll.specs.Gates.{bit_net, buffer, constant, is_held, source_gate, start_bit}
use Rattle.unroll.specs.Nets.{all_cycles}
use Rattle.unroll.specs.Places.{net_at, cycle_nets}
use Rattle.unroll.specs.Sources.{source_at}
use Rattle.unroll.specs.private.Plan.{net_count}
use Rattle.unroll.proofs.PlaceLemmas.{at_below, at_cycle, at_net, below, below_high, below_low, bit_high, first_at}
use Rattle.unroll.proofs.LaidLemmas.{IsLaid, laid, of_feed, of_gate, of_input, of_latch, of_start}
use Rattle.unroll.proofs.CountLemmas.{nets_long}
use Rattle.unroll.proofs.SoundLemmas.{at_count, bound_source, source_bit, start_small}
use Rattle.unroll.proofs.FedBitLemmas.{fed_at, fed_list}

-- the bits of cycle t
abbrev pub row : List (List Bool) → ℕ → List Bool
row run t = get_or run t []

-- the bit of a net of the unrolled net
abbrev pub value_at : ℕ → ℕ → List (List Bool) → List Bool → ℕ → Bool
value_at v c run fed m = below (cycle_nets v c - m) (bit_of (row run (m / v)) (m % v)) (bit_of fed (m - cycle_nets v c))

-- the bits of the unrolled net
abbrev pub all_bits : NetList → Binding → ℕ → List (List Bool) → List ℕ → List Bool
all_bits net b c run ds = bits_by (net_count net b c) (value_at (nets net) c run (fed_list b.k b.words ds))

pub all_long : (net : NetList) (b : Binding) (c : ℕ) (run : List (List Bool)) (ds : List ℕ) → length (all_bits net b c run ds) ≡ nets (all_cycles net b c)
all_long net b c run ds = bits_long (net_count net b c) (value_at (nets net) c run (fed_list b.k b.words ds)) ∙ sym (nets_long net b c)

pub bit_in_cycle : (net : NetList) (b : Binding) (c : ℕ) (run : List (List Bool)) (ds : List ℕ) (t n : ℕ) → t ≤ c → n < nets net → bit_of (all_bits net b c run ds) (net_at (nets net) t n) ≡ bit_of (row run t) n
bit_in_cycle net b c run ds t n within less =
    let v : ℕ = nets net in
    let m : ℕ = net_at v t n in
    let fed : List Bool = fed_list b.k b.words ds in
    bits_at (net_count net b c) (value_at v c run fed) m (at_count net b c t n within less)
    ∙ (below_low m (cycle_nets v c) (bit_of (row run (m / v)) (m % v)) (bit_of fed (m - cycle_nets v c)) (at_below v c t n within less)
    ∙ (ap (λ s. bit_of (row run s) (m % v)) (at_cycle v t n less)
    ∙ ap (λ x. bit_of (row run t) x) (at_net v t n less)))

pub bit_of_first : (net : NetList) (b : Binding) (c : ℕ) (run : List (List Bool)) (ds : List ℕ) (n : ℕ) → n < nets net → bit_of (all_bits net b c run ds) n ≡ bit_of (row run 0) n
bit_of_first net b c run ds n less = ap (bit_of (all_bits net b c run ds)) (sym (first_at (nets net) n)) ∙ bit_in_cycle net b c run ds 0 n (omega arith) less

-- the bit of a fed word
pub bit_of_fed : (net : NetList) (b : Binding) (c : ℕ) (run : List (List Bool)) (ds : List ℕ) (w place d : ℕ) (word : BoundWord) → slice_get b.words w ≡ Some word → word.role ≡ Fed → slice_get ds (inner_number b.words w) ≡ Some d → place < b.k → bit_net net b c w place < net_count net b c → bit_of (all_bits net b c run ds) (bit_net net b c w place) ≡ (bit_at d place == 1)
bit_of_fed net b c run ds w place d word got is digit less within =
    let v : ℕ = nets net in
    let base : ℕ = cycle_nets v c in
    let m : ℕ = bit_net net b c w place in
    let fed : List Bool = fed_list b.k b.words ds in
    let high : base ≤ m = omega (arith, bit_high b.k base b.words w) in
    bits_at (net_count net b c) (value_at v c run fed) m within
    ∙ (below_high m base (bit_of (row run (m / v)) (m % v)) (bit_of fed (m - base)) high
    ∙ fed_at b.k base b.words ds w place (m - base) d word got is digit less (omega (arith, high)))

-- what a source's bit is, out of a number for each word beside the output word
abbrev pub HasSourceBit : List BoundWord → List ℕ → Source → Bool → Type 0
HasSourceBit words ds Zero bit = bit ≡ false
HasSourceBit words ds One bit = bit ≡ true
HasSourceBit words ds (Bit w place) bit = (d : ℕ) × (slice_get ds (inner_number words w) ≡ Some d) × (bit ≡ (bit_at d place == 1))

-- what is known of the bits of all cycles
pub record AreRows (net : NetList) (b : Binding) (c : ℕ) (run : List (List Bool)) (ds : List ℕ) : Type 0 where
  pub consistent : (t : ℕ) → t ≤ c → IsConsistent net (row run t)
  pub kept : (t n : ℕ) → t ≤ c → Has net.inputs n → is_fed b.feeds n ≡ false → bit_of (row run t) n ≡ bit_of (row run 0) n
  pub fed : (t n : ℕ) → t ≤ c → Has net.inputs n → is_fed b.feeds n ≡ true → HasSourceBit b.words ds (source_at b.feeds n t) (bit_of (row run t) n)
  pub next : (t : ℕ) (l : LatchValue) → t < c → Has net.latches l → bit_of (row run (t + 1)) l.out ≡ bit_of (row run t) l.next
  pub started : (l : LatchValue) → Has net.latches l → is_held b l ≡ false → bit_of (row run 0) l.out ≡ (start_bit l.start == 1)

buffer_table : (x : Bool) → x ≡ (bit_at 2 (cond x 1 0 + 2 * 0) == 1)
buffer_table true = refl
buffer_table false = refl

-- a buffer is right where its output has the bit of its input
buffer_right : (bits : List Bool) (out from : ℕ) → bit_of bits out ≡ bit_of bits from → IsRight bits (buffer out from)
buffer_right bits out from same = same ∙ buffer_table (bit_of bits from)

-- a gate without inputs is right where its output has the bit of its table
constant_right : (bits : List Bool) (out bit : ℕ) → bit_of bits out ≡ (bit_at bit 0 == 1) → IsRight bits (constant out bit)
constant_right bits out bit same = same

pub index_at : (net : NetList) (b : Binding) (c : ℕ) (run : List (List Bool)) (ds : List ℕ) (t : ℕ) (ns : List ℕ) → t ≤ c → ((n : ℕ) → Has ns n → n < nets net) → index_of (all_bits net b c run ds) (map (net_at (nets net) t) ns) ≡ index_of (row run t) ns
index_at net b c run ds t [] within low = refl
index_at net b c run ds t (n ∷ ns) within low =
    let rest : index_of (all_bits net b c run ds) (map (net_at (nets net) t) ns) ≡ index_of (row run t) ns = index_at net b c run ds t ns within (λ m has. low m (suc has.0, has.1)) in
    let here : bit_of (all_bits net b c run ds) (net_at (nets net) t n) ≡ bit_of (row run t) n = bit_in_cycle net b c run ds t n within (low n (0, refl)) in
    ap (λ (x : Bool). cond x 1 0 + 2 * index_of (all_bits net b c run ds) (map (net_at (nets net) t) ns)) here ∙ ap (λ k. cond (bit_of (row run t) n) 1 0 + 2 * k) rest

module _ (net : NetList) (b : Binding) (c : ℕ) (run : List (List Bool)) (ds : List ℕ) (sound : IsSound net) (bound : IsBoundTo net b) (rows : AreRows net b c run ds) where
  source_right : (t n : ℕ) (source : Source) → t ≤ c → n < nets net → IsSource b.k (map (λ word. word.role) b.words) source → HasSourceBit b.words ds source (bit_of (row run t) n) → IsRight (all_bits net b c run ds) (source_gate net b c (net_at (nets net) t n) source)
  source_right t n Zero within low is bit = constant_right (all_bits net b c run ds) (net_at (nets net) t n) 0 (bit_in_cycle net b c run ds t n within low ∙ bit)
  source_right t n One within low is bit = constant_right (all_bits net b c run ds) (net_at (nets net) t n) 1 (bit_in_cycle net b c run ds t n within low ∙ bit)
  source_right t n (Bit w place) within low is bit =
      let from = from_map (λ (word : BoundWord). word.role) b.words w Fed is.1 in
      buffer_right (all_bits net b c run ds) (net_at (nets net) t n) (bit_net net b c w place)
      (bit_in_cycle net b c run ds t n within low ∙ (bit.2 ∙ sym (bit_of_fed net b c run ds w place bit.0 from.0 from.1 from.2 bit.1 is.0 (source_bit net b c w place is).1)))

  laid_right : (g : GateValue) → IsLaid net b c c g → IsRight (all_bits net b c run ds) g
  laid_right g (of_feed s n within has fed) = source_right s n (source_at b.feeds n s) within (input_low n has) (bound_source net b n s bound) (rows.fed s n within has fed)
    where
      input_low : (n : ℕ) → Has net.inputs n → n < nets net
      input_low n has = All_has (λ m. m < nets net) net.inputs n sound.inside.inputs has
  laid_right g (of_input s n less has unfed) =
      let low : n < nets net = All_has (λ m. m < nets net) net.inputs n sound.inside.inputs has in
      let up : s + 1 ≤ c = omega (arith, less) in
      buffer_right (all_bits net b c run ds) (net_at (nets net) (s + 1) n) n (bit_in_cycle net b c run ds (s + 1) n up low ∙ (rows.kept (s + 1) n up has unfed ∙ sym (bit_of_first net b c run ds n low)))
  laid_right g (of_latch s l less has) =
      let is = All_has (LatchIsInside (nets net)) net.latches l sound.inside.latches has in
      let up : s + 1 ≤ c = omega (arith, less) in
      let here : s ≤ c = omega (arith, less) in
      buffer_right (all_bits net b c run ds) (net_at (nets net) (s + 1) l.out) (net_at (nets net) s l.next) (bit_in_cycle net b c run ds (s + 1) l.out up is.1 ∙ (rows.next s l less has ∙ sym (bit_in_cycle net b c run ds s l.next here is.0)))
  laid_right g (of_start l has free) =
      let is = All_has (LatchIsInside (nets net)) net.latches l sound.inside.latches has in
      constant_right (all_bits net b c run ds) l.out (start_bit l.start) (bit_of_first net b c run ds l.out is.1 ∙ (rows.started l has free ∙ table (start_bit l.start) (start_small l.start)))
    where
      table : (bit : ℕ) → bit < 2 → (bit == 1) ≡ (bit_at bit 0 == 1)
      table zero less = refl
      table (suc zero) less = refl
      table (suc (suc bit)) less = absurd (omega arith)
  laid_right g (of_gate s h within has) =
      let is = gate_inside net h sound.inside has in
      let low : (n : ℕ) → Has h.inputs n → n < nets net = λ n in_h. All_has (λ m. m < nets net) h.inputs n is.1 in_h in
      bit_in_cycle net b c run ds s h.out within is.0 ∙ ((rows.consistent s within).gates h has ∙ ap (λ i. bit_at h.table i == 1) (sym (index_at net b c run ds s h.inputs within low)))

  -- the bits of all cycles agree with each gate of the unrolled net
  pub all_consistent : IsConsistent (all_cycles net b c) (all_bits net b c run ds)
  all_consistent = record {
    long = all_long net b c run ds;
    gates = λ g has. laid_right g (laid net b c c g has);
  }
