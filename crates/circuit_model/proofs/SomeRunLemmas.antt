-- A circuit has a run at each input.
use Rattle.std.proofs.Common.{◌≡◌, ◌∙◌, ap, sym, refl, subst, ℕ, zero, suc, ◌≤◌, ◌+◌, Bool, false, List, [], ◌∷◌, length, Some, map, arith}
use Rattle.std.specs.Prelude.{slice_get}
use Rattle.lists.specs.Lists.{Has, times}
use Rattle.lists.specs.laws.HasLaws.{Has_left, Has_right, Has_map}
use Rattle.net_core.specs.NetList.{nets}
use Rattle.net_core.specs.LatchValue.{LatchValue}
use Rattle.net_core.specs.Sound.{sources}
use Rattle.net_core.specs.Value.{bit_of, IsConsistent}
use Rattle.net_core.proofs.ExistLemmas.{sound_some}
use Rattle.net_words.specs.BoundTo.{StandsOn}
use Rattle.net_words.specs.declared.word.Role.{Role}
use Rattle.circuit_model.specs.declared.circuit_feed.FeedSource.{FeedSource}
use Rattle.circuit_model.specs.declared.circuit_feed.FeedSource.TheVariants.{Constant}
use Rattle.circuit_model.specs.Feeds.{source_at}
use Rattle.circuit_model.specs.Word.{Word, word_nets, IsInputWord, IsStateWord}
use Rattle.circuit_model.specs.Circuit.{Circuit, IsInNoWord, IsFed, IsInput}
use Rattle.circuit_model.specs.Job.{IsJob, IsJobWord, net_count}
use Rattle.circuit_model.specs.Run.{HasSource, IsClockCycle, IsFirst, IsNext, HasZeros, IsStart, IsRun}
use Rattle.circuit_model.proofs.GivenLemmas.{Pairs, keys, given, given_not, given_has, bits_by, bits_long, bits_at}
use Rattle.circuit_model.proofs.WordLemmas.{has_word}
use Rattle.circuit_model.proofs.ChoiceLemmas.{choose, GiveElements}
use Rattle.circuit_model.proofs.SourceLemmas.{latch_outs, find_word, source_inside, stands_source, not_both, latches_once, start_bit, starts}
use Rattle.circuit_model.proofs.FeedLemmas.{source_fits, source_none, some_source, source_of_fed}

-- the outputs of latches with these bits
abbrev latch_pairs : (LatchValue → Bool) → List LatchValue → Pairs
latch_pairs bit [] = []
latch_pairs bit (l ∷ ls) = (l.out, bit l) ∷ latch_pairs bit ls

latch_keys : (bit : LatchValue → Bool) (ls : List LatchValue) → keys (latch_pairs bit ls) ≡ map (λ (l : LatchValue). l.out) ls
latch_keys bit [] = refl
latch_keys bit (l ∷ ls) = ap (λ ms. l.out ∷ ms) (latch_keys bit ls)

latch_in : (bit : LatchValue → Bool) (ls : List LatchValue) (l : LatchValue) → Has ls l → Has (latch_pairs bit ls) (l.out, bit l)
latch_in bit [] l has = let got = has.1 in absurd (cc)
latch_in bit (m ∷ ms) l (zero, got) = let same : m ≡ l = cc in (0, ap (λ (x : LatchValue). Some (x.out, bit x)) same)
latch_in bit (m ∷ ms) l (suc k, got) = let rest = latch_in bit ms l (k, got) in (suc rest.0, rest.1)

module _ (c : Circuit) (well : IsJob c) (xs : List ℕ) (input : IsInput c xs) (ps : Pairs) (named : keys ps ≡ word_nets c.words) (gives : GiveElements c.words xs ps) where
  key_named : (n : ℕ) → Has (keys ps) n → Has (word_nets c.words) n
  key_named n has = let P : List ℕ → Type 0 = λ ns. Has ns n in subst P named has

  named_source : (n : ℕ) → Has (word_nets c.words) n → Has (sources c.net) n
  named_source n has =
      let found = find_word c.words n has in
      stands_source c.net found.1.role n (well.inner found.1 (found.0, found.2)) (well.places found.1 n (found.0, found.2) found.3)

  words_once : (n : ℕ) → times n (keys ps) ≤ 1
  words_once n = let P : List ℕ → Type 0 = λ ns. times n ns ≤ 1 in subst P (sym named) (well.once n)

  -- latches have given bits, and words where no latch has
  latched : (LatchValue → Bool) → (ℕ → Bool) → ℕ → Bool
  latched bit f = given (latch_pairs bit c.net.latches) f

  latched_at : (bit : LatchValue → Bool) (f : ℕ → Bool) (l : LatchValue) → Has c.net.latches l → latched bit f l.out ≡ bit l
  unfolding latched
  latched_at bit f l has = given_has (latch_pairs bit c.net.latches) f once l.out (bit l) (latch_in bit c.net.latches l has)
    where
      once : (n : ℕ) → times n (keys (latch_pairs bit c.net.latches)) ≤ 1
      once n = let P : List ℕ → Type 0 = λ ns. times n ns ≤ 1 in subst P (sym (latch_keys bit c.net.latches)) (latches_once c.net well.sound n)

  latched_other : (bit : LatchValue → Bool) (f : ℕ → Bool) (n : ℕ) → (Has (latch_outs c.net) n → ⊥) → latched bit f n ≡ f n
  unfolding latched
  latched_other bit f n none = given_not (latch_pairs bit c.net.latches) f n (λ has. let P : List ℕ → Type 0 = λ ns. Has ns n in none (subst P (latch_keys bit c.net.latches) has))

  -- the bits of the sources of feeds for cycle t
  other_bits : ℕ → ℕ → Bool
  other_bits t n = (some_source c well xs input (source_at c.feeds n t) (source_fits c well n t)).0

  other_fed : (t n : ℕ) → HasSource c.words xs (source_at c.feeds n t) (other_bits t n)
  unfolding other_bits
  other_fed t n = (some_source c well xs input (source_at c.feeds n t) (source_fits c well n t)).1

  other_zero : (t n : ℕ) → (IsFed c n → ⊥) → other_bits t n ≡ false
  other_zero t n unfed =
      let P : FeedSource → Type 0 = λ s. HasSource c.words xs s (other_bits t n) in
      let zero : HasSource c.words xs (Constant false) (other_bits t n) = subst P (source_none c.feeds n t unfed) (other_fed t n) in
      zero

  -- the bits of sources in cycle t, where latches in no word have their starts
  first_bits : ℕ → ℕ → Bool
  first_bits t = given ps (latched (λ l. start_bit l.start) (other_bits t))

  -- the bits of all nets, where the sources have these
  settle : (f : ℕ → Bool) → (bits : List Bool) × IsConsistent c.net bits × ((n : ℕ) → Has (sources c.net) n → bit_of bits n ≡ f n)
  settle f =
      let found = sound_some c.net (bits_by (nets c.net) f) well.sound (bits_long (nets c.net) f) in
      (found.0, found.1, λ n has. found.2 n has ∙ bits_at (nets c.net) f n (source_inside c.net well.sound n has))

  pair_bit : (t n : ℕ) (b : Bool) → Has ps (n, b) → first_bits t n ≡ b
  unfolding first_bits
  pair_bit t n b has = given_has ps (latched (λ l. start_bit l.start) (other_bits t)) words_once n b has

  unnamed_bit : (t n : ℕ) → IsInNoWord c n → first_bits t n ≡ latched (λ l. start_bit l.start) (other_bits t) n
  unfolding first_bits
  unnamed_bit t n none = given_not ps (latched (λ l. start_bit l.start) (other_bits t)) n (λ has. none (key_named n has))

  input_latch : (n : ℕ) → Has c.net.inputs n → Has (latch_outs c.net) n → ⊥
  input_latch n = not_both c.net well.sound n

  input_source : (n : ℕ) → Has c.net.inputs n → Has (sources c.net) n
  input_source n has = Has_left c.net.inputs (latch_outs c.net) n has

  other_bit : (t n : ℕ) → Has c.net.inputs n → IsInNoWord c n → first_bits t n ≡ other_bits t n
  other_bit t n has none = unnamed_bit t n none ∙ latched_other (λ l. start_bit l.start) (other_bits t) n (λ latch. input_latch n has latch)

  input_word : (w : Word) (n : ℕ) → Has c.words w → Has w.nets n → IsInputWord w → Has c.net.inputs n
  input_word w n in_words in_w is =
      let P : Role → Type 0 = λ r. StandsOn c.net r n in
      subst P is (well.places w n in_words in_w)

  long_word : (w : Word) → Has c.words w → net_count c.k w.role ≡ c.k → length w.basis ≡ length w.nets
  long_word w has all = let is : IsJobWord c.k w = well.words w has in is.basis.size ∙ (sym all ∙ sym is.nets)

  input_long : (w : Word) → Has c.words w → IsInputWord w → length w.basis ≡ length w.nets
  input_long w has is = long_word w has (ap (net_count c.k) is)

  state_long : (w : Word) → Has c.words w → IsStateWord w → length w.basis ≡ length w.nets
  state_long w has is = long_word w has (ap (net_count c.k) is)

  -- where the inputs have their first bits, the input words have their elements and the other inputs are fed or 0
  cycle_of : (t : ℕ) (bits : List Bool) → IsConsistent c.net bits → ((n : ℕ) → Has c.net.inputs n → bit_of bits n ≡ first_bits t n) → IsClockCycle c xs t bits × HasZeros c bits
  cycle_of t bits consistent same = (
    record {
      consistent = consistent;
      inputs = λ i w x got at is. gives bits i w x got at (input_long w (i, got) is) (λ n b has in_w. same n (input_word w n (i, got) in_w is) ∙ pair_bit t n b has);
      feeds = λ n fed.
          let is = source_of_fed c well n fed in
          let P : Bool → Type 0 = HasSource c.words xs (source_at c.feeds n t) in
          subst P (sym (same n is.0 ∙ other_bit t n is.0 is.1)) (other_fed t n);
    },
    λ n free. same n free.input ∙ (other_bit t n free.input free.unnamed ∙ other_zero t n free.unfed),
  )

  first : (bits : List Bool) × IsClockCycle c xs 0 bits × HasZeros c bits × IsFirst c xs bits
  first =
      let found = settle (first_bits 0) in
      let cycle = cycle_of 0 found.0 found.1 (λ n has. found.2 n (input_source n has)) in (
        found.0,
        cycle.0,
        cycle.1,
        record {
          states = λ i w x got at is. gives found.0 i w x got at (state_long w (i, got) is) (λ n b has in_w. found.2 n (named_source n (has_word c.words i w n got in_w)) ∙ pair_bit 0 n b has);
          latches = λ l has none.
              let P : Bool → Type 0 = λ b. IsStart l.start b in
              let at : Has (latch_outs c.net) l.out = Has_map (λ (m : LatchValue). m.out) c.net.latches l has in
              let bit = found.2 l.out (Has_right c.net.inputs (latch_outs c.net) l.out at) ∙ (unnamed_bit 0 l.out none ∙ latched_at (λ m. start_bit m.start) (other_bits 0) l has) in
              subst P (sym bit) (starts l.start);
        },
      )

  next : (t : ℕ) (before : List Bool) → (bits : List Bool) × IsClockCycle c xs t bits × HasZeros c bits × IsNext c before bits
  next t before =
      let f : ℕ → Bool = latched (λ l. bit_of before l.next) (first_bits t) in
      let found = settle f in
      let cycle = cycle_of t found.0 found.1 (λ n has. found.2 n (input_source n has) ∙ latched_other (λ l. bit_of before l.next) (first_bits t) n (λ latch. input_latch n has latch)) in (
        found.0,
        cycle.0,
        cycle.1,
        λ l has.
            let at : Has (latch_outs c.net) l.out = Has_map (λ (m : LatchValue). m.out) c.net.latches l has in
            found.2 l.out (Has_right c.net.inputs (latch_outs c.net) l.out at) ∙ latched_at (λ m. bit_of before m.next) (first_bits t) l has,
      )

  -- cycles from t on that follow another
  abbrev AreLater : ℕ → List Bool → List (List Bool) → Type 0
  AreLater t before [] = Unit {0}
  AreLater t before (bits ∷ run) = IsClockCycle c xs t bits × HasZeros c bits × IsNext c before bits × AreLater (suc t) bits run

  later : (m t : ℕ) (before : List Bool) → (run : List (List Bool)) × (length run ≡ m) × AreLater t before run
  later zero t before = ([], refl, tt)
  later (suc m) t before =
      let now = next t before in
      let rest = later m (suc t) now.0 in
      (now.0 ∷ rest.0, ap suc rest.1, (now.1, now.2, now.3, rest.2))

  later_each : (t : ℕ) (before : List Bool) (run : List (List Bool)) → AreLater t before run → (s q : ℕ) (bits : List Bool) → q ≡ t + s → slice_get run s ≡ Some bits → IsClockCycle c xs q bits × HasZeros c bits
  later_each t before [] all s q bits is got = absurd (cc)
  later_each t before (u ∷ run) all zero q bits is got =
      let same : u ≡ bits = cc in
      let at : t ≡ q = omega arith in
      let P : List Bool → Type 0 = λ v. IsClockCycle c xs q v × HasZeros c v in
      let Q : ℕ → Type 0 = λ r. IsClockCycle c xs r u × HasZeros c u in
      subst P same (subst Q at (all.0, all.1))
  later_each t before (u ∷ run) all (suc s) q bits is got = later_each (suc t) u run all.3 s q bits (omega arith) got

  later_next : (t : ℕ) (before : List Bool) (run : List (List Bool)) → AreLater t before run → (s : ℕ) (u v : List Bool) → slice_get (before ∷ run) s ≡ Some u → slice_get run s ≡ Some v → IsNext c u v
  later_next t before [] all s u v at_u at_v = absurd (cc)
  later_next t before (a ∷ run) all zero u v at_u at_v =
      let first : before ≡ u = cc in
      let second : a ≡ v = cc in
      let P : List Bool → Type 0 = λ b. IsNext c b v in
      let Q : List Bool → Type 0 = λ b. IsNext c before b in
      subst P first (subst Q second all.2)
  later_next t before (a ∷ run) all (suc s) u v at_u at_v = later_next (suc t) a run all.3 s u v at_u at_v

  whole : (run : List (List Bool)) × IsRun c xs run
  whole =
      let begin = first in
      let rest = later c.cycles 1 begin.0 in
      let both = each begin.0 begin.1 begin.2 rest.0 rest.2 in (
        begin.0 ∷ rest.0,
        record {
          open_run = record {
            input = input;
            long = omega (arith, rest.1);
            each = λ t bits got. (both t bits got).0;
            first = λ bits got. let same : begin.0 ≡ bits = cc in let P : List Bool → Type 0 = λ v. IsFirst c xs v in subst P same begin.3;
            next = λ t u v at_u at_v. later_next 1 begin.0 rest.0 rest.2 t u v at_u (let e : t + 1 ≡ suc t = omega arith in let P : ℕ → Type 0 = λ s. slice_get (begin.0 ∷ rest.0) s ≡ Some v in subst P e at_v);
          };
          zeros = λ t bits got. (both t bits got).1;
        },
      )
    where
      each : (u : List Bool) → IsClockCycle c xs 0 u → HasZeros c u → (run : List (List Bool)) → AreLater 1 u run → (t : ℕ) (bits : List Bool) → slice_get (u ∷ run) t ≡ Some bits → IsClockCycle c xs t bits × HasZeros c bits
      each u cycle zeros run all zero bits got =
          let same : u ≡ bits = cc in
          let P : List Bool → Type 0 = λ v. IsClockCycle c xs 0 v × HasZeros c v in
          subst P same (cycle, zeros)
      each u cycle zeros run all (suc t) bits got = later_each 1 u run all t (suc t) bits (omega arith) got

pub some_run : (c : Circuit) (xs : List ℕ) → IsJob c → IsInput c xs → (run : List (List Bool)) × IsRun c xs run
some_run c xs well input =
    let chosen = choose c.k c.words xs input.long (λ w has. (well.words w has).basis) (λ x has. input.elements x has) in
    whole c well xs input chosen.0 chosen.1 chosen.2
