-- A small worked job, which the check computes: a latch that starts with 1 and then has what its net had the cycle before.
-- The net is fed the bit of the word A in cycle 0 and nothing later.
use Rattle.std.proofs.Common.{◌≡◌, ◌∙◌, ap, ◌+◌, sym, refl, subst, ℕ, zero, suc, ◌<◌, [], ◌∷◌, List, Bool, true, false, length, Some, codes, slice_get, arith}
use Rattle.std.specs.Prelude.{◌==◌}
use Rattle.std.specs.Int.{bit_at}
use Rattle.lists.specs.Lists.{Has}
use Rattle.lists.specs.laws.HasLaws.{none_at}
use Rattle.gf_field.specs.Bit.{bit_mul}
use Rattle.gf_basis.specs.Basis.{AreBits}
use Rattle.net_core.specs.LatchValue.{LatchValue}
use Rattle.net_core.specs.NetList.{NetList}
use Rattle.net_core.specs.Value.{bit_of}
use Rattle.net_core.specs.declared.latch.Start.TheVariants.{One}
use Rattle.net_words.specs.declared.word.Role.{Role}
use Rattle.net_words.specs.declared.word.Role.TheVariants.{Input, State, Fed, Output}
use Rattle.circuit_model.specs.declared.circuit_feed.CircuitFeed.{CircuitFeed}
use Rattle.circuit_model.specs.declared.circuit_feed.FeedSource.TheVariants.{Bit}
use Rattle.circuit_model.specs.Feeds.{source_at}
use Rattle.circuit_model.specs.Word.{Word, HasElement}
use Rattle.circuit_model.specs.Circuit.{Circuit}
use Rattle.circuit_model.specs.Run.{HasSource, IsStart, IsClockCycle, IsFirst, IsNext, IsRun}
use Rattle.circuit_model.specs.Out.{IsOut}
use Rattle.circuit_model.proofs.Examples.{word, named, element}

abbrev latch : LatchValue
latch = record { next = 0; out = 1; start = One }

-- net 0 is d, net 1 the latch's output q
abbrev latch_net : NetList
latch_net = record { labels = named (codes "d") ∷ named (codes "q") ∷ []; inputs = 0 ∷ []; outputs = 1 ∷ []; gates = []; latches = latch ∷ [] }

abbrev word_a : Word
word_a = word Fed [] (1 ∷ [])

-- in cycle 0 d is fed the bit of A
abbrev feed : CircuitFeed
feed = record { net = 0; cycle = 0; source = Bit 0 0 }

abbrev job : Circuit
job = record { k = 1; product = bit_mul; net = latch_net; words = word_a ∷ []; output = word Output (1 ∷ []) (1 ∷ []); feeds = feed ∷ []; cycles = 2 }

-- the bits of d and q: q starts with 1, has the bit of A in cycle 1, and 0 in cycle 2, since d is fed nothing in cycle 1
abbrev run_at : Bool → List (List Bool)
run_at a = (a ∷ true ∷ []) ∷ (false ∷ a ∷ []) ∷ (false ∷ false ∷ []) ∷ []

chosen_bit : (a : Bool) (d : ℕ) → AreBits (1 ∷ []) (element a) d → a ≡ (bit_at d 0 == 1)
chosen_bit true zero chosen = let e : 0 ≡ 1 = chosen.is in absurd (omega (arith, e))
chosen_bit true (suc zero) chosen = refl
chosen_bit true (suc (suc d)) chosen = absurd (omega (arith, chosen.short))
chosen_bit false zero chosen = refl
chosen_bit false (suc zero) chosen = let e : 1 ≡ 0 = chosen.is in absurd (omega (arith, e))
chosen_bit false (suc (suc d)) chosen = absurd (omega (arith, chosen.short))

-- no word is of another role than Fed
only_fed : (i : ℕ) (w : Word) (r : Role) → slice_get job.words i ≡ Some w → w.role ≡ r → Fed ≡ r
only_fed zero w r got is = let same : word_a ≡ w = cc in let P : Word → Type 0 = λ v. v.role ≡ r in subst P (sym same) is
only_fed (suc i) w r got is = absurd (cc)

below_two : (a : Bool) → element a < 2
below_two true = omega arith
below_two false = omega arith

last_element : HasElement (false ∷ false ∷ []) job.output 0
last_element = record { long = refl; sum = record { short = omega arith; is = refl } }

module _ (a : Bool) where
  abbrev xs : List ℕ
  xs = element a ∷ []

  cycle_at : (t : ℕ) (bits : List Bool) → length bits ≡ 2 → HasSource job.words xs (source_at job.feeds 0 t) (bit_of bits 0) → IsClockCycle job xs t bits
  cycle_at t bits long right = record {
    consistent = record { long = long; gates = λ g has. absurd (none_at g has) };
    inputs = λ i w x got at is. let e : Fed ≡ Input = only_fed i w Input got is in absurd (cc);
    feeds = feeds;
  }
    where
      feeds : (n : ℕ) → Has (0 ∷ []) n → HasSource job.words xs (source_at job.feeds n t) (bit_of bits n)
      feeds n (zero, got) = let same : 0 ≡ n = cc in let P : ℕ → Type 0 = λ m. HasSource job.words xs (source_at job.feeds m t) (bit_of bits m) in subst P same right
      feeds n (suc k, got) = absurd (cc)

  first_source : (w : Word) (x d : ℕ) → slice_get job.words 0 ≡ Some w → slice_get xs 0 ≡ Some x → AreBits w.basis x d → a ≡ (bit_at d 0 == 1)
  first_source w x d got at chosen =
      let same : word_a ≡ w = cc in
      let equal : element a ≡ x = cc in
      let P : Word → Type 0 = λ v. AreBits v.basis x d in
      let Q : ℕ → Type 0 = λ y. AreBits (1 ∷ []) y d in
      chosen_bit a d (subst Q (sym equal) (subst P (sym same) chosen))

  each : (t : ℕ) (bits : List Bool) → slice_get (run_at a) t ≡ Some bits → IsClockCycle job xs t bits
  each zero bits got = let same : a ∷ true ∷ [] ≡ bits = cc in let P : List Bool → Type 0 = IsClockCycle job xs 0 in subst P same (cycle_at 0 (a ∷ true ∷ []) refl first_source)
  each (suc zero) bits got = let same : false ∷ a ∷ [] ≡ bits = cc in let P : List Bool → Type 0 = IsClockCycle job xs 1 in subst P same (cycle_at 1 (false ∷ a ∷ []) refl refl)
  each (suc (suc zero)) bits got = let same : false ∷ false ∷ [] ≡ bits = cc in let P : List Bool → Type 0 = IsClockCycle job xs 2 in subst P same (cycle_at 2 (false ∷ false ∷ []) refl refl)
  each (suc (suc (suc t))) bits got = absurd (cc)

  start : (l : LatchValue) → Has job.net.latches l → IsStart l.start (bit_of (a ∷ true ∷ []) l.out)
  start l (zero, got) = let same : latch ≡ l = cc in let P : LatchValue → Type 0 = λ m. IsStart m.start (bit_of (a ∷ true ∷ []) m.out) in subst P same refl
  start l (suc k, got) = absurd (cc)

  starts : (bits : List Bool) → slice_get (run_at a) 0 ≡ Some bits → IsFirst job xs bits
  starts bits got =
      let same : a ∷ true ∷ [] ≡ bits = cc in
      let P : List Bool → Type 0 = IsFirst job xs in
      subst P same (record { states = λ i w x at one is. let e : Fed ≡ State = only_fed i w State at is in absurd (cc); latches = λ l has none. start l has })

  follows : (before bits : List Bool) → bit_of bits 1 ≡ bit_of before 0 → IsNext job before bits
  follows before bits same l (zero, got) = let is : latch ≡ l = cc in let P : LatchValue → Type 0 = λ m. bit_of bits m.out ≡ bit_of before m.next in subst P is same
  follows before bits same l (suc k, got) = absurd (cc)

  next : (t : ℕ) (before bits : List Bool) → slice_get (run_at a) t ≡ Some before → slice_get (run_at a) (suc t) ≡ Some bits → IsNext job before bits
  next zero before bits at_u at_v =
      let first : a ∷ true ∷ [] ≡ before = cc in
      let second : false ∷ a ∷ [] ≡ bits = cc in
      follows before bits (sym (ap (λ u. bit_of u 1) second) ∙ ap (λ u. bit_of u 0) first)
  next (suc zero) before bits at_u at_v =
      let first : false ∷ a ∷ [] ≡ before = cc in
      let second : false ∷ false ∷ [] ≡ bits = cc in
      follows before bits (sym (ap (λ u. bit_of u 1) second) ∙ ap (λ u. bit_of u 0) first)
  next (suc (suc t)) before bits at_u at_v = absurd (cc)

  is_run : IsRun job xs (run_at a)
  is_run = record {
    open_run = record {
      input = record { long = refl; elements = elements };
      long = refl;
      each = each;
      first = starts;
      next = λ t before bits at_u at_v. let e : t + 1 ≡ suc t = omega arith in let P : ℕ → Type 0 = λ s. slice_get (run_at a) s ≡ Some bits in next t before bits at_u (subst P e at_v);
    };
    zeros = λ t bits got n free. absurd (free.unfed (fed n free.input));
  }
    where
      elements : (x : ℕ) → Has xs x → x < 2
      elements x (zero, got) = let is : element a ≡ x = cc in let P : ℕ → Type 0 = λ y. y < 2 in subst P is (below_two a)
      elements x (suc k, got) = absurd (cc)

      fed : (n : ℕ) → Has (0 ∷ []) n → Has (0 ∷ []) n
      fed n has = has

  -- whatever A is, the output after two cycles is 0
  output_is : IsOut job xs 0
  output_is = record { run = run_at a; is_run = is_run; ends = record { last = false ∷ false ∷ []; at = refl; element = last_element } }
