-- The bits that the plain program finds cycle by cycle are a run of the job, and where the job is one it finds them.
use Rattle.std.proofs.Common.{◌≡◌, ◌⊎◌, ◌∙◌, ap, sym, refl, subst, inl, inr, ℕ, zero, suc, ◌<◌, ◌+◌, ◌^◌, Bool, true, false, List, [], ◌∷◌, ◌++◌, length, map, Some, arith}
use Rattle.std.specs.Prelude.{slice_get, ◌==◌}
use Rattle.std.specs.Int.{bit_at}
use Rattle.std.proofs.lemmas.List.{length-map}
use Rattle.lists.specs.Lists.{Has}
use Rattle.lists.specs.laws.ListLaws.{length-push}
use Rattle.lists.specs.laws.ReadLaws.{got_push, get_here, from_map}
use Rattle.lists.specs.laws.TestLaws.{same_bit}
use Rattle.net_core.specs.NetList.{NetList}
use Rattle.net_core.specs.LatchValue.{LatchValue}
use Rattle.net_core.specs.Value.{bit_of, IsConsistent}
use Rattle.net_words.specs.BoundTo.{StandsOn}
use Rattle.net_words.specs.declared.word.Role.{Role}
use Rattle.gf_basis.specs.Basis.{AreBits, HasOnlyBits}
use Rattle.gf_basis.specs.BasisParts.{elements_of}
use Rattle.circuit_model.specs.declared.circuit_feed.CircuitFeed.{CircuitFeed}
use Rattle.circuit_model.specs.declared.circuit_feed.FeedSource.{FeedSource}
use Rattle.circuit_model.specs.declared.circuit_word.CircuitWord.{CircuitWord}
use Rattle.circuit_model.specs.Word.{Word, HasElement}
use Rattle.circuit_model.specs.Circuit.{Circuit, IsInput}
use Rattle.circuit_model.specs.Job.{IsJob, IsJobWord, net_count}
use Rattle.circuit_model.specs.Run.{HaveElements, HasSource, IsInputWord, IsStateWord, IsClockCycle, IsFirst, IsNext, HasZeros}
use Rattle.circuit_model.specs.Out.{IsOut}
use Rattle.circuit_model.specs.Flat.{word_of}
use Rattle.plain_runs.specs.JobOfParts.{job_of_parts}
use Rattle.circuit_model.specs.private.Found.{IsBitIn}
use Rattle.plain_runs.specs.private.Cycle.{HaveInputs, HaveStarts, HaveNexts, HaveAsked, IsAsked, AreFed, AreOnlyFed, IsReached}
use Rattle.circuit_model.proofs.BitLemmas.{mapped, index_is}
use Rattle.circuit_model.proofs.FeedLemmas.{same_source, source_none, source_of_fed}
use Rattle.circuit_model.proofs.SourceLemmas.{latch_outs}

module _ (k : ℕ) (product : ℕ → ℕ → ℕ) (net : NetList) (words : List CircuitWord) (output : CircuitWord) (feeds : List CircuitFeed) (xs : List ℕ) where
  abbrev job : ℕ → Circuit
  job = job_of_parts k product net words output feeds

  -- what is said of one number of cycles holds of another
  input_to : (s t : ℕ) → IsInput (job s) xs → IsInput (job t) xs
  input_to s t is = record { long = is.long; elements = is.elements }

  cycle_to : (s t q : ℕ) (bits : List Bool) → IsClockCycle (job s) xs q bits → IsClockCycle (job t) xs q bits
  cycle_to s t q bits is = record { consistent = is.consistent; inputs = is.inputs; feeds = is.feeds }

  first_to : (s t : ℕ) (bits : List Bool) → IsFirst (job s) xs bits → IsFirst (job t) xs bits
  first_to s t bits is = record { states = is.states; latches = is.latches }

  zeros_to : (s t : ℕ) (bits : List Bool) → HasZeros (job s) bits → HasZeros (job t) bits
  zeros_to s t bits is n free = is n (record { input = free.input; unnamed = free.unnamed; unfed = free.unfed })

  -- words of the role that is asked for have their elements
  asked : (states : Bool) (P : Word → Type 0) (bits : List Bool) → ((w : CircuitWord) → P (word_of w) → IsAsked states w.role) → HaveAsked states words xs bits → (t : ℕ) → HaveElements (job t) P xs bits
  asked states P bits fits have t i w x got at p =
      let found = from_map word_of words i w got in
      let Q : Word → Type 0 = λ v. HasElement bits v x in
      subst Q found.2 (have i found.0 x found.1 at (fits found.0 (subst P (sym found.2) p)))

  cycle_is : (t q : ℕ) (bits : List Bool) → IsConsistent net bits → HaveAsked false words xs bits → AreFed words xs feeds q bits → IsClockCycle (job t) xs q bits
  cycle_is t q bits consistent have fed = record { consistent = consistent; inputs = asked false IsInputWord bits (λ w is. is) have t; feeds = fed }

  zeros_are : (t q : ℕ) (bits : List Bool) → HaveInputs words xs feeds q net.inputs bits → HasZeros (job t) bits
  zeros_are t q bits have n free =
      let P : FeedSource → Type 0 = λ s. HasSource (map word_of words) xs s (bit_of bits n) in
      subst P (source_none feeds n q free.unfed) ((have n free.input).fed free.unnamed)

  first_is : (t : ℕ) (bits : List Bool) → HaveAsked true words xs bits → HaveStarts words xs net.latches bits → IsFirst (job t) xs bits
  first_is t bits have starts = record { states = asked true IsStateWord bits (λ w is. is) have t; latches = λ l has none. (starts l has).start none }

  one_at : (bits : List Bool) (P : ℕ → List Bool → Type 0) → P 0 bits → (t : ℕ) (b : List Bool) → slice_get (bits ∷ []) t ≡ Some b → P t b
  one_at bits P p zero b got = let same : bits ≡ b = cc in subst (P 0) same p
  one_at bits P p (suc t) b got = absurd (cc)

  no_next : (bits : List Bool) (t : ℕ) (b : List Bool) → slice_get (bits ∷ []) (t + 1) ≡ Some b → ⊥
  no_next bits t b got =
      let e : t + 1 ≡ suc t = omega arith in
      let P : ℕ → Type 0 = λ s. slice_get (bits ∷ []) s ≡ Some b in
      none t (subst P e got)
    where
      none : (t : ℕ) → slice_get (bits ∷ []) (suc t) ≡ Some b → ⊥
      none t got = cc

  -- the first cycle
  pub first_reached : (bits : List Bool) → length xs ≡ length words → ((x : ℕ) → Has xs x → x < 2 ^ k) → IsConsistent net bits → HaveInputs words xs feeds 0 net.inputs bits → HaveStarts words xs net.latches bits → HaveAsked false words xs bits → HaveAsked true words xs bits → AreFed words xs feeds 0 bits → IsReached job xs 0 bits
  first_reached bits long elements consistent inputs starts have states fed = record {
    run = bits ∷ [];
    is_run = record {
      open_run = record {
        input = record { long = long ∙ sym (length-map words word_of); elements = elements };
        long = refl;
        each = one_at bits (λ t b. IsClockCycle (job 0) xs t b) (cycle_is 0 0 bits consistent have fed);
        first = λ b got. one_at bits (λ t v. IsFirst (job 0) xs v) (first_is 0 bits states starts) 0 b got;
        next = λ t u b at_u at_b. absurd (no_next bits t b at_b);
      };
      zeros = one_at bits (λ t b. HasZeros (job 0) b) (zeros_are 0 0 bits inputs);
    };
    at = refl;
  }

  -- one more cycle
  module _ (t : ℕ) (before bits : List Bool) (is : IsReached job xs t before) (cycle : IsClockCycle (job (t + 1)) xs (t + 1) bits) (zeros : HasZeros (job (t + 1)) bits) (next : IsNext (job t) before bits) where
    IsFine : ℕ → List Bool → Type 0
    IsFine s u = IsClockCycle (job (t + 1)) xs s u × HasZeros (job (t + 1)) u

    long : length is.run ≡ t + 1
    long = is.is_run.open_run.long

    fine : (s : ℕ) (u : List Bool) → slice_get (is.run ++ bits ∷ []) s ≡ Some u → IsFine s u
    unfolding IsFine
    fine s u got = by (got_push is.run bits s u got)
      where
        by : ((slice_get is.run s ≡ Some u) × (s < length is.run)) ⊎ ((s ≡ length is.run) × (u ≡ bits)) → IsClockCycle (job (t + 1)) xs s u × HasZeros (job (t + 1)) u
        by (inl old) = (cycle_to t (t + 1) s u (is.is_run.open_run.each s u old.0), zeros_to t (t + 1) u (is.is_run.zeros s u old.0))
        by (inr new) =
            let P : ℕ → Type 0 = λ q. IsClockCycle (job (t + 1)) xs q bits in
            let Q : List Bool → Type 0 = λ v. IsClockCycle (job (t + 1)) xs s v × HasZeros (job (t + 1)) v in
            subst Q (sym new.1) (subst P (sym (new.0 ∙ long)) cycle, zeros)

    first_fine : (u : List Bool) → slice_get (is.run ++ bits ∷ []) 0 ≡ Some u → IsFirst (job (t + 1)) xs u
    first_fine u got = by (got_push is.run bits 0 u got)
      where
        by : ((slice_get is.run 0 ≡ Some u) × (0 < length is.run)) ⊎ ((0 ≡ length is.run) × (u ≡ bits)) → IsFirst (job (t + 1)) xs u
        by (inl old) = first_to t (t + 1) u (is.is_run.open_run.first u old.0)
        by (inr new) = let none : 0 ≡ t + 1 = new.0 ∙ long in absurd (omega (arith, none))

    next_fine : (s : ℕ) (u v : List Bool) → slice_get (is.run ++ bits ∷ []) s ≡ Some u → slice_get (is.run ++ bits ∷ []) (s + 1) ≡ Some v → IsNext (job (t + 1)) u v
    next_fine s u v at_u at_v = by (got_push is.run bits s u at_u) (got_push is.run bits (s + 1) v at_v)
      where
        by : ((slice_get is.run s ≡ Some u) × (s < length is.run)) ⊎ ((s ≡ length is.run) × (u ≡ bits)) → ((slice_get is.run (s + 1) ≡ Some v) × (s + 1 < length is.run)) ⊎ ((s + 1 ≡ length is.run) × (v ≡ bits)) → IsNext (job (t + 1)) u v
        by (inl old) (inl later) = is.is_run.open_run.next s u v old.0 later.0
        by (inl old) (inr new) =
            let s_is : s ≡ t = omega (arith, new.0, long) in
            let last : slice_get is.run s ≡ Some before = ap (slice_get is.run) s_is ∙ is.at in
            let here : slice_get is.run s ≡ Some u = old.0 in
            let same : before ≡ u = cc in
            let P : List Bool → Type 0 = λ a. IsNext (job t) a v in
            let Q : List Bool → Type 0 = λ b. IsNext (job t) before b in
            subst P same (subst Q (sym new.1) next)
        by (inr new) (inl later) = absurd (omega (arith, new.0, later.1))
        by (inr new) (inr other) = absurd (omega (arith, new.0, other.0))

    more : IsReached job xs (t + 1) bits
    unfolding IsFine
    more = record {
      run = is.run ++ bits ∷ [];
      is_run = record {
        open_run = record {
          input = input_to t (t + 1) is.is_run.open_run.input;
          long = length-push is.run bits ∙ ap (λ n. n + 1) long;
          each = λ s u got. (fine s u got).0;
          first = first_fine;
          next = next_fine;
        };
        zeros = λ s u got. (fine s u got).1;
      };
      at = ap (slice_get (is.run ++ bits ∷ [])) (sym long) ∙ get_here is.run bits [];
    }

  pub next_reached : (t : ℕ) (before bits : List Bool) → IsReached job xs t before → IsConsistent net bits → HaveInputs words xs feeds (t + 1) net.inputs bits → HaveNexts net.latches before bits → HaveAsked false words xs bits → AreFed words xs feeds (t + 1) bits → IsReached job xs (t + 1) bits
  next_reached t before bits is consistent inputs nexts have fed = more t before bits is (cycle_is (t + 1) (t + 1) bits consistent have fed) (zeros_are (t + 1) (t + 1) bits inputs) nexts

  pub reached_out : (t : ℕ) (bits : List Bool) (e : ℕ) → IsReached job xs t bits → HasElement bits (word_of output) e → IsOut (job t) xs e
  reached_out t bits e is element = record { run = is.run; is_run = is.is_run; ends = record { last = bits; at = is.at; element = element } }

  module _ (well : IsJob (job 0)) (elements : (x : ℕ) → Has xs x → x < 2 ^ k) (q : ℕ) (bits : List Bool) (inputs : HaveInputs words xs feeds q net.inputs bits) where
    -- a word with a net for each bit has its element where each of its nets has its bit
    word_has : (i : ℕ) (w : CircuitWord) (x : ℕ) → slice_get words i ≡ Some w → slice_get xs i ≡ Some x → net_count k w.role ≡ k → ((n : ℕ) → Has w.nets.items n → IsBitIn words xs n (bit_of bits n)) → HasElement bits (word_of w) x
    word_has i w x got at all each = record { long = size; sum = subst P (sym (index_is bits w.nets.items only.choice short bit)) only.chosen }
      where
        is : IsJobWord k (word_of w)
        is = well.words (word_of w) (i, mapped words i w got)

        only : HasOnlyBits (elements_of w.basis) x
        only = is.basis.sums x (elements x (i, at))

        size : length (elements_of w.basis) ≡ length w.nets.items
        size = is.basis.size ∙ (sym all ∙ sym is.nets)

        short : only.choice < 2 ^ length w.nets.items
        short = let Q : ℕ → Type 0 = λ m. only.choice < 2 ^ m in subst Q size only.chosen.short

        P : ℕ → Type 0
        P d = AreBits (elements_of w.basis) x d

        bit : (place n : ℕ) → slice_get w.nets.items place ≡ Some n → bit_of bits n ≡ (bit_at only.choice place == 1)
        bit place n in_w =
            let found = each n (place, in_w) i place w x got at in_w in
            same_bit (bit_of bits n) (bit_of bits n) found.0 only.choice place refl found.2 (only.only found.0 found.1)

    pub inputs_all : HaveAsked false words xs bits
    inputs_all i w x got at role = word_has i w x got at (ap (net_count k) role) (λ n has.
        let P : Role → Type 0 = λ r. StandsOn net r n in
        let input : Has net.inputs n = subst P role (well.places (word_of w) n (i, mapped words i w got) has) in
        (inputs n input).named (well.once n))

    pub states_all : HaveStarts words xs net.latches bits → HaveAsked true words xs bits
    states_all starts i w x got at role = word_has i w x got at (ap (net_count k) role) (λ n has.
        let P : Role → Type 0 = λ r. StandsOn net r n in
        let latch : Has (latch_outs net) n = subst P role (well.places (word_of w) n (i, mapped words i w got) has) in
        let l = from_map (λ (m : LatchValue). m.out) net.latches latch.0 n latch.1 in
        let Q : ℕ → Type 0 = λ m. IsBitIn words xs m (bit_of bits m) in
        subst Q l.2 ((starts l.0 (latch.0, l.1)).named (well.once l.0.out)))

    pub only_fed : length xs ≡ length words → AreOnlyFed words xs feeds q bits
    only_fed long n b fed has =
        let input : IsInput (job 0) xs = record { long = long ∙ sym (length-map words word_of); elements = elements } in
        let at = source_of_fed (job 0) well n fed in
        same_source (job 0) well xs input n q (bit_of bits n) b ((inputs n at.0).fed at.1) has
