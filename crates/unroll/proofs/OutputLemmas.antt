-- What the unrolled circuit computes is what the job computes.
use Rattle.std.proofs.Common.{◌≡◌, ◌∙◌, ap, sym, refl, subst, ℕ, zero, suc, ◌<◌, ◌+◌, ◌^◌, Bool, false, List, [], ◌∷◌, length, map, Some, get_or, arith}
use Rattle.std.specs.Prelude.{slice_get, ◌↔◌}
use Rattle.std.specs.List.{range_with_len}
use Rattle.std.proofs.lemmas.List.FromFn.{length-range_with_len}
use Rattle.std.proofs.lemmas.Option.{slice_get-get_or, slice_get_within}
use Rattle.lists.specs.Lists.{Has}
use Rattle.lists.specs.laws.HasLaws.{All_has}
use Rattle.lists.specs.laws.ListLaws.{length_map as map-long}
use Rattle.lists.specs.laws.ReadLaws.{from_map}
use Rattle.net_core.specs.NetList.{NetList, nets}
use Rattle.net_core.specs.Sound.{IsSound}
use Rattle.net_core.specs.Value.{index_of}
use Rattle.net_core.specs.Inside.{LatchIsInside}
use Rattle.net_core.specs.LatchValue.{LatchValue}
use Rattle.net_core.proofs.EvalLemmas.{index_agree}
use Rattle.net_words.specs.Binding.{Binding}
use Rattle.net_words.specs.BoundTo.{IsBoundTo, output_bits}
use Rattle.net_words.specs.OneCycle.{IsOneCycle}
use Rattle.net_words.specs.Rebind.{rebinding, rebound}
use Rattle.net_words.specs.Roles.{same_role}
use Rattle.net_words.specs.declared.bound.BoundWord.{BoundWord}
use Rattle.net_words.specs.declared.word.Role.{Role}
use Rattle.net_words.specs.declared.word.Role.TheVariants.{Input, State, Fed, Output}
use Rattle.net_words.proofs.FlatLemmas.{rebound_cycle}
use Rattle.gf_field.specs.Field.{HasNoZeroDivisors}
use Rattle.gf_field.specs.Ring.{IsRing}
use Rattle.gf_basis.specs.Basis.{AreBits}
use Rattle.circuit_model.specs.Circuit.{Circuit, IsInput}
use Rattle.circuit_model.specs.Job.{IsJob}
use Rattle.circuit_model.specs.JobOfBinding.{inner_number, job_words_of}
use Rattle.circuit_model.specs.OfBinding.{circuit_with, HaveBases, output_basis, words_of}
use Rattle.circuit_model.specs.Out.{Ends, IsOut}
use Rattle.circuit_model.specs.Run.{HaveElements, IsClockCycle, IsFirst, IsOpenRun, IsRun}
use Rattle.circuit_model.specs.WellFormed.{IsWellFormed}
use Rattle.circuit_model.specs.Word.{HasElement, IsInputWord, IsStateWord, Word}
use Rattle.circuit_model.proofs.BoundLemmas.{bound_well}
use Rattle.circuit_model.proofs.JobBoundLemmas.{job_well}
use Rattle.circuit_model.proofs.OutLemmas.{job_some_out, one_out, open_out}
use Rattle.unroll.specs.Nets.{all_cycles}
use Rattle.unroll.specs.Places.{net_at, cycle_nets, first_bit}
use Rattle.unroll.specs.Unrolled.{in_one_cycle, nets_with, unrolled_nets}
use Rattle.unroll.proofs.PlaceLemmas.{bit_within}
use Rattle.unroll.proofs.WordLemmas.{are_nets, moved, rebound_is, stood}
use Rattle.unroll.proofs.ClosedLemmas.{closed, moved_output}
use Rattle.unroll.proofs.FedBitLemmas.{AreDigits, index_range, some_digits}
use Rattle.unroll.proofs.RunLemmas.{all_bits, all_consistent, bit_of_fed, bit_of_first, index_at, row}
use Rattle.unroll.proofs.FromRunLemmas.{job_of, row_got, rows_of}
use Rattle.unroll.proofs.ElementLemmas.{IsWordFrom, moved_long, same_basis, same_count, word_from}

-- the circuit of the unrolled net, with these words
abbrev pub circuit_of : (ℕ → ℕ → ℕ) → NetList → Binding → List (List ℕ) → ℕ → List BoundWord → Circuit
circuit_of product net b bases c words = circuit_with b.k product (record { net = all_cycles net b c; binding = record { k = b.k; words = words; feeds = []; nets = nets (all_cycles net b c) } }) bases

module _ (product : ℕ → ℕ → ℕ) (net : NetList) (b : Binding) (bases : List (List ℕ)) (c : ℕ) (xs ds : List ℕ) (run : List (List Bool)) (sound : IsSound net) (bound : IsBoundTo net b) (based : HaveBases b.k b.words bases) (job : IsJob (job_of product net b bases c)) (is_run : IsRun (job_of product net b bases c) xs run) (digits : AreDigits (job_words_of b.words bases) xs ds) where
  -- a word on nets of the first cycle has its element
  kept_element : (w : Word) (ns : List ℕ) (basis : List ℕ) (r : Role) (x : ℕ) → w ≡ record { role = Input; nets = ns; basis = basis } → ((n : ℕ) → Has ns n → n < nets net) → HasElement (row run 0) (record { role = r; nets = ns; basis = basis }) x → HasElement (all_bits net b c run ds) w x
  kept_element w ns basis r x is low element =
      let P : Word → Type 0 = λ u. HasElement (all_bits net b c run ds) u x in
      let Q : ℕ → Type 0 = λ d. AreBits basis x d in
      let same : index_of (row run 0) ns ≡ index_of (all_bits net b c run ds) ns = sym (index_agree (all_bits net b c run ds) (row run 0) ns (λ i n got. bit_of_first net b c run ds n (low n (i, got)))) in
      subst P (sym is) (record { long = element.long; sum = subst Q same element.sum })

  -- a fed word has its element on its own bits
  fed_element : (w : Word) (number d x i : ℕ) (word : BoundWord) (basis : List ℕ) → w ≡ record { role = Input; nets = range_with_len (first_bit b.k (cycle_nets (nets net) c) b.words number) b.k; basis = basis } → slice_get b.words number ≡ Some word → word.role ≡ Fed → inner_number b.words number ≡ i → slice_get ds i ≡ Some d → length basis ≡ b.k → AreBits basis x d → HasElement (all_bits net b c run ds) w x
  fed_element w number d x i word basis is got fed place digit size chosen =
      let s : ℕ = first_bit b.k (cycle_nets (nets net) c) b.words number in
      let P : Word → Type 0 = λ u. HasElement (all_bits net b c run ds) u x in
      let Q : ℕ → Type 0 = λ e. AreBits basis x e in
      let R : ℕ → Type 0 = λ k. d < 2 ^ k in
      let S : ℕ → Type 0 = λ j. slice_get ds j ≡ Some d in
      let small : d < 2 ^ b.k = subst R size chosen.short in
      let at : slice_get ds (inner_number b.words number) ≡ Some d = subst S (sym place) digit in
      let index : index_of (all_bits net b c run ds) (range_with_len s b.k) ≡ d = index_range (all_bits net b c run ds) s b.k d small (λ p less. bit_of_fed net b c run ds number p d word got fed at less (bit_within b.k (cycle_nets (nets net) c) b.words number p word got fed less).1) in
      subst P (sym is) (record { long = size ∙ sym (length-range_with_len s b.k); sum = subst Q (sym index) chosen })

  -- each word of the unrolled circuit has its element
  all_elements : (i : ℕ) (w : Word) (x : ℕ) → IsWordFrom (nets net) c b.k (cycle_nets (nets net) c) b.words bases i w → slice_get xs i ≡ Some x → HasElement (all_bits net b c run ds) w x
  all_elements i w x from value = by from.word.role refl from.inner from.job from.is
    where
      low_input : from.word.role ≡ Input → (n : ℕ) → Has from.word.nets n → n < nets net
      low_input role n has = All_has (λ m. m < nets net) net.inputs n sound.inside.inputs (stood net b from.word n Input bound (from.number, from.got) has role)

      low_state : from.word.role ≡ State → (n : ℕ) → Has from.word.nets n → n < nets net
      low_state role n has =
          let stands = stood net b from.word n State bound (from.number, from.got) has role in
          let latch = from_map (λ (l : LatchValue). l.out) net.latches stands.0 n stands.1 in
          omega (arith, latch.2, (All_has (LatchIsInside (nets net)) net.latches latch.0 sound.inside.latches (stands.0, latch.1)).1)

      by : (r : Role) → from.word.role ≡ r → same_role r Output ≡ false → slice_get (job_words_of b.words bases) i ≡ Some (record { role = r; nets = from.word.nets; basis = from.basis }) → w ≡ record { role = Input; nets = nets_with (nets net) c b.k (first_bit b.k (cycle_nets (nets net) c) b.words from.number) r from.word.nets; basis = from.basis } → HasElement (all_bits net b c run ds) w x
      by Input role inner got is = kept_element w from.word.nets from.basis Input x is (low_input role) ((is_run.open_run.each 0 (row run 0) (row_got product net b bases c xs ds run sound bound based.long job is_run digits 0 (omega arith))).inputs i (record { role = Input; nets = from.word.nets; basis = from.basis }) x got value refl)
      by State role inner got is = kept_element w from.word.nets from.basis State x is (low_state role) ((is_run.open_run.first (row run 0) (row_got product net b bases c xs ds run sound bound based.long job is_run digits 0 (omega arith))).states i (record { role = State; nets = from.word.nets; basis = from.basis }) x got value refl)
      by Fed role inner got is =
          let d : ℕ = get_or ds i 0 in
          let digit : slice_get ds i ≡ Some d = slice_get-get_or ds i 0 (omega (arith, digits.long, slice_get_within xs i x value)) in
          let fed : Word = record { role = Fed; nets = from.word.nets; basis = from.basis } in
          fed_element w from.number d x i from.word from.basis is from.got role from.place digit (job.words fed (i, got)).basis.size (digits.each i fed x d got value digit)
      by Output role inner got is = absurd (cc)

  -- the bits of all cycles are a run of the unrolled circuit
  all_run : IsOpenRun (circuit_of product net b bases c (moved (nets net) c b.k (cycle_nets (nets net) c) b.words)) xs (all_bits net b c run ds ∷ [])
  all_run = record {
    input = record {
      long = is_run.open_run.input.long ∙ sym (same_count (nets net) c b.k (cycle_nets (nets net) c) b.words bases);
      elements = is_run.open_run.input.elements;
    };
    long = refl;
    each = λ t bits got. cycle t bits got;
    first = λ bits got. start bits got;
    next = λ t before bits got later. absurd (none t later);
  }
    where
      one : Circuit
      one = circuit_of product net b bases c (moved (nets net) c b.k (cycle_nets (nets net) c) b.words)

      none : (t : ℕ) {bits : List Bool} → slice_get (all_bits net b c run ds ∷ []) (t + 1) ≡ Some bits → ⊥
      none t got = let same : t + 1 ≡ suc t = omega arith in absurd (cc)

      words_have : (P : Word → Type 0) → HaveElements one P xs (all_bits net b c run ds)
      words_have P i w x got value is = all_elements i w x (word_from (nets net) c b.k (cycle_nets (nets net) c) b.words bases i w got) value

      cycle : (t : ℕ) (bits : List Bool) → slice_get (all_bits net b c run ds ∷ []) t ≡ Some bits → IsClockCycle one xs t bits
      cycle zero bits got =
          let same : all_bits net b c run ds ≡ bits = cc in
          let P : List Bool → Type 0 = λ v. IsClockCycle one xs 0 v in
          subst P same (record {
            consistent = all_consistent net b c run ds sound bound (rows_of product net b bases c xs ds run sound bound based.long job is_run digits);
            inputs = words_have IsInputWord;
            feeds = λ n fed. let got = fed.1 in absurd (cc);
          })
      cycle (suc t) bits got = absurd (cc)

      start : (bits : List Bool) → slice_get (all_bits net b c run ds ∷ []) 0 ≡ Some bits → IsFirst one xs bits
      start bits got =
          let same : all_bits net b c run ds ≡ bits = cc in
          let P : List Bool → Type 0 = λ v. IsFirst one xs v in
          subst P same (record {
            states = words_have IsStateWord;
            latches = λ l has free. let got = has.1 in absurd (cc);
          })

  -- it ends with the element with which the run ends
  all_ends : (e : ℕ) → Ends (job_of product net b bases c) run e → Ends (circuit_of product net b bases c (moved (nets net) c b.k (cycle_nets (nets net) c) b.words)) (all_bits net b c run ds ∷ []) e
  all_ends e ends =
      let v : ℕ = nets net in
      let base : ℕ = cycle_nets v c in
      let words : List BoundWord = moved v c b.k base b.words in
      let got = row_got product net b bases c xs ds run sound bound based.long job is_run digits c (omega arith) in
      let last : ends.last ≡ row run c = let at = ends.at in cc in
      let basis : List ℕ = output_basis b.words bases in
      let P : List Bool → Type 0 = λ bits. HasElement bits (job_of product net b bases c).output e in
      let element : HasElement (row run c) (job_of product net b bases c).output e = subst P last ends.element in
      let low : (n : ℕ) → Has (output_bits b.words) n → n < nets net = λ n has. job.output_nets n has in
      let index : index_of (all_bits net b c run ds) (map (net_at v c) (output_bits b.words)) ≡ index_of (row run c) (output_bits b.words) = index_at net b c run ds c (output_bits b.words) (omega arith) low in
      let Q : ℕ → Type 0 = λ d. AreBits basis e d in
      let R : List ℕ → List ℕ → Type 0 = λ ns bs. HasElement (all_bits net b c run ds) (record { role = Output; nets = ns; basis = bs }) e in
      let here : R (map (net_at v c) (output_bits b.words)) basis = record { long = element.long ∙ sym (map-long (net_at v c) (output_bits b.words)); sum = subst Q (sym index) element.sum } in
      let S : List ℕ → Type 0 = λ ns. R ns basis in
      let T : List ℕ → Type 0 = λ bs. R (output_bits words) bs in
      record {
        last = all_bits net b c run ds;
        at = refl;
        element = subst T (sym (same_basis v c b.k base b.words bases)) (subst S (sym (moved_output v c b.k base b.words)) here);
      }

module _ (product : ℕ → ℕ → ℕ) (net : NetList) (b : Binding) (bases : List (List ℕ)) (c : ℕ) (ring : IsRing b.k product) (no_zero_divisors : HasNoZeroDivisors b.k product) (sound : IsSound net) (bound : IsBoundTo net b) (based : HaveBases b.k b.words bases) (whole : IsSound (all_cycles net b c)) where
  -- the words of the unrolled net
  same_words : rebound b.k b.words (unrolled_nets net b c) ≡ moved (nets net) c b.k (cycle_nets (nets net) c) b.words
  same_words = rebound_is (nets net) c b.k (cycle_nets (nets net) c) b.words bound.parts.each

  cycle : IsOneCycle (all_cycles net b c) (rebinding (all_cycles net b c) b (unrolled_nets net b c))
  cycle = rebound_cycle (all_cycles net b c) b (unrolled_nets net b c) bound.parts (are_nets net b c sound bound) (closed net b c sound bound)

  have : HaveBases b.k (rebound b.k b.words (unrolled_nets net b c)) bases
  have = record {
    long = based.long ∙ (sym (moved_long (nets net) c b.k (cycle_nets (nets net) c) b.words) ∙ ap (λ (ws : List BoundWord). length ws) (sym same_words));
    each = based.each;
  }

  well : IsWellFormed (circuit_of product net b bases c (rebound b.k b.words (unrolled_nets net b c)))
  well = bound_well b.k product (in_one_cycle net b c) bases cycle refl have ring no_zero_divisors whole

  well_moved : IsWellFormed (circuit_of product net b bases c (moved (nets net) c b.k (cycle_nets (nets net) c) b.words))
  well_moved = let P : List BoundWord → Type 0 = λ ws. IsWellFormed (circuit_of product net b bases c ws) in subst P same_words well

  is_job : IsJob (job_of product net b bases c)
  is_job = job_well b.k product (record { net = net; binding = b }) bases c bound refl based sound ring no_zero_divisors

  forth : (xs : List ℕ) (e : ℕ) → IsOut (job_of product net b bases c) xs e → IsOut (circuit_of product net b bases c (rebound b.k b.words (unrolled_nets net b c))) xs e
  forth xs e out =
      let input = out.is_run.open_run.input in
      let digits = some_digits b.k (job_words_of b.words bases) xs input.long (λ w has. (is_job.words w has).basis) input.elements in
      let words : List BoundWord = moved (nets net) c b.k (cycle_nets (nets net) c) b.words in
      let run = all_run product net b bases c xs digits.0 out.run sound bound based is_job out.is_run digits.1 in
      let ends = all_ends product net b bases c xs digits.0 out.run sound bound based is_job out.is_run digits.1 e out.ends in
      let P : List BoundWord → Type 0 = λ ws. IsOut (circuit_of product net b bases c ws) xs e in
      subst P (sym same_words) ((open_out (circuit_of product net b bases c words) xs (all_bits net b c out.run digits.0 ∷ []) e well_moved run).0 ends)

  back : (xs : List ℕ) (e : ℕ) → IsOut (circuit_of product net b bases c (rebound b.k b.words (unrolled_nets net b c))) xs e → IsOut (job_of product net b bases c) xs e
  back xs e out =
      let P : List BoundWord → Type 0 = λ ws. length xs ≡ length (words_of ws bases) in
      let long : length xs ≡ length (words_of (moved (nets net) c b.k (cycle_nets (nets net) c) b.words) bases) = subst P same_words out.is_run.open_run.input.long in
      let input : IsInput (job_of product net b bases c) xs = record { long = long ∙ same_count (nets net) c b.k (cycle_nets (nets net) c) b.words bases; elements = out.is_run.open_run.input.elements } in
      let found = job_some_out (job_of product net b bases c) xs is_job input in
      let same : found.0 ≡ e = one_out (circuit_of product net b bases c (rebound b.k b.words (unrolled_nets net b c))) xs found.0 e well (forth xs found.0 found.1) out in
      let Q : ℕ → Type 0 = λ x. IsOut (job_of product net b bases c) xs x in
      subst Q same found.1

  -- the unrolled circuit has the output of the job
  pub cycles_output : (xs : List ℕ) (e : ℕ) → IsOut (circuit_with b.k product (in_one_cycle net b c) bases) xs e ↔ IsOut (job_of product net b bases c) xs e
  cycles_output xs e = (back xs e, forth xs e)
