-- What a run of a job says of the bits of all cycles.
use Rattle.std.proofs.Common.{◌≡◌, ◌≢◌, ◌∙◌, ap, sym, refl, subst, inl, inr, ℕ, zero, suc, ◌≤◌, ◌+◌, ◌&&◌, Bool, true, false, List, [], ◌∷◌, length, map, Some, get_or, cond, arith, eq-eqb}
use Rattle.std.specs.Prelude.{slice_get, ◌==◌}
use Rattle.std.proofs.lemmas.Option.{slice_get-get_or}
use Rattle.std.proofs.lemmas.Option.{slice_get_within}
use Rattle.lists.specs.Lists.{Has}
use Rattle.lists.specs.laws.HasLaws.{Has_map, any_has}
use Rattle.lists.specs.laws.ReadLaws.{from_map}
use Rattle.net_core.specs.LatchValue.{LatchValue}
use Rattle.net_core.specs.NetList.{NetList}
use Rattle.net_core.specs.Sound.{IsSound}
use Rattle.net_core.specs.Value.{bit_of}
use Rattle.net_core.specs.declared.latch.Start.{Start}
use Rattle.net_core.specs.declared.latch.Start.TheVariants as starts
use Rattle.net_words.specs.Binding.{Binding}
use Rattle.net_words.specs.BoundTo.{IsBoundTo}
use Rattle.net_words.specs.Feeds.{is_fed, fed_nets as bound_fed_nets}
use Rattle.net_words.specs.Roles.{same_role}
use Rattle.net_words.specs.Variables.{bits}
use Rattle.net_words.specs.declared.bound.BoundWord.{BoundWord}
use Rattle.net_words.specs.declared.feed.Feed.{Feed}
use Rattle.net_words.specs.declared.feed.Source.{Source}
use Rattle.net_words.specs.declared.feed.Source.TheVariants.{Zero, One, Bit}
use Rattle.net_words.specs.declared.word.Role.TheVariants.{Input, State, Output}
use Rattle.net_words.proofs.FeedLemmas.{fed_has}
use Rattle.net_words.proofs.MemberLemmas.{bits_word}
use Rattle.circuit_model.specs.declared.circuit_feed.FeedSource.{FeedSource}
use Rattle.circuit_model.specs.Circuit.{Circuit, IsFree, IsInNoWord}
use Rattle.circuit_model.specs.Feeds.{fed_nets, source_at as job_source_at}
use Rattle.circuit_model.specs.Job.{IsJob, IsSource as IsJobSource}
use Rattle.circuit_model.specs.JobOfBinding.{inner_number, inner_source, job_feed, job_with, job_words_of}
use Rattle.circuit_model.specs.Run.{HasSource, IsRun, IsStart}
use Rattle.circuit_model.proofs.FeedLemmas.{source_fits}
use Rattle.circuit_model.proofs.GivenLemmas.{has_or}
use Rattle.circuit_model.proofs.JobBoundLemmas.{job_nets_of}
use Rattle.circuit_model.proofs.SourceLemmas.{element_at, find_word, role_input, role_state}
use Rattle.circuit_model.proofs.WordLemmas.{same_bits}
use Rattle.unroll.specs.Gates.{is_held, start_bit}
use Rattle.unroll.specs.Sources.{source_at}
use Rattle.unroll.proofs.FedBitLemmas.{AreDigits}
use Rattle.unroll.proofs.RunLemmas.{AreRows, HasSourceBit, row}
use Rattle.unroll.proofs.WordLemmas.{in_some}

-- the job that is unrolled
abbrev pub job_of : (ℕ → ℕ → ℕ) → NetList → Binding → List (List ℕ) → ℕ → Circuit
job_of product net b bases c = job_with b.k product (record { net = net; binding = b }) bases c

-- the source of a net in a cycle
pub same_source : (words : List BoundWord) (feeds : List Feed) (n t : ℕ) → job_source_at (map (job_feed words) feeds) n t ≡ inner_source words (source_at feeds n t)
same_source words [] n t = refl
same_source words (feed ∷ feeds) n t = by (feed.net == n && feed.cycle == t) (same_source words feeds n t)
  where
    by : (r : Bool) → job_source_at (map (job_feed words) feeds) n t ≡ inner_source words (source_at feeds n t) → cond r (inner_source words feed.source) (job_source_at (map (job_feed words) feeds) n t) ≡ inner_source words (cond r feed.source (source_at feeds n t))
    by true rest = refl
    by false rest = rest

-- a net is fed in the job where it is fed
fed_up : (words : List BoundWord) (feeds : List Feed) (n : ℕ) → Has (bound_fed_nets feeds) n → Has (fed_nets (map (job_feed words) feeds)) n
fed_up words [] n has = has
fed_up words (feed ∷ feeds) n (zero, got) = (0, got)
fed_up words (feed ∷ feeds) n (suc i, got) = let rest = fed_up words feeds n (i, got) in (suc rest.0, rest.1)

fed_down : (words : List BoundWord) (feeds : List Feed) (n : ℕ) → Has (fed_nets (map (job_feed words) feeds)) n → Has (bound_fed_nets feeds) n
fed_down words [] n has = has
fed_down words (feed ∷ feeds) n (zero, got) = (0, got)
fed_down words (feed ∷ feeds) n (suc i, got) = let rest = fed_down words feeds n (i, got) in (suc rest.0, rest.1)

pub has_fed : (feeds : List Feed) (n : ℕ) → Has (bound_fed_nets feeds) n → is_fed feeds n ≡ true
has_fed feeds n fed =
    let from = from_map (λ (f : Feed). f.net) feeds fed.0 n fed.1 in
    any_has (λ (f : Feed). f.net == n) feeds from.0 (fed.0, from.1) (eq-eqb from.0.net n from.2)

module _ (product : ℕ → ℕ → ℕ) (net : NetList) (b : Binding) (bases : List (List ℕ)) (c : ℕ) (xs ds : List ℕ) (run : List (List Bool)) (sound : IsSound net) (bound : IsBoundTo net b) (long : length bases ≡ length b.words) (job : IsJob (job_of product net b bases c)) (is_run : IsRun (job_of product net b bases c) xs run) (digits : AreDigits (job_words_of b.words bases) xs ds) where
  pub row_got : (t : ℕ) → t ≤ c → slice_get run t ≡ Some (row run t)
  row_got t within = slice_get-get_or run t [] (omega (arith, is_run.open_run.long, within))

  -- a net in no word of the binding is in no word of the job
  unnamed : (n : ℕ) → (Has (bits b.words) n → ⊥) → IsInNoWord (job_of product net b bases c) n
  unnamed n none has = let P : List ℕ → Type 0 = λ ns. Has ns n in none (subst P (job_nets_of b.words bases long) has)

  kept : (t n : ℕ) → t ≤ c → Has net.inputs n → is_fed b.feeds n ≡ false → bit_of (row run t) n ≡ bit_of (row run 0) n
  kept t n within input unfed =
      elim (has_or (bits b.words) n) [
        | inl in_bits ↦
            let P : List ℕ → Type 0 = λ ns. Has ns n in
            let found = find_word (job_words_of b.words bases) n (subst P (sym (job_nets_of b.words bases long)) in_bits) in
            let in_job : Has (job_words_of b.words bases) found.1 = (found.0, found.2) in
            let role : found.1.role ≡ Input = role_input net found.1.role n sound (job.inner found.1 in_job) (job.places found.1 n in_job found.3) input in
            let x = element_at (job_of product net b bases c) xs is_run.open_run.input found.0 found.1 found.2 in
            same_bits b.k found.1 x.0 (row run t) (row run 0) (job.words found.1 in_job).basis (is_run.open_run.input.elements x.0 (found.0, x.1))
            ((is_run.open_run.each t (row run t) (row_got t within)).inputs found.0 found.1 x.0 found.2 x.1 role)
            ((is_run.open_run.each 0 (row run 0) (row_got 0 (omega arith))).inputs found.0 found.1 x.0 found.2 x.1 role) n found.3
        | inr none ↦
            let free : IsFree (job_of product net b bases c) n = record { input = input; unnamed = unnamed n none; unfed = λ fed. let hit : is_fed b.feeds n ≡ true = has_fed b.feeds n (fed_down b.words b.feeds n fed) in absurd (cc) } in
            is_run.zeros t (row run t) (row_got t within) n free ∙ sym (is_run.zeros 0 (row run 0) (row_got 0 (omega arith)) n free)
      ]

  -- the bit of a source, by the numbers of the words
  source_has : (source : Source) (bit : Bool) → IsJobSource b.k (job_words_of b.words bases) (inner_source b.words source) → HasSource (job_words_of b.words bases) xs (inner_source b.words source) bit → HasSourceBit b.words ds source bit
  source_has Zero bit is has = has
  source_has One bit is has = has
  source_has (Bit w place) bit is has =
      let i : ℕ = inner_number b.words w in
      let x = element_at (job_of product net b bases c) xs is_run.open_run.input i is.1.0 is.1.1 in
      let d : ℕ = get_or ds i 0 in
      let got : slice_get ds i ≡ Some d = slice_get-get_or ds i 0 (omega (arith, digits.long, slice_get_within xs i x.0 x.1)) in
      (d, got, has is.1.0 x.0 d is.1.1 x.1 (digits.each i is.1.0 x.0 d is.1.1 x.1 got))

  fed : (t n : ℕ) → t ≤ c → Has net.inputs n → is_fed b.feeds n ≡ true → HasSourceBit b.words ds (source_at b.feeds n t) (bit_of (row run t) n)
  fed t n within input is =
      let same = same_source b.words b.feeds n t in
      let P : FeedSource → Type 0 = λ s. HasSource (job_words_of b.words bases) xs s (bit_of (row run t) n) in
      let Q : FeedSource → Type 0 = λ s. IsJobSource b.k (job_words_of b.words bases) s in
      source_has (source_at b.feeds n t) (bit_of (row run t) n)
      (subst Q same (source_fits (job_of product net b bases c) job n t))
      (subst P same ((is_run.open_run.each t (row run t) (row_got t within)).feeds n (fed_up b.words b.feeds n (fed_has b.feeds n is))))

  -- a latch's net in a word is in a state word
  latch_held : (l : LatchValue) → Has net.latches l → Has (bits b.words) l.out → is_held b l ≡ true
  latch_held l has in_bits =
      let found = bits_word b.words l.out in_bits in
      let inner : found.0.role ≢ Output = λ is. let other : same_role Output Output ≡ false = ap (λ r. same_role r Output) (sym is) ∙ found.3 in absurd (cc) in
      let role : found.0.role ≡ State = role_state net found.0.role l.out sound inner (bound.places found.0 l.out found.1 found.2) (Has_map (λ (k : LatchValue). k.out) net.latches l has) in
      in_some b.words found.0 l.out State found.1 found.2 role

  started : (l : LatchValue) → Has net.latches l → is_held b l ≡ false → bit_of (row run 0) l.out ≡ (start_bit l.start == 1)
  started l has free =
      let none : Has (bits b.words) l.out → ⊥ = λ in_bits. let held : is_held b l ≡ true = latch_held l has in_bits in absurd (cc) in
      by l.start (bound.starts l has none) ((is_run.open_run.first (row run 0) (row_got 0 (omega arith))).latches l has (unnamed l.out none))
    where
      by : (start : Start) → start ≢ starts.Unknown → IsStart start (bit_of (row run 0) l.out) → bit_of (row run 0) l.out ≡ (start_bit start == 1)
      by starts.Zero known is = is
      by starts.One known is = is
      by starts.Unknown known is = absurd (known refl)

  -- the rows of a run
  pub rows_of : AreRows net b c run ds
  rows_of = record {
    consistent = λ t within. (is_run.open_run.each t (row run t) (row_got t within)).consistent;
    kept = kept;
    fed = fed;
    next = λ t l less has. is_run.open_run.next t (row run t) (row run (t + 1)) (row_got t (omega (arith, less))) (row_got (t + 1) (omega (arith, less))) l has;
    started = started;
  }
