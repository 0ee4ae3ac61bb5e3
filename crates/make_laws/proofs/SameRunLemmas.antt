-- A run over one net list gives a run over the other.
use Rattle.std.proofs.Common.{◌≡◌, ◌∙◌, ap, sym, refl, subst, ℕ, zero, suc, ◌+◌, ◌*◌, ◌<◌, ◌==◌, ◌&&◌, Bool, false, List, [], ◌∷◌, ◌++◌, length, map, Option, Some, if◌then◌else◌, inl, inr, arith}
use Rattle.std.specs.Prelude.{slice_get, unwrap_or}
use Rattle.std.specs.Int.{bit_at}
use Rattle.std.specs.Option.{option_map}
use Rattle.std.proofs.lemmas.List.{length-map}
use Rattle.std.proofs.lemmas.Option.{slice_get-map}
use Rattle.lists.specs.Lists.{Has}
use Rattle.lists.specs.laws.HasLaws.{All_has, Has_cases, Has_map}
use Rattle.lists.specs.laws.ReadLaws.{from_map}
use Rattle.net_core.specs.GateValue.{GateValue}
use Rattle.net_core.specs.Inside.{GateIsInside, IsInside, LatchIsInside}
use Rattle.net_core.specs.LatchValue.{LatchValue}
use Rattle.net_core.specs.NetList.{NetList, nets}
use Rattle.net_core.specs.Value.{IsConsistent, bit_of, index_of}
use Rattle.gf_basis.specs.Basis.{AreBits}
use Rattle.circuit_model.specs.Circuit.{Circuit, IsFed, IsInNoWord}
use Rattle.circuit_model.specs.Feeds.{source_at}
use Rattle.circuit_model.specs.Out.{IsOut}
use Rattle.circuit_model.specs.Run.{HasSource, HasZeros, HaveElements, IsClockCycle, IsFirst, IsInputWord, IsNext, IsRun, IsStart, IsStateWord}
use Rattle.circuit_model.specs.Word.{HasElement, Word, word_nets}
use Rattle.circuit_model.specs.declared.circuit_feed.CircuitFeed.{CircuitFeed}
use Rattle.circuit_model.specs.declared.circuit_feed.FeedSource.{FeedSource}
use Rattle.circuit_model.specs.declared.circuit_feed.FeedSource.TheVariants.{Constant, Bit}
use Rattle.make_laws.specs.Renumbering.{IsRenumbering, gate_under, latch_under}
use Rattle.make_laws.proofs.JobUnder.{job_feed_under, job_word_under}
use Rattle.make_laws.proofs.NumberListLemmas.{equal_under, map_join}
use Rattle.make_laws.proofs.MemberLemmas.{AreNets}

-- ---- the first values of a function

first_of : {A : Type 0} → ℕ → (ℕ → A) → List A
first_of zero g = []
first_of (suc n) g = g 0 ∷ first_of n (λ i. g (suc i))

first_long : {A : Type 0} (n : ℕ) (g : ℕ → A) → length (first_of n g) ≡ n
unfolding first_of
first_long zero g = refl
first_long (suc n) g = ap suc (first_long n (λ i. g (suc i)))

first_at : {A : Type 0} (n : ℕ) (g : ℕ → A) (m : ℕ) → m < n → slice_get (first_of n g) m ≡ Some (g m)
unfolding first_of
first_at zero g m low = absurd (omega arith)
first_at (suc n) g zero low = refl
first_at (suc n) g (suc m) low = first_at n (λ i. g (suc i)) m (omega arith)

word_nets_under : (f : ℕ → ℕ) (ws : List Word) → word_nets (map (job_word_under f) ws) ≡ map f (word_nets ws)
word_nets_under f [] = refl
word_nets_under f (w ∷ ws) = ap (λ (ns : List ℕ). map f w.nets ++ ns) (word_nets_under f ws) ∙ sym (map_join f w.nets (word_nets ws))

word_low : (net : NetList) (ws : List Word) → ((w : Word) → Has ws w → AreNets net w.nets) → AreNets net (word_nets ws)
word_low net [] low n has = absurd (let got = has.1 in cc)
word_low net (w ∷ ws) low n has = elim (Has_cases w.nets (word_nets ws) n has) [
  | inl here ↦ low w (0, refl) n here
  | inr later ↦ word_low net ws (λ v at. low v (suc at.0, at.1)) n later
]

module _ (f : ℕ → ℕ) (from to : NetList) (is : IsRenumbering f from to) (inside : IsInside from) (k : ℕ) (product : ℕ → ℕ → ℕ) (cycles : ℕ) (ws : List Word) (o : Word) (fs : List CircuitFeed)
    (words_low : (w : Word) → Has ws w → AreNets from w.nets) (out_low : AreNets from o.nets) (feeds_low : (feed : CircuitFeed) → Has fs feed → feed.net < nets from) where
  abbrev old : Circuit
  old = record { k = k; product = product; net = to; words = map (job_word_under f) ws; output = job_word_under f o; feeds = map (job_feed_under f) fs; cycles = cycles }

  abbrev new : Circuit
  new = record { k = k; product = product; net = from; words = ws; output = o; feeds = fs; cycles = cycles }

  -- the bits of the nets under their new numbers
  abbrev pulled : List Bool → List Bool
  pulled bits = first_of (nets from) (λ m. bit_of bits (f m))

  pulled_bit : (bits : List Bool) (m : ℕ) → m < nets from → bit_of (pulled bits) m ≡ bit_of bits (f m)
  pulled_bit bits m low = ap (λ (b : Option Bool). unwrap_or b false) (first_at (nets from) (λ n. bit_of bits (f n)) m low)

  index_pulled : (bits : List Bool) (ns : List ℕ) → AreNets from ns → index_of (pulled bits) ns ≡ index_of bits (map f ns)
  index_pulled bits [] low = refl
  index_pulled bits (n ∷ ns) low = (λ i. (if pulled_bit bits n (low n (0, refl)) i then 1 else 0) + 2 * index_pulled bits ns (λ m has. low m (suc has.0, has.1)) i)

  consistent : (bits : List Bool) → IsConsistent to bits → IsConsistent from (pulled bits)
  consistent bits con = record {
    long = first_long (nets from) (λ m. bit_of bits (f m));
    gates = λ g has.
        let low = All_has (GateIsInside (nets from)) from.gates g inside.gates has in
        let P : List GateValue → Type 0 = λ gs. Has gs (gate_under f g) in
        pulled_bit bits g.out low.0 ∙ con.gates (gate_under f g) (subst P (sym is.gates) (Has_map (gate_under f) from.gates g has)) ∙ ap (λ x. bit_at g.table x == 1) (sym (index_pulled bits g.inputs (λ n at. All_has (λ m. m < nets from) g.inputs n low.1 at)));
  }

  element : (bits : List Bool) (w : Word) (x : ℕ) → AreNets from w.nets → HasElement bits (job_word_under f w) x → HasElement (pulled bits) w x
  element bits w x low has = let P : ℕ → Type 0 = λ d. AreBits w.basis x d in record { long = has.long ∙ length-map w.nets f; sum = subst P (sym (index_pulled bits w.nets low)) has.sum }

  word_there : (i : ℕ) (w : Word) → slice_get ws i ≡ Some w → slice_get (map (job_word_under f) ws) i ≡ Some (job_word_under f w)
  word_there i w at = slice_get-map (job_word_under f) ws i ∙ ap (λ (v : Option Word). option_map (job_word_under f) v) at

  input_elements : (xs : List ℕ) (bits : List Bool) → HaveElements old IsInputWord xs bits → HaveElements new IsInputWord xs (pulled bits)
  input_elements xs bits have i w x at at' role = element bits w x (words_low w (i, at)) (have i (job_word_under f w) x (word_there i w at) at' role)

  state_elements : (xs : List ℕ) (bits : List Bool) → HaveElements old IsStateWord xs bits → HaveElements new IsStateWord xs (pulled bits)
  state_elements xs bits have i w x at at' role = element bits w x (words_low w (i, at)) (have i (job_word_under f w) x (word_there i w at) at' role)

  -- ---- feeds

  fed_there : (n : ℕ) → IsFed new n → IsFed old (f n) × (n < nets from)
  fed_there n fed =
      let feed = from_map (λ (x : CircuitFeed). x.net) fs fed.0 n fed.1 in
      let P : ℕ → Type 0 = λ m. IsFed old (f m) × (m < nets from) in
      subst P feed.2 (Has_map (λ (x : CircuitFeed). x.net) (map (job_feed_under f) fs) (job_feed_under f feed.0) (Has_map (job_feed_under f) fs feed.0 (fed.0, feed.1)), feeds_low feed.0 (fed.0, feed.1))

  fed_back : (n : ℕ) → n < nets from → IsFed old (f n) → IsFed new n
  fed_back n low fed =
      let image = from_map (λ (x : CircuitFeed). x.net) (map (job_feed_under f) fs) fed.0 (f n) fed.1 in
      let feed = from_map (job_feed_under f) fs fed.0 image.0 image.1 in
      let same : feed.0.net ≡ n = is.apart feed.0.net n (feeds_low feed.0 (fed.0, feed.1)) low (ap (λ (x : CircuitFeed). x.net) feed.2 ∙ image.2) in
      let P : ℕ → Type 0 = λ m. IsFed new m in
      subst P same (Has_map (λ (x : CircuitFeed). x.net) fs feed.0 (fed.0, feed.1))

  source_under : (feeds : List CircuitFeed) → ((feed : CircuitFeed) → Has feeds feed → feed.net < nets from) → (n t : ℕ) → n < nets from → source_at (map (job_feed_under f) feeds) (f n) t ≡ source_at feeds n t
  source_under [] low n t below = refl
  source_under (feed ∷ feeds) low n t below =
      let same : (f feed.net == f n) ≡ (feed.net == n) = equal_under f feed.net n (is.apart feed.net n (low feed (0, refl)) below) in
      (λ i. if same i && feed.cycle == t then feed.source else source_under feeds (λ x has. low x (suc has.0, has.1)) n t below i)

  source_there : (xs : List ℕ) (source : FeedSource) (b : Bool) → HasSource (map (job_word_under f) ws) xs source b → HasSource ws xs source b
  source_there xs (Constant constant) b has = has
  source_there xs (Bit i place) b has = λ w x d at at' bits. has (job_word_under f w) x d (word_there i w at) at' bits

  feeds_there : (xs : List ℕ) (t : ℕ) (bits : List Bool) → ((n : ℕ) → IsFed old n → HasSource (map (job_word_under f) ws) xs (source_at (map (job_feed_under f) fs) n t) (bit_of bits n)) → (n : ℕ) → IsFed new n → HasSource ws xs (source_at fs n t) (bit_of (pulled bits) n)
  feeds_there xs t bits has n fed =
      let there = fed_there n fed in
      let P : FeedSource → Type 0 = λ s. HasSource (map (job_word_under f) ws) xs s (bit_of bits (f n)) in
      let Q : Bool → Type 0 = λ b. HasSource ws xs (source_at fs n t) b in
      subst Q (sym (pulled_bit bits n there.1)) (source_there xs (source_at fs n t) (bit_of bits (f n)) (subst P (source_under fs feeds_low n t there.1) (has (f n) there.0)))

  -- ---- cycles

  no_word : (n : ℕ) → n < nets from → IsInNoWord new n → IsInNoWord old (f n)
  no_word n low none has =
      let P : List ℕ → Type 0 = λ ns. slice_get ns has.0 ≡ Some (f n) in
      let m = from_map f (word_nets ws) has.0 (f n) (subst P (word_nets_under f ws) has.1) in
      let same : m.0 ≡ n = is.apart m.0 n (word_low from ws words_low m.0 (has.0, m.1)) low m.2 in
      none (has.0, m.1 ∙ ap Some same)

  latch_there : (l : LatchValue) → Has from.latches l → Has to.latches (latch_under f l)
  latch_there l has = let P : List LatchValue → Type 0 = λ ls. Has ls (latch_under f l) in subst P (sym is.latches) (Has_map (latch_under f) from.latches l has)

  cycle : (xs : List ℕ) (t : ℕ) (bits : List Bool) → IsClockCycle old xs t bits → IsClockCycle new xs t (pulled bits)
  cycle xs t bits c = record { consistent = consistent bits c.consistent; inputs = input_elements xs bits c.inputs; feeds = feeds_there xs t bits c.feeds }

  begins : (xs : List ℕ) (bits : List Bool) → IsFirst old xs bits → IsFirst new xs (pulled bits)
  begins xs bits first = record {
    states = state_elements xs bits first.states;
    latches = λ l has none.
        let low = (All_has (LatchIsInside (nets from)) from.latches l inside.latches has).1 in
        let P : Bool → Type 0 = λ b. IsStart l.start b in
        subst P (sym (pulled_bit bits l.out low)) (first.latches (latch_under f l) (latch_there l has) (no_word l.out low none));
  }

  goes_on : (before bits : List Bool) → IsNext old before bits → IsNext new (pulled before) (pulled bits)
  goes_on before bits next l has =
      let low = All_has (LatchIsInside (nets from)) from.latches l inside.latches has in
      pulled_bit bits l.out low.1 ∙ next (latch_under f l) (latch_there l has) ∙ sym (pulled_bit before l.next low.0)

  zeros : (bits : List Bool) → HasZeros old bits → HasZeros new (pulled bits)
  zeros bits none n free =
      let low = All_has (λ m. m < nets from) from.inputs n inside.inputs free.input in
      let P : List ℕ → Type 0 = λ ns. Has ns (f n) in
      pulled_bit bits n low ∙ none (f n) (record { input = subst P (sym is.inputs) (Has_map f from.inputs n free.input); unnamed = no_word n low free.unnamed; unfed = λ fed. free.unfed (fed_back n low fed) })

  -- ---- runs

  run_there : (xs : List ℕ) (run : List (List Bool)) → IsRun old xs run → IsRun new xs (map pulled run)
  run_there xs run r =
      let open_run = r.open_run in
      record {
        open_run = record {
          input = record { long = open_run.input.long ∙ length-map ws (job_word_under f); elements = open_run.input.elements };
          long = length-map run pulled ∙ open_run.long;
          each = λ t bits at. let b = from_map pulled run t bits at in let P : List Bool → Type 0 = λ bs. IsClockCycle new xs t bs in subst P b.2 (cycle xs t b.0 (open_run.each t b.0 b.1));
          first = λ bits at. let b = from_map pulled run 0 bits at in let P : List Bool → Type 0 = λ bs. IsFirst new xs bs in subst P b.2 (begins xs b.0 (open_run.first b.0 b.1));
          next = λ t before bits at at'.
              let a = from_map pulled run t before at in
              let b = from_map pulled run (t + 1) bits at' in
              let P : List Bool → Type 0 = λ bs. IsNext new bs bits in
              let Q : List Bool → Type 0 = λ bs. IsNext new (pulled a.0) bs in
              subst P a.2 (subst Q b.2 (goes_on a.0 b.0 (open_run.next t a.0 b.0 a.1 b.1)));
        };
        zeros = λ t bits at. let b = from_map pulled run t bits at in let P : List Bool → Type 0 = λ bs. HasZeros new bs in subst P b.2 (zeros b.0 (r.zeros t b.0 b.1));
      }

  pub out_there : (xs : List ℕ) (e : ℕ) → IsOut old xs e → IsOut new xs e
  out_there xs e out =
      let ends = out.ends in
      record {
        run = map pulled out.run;
        is_run = run_there xs out.run out.is_run;
        ends = record { last = pulled ends.last; at = slice_get-map pulled out.run cycles ∙ ap (λ (b : Option (List Bool)). option_map pulled b) ends.at; element = element ends.last o e out_low ends.element };
      }
