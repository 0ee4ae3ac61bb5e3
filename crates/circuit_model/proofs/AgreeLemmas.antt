-- Two runs at one input agree on nets that are drawn from no input on which they differ.
use Rattle.std.proofs.Common.{◌≡◌, ◌∙◌, ap, sym, refl, subst, inl, inr, ℕ, zero, suc, ◌<◌, ◌+◌, Bool, List, Some, arith}
use Rattle.std.specs.Prelude.{slice_get, ◌==◌}
use Rattle.std.specs.Int.{bit_at}
use Rattle.std.proofs.lemmas.Option.{slice_get_within}
use Rattle.lists.specs.Lists.{Has}
use Rattle.lists.specs.laws.HasLaws.{Has_cases, All_has}
use Rattle.lists.specs.laws.ReadLaws.{from_map, get_below}
use Rattle.net_core.specs.NetList.{nets}
use Rattle.net_core.specs.GateValue.{GateValue}
use Rattle.net_core.specs.LatchValue.{LatchValue}
use Rattle.net_core.specs.Inside.{LatchIsInside}
use Rattle.net_core.specs.Sound.{sources}
use Rattle.net_core.specs.Level.{Levels, level_at, level_over}
use Rattle.net_core.specs.Levelled.{AllHaveLevels}
use Rattle.net_core.specs.Value.{bit_of, index_of, IsConsistent}
use Rattle.net_core.proofs.DriverLemmas.{driver_of}
use Rattle.net_core.proofs.LevelLemmas.{level_within, level_from_above}
use Rattle.net_core.proofs.EvalLemmas.{index_agree, some_level}
use Rattle.net_core.proofs.ExistLemmas.{sound_levels}
use Rattle.net_words.specs.Reach.{Draws}
use Rattle.circuit_model.specs.Word.{Word, IsInputWord, IsStateWord, word_nets}
use Rattle.circuit_model.specs.Circuit.{Circuit, IsInNoWord, IsFree, IsInput}
use Rattle.circuit_model.specs.Feeds.{fed_nets}
use Rattle.circuit_model.specs.Job.{IsJob}
use Rattle.circuit_model.specs.Run.{HaveElements, IsClockCycle, IsFirst, IsNext, IsOpenRun}
use Rattle.circuit_model.proofs.GivenLemmas.{has_or}
use Rattle.circuit_model.proofs.WordLemmas.{same_bits}
use Rattle.circuit_model.proofs.SourceLemmas.{latch_outs, find_word, role_input, role_state, same_start, element_at}
use Rattle.circuit_model.proofs.FeedLemmas.{same_source}

module _ (c : Circuit) (well : IsJob c) (xs : List ℕ) (input : IsInput c xs) where
  -- a net of a word that has its element in both lists has one bit
  in_word : (P : Word → Type 0) (u v : List Bool) → HaveElements c P xs u → HaveElements c P xs v → (n : ℕ) → Has (word_nets c.words) n → ((w : Word) → Has c.words w → Has w.nets n → P w) → bit_of v n ≡ bit_of u n
  in_word P u v a b n has fits =
      let found = find_word c.words n has in
      let x = element_at c xs input found.0 found.1 found.2 in
      let p : P found.1 = fits found.1 (found.0, found.2) found.3 in
      same_bits c.k found.1 x.0 v u (well.words found.1 (found.0, found.2)).basis (input.elements x.0 (found.0, x.1))
      (b found.0 found.1 x.0 found.2 x.1 p) (a found.0 found.1 x.0 found.2 x.1 p) n found.3

  -- C are nets with all that they are drawn from
  module _ (C : ℕ → Type 0) (drawn : (a b : ℕ) → Draws c.net a b → C a → C b) where
    -- nets of C have one bit
    abbrev pub Agree : List Bool → List Bool → Type 0
    Agree u v = (n : ℕ) → n < nets c.net → C n → bit_of v n ≡ bit_of u n

    -- sources in C have one bit
    abbrev AgreeAtSources : List Bool → List Bool → Type 0
    AgreeAtSources u v = (n : ℕ) → Has (sources c.net) n → C n → bit_of v n ≡ bit_of u n

    -- inputs in C that are in no word and not fed have one bit
    abbrev pub AgreeOutside : List Bool → List Bool → Type 0
    AgreeOutside u v = (n : ℕ) → IsFree c n → C n → bit_of v n ≡ bit_of u n

    input_same : (t : ℕ) (u v : List Bool) → IsClockCycle c xs t u → IsClockCycle c xs t v → AgreeOutside u v → (n : ℕ) → Has c.net.inputs n → C n → bit_of v n ≡ bit_of u n
    input_same t u v a b outside n has in_c =
        elim (has_or (word_nets c.words) n) [
          | inl named ↦ in_word IsInputWord u v a.inputs b.inputs n named (λ w in_words in_w. role_input c.net w.role n well.sound (well.inner w in_words) (well.places w n in_words in_w) has)
          | inr none ↦ elim (has_or (fed_nets c.feeds) n) [
            | inl fed ↦ same_source c well xs input n t (bit_of v n) (bit_of u n) (b.feeds n fed) (a.feeds n fed)
            | inr unfed ↦ outside n (record { input = has; unnamed = none; unfed = unfed }) in_c
          ]
        ]

    first_same : (u v : List Bool) → IsClockCycle c xs 0 u → IsClockCycle c xs 0 v → IsFirst c xs u → IsFirst c xs v → AgreeOutside u v → AgreeAtSources u v
    first_same u v cu cv a b outside n source in_c =
        elim (Has_cases c.net.inputs (latch_outs c.net) n source) [
          | inl has ↦ input_same 0 u v cu cv outside n has in_c
          | inr latch ↦ elim (has_or (word_nets c.words) n) [
            | inl named ↦ in_word IsStateWord u v a.states b.states n named (λ w in_words in_w. role_state c.net w.role n well.sound (well.inner w in_words) (well.places w n in_words in_w) latch)
            | inr none ↦
                let found = from_map (λ (l : LatchValue). l.out) c.net.latches latch.0 n latch.1 in
                let P : ℕ → Type 0 = λ m. bit_of v m ≡ bit_of u m in
                let Q : ℕ → Type 0 = λ m. IsInNoWord c m in
                let free : IsInNoWord c found.0.out = subst Q (sym found.2) none in
                subst P found.2 (same_start found.0.start (bit_of v found.0.out) (bit_of u found.0.out) (well.starts found.0 (latch.0, found.1) free)
                (b.latches found.0 (latch.0, found.1) free) (a.latches found.0 (latch.0, found.1) free))
          ]
        ]

    next_same : (t : ℕ) (p q u v : List Bool) → Agree p q → IsClockCycle c xs t u → IsClockCycle c xs t v → IsNext c p u → IsNext c q v → AgreeOutside u v → AgreeAtSources u v
    next_same t p q u v before cu cv a b outside n source in_c =
        elim (Has_cases c.net.inputs (latch_outs c.net) n source) [
          | inl has ↦ input_same t u v cu cv outside n has in_c
          | inr latch ↦
              let found = from_map (λ (l : LatchValue). l.out) c.net.latches latch.0 n latch.1 in
              let inside = All_has (LatchIsInside (nets c.net)) c.net.latches found.0 well.sound.inside.latches (latch.0, found.1) in
              let P : ℕ → Type 0 = λ m. bit_of v m ≡ bit_of u m in
              let same : bit_of q found.0.next ≡ bit_of p found.0.next = before found.0.next inside.0 (drawn n found.0.next (inr (found.0, (latch.0, found.1), found.2, refl)) in_c) in
              subst P found.2 (b found.0 (latch.0, found.1) ∙ (same ∙ sym (a found.0 (latch.0, found.1))))
        ]

    level_same : (levels : Levels) (u v : List Bool) → AllHaveLevels c.net levels → IsConsistent c.net u → IsConsistent c.net v → AgreeAtSources u v → (fuel n l : ℕ) → l < fuel → level_at levels n ≡ Some l → C n → bit_of v n ≡ bit_of u n
    level_same levels u v all cu cv same zero n l less is in_c = absurd (omega arith)
    level_same levels u v all cu cv same (suc fuel) n l less is in_c =
        elim (driver_of c.net n well.sound.one (omega (arith, level_within levels n l is, all.0.long))) [
          | inl source ↦ same n source in_c
          | inr found ↦
              let g : GateValue = found.0 in
              let over : level_over levels g.inputs ≡ Some l = sym (all.0.gates g found.1) ∙ (ap (level_at levels) found.2 ∙ is) in
              let above = (level_from_above levels l 1 g.inputs over).1 in
              let index : index_of v g.inputs ≡ index_of u g.inputs = index_agree v u g.inputs (λ k m got. let low = above k m got in
              level_same levels u v all cu cv same fuel m low.0 (omega (arith, low.2)) low.1 (drawn n m (inl (g, found.1, found.2, (k, got))) in_c)) in
              sym (ap (bit_of v) found.2) ∙ (cv.gates g found.1 ∙ (ap (λ i. bit_at g.table i == 1) index ∙ (sym (cu.gates g found.1) ∙ ap (bit_of u) found.2)))
        ]

    cycle_same : (t : ℕ) (u v : List Bool) → IsClockCycle c xs t u → IsClockCycle c xs t v → AgreeAtSources u v → Agree u v
    cycle_same t u v a b same n less in_c =
        let levels = sound_levels c.net well.sound in
        let l = some_level c.net levels.0 well.sound.one levels.1 n less in
        level_same levels.0 u v levels.1 a.consistent b.consistent same (suc l.0) n l.0 (omega arith) l.1 in_c

    module _ (run other : List (List Bool)) (r : IsOpenRun c xs run) (o : IsOpenRun c xs other) (outside : (t : ℕ) (u v : List Bool) → slice_get run t ≡ Some u → slice_get other t ≡ Some v → AgreeOutside u v) where
      -- where the runs agree on the inputs of C that no word names, they agree on C
      pub agree : (t : ℕ) (u v : List Bool) → slice_get run t ≡ Some u → slice_get other t ≡ Some v → Agree u v
      agree zero u v at_u at_v = cycle_same 0 u v (r.each 0 u at_u) (o.each 0 v at_v) (first_same u v (r.each 0 u at_u) (o.each 0 v at_v) (r.first u at_u) (o.first v at_v) (outside 0 u v at_u at_v))
      agree (suc t) u v at_u at_v =
          let cu = r.each (suc t) u at_u in
          let cv = o.each (suc t) v at_v in
          let p = get_below run t (omega (arith, slice_get_within run (suc t) u at_u)) in
          let q = get_below other t (omega (arith, slice_get_within other (suc t) v at_v)) in
          let e : suc t ≡ t + 1 = omega arith in
          let U : ℕ → Type 0 = λ s. slice_get run s ≡ Some u in
          let V : ℕ → Type 0 = λ s. slice_get other s ≡ Some v in
          cycle_same (suc t) u v cu cv (next_same (suc t) p.0 q.0 u v (agree t p.0 q.0 p.1 q.1) cu cv (r.next t p.0 u p.1 (subst U e at_u)) (o.next t q.0 v q.1 (subst V e at_v)) (outside (suc t) u v at_u at_v))
