-- A sound net list has levels, and a consistent list of bits for each choice of its sources' bits.
use Rattle.std.proofs.Common.{◌≡◌, ◌⊎◌, ◌∙◌, ap, sym, refl, inl, inr, subst, ℕ, zero, suc, ◌<◌, ◌≤◌, ◌+◌, Bool, true, false, List, [], ◌∷◌, ◌++◌, length, replicate, None, Some, arith, length-set}
use Rattle.std.specs.Prelude.{slice_get, sum_by, ◌==◌}
use Rattle.std.specs.Int.{bit_at}
use Rattle.std.proofs.Math.ListN.{set}
use Rattle.std.proofs.lemmas.List.{length-replicate}
use Rattle.lists.specs.Lists.{Has}
use Rattle.lists.specs.laws.HasLaws.{All_has}
use Rattle.lists.specs.laws.NumberLaws.{nat_eq_or}
use Rattle.lists.specs.laws.ReadLaws.{get_below, got_set}
use Rattle.lists.specs.laws.SumLaws.{sum_by-set_at}
use Rattle.graph_core.specs.Walk.{IsChain}
use Rattle.net_core.specs.GateValue.{GateValue}
use Rattle.net_core.specs.NetList.{NetList, nets}
use Rattle.net_core.specs.Inside.{IsInside}
use Rattle.net_core.specs.Sound.{IsSound, HasOneDriverEach, HasCycle, Needs, sources}
use Rattle.net_core.specs.Level.{Levels, level_at, level_over}
use Rattle.net_core.specs.Levelled.{AllHaveLevels}
use Rattle.net_core.specs.Partial.{ArePartial, AreKnown, AreZeros, lacking}
use Rattle.net_core.specs.Value.{bit_of, index_of, IsRight, IsConsistent, HasSourceBits}
use Rattle.net_core.proofs.NetPath.{IsPath}
use Rattle.net_core.proofs.DriverLemmas.{driver_of, gates_apart, gate_inside, source_no_gate}
use Rattle.net_core.proofs.LevelLemmas.{level_within, known_at, known_over, level_set_other, level_from_above, partial_set, lacking_set, all_found, right_level, no_zeros, one_zero_more, first_partial, sources_inside}
use Rattle.net_core.proofs.EvalLemmas.{bit_set_same, bit_set_other, index_set, index_agree, same_lists, some_level, value_of}

abbrev pub unmet : Bool → ℕ
unmet false = 1
unmet true = 0

abbrev pub count_unmet : List Bool → ℕ
count_unmet seen = sum_by unmet seen

pub unmet_set : (seen : List Bool) (at : ℕ) → slice_get seen at ≡ Some false → count_unmet (set seen at true) + 1 ≡ count_unmet seen
unmet_set seen at new = omega (arith, sum_by-set_at unmet seen at false true new)

pub none_met : (n k : ℕ) → slice_get (replicate n false) k ≡ Some true → ⊥
none_met zero k got = cc
none_met (suc n) zero got = cc
none_met (suc n) (suc k) got = none_met n k got

known_cons : (levels : Levels) (n l : ℕ) (ns : List ℕ) → level_at levels n ≡ Some l → AreKnown levels ns → AreKnown levels (n ∷ ns)
known_cons levels n l ns is rest zero m got none =
    let same : n ≡ m = cc in
    let e : level_at levels m ≡ Some l = ap (level_at levels) (sym same) ∙ is in cc
known_cons levels n l ns is rest (suc k) m got none = rest k m got none

-- each net has a level, or one has none
known_or : (levels : Levels) (ns : List ℕ) → AreKnown levels ns ⊎ ((b : ℕ) × Has ns b × (level_at levels b ≡ None))
known_or levels [] = inl (λ k n got none. absurd (cc))
known_or levels (n ∷ ns) =
    elim (level_at levels n) as (λ o. level_at levels n ≡ o → AreKnown levels (n ∷ ns) ⊎ ((b : ℕ) × Has (n ∷ ns) b × (level_at levels b ≡ None))) [
      | None ↦ λ e. inr (n, (0, refl), e)
      | Some l ↦ λ e. elim (known_or levels ns) [
        | inl known ↦ inl (known_cons levels n l ns e known)
        | inr gap ↦ inr (gap.0, (suc gap.1.0, gap.1.1), gap.2)
      ]
    ] refl

abbrev AreLevelled : Levels → List GateValue → Type 0
AreLevelled levels gates = (g : GateValue) → Has gates g → level_at levels g.out ≡ None → ⊥

levelled_cons : (levels : Levels) (g : GateValue) (l : ℕ) (gs : List GateValue) → level_at levels g.out ≡ Some l → AreLevelled levels gs → AreLevelled levels (g ∷ gs)
levelled_cons levels g l gs is rest h (zero, got) none =
    let same : g ≡ h = cc in
    let e : level_at levels h.out ≡ Some l = ap (λ (x : GateValue). level_at levels x.out) (sym same) ∙ is in cc
levelled_cons levels g l gs is rest h (suc k, got) none = rest h (k, got) none

-- each gate has a level, or one has none
levelled_or : (levels : Levels) (gates : List GateValue) → AreLevelled levels gates ⊎ ((g : GateValue) × Has gates g × (level_at levels g.out ≡ None))
levelled_or levels [] = inl (λ g has none. let got = has.1 in absurd (cc))
levelled_or levels (g ∷ gs) =
    elim (level_at levels g.out) as (λ o. level_at levels g.out ≡ o → AreLevelled levels (g ∷ gs) ⊎ ((h : GateValue) × Has (g ∷ gs) h × (level_at levels h.out ≡ None))) [
      | None ↦ λ e. inr (g, (0, refl), e)
      | Some l ↦ λ e. elim (levelled_or levels gs) [
        | inl known ↦ inl (levelled_cons levels g l gs e known)
        | inr gap ↦ inr (gap.0, (suc gap.1.0, gap.1.1), gap.2)
      ]
    ] refl

pub chain_more : (R : ℕ → ℕ → Type 0) (a : ℕ) (rest : List ℕ) (b c : ℕ) → IsChain R a rest b → R b c → IsChain R a (rest ++ b ∷ []) c
chain_more R a [] b c chain step = (chain, step)
chain_more R a (d ∷ ds) b c chain step = (chain.0, chain_more R d ds b c chain.1 step)

-- from each net that was met a path leads to this one
abbrev Paths : NetList → List Bool → ℕ → Type 0
Paths net seen at = (n : ℕ) → slice_get seen n ≡ Some true → (rest : List ℕ) × IsPath net n rest at

paths_more : (net : NetList) (seen : List Bool) (at next : ℕ) → Needs net at next → Paths net seen at → Paths net (set seen at true) next
paths_more net seen at next needs paths n got =
    elim (got_set seen at true n true got) [
      | inl w ↦ let P : ℕ → Type 0 = λ m. IsPath net m [] next in ([], subst P (sym w.0) needs)
      | inr w ↦ let old = paths n w.1 in (old.0 ++ at ∷ [], chain_more (Needs net) n old.0 at next old.1 needs)
    ]

gate_of : (net : NetList) (levels : Levels) (done a : ℕ) → HasOneDriverEach net → ArePartial net levels done → a < nets net → level_at levels a ≡ None → (g : GateValue) × Has net.gates g × (g.out ≡ a)
gate_of net levels done a one partial less none =
    elim (driver_of net a one less) [
      | inl source ↦ let zero' = partial.sources a source in absurd (cc)
      | inr found ↦ found
    ]

abbrev IsReady : NetList → Levels → Type 0
IsReady net levels = (g : GateValue) × Has net.gates g × (level_at levels g.out ≡ None) × AreKnown levels g.inputs

-- where no gates drive each other in a cycle, a walk over nets without levels comes to a gate whose inputs have them
ready : (net : NetList) (levels : Levels) (done : ℕ) → HasOneDriverEach net → IsInside net → ArePartial net levels done → (HasCycle net → ⊥) → (fuel : ℕ) (seen : List Bool) (at : ℕ) → count_unmet seen ≤ fuel → length seen ≡ nets net → at < nets net → level_at levels at ≡ None → Paths net seen at → IsReady net levels
ready net levels done one inside partial no_cycle zero seen at few long less none paths =
    let bit = get_below seen at (omega arith) in
    elim bit.0 as (λ b. slice_get seen at ≡ Some b → IsReady net levels) [
      | true ↦ λ got. let path = paths at got in absurd (no_cycle (at ∷ path.0, path.1))
      | false ↦ λ got. absurd (omega (arith, unmet_set seen at got))
    ] bit.1
ready net levels done one inside partial no_cycle (suc fuel) seen at few long less none paths =
    let bit = get_below seen at (omega arith) in
    elim bit.0 as (λ b. slice_get seen at ≡ Some b → IsReady net levels) [
      | true ↦ λ got. let path = paths at got in absurd (no_cycle (at ∷ path.0, path.1))
      | false ↦ λ got.
          let g = gate_of net levels done at one partial less none in
          elim (known_or levels g.0.inputs) [
            | inl known ↦ (g.0, g.1, ap (level_at levels) g.2 ∙ none, known)
            | inr gap ↦
                let below : gap.0 < nets net = All_has (λ n. n < nets net) g.0.inputs gap.0 (gate_inside net g.0 inside g.1).1 gap.1 in
                ready net levels done one inside partial no_cycle fuel (set seen at true) gap.0 (omega (arith, unmet_set seen at got)) (length-set seen at true ∙ long) below gap.2 (paths_more net seen at gap.0 (g.0, g.1, g.2, gap.1) paths)
          ]
    ] bit.1

-- levels and bits that were found so far
record AreBegun (net : NetList) (start : List Bool) (levels : Levels) (done : ℕ) (bits : List Bool) : Type 0 where
  partial : ArePartial net levels done
  right : (g : GateValue) (l : ℕ) → Has net.gates g → level_at levels g.out ≡ Some l → IsRight bits g
  long : length bits ≡ nets net
  same : (n : ℕ) → Has (sources net) n → bit_of bits n ≡ bit_of start n

-- what is known differs from a net that has no level
apart_from : (levels : Levels) (ns : List ℕ) (a : ℕ) → AreKnown levels ns → level_at levels a ≡ None → Has ns a → ⊥
apart_from levels ns a known none has = known has.0 a has.1 none

inputs_of_known : (net : NetList) (levels : Levels) (done l : ℕ) (h : GateValue) → ArePartial net levels done → Has net.gates h → level_at levels h.out ≡ Some l → AreKnown levels h.inputs
inputs_of_known net levels done l h partial has is k n got none =
    let low = (level_from_above levels l 1 h.inputs (partial.gates has.0 h l has.1 is)).1 k n got in
    let there = low.1 in cc

-- one more gate gets its level and its bit
begun_more : (net : NetList) (start : List Bool) (levels : Levels) (done : ℕ) (bits : List Bool) (g : GateValue) (v : ℕ) → IsInside net → HasOneDriverEach net → AreBegun net start levels done bits → Has net.gates g → level_at levels g.out ≡ None → AreKnown levels g.inputs → level_over levels g.inputs ≡ Some v → AreBegun net start (set levels g.out (Some v)) (done + 1) (set bits g.out (value_of bits g))
begun_more net start levels done bits g v inside one begun has none known over =
    let within : g.out < length bits = omega (arith, (gate_inside net g inside has).0, begun.long) in
    record {
      partial = partial_set net levels done has.0 v g inside one begun.partial has.1 none over;
      right = λ h l has' is. elim (nat_eq_or h.out g.out) [
        | inl same ↦
            let place : has'.0 ≡ has.0 = gates_apart net has'.0 has.0 h g inside one has'.1 has.1 same in
            let got' : slice_get net.gates has.0 ≡ Some h = ap (slice_get net.gates) (sym place) ∙ has'.1 in
            let got : slice_get net.gates has.0 ≡ Some g = has.1 in
            let whole : g ≡ h = cc in
            let own : IsRight (set bits g.out (value_of bits g)) g = bit_set_same bits g.out (value_of bits g) within ∙ sym (ap (λ i. bit_at g.table i == 1) (index_set bits g.out (value_of bits g) g.inputs (apart_from levels g.inputs g.out known none))) in
            let Q : GateValue → Type 0 = IsRight (set bits g.out (value_of bits g)) in
            subst Q whole own
        | inr other ↦
            let is' : level_at levels h.out ≡ Some l = sym (level_set_other levels g.out (Some v) h.out other) ∙ is in
            let free : Has h.inputs g.out → ⊥ = apart_from levels h.inputs g.out (inputs_of_known net levels done l h begun.partial has' is') none in
            bit_set_other bits g.out (value_of bits g) h.out other ∙ begun.right h l has' is' ∙ sym (ap (λ i. bit_at h.table i == 1) (index_set bits g.out (value_of bits g) h.inputs free))
      ];
      long = length-set bits g.out (value_of bits g) ∙ begun.long;
      same = λ n source. bit_set_other bits g.out (value_of bits g) n (λ e. source_open net levels done n g begun.partial source none e) ∙ begun.same n source;
    }
  where
    source_open : (net : NetList) (levels : Levels) (done n : ℕ) (g : GateValue) → ArePartial net levels done → Has (sources net) n → level_at levels g.out ≡ None → n ≡ g.out → ⊥
    source_open net levels done n g partial source none e =
        let here : level_at levels g.out ≡ Some 0 = ap (level_at levels) (sym e) ∙ partial.sources n source in cc

-- all levels, and bits that agree with each gate
abbrev IsWhole : NetList → List Bool → Type 0
IsWhole net start = (levels : Levels) × (bits : List Bool) × AllHaveLevels net levels × IsConsistent net bits × HasSourceBits net start bits

some_of : (levels : Levels) (n : ℕ) → (level_at levels n ≡ None → ⊥) → (l : ℕ) × (level_at levels n ≡ Some l)
some_of levels n some =
    elim (level_at levels n) as (λ o. level_at levels n ≡ o → (l : ℕ) × (level_at levels n ≡ Some l)) [
      | None ↦ λ e. absurd (some e)
      | Some l ↦ λ e. (l, e)
    ] refl

whole : (net : NetList) (start : List Bool) (levels : Levels) (done : ℕ) (bits : List Bool) → AreBegun net start levels done bits → AreLevelled levels net.gates → IsWhole net start
whole net start levels done bits begun each = (
  levels,
  bits,
  (all_found net levels done begun.partial (λ p g got. right_level net levels done p g begun.partial got (each g (p, got))), each),
  record { long = begun.long; gates = λ g has. let l = some_of levels g.out (each g has) in begun.right g l.0 has l.1 },
  begun.same,
)

grow : (net : NetList) (start : List Bool) → IsSound net → (fuel : ℕ) (levels : Levels) (done : ℕ) (bits : List Bool) → lacking levels ≤ fuel → AreBegun net start levels done bits → IsWhole net start
grow net start sound zero levels done bits few begun =
    elim (levelled_or levels net.gates) [
      | inl each ↦ whole net start levels done bits begun each
      | inr gap ↦
          let within : gap.0.out < length levels = omega (arith, (gate_inside net gap.0 sound.inside gap.1).0, begun.partial.long) in
          absurd (omega (arith, lacking_set levels gap.0.out 0 (known_at levels gap.0.out None within gap.2)))
    ]
grow net start sound (suc fuel) levels done bits few begun =
    elim (levelled_or levels net.gates) [
      | inl each ↦ whole net start levels done bits begun each
      | inr gap ↦
          let below : gap.0.out < nets net = (gate_inside net gap.0 sound.inside gap.1).0 in
          let g = ready net levels done sound.one sound.inside begun.partial sound.no_cycle (count_unmet (replicate (nets net) false)) (replicate (nets net) false) gap.0.out (omega arith) (length-replicate {A = Bool} (nets net) false) below gap.2 (λ n got. absurd (none_met (nets net) n got)) in
          let v = known_over levels 1 g.0.inputs g.3 in
          let within : g.0.out < length levels = omega (arith, (gate_inside net g.0 sound.inside g.1).0, begun.partial.long) in
          grow net start sound fuel (set levels g.0.out (Some v.0)) (done + 1) (set bits g.0.out (value_of bits g.0)) (omega (arith, lacking_set levels g.0.out v.0 (known_at levels g.0.out None within g.2))) (begun_more net start levels done bits g.0 v.0 sound.inside sound.one begun g.1 g.2 g.3 v.1)
    ]

-- there are levels in which the first k sources have level 0, and no net but a source has a level
zeros_of : (ss : List ℕ) (bound : ℕ) → ((i s : ℕ) → slice_get ss i ≡ Some s → s < bound) → (k : ℕ) → k ≤ length ss → (levels : Levels) × AreZeros bound ss k levels
zeros_of ss bound below zero few = (replicate bound None, no_zeros bound ss (replicate bound None) refl)
zeros_of ss bound below (suc k) few =
    let rest = zeros_of ss bound below k (omega arith) in
    let at = get_below ss k (omega arith) in
    let P : ℕ → Type 0 = λ i. AreZeros bound ss i (set rest.0 at.0 (Some 0)) in
    let next : k + 1 ≡ suc k = omega arith in
    (set rest.0 at.0 (Some 0), subst P next (one_zero_more bound ss k at.0 rest.0 (below k at.0 at.1) at.1 rest.1))

-- a sound net list has levels, and a consistent list of bits with these bits at its sources
pub sound_whole : (net : NetList) (start : List Bool) → IsSound net → length start ≡ nets net → (levels : Levels) × (bits : List Bool) × AllHaveLevels net levels × IsConsistent net bits × HasSourceBits net start bits
sound_whole net start sound long =
    let below : (i s : ℕ) → slice_get (sources net) i ≡ Some s → s < nets net = λ i s got. All_has (λ n. n < nets net) (sources net) s (sources_inside net sound.inside) (i, got) in
    let zeros = zeros_of (sources net) (nets net) below (length (sources net)) (omega arith) in
    let first : ArePartial net zeros.0 0 = first_partial net zeros.0 (sources net) (nets net) sound.inside sound.one refl refl zeros.1 in
    grow net start sound (lacking zeros.0) zeros.0 0 start (omega arith) (record {
      partial = first;
      right = λ g l has is. absurd (no_source net g zeros.0 sound has (zeros.1.only g.out l is).1);
      long = long;
      same = λ n source. refl;
    })
  where
    no_source : (net : NetList) (g : GateValue) (levels : Levels) → IsSound net → Has net.gates g → Has (sources net) g.out → ⊥
    no_source net g levels sound has source = source_no_gate net g.out g sound.inside sound.one source has refl

bits_same : (net : NetList) (levels : Levels) (start v w : List Bool) → HasOneDriverEach net → AllHaveLevels net levels → IsConsistent net v → IsConsistent net w → HasSourceBits net start v → HasSourceBits net start w → (fuel n l : ℕ) → l < fuel → level_at levels n ≡ Some l → bit_of v n ≡ bit_of w n
bits_same net levels start v w one all cv cw hv hw zero n l less is = absurd (omega arith)
bits_same net levels start v w one all cv cw hv hw (suc fuel) n l less is =
    let below : n < nets net = omega (arith, level_within levels n l is, all.0.long) in
    elim (driver_of net n one below) [
      | inl source ↦ hv n source ∙ sym (hw n source)
      | inr found ↦
          let g : GateValue = found.0 in
          let over : level_over levels g.inputs ≡ Some l = sym (all.0.gates g found.1) ∙ (ap (level_at levels) found.2 ∙ is) in
          let above = (level_from_above levels l 1 g.inputs over).1 in
          let same : index_of v g.inputs ≡ index_of w g.inputs = index_agree v w g.inputs (λ k m got. let low = above k m got in bits_same net levels start v w one all cv cw hv hw fuel m low.0 (omega (arith, low.2)) low.1) in
          sym (ap (bit_of v) found.2) ∙ (cv.gates g found.1 ∙ (ap (λ i. bit_at g.table i == 1) same ∙ (sym (cw.gates g found.1) ∙ ap (bit_of w) found.2)))
    ]

-- there is no other consistent list with these bits at its sources
pub sound_only : (net : NetList) (start v w : List Bool) → IsSound net → length start ≡ nets net → IsConsistent net v → IsConsistent net w → HasSourceBits net start v → HasSourceBits net start w → v ≡ w
sound_only net start v w sound long cv cw hv hw =
    let found = sound_whole net start sound long in
    same_lists v w (cv.long ∙ sym cw.long) (λ n less.
    let l = some_level net found.0 sound.one found.2 n (omega (arith, cv.long)) in
    bits_same net found.0 start v w sound.one found.2 cv cw hv hw (suc l.0) n l.0 (omega arith) l.1)

pub sound_levels : (net : NetList) → IsSound net → (levels : Levels) × AllHaveLevels net levels
sound_levels net sound = let found = sound_whole net (replicate (nets net) false) sound (length-replicate {A = Bool} (nets net) false) in (found.0, found.2)

pub sound_some : (net : NetList) (start : List Bool) → IsSound net → length start ≡ nets net → (bits : List Bool) × IsConsistent net bits × HasSourceBits net start bits
sound_some net start sound long = let found = sound_whole net start sound long in (found.1, found.3, found.4)
