-- One bit of a table is turned over.
use Rattle.std.proofs.Common.{◌≡◌, ◌∙◌, ◌⊎◌, inl, inr, ap, sym, refl, subst, ℕ, zero, suc, ◌<◌, ◌*◌, ◌^◌, ◌%◌, List, [], ◌∷◌, ◌++◌, length, Some, map}
use Rattle.std.specs.Prelude.{slice_get, bit_xor, All}
use Rattle.std.proofs.Math.ListN.{set}
use Rattle.std.proofs.lemmas.Nat.{one_shl, pow_below}
use lib.Bits.{xor_lt}
use Rattle.net_core.specs.GateValue.{GateValue}
use Rattle.std.proofs.lemmas.Option.{get_or_from_slice_get}
use Rattle.lists.specs.Lists.{Has, times}
use Rattle.lists.specs.laws.HasLaws.{All_has}
use Rattle.lists.specs.laws.ReadLaws.{get_below}
use Rattle.net_core.specs.NetList.{NetList, nets}
use Rattle.net_core.specs.Inside.{IsInside, GateIsInside}
use Rattle.net_core.specs.Level.{Levels, level_at, level_over, AreLevels}
use Rattle.net_core.specs.Levelled.{AllHaveLevels}
use Rattle.net_core.specs.Sound.{IsSound, Needs, sources}
use Rattle.net_core.specs.Turned.{turned_gate, turned_gates, turned}
use Rattle.graph_core.proofs.LoopLemmas.{cycle_weaker}

pub bit_is : (index : ℕ) → index < 64 → 1 * 2 ^ index % 2 ^ 64 ≡ 2 ^ index
bit_is index less = one_shl index 64 less

pub turned_fits : (n table index : ℕ) → table < 2 ^ (2 ^ n) → index < 2 ^ n → bit_xor table (2 ^ index) < 2 ^ (2 ^ n)
turned_fits n table index fits less = xor_lt (2 ^ n) table (2 ^ index) fits (pow_below index (2 ^ n) less)

-- the gates with the turned one written in its place
pub set_turned : (gates : List GateValue) (p index : ℕ) (g : GateValue) → slice_get gates p ≡ Some g → set gates p (turned_gate g index) ≡ turned_gates gates p index
set_turned [] p index g got = absurd (cc)
set_turned (h ∷ hs) zero index g got = let same : h ≡ g = cc in ap (λ (x : GateValue). turned_gate x index ∷ hs) (sym same)
set_turned (h ∷ hs) (suc p) index g got = ap (λ (xs : List GateValue). h ∷ xs) (set_turned hs p index g got)

pub set_is : (gates : List GateValue) (p index : ℕ) (g h new : GateValue) → slice_get gates p ≡ Some g → h ≡ g → new ≡ turned_gate h index → set gates p new ≡ turned_gates gates p index
set_is gates p index g h new got same is = rw (is, same) (set_turned gates p index g got)

-- each gate is as before, or is the one that was turned
pub turned_get : (gates : List GateValue) (p index k : ℕ) (h : GateValue) → slice_get (turned_gates gates p index) k ≡ Some h → (g : GateValue) × (slice_get gates k ≡ Some g) × ((h ≡ g) ⊎ ((k ≡ p) × (h ≡ turned_gate g index)))
turned_get [] p index k h got = absurd (cc)
turned_get (g ∷ gs) zero index zero h got = let same : h ≡ turned_gate g index = cc in (g, refl, inr (refl, same))
turned_get (g ∷ gs) zero index (suc k) h got = (h, got, inl refl)
turned_get (g ∷ gs) (suc p) index zero h got = let same : h ≡ g = cc in (g, refl, inl same)
turned_get (g ∷ gs) (suc p) index (suc k) h got =
    let rest = turned_get gs p index k h got in
    (rest.0, rest.1, elim rest.2 [ inl w ↦ inl w | inr w ↦ inr (ap suc w.0, w.1) ])

pub turned_long : (gates : List GateValue) (p index : ℕ) → length (turned_gates gates p index) ≡ length gates
turned_long [] p index = refl
turned_long (g ∷ gs) zero index = refl
turned_long (g ∷ gs) (suc p) index = ap suc (turned_long gs p index)

pub turned_outs : (gates : List GateValue) (p index : ℕ) → map (λ (g : GateValue). g.out) (turned_gates gates p index) ≡ map (λ (g : GateValue). g.out) gates
turned_outs [] p index = refl
turned_outs (g ∷ gs) zero index = refl
turned_outs (g ∷ gs) (suc p) index = ap (λ (ns : List ℕ). g.out ∷ ns) (turned_outs gs p index)

-- a gate that differs at most in its table
pub turned_has : (gates : List GateValue) (p index : ℕ) (h : GateValue) → Has (turned_gates gates p index) h → (g : GateValue) × Has gates g × (g.out ≡ h.out) × (g.inputs ≡ h.inputs)
turned_has gates p index h has =
    let old = turned_get gates p index has.0 h has.1 in
    elim old.2 [
      | inl w ↦ (old.0, (has.0, old.1), ap (λ (g : GateValue). g.out) (sym w), ap (λ (g : GateValue). g.inputs) (sym w))
      | inr w ↦ (old.0, (has.0, old.1), ap (λ (g : GateValue). g.out) (sym w.1), ap (λ (g : GateValue). g.inputs) (sym w.1))
    ]

All_from : {X : Type 0} (P : X → Type 0) (xs : List X) → ((k : ℕ) (x : X) → slice_get xs k ≡ Some x → P x) → All P xs
All_from P xs each k d less = let at = get_below xs k less in subst P (sym (get_or_from_slice_get xs k at.0 d at.1)) (each k at.0 at.1)

pub turned_inside : (net : NetList) (p index : ℕ) (g : GateValue) → slice_get net.gates p ≡ Some g → index < 2 ^ length g.inputs → IsInside net → IsInside (turned net p index)
turned_inside net p index g got less inside =
    record {
      few_nets = inside.few_nets;
      few_gates = rw (turned_long net.gates p index) inside.few_gates;
      inputs = inside.inputs;
      outputs = inside.outputs;
      gates = All_from (GateIsInside (nets net)) (turned_gates net.gates p index) (λ k h got'. step k h (turned_get net.gates p index k h got'));
      latches = inside.latches;
      names = inside.names;
    }
  where
    step : (k : ℕ) (h : GateValue) → (f : GateValue) × (slice_get net.gates k ≡ Some f) × ((h ≡ f) ⊎ ((k ≡ p) × (h ≡ turned_gate f index))) → GateIsInside (nets net) h
    step k h (f, got', which) =
        let old : GateIsInside (nets net) f = All_has (GateIsInside (nets net)) net.gates f inside.gates (k, got') in
        let Q : GateValue → Type 0 = GateIsInside (nets net) in
        elim which [
          | inl w ↦ subst Q (sym w) old
          | inr w ↦
              let R : ℕ → Type 0 = λ q. slice_get net.gates q ≡ Some f in
              let at : slice_get net.gates p ≡ Some f = subst R w.0 got' in
              let same : f ≡ g = cc in
              let L : GateValue → Type 0 = λ x. index < 2 ^ length x.inputs in
              let less' : index < 2 ^ length f.inputs = subst L (sym same) less in
              subst Q (sym w.1) (old.0, old.1, old.2, turned_fits (length f.inputs) f.table index old.3 less')
        ]

needs_before : (net : NetList) (p index a b : ℕ) → Needs (turned net p index) a b → Needs net a b
needs_before net p index a b (h, has, out, input) =
    let old = turned_has net.gates p index h has in
    (old.0, old.1, old.2 ∙ out, subst (λ (ns : List ℕ). Has ns b) (sym old.3) input)

-- a table has no part in being sound
pub turned_sound : (net : NetList) (p index : ℕ) (g : GateValue) → slice_get net.gates p ≡ Some g → index < 2 ^ length g.inputs → IsSound net → IsSound (turned net p index)
turned_sound net p index g got less sound =
    record {
      inside = turned_inside net p index g got less sound.inside;
      one = λ n below. ap (λ (outs : List ℕ). times n (sources net ++ outs)) (turned_outs net.gates p index) ∙ sound.one n below;
      no_cycle = λ cycle. sound.no_cycle (cycle.0, cycle_weaker (Needs (turned net p index)) (Needs net) (needs_before net p index) cycle.0 cycle.1);
    }

pub turned_levels : (net : NetList) (p index : ℕ) (levels : Levels) → AreLevels net levels → AreLevels (turned net p index) levels
turned_levels net p index levels are =
    record {
      long = are.long;
      sources = are.sources;
      gates = λ h has. let old = turned_has net.gates p index h has in
          ap (level_at levels) (sym old.2) ∙ are.gates old.0 old.1 ∙ ap (level_over levels) old.3;
    }

pub turned_levelled : (net : NetList) (p index : ℕ) (levels : Levels) → AllHaveLevels net levels → AllHaveLevels (turned net p index) levels
turned_levelled net p index levels known =
    (turned_levels net p index levels known.0, λ h has none. let old = turned_has net.gates p index h has in known.1 old.0 old.1 (ap (level_at levels) old.2 ∙ none))
