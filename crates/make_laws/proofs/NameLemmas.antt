-- Nets with the same names are the same but for their numbers.
use Rattle.std.proofs.Common.{◌≡◌, ◌∙◌, ap, sym, refl, subst, inl, inr, ℕ, zero, suc, ◌+◌, ◌<◌, Bool, true, false, cond, List, [], ◌∷◌, ◌++◌, map, Option, None, Some, arith}
use Rattle.std.specs.Prelude.{slice_get, unwrap_or}
use Rattle.std.specs.Option.{option_map}
use Rattle.std.specs.Str.{bytes_eq}
use Rattle.std.proofs.lemmas.Slice.Eq.{bytes_eq-Decides}
use Rattle.lists.specs.Lists.{Has}
use Rattle.lists.specs.laws.BoolLaws.{second_true}
use Rattle.lists.specs.laws.HasLaws.{All_has, Has_cases, times_some}
use Rattle.lists.specs.laws.OptionLaws.{same_some}
use Rattle.lists.specs.laws.ReadLaws.{from_map, get_below}
use Rattle.net_core.specs.GateValue.{GateValue}
use Rattle.net_core.specs.Inside.{GateIsInside, IsInside, LatchIsInside}
use Rattle.net_core.specs.LatchValue.{LatchValue}
use Rattle.net_core.specs.NetList.{LabelValue, NetList, is_named, nets, number_from, number_of, text_of}
use Rattle.net_core.specs.Sound.{IsSound, driven, sources}
use Rattle.net_core.proofs.NameLemmas.{number_below}
use Rattle.net_write.specs.Plain.{HasPlainNames}
use Rattle.net_write.specs.SameByName.{IsSameByName, NamedGate, NamedLatch, named_gate, named_latch}
use Rattle.net_write.specs.Written.{names_of}
use Rattle.net_write.proofs.PlainLemmas.{text_at}
use Rattle.make_laws.specs.Renumbering.{IsRenumbering, gate_under, latch_under}
use Rattle.make_laws.proofs.NumberListLemmas.{map_both, map_join, map_same}

-- ---- names

-- the net that a name finds has it
found : (n : ℕ) (labels : List LabelValue) (name : List ℕ) (k : ℕ) → number_from n labels name ≡ Some k → (i : ℕ) × (label : LabelValue) × (k ≡ n + i) × (slice_get labels i ≡ Some label) × (label.text ≡ name)
found n [] name k e = absurd (cc)
found n (label ∷ labels) name k e = by (is_named name label) refl e (λ e. found (n + 1) labels name k e)
  where
    later : (i : ℕ) × (other : LabelValue) × (k ≡ n + 1 + i) × (slice_get labels i ≡ Some other) × (other.text ≡ name) → (i : ℕ) × (other : LabelValue) × (k ≡ n + i) × (slice_get (label ∷ labels) i ≡ Some other) × (other.text ≡ name)
    later more = (suc more.0, more.1, omega (arith, more.2), more.3, more.4)

    here : n ≡ k → is_named name label ≡ true → (i : ℕ) × (other : LabelValue) × (k ≡ n + i) × (slice_get (label ∷ labels) i ≡ Some other) × (other.text ≡ name)
    here same is = (0, label, omega (arith, same), refl, sym ((bytes_eq-Decides name label.text).0 (second_true label.named (bytes_eq name label.text) is)))

    by : (b : Bool) → is_named name label ≡ b → cond b (Some n) (number_from (n + 1) labels name) ≡ Some k → (number_from (n + 1) labels name ≡ Some k → (i : ℕ) × (other : LabelValue) × (k ≡ n + 1 + i) × (slice_get labels i ≡ Some other) × (other.text ≡ name)) → (i : ℕ) × (other : LabelValue) × (k ≡ n + i) × (slice_get (label ∷ labels) i ≡ Some other) × (other.text ≡ name)
    by true is e more = here (same_some n k e) is
    by false is e more = later (more e)

pub found_net : (net : NetList) (name : List ℕ) (k : ℕ) → number_of net name ≡ Some k → (k < nets net) × (text_of net k ≡ name)
found_net net name k e =
    let that = found 0 net.labels name k e in
    let place : that.0 ≡ k = omega (arith, that.2) in
    let P : ℕ → Type 0 = λ n. slice_get net.labels n ≡ Some that.1 in
    (omega (arith, number_below 0 net.labels name k e), text_at net k that.1 (subst P place that.3) ∙ that.4)

-- where all nets are named, each is found by its name
pub finds : (net : NetList) → IsSound net → HasPlainNames net → (n : ℕ) → n < nets net → number_of net (text_of net n) ≡ Some n
finds net sound plain n low =
    let l = get_below net.labels n low in
    ap (number_of net) (text_at net n l.0 l.1) ∙ (sound.inside.names n l.0 l.1 (plain n l.0 l.1).0).1

-- ---- the number of a name

abbrev number : NetList → List ℕ → ℕ
number net name = unwrap_or (number_of net name) 0

number_is : (net : NetList) → IsSound net → HasPlainNames net → (n : ℕ) → n < nets net → number net (text_of net n) ≡ n
number_is net sound plain n low = ap (λ (o : Option ℕ). unwrap_or o 0) (finds net sound plain n low)

numbers_are : (net : NetList) → IsSound net → HasPlainNames net → (ns : List ℕ) → ((n : ℕ) → Has ns n → n < nets net) → map (number net) (names_of net ns) ≡ ns
numbers_are net sound plain ns low = map_both (number net) (text_of net) ns ∙ map_same (λ n. number net (text_of net n)) ns (λ n has. number_is net sound plain n (low n has))

-- ---- what drives nets

driven_low : (net : NetList) → IsInside net → (n : ℕ) → Has (driven net) n → n < nets net
driven_low net inside n has = elim (Has_cases (sources net) (map (λ (g : GateValue). g.out) net.gates) n has) [
  | inl source ↦ elim (Has_cases net.inputs (map (λ (l : LatchValue). l.out) net.latches) n source) [
    | inl input ↦ All_has (λ m. m < nets net) net.inputs n inside.inputs input
    | inr latch ↦ (let l = from_map (λ (l : LatchValue). l.out) net.latches latch.0 n latch.1 in let low = (All_has (LatchIsInside (nets net)) net.latches l.0 inside.latches (latch.0, l.1)).1 in omega (arith, low, l.2))
  ]
  | inr gate ↦ (let g = from_map (λ (g : GateValue). g.out) net.gates gate.0 n gate.1 in let low = (All_has (GateIsInside (nets net)) net.gates g.0 inside.gates (gate.0, g.1)).0 in omega (arith, low, g.2))
]

module _ (net other : NetList) (same : IsSameByName net other) where
  gate_outs : map (text_of other) (map (λ (g : GateValue). g.out) other.gates) ≡ map (text_of net) (map (λ (g : GateValue). g.out) net.gates)
  gate_outs =
      map_both (text_of other) (λ (g : GateValue). g.out) other.gates
      ∙ sym (map_both (λ (g : NamedGate). g.out) (named_gate other) other.gates)
      ∙ ap (λ (gs : List NamedGate). map (λ (g : NamedGate). g.out) gs) same.gates
      ∙ map_both (λ (g : NamedGate). g.out) (named_gate net) net.gates
      ∙ sym (map_both (text_of net) (λ (g : GateValue). g.out) net.gates)

  latch_outs : map (text_of other) (map (λ (l : LatchValue). l.out) other.latches) ≡ map (text_of net) (map (λ (l : LatchValue). l.out) net.latches)
  latch_outs =
      map_both (text_of other) (λ (l : LatchValue). l.out) other.latches
      ∙ sym (map_both (λ (l : NamedLatch). l.out) (named_latch other) other.latches)
      ∙ ap (λ (ls : List NamedLatch). map (λ (l : NamedLatch). l.out) ls) same.latches
      ∙ map_both (λ (l : NamedLatch). l.out) (named_latch net) net.latches
      ∙ sym (map_both (text_of net) (λ (l : LatchValue). l.out) net.latches)

  -- what is driven has the same names
  driven_same : map (text_of other) (driven other) ≡ map (text_of net) (driven net)
  driven_same =
      map_join (text_of other) (sources other) (map (λ (g : GateValue). g.out) other.gates)
      ∙ (λ i. map_join (text_of other) other.inputs (map (λ (l : LatchValue). l.out) other.latches) i ++ map (text_of other) (map (λ (g : GateValue). g.out) other.gates))
      ∙ (λ i. (same.inputs i ++ latch_outs i) ++ gate_outs i)
      ∙ (λ i. sym (map_join (text_of net) net.inputs (map (λ (l : LatchValue). l.out) net.latches)) i ++ map (text_of net) (map (λ (g : GateValue). g.out) net.gates))
      ∙ sym (map_join (text_of net) (sources net) (map (λ (g : GateValue). g.out) net.gates))

-- each net has the name of one of the others, where what is driven has the same names
named_there : (a b : NetList) → IsSound a → IsSound b → map (text_of a) (driven a) ≡ map (text_of b) (driven b) → (m : ℕ) → m < nets a → (n : ℕ) × (n < nets b) × (text_of b n ≡ text_of a m)
named_there a b sound sound' same m low =
    let one = sound.one m low in
    let has = times_some m (driven a) (omega (arith, one)) in
    let Q : List (List ℕ) → Type 0 = λ ts. slice_get ts has.0 ≡ Some (text_of a m) in
    let there = from_map (text_of b) (driven b) has.0 (text_of a m) (subst Q same (there_in (driven a) has.0 has.1)) in
    (there.0, driven_low b sound'.inside there.0 (has.0, there.1), there.2)
  where
    there_in : (ns : List ℕ) (k : ℕ) → slice_get ns k ≡ Some m → slice_get (map (text_of a) ns) k ≡ Some (text_of a m)
    there_in [] k got = absurd (cc)
    there_in (n ∷ ns) zero got = ap (λ x. Some (text_of a x)) (same_some n m got)
    there_in (n ∷ ns) (suc k) got = there_in ns k got

-- ---- the renumbering

module _ (net other : NetList) (sound : IsSound net) (sound' : IsSound other) (plain : HasPlainNames net) (plain' : HasPlainNames other) (same : IsSameByName net other) where
  -- the net of the first that has the name of a net of the second
  abbrev pub by_name : ℕ → ℕ
  by_name m = number net (text_of other m)

  there : (m : ℕ) → m < nets other → (by_name m < nets net) × (text_of net (by_name m) ≡ text_of other m)
  there m low =
      let at = named_there other net sound' sound (driven_same net other same) m low in
      let is : by_name m ≡ at.0 = ap (number net) (sym at.2) ∙ number_is net sound plain at.0 at.1 in
      let P : ℕ → Type 0 = λ n. (n < nets net) × (text_of net n ≡ text_of other m) in
      subst P (sym is) (at.1, at.2)

  one_name : (m n : ℕ) → m < nets other → n < nets other → by_name m ≡ by_name n → m ≡ n
  one_name m n low low' e =
      same_some m n (sym (finds other sound' plain' m low) ∙ ap (number_of other) (sym (there m low).1 ∙ ap (text_of net) e ∙ (there n low').1) ∙ finds other sound' plain' n low')

  back : (n : ℕ) → n < nets net → (m : ℕ) × (m < nets other) × (by_name m ≡ n)
  back n low =
      let at = named_there net other sound sound' (sym (driven_same net other same)) n low in
      (at.0, at.1, ap (number net) at.2 ∙ number_is net sound plain n low)

  names_found : (name : List ℕ) → number_of net name ≡ option_map by_name (number_of other name)
  names_found name = by (number_of other name) (number_of net name) refl refl
    where
      by : (theirs ours : Option ℕ) → number_of other name ≡ theirs → number_of net name ≡ ours → ours ≡ option_map by_name theirs
      by (Some m) ours is is' =
          let at = found_net other name m is in
          sym is' ∙ ap (number_of net) (sym at.1 ∙ sym (there m at.0).1) ∙ finds net sound plain (by_name m) (there m at.0).0
      by None None is is' = refl
      by None (Some n) is is' =
          let at = found_net net name n is' in
          let m = named_there net other sound sound' (sym (driven_same net other same)) n at.0 in
          let hit : number_of other name ≡ Some m.0 = ap (number_of other) (sym at.1 ∙ sym m.2) ∙ finds other sound' plain' m.0 m.1 in
          absurd (let wrong = sym is ∙ hit in cc)

  nets_same : (ms ns : List ℕ) → names_of other ms ≡ names_of net ns → ((n : ℕ) → Has ns n → n < nets net) → ns ≡ map by_name ms
  nets_same ms ns e low = sym (numbers_are net sound plain ns low) ∙ ap (λ (ts : List (List ℕ)). map (number net) ts) (sym e) ∙ map_both (number net) (text_of other) ms

  gate_back : NamedGate → GateValue
  gate_back g = record { out = number net g.out; inputs = map (number net) g.inputs; table = g.table }

  latch_back : NamedLatch → LatchValue
  latch_back l = record { next = number net l.next; out = number net l.out; start = l.start }

  gates_same : net.gates ≡ map (gate_under by_name) other.gates
  unfolding gate_back
  gates_same =
      sym (map_same (λ g. gate_back (named_gate net g)) net.gates own)
      ∙ sym (map_both gate_back (named_gate net) net.gates)
      ∙ ap (λ (gs : List NamedGate). map gate_back gs) (sym same.gates)
      ∙ map_both gate_back (named_gate other) other.gates
      ∙ ap (λ (u : GateValue → GateValue). map u other.gates) (λ i g. record { out = by_name g.out; inputs = map_both (number net) (text_of other) g.inputs i; table = g.table })
    where
      own : (g : GateValue) → Has net.gates g → gate_back (named_gate net g) ≡ g
      own g has =
          let inside = All_has (GateIsInside (nets net)) net.gates g sound.inside.gates has in
          (λ i. record { out = number_is net sound plain g.out inside.0 i; inputs = numbers_are net sound plain g.inputs (λ n at. All_has (λ m. m < nets net) g.inputs n inside.1 at) i; table = g.table })

  latches_same : net.latches ≡ map (latch_under by_name) other.latches
  unfolding latch_back
  latches_same =
      sym (map_same (λ l. latch_back (named_latch net l)) net.latches own)
      ∙ sym (map_both latch_back (named_latch net) net.latches)
      ∙ ap (λ (ls : List NamedLatch). map latch_back ls) (sym same.latches)
      ∙ map_both latch_back (named_latch other) other.latches
    where
      own : (l : LatchValue) → Has net.latches l → latch_back (named_latch net l) ≡ l
      own l has =
          let inside = All_has (LatchIsInside (nets net)) net.latches l sound.inside.latches has in
          (λ i. record { next = number_is net sound plain l.next inside.0 i; out = number_is net sound plain l.out inside.1 i; start = l.start })

  pub renumbered : IsRenumbering by_name other net
  renumbered = record {
    below = λ m low. (there m low).0;
    apart = one_name;
    onto = back;
    names = names_found;
    inputs = nets_same other.inputs net.inputs same.inputs (λ n has. All_has (λ m. m < nets net) net.inputs n sound.inside.inputs has);
    outputs = nets_same other.outputs net.outputs same.outputs (λ n has. All_has (λ m. m < nets net) net.outputs n sound.inside.outputs has);
    latches = latches_same;
    gates = gates_same;
  }
