-- A net that was met in another order is sound, and the same by name.
use Rattle.std.proofs.Common.{◌≡◌, ◌∙◌, inl, inr, ap, sym, refl, subst, ℕ, ◌+◌, ◌^◌, ◌<◌, ◌≤◌, true, List, [], ◌∷◌, length, map, Option, Some, arith}
use Rattle.std.specs.Prelude.{◌≢◌, All, slice_get, unwrap_or}
use Rattle.std.specs.List.{AllZip}
use Rattle.std.specs.Option.{option_map_or}
use Rattle.std.proofs.lemmas.List.{length-map}
use Rattle.std.proofs.lemmas.Option.{slice_get-map}
use Rattle.lists.specs.Lists.{Has, times}
use Rattle.lists.specs.laws.HasLaws.{times_get, times_two}
use Rattle.lists.specs.laws.NumberLaws.{even, nat_eq_or}
use Rattle.lists.specs.laws.OptionLaws.{same_some}
use Rattle.lists.specs.laws.ReadLaws.{from_map, get_below}
use Rattle.lists.specs.laws.TestLaws.{none_here, one_here}
use Rattle.graph_core.specs.Walk.{IsChain}
use Rattle.net_core.specs.GateValue.{GateValue}
use Rattle.net_core.specs.LatchValue.{LatchValue}
use Rattle.net_core.specs.Inside.{GateIsInside, IsInside, IsNetName, LatchIsInside}
use Rattle.net_core.specs.NetList.{LabelValue, NetList, nets, number_of, text_of}
use Rattle.net_core.specs.Sound.{HasOneDriverEach, IsCycle, IsSound, Needs, driven, sources}
use Rattle.net_flat.proofs.PathLemmas.{place_named}
use Rattle.net_flat.specs.Flat.{Flat, net_list}
use Rattle.net_flat.specs.Paths.{label_of}
use Rattle.net_write.specs.Plain.{HasPlainNames, IsPlainName}
use Rattle.net_write.specs.SameByName.{IsSameByName, named_gate, named_latch}
use Rattle.net_write.specs.Written.{names_of}
use Rattle.net_write.proofs.MetLemmas.{GateAt, IsAt, LatchAt, Met, few, path_of, place_is}
use Rattle.net_write.proofs.PlainLemmas.{text_at, within}
use Rattle.net_write.proofs.ZipLemmas.{zip_append, zip_each, zip_has, zip_length, zip_map, zip_same}

module _ (net : NetList) (sound : IsSound net) (plain : HasPlainNames net) (order : List ℕ) (flat : Flat) (met : Met net order flat net) where
  abbrev pub again : NetList
  again = net_list flat

  abbrev label : ℕ → LabelValue
  label n = record { text = text_of net n; named = true }

  labels_are : (ns : List ℕ) → map label_of (map (path_of net) ns) ≡ map label ns
  labels_are [] = refl
  labels_are (n ∷ ns) = ap (λ (l : List LabelValue). label n ∷ l) (labels_are ns)

  -- the nets are those of the order
  pub labels : again.labels ≡ map label order
  labels = ap (map label_of) met.paths ∙ labels_are order

  long : nets again ≡ length order
  long = ap length labels ∙ length-map order label

  -- a net has one number
  apart : (m k n : ℕ) → IsAt order m n → IsAt order k n → m ≡ k
  apart m k n first second = even m k (λ less. omega (arith, met.once n, times_two n order m k first second less)) (λ less. omega (arith, met.once n, times_two n order k m second first less))

  in_order : (m n : ℕ) → IsAt order m n → m < nets again
  in_order m n at = omega (arith, long, within order m n at)

  -- the same name
  text_is : (m n : ℕ) → IsAt order m n → text_of again m ≡ text_of net n
  text_is m n at =
      let there : slice_get (map label order) m ≡ Some (label n) = slice_get-map label order m ∙ rw at refl in
      ap (λ (ls : List LabelValue). option_map_or (λ (l : LabelValue). l.text) (slice_get ls m) []) labels ∙ ap (λ (o : Option LabelValue). option_map_or (λ (l : LabelValue). l.text) o []) there

  names_are : (ms ns : List ℕ) → AllZip (IsAt order) ms ns → names_of again ms ≡ names_of net ns
  names_are ms ns all = zip_same (IsAt order) (text_of again) (text_of net) text_is ms ns all

  gate_same : (g h : GateValue) → GateAt order g h → named_gate again g ≡ named_gate net h
  gate_same g h at =
      ap (λ (n : List ℕ). record { out = n; inputs = names_of again g.inputs; table = g.table }) (text_is g.out h.out at.out)
      ∙ ap (λ (l : List (List ℕ)). record { out = text_of net h.out; inputs = l; table = g.table }) (names_are g.inputs h.inputs at.inputs)
      ∙ ap (λ (t : ℕ). record { out = text_of net h.out; inputs = names_of net h.inputs; table = t }) at.table

  latch_same : (l k : LatchValue) → LatchAt order l k → named_latch again l ≡ named_latch net k
  latch_same l k at = rw (text_is l.next k.next at.next, text_is l.out k.out at.out, at.start) refl

  pub same_by_name : IsSameByName net again
  same_by_name = record {
    inputs = names_are flat.inputs net.inputs met.inputs;
    outputs = names_are flat.outputs net.outputs met.outputs;
    latches = zip_same (LatchAt order) (named_latch again) (named_latch net) latch_same flat.latches net.latches met.latches;
    gates = zip_same (GateAt order) (named_gate again) (named_gate net) gate_same flat.gates net.gates met.gates;
  }

  few_again : nets again ≤ 2 ^ 20
  few_again = omega (arith, long, few (nets net) order met.below met.once, sound.inside.few_nets)

  gate_inside : (g h : GateValue) → GateAt order g h → GateIsInside (nets net) h → GateIsInside (nets again) g
  gate_inside g h at inside =
      let same : length g.inputs ≡ length h.inputs = zip_length (IsAt order) g.inputs h.inputs at.inputs in
      let below : All (λ m. m < nets again) g.inputs = zip_each (IsAt order) (λ m. m < nets again) (λ n. n < nets net) (λ m n at _. in_order m n at) g.inputs h.inputs at.inputs inside.1 in
      (in_order g.out h.out at.out, below, omega (arith, same, inside.2), rw (same, at.table) inside.3)

  name_fits : (n : ℕ) → n < nets net → IsNetName (text_of net n)
  name_fits n low =
      let l = get_below net.labels n low in
      rw (text_at net n l.0 l.1) (sound.inside.names n l.0 l.1 (plain n l.0 l.1).0).0

  -- a net that was met is found by its name
  found_again : (m n : ℕ) → IsAt order m n → number_of again (text_of net n) ≡ Some m
  found_again m n at =
      place_named 0 flat.paths (text_of net n) ∙ elim (place_is net sound plain 0 order n (met.below m n at) met.below) [
        | inl none ↦ absurd (omega (arith, none.1, times_get n order m at))
        | inr some ↦ let same : 0 + some.0 ≡ m = omega (arith, apart some.0 m n some.2 at) in rw met.paths (some.1 ∙ ap Some same)
      ]

  names_again : (m : ℕ) (l : LabelValue) → slice_get again.labels m ≡ Some l → l.named ≡ true → IsNetName l.text × (number_of again l.text ≡ Some m)
  names_again m l at named =
      let there : slice_get (map label order) m ≡ Some l = ap (λ (ls : List LabelValue). slice_get ls m) (sym labels) ∙ at in
      let that = from_map label order m l there in
      let P : LabelValue → Type 0 = λ l. IsNetName l.text × (number_of again l.text ≡ Some m) in
      subst P that.2 (name_fits that.0 (met.below m that.0 that.1), found_again m that.0 that.1)

  -- all nets are named, and plainly
  pub plain_again : HasPlainNames again
  plain_again m l at =
      let there : slice_get (map label order) m ≡ Some l = ap (λ (ls : List LabelValue). slice_get ls m) (sym labels) ∙ at in
      let that = from_map label order m l there in
      let old = get_below net.labels that.0 (met.below m that.0 that.1) in
      let P : LabelValue → Type 0 = λ l. (l.named ≡ true) × IsPlainName l.text in
      let name : IsPlainName (text_of net that.0) = rw (text_at net that.0 old.0 old.1) (plain that.0 old.0 old.1).1 in
      subst P that.2 (refl, name)

  inside_again : IsInside again
  inside_again = record {
    few_nets = few_again;
    few_gates = omega (arith, zip_length (GateAt order) flat.gates net.gates met.gates, zip_length (LatchAt order) flat.latches net.latches met.latches, sound.inside.few_gates);
    inputs = zip_each (IsAt order) (λ m. m < nets again) (λ n. n < nets net) (λ m n at _. in_order m n at) flat.inputs net.inputs met.inputs sound.inside.inputs;
    outputs = zip_each (IsAt order) (λ m. m < nets again) (λ n. n < nets net) (λ m n at _. in_order m n at) flat.outputs net.outputs met.outputs sound.inside.outputs;
    gates = zip_each (GateAt order) (GateIsInside (nets again)) (GateIsInside (nets net)) gate_inside flat.gates net.gates met.gates sound.inside.gates;
    latches = zip_each (LatchAt order) (LatchIsInside (nets again)) (LatchIsInside (nets net)) (λ l k at _. (in_order l.next k.next at.next, in_order l.out k.out at.out)) flat.latches net.latches met.latches sound.inside.latches;
    names = names_again;
  }

  -- as often driven
  times_same : (m n : ℕ) → IsAt order m n → (xs ys : List ℕ) → AllZip (IsAt order) xs ys → times m xs ≡ times n ys
  times_same m n at [] [] all = refl
  times_same m n at [] (y ∷ ys) all = absurd all
  times_same m n at (x ∷ xs) [] all = absurd all
  times_same m n at (x ∷ xs) (y ∷ ys) all = elim (nat_eq_or x m) [
    | inl same ↦ let other : y ≡ n = same_some y n (sym all.0 ∙ (ap (slice_get order) same ∙ at)) in omega (arith, one_here m x same, one_here n y other, times_same m n at xs ys all.1)
    | inr unlike ↦ let other : y ≢ n = λ e. unlike (apart x m n (all.0 ∙ ap Some e) at) in omega (arith, none_here m x unlike, none_here n y other, times_same m n at xs ys all.1)
  ]

  driven_are : AllZip (IsAt order) (driven again) (driven net)
  driven_are =
      let latches : AllZip (IsAt order) (map (λ l. l.out) again.latches) (map (λ l. l.out) net.latches) = zip_map (LatchAt order) (IsAt order) (λ (l : LatchValue). l.out) (λ (l : LatchValue). l.out) (λ l k at. at.out) flat.latches net.latches met.latches in
      let gates : AllZip (IsAt order) (map (λ g. g.out) again.gates) (map (λ g. g.out) net.gates) = zip_map (GateAt order) (IsAt order) (λ (g : GateValue). g.out) (λ (g : GateValue). g.out) (λ g h at. at.out) flat.gates net.gates met.gates in
      zip_append (IsAt order) (sources again) (sources net) (map (λ g. g.out) again.gates) (map (λ g. g.out) net.gates)
      (zip_append (IsAt order) again.inputs net.inputs (map (λ l. l.out) again.latches) (map (λ l. l.out) net.latches) met.inputs latches) gates

  one_again : HasOneDriverEach again
  one_again m below =
      let that = get_below order m (omega (arith, below, long)) in
      times_same m that.0 that.1 (driven again) (driven net) driven_are ∙ sound.one that.0 (met.below m that.0 that.1)

  -- the number that a net had
  abbrev back : ℕ → ℕ
  back m = unwrap_or (slice_get order m) 0

  back_is : (m n : ℕ) → IsAt order m n → back m ≡ n
  back_is m n at = rw at refl

  needs_back : (a b : ℕ) → Needs again a b → Needs net (back a) (back b)
  needs_back a b (g, has, out, reads) =
      let old = zip_has (GateAt order) flat.gates net.gates met.gates g has in
      let read = zip_has (IsAt order) g.inputs old.0.inputs old.2.inputs b reads in
      let drives : IsAt order a old.0.out = ap (slice_get order) (sym out) ∙ old.2.out in
      let P : ℕ → Type 0 = λ n. Has old.0.inputs n in
      (old.0, old.1, sym (back_is a old.0.out drives), subst P (sym (back_is b read.0 read.2)) read.1)

  chain_back : (a : ℕ) (between : List ℕ) (b : ℕ) → IsChain (Needs again) a between b → IsChain (Needs net) (back a) (map back between) (back b)
  chain_back a [] b chain = needs_back a b chain
  chain_back a (m ∷ ms) b chain = (needs_back a m chain.0, chain_back m ms b chain.1)

  cycle_back : (cycle : List ℕ) → IsCycle again cycle → IsCycle net (map back cycle)
  cycle_back [] cycle = absurd cycle
  cycle_back (a ∷ rest) cycle = chain_back a rest a cycle

  pub sound_again : IsSound again
  sound_again = record { inside = inside_again; one = one_again; no_cycle = λ has. sound.no_cycle (map back has.0, cycle_back has.0 has.1) }
