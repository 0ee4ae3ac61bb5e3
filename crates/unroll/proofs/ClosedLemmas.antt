-- What reaches the output word of the unrolled net.
use Rattle.std.proofs.Common.{◌≡◌, ◌⊎◌, ◌∙◌, ap, sym, refl, subst, inl, inr, ℕ, ◌<◌, ◌≤◌, ◌+◌, true, false, not, List, [], ◌∷◌, ◌++◌, map, arith}
use Rattle.std.specs.Prelude.{◌==◌}
use Rattle.std.proofs.Common.{eq-eqb}
use Rattle.std.specs.List.{filter, range_with_len}
use Rattle.std.proofs.lemmas.List.{map-append}
use Rattle.lists.specs.Lists.{Has}
use Rattle.lists.specs.laws.BoolLaws.{not_true}
use Rattle.lists.specs.laws.HasLaws.{All_has, Has_cases, any_has, range_has}
use Rattle.lists.specs.laws.ReadLaws.{from_map}
use Rattle.graph_core.specs.Walk.{IsChain}
use Rattle.net_core.specs.GateValue.{GateValue}
use Rattle.net_core.specs.Inside.{LatchIsInside}
use Rattle.net_core.specs.LatchValue.{LatchValue}
use Rattle.net_core.specs.NetList.{NetList, nets}
use Rattle.net_core.specs.Sound.{IsSound, Needs}
use Rattle.net_core.proofs.DriverLemmas.{gate_inside}
use Rattle.net_words.specs.Binding.{Binding}
use Rattle.net_words.specs.BoundTo.{IsBoundTo, StandsOn, output_bits, output_bits_with}
use Rattle.net_words.specs.Feeds.{fed_nets, is_fed}
use Rattle.net_words.specs.OneCycle.{IsClosed}
use Rattle.net_words.specs.Reach.{Draws, Reaches, ReachesByGates}
use Rattle.net_words.specs.Rebind.{rebound}
use Rattle.net_words.specs.Variables.{bits}
use Rattle.net_words.specs.declared.bound.BoundWord.{BoundWord}
use Rattle.net_words.specs.declared.feed.Feed.{Feed}
use Rattle.net_words.specs.declared.feed.Source.{Source}
use Rattle.net_words.specs.declared.feed.Source.TheVariants.{Zero, One, Bit}
use Rattle.net_words.specs.declared.word.Role.{Role}
use Rattle.net_words.specs.declared.word.Role.TheVariants.{Input, State, Fed, Output}
use Rattle.net_words.proofs.MemberLemmas.{output_bits_word, word_bits}
use Rattle.unroll.specs.Gates.{bit_net, is_held, source_gate}
use Rattle.unroll.specs.Nets.{all_cycles, unrolled_inputs}
use Rattle.unroll.specs.Places.{net_at, cycle_nets, fed_bits, fed_count}
use Rattle.unroll.specs.Sources.{source_at}
use Rattle.unroll.specs.Unrolled.{nets_with, unrolled_nets}
use Rattle.unroll.proofs.PlaceLemmas.{at_below, bit_high, first_at, one_net}
use Rattle.unroll.proofs.LaidLemmas.{IsLaid, has_filter, laid, of_feed, of_gate, of_input, of_latch, of_start}
use Rattle.unroll.proofs.DrivenLemmas.{has_shift}
use Rattle.unroll.proofs.SoundLemmas.{one_of}
use Rattle.unroll.proofs.WordLemmas.{bits_fed, bits_up, fed_bare, moved, rebound_is}

-- one net is the other, or it is drawn from it over a chain of gates and latches
abbrev pub IsDrawn : NetList → ℕ → ℕ → Type 0
IsDrawn net a b = (a ≡ b) ⊎ ((over : List ℕ) × IsChain (Draws net) a over b)

chain_join : (R : ℕ → ℕ → Type 0) (a : ℕ) (over : List ℕ) (m : ℕ) (rest : List ℕ) (b : ℕ) → IsChain R a over m → IsChain R m rest b → IsChain R a (over ++ m ∷ rest) b
chain_join R a [] m rest b first second = (first, second)
chain_join R a (x ∷ over) m rest b first second = (first.0, chain_join R x over m rest b first.1 second)

drawn_join : (net : NetList) (a m b : ℕ) → IsDrawn net a m → IsDrawn net m b → IsDrawn net a b
drawn_join net a m b (inl same) second = let P : ℕ → Type 0 = λ x. IsDrawn net x b in subst P (sym same) second
drawn_join net a m b (inr first) (inl same) = let P : ℕ → Type 0 = λ x. IsDrawn net a x in subst P same (inr first)
drawn_join net a m b (inr first) (inr second) = inr (first.0 ++ m ∷ second.0, chain_join (Draws net) a first.0 m second.0 b first.1 second.1)

-- a net of a cycle, and what it is drawn from: a bit of a fed word, or a net of a cycle
pub record IsStep (net : NetList) (c x y : ℕ) : Type 0 where
  pub t : ℕ
  pub a : ℕ
  pub within : t ≤ c
  pub low : a < nets net
  pub at : net_at (nets net) t a ≡ x
  pub from : (cycle_nets (nets net) c ≤ y) ⊎ ((s : ℕ) × (b : ℕ) × (s ≤ c) × (b < nets net) × (net_at (nets net) s b ≡ y) × IsDrawn net a b)

source_step : (net : NetList) (b : Binding) (c s n y : ℕ) (source : Source) → s ≤ c → n < nets net → Has (source_gate net b c (net_at (nets net) s n) source).inputs y → IsStep net c (source_gate net b c (net_at (nets net) s n) source).out y
source_step net b c s n y Zero within low has = let got = has.1 in absurd (cc)
source_step net b c s n y One within low has = let got = has.1 in absurd (cc)
source_step net b c s n y (Bit w place) within low has =
    let same : bit_net net b c w place ≡ y = one_of y (bit_net net b c w place) has in
    record { t = s; a = n; within = within; low = low; at = refl; from = inl (omega (arith, same, bit_high b.k (cycle_nets (nets net) c) b.words w)) }

laid_step : (net : NetList) (b : Binding) (c : ℕ) (g : GateValue) (y : ℕ) → IsSound net → IsLaid net b c c g → Has g.inputs y → IsStep net c g.out y
laid_step net b c g y sound (of_feed s n within has fed) input = source_step net b c s n y (source_at b.feeds n s) within (All_has (λ m. m < nets net) net.inputs n sound.inside.inputs has) input
laid_step net b c g y sound (of_input s n less has unfed) input =
    let low : n < nets net = All_has (λ m. m < nets net) net.inputs n sound.inside.inputs has in
    let same : n ≡ y = one_of y n input in
    record { t = s + 1; a = n; within = omega (arith, less); low = low; at = refl; from = inr (0, n, omega arith, low, first_at (nets net) n ∙ same, inl refl) }
laid_step net b c g y sound (of_latch s l less has) input =
    let is = All_has (LatchIsInside (nets net)) net.latches l sound.inside.latches has in
    record { t = s + 1; a = l.out; within = omega (arith, less); low = is.1; at = refl; from = inr (s, l.next, omega (arith, less), is.0, one_of y (net_at (nets net) s l.next) input, inr ([], inr (l, has, refl, refl))) }
laid_step net b c g y sound (of_start l has free) input = let got = input.1 in absurd (cc)
laid_step net b c g y sound (of_gate s h within has) input =
    let is = gate_inside net h sound.inside has in
    let from = has_shift (nets net) s h.inputs y input in
    record { t = s; a = h.out; within = within; low = is.0; at = refl; from = inr (s, from.0, within, All_has (λ m. m < nets net) h.inputs from.0 is.1 from.1, from.2, inr ([], inl (h, has, refl, from.1))) }

needs_step : (net : NetList) (b : Binding) (c x y : ℕ) → IsSound net → Needs (all_cycles net b c) x y → IsStep net c x y
needs_step net b c x y sound (g, has, out, input) = let P : ℕ → Type 0 = λ m. IsStep net c m y in subst P out (laid_step net b c g y sound (laid net b c c g has) input)

-- a net of a cycle that is drawn from a net of the first cycle is drawn from it in the net list too
pub record IsFrom (net : NetList) (c x n : ℕ) : Type 0 where
  pub t : ℕ
  pub a : ℕ
  pub within : t ≤ c
  pub low : a < nets net
  pub at : net_at (nets net) t a ≡ x
  pub drawn : IsDrawn net a n

chain_from : (net : NetList) (b : Binding) (c x : ℕ) (over : List ℕ) (n : ℕ) → IsSound net → n < nets net → IsChain (Needs (all_cycles net b c)) x over n → IsFrom net c x n
chain_from net b c x [] n sound less chain =
    let step = needs_step net b c x n sound chain in
    elim step.from [
      | inl high ↦ absurd (omega (arith, high, at_below (nets net) c 0 n (omega arith) less, first_at (nets net) n))
      | inr low ↦
          let same : low.1 ≡ n = one_net (nets net) low.0 0 low.1 n low.3 less (low.4 ∙ sym (first_at (nets net) n)) in
          let P : ℕ → Type 0 = λ m. IsDrawn net step.a m in
          record { t = step.t; a = step.a; within = step.within; low = step.low; at = step.at; drawn = subst P same low.5 }
    ]
chain_from net b c x (d ∷ over) n sound less chain =
    let step = needs_step net b c x d sound chain.0 in
    let rest = chain_from net b c d over n sound less chain.1 in
    elim step.from [
      | inl high ↦ absurd (omega (arith, high, at_below (nets net) c rest.t rest.a rest.within rest.low, rest.at))
      | inr low ↦
          let same : low.1 ≡ rest.a = one_net (nets net) low.0 rest.t low.1 rest.a low.3 rest.low (low.4 ∙ sym rest.at) in
          let P : ℕ → Type 0 = λ m. IsDrawn net step.a m in
          record { t = step.t; a = step.a; within = step.within; low = step.low; at = step.at; drawn = drawn_join net step.a rest.a n (subst P same low.5) rest.drawn }
    ]

-- the output word is read in the last cycle
pub moved_output : (v c k base : ℕ) (words : List BoundWord) → output_bits (moved v c k base words) ≡ map (net_at v c) (output_bits words)
moved_output v c k base [] = refl
moved_output v c k base (word ∷ words) =
    ap (λ ns. output_bits_with word.role (nets_with v c k base word.role word.nets) ++ ns) (moved_output v c k (base + fed_bits k word.role) words)
    ∙ (ap (λ ns. ns ++ map (net_at v c) (output_bits words)) (own word.role)
    ∙ sym (map-append (net_at v c) (output_bits_with word.role word.nets) (output_bits words)))
  where
    own : (r : Role) → output_bits_with r (nets_with v c k base r word.nets) ≡ map (net_at v c) (output_bits_with r word.nets)
    own Input = refl
    own State = refl
    own Fed = refl
    own Output = refl

output_low : (net : NetList) (b : Binding) (n : ℕ) → IsBoundTo net b → Has (output_bits b.words) n → n < nets net
output_low net b n bound has =
    let found = output_bits_word b.words n has in
    let P : Role → Type 0 = λ r. StandsOn net r n in
    subst P found.3 (bound.places found.0 n found.1 found.2)

drawn_reaches : (net : NetList) (a n : ℕ) (ends : List ℕ) → Has ends a → IsDrawn net a n → Reaches net n ends
drawn_reaches net a n ends has (inl same) = let P : ℕ → Type 0 = λ m. Has ends m in inl (subst P same has)
drawn_reaches net a n ends has (inr chain) = inr (a, chain.0, has, chain.1)

-- what reaches the output word's net of the last cycle from a net of the first cycle reaches it in the net list
reaches_from : (net : NetList) (b : Binding) (c n : ℕ) → IsSound net → IsBoundTo net b → n < nets net → ReachesByGates (all_cycles net b c) n (map (net_at (nets net) c) (output_bits b.words)) → Reaches net n (output_bits b.words)
reaches_from net b c n sound bound less (inl has) =
    let from = has_shift (nets net) c (output_bits b.words) n has in
    let same : from.0 ≡ n = one_net (nets net) c 0 from.0 n (output_low net b from.0 bound from.1) less (from.2 ∙ sym (first_at (nets net) n)) in
    let P : ℕ → Type 0 = λ m. Has (output_bits b.words) m in
    inl (subst P same from.1)
reaches_from net b c n sound bound less (inr far) =
    let from = has_shift (nets net) c (output_bits b.words) far.0 far.2 in
    let is = chain_from net b c far.0 far.1 n sound less far.3 in
    let same : from.0 ≡ is.a = one_net (nets net) c is.t from.0 is.a (output_low net b from.0 bound from.1) is.low (from.2 ∙ sym is.at) in
    let P : ℕ → Type 0 = λ m. Has (output_bits b.words) m in
    drawn_reaches net is.a n (output_bits b.words) (subst P same from.1) is.drawn

-- a primary input of the unrolled net in no word is one of the net that is neither in a word nor fed
free_from : (net : NetList) (b : Binding) (c n : ℕ) → IsBoundTo net b → Has (unrolled_inputs net b c) n → (Has (bits (moved (nets net) c b.k (cycle_nets (nets net) c) b.words)) n → ⊥) → Has net.inputs n × (is_fed b.feeds n ≡ false) × (Has (bits b.words) n → ⊥)
free_from net b c n bound has none =
    let v : ℕ = nets net in
    let base : ℕ = cycle_nets (nets net) c in
    let frees : List ℕ = filter (λ m. not (is_fed b.feeds m)) net.inputs in
    let held : List LatchValue = filter (is_held b) net.latches in
    let range : List ℕ = range_with_len base (fed_count b.k b.words) in
    let up : Has (bits b.words) n → ⊥ = λ in_words. none (bits_up v c b.k base n b.words (fed_bare net b bound) in_words) in
    elim (Has_cases frees (map (λ l. l.out) held ++ range) n has) [
      | inl here ↦ let is = has_filter (λ m. not (is_fed b.feeds m)) net.inputs n here in (is.0, not_true (is_fed b.feeds n) is.1, up)
      | inr rest ↦ elim (Has_cases (map (λ l. l.out) held) range n rest) [
        | inl state ↦
            let from = from_map (λ (l : LatchValue). l.out) held state.0 n state.1 in
            let is = has_filter (is_held b) net.latches from.0 (state.0, from.1) in
            let P : ℕ → Type 0 = λ m. Has (bits b.words) m in
            absurd (up (subst P from.2 (word_bits State b.words from.0.out refl is.1)))
        | inr bit ↦ let is = range_has base (fed_count b.k b.words) n bit in absurd (none (bits_fed v c b.k base n b.words is.0 is.1))
      ]
    ]

-- no primary input in no word reaches the output word
pub closed : (net : NetList) (b : Binding) (c : ℕ) → IsSound net → IsBoundTo net b → IsClosed (all_cycles net b c) (rebound b.k b.words (unrolled_nets net b c))
closed net b c sound bound =
    let v : ℕ = nets net in
    let base : ℕ = cycle_nets (nets net) c in
    let same : rebound b.k b.words (unrolled_nets net b c) ≡ moved v c b.k base b.words = rebound_is v c b.k base b.words bound.parts.each in
    let P : List BoundWord → Type 0 = λ ws. IsClosed (all_cycles net b c) ws in
    let Q : List ℕ → ℕ → Type 0 = λ ends n. ReachesByGates (all_cycles net b c) n ends in
    subst P (sym same) (λ n has none reaches.
    let free = free_from net b c n bound has none in
    let low : n < nets net = All_has (λ m. m < nets net) net.inputs n sound.inside.inputs free.0 in
    let R : List ℕ → Type 0 = λ ends. Q ends n in
    bound.covered n free.0 free.2 (λ fed. not_fed n free.1 fed) (reaches_from net b c n sound bound low (subst R (moved_output v c b.k base b.words) reaches)))
  where
    not_fed : (n : ℕ) → is_fed b.feeds n ≡ false → Has (fed_nets b.feeds) n → ⊥
    not_fed n unfed fed =
        let from = from_map (λ (f : Feed). f.net) b.feeds fed.0 n fed.1 in
        let hit : is_fed b.feeds n ≡ true = any_has (λ (f : Feed). f.net == n) b.feeds from.0 (fed.0, from.1) (eq-eqb from.0.net n from.2) in
        absurd (cc)
