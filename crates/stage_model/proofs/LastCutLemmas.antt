-- The last cut is the output at the input whose bits the point has.
use Rattle.std.proofs.Common.{◌≡◌, ◌∙◌, sym, refl, subst, ℕ, zero, suc, ◌<◌, ◌+◌, ◌↔◌, Bool, List, [], length, Some, reverse, arith}
use Rattle.std.specs.Prelude.{slice_get}
use Rattle.std.proofs.Math.ListN.{replicate}
use Rattle.std.proofs.lemmas.List.{reverse-reverse, length-replicate}
use Rattle.std.proofs.lemmas.List.Sorted.{Contains-permutation, IsPermutation-reverse}
use Rattle.std.specs.Prelude.{Contains}
use Rattle.std.proofs.lemmas.Option.{slice_get_within, get_or_from_slice_get}
use Rattle.lists.specs.Lists.{Has}
use Rattle.lists.specs.laws.ReadLaws.{got_at}
use Rattle.net_core.specs.GateValue.{GateValue}
use Rattle.net_core.specs.NetList.{NetList, nets}
use Rattle.net_core.specs.Sound.{sources}
use Rattle.net_core.specs.Order.{IsElimination}
use Rattle.net_core.specs.Value.{bit_of, IsConsistent}
use Rattle.net_core.proofs.DriverLemmas.{source_no_gate}
use Rattle.circuit_model.specs.declared.circuit_feed.CircuitFeed.{CircuitFeed}
use Rattle.circuit_model.specs.Feeds.{fed_nets}
use Rattle.circuit_model.specs.Word.{Word, HasElement}
use Rattle.circuit_model.specs.Circuit.{Circuit, IsInput}
use Rattle.circuit_model.specs.WellFormed.{IsWellFormed}
use Rattle.circuit_model.specs.Run.{IsClockCycle, IsFirst, IsOpenRun}
use Rattle.circuit_model.specs.Out.{Ends, IsOut}
use Rattle.circuit_model.proofs.OutLemmas.{open_out}
use Rattle.circuit_model.proofs.SourceLemmas.{source_inside, stands_source}
use Rattle.net_core.proofs.SharedLemmas.{no_latch}
use Rattle.poly_mixed.specs.Polynomial.{Point}
use Rattle.stage_model.specs.Variables.{point_bits, variables_of}
use Rattle.stage_model.specs.InputPoint.{IsAtInput}
use Rattle.stage_model.specs.Cut.{IsAmongFirst, IsSettled, CutOf}
use Rattle.stage_model.proofs.EliminationLemmas.{some_elimination, elimination_long}
use Rattle.stage_model.proofs.SettleLemmas.{some_settled}
use Rattle.stage_model.proofs.PointLemmas.{point_bits_at, same_word}

has_reverse : (xs : List ℕ) (x : ℕ) → Has (reverse xs) x → Has xs x
has_reverse xs x has =
    let there : Contains (reverse xs) x = (has.0, slice_get_within (reverse xs) has.0 x has.1, get_or_from_slice_get (reverse xs) has.0 x x has.1) in
    let after = Contains-permutation (reverse xs) (reverse (reverse xs)) x (IsPermutation-reverse (reverse xs)) there in
    let P : List ℕ → Type 0 = λ ys. Has ys x in
    subst P (reverse-reverse xs) (after.0, got_at (reverse (reverse xs)) after.0 x x after.1 after.2)

-- each gate is among the first, where so many are taken as there are
pub each_gate : (net : NetList) (order : List ℕ) → IsElimination net order → (g : GateValue) → Has net.gates g → IsAmongFirst net order (length net.gates) g
each_gate net order is g has =
    let at = has_reverse order has.0 (is.2.each has.0 g has.1) in
    (at.0, has.0, omega (arith, slice_get_within order at.0 has.0 at.1, elimination_long net order is), at.1, has.1)

all_same : (m t : ℕ) (x y : List Bool) → slice_get (replicate m x) t ≡ Some y → x ≡ y
all_same zero t x y got = absurd (cc)
all_same (suc m) zero x y got = cc
all_same (suc m) (suc t) x y got = all_same m t x y got

all_there : (m t : ℕ) (x : List Bool) → t < m → slice_get (replicate m x) t ≡ Some x
all_there zero t x less = absurd (omega arith)
all_there (suc m) zero x less = refl
all_there (suc m) (suc t) x less = all_there m t x (omega arith)

none_fed : (n : ℕ) → Has (fed_nets []) n → ⊥
none_fed n has = let got = has.1 in absurd (cc)

module _ (c : Circuit) (well : IsWellFormed c) (flat : c.net.latches ≡ []) (p : Point) where
  module _ (order : List ℕ) (elimination : IsElimination c.net order) (bits : List Bool) (settled : IsSettled c.net (variables_of c) order (length c.net.gates) p bits) where
    consistent : IsConsistent c.net bits
    consistent = record { long = settled.long; gates = λ g has. settled.right g (each_gate c.net order elimination g has) }

    source_bit : (n : ℕ) → Has (sources c.net) n → bit_of bits n ≡ bit_of (point_bits (nets c.net) (variables_of c) p) n
    source_bit n has =
        let less = source_inside c.net well.sound n has in
        settled.free n less (λ g is out. source_no_gate c.net n g well.sound.inside well.sound.one has (is.1, is.4) out) ∙ sym (point_bits_at (nets c.net) (variables_of c) p n less)

    module _ (xs : List ℕ) (input : IsInput c xs) (is : IsAtInput c xs p) where
      run : List (List Bool)
      run = replicate (c.cycles + 1) bits

      in_word : (i : ℕ) (w : Word) (x : ℕ) → slice_get c.words i ≡ Some w → slice_get xs i ≡ Some x → HasElement bits w x
      in_word i w x got at =
          same_word (point_bits (nets c.net) (variables_of c) p) bits w x
          (λ n has. sym (source_bit n (stands_source c.net w.role n (well.inner w (i, got)) (well.places w n (i, got) has)))) (is i w x got at tt)

      cycle : (t : ℕ) → IsClockCycle c xs t bits
      cycle t = record {
        consistent = consistent;
        inputs = λ i w x got at role. in_word i w x got at;
        feeds = λ n fed. let P : List CircuitFeed → Type 0 = λ fs. Has (fed_nets fs) n in absurd (none_fed n (subst P well.unfed fed));
      }

      first : IsFirst c xs bits
      first = record { states = λ i w x got at is. in_word i w x got at; latches = λ l has none. absurd (no_latch c.net.latches l flat has) }

      open_run : IsOpenRun c xs run
      unfolding run
      open_run = record {
        input = input;
        long = length-replicate {A = List Bool} (c.cycles + 1) bits;
        each = λ t u got. let P : List Bool → Type 0 = λ v. IsClockCycle c xs t v in subst P (all_same (c.cycles + 1) t bits u got) (cycle t);
        first = λ u got. let P : List Bool → Type 0 = λ v. IsFirst c xs v in subst P (all_same (c.cycles + 1) 0 bits u got) first;
        next = λ t u v at_u at_v. λ l has. absurd (no_latch c.net.latches l flat has);
      }

      ends : (e : ℕ) → HasElement bits c.output e → Ends c run e
      unfolding run
      ends e element = record { last = bits; at = all_there (c.cycles + 1) c.cycles bits (omega arith); element = element }

      ended : (e : ℕ) → Ends c run e → HasElement bits c.output e
      unfolding run
      ended e end = let P : List Bool → Type 0 = λ v. HasElement v c.output e in subst P (sym (all_same (c.cycles + 1) c.cycles bits end.last end.at)) end.element

      pub settled_out : (e : ℕ) → HasElement bits c.output e ↔ IsOut c xs e
      settled_out e =
          let both = open_out c xs run e well open_run in
          ((λ element. both.0 (ends e element)), λ out. ended e (both.1 out))

  pub last_cut : (xs : List ℕ) (e : ℕ) → IsInput c xs → IsAtInput c xs p → CutOf c (length c.net.gates) p e ↔ IsOut c xs e
  last_cut xs e input is = (
    (λ cut. (settled_out cut.order cut.elimination cut.bits cut.settled xs input is e).0 cut.element),
    λ out.
        let order = some_elimination c.net well.sound in
        let bits = some_settled c.net well.sound order.0 (length c.net.gates) (variables_of c) p in
        record { order = order.0; elimination = order.1; bits = bits.0; settled = bits.1; element = (settled_out order.0 order.1 bits.0 bits.1 xs input is e).1 out },
  )
