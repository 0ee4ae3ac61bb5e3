-- One turn of the elimination, for a net list with bound words.
use Rattle.std.proofs.Common.{◌≡◌, ℕ, suc, ◌<◌, ◌≤◌, ◌+◌, ◌-◌, ◌^◌, List, Some, length, subst, ◌∙◌, arith}
use Rattle.std.specs.Prelude.{slice_get}
use Rattle.std.proofs.lemmas.Option.{slice_get_within}
use Rattle.net_core.specs.GateValue.{GateValue}
use Rattle.net_core.specs.NetList.{NetList, nets}
use Rattle.net_core.specs.Sound.{IsSound}
use Rattle.net_core.specs.Order.{IsElimination}
use Rattle.net_words.specs.Binding.{BoundNet}
use Rattle.net_words.specs.OneCycle.{IsOneCycle}
use Rattle.net_words.specs.Variables.{variables}
use Rattle.net_words.proofs.RankLemmas.{variables_once}
use Rattle.poly_mixed.specs.Polynomial.{Terms, IsReduced}
use Rattle.circuit_model.specs.OfBinding.{output_word}
use Rattle.stage_model.specs.Cut.{BoundCut}
use Rattle.stage_model.specs.Stage.{IsOfStage}
use Rattle.rato_reduce.specs.GatePoint.{HasGatePutIn}
use Rattle.rato_reduce.specs.Recorded.{IsRecorded}
use Rattle.poly_mixed.specs.Steps.{Step}
use Rattle.rato_reduce.proofs.EliminationLemmas.{Settled, next_cut, to_cut}
use Rattle.rato_reduce.proofs.FirstCutLemmas.{is_first}
use Rattle.circuit_model.proofs.OutputNetsLemmas.{output_long}
use Rattle.irreducible.specs.Span.{combination}
use Rattle.net_words.specs.BoundTo.{output_bits}
use Rattle.poly_mixed.specs.Polynomial.{IsPolynomialOf}
use Rattle.poly_mixed.specs.Table.{index}
use Rattle.stage_model.specs.Variables.{point_bit}
use Rattle.poly_mixed.specs.Steps.{Tells}
use Rattle.stage_model.specs.Variables.{rank_in}
use Rattle.stage_model.specs.CutSteps.{AreStepsAt}
use Rattle.rato_reduce.proofs.RecordedLemmas.{IsRecordedBy, one_recorded}
use Rattle.std.proofs.Common.{Option}
use Rattle.lists.specs.Limits.{most_nets}
use Rattle.lists.specs.Lists.{Has, times}
use Rattle.lists.specs.laws.HasLaws.{times_some}
use Rattle.lists.specs.laws.ReadLaws.{got_reversed}

-- there are few turns
pub few_turns : (t long gates latches : ℕ) → t < long → long ≡ gates → gates + latches ≤ most_nets → t < 2 ^ 32
few_turns t long gates latches less same few = omega arith

pub few_turns_after : (t long gates latches : ℕ) → t < long → long ≡ gates → gates + latches ≤ most_nets → t + 1 < 2 ^ 32
few_turns_after t long gates latches less same few = omega arith

-- a position in the order is that of a gate
pub position_inside : (net : NetList) (order : List ℕ) (t position : ℕ) → IsElimination net order → slice_get order t ≡ Some position → position < length net.gates
position_inside net order t position is at =
    let got = is.2.within position (length order - 1 - t, got_reversed order t position at) in
    slice_get_within net.gates position got.0 got.1

module _ (k : ℕ) (mul : ℕ → ℕ → ℕ) (b : BoundNet) (basis order : List ℕ) (is : IsElimination b.net order) where
  abbrev pub Now : ℕ → Terms → Type 0
  Now t ts = IsOfStage k mul (Settled b.net (variables (nets b.net) b.binding.words) (output_word b.binding.words basis) order t) ts

  abbrev pub Told : ℕ → Option (List Step) → Option (List Step) → Type 0
  Told t old new = IsRecordedBy k mul b.net (variables (nets b.net) b.binding.words) (output_word b.binding.words basis) order t old new

  pub turn : (t position : ℕ) (gate : GateValue) (old new : Terms) → IsSound b.net → IsOneCycle b.net b.binding → slice_get order t ≡ Some position → slice_get b.net.gates position ≡ Some gate
      → Now t old → IsReduced k new → HasGatePutIn k mul (variables (nets b.net) b.binding.words) gate old new → Now (t + 1) new
  turn t position gate old new sound bound at at_net before reduced put =
      let list : List ℕ = variables (nets b.net) b.binding.words in
      let stands : (n : ℕ) → n < nets b.net → Has list n = λ n less. let once : times n list ≡ 1 = variables_once b.net b.binding n bound less in times_some n list (omega arith) in
      let up : suc t ≡ t + 1 = omega arith in
      let P : ℕ → Type 0 = λ j. Now j new in
      subst P up (next_cut b.net sound list stands is.0 is.1 order is.2 t position gate at at_net (output_word b.binding.words basis) k mul old new before reduced put)

  pub first_now : (list : List ℕ) (ts : Terms) → IsOneCycle b.net b.binding → b.binding.k ≡ k → length basis ≡ k → list ≡ output_bits b.binding.words
      → IsPolynomialOf k mul (λ p. combination basis (index (point_bit (variables (nets b.net) b.binding.words) p) list)) ts → Now 0 ts
  first_now list ts bound bits long same poly =
      let P : List ℕ → Type 0 = λ ns. IsPolynomialOf k mul (λ p. combination basis (index (point_bit (variables (nets b.net) b.binding.words) p) ns)) ts in
      let sum = subst P same poly in
      is_first b.net (variables (nets b.net) b.binding.words) (output_word b.binding.words basis) order k mul ts long (output_long b.net b.binding bound ∙ bits)
      bound.outputs sum.reduced sum.values

  pub is_cut : (t : ℕ) (ts : Terms) → Now t ts → IsOfStage k mul (BoundCut b basis t) ts
  is_cut t ts now = to_cut b.net (variables (nets b.net) b.binding.words) (output_word b.binding.words basis) order k mul t ts is now

  pub told_more : (t position : ℕ) (gate : GateValue) (terms : Terms) (made : List Step) (old mid new : Option (List Step)) → slice_get order t ≡ Some position → slice_get b.net.gates position ≡ Some gate
      → Now t terms → AreStepsAt k (rank_in (variables (nets b.net) b.binding.words) gate.out) gate.out terms made → Told t old mid → Tells mid new made → Told (t + 1) old new
  told_more t position gate terms made old mid new at at_net now are so_far tells =
      let up : suc t ≡ t + 1 = omega arith in
      let P : ℕ → Type 0 = λ j. Told j old new in
      subst P up (one_recorded k mul b.net (variables (nets b.net) b.binding.words) (output_word b.binding.words basis) order t position gate terms made old mid new at at_net (is_cut t terms now) are so_far tells)

  pub is_recorded : (t n : ℕ) (old new : Option (List Step)) → t ≡ n → Told t old new → IsRecorded k mul b basis n old new
  is_recorded t n old new same told =
      let P : ℕ → Type 0 = λ j. IsRecorded k mul b basis j old new in
      subst P same (record { steps = told.steps; are = record { order = order; elimination = is; are = told.are }; told = told.told })
