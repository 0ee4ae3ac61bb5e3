-- Ranks of nets in a list of variables.
use Rattle.std.proofs.Common.{◌≡◌, ℕ, ◌≤◌, List, Some, inl, inr, arith}
use Rattle.std.specs.Prelude.{slice_get}
use Rattle.std.proofs.lemmas.Bool.{cases_order}
use Rattle.lists.specs.Lists.{times}
use Rattle.lists.specs.laws.HasLaws.{times_two}
use Rattle.stage_model.proofs.SharedLemmas.{at_rank}
use Rattle.stage_model.specs.Variables.{rank_in}

-- where a net stands once, each place at which it stands is its rank
pub only_rank : (variables : List ℕ) (n r : ℕ) → times n variables ≤ 1 → slice_get variables r ≡ Some n → r ≡ rank_in variables n
only_rank variables n r once at =
    let here : slice_get variables (rank_in variables n) ≡ Some n = at_rank variables n (r, at) in
    elim (cases_order r (rank_in variables n)) [
      | inl same ↦ same
      | inr less ↦ elim less [
        | inl before ↦ let two = times_two n variables r (rank_in variables n) at here before in absurd (omega arith)
        | inr after ↦ let two = times_two n variables (rank_in variables n) r here at after in absurd (omega arith)
      ]
    ]
