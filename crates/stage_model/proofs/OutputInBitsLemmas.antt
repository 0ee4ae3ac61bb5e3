-- The polynomial of the last cut is the output in the bits of words.
use Rattle.std.proofs.Common.{◌≡◌, ◌↔◌, ℕ, List, [], length, subst, sym, arith}
use Rattle.net_words.specs.Binding.{BoundNet}
use Rattle.circuit_model.specs.Circuit.{Circuit}
use Rattle.circuit_model.specs.WellFormed.{IsWellFormed}
use Rattle.circuit_model.specs.OfBinding.{circuit_with, output_basis}
use Rattle.poly_mixed.specs.Polynomial.{Terms, value}
use Rattle.stage_model.specs.Cut.{CutOf, BoundCut}
use Rattle.stage_model.specs.Stage.{IsOfStage}
use Rattle.stage_model.specs.InputPoint.{IsAtInput}
use Rattle.stage_model.specs.OutputInBits.{IsOutputInBits}
use Rattle.stage_model.proofs.BlindLemmas.{in_words}
use Rattle.stage_model.proofs.BoundLemmas.{bound_cut}
use Rattle.stage_model.proofs.CutLemmas.{one_cut, wordless_cut}
use Rattle.stage_model.proofs.LastCutLemmas.{last_cut}
use Rattle.stage_model.proofs.MixLemmas.{some_mixed_input}
use Rattle.stage_model.proofs.SizeLemmas.{wordless_stage}
use Rattle.stage_model.specs.Variables.{variables_of}

module _ (c : Circuit) (well : IsWellFormed c) (flat : c.net.latches ≡ []) (ts : Terms) where
  pub last_is_output : IsOfStage c.k c.product (CutOf c (length c.net.gates)) ts ↔ IsOutputInBits c ts
  last_is_output = (
    (λ is. record {
      reduced = is.reduced;
      bits_alone = wordless_stage c.k c.product well.ring well.no_zero_divisors (CutOf c (length c.net.gates)) (λ p x y at a b. one_cut c well (length c.net.gates) p x y a b) ts is
          (λ p x at cut. wordless_cut c.net (variables_of c) c.output (length c.net.gates) p x cut);
      words_alone = λ rank high. in_words c well flat ts rank is high;
      values = λ p xs at input there. (last_cut c well flat p xs (value c.product p ts) input there).0 (is.values p at);
    }),
    λ is. record {
      reduced = is.reduced;
      values = λ p at.
          let found = some_mixed_input c well 0 p at in
          let there : IsAtInput c found.0 p = λ i w x got here any. found.2.bits i x w (omega arith) got here in
          (last_cut c well flat p found.0 (value c.product p ts) found.1 there).1 (is.values p found.0 at found.1 there);
    },
  )

pub same_stage : (k : ℕ) (mul : ℕ → ℕ → ℕ) (binding : BoundNet) (bases : List (List ℕ)) (basis : List ℕ) (t : ℕ) (ts : Terms) → length bases ≡ length binding.binding.words → basis ≡ output_basis binding.binding.words bases
    → IsOfStage k mul (BoundCut binding basis t) ts ↔ IsOfStage k mul (CutOf (circuit_with k mul binding bases) t) ts
same_stage k mul binding bases basis t ts long same =
    let P : List ℕ → Type 0 = λ b. IsOfStage k mul (BoundCut binding b t) ts in (
      (λ is.
          let turned : IsOfStage k mul (BoundCut binding (output_basis binding.binding.words bases) t) ts = subst P same is in
          record { reduced = turned.reduced; values = λ p at. (bound_cut k mul binding bases t p (value mul p ts) long).0 (turned.values p at) }),
      λ is. subst P (sym same) (record { reduced = is.reduced; values = λ p at. (bound_cut k mul binding bases t p (value mul p ts) long).1 (is.values p at) }),
    )
