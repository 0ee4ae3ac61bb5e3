use Rattle.std.proofs.Common.{◌≡◌, ◌∙◌, ap, sym, ℕ, Bool, false, ◌++◌, ◌∷◌, [], map, arith}
use Rattle.std.specs.Prelude.{slice_index_or}
use Rattle.std.specs.List.{range_with_len}
use Rattle.std.proofs.lemmas.List.FromFn.{map-range_with_len_more}
use Rattle.poly_mixed.specs.Polynomial.{point}
use Rattle.stage_model.specs.Variables.{point_bit}
use Rattle.plain_runs.proofs.cut_value.bits_by_net.Goals as goal

pub loop-n-preserved : goal.loop-n-preserved
loop-n-preserved c = λ ws.
    let n : ℕ = c.loop-n.n in
    let f : ℕ → Bool = point_bit c.args.variables.now (point ws c.args.bits.now) in
    let bit : c.bit_at_rank.result ≡ f n = c.bit_at_rank.ensures ∙ ap (λ r. slice_index_or c.args.bits.now r false) c.rank_of.ensures.rank in
    c.in_ok-push.ensures.items
    ∙ (ap (λ xs. xs ++ c.bit_at_rank.result ∷ []) (c.loop-n.invariant ws)
    ∙ (ap (λ b. map f (range_with_len 0 n) ++ b ∷ []) bit ∙ sym (map-range_with_len_more f 0 n n (omega arith))))
