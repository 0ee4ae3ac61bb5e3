use Rattle.poly_mixed.proofs.FieldLaws.{field_of}
use Rattle.poly_mixed.proofs.SimpleLemmas.{reduced_nothing}
use Rattle.poly_mixed.specs.Polynomial.{Terms, IsReduced, value}
use Rattle.std.proofs.Common.{subst, ◌≡◌, ◌+◌, suc, cond, ap, sym, ◌∙◌, get_or, take, length, bit_xor, arith}
use Rattle.std.proofs.lemmas.Option.{slice_get-get_or}
use Rattle.irreducible.specs.Span.{combination}
use Rattle.gf_basis.specs.BasisParts.{elements_of}
use Rattle.net_core.specs.NetList.{nets}
use Rattle.net_words.specs.Variables.{variables}
use Rattle.poly_mixed.specs.Table.{index}
use Rattle.stage_model.specs.Variables.{rank_in, point_bit}
use Rattle.rato_reduce.proofs.FirstCutLemmas.{sum_more}
use Rattle.rato_reduce.proofs.in_buckets.put_bits.Goals as goal

pub rank-rank-requires : goal.rank-rank-requires
rank-rank-requires g c = c.requires.inside (get_or c.args.list.now c.loop-place.place 0) (c.loop-place.place, slice_get-get_or c.args.list.now c.loop-place.place 0 c.loop-place-test.true)

pub loop-place-init : goal.loop-place-init
loop-place-init g c =
    let degree = g.F.Ring.degree c.args.field.now in
    let mul = g.F.Ring.product c.args.field.now in
    let f = field_of degree mul (g.met.F.Ring.laws c.args.field.now) (g.met.F.Field.no_zero_divisors c.args.field.now) in
    let P : Terms → Type 0 = IsReduced degree in
    record { reduced = subst P (sym c.requires.nothing) (reduced_nothing f); values = λ p at. ap (λ (ts : Terms). value mul p ts) c.requires.nothing }

pub loop-place-preserved : goal.loop-place-preserved
loop-place-preserved g c =
    let i = c.loop-place.invariant in
    let n = c.loop-place.place in
    let basis = elements_of c.args.basis.now in
    let list = c.args.list.now in
    let order = variables (nets c.args.circuit.now.net) c.args.circuit.now.binding.words in
    let long : length basis ≡ g.F.Ring.degree c.args.field.now = c.requires.basis.elements.size in
    let up : suc n ≡ n + 1 = omega arith in
    record {
      reduced = c.in_ok-put_bit.ensures.reduced;
      values = λ p at.
          let f = point_bit order p in
          c.in_ok-put_bit.ensures.values p at
          ∙ ((λ j. bit_xor (i.values p at j) (cond (p.is_one c.rank-rank.result) c.element.result 0))
          ∙ (ap (λ r. bit_xor (combination (take n basis) (index f (take n list))) (cond (p.is_one r) c.element.result 0)) c.rank-rank.ensures
          ∙ (ap (λ e. bit_xor (combination (take n basis) (index f (take n list))) (cond (p.is_one (rank_in order (get_or list n 0))) e 0)) c.element.ensures
          ∙ (sym (sum_more f basis list n (omega arith) (omega arith))
          ∙ ap (λ k. combination (take k basis) (index f (take k list))) up))));
    }
