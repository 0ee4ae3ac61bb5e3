use Rattle.poly_mixed.proofs.FieldLaws.{field_of}
use Rattle.std.proofs.Common.{[], ◌∷◌}
use Rattle.std.proofs.lemmas.Result.{IfOk-weaker}
use Rattle.poly_mixed.proofs.SimpleLemmas.{one_rank_rises, bits_monomial, bits_polynomial, same_function, single}
use Rattle.poly_mixed.proofs.single.scaled_bit.Goals as goal

pub new-requires : goal.new-requires
new-requires g c = one_rank_rises c.args.rank

pub term-requires : goal.term-requires
term-requires g c = record { monomial = bits_monomial (field_of _ _ (g.met.F.Ring.laws c.args.field.now) (g.met.F.Field.no_zero_divisors c.args.field.now)) (c.args.rank ∷ []) c.in_ok-mono.mono c.in_ok-mono.ensures (one_rank_rises c.args.rank); element = c.requires }

pub returns : goal.returns
returns g c =
    let f = (field_of _ _ (g.met.F.Ring.laws c.args.field.now) (g.met.F.Field.no_zero_divisors c.args.field.now)) in
    IfOk-weaker c.term.result _ _ (λ q e.
    same_function f _ _ q.terms (single f c.args.rank c.args.c)
    (bits_polynomial f (c.args.rank ∷ []) c.in_ok-mono.mono c.args.c q c.in_ok-mono.ensures (one_rank_rises c.args.rank) c.requires e)) c.term.ensures
