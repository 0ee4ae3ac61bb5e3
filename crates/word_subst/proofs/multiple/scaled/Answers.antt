use Rattle.poly_mixed.proofs.FieldLaws.{field_of}
use Rattle.word_subst.proofs.MultipleLemmas.{scaled_is}
use Rattle.word_subst.proofs.multiple.scaled.Goals as goal

pub returns-clause-multiple : goal.returns-clause-multiple
returns-clause-multiple g c =
    (scaled_is (field_of _ _ (g.met.F.Ring.laws c.args.field.now) (g.met.F.Field.no_zero_divisors c.args.field.now)) c.args.c c.args.powers.now c.powers.result.now c.in_ok-out.out c.requires.c c.requires.powers c.powers.ensures c.in_ok-out.ensures).0
