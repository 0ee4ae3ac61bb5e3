use Rattle.std.proofs.Common.{sym}
use Rattle.std.specs.List.{list_all}
use Rattle.std.proofs.lemmas.Result.{on_ok_weaker}
use Rattle.poly_mixed.specs.Polynomial.{value}
use Rattle.poly_mixed.specs.Table.{table_bit}
use Rattle.poly_mixed.proofs.FieldLaws.{field_of}
use Rattle.cert_check.proofs.PartLemmas.{no_set}
use Rattle.cert_check.proofs.SubsetLemmas.{set_terms, set_value}
use Rattle.cert_check.proofs.subsets.add_set.Goals as goal

pub returns-then-has_place-clause-terms : goal.returns-then-has_place-clause-terms
returns-then-has_place-clause-terms g c =
    on_ok_weaker c.push.result
    (λ added. set_terms (field_of _ _ (g.met.F.Ring.laws c.args._field.now) (g.met.F.Field.no_zero_divisors c.args._field.now)) c.args.set.now c.in_ok-mono.mono c.args.sum.now.terms c.push.new.self.terms c.requires.set c.in_ok-mono.ensures c.requires.sum added)
    c.push.ensures

pub returns-then-has_place-clause-values : goal.returns-then-has_place-clause-values
returns-then-has_place-clause-values g c =
    on_ok_weaker c.push.result
    (λ added. set_value (field_of _ _ (g.met.F.Ring.laws c.args._field.now) (g.met.F.Field.no_zero_divisors c.args._field.now)) c.args.set.now c.in_ok-mono.mono c.args.sum.now.terms c.push.new.self.terms (table_bit c.args.form c.args.place) c.requires.set c.in_ok-mono.ensures added (sym c.if-has_place.ensures))
    c.push.ensures

pub returns-clause-values : goal.returns-clause-values
returns-clause-values g c p at = no_set (list_all p.is_one c.args.set.now) (table_bit c.args.form c.args.place) (value (g.F.Ring.product c.args._field.now) p c.args.sum.now.terms) (sym c.if-has_place.ensures)
