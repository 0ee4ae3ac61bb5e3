use Rattle.std.proofs.Common.{rules, ◌≡◌, ◌≢◌, None}
use Rattle.gf_basis.specs.BasisParts.{elements_of}
use Rattle.lists.specs.laws.ReadLaws.{got_read}
use Rattle.poly_mixed.specs.Polynomial.{IsTerm}
use Rattle.poly_mixed.proofs.FieldLaws.{field_of}
use Rattle.word_subst.specs.Whole.{HasFirst}
use Rattle.word_subst.proofs.FirstBitLemmas.{all_quiet_firsts}
use Rattle.word_subst.proofs.OneWordLemmas.{nothing_told, more_told, all_told}
use Rattle.word_subst.proofs.ReadFromLemmas.{item_at}
use Rattle.word_subst.proofs.tell.tell_firsts.Goals as goal

pub returns-then-not-tells : goal.returns-then-not-tells
returns-then-not-tells g c =
    let f = field_of _ _ (g.met.F.Ring.laws c.args.field.now) (g.met.F.Field.no_zero_divisors c.args.field.now) in
    let none : g.T.Steps.steps c.args.steps.now ≡ None = search rules in
    all_quiet_firsts f (elements_of c.args.basis.now) c.args.word c.args.terms.now (g.T.Steps.steps c.args.steps.now) c.requires.terms.terms c.requires.terms.is_map.nonzero c.requires.firsts none

pub loop-s-init : goal.loop-s-init
loop-s-init g c = nothing_told (g.F.Ring.degree c.args.field.now) (g.F.Ring.product c.args.field.now) (elements_of c.args.basis.now) c.args.word c.args.terms.now 0 (g.T.Steps.steps c.args.steps.now)

pub loop-s-preserved : goal.loop-s-preserved
loop-s-preserved g c =
    more_told (g.F.Ring.degree c.args.field.now) (g.F.Ring.product c.args.field.now) (elements_of c.args.basis.now) c.args.word c.args.terms.now 0 c.loop-s.s c.index-terms-s.result (g.T.Steps.steps c.args.steps.now) (g.T.Steps.steps c.loop-s.steps) (g.T.Steps.steps c.tell_first.new.steps)
    (got_read c.args.terms.now c.loop-s.s c.index-terms-s.result c.loop-s-test.true c.index-terms-s.is) c.loop-s.invariant c.in_ok-tell_first.ensures

pub tell_first-requires-clause-term : goal.tell_first-requires-clause-term
tell_first-requires-clause-term g c = item_at c.args.terms.now c.loop-s.s c.index-terms-s.result (IsTerm (g.F.Ring.degree c.args.field.now)) c.loop-s-test.true c.index-terms-s.is c.requires.terms.terms

pub tell_first-requires-clause-some : goal.tell_first-requires-clause-some
tell_first-requires-clause-some g c = item_at c.args.terms.now c.loop-s.s c.index-terms-s.result (λ t. t.1 ≢ 0) c.loop-s-test.true c.index-terms-s.is c.requires.terms.is_map.nonzero

pub tell_first-requires-clause-first : goal.tell_first-requires-clause-first
tell_first-requires-clause-first g c = item_at c.args.terms.now c.loop-s.s c.index-terms-s.result (HasFirst c.args.word (g.F.Ring.degree c.args.field.now)) c.loop-s-test.true c.index-terms-s.is c.requires.firsts

pub returns : goal.returns
returns g c =
    all_told (g.F.Ring.degree c.args.field.now) (g.F.Ring.product c.args.field.now) (elements_of c.args.basis.now) c.args.word c.args.terms.now 0 c.loop-s.s (g.T.Steps.steps c.args.steps.now) (g.T.Steps.steps c.loop-s.steps) c.loop-s-test.false c.loop-s.invariant
