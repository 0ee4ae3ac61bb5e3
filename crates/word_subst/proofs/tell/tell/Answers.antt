use Rattle.std.proofs.Common.{rules, ◌≡◌, ◌≤◌, ◌∙◌, ap, sym, subst, true, ℕ, length, None, arith}
use Rattle.gf_basis.specs.BasisParts.{elements_of}
use Rattle.poly_mixed.proofs.FieldLaws.{field_of}
use Rattle.word_subst.specs.ReadSteps.{TellsFirst}
use Rattle.word_subst.specs.Rest.{rest_of}
use Rattle.word_subst.proofs.OneTermLemmas.{none_told}
use Rattle.word_subst.proofs.ToldLemmas.{all_quiet}
use Rattle.word_subst.proofs.tell.tell.Goals as goal

pub returns-then-not-tells : goal.returns-then-not-tells
returns-then-not-tells g c =
    let is = c.requires.followed in
    let f = field_of _ _ (g.met.F.Ring.laws c.args.field.now) (g.met.F.Field.no_zero_divisors c.args.field.now) in
    let none : g.T.Steps.steps c.args.steps.now ≡ None = search rules in
    all_quiet f (elements_of c.args.basis.now) c.args.word c.requires.word c.args.term.now is.term is.some c.args.bound c.args.products.now is.products is.ranks is.start (g.T.Steps.steps c.args.steps.now) none

pub tell_first-requires-clause-term : goal.tell_first-requires-clause-term
tell_first-requires-clause-term g c = c.requires.followed.term

pub tell_first-requires-clause-some : goal.tell_first-requires-clause-some
tell_first-requires-clause-some g c = c.requires.followed.some

pub tell_first-requires-clause-first : goal.tell_first-requires-clause-first
tell_first-requires-clause-first g c =
    let holds : c.has_first.result ≡ true = search rules in
    c.has_first.ensures (g.F.Ring.degree c.args.field.now) c.args.word (c.ranks-own.ensures ∙ c.requires.followed.ranks) holds

pub rest-requires-clause-k : goal.rest-requires-clause-k
rest-requires-clause-k g c =
    let P : ℕ → Type 0 = λ n. n ≤ 64 in
    subst P (sym c.k.ensures) (g.met.F.Ring.laws c.args.field.now).small

pub tell_bit-requires-clause-others : goal.tell_bit-requires-clause-others
tell_bit-requires-clause-others g c = c.in_ok-others.ensures ∙ (λ i. rest_of (c.k.ensures i) c.args.word (c.mono.ensures i))

pub loop-j-init : goal.loop-j-init
loop-j-init g c =
    none_told (g.F.Ring.degree c.args.field.now) c.args.word c.args.term.now (g.F.Ring.product c.args.field.now) (elements_of c.args.basis.now) c.args.bound (g.T.Steps.steps c.args.steps.now)

pub loop-j-preserved : goal.loop-j-preserved
loop-j-preserved g c = c.in_ok-tell_bit.ensures (g.T.Steps.steps c.args.steps.now) c.loop-j.invariant

pub returns : goal.returns
returns g c =
    let last : c.loop-j.j ≡ length c.ranks-own.result.now = omega (arith, c.loop-j-test.false, c.loop-j.auto.j-end) in
    let P : ℕ → Type 0 = λ n. TellsFirst (g.F.Ring.degree c.args.field.now) (g.F.Ring.product c.args.field.now) (elements_of c.args.basis.now) c.args.word c.args.term.now n (g.T.Steps.steps c.args.steps.now) (g.T.Steps.steps c.loop-j.steps) in
    subst P (last ∙ ap length (c.ranks-own.ensures ∙ c.requires.followed.ranks)) c.loop-j.invariant
