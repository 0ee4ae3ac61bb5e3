use Rattle.std.proofs.Common.{rules, ◌≡◌, ◌≢◌, ℕ, List, Some, arith}
use Rattle.std.specs.Prelude.{slice_get}
use Rattle.std.proofs.lemmas.Result.{on_ok_weaker, IfErr-weaker}
use Rattle.gf_basis.specs.BasisParts.{elements_of}
use Rattle.lists.specs.laws.ReadLaws.{got_read}
use Rattle.poly_mixed.specs.Monomial.{Monomial}
use Rattle.poly_mixed.specs.Polynomial.{Terms, IsTerm}
use Rattle.poly_mixed.proofs.FieldLaws.{field_of}
use Rattle.word_subst.specs.Read.{IsTermWithin}
use Rattle.word_subst.specs.ReadRefusal.{IsWordRefusal}
use Rattle.word_subst.proofs.OneWordLemmas.{product_first, more_told, one_more_read, sum_over}
use Rattle.word_subst.proofs.ReadFromLemmas.{item_at}
use Rattle.word_subst.proofs.TermPartLemmas.{term_within}
use Rattle.word_subst.proofs.word.take_term.Goals as goal

pub follow_term-requires-clause-term : goal.follow_term-requires-clause-term
follow_term-requires-clause-term g c = item_at c.args.terms.now c.args.s c.index-terms-s.result (IsTerm (g.F.Ring.degree c.args.field.now)) c.requires.place c.index-terms-s.is c.requires.terms.terms

pub follow_term-requires-clause-some : goal.follow_term-requires-clause-some
follow_term-requires-clause-some g c = item_at c.args.terms.now c.args.s c.index-terms-s.result (λ t. t.1 ≢ 0) c.requires.place c.index-terms-s.is c.requires.terms.is_map.nonzero

pub follow_term-requires-clause-products : goal.follow_term-requires-clause-products
follow_term-requires-clause-products g c = c.requires.read.products

pub tell-requires-clause-followed : goal.tell-requires-clause-followed
tell-requires-clause-followed g c = c.in_ok-follow_term.ensures.followed

pub add_term-requires-clause-followed : goal.add_term-requires-clause-followed
add_term-requires-clause-followed g c = c.in_ok-follow_term.ensures.followed

pub add_term-requires-clause-groups : goal.add_term-requires-clause-groups
add_term-requires-clause-groups g c = c.requires.read.groups

pub add_term-requires-clause-few : goal.add_term-requires-clause-few
add_term-requires-clause-few g c = omega (arith, c.requires.read.small, c.ranges.bound.fits)

pub returns-in_err-follow_term-clause-fault : goal.returns-in_err-follow_term-clause-fault
returns-in_err-follow_term-clause-fault g c =
    let k : ℕ = g.F.Ring.degree c.args.field.now in
    let mul : ℕ → ℕ → ℕ = g.F.Ring.product c.args.field.now in
    let els : List ℕ = elements_of c.args.basis.now in
    let terms : Terms = c.args.terms.now in
    let t : Monomial × ℕ = c.index-terms-s.result in
    let at = got_read terms c.args.s t c.requires.place c.index-terms-s.is in
    let fault : IsWordRefusal k mul els c.args.word terms c.args.bound c.in_err-follow_term.field-0.0 =
    product_first k mul els c.args.word terms c.args.bound c.args.s t c.in_err-follow_term.field-0.0 at c.requires.read.within c.in_err-follow_term.ensures.fault in
    search rules

pub returns-clause-fault : goal.returns-clause-fault
returns-clause-fault g c =
    let k : ℕ = g.F.Ring.degree c.args.field.now in
    let mul : ℕ → ℕ → ℕ = g.F.Ring.product c.args.field.now in
    let els : List ℕ = elements_of c.args.basis.now in
    let w : ℕ = c.args.word in
    let terms : Terms = c.args.terms.now in
    let s : ℕ = c.args.s in
    let t : Monomial × ℕ = c.index-terms-s.result in
    let f = field_of k mul (g.met.F.Ring.laws c.args.field.now) (g.met.F.Field.no_zero_divisors c.args.field.now) in
    let at = got_read terms s t c.requires.place c.index-terms-s.is in
    let is = c.in_ok-follow_term.ensures.followed in
    let within : IsTermWithin k mul els w t c.args.bound = term_within f els w c.requires.word t is.term is.some c.args.bound c.follow_term.new.products is.products is.ranks is.start in
    IfErr-weaker c.check_size.result _ _ (λ fault over. sum_over f els w c.requires.word terms c.args.bound s t at c.args.products.now c.args.sums.now c.add_term.new.sums c.requires.read within c.in_ok-add_term.ensures.groups c.in_ok-add_term.ensures.ordered c.in_ok-add_term.ensures.values
    c.len.result fault c.len.ensures over) c.check_size.ensures.over

pub returns-clause-read : goal.returns-clause-read
returns-clause-read g c =
    let k : ℕ = g.F.Ring.degree c.args.field.now in
    let mul : ℕ → ℕ → ℕ = g.F.Ring.product c.args.field.now in
    let els : List ℕ = elements_of c.args.basis.now in
    let w : ℕ = c.args.word in
    let terms : Terms = c.args.terms.now in
    let s : ℕ = c.args.s in
    let t : Monomial × ℕ = c.index-terms-s.result in
    let f = field_of k mul (g.met.F.Ring.laws c.args.field.now) (g.met.F.Field.no_zero_divisors c.args.field.now) in
    let at : slice_get terms s ≡ Some t = got_read terms s t c.requires.place c.index-terms-s.is in
    let is = c.in_ok-follow_term.ensures.followed in
    let within : IsTermWithin k mul els w t c.args.bound = term_within f els w c.requires.word t is.term is.some c.args.bound c.follow_term.new.products is.products is.ranks is.start in
    on_ok_weaker c.check_size.result (λ small. one_more_read f els w c.requires.word terms c.args.bound s t at c.args.products.now c.args.sums.now c.add_term.new.sums c.requires.read within c.in_ok-add_term.ensures.groups c.in_ok-add_term.ensures.ordered c.in_ok-add_term.ensures.values c.len.result c.follow_term.new.products c.len.ensures is.products small) c.check_size.ensures.within

pub returns-clause-told : goal.returns-clause-told
returns-clause-told g c =
    let k : ℕ = g.F.Ring.degree c.args.field.now in
    let mul : ℕ → ℕ → ℕ = g.F.Ring.product c.args.field.now in
    let els : List ℕ = elements_of c.args.basis.now in
    let terms : Terms = c.args.terms.now in
    let t : Monomial × ℕ = c.index-terms-s.result in
    let at : slice_get terms c.args.s ≡ Some t = got_read terms c.args.s t c.requires.place c.index-terms-s.is in
    on_ok_weaker c.check_size.result (λ small first so_far. more_told k mul els c.args.word terms c.args.bound c.args.s t first (g.T.Steps.steps c.args.steps.now) (g.T.Steps.steps c.tell.new.steps) at so_far c.in_ok-tell.ensures) c.check_size.ensures.within
