use Rattle.std.proofs.Common.{◌≡◌, ◌∙◌, ◌≤◌, ap, sym, ℕ, List, Some, length, arith}
use Rattle.std.specs.Prelude.{slice_get}
use Rattle.std.proofs.lemmas.List.{take_all}
use Rattle.std.proofs.lemmas.Option.{slice_get-get_or}
use Rattle.compose_polys.specs.Instance.{powers_from}
use Rattle.compose_polys.proofs.StageLemmas.{powers_long, powers_more}
use Rattle.compose_polys.proofs.terms.powers_of.Goals as goal

pub loop-word-preserved : goal.loop-word-preserved
loop-word-preserved c =
    let es : List ℕ = c.args.term.now.0.exponents in
    let w : ℕ = c.loop-word.word in
    let e : ℕ = c.exponent_of-exponent.result in
    let got : slice_get es w ≡ Some e = slice_get-get_or es w 0 (omega (arith, c.loop-word-test.true, c.requires)) ∙ ap Some (sym c.exponent_of-exponent.ensures) in
    powers_more es w e c.loop-word.powers.items c.push.new.self.items got c.in_ok-push.ensures.items c.loop-word.invariant

pub returns : goal.returns
returns c =
    let es : List ℕ = c.args.term.now.0.exponents in
    let last : length (powers_from 0 es) ≤ c.loop-word.word = omega (arith, c.loop-word-test.false, powers_long 0 es, c.requires) in
    c.loop-word.invariant ∙ take_all c.loop-word.word (powers_from 0 es) last
