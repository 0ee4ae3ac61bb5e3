use Rattle.std.proofs.Common.{List, ℕ, sym, ◌∙◌, subst}
use Rattle.poly_mixed.specs.private.Reading.{after_zero}
use Rattle.poly_mixed.specs.private.ReadingState.{IsStep}
use Rattle.poly_mixed.proofs.PartLemmas.{zero_else_at}
use Rattle.poly_mixed.proofs.read.Reading.after_0.Goals as goal

pub returns-else-is_coefficient-clause-step : goal.returns-else-is_coefficient-clause-step
returns-else-is_coefficient-clause-step c =
    let e = c.after_term_0.ensures.step c.args.self.now.sum.terms c.args.self.now.coefficient c.args.self.now.mono c.requires.coefficient c.requires.mono in
    let P : List ℕ → Type 0 = λ bs. IsStep (after_zero c.args.self.now.sum.terms bs) c.args.self.now.sum.terms c.args.self.now.coefficient c.args.self.now.mono c.after_term_0.result in
    zero_else_at c.args.k c.args.self.now.sum.terms c.args.bytes.now c.args.self.now.coefficient c.args.self.now.mono c.after_term_0.result
    c.in-len1-up.len_at_least (sym c.is_coefficient.ensures ∙ c.if-is_coefficient.false) (subst P c.skip_blanks.ensures e.0)
