use Rattle.std.proofs.Common.{◌∙◌, refl, sym, arith}
use Rattle.lists.specs.laws.ReadLaws.{get_below}
use Rattle.mult_digit.proofs.FormLemmas.{lines_are}
use Rattle.mult_digit.proofs.form.are_lines.Goals as goal

pub returns-then-not-is_line : goal.returns-then-not-is_line
returns-then-not-is_line c = (
  (λ e. absurd (cc)),
  λ are.
      let feed = get_below c.args.feeds.now c.loop-i.i (omega (arith, c.requires.long, c.loop-i-test.true)) in
      sym c.if-not-is_line.true ∙ (c.is_line.ensures feed.0 feed.1).1 (are.each c.loop-i.i feed.0 feed.1),
)

pub returns : goal.returns
returns c = (
  (λ e. lines_are c.args.k c.args.width c.args.feeds.now c.requires.some c.requires.long c.requires.divides (λ i feed less got. c.loop-i.invariant i feed (omega (arith, less, c.loop-i-test.false)) got)),
  λ are. refl,
)
