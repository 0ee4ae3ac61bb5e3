use Rattle.std.proofs.Common.{rules, ◌^◌, nat_lt, nat_le}
use Rattle.spec_text.specs.declared.reader.Next.TheVariants.{Factor, Exponent}
use Rattle.spec_text.specs.private.Progress.{progress, fitting, number_read, exponent_read, IsStep}
use Rattle.spec_text.proofs.reader.Reading.decimal.Goals as goal

pub returns-in-Factor : goal.returns-in-Factor
returns-in-Factor g c = λ n is.
    let ts = c.args.self.now.terms.items in
    let said : IsStep (number_read (g.F.Ring.product c.args.field.now) (fitting (nat_le n 1) n) (progress Factor ts c.args.self.now.coefficient c.args.self.now.powers.items) c.args.place) c.number.new.self.terms.items c.number.new.self.coefficient c.number.new.self.powers.items c.number.result = c.number.ensures.step Factor _ (c.bit_in.ensures.fits n is) in
    search rules

pub returns-in-Exponent : goal.returns-in-Exponent
returns-in-Exponent g c = λ n is.
    let ts = c.args.self.now.terms.items in
    let said : IsStep (exponent_read c.in-Exponent.word (fitting (nat_lt n (2 ^ 64)) n) (progress (Exponent c.in-Exponent.word) ts c.args.self.now.coefficient c.args.self.now.powers.items) c.args.place) c.exponent.new.self.terms.items c.exponent.new.self.coefficient c.exponent.new.self.powers.items c.exponent.result = c.exponent.ensures (Exponent c.in-Exponent.word) n is in
    search rules
