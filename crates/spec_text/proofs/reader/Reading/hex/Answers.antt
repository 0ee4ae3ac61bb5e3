use Rattle.std.proofs.Common.{rules, ◌^◌, nat_lt}
use Rattle.spec_text.specs.declared.reader.Next.TheVariants.{Factor}
use Rattle.spec_text.specs.private.Progress.{progress, fitting, number_read, IsStep, RefusesAs}
use Rattle.spec_text.proofs.reader.Reading.hex.Goals as goal

pub returns-in-Factor-clause-step : goal.returns-in-Factor-clause-step
returns-in-Factor-clause-step g c = λ n is.
    let ts = c.args.self.now.terms.items in
    let said : IsStep (number_read (g.F.Ring.product c.args.field.now) (fitting (nat_lt n (2 ^ g.F.Ring.degree c.args.field.now)) n) (progress Factor ts c.args.self.now.coefficient c.args.self.now.powers.items) c.args.place) c.number.new.self.terms.items c.number.new.self.coefficient c.number.new.self.powers.items c.number.result = c.number.ensures.step Factor _ (c.element_in.ensures.fits n is) in
    search rules

pub returns-in-Factor-clause-fault : goal.returns-in-Factor-clause-fault
returns-in-Factor-clause-fault g c = λ n is.
    let ts = c.args.self.now.terms.items in
    let said : RefusesAs (number_read (g.F.Ring.product c.args.field.now) (fitting (nat_lt n (2 ^ g.F.Ring.degree c.args.field.now)) n) (progress Factor ts c.args.self.now.coefficient c.args.self.now.powers.items) c.args.place) c.number.result = c.number.ensures.fault Factor _ (c.element_in.ensures.fits n is) in
    search rules
