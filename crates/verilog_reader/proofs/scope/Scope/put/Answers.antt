use Rattle.std.proofs.Common.{sym, subst}
use Rattle.net_verilog.specs.Declarations.{Declarations}
use Rattle.verilog_reader.specs.Declares.{Meets}
use Rattle.verilog_reader.specs.private.Listed.{AreApart, AreListed}
use Rattle.verilog_reader.proofs.ScopeLemmas.{apart_put, listed_put}
use Rattle.verilog_reader.proofs.scope.Scope.put.Goals as goal

pub invariant_of-self : goal.invariant_of-self
invariant_of-self c =
    let P : Declarations → Type 0 = λ d. AreListed d c.enter.new.scalars × AreApart d in
    let Q : Declarations → Type 0 = λ d. Meets d c.args.declared.range c.args.name.now → ⊥ in
    let apart : Meets c.self.inside.table c.args.declared.range c.args.name.now → ⊥ = subst Q (sym c.self.view_is) c.requires.apart in
    subst P (sym c.in-Ok.ensures.table) (
      listed_put c.args.name.now c.args.declared c.self.inside.table c.self.inside.scalars c.enter.new.scalars c.in-Ok.ensures.kept c.in-Ok.ensures.listed c.self.invariant.0,
      apart_put c.args.name.now c.args.declared c.self.inside.table apart c.self.invariant.1,
    )
