use Rattle.std.proofs.Common.{◌≡◌, ◌∙◌, subst}
use Rattle.net_verilog.specs.Declarations.{Declarations, declared_as}
use Rattle.net_verilog.specs.Targets.{HasNetNames}
use Rattle.net_verilog.proofs.TableLemmas.{found}
use Rattle.net_verilog.proofs.table.Table.find.Goals as goal

pub returns-clause-same : goal.returns-clause-same
returns-clause-same c =
    let P : Declarations → Type 0 = λ d. c.copied.result ≡ declared_as d c.args.name.now in
    subst P c.self.view_is (c.copied.ensures ∙ c.get.ensures.value ∙ found c.self.inside.names.entries c.args.name.now)

pub returns-clause-names : goal.returns-clause-names
returns-clause-names c =
    let P : Declarations → Type 0 = λ d. HasNetNames d in
    subst P c.self.view_is c.self.invariant
