use Rattle.std.proofs.Common.{◌≡◌, ℕ, subst, true}
use Rattle.net_aiger.specs.Reading.{stands}
use Rattle.net_aiger.proofs.shared.add_symbol.Goals as goal

pub returns-clause-noted : goal.returns-clause-noted
returns-clause-noted c =
    let P : ℕ → Type 0 = λ port. stands c.add-2.new.self port ≡ true in
    record {
      given = c.in_ok-add-2.ensures.keeps c.args.port c.in_ok-add.ensures.added;
      by_default = λ port small is. subst P (c.default_port.ensures port small is) c.in_ok-add-2.ensures.added;
    }
