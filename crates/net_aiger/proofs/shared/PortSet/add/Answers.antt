use Rattle.std.proofs.Common.{◌≡◌, List, ℕ, subst, sym, true}
use Rattle.net_aiger.specs.Reading.{stands}
use Rattle.net_aiger.proofs.SharedLemmas.{kept_key, own_key}
use Rattle.net_aiger.proofs.shared.PortSet.add.Goals as goal

pub returns-clause-keeps : goal.returns-clause-keeps
returns-clause-keeps c = λ port is.
    let P : List ℕ → Type 0 = λ ports. stands ports port ≡ true in
    subst P (sym c.in_ok-insert.ensures.keys) (kept_key c.self.inside.ports.keys c.args.port port (subst P (sym c.self.view_is) is))

pub returns-clause-added : goal.returns-clause-added
returns-clause-added c =
    let P : List ℕ → Type 0 = λ ports. stands ports c.args.port ≡ true in
    subst P (sym c.in_ok-insert.ensures.keys) (own_key c.self.inside.ports.keys c.args.port)
