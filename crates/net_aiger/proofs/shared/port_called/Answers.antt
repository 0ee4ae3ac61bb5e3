use Rattle.std.proofs.Common.{◌≡◌, ◌∙◌, ◌+◌, ap, ℕ, arith}
use Rattle.net_aiger.proofs.SharedLemmas.{default_found, default_none, saturated}
use Rattle.net_aiger.proofs.shared.port_called.Goals as goal

pub returns-in-Some : goal.returns-in-Some
returns-in-Some c = λ port small is.
    let found = default_found c.args.header port c.args.letter c.in-Some.place c.args.digits.now small is c.in-Some.ensures.found.0 in
    let sum : c.first_port.result + c.in-Some.place ≡ port = ap (λ (first : ℕ). first + c.in-Some.place) c.first_port.ensures ∙ found in
    c.saturating_add.ensures ∙ saturated (c.first_port.result + c.in-Some.place) port sum small

pub returns-in-None : goal.returns-in-None
returns-in-None c = λ port small is. absurd (default_none c.args.header port c.args.letter c.args.digits.now small is (λ n said within. c.in-None.ensures.none n said (omega (arith, within))))
