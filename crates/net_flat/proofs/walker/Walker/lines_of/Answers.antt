use Rattle.std.proofs.Common.{◌≡◌, ap, cond, false}
use Rattle.std.specs.Prelude.{string_bytes}
use Rattle.net_blif.specs.Design.{items_of}
use Rattle.net_flat.specs.private.KnownNumbers.{known_in}
use Rattle.net_flat.specs.private.LocalWalk.{is_in_top, InTop, Inside}
use Rattle.net_flat.specs.private.WalkerState.{state_of}
use Rattle.net_flat.proofs.OnceLemmas.{through_body}
use Rattle.net_flat.proofs.walker.Walker.lines_of.Goals as goal

pub returns-else-self : goal.returns-else-self
returns-else-self c =
    let inside : is_in_top (state_of c.args.self.now).local ≡ false = ap (λ b. is_in_top (cond b InTop (Inside (string_bytes c.args.self.now.scope.prefix) (known_in c.args.self.now.scope.numbers)))) c.if-self.false in
    through_body (state_of c.args.self.now).local (items_of c.args.design.now c.args.model) c.body.result.now inside c.body.ensures
