use Rattle.std.proofs.Common.{rules, ◌≡◌, ◌∙◌, ap, sym, subst, refl, inr, true, false, List}
use Rattle.std.specs.Prelude.{All}
use Rattle.net_blif.specs.Statement.{IsToken, Token}
use Rattle.net_blif.specs.Table.{numbers_in}
use Rattle.net_blif.specs.private.Connecting.{fault_by, formals_in, has_all, IsFault}
use Rattle.net_blif.proofs.InstanceLemmas.{all_connected, one_missing, wrong_connection}
use Rattle.net_blif.proofs.instances.check_formals.Goals as goal

pub are_in-requires : goal.are_in-requires
are_in-requires c = let P : List Token → Type 0 = All IsToken in subst P (sym c.all.ensures) c.args.formals.now.are_tokens

pub returns-in_err-check_connections-clause-fault : goal.returns-in_err-check_connections-clause-fault
returns-in_err-check_connections-clause-fault c =
    let fault : IsFault (fault_by c.args.line (formals_in c.args.formals.now) c.args.connections.now) c.in_err-check_connections.field-0.0 = wrong_connection c.args.line (formals_in c.args.formals.now) (numbers_in c.args.formals.now.names) (numbers_in c.new-connected.result) (numbers_in c.new-connected.result) c.args.connections.now refl c.new-connected.ensures c.in_err-check_connections.field-0.0 c.in_err-check_connections.ensures.fault in
    search rules

pub returns-then-not-are_in-clause-fault : goal.returns-then-not-are_in-clause-fault
returns-then-not-are_in-clause-fault c =
    let lacks : has_all (numbers_in c.check_connections.new.connected) (formals_in c.args.formals.now).inputs ≡ false = ap (has_all (numbers_in c.check_connections.new.connected)) (sym c.all.ensures) ∙ (sym c.are_in.ensures ∙ c.if-not-are_in.true) in
    inr (one_missing c.args.line (formals_in c.args.formals.now) (numbers_in c.args.formals.now.names) (numbers_in c.new-connected.result) (numbers_in c.check_connections.new.connected) c.args.connections.now refl c.new-connected.ensures c.in_ok-check_connections.ensures.right c.in_ok-check_connections.ensures.connected lacks)

pub returns-clause-right : goal.returns-clause-right
returns-clause-right c =
    let has : has_all (numbers_in c.check_connections.new.connected) (formals_in c.args.formals.now).inputs ≡ true = ap (has_all (numbers_in c.check_connections.new.connected)) (sym c.all.ensures) ∙ (sym c.are_in.ensures ∙ c.if-not-are_in.false) in
    all_connected c.args.line (formals_in c.args.formals.now) (numbers_in c.args.formals.now.names) (numbers_in c.new-connected.result) (numbers_in c.check_connections.new.connected) c.args.connections.now refl c.new-connected.ensures c.in_ok-check_connections.ensures.right c.in_ok-check_connections.ensures.connected has
