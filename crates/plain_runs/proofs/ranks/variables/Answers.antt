use Rattle.std.proofs.Common.{rules, ◌≡◌, sym, subst, List, ℕ, map, ◌++◌}
use Rattle.net_core.specs.NetList.{nets}
use Rattle.net_words.specs.Variables.{others}
use Rattle.circuit_model.specs.Word.{word_nets}
use Rattle.circuit_model.specs.Flat.{word_of}
use Rattle.stage_model.specs.private.Plain.{HasEachNet}
use Rattle.stage_model.proofs.VariableLemmas.{has_each}
use Rattle.plain_runs.proofs.ranks.variables.Goals as goal

pub returns-clause-each : goal.returns-clause-each
returns-clause-each c =
    let front : List ℕ = word_nets (map word_of c.args.words.now) in
    let is : c.add_others.new.order.items ≡ front ++ others (nets c.args.net.now) front = search rules in
    let P : List ℕ → Type 0 = HasEachNet c.args.net.now in
    subst P (sym is) (has_each c.args.net.now front)
