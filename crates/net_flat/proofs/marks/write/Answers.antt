use Rattle.std.proofs.Common.{◌≡◌, Some}
use Rattle.std.specs.Prelude.{string_bytes}
use Rattle.std.proofs.lemmas.Map.Text.{hash_map_updates_text}
use Rattle.net_flat.proofs.marks.write.Goals as goal

pub returns-clause-made : goal.returns-clause-made
returns-clause-made c = λ q.
    let key : string_bytes c.in_ok-key.key ≡ c.args.name.now = c.in_ok-key.ensures.ok in
    rw (← key) (hash_map_updates_text (string_bytes c.in_ok-key.key) c.args.marks.now c.insert.new.self (Some c.args.mark) c.in_ok-insert.ensures.updates q)
