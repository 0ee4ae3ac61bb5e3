use Rattle.std.proofs.Common.{◌≡◌, ◌∙◌, ap, Some}
use Rattle.std.specs.Prelude.{is_some, string_bytes}
use Rattle.std.specs.HashMap.{get_by_text}
use Rattle.std.proofs.lemmas.Map.Text.{hash_map_updates_text}
use mathlib.Core.Path.{fun_ext}
use Rattle.net_blif.proofs.table.Table.put.Goals as goal

pub returns-clause-made : goal.returns-clause-made
returns-clause-made c =
    let key : string_bytes c.in_ok-key.key ≡ c.args.name.now = c.in_ok-key.ensures.ok in
    fun_ext (λ q. rw (← key) (hash_map_updates_text (string_bytes c.in_ok-key.key) c.args.self.now.numbers c.insert.new.self (Some c.args.number) c.in_ok-old.ensures.updates q))

pub returns-clause-had : goal.returns-clause-had
returns-clause-had c =
    let key : string_bytes c.in_ok-key.key ≡ c.args.name.now = c.in_ok-key.ensures.ok in
    c.is_some.ensures ∙ (ap is_some c.in_ok-old.ensures.old ∙ ap (λ bs. is_some (get_by_text c.args.self.now.numbers bs)) key)
