use Rattle.std.proofs.Common.{rules, ◌≡◌, ℕ, List, false, Some}
use Rattle.std.specs.Prelude.{is_some, string_bytes}
use Rattle.std.specs.HashMap.{get_by_text}
use Rattle.std.proofs.lemmas.Map.Text.{hash_map_updates_text}
use Rattle.net_blif.proofs.model_list.add_number.Goals as goal

pub returns-in_err-insert-clause-unchanged : goal.returns-in_err-insert-clause-unchanged
returns-in_err-insert-clause-unchanged c =
    let same : (q : List ℕ) → get_by_text c.insert.new.self q ≡ get_by_text c.args.numbers.now q = λ q. rw c.in_err-insert.ensures.err in
    search rules

pub returns-clause-made : goal.returns-clause-made
returns-clause-made c = λ q.
    let key : string_bytes c.in_ok-key.key ≡ c.args.name.now = c.in_ok-key.ensures.ok in
    let none : is_some (get_by_text c.args.numbers.now c.args.name.now) ≡ false = search rules in
    rw (none, ← key) (hash_map_updates_text (string_bytes c.in_ok-key.key) c.args.numbers.now c.insert.new.self (Some c.args.number) c.in_ok-insert.ensures.updates q)
