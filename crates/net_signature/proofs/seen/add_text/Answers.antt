use Rattle.std.proofs.Common.{◌∙◌, ap, Some, string_bytes}
use Rattle.std.specs.Prelude.{is_some}
use Rattle.std.specs.Str.{bytes_eq}
use Rattle.std.specs.HashMap.{get_by_text}
use Rattle.std.proofs.lemmas.Map.Text.{hash_map_updates_text}
use Rattle.net_signature.proofs.SeenLemmas.{some_cond}
use Rattle.net_signature.proofs.seen.add_text.Goals as goal

pub returns : goal.returns
returns c = λ q.
    ap is_some (hash_map_updates_text (string_bytes c.args.text) c.args.seen.now c.insert.new.self (Some 0) c.in_ok-insert.ensures.updates q)
    ∙ some_cond (bytes_eq (string_bytes c.args.text) q) 0 (get_by_text c.args.seen.now q)
