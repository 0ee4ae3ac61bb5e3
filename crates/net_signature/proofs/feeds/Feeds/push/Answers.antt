use Rattle.std.proofs.Common.{ap, string_bytes}
use Rattle.std.specs.Prelude.{is_some}
use Rattle.std.specs.Str.{bytes_eq}
use Rattle.std.specs.HashMap.{get_by_text}
use Rattle.net_signature.specs.private.Seen.{has_key}
use Rattle.net_signature.proofs.SeenLemmas.{none_seen, seen_more}
use Rattle.net_signature.proofs.feeds.Feeds.push.Goals as goal

pub invariant_of-self-in-Ok : goal.invariant_of-self-in-Ok
invariant_of-self-in-Ok c = λ q.
    seen_more (has_key q) c.self.inside.list.items c.push.new.self.items c.args.feed (bytes_eq (string_bytes c.args.key) q) (is_some (get_by_text c.self.inside.seen q)) (is_some (get_by_text c.add_text.new.seen q)) c.in_ok-push.ensures.items (ap (λ n. bytes_eq n q) c.requires) (c.self.invariant q) (c.in-Ok.ensures q)

pub invariant_of-self-in-Err : goal.invariant_of-self-in-Err
invariant_of-self-in-Err c = λ q. none_seen (has_key q) c.clear.new.self.items q c.clear-in-Err.new.self c.clear-in-Err.ensures.empty c.clear.ensures.items
