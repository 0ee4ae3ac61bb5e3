use Rattle.std.proofs.Common.{◌∙◌, ap}
use Rattle.net_blif.specs.private.Connecting.{after}
use Rattle.net_blif.specs.private.Once.{with_line, OnceValue}
use Rattle.net_blif.proofs.OnceLemmas.{once_is}
use Rattle.net_blif.proofs.once.with_ports_once.Goals as goal

pub returns : goal.returns
returns c =
    ap (λ (once : OnceValue). once.lines) (c.in_ok-add_lines.ensures ∙ ap (λ (once : OnceValue). after with_line once c.args.items.now) c.new-once.ensures)
    ∙ once_is c.args.items.now
