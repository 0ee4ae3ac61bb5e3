use Rattle.std.proofs.Common.{◌∙◌, ap}
use Rattle.std.specs.Prelude.{string_bytes}
use Rattle.verilog_reader.specs.private.Listed.{Lists, items_or, list_at, named_lists, put_list}
use Rattle.verilog_reader.proofs.ScalarLemmas.{list_found, list_inserted}
use Rattle.verilog_reader.proofs.scalars.Scalars.swap.Goals as goal

pub returns-clause-before : goal.returns-clause-before
returns-clause-before c =
    c.or_empty.ensures ∙ ap items_or c.in_ok-before.ensures.old ∙ list_found c.self.inside.lists.entries (string_bytes c.in_ok-key.key) ∙ ap (list_at (named_lists c.self.inside.lists.entries)) c.in_ok-key.ensures.ok
    ∙ ap (λ (ls : Lists). list_at ls c.args.name.now) c.self.view_is

pub returns-clause-with : goal.returns-clause-with
returns-clause-with c =
    ap named_lists c.in_ok-before.ensures.entries ∙ list_inserted c.self.inside.lists.entries c.in_ok-key.key c.args.list ∙ ap (λ name. put_list name c.args.list.items (named_lists c.self.inside.lists.entries)) c.in_ok-key.ensures.ok
    ∙ ap (put_list c.args.name.now c.args.list.items) c.self.view_is
