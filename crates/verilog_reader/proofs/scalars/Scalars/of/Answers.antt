use Rattle.std.proofs.Common.{◌≡◌, ◌∙◌, ap, sym, None, Some}
use Rattle.std.specs.Prelude.{string_bytes}
use Rattle.std.specs.Map.{lookup}
use Rattle.std.specs.Option.{option_copied}
use Rattle.std.specs.Str.{bytes_eq}
use Rattle.verilog_reader.specs.private.Listed.{Lists, items_or, list_at}
use Rattle.verilog_reader.proofs.ScalarLemmas.{list_found}
use Rattle.verilog_reader.proofs.scalars.Scalars.of.Goals as goal

pub returns-in-Some : goal.returns-in-Some
returns-in-Some c =
    let had : lookup (λ k. bytes_eq c.args.name.now (string_bytes k)) c.self.inside.lists.entries ≡ Some c.in-Some.list.now = sym c.get.ensures.value ∙ ap option_copied c.in-Some.is in
    c.as_slice.ensures.value ∙ sym (ap items_or had) ∙ list_found c.self.inside.lists.entries c.args.name.now ∙ ap (λ (ls : Lists). list_at ls c.args.name.now) c.self.view_is

pub returns-in-None : goal.returns-in-None
returns-in-None c =
    let had : lookup (λ k. bytes_eq c.args.name.now (string_bytes k)) c.self.inside.lists.entries ≡ None = sym c.get.ensures.value ∙ ap option_copied c.in-None.is in
    sym (ap items_or had) ∙ list_found c.self.inside.lists.entries c.args.name.now ∙ ap (λ (ls : Lists). list_at ls c.args.name.now) c.self.view_is
