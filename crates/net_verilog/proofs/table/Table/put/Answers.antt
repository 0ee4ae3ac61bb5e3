use Rattle.std.proofs.Common.{◌≡◌, ◌∙◌, ap, sym, subst}
use Rattle.net_verilog.specs.Declarations.{Declarations, put}
use Rattle.net_verilog.specs.Targets.{HasNetNames}
use Rattle.net_verilog.specs.private.Entries.{named_entries}
use Rattle.net_verilog.proofs.TableLemmas.{inserted, names_kept}
use Rattle.net_verilog.proofs.table.Table.put.Goals as goal

pub invariant_of-self : goal.invariant_of-self
invariant_of-self c =
    let P : Declarations → Type 0 = λ d. HasNetNames d in
    subst P (sym (ap named_entries (c.in_err-insert.ensures.err))) c.self.invariant

pub invariant_of-self-2 : goal.invariant_of-self-2
invariant_of-self-2 c =
    let P : Declarations → Type 0 = λ d. HasNetNames d in
    let more : named_entries c.insert.new.self.entries ≡ put c.args.name.now c.args.declared (named_entries c.self.inside.names.entries) = ap named_entries c.in_ok-insert.ensures.entries ∙ inserted c.self.inside.names.entries c.in_ok-key.key c.args.declared ∙ ap (λ name. put name c.args.declared (named_entries c.self.inside.names.entries)) c.in_ok-key.ensures.ok in
    subst P (sym more) (names_kept c.args.name.now c.args.declared (named_entries c.self.inside.names.entries) c.requires c.self.invariant)

pub returns : goal.returns
returns c =
    let more : named_entries c.insert.new.self.entries ≡ put c.args.name.now c.args.declared (named_entries c.self.inside.names.entries) = ap named_entries c.in_ok-insert.ensures.entries ∙ inserted c.self.inside.names.entries c.in_ok-key.key c.args.declared ∙ ap (λ name. put name c.args.declared (named_entries c.self.inside.names.entries)) c.in_ok-key.ensures.ok in
    more ∙ ap (put c.args.name.now c.args.declared) c.self.view_is
