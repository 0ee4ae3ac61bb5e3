use Rattle.std.proofs.Common.{◌≡◌, ◌∙◌, ap, subst, sym, ◌++◌, ◌∷◌, [], List, ℕ, None}
use Rattle.std.specs.Prelude.{nat_eq}
use Rattle.std.specs.Map.{lookup}
use Rattle.indexmap.proofs.CallerLemmas.{insert_entry-new}
use Rattle.net_aiger.specs.Reading.{Name, Reading}
use Rattle.net_aiger.proofs.NameLemmas.{all_more}
use Rattle.net_aiger.proofs.reader.Reader.insert_name.Goals as goal

pub invariant_of-self-2 : goal.invariant_of-self-2
invariant_of-self-2 c =
    let P : Reading → Type 0 = λ reading. lookup (nat_eq c.args.port) reading.symbols ≡ None in
    let none : lookup (nat_eq c.args.port) c.self.inside.symbols.entries ≡ None = subst P (sym c.self.view_is) c.requires.is_new in
    let more : c.insert.new.self.entries ≡ c.self.inside.symbols.entries ++ (c.args.port, c.args.name) ∷ [] = c.in_ok-insert.ensures.entries ∙ insert_entry-new nat_eq c.self.inside.symbols c.args.port c.args.name none in
    (c.self.invariant.0, all_more c.self.inside.symbols.entries c.insert.new.self.entries c.args.port c.args.name more c.requires.fits c.self.invariant.1)

pub returns : goal.returns
returns c =
    let P : Reading → Type 0 = λ reading. lookup (nat_eq c.args.port) reading.symbols ≡ None in
    let none : lookup (nat_eq c.args.port) c.self.inside.symbols.entries ≡ None = subst P (sym c.self.view_is) c.requires.is_new in
    let more : c.insert.new.self.entries ≡ c.self.inside.symbols.entries ++ (c.args.port, c.args.name) ∷ [] = c.in_ok-insert.ensures.entries ∙ insert_entry-new nat_eq c.self.inside.symbols c.args.port c.args.name none in
    let with : List (ℕ × Name) → Reading = λ symbols. record { header = c.self.inside.header; ports = c.self.inside.ports.items; latches = c.self.inside.latches.items; ands = c.self.inside.ands.items; defined = c.self.inside.defined.keys; uses = c.self.inside.uses.items; symbols = symbols } in
    let Q : Reading → Type 0 = λ reading. with c.insert.new.self.entries ≡ record reading { symbols = reading.symbols ++ (c.args.port, c.args.name) ∷ [] } in
    subst Q c.self.view_is (ap with more)
