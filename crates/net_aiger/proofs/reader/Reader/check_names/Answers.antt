use Rattle.std.proofs.Common.{◌∙◌, ◌<◌, ◌^◌, ℕ, List, length, refl, subst, sym}
use Rattle.std.proofs.lemmas.List.{nil_from_length}
use Rattle.net_aiger.specs.Reading.{Name}
use Rattle.net_aiger.specs.private.Shared.{HasNoneAlone}
use Rattle.net_aiger.proofs.UnnamedLemmas.{unnamed_apart}
use Rattle.net_aiger.proofs.reader.Reader.check_names.Goals as goal

pub returns-then-symbols-eq0-clause-made : goal.returns-then-symbols-eq0-clause-made
returns-then-symbols-eq0-clause-made c =
    let P : List ℕ → Type 0 = λ ports. length ports < 2 ^ 63 in
    unnamed_apart c.args.self.now (nil_from_length _ (sym c.symbols.ensures ∙ c.if-symbols-eq0.true)) (subst P c.ports-ports.ensures.ports c.ports-ports.ensures.small)

pub check_ports-requires-clause-none : goal.check_ports-requires-clause-none
check_ports-requires-clause-none c =
    let P : List Name → Type 0 = λ names. HasNoneAlone c.args.self.now 0 names in
    subst P (sym c.new-names.ensures) (λ later past small alone. refl)
