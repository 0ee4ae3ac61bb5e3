use Rattle.std.proofs.Common.{◌≡◌, ◌++◌, ℕ, List, sym, subst, codes, OnOk}
use Rattle.poly_mixed.specs.Labels.{bit_text}
use Rattle.poly_mixed.specs.declared.steps.Generator.{Generator}
use Rattle.cert_make.specs.CertText.{generator_text as text_of_generator}
use Rattle.cert_make.proofs.lines.add_generator.Goals as goal

pub returns-in-Bit : goal.returns-in-Bit
returns-in-Bit c =
    let P : Generator → Type 0 = λ g. OnOk c.add_bit.result (c.add_bit.new.out.items ≡ c.args.out.now.items ++ text_of_generator c.args.labels.now g) in
    let Q : List ℕ → Type 0 = λ name. OnOk c.add_bit.result (c.add_bit.new.out.items ≡ c.args.out.now.items ++ (codes "bit " ++ bit_text name c.in-Bit.place)) in
    subst P (sym c.in-Bit.is) (subst Q c.name.ensures c.add_bit.ensures)
