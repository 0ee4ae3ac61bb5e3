use Rattle.std.proofs.Common.{sym, subst, ℕ}
use Rattle.poly_mixed.specs.declared.steps.Generator.{Generator}
use Rattle.cert_check.specs.Running.{generator_value}
use Rattle.cert_check.specs.private.Held.{IsSplit}
use Rattle.cert_check.specs.declared.generator.Split.{Split}
use Rattle.std.specs.Prelude.{IfOk}
use Rattle.cert_check.specs.private.Kept.{IsGeneratorOf}
use Rattle.cert_check.proofs.generator.generator_split.Goals as goal

pub bit_split-requires-clause-known : goal.bit_split-requires-clause-known
bit_split-requires-clause-known g c = let P : Generator → Type 0 = IsGeneratorOf (g.F.Ring.degree c.args.field.now) c.args.circuit.now c.args.bases.now in (subst P c.in-Bit.is c.requires.generator).0

pub bit_split-requires-clause-word : goal.bit_split-requires-clause-word
bit_split-requires-clause-word g c = let P : Generator → Type 0 = IsGeneratorOf (g.F.Ring.degree c.args.field.now) c.args.circuit.now c.args.bases.now in (subst P c.in-Bit.is c.requires.generator).1

pub bit_split-requires-clause-place : goal.bit_split-requires-clause-place
bit_split-requires-clause-place g c = let P : Generator → Type 0 = IsGeneratorOf (g.F.Ring.degree c.args.field.now) c.args.circuit.now c.args.bases.now in (subst P c.in-Bit.is c.requires.generator).2

pub net_split-requires-clause-net : goal.net_split-requires-clause-net
net_split-requires-clause-net g c = let P : Generator → Type 0 = IsGeneratorOf (g.F.Ring.degree c.args.field.now) c.args.circuit.now c.args.bases.now in subst P c.in-Net.is c.requires.generator

pub returns-in-Net : goal.returns-in-Net
returns-in-Net g c =
    let k : ℕ = g.F.Ring.degree c.args.field.now in
    let mul : ℕ → ℕ → ℕ = g.F.Ring.product c.args.field.now in
    let P : Generator → Type 0 = λ h. IfOk c.net_split.result (λ (s : Split). IsSplit k mul c.args.circuit.now c.args.bases.now (generator_value k mul c.args.circuit.now c.args.bases.now h) s.near.terms s.form) in
    subst P (sym c.in-Net.is) c.net_split.ensures

pub returns-in-Bit : goal.returns-in-Bit
returns-in-Bit g c =
    let k : ℕ = g.F.Ring.degree c.args.field.now in
    let mul : ℕ → ℕ → ℕ = g.F.Ring.product c.args.field.now in
    let P : Generator → Type 0 = λ h. IfOk c.bit_split.result (λ (s : Split). IsSplit k mul c.args.circuit.now c.args.bases.now (generator_value k mul c.args.circuit.now c.args.bases.now h) s.near.terms s.form) in
    subst P (sym c.in-Bit.is) c.bit_split.ensures
