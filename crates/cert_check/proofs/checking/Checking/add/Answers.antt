use Rattle.std.proofs.Common.{◌+◌, ◌≤◌, sym, subst, ℕ, length, OnOk, arith}
use Rattle.std.proofs.lemmas.Result.{on_ok_weaker}
use Rattle.cert_check.specs.declared.line.Line.{Line}
use Rattle.cert_check.specs.private.Kept.{AddsLine, IsLineOf}
use Rattle.cert_check.proofs.CheckLemmas.{share_adds}
use Rattle.cert_check.proofs.checking.Checking.add.Goals as goal

pub add_pair-requires-clause-generator : goal.add_pair-requires-clause-generator
add_pair-requires-clause-generator g c =
    let P : Line → Type 0 = IsLineOf (g.F.Ring.degree c.args.field.now) c.args.circuit.now c.args.bases.now (length c.args.self.now.shared.items) in
    (subst P c.in-Pair.is c.requires.line).0

pub add_pair-requires-clause-multiplier : goal.add_pair-requires-clause-multiplier
add_pair-requires-clause-multiplier g c =
    let P : Line → Type 0 = IsLineOf (g.F.Ring.degree c.args.field.now) c.args.circuit.now c.args.bases.now (length c.args.self.now.shared.items) in
    (subst P c.in-Pair.is c.requires.line).1

pub returns-in-Pair : goal.returns-in-Pair
returns-in-Pair g c =
    let k : ℕ = g.F.Ring.degree c.args.field.now in
    let mul : ℕ → ℕ → ℕ = g.F.Ring.product c.args.field.now in
    let few : OnOk c.add_pair.result (length c.add_pair.new.self.shared.items ≤ length c.args.self.now.shared.items + 1) = on_ok_weaker c.add_pair.result (λ e. omega (arith, e)) c.add_pair.ensures.few in
    let P : Line → Type 0 = AddsLine k mul c.args.circuit.now c.args.bases.now c.args.bound c.args.number c.add_pair.result c.args.self.now c.add_pair.new.self in
    subst P (sym c.in-Pair.is) (record { asks = c.add_pair.ensures.asks; kept = c.add_pair.ensures.kept; few = few; held = c.add_pair.ensures.held; last = c.add_pair.ensures.last })

pub returns-in-Share : goal.returns-in-Share
returns-in-Share g c =
    let k : ℕ = g.F.Ring.degree c.args.field.now in
    let mul : ℕ → ℕ → ℕ = g.F.Ring.product c.args.field.now in
    let L : Line → Type 0 = IsLineOf k c.args.circuit.now c.args.bases.now (length c.args.self.now.shared.items) in
    let P : Line → Type 0 = AddsLine k mul c.args.circuit.now c.args.bases.now c.args.bound c.args.number c.share.result c.args.self.now c.share.new.self in
    subst P (sym c.in-Share.is)
    (share_adds k mul c.args.circuit.now c.args.bases.now c.args.bound c.args.number c.share.result c.args.self.now c.share.new.self c.in-Share.poly c.requires.held c.requires.last (subst L c.in-Share.is c.requires.line) c.share.ensures.shared c.share.ensures.memory)
