use Rattle.std.proofs.Common.{◌≡◌, ◌<◌, ◌^◌, refl, sym, subst, ℕ, All, Global, List, [], Some, Vec, length, map}
use Rattle.std.specs.Prelude.{slice_get}
use Rattle.std.proofs.lemmas.Result.{IfErr-weaker, IfOk-weaker}
use Rattle.net_signature.specs.Signature.{SignatureValue}
use Rattle.net_blif.specs.Design.{ModelValue}
use Rattle.gf_basis.specs.declared.bases.Basis.{Basis}
use Rattle.compose_model.specs.Hierarchy.{Hierarchy}
use Rattle.compose_model.specs.Wiring.{feeding_graph, instances_among, IsWithoutCycle}
use Rattle.compose_model.specs.declared.feeder.Feeder.{Feeder}
use Rattle.compose_model.specs.declared.feeder.Feeder.TheVariants.{InputWord}
use Rattle.compose_polys.specs.LevelOrder.{IsLevelOrder}
use Rattle.compose_wiring.specs.Answer.{AreWired}
use Rattle.compose_wiring.specs.Instanced.{hierarchy, IsInstanced}
use Rattle.compose_wiring.specs.Refusal.{IsWiringFault}
use Rattle.block_compose.specs.Composed.{hierarchy_of, HasNoCycle, MayFault}
use Rattle.block_compose.specs.declared.fault.ComposeFault.{ComposeFault}
use Rattle.block_compose.specs.private.Planned.{ComposesPlanned}
use Rattle.block_compose.proofs.ComposeLemmas.{cycle_refused, hierarchy_is, no_cycle, planned_composed, rows_few, rows_inside, stage_refused, wiring_refused}
use Rattle.block_compose.proofs.ReadyLemmas.{instanced}
use Rattle.block_compose.proofs.composition.compose_planned.Goals as goal

pub wiring_of-requires : goal.wiring_of-requires
wiring_of-requires g c =
    let k : ℕ = g.F.Ring.degree c.args.field.now in
    let mul : ℕ → ℕ → ℕ = g.F.Ring.product c.args.field.now in
    let design : List ModelValue = c.args.design.now in
    let signature : SignatureValue = c.args.signature.now in
    let bases : List (List Basis) = map (λ list. list.items) c.args.bases.now in
    let h : Hierarchy = hierarchy_of design signature bases in
    let ring = g.met.F.Ring.laws c.args.field.now in
    let free = g.met.F.Field.no_zero_divisors c.args.field.now in
    let same : hierarchy design c.words.result.now c.blocks-2.result.now c.args.bases.now ≡ h = hierarchy_is design signature c.words.result.now c.blocks-2.result.now c.args.bases.now bases c.words.ensures c.blocks-2.ensures refl in
    let P : Hierarchy → Type 0 = λ top. IsInstanced k top c.deref.result.now in
    let Q : List ℕ → Type 0 = λ ns. IsInstanced k h ns in
    let none : List (List Feeder) = [] in
    (k, subst P (sym same) (subst Q (sym c.deref.ensures.value) (instanced k mul ring free design signature bases c.args.plan.now.numbers.items c.args.plan.now.circuits.items none (InputWord 0) c.args.bound c.requires.given c.requires.planned c.requires.right)))

pub returns-in-Err-clause-fault : goal.returns-in-Err-clause-fault
returns-in-Err-clause-fault g c =
    let k : ℕ = g.F.Ring.degree c.args.field.now in
    let mul : ℕ → ℕ → ℕ = g.F.Ring.product c.args.field.now in
    let design : List ModelValue = c.args.design.now in
    let signature : SignatureValue = c.args.signature.now in
    let bases : List (List Basis) = map (λ list. list.items) c.args.bases.now in
    let h : Hierarchy = hierarchy_of design signature bases in
    let same : hierarchy design c.words.result.now c.blocks-2.result.now c.args.bases.now ≡ h = hierarchy_is design signature c.words.result.now c.blocks-2.result.now c.args.bases.now bases c.words.ensures c.blocks-2.ensures refl in
    let P : Hierarchy → Type 0 = λ top. IsWiringFault top c.in-Err.fault in
    let M : ComposeFault → Type 0 = MayFault (ComposesPlanned k mul h c.args.bound) in
    subst M (sym c.of_wiring.ensures) (wiring_refused k mul design signature bases c.args.bound c.in-Err.fault (subst P same c.in-Err.ensures.refused))

pub wired_order-requires-clause-few : goal.wired_order-requires-clause-few
wired_order-requires-clause-few g c =
    let k : ℕ = g.F.Ring.degree c.args.field.now in
    let mul : ℕ → ℕ → ℕ = g.F.Ring.product c.args.field.now in
    let design : List ModelValue = c.args.design.now in
    let signature : SignatureValue = c.args.signature.now in
    let bases : List (List Basis) = map (λ list. list.items) c.args.bases.now in
    let h : Hierarchy = hierarchy_of design signature bases in
    let same : hierarchy design c.words.result.now c.blocks-2.result.now c.args.bases.now ≡ h = hierarchy_is design signature c.words.result.now c.blocks-2.result.now c.args.bases.now bases c.words.ensures c.blocks-2.ensures refl in
    let vectors : List (Vec Feeder Global) = c.in-Ok.wiring.rows.items in
    let rows : List (List Feeder) = map (λ (v : Vec Feeder Global). v.items) vectors in
    let output : Feeder = c.in-Ok.wiring.output in
    let W : Hierarchy → Type 0 = λ top. AreWired top rows output in
    let wired : AreWired h rows output = subst W same c.in-Ok.ensures.wired in
    let P : List (Vec Feeder Global) → Type 0 = λ vs. length vs < 2 ^ 32 in
    subst P (sym c.deref-2.ensures.value) (rows_few h vectors output wired c.requires.few)

pub wired_order-requires-clause-inside : goal.wired_order-requires-clause-inside
wired_order-requires-clause-inside g c =
    let k : ℕ = g.F.Ring.degree c.args.field.now in
    let mul : ℕ → ℕ → ℕ = g.F.Ring.product c.args.field.now in
    let design : List ModelValue = c.args.design.now in
    let signature : SignatureValue = c.args.signature.now in
    let bases : List (List Basis) = map (λ list. list.items) c.args.bases.now in
    let h : Hierarchy = hierarchy_of design signature bases in
    let same : hierarchy design c.words.result.now c.blocks-2.result.now c.args.bases.now ≡ h = hierarchy_is design signature c.words.result.now c.blocks-2.result.now c.args.bases.now bases c.words.ensures c.blocks-2.ensures refl in
    let vectors : List (Vec Feeder Global) = c.in-Ok.wiring.rows.items in
    let rows : List (List Feeder) = map (λ (v : Vec Feeder Global). v.items) vectors in
    let output : Feeder = c.in-Ok.wiring.output in
    let W : Hierarchy → Type 0 = λ top. AreWired top rows output in
    let wired : AreWired h rows output = subst W same c.in-Ok.ensures.wired in
    let P : List (Vec Feeder Global) → Type 0 = λ vs. (i : ℕ) (row : Vec Feeder Global) → slice_get vs i ≡ Some row → All (λ a. a < length vs) (instances_among row.items) in
    subst P (sym c.deref-2.ensures.value) (rows_inside h vectors output wired)

pub of_cycle-requires-clause-few : goal.of_cycle-requires-clause-few
of_cycle-requires-clause-few g c =
    let k : ℕ = g.F.Ring.degree c.args.field.now in
    let mul : ℕ → ℕ → ℕ = g.F.Ring.product c.args.field.now in
    let design : List ModelValue = c.args.design.now in
    let signature : SignatureValue = c.args.signature.now in
    let bases : List (List Basis) = map (λ list. list.items) c.args.bases.now in
    let h : Hierarchy = hierarchy_of design signature bases in
    let same : hierarchy design c.words.result.now c.blocks-2.result.now c.args.bases.now ≡ h = hierarchy_is design signature c.words.result.now c.blocks-2.result.now c.args.bases.now bases c.words.ensures c.blocks-2.ensures refl in
    let vectors : List (Vec Feeder Global) = c.in-Ok.wiring.rows.items in
    let rows : List (List Feeder) = map (λ (v : Vec Feeder Global). v.items) vectors in
    let output : Feeder = c.in-Ok.wiring.output in
    let W : Hierarchy → Type 0 = λ top. AreWired top rows output in
    let wired : AreWired h rows output = subst W same c.in-Ok.ensures.wired in
    let P : List (Vec Feeder Global) → Type 0 = λ vs. length vs < 2 ^ 32 in
    subst P (sym c.deref-in-Err-wired_order.ensures.value) (rows_few h vectors output wired c.requires.few)

pub returns-in-Err-wired_order-clause-fault : goal.returns-in-Err-wired_order-clause-fault
returns-in-Err-wired_order-clause-fault g c =
    let k : ℕ = g.F.Ring.degree c.args.field.now in
    let mul : ℕ → ℕ → ℕ = g.F.Ring.product c.args.field.now in
    let design : List ModelValue = c.args.design.now in
    let signature : SignatureValue = c.args.signature.now in
    let bases : List (List Basis) = map (λ list. list.items) c.args.bases.now in
    let h : Hierarchy = hierarchy_of design signature bases in
    let same : hierarchy design c.words.result.now c.blocks-2.result.now c.args.bases.now ≡ h = hierarchy_is design signature c.words.result.now c.blocks-2.result.now c.args.bases.now bases c.words.ensures c.blocks-2.ensures refl in
    let vectors : List (Vec Feeder Global) = c.in-Ok.wiring.rows.items in
    let rows : List (List Feeder) = map (λ (v : Vec Feeder Global). v.items) vectors in
    let output : Feeder = c.in-Ok.wiring.output in
    let W : Hierarchy → Type 0 = λ top. AreWired top rows output in
    let wired : AreWired h rows output = subst W same c.in-Ok.ensures.wired in
    let P : List (Vec Feeder Global) → Type 0 = λ vs. MayFault (HasNoCycle (map (λ (v : Vec Feeder Global). v.items) vs)) c.of_cycle.result in
    cycle_refused k mul design signature bases c.args.bound rows output wired c.of_cycle.result (subst P c.deref-in-Err-wired_order.ensures.value c.of_cycle.ensures)

pub compose_stages-requires-clause-wired : goal.compose_stages-requires-clause-wired
compose_stages-requires-clause-wired g c =
    let k : ℕ = g.F.Ring.degree c.args.field.now in
    let mul : ℕ → ℕ → ℕ = g.F.Ring.product c.args.field.now in
    let design : List ModelValue = c.args.design.now in
    let signature : SignatureValue = c.args.signature.now in
    let bases : List (List Basis) = map (λ list. list.items) c.args.bases.now in
    let h : Hierarchy = hierarchy_of design signature bases in
    let same : hierarchy design c.words.result.now c.blocks-2.result.now c.args.bases.now ≡ h = hierarchy_is design signature c.words.result.now c.blocks-2.result.now c.args.bases.now bases c.words.ensures c.blocks-2.ensures refl in
    let vectors : List (Vec Feeder Global) = c.in-Ok.wiring.rows.items in
    let rows : List (List Feeder) = map (λ (v : Vec Feeder Global). v.items) vectors in
    let output : Feeder = c.in-Ok.wiring.output in
    let W : Hierarchy → Type 0 = λ top. AreWired top rows output in
    subst W same c.in-Ok.ensures.wired

pub returns-clause-fault : goal.returns-clause-fault
returns-clause-fault g c =
    let k : ℕ = g.F.Ring.degree c.args.field.now in
    let mul : ℕ → ℕ → ℕ = g.F.Ring.product c.args.field.now in
    let design : List ModelValue = c.args.design.now in
    let signature : SignatureValue = c.args.signature.now in
    let bases : List (List Basis) = map (λ list. list.items) c.args.bases.now in
    let h : Hierarchy = hierarchy_of design signature bases in
    let same : hierarchy design c.words.result.now c.blocks-2.result.now c.args.bases.now ≡ h = hierarchy_is design signature c.words.result.now c.blocks-2.result.now c.args.bases.now bases c.words.ensures c.blocks-2.ensures refl in
    let vectors : List (Vec Feeder Global) = c.in-Ok.wiring.rows.items in
    let rows : List (List Feeder) = map (λ (v : Vec Feeder Global). v.items) vectors in
    let output : Feeder = c.in-Ok.wiring.output in
    let W : Hierarchy → Type 0 = λ top. AreWired top rows output in
    let wired : AreWired h rows output = subst W same c.in-Ok.ensures.wired in
    let L : List (Vec Feeder Global) → Type 0 = λ vs. IsLevelOrder (feeding_graph (map (λ (v : Vec Feeder Global). v.items) vs)) c.in-Ok-wired_order.order.items in
    let free : IsWithoutCycle rows = no_cycle h rows output c.in-Ok-wired_order.order.items wired (subst L c.deref-2.ensures.value c.in-Ok-wired_order.ensures.order) in
    IfErr-weaker c.compose_stages.result _ _ (λ fault may. stage_refused k mul design signature bases c.args.bound rows output wired free fault may) c.compose_stages.ensures.fault

pub returns-clause-poly : goal.returns-clause-poly
returns-clause-poly g c =
    let k : ℕ = g.F.Ring.degree c.args.field.now in
    let mul : ℕ → ℕ → ℕ = g.F.Ring.product c.args.field.now in
    let design : List ModelValue = c.args.design.now in
    let signature : SignatureValue = c.args.signature.now in
    let bases : List (List Basis) = map (λ list. list.items) c.args.bases.now in
    let h : Hierarchy = hierarchy_of design signature bases in
    let same : hierarchy design c.words.result.now c.blocks-2.result.now c.args.bases.now ≡ h = hierarchy_is design signature c.words.result.now c.blocks-2.result.now c.args.bases.now bases c.words.ensures c.blocks-2.ensures refl in
    let vectors : List (Vec Feeder Global) = c.in-Ok.wiring.rows.items in
    let rows : List (List Feeder) = map (λ (v : Vec Feeder Global). v.items) vectors in
    let output : Feeder = c.in-Ok.wiring.output in
    let W : Hierarchy → Type 0 = λ top. AreWired top rows output in
    let wired : AreWired h rows output = subst W same c.in-Ok.ensures.wired in
    let L : List (Vec Feeder Global) → Type 0 = λ vs. IsLevelOrder (feeding_graph (map (λ (v : Vec Feeder Global). v.items) vs)) c.in-Ok-wired_order.order.items in
    let free : IsWithoutCycle rows = no_cycle h rows output c.in-Ok-wired_order.order.items wired (subst L c.deref-2.ensures.value c.in-Ok-wired_order.ensures.order) in
    IfOk-weaker c.compose_stages.result _ _ (λ poly is. planned_composed k mul design signature bases c.args.bound rows output wired free poly.terms is) c.compose_stages.ensures.poly
