use Rattle.std.proofs.Common.{◌≡◌, ◌⊎◌, ◌∙◌, ◌-◌, ap, sym, subst, ℕ, Global, List, Option, Some, Vec, length, map, arith}
use Rattle.std.specs.Prelude.{slice_get}
use Rattle.net_words.specs.Binding.{BoundNet}
use Rattle.net_words.specs.declared.word.WordText.{WordText}
use Rattle.net_signature.specs.Body.{BlockValue}
use Rattle.net_signature.specs.Signature.{SignatureValue}
use Rattle.net_blif.specs.Design.{ModelValue}
use Rattle.gf_basis.specs.declared.bases.Basis.{Basis}
use Rattle.poly_mixed.specs.Polynomial.{Polynomial, Terms}
use Rattle.compose_model.specs.declared.feeder.Feeder.{Feeder}
use Rattle.compose_model.specs.Wiring.{feeding_graph}
use Rattle.compose_polys.specs.LevelOrder.{IsLevelOrder}
use Rattle.compose_polys.specs.Wired.{IsStageFault, IsWired, IsWiredPoly}
use Rattle.block_compose.specs.Composed.{hierarchy_of, MayFault, StagesOf}
use Rattle.block_compose.specs.declared.fault.ComposeFault.{ComposeFault}
use Rattle.block_compose.specs.declared.fault.ComposeFault.TheVariants.{OutOfMemory}
use Rattle.block_compose.specs.private.Blocks.{AreKeptBlocks, ArePolys, AreTaken, HasPoly, IsFirstBlockOver}
use Rattle.block_compose.proofs.ReadyLemmas.{block_fault, blocks_kept, stage_fault, stage_poly, terms_of, wired_is}
use Rattle.block_compose.proofs.stages.compose_stages.Goals as goal

pub block_polys-requires : goal.block_polys-requires
block_polys-requires g c =
    let k : ℕ = g.F.Ring.degree c.args.field.now in
    let mul : ℕ → ℕ → ℕ = g.F.Ring.product c.args.field.now in
    let ring = g.met.F.Ring.laws c.args.field.now in
    let free = g.met.F.Field.no_zero_divisors c.args.field.now in
    let bases : List (List Basis) = map (λ list. list.items) c.args.bases.now in
    let rows : List (List Feeder) = map (λ row. row.items) c.args.wiring.now.rows.items in
    let numbers : List ℕ = c.args.plan.now.numbers.items in
    let circuits : List (Option BoundNet) = c.args.plan.now.circuits.items in
    let design : List ModelValue = c.args._design.now in
    let signature : SignatureValue = c.args.signature.now in
    let A : List BlockValue → Type 0 = λ bs. AreKeptBlocks k mul bs c.deref.result.now bases c.deref-2.result.now in
    let B : List (Option BoundNet) → Type 0 = λ cs. AreKeptBlocks k mul signature.blocks cs bases c.deref-2.result.now in
    let C : List ℕ → Type 0 = λ ns. AreKeptBlocks k mul signature.blocks circuits bases ns in
    subst A (sym c.blocks-2.ensures) (subst B (sym c.deref.ensures.value) (subst C (sym c.deref-2.ensures.value) (blocks_kept k mul ring free design signature bases numbers circuits rows c.args.wiring.now.output c.args.bound c.requires.given c.requires.planned c.requires.right)))

pub returns-in-Err-clause-fault : goal.returns-in-Err-clause-fault
returns-in-Err-clause-fault g c =
    let k : ℕ = g.F.Ring.degree c.args.field.now in
    let mul : ℕ → ℕ → ℕ = g.F.Ring.product c.args.field.now in
    let ring = g.met.F.Ring.laws c.args.field.now in
    let free = g.met.F.Field.no_zero_divisors c.args.field.now in
    let bases : List (List Basis) = map (λ list. list.items) c.args.bases.now in
    let rows : List (List Feeder) = map (λ row. row.items) c.args.wiring.now.rows.items in
    let numbers : List ℕ = c.args.plan.now.numbers.items in
    let circuits : List (Option BoundNet) = c.args.plan.now.circuits.items in
    let design : List ModelValue = c.args._design.now in
    let signature : SignatureValue = c.args.signature.now in
    let A : List BlockValue → Type 0 = λ bs. (c.in-Err.fault ≡ OutOfMemory) ⊎ IsFirstBlockOver k mul bs c.deref.result.now bases c.args.bound c.deref-2.result.now c.in-Err.fault in
    let B : List (Option BoundNet) → Type 0 = λ cs. (c.in-Err.fault ≡ OutOfMemory) ⊎ IsFirstBlockOver k mul signature.blocks cs bases c.args.bound c.deref-2.result.now c.in-Err.fault in
    let C : List ℕ → Type 0 = λ ns. (c.in-Err.fault ≡ OutOfMemory) ⊎ IsFirstBlockOver k mul signature.blocks circuits bases c.args.bound ns c.in-Err.fault in
    block_fault k mul ring free design signature bases numbers circuits rows c.args.wiring.now.output c.args.bound c.requires.given c.requires.planned c.requires.right c.in-Err.fault (subst C c.deref-2.ensures.value (subst B c.deref.ensures.value (subst A c.blocks-2.ensures c.in-Err.ensures.fault)))

pub polys_of-requires : goal.polys_of-requires
polys_of-requires g c = λ i number got.
    let P : List (Option Polynomial) → Type 0 = λ ps. HasPoly ps number in
    subst P (sym c.deref-3.ensures.value) (c.in-Ok.ensures.all i number (ap (λ (ns : List ℕ). slice_get ns i) (c.deref-2.ensures.value ∙ sym c.deref-4.ensures.value) ∙ got))

pub overflow_sub-count : goal.overflow_sub-count
overflow_sub-count g c = omega (arith, ap length c.words.ensures, c.requires.given.words_are.one)

pub wired_poly-requires-clause-order : goal.wired_poly-requires-clause-order
wired_poly-requires-clause-order g c =
    let P : List (Vec Feeder Global) → Type 0 = λ rows. IsLevelOrder (feeding_graph (map (λ row. row.items) rows)) c.args.order.now in
    subst P (sym c.deref-6.ensures.value) c.requires.order

pub wired_poly-requires-clause-wired : goal.wired_poly-requires-clause-wired
wired_poly-requires-clause-wired g c =
    let k : ℕ = g.F.Ring.degree c.args.field.now in
    let mul : ℕ → ℕ → ℕ = g.F.Ring.product c.args.field.now in
    let ring = g.met.F.Ring.laws c.args.field.now in
    let free = g.met.F.Field.no_zero_divisors c.args.field.now in
    let bases : List (List Basis) = map (λ list. list.items) c.args.bases.now in
    let rows : List (List Feeder) = map (λ row. row.items) c.args.wiring.now.rows.items in
    let numbers : List ℕ = c.args.plan.now.numbers.items in
    let circuits : List (Option BoundNet) = c.args.plan.now.circuits.items in
    let design : List ModelValue = c.args._design.now in
    let signature : SignatureValue = c.args.signature.now in
    let polys : List (Option Polynomial) = c.in-Ok.polys.items in
    let A : List BlockValue → Type 0 = λ bs. ArePolys k mul bs c.deref.result.now bases c.args.bound polys in
    let B : List (Option BoundNet) → Type 0 = λ cs. ArePolys k mul signature.blocks cs bases c.args.bound polys in
    let are = subst B c.deref.ensures.value (subst A c.blocks-2.ensures c.in-Ok.ensures.polys) in
    let H : List ℕ → Type 0 = λ ns. (i number : ℕ) → slice_get ns i ≡ Some number → HasPoly polys number in
    let has = subst H c.deref-2.ensures.value c.in-Ok.ensures.all in
    let list : List Polynomial = map (λ q. q.now) c.in-Ok-polys_of.list.items in
    let T : List (Option Polynomial) → Type 0 = λ ps. AreTaken ps c.deref-4.result.now list in
    let U : List ℕ → Type 0 = λ ns. AreTaken polys ns list in
    let taken = subst U c.deref-4.ensures.value (subst T c.deref-3.ensures.value c.in-Ok-polys_of.ensures) in
    let count : ℕ = length c.words.result.now - 1 in
    let count_is : count ≡ length signature.words - 1 = ap (λ (ws : List WordText). length ws - 1) c.words.ensures in
    let same_terms : map (λ f. f.now.terms) c.deref-5.result.now ≡ map (λ (q : Polynomial). q.terms) list = ap (λ fs. map (λ f. f.now.terms) fs) c.deref-5.ensures.value ∙ terms_of (λ f. f.now) c.in-Ok-polys_of.list.items in
    let blocks : List Terms = map (λ (q : Polynomial). q.terms) list in
    let rows_same : map (λ row. row.items) c.deref-6.result.now ≡ rows = ap (λ rs. map (λ row. row.items) rs) c.deref-6.ensures.value in
    let P : List Terms → Type 0 = λ ts. IsWired k count ts (map (λ row. row.items) c.deref-6.result.now) c.args.wiring.now.output in
    let Q : List (List Feeder) → Type 0 = λ rs. IsWired k count blocks rs c.args.wiring.now.output in
    subst P (sym same_terms) (subst Q (sym rows_same) (wired_is k mul ring free design signature bases numbers circuits rows c.args.wiring.now.output c.args.bound c.requires.given c.requires.planned c.requires.right c.requires.wired c.args.order.now c.requires.order polys are has list taken count count_is c.requires.few))

pub returns-in-Ok-wired_poly-clause-poly : goal.returns-in-Ok-wired_poly-clause-poly
returns-in-Ok-wired_poly-clause-poly g c =
    let k : ℕ = g.F.Ring.degree c.args.field.now in
    let mul : ℕ → ℕ → ℕ = g.F.Ring.product c.args.field.now in
    let ring = g.met.F.Ring.laws c.args.field.now in
    let free = g.met.F.Field.no_zero_divisors c.args.field.now in
    let bases : List (List Basis) = map (λ list. list.items) c.args.bases.now in
    let rows : List (List Feeder) = map (λ row. row.items) c.args.wiring.now.rows.items in
    let numbers : List ℕ = c.args.plan.now.numbers.items in
    let circuits : List (Option BoundNet) = c.args.plan.now.circuits.items in
    let design : List ModelValue = c.args._design.now in
    let signature : SignatureValue = c.args.signature.now in
    let polys : List (Option Polynomial) = c.in-Ok.polys.items in
    let A : List BlockValue → Type 0 = λ bs. ArePolys k mul bs c.deref.result.now bases c.args.bound polys in
    let B : List (Option BoundNet) → Type 0 = λ cs. ArePolys k mul signature.blocks cs bases c.args.bound polys in
    let are = subst B c.deref.ensures.value (subst A c.blocks-2.ensures c.in-Ok.ensures.polys) in
    let H : List ℕ → Type 0 = λ ns. (i number : ℕ) → slice_get ns i ≡ Some number → HasPoly polys number in
    let has = subst H c.deref-2.ensures.value c.in-Ok.ensures.all in
    let list : List Polynomial = map (λ q. q.now) c.in-Ok-polys_of.list.items in
    let T : List (Option Polynomial) → Type 0 = λ ps. AreTaken ps c.deref-4.result.now list in
    let U : List ℕ → Type 0 = λ ns. AreTaken polys ns list in
    let taken = subst U c.deref-4.ensures.value (subst T c.deref-3.ensures.value c.in-Ok-polys_of.ensures) in
    let count : ℕ = length c.words.result.now - 1 in
    let count_is : count ≡ length signature.words - 1 = ap (λ (ws : List WordText). length ws - 1) c.words.ensures in
    let same_terms : map (λ f. f.now.terms) c.deref-5.result.now ≡ map (λ (q : Polynomial). q.terms) list = ap (λ fs. map (λ f. f.now.terms) fs) c.deref-5.ensures.value ∙ terms_of (λ f. f.now) c.in-Ok-polys_of.list.items in
    let blocks : List Terms = map (λ (q : Polynomial). q.terms) list in
    let rows_same : map (λ row. row.items) c.deref-6.result.now ≡ rows = ap (λ rs. map (λ row. row.items) rs) c.deref-6.ensures.value in
    let P : List Terms → Type 0 = λ ts. IsWiredPoly k mul count ts (map (λ row. row.items) c.deref-6.result.now) c.args.bound c.args.wiring.now.output c.in-Ok-wired_poly.poly.terms in
    let Q : List (List Feeder) → Type 0 = λ rs. IsWiredPoly k mul count blocks rs c.args.bound c.args.wiring.now.output c.in-Ok-wired_poly.poly.terms in
    stage_poly k mul ring free design signature bases numbers circuits rows c.args.wiring.now.output c.args.bound c.requires.given c.requires.planned c.requires.right c.requires.wired c.args.order.now c.requires.order polys are has list taken count count_is c.in-Ok-wired_poly.poly.terms (subst Q rows_same (subst P same_terms c.in-Ok-wired_poly.ensures.poly))

pub returns-clause-fault : goal.returns-clause-fault
returns-clause-fault g c =
    let k : ℕ = g.F.Ring.degree c.args.field.now in
    let mul : ℕ → ℕ → ℕ = g.F.Ring.product c.args.field.now in
    let ring = g.met.F.Ring.laws c.args.field.now in
    let free = g.met.F.Field.no_zero_divisors c.args.field.now in
    let bases : List (List Basis) = map (λ list. list.items) c.args.bases.now in
    let rows : List (List Feeder) = map (λ row. row.items) c.args.wiring.now.rows.items in
    let numbers : List ℕ = c.args.plan.now.numbers.items in
    let circuits : List (Option BoundNet) = c.args.plan.now.circuits.items in
    let design : List ModelValue = c.args._design.now in
    let signature : SignatureValue = c.args.signature.now in
    let polys : List (Option Polynomial) = c.in-Ok.polys.items in
    let A : List BlockValue → Type 0 = λ bs. ArePolys k mul bs c.deref.result.now bases c.args.bound polys in
    let B : List (Option BoundNet) → Type 0 = λ cs. ArePolys k mul signature.blocks cs bases c.args.bound polys in
    let are = subst B c.deref.ensures.value (subst A c.blocks-2.ensures c.in-Ok.ensures.polys) in
    let H : List ℕ → Type 0 = λ ns. (i number : ℕ) → slice_get ns i ≡ Some number → HasPoly polys number in
    let has = subst H c.deref-2.ensures.value c.in-Ok.ensures.all in
    let list : List Polynomial = map (λ q. q.now) c.in-Ok-polys_of.list.items in
    let T : List (Option Polynomial) → Type 0 = λ ps. AreTaken ps c.deref-4.result.now list in
    let U : List ℕ → Type 0 = λ ns. AreTaken polys ns list in
    let taken = subst U c.deref-4.ensures.value (subst T c.deref-3.ensures.value c.in-Ok-polys_of.ensures) in
    let count : ℕ = length c.words.result.now - 1 in
    let count_is : count ≡ length signature.words - 1 = ap (λ (ws : List WordText). length ws - 1) c.words.ensures in
    let same_terms : map (λ f. f.now.terms) c.deref-5.result.now ≡ map (λ (q : Polynomial). q.terms) list = ap (λ fs. map (λ f. f.now.terms) fs) c.deref-5.ensures.value ∙ terms_of (λ f. f.now) c.in-Ok-polys_of.list.items in
    let blocks : List Terms = map (λ (q : Polynomial). q.terms) list in
    let rows_same : map (λ row. row.items) c.deref-6.result.now ≡ rows = ap (λ rs. map (λ row. row.items) rs) c.deref-6.ensures.value in
    let P : List Terms → Type 0 = λ ts. IsStageFault k mul count ts (map (λ row. row.items) c.deref-6.result.now) c.args.bound c.in-Err-wired_poly.fault in
    let Q : List (List Feeder) → Type 0 = λ rs. IsStageFault k mul count blocks rs c.args.bound c.in-Err-wired_poly.fault in
    let R : ComposeFault → Type 0 = MayFault (StagesOf k mul (hierarchy_of design signature bases) rows c.args.bound) in
    subst R (sym c.of_stage.ensures) (stage_fault k mul ring free design signature bases numbers circuits rows c.args.wiring.now.output c.args.bound c.requires.given c.requires.planned c.requires.right c.requires.wired c.args.order.now c.requires.order polys are has list taken count count_is c.in-Err-wired_poly.fault (subst Q rows_same (subst P same_terms c.in-Err-wired_poly.ensures.fault)))
