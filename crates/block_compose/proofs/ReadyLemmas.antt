-- A top whose instances have blocks, are wired, and stand in an order by level: all that its stages ask for.
use Rattle.std.proofs.Common.{◌≡◌, ◌⊎◌, ◌∙◌, ap, sym, refl, subst, inl, inr, ℕ, ◌<◌, ◌-◌, ◌^◌, List, [], ◌∷◌, length, map, Option, Some, Ok, arith}
use Rattle.std.specs.Prelude.{slice_get}
use Rattle.net_words.specs.Binding.{BoundNet}
use Rattle.net_signature.specs.Signature.{SignatureValue}
use Rattle.net_blif.specs.Design.{ModelValue}
use Rattle.net_blif.specs.Models.{AreRight}
use Rattle.net_blif.specs.Top.{instances_of}
use Rattle.gf_field.specs.Field.{HasNoZeroDivisors}
use Rattle.gf_field.specs.Ring.{IsRing}
use Rattle.gf_basis.specs.declared.bases.Basis.{Basis}
use Rattle.poly_mixed.specs.Polynomial.{Polynomial, Terms}
use Rattle.poly_mixed.specs.declared.stage.ReduceFault.{ReduceFault}
use Rattle.compose_model.specs.Given.{IsGiven}
use Rattle.compose_model.specs.Hierarchy.{top_words, Hierarchy}
use Rattle.compose_model.specs.NamedWord.{inputs_among}
use Rattle.compose_model.specs.Wiring.{feeding_graph, IsWithoutCycle}
use Rattle.compose_model.specs.declared.feeder.Feeder.{Feeder}
use Rattle.compose_polys.specs.LevelOrder.{IsLevelOrder}
use Rattle.compose_polys.specs.Wired.{IsStageFault, IsWired, IsWiredPoly}
use Rattle.compose_blocks.specs.Planned.{IsPlanned}
use Rattle.compose_wiring.specs.Answer.{AreWired}
use Rattle.compose_wiring.specs.Instanced.{IsInstanced}
use Rattle.block_compose.specs.Composed.{hierarchy_of, IsComposable, MayFault, StagesOf}
use Rattle.block_compose.specs.declared.fault.ComposeFault.{ComposeFault}
use Rattle.block_compose.specs.declared.fault.ComposeFault.TheVariants.{OutOfMemory}
use Rattle.block_compose.specs.private.Blocks.{instance_fault_of, AreKeptBlocks, ArePolys, AreTaken, HasPoly, IsFirstBlockOver}
use Rattle.block_compose.proofs.ComposeLemmas.{all_composed, block_refused, blocks_all, instance_refused, no_cycle}
use Rattle.block_compose.proofs.GivenLemmas.{block_based, have_blocks, is_given, kept_blocks, top_based, top_circuit}
use Rattle.block_compose.proofs.StageLemmas.{block_polys, count_is, number_at, wired_top}

module _ (k : ℕ) (mul : ℕ → ℕ → ℕ) (ring : IsRing k mul) (field : HasNoZeroDivisors k mul) (design : List ModelValue) (signature : SignatureValue) (bases : List (List Basis)) (numbers : List ℕ) (circuits : List (Option BoundNet)) (rows : List (List Feeder)) (output : Feeder) (bound : ℕ)
    (given : IsComposable k mul design signature bases) (planned : IsPlanned design signature numbers circuits) (right : AreRight design (Ok tt)) where
  abbrev h : Hierarchy
  h = hierarchy_of design signature bases

  pub blocks_kept : AreKeptBlocks k mul signature.blocks circuits bases numbers
  blocks_kept = kept_blocks k mul design signature bases planned.uses planned.are.2.2.2 numbers circuits given planned.kept

  -- each instance has its block by the number that is kept
  pub instanced : IsInstanced k h numbers
  instanced =
      record {
        top = top_based k mul design signature bases given planned.are.1;
        blocks = block_based k mul design signature bases given planned.are.1;
        long = planned.kept.long ∙ planned.are.2.2.2.long;
        each = λ i item at. let number = number_at k mul design signature bases planned.uses planned.are.2.2.2 numbers circuits planned.kept i item at in number.1 ∙ sym number.2;
      }

  -- the first block that is refused
  pub block_fault : (fault : ComposeFault) → (fault ≡ OutOfMemory) ⊎ IsFirstBlockOver k mul signature.blocks circuits bases bound numbers fault → MayFault (StagesOf k mul h rows bound) fault
  block_fault fault (inl none) = let P : ComposeFault → Type 0 = MayFault (StagesOf k mul h rows bound) in subst P (sym none) tt
  block_fault fault (inr first) = block_refused k mul design signature bases planned.uses planned.are.2.2.2 numbers circuits planned.kept bound rows fault first

  -- all words but the output word
  count_same : (count : ℕ) → count ≡ length signature.words - 1 → count ≡ length (inputs_among (top_words h))
  count_same count is = is ∙ count_is k signature.words _ given.words_are (top_based k mul design signature bases given planned.are.1).long

  module _ (wired : AreWired h rows output) (order : List ℕ) (by_level : IsLevelOrder (feeding_graph rows) order) (polys : List (Option Polynomial)) (are : ArePolys k mul signature.blocks circuits bases bound polys) (has : (i number : ℕ) → slice_get numbers i ≡ Some number → HasPoly polys number) (list : List Polynomial) (taken : AreTaken polys numbers list) (count : ℕ) (count_is_rest : count ≡ length signature.words - 1) where
    known : IsGiven k h
    known = is_given k mul design signature bases given planned.are.1 rows output right wired

    free : IsWithoutCycle rows
    free = no_cycle h rows output order wired by_level

    abbrev blocks : List Terms
    blocks = map (λ (q : Polynomial). q.terms) list

    pub wired_is : length (instances_of design) < 2 ^ 32 → IsWired k count blocks rows output
    wired_is few = wired_top k mul design signature bases planned.uses planned.are.2.2.2 numbers circuits planned.kept bound polys are list taken ring field known rows output count wired (have_blocks k mul design signature bases planned.uses planned.are.2.2.2) (count_same count count_is_rest) (omega (arith, count_is_rest, given.words_are.few)) few

    -- the first stage of an instance over the bound
    pub stage_fault : (fault : ReduceFault) → IsStageFault k mul count blocks rows bound fault → MayFault (StagesOf k mul h rows bound) (instance_fault_of fault)
    stage_fault fault is = instance_refused k mul design signature bases planned.uses planned.are.2.2.2 numbers circuits planned.kept bound rows ring field known output wired free blocks (block_polys k mul design signature bases planned.uses planned.are.2.2.2 numbers circuits planned.kept bound polys are list taken) (blocks_all k mul design signature bases planned.uses planned.are.2.2.2 numbers circuits planned.kept bound polys are has) count (count_same count count_is_rest) fault is

    -- the polynomial
    pub stage_poly : (ts : Terms) → IsWiredPoly k mul count blocks rows bound output ts → StagesOf k mul h rows bound (Ok ts)
    stage_poly ts is =
        let top = top_circuit k mul design signature bases planned.uses planned.are.2.2.2 given planned.are.1 planned.are.2.1 right in
        all_composed k mul design signature bases planned.uses planned.are.2.2.2 numbers circuits planned.kept bound rows ring field known output wired free blocks (block_polys k mul design signature bases planned.uses planned.are.2.2.2 numbers circuits planned.kept bound polys are list taken) (blocks_all k mul design signature bases planned.uses planned.are.2.2.2 numbers circuits planned.kept bound polys are has) count (count_same count count_is_rest) top.0 ts top.1 is

-- references to polynomials by their terms
pub terms_of : {X : Type 0} (f : X → Polynomial) (xs : List X) → map (λ x. (f x).terms) xs ≡ map (λ (q : Polynomial). q.terms) (map f xs)
terms_of f [] = refl
terms_of f (x ∷ xs) = ap (λ ts. (f x).terms ∷ ts) (terms_of f xs)
