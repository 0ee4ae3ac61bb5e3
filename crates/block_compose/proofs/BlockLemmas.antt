-- The polynomials of blocks, while instances are taken one after another.
use Rattle.std.proofs.Common.{◌≡◌, ◌≢◌, ◌⊎◌, ◌∙◌, ap, sym, subst, inl, inr, ℕ, zero, suc, ◌<◌, ◌+◌, Global, List, [], ◌∷◌, ◌++◌, Vec, get_or, length, map, replicate, Option, None, Some, arith}
use Rattle.std.specs.Prelude.{slice_get}
use Rattle.std.proofs.Math.ListN.{set}
use Rattle.std.proofs.lemmas.List.{length-set}
use Rattle.lists.specs.laws.ListLaws.{length-push}
use Rattle.lists.specs.laws.NumberLaws.{nat_eq_or}
use Rattle.lists.specs.laws.ReadLaws.{get_set_other, get_set_same, got_push, got_set}
use Rattle.net_words.specs.Binding.{BoundNet}
use Rattle.net_signature.specs.Body.{BlockValue}
use Rattle.gf_basis.specs.declared.bases.Basis.{Basis}
use Rattle.poly_mixed.specs.Polynomial.{Polynomial, Terms}
use Rattle.poly_mixed.specs.declared.stage.ReduceFault.{ReduceFault}
use Rattle.abstraction.specs.Stages.{stages_in, IsFirstRefusal}
use Rattle.compose_blocks.proofs.ListLemmas.{none_read, replicated}
use Rattle.block_compose.specs.declared.fault.ComposeFault.{ComposeFault}
use Rattle.block_compose.specs.declared.fault.ComposeFault.TheVariants.{OutOfMemory}
use Rattle.block_compose.specs.private.Blocks.{block_fault_of, ArePolys, AreTaken, HasPoly, IsBlockPoly, IsFirstBlockOver, IsKeptBlock, IsRefusedBlock, KeepsPolys}
use Rattle.block_compose.proofs.TakenPolys.{AreTakenTo}

module _ (k : ℕ) (mul : ℕ → ℕ → ℕ) (blocks : List BlockValue) (circuits : List (Option BoundNet)) (bases : List (List Basis)) (bound : ℕ) where
  pub no_polys : (polys : List (Option Polynomial)) → polys ≡ replicate (length blocks) None → ArePolys k mul blocks circuits bases bound polys
  no_polys polys none =
      let P : List (Option Polynomial) → Type 0 = ArePolys k mul blocks circuits bases bound in
      subst P (sym none) (record { long = replicated (length blocks) None; each = λ number poly got. absurd (none_read (length blocks) number poly got) })

  pub poly_more : (polys : List (Option Polynomial)) (number : ℕ) (poly : Polynomial) → ArePolys k mul blocks circuits bases bound polys → IsBlockPoly k mul blocks circuits bases bound number poly.terms → ArePolys k mul blocks circuits bases bound (set polys number (Some poly))
  poly_more polys number poly are is =
      record { long = length-set polys number (Some poly) ∙ are.long; each = λ n other got. by n other (got_set polys number (Some poly) n (Some other) got) }
    where
      by : (n : ℕ) (other : Polynomial) → ((n ≡ number) × (Some other ≡ Some poly)) ⊎ ((n ≢ number) × (slice_get polys n ≡ Some (Some other))) → IsBlockPoly k mul blocks circuits bases bound n other.terms
      by n other (inr old) = are.each n other old.1
      by n other (inl new) =
          let same : poly ≡ other = cc in
          let P : ℕ → Type 0 = λ m. IsBlockPoly k mul blocks circuits bases bound m other.terms in
          let Q : Polynomial → Type 0 = λ q. IsBlockPoly k mul blocks circuits bases bound number q.terms in
          subst P (sym new.0) (subst Q same is)

  -- a refused stage as a refusal of the block
  pub stage_refused : (number : ℕ) (circuit : BoundNet) (list : List Basis) (refused : ReduceFault) (fault : ComposeFault) → (kept : IsKeptBlock k mul blocks circuits bases number circuit list) → IsFirstRefusal k mul (stages_in k mul circuit list) bound refused → ((fault ≡ OutOfMemory) ⊎ (fault ≡ block_fault_of refused kept.block.model)) → IsRefusedBlock k mul blocks circuits bases bound number fault
  stage_refused number circuit list refused fault kept is (inl none) = inl none
  stage_refused number circuit list refused fault kept is (inr same) = inr (record { circuit = circuit; list = list; kept = kept; refused = refused; is = is; fault_is = same })

  -- the first block that is refused
  pub first_over : (numbers : List ℕ) (i number : ℕ) (polys : List (Option Polynomial)) (fault : ComposeFault) → slice_get numbers i ≡ Some number → ArePolys k mul blocks circuits bases bound polys → ((j m : ℕ) → j < i → slice_get numbers j ≡ Some m → HasPoly polys m) → slice_get polys number ≡ Some None → IsRefusedBlock k mul blocks circuits bases bound number fault
      → (fault ≡ OutOfMemory) ⊎ IsFirstBlockOver k mul blocks circuits bases bound numbers fault
  first_over numbers i number polys fault at are done new (inl none) = inl none
  first_over numbers i number polys fault at are done new (inr refused) = inr (record { place = i; number = number; at = at; refused = refused; before = before })
    where
      before : (j m : ℕ) → j < i → slice_get numbers j ≡ Some m → (m ≢ number) × ((ts : Terms) × IsBlockPoly k mul blocks circuits bases bound m ts)
      before j m less got =
          let has = done j m less got in (
            (λ same.
                let P : ℕ → Type 0 = λ n. slice_get polys n ≡ Some (Some has.0) in
                let here : slice_get polys number ≡ Some (Some has.0) = subst P same has.1 in
                let both : None ≡ Some has.0 = cc in
                absurd (cc)),
            (has.0.terms, are.each m has.0 has.1),
          )

pub keeps_more : (polys : List (Option Polynomial)) (number : ℕ) (poly : Polynomial) → slice_get polys number ≡ Some None → KeepsPolys polys (set polys number (Some poly))
keeps_more polys number poly none n other got = get_set_other polys number (Some poly) n (Some other) differs got
  where
    differs : n ≡ number → ⊥
    differs same =
        let P : ℕ → Type 0 = λ m. slice_get polys m ≡ Some (Some other) in
        let here : slice_get polys number ≡ Some (Some other) = subst P same got in
        let both : None ≡ Some other = cc in
        absurd (cc)

pub has_more : (polys : List (Option Polynomial)) (number : ℕ) (poly : Polynomial) → slice_get polys number ≡ Some None → HasPoly (set polys number (Some poly)) number
has_more polys number poly none = (poly, get_set_same polys number None (Some poly) none)

-- ---- the polynomials of blocks, one by one

pub taken_more : (polys : List (Option Polynomial)) (numbers : List ℕ) (n number : ℕ) (old new : List Polynomial) (poly : Polynomial) → AreTakenTo polys numbers n old → slice_get numbers n ≡ Some number → slice_get polys number ≡ Some (Some poly) → new ≡ old ++ poly ∷ [] → AreTakenTo polys numbers (n + 1) new
taken_more polys numbers n number old new poly taken at has made =
    let P : List Polynomial → Type 0 = AreTakenTo polys numbers (n + 1) in
    subst P (sym made) (record { long = length-push old poly ∙ ap (λ m. m + 1) taken.long; each = λ i m other got there. by i m other got (got_push old poly i other there) })
  where
    by : (i m : ℕ) (other : Polynomial) → slice_get numbers i ≡ Some m → ((slice_get old i ≡ Some other) × (i < length old)) ⊎ ((i ≡ length old) × (other ≡ poly)) → slice_get polys m ≡ Some (Some other)
    by i m other got (inl earlier) = taken.each i m other got earlier.0
    by i m other got (inr last) =
        let P : ℕ → Type 0 = λ j. slice_get numbers j ≡ Some m in
        let here : slice_get numbers n ≡ Some m = subst P (last.0 ∙ taken.long) got in
        let same : number ≡ m = cc in
        let Q : ℕ → Type 0 = λ j. slice_get polys j ≡ Some (Some poly) in
        subst Q same has ∙ ap (λ q. Some (Some q)) (sym last.1)

pub all_taken : (polys : List (Option Polynomial)) (numbers : List ℕ) (n : ℕ) (list : List Polynomial) → AreTakenTo polys numbers n list → n ≡ length numbers → AreTaken polys numbers list
all_taken polys numbers n list taken same = record { long = taken.long ∙ same; each = taken.each }

-- the blocks of the numbers so far, and the next one
pub done_more : (numbers : List ℕ) (i number : ℕ) (old new : List (Option Polynomial)) → slice_get numbers i ≡ Some number → KeepsPolys old new → ((j m : ℕ) → j < i → slice_get numbers j ≡ Some m → HasPoly old m) → HasPoly new number → (j m : ℕ) → j < i + 1 → slice_get numbers j ≡ Some m → HasPoly new m
done_more numbers i number old new at keeps done has j m less got = elim (nat_eq_or j i) [ inl same ↦ here same | inr other ↦ earlier other ]
  where
    here : j ≡ i → HasPoly new m
    here same =
        let P : ℕ → Type 0 = λ n. slice_get numbers n ≡ Some m in
        let own : slice_get numbers i ≡ Some m = subst P same got in
        let equal : number ≡ m = cc in
        let Q : ℕ → Type 0 = λ n. HasPoly new n in
        subst Q equal has

    earlier : j ≢ i → HasPoly new m
    earlier other = let was = done j m (omega (arith, less, other)) got in (was.0, keeps m was.0 was.1)

-- ---- what is read of a block

pub same_list : (lists : List (Vec Basis Global)) (n : ℕ) (list : List Basis) (read : Vec Basis Global) → slice_get (map (λ (v : Vec Basis Global). v.items) lists) n ≡ Some list → read ≡ get_or lists n read → list ≡ read.items
same_list [] n list read got is = absurd (cc)
same_list (v ∷ lists) zero list read got is = let same : v.items ≡ list = cc in sym same ∙ ap (λ (w : Vec Basis Global). w.items) (sym is)
same_list (v ∷ lists) (suc n) list read got is = same_list lists n list read got is

pub same_block : (blocks : List BlockValue) (n : ℕ) (block read : BlockValue) → slice_get blocks n ≡ Some block → read ≡ get_or blocks n read → block ≡ read
same_block [] n block read got is = absurd (cc)
same_block (b ∷ blocks) zero block read got is = let same : b ≡ block = cc in sym same ∙ sym is
same_block (b ∷ blocks) (suc n) block read got is = same_block blocks n block read got is
