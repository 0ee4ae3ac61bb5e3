-- The pairs that the code keeps, with one more line; and faults of the claim's text.
use Rattle.std.proofs.Common.{◌≡◌, ◌==◌, ◌∙◌, ap, sym, refl, subst, inl, inr, false, ℕ, zero, suc, ◌<◌, ◌+◌, ◌^◌, List, [], ◌∷◌, ◌++◌, length, map, get_or, drop, take, Result, Ok, Err, arith}
use Rattle.std.specs.List.{AllByRecursion}
use Rattle.std.specs.Str.Lines.{lines, strip_carriage_return}
use Rattle.std.specs.Prelude.{◌⊎◌}
use Rattle.std.proofs.lemmas.Bool.{cases_eq}
use Rattle.std.proofs.lemmas.List.{map-append, length-map, length_push}
use Rattle.outcome.specs.Outcome.{Fits, MayRefuse}
use Rattle.text_core.proofs.LineLemmas.{lines_at, lines_last}
use Rattle.poly_mixed.specs.Labels.{Labelling}
use Rattle.poly_mixed.specs.Polynomial.{Polynomial, Terms}
use Rattle.poly_mixed.specs.TextOutcome.{TextFault, text_fault, no_polynomial, no_such_net, no_such_bit, TextOutcome}
use Rattle.poly_mixed.specs.declared.fault.PolyFault.{PolyFault}
use Rattle.poly_mixed.specs.declared.fault.PolyFault.TheVariants as poly
use Rattle.poly_mixed.proofs.OneOutcomeLemmas.{one_outcome}
use Rattle.cert_check.specs.Certificate.{with_shared, InWords}
use Rattle.cert_check.specs.Fault.{line_refusal}
use Rattle.cert_check.specs.declared.cert_pairs.Entry.{Entry}
use Rattle.cert_check.specs.declared.fault.LineFault.{LineFault}
use Rattle.cert_check.specs.declared.line.Multiplier.{Multiplier}
use Rattle.cert_check.specs.declared.line.Multiplier.TheVariants.{Own, Shared}
use Rattle.cert_check.specs.private.Kept.{terms_of, step_in, certificate_of, IsNumbered, AreEntries}
use Rattle.cert_check.specs.private.Reading.{multiplier_in, fault_of_claim}
use Rattle.poly_mixed.proofs.TextLemmas.{all_more}

front_get : (xs ys : List Terms) (n : ℕ) → n < length xs → get_or (xs ++ ys) n [] ≡ get_or xs n []
front_get [] ys n less = absurd (omega arith)
front_get (x ∷ xs) ys zero less = refl
front_get (x ∷ xs) ys (suc n) less = front_get xs ys n (omega arith)

same_multiplier : (shared more : List Terms) (m : Multiplier) → IsNumbered (length shared) m → multiplier_in (shared ++ more) m ≡ multiplier_in shared m
same_multiplier shared more (Own p) is = refl
same_multiplier shared more (Shared n) is = front_get shared more n is

same_steps : (shared more : List Terms) (entries : List Entry) → AllByRecursion (λ (e : Entry). IsNumbered (length shared) e.multiplier) entries → map (step_in (shared ++ more)) entries ≡ map (step_in shared) entries
same_steps shared more [] all = refl
same_steps shared more (e ∷ es) all = (λ i. (e.generator, same_multiplier shared more e.multiplier all.0 i) ∷ same_steps shared more es all.1 i)

pub share_added : (claim : Polynomial) (shared new : List Polynomial) (p : Polynomial) (entries : List Entry) → new ≡ shared ++ p ∷ [] → AreEntries (length shared) entries → certificate_of claim new entries ≡ with_shared (certificate_of claim shared entries) p.terms
share_added claim shared new p entries is are =
    let terms : terms_of (shared ++ p ∷ []) ≡ terms_of shared ++ p.terms ∷ [] = map-append (λ (q : Polynomial). q.terms) shared (p ∷ []) in
    let count : length shared ≡ length (terms_of shared) = sym (length-map shared (λ (q : Polynomial). q.terms)) in
    let Q : ℕ → Type 0 = λ n. AllByRecursion (λ (e : Entry). IsNumbered n e.multiplier) entries in
    let steps : map (step_in (terms_of shared ++ p.terms ∷ [])) entries ≡ map (step_in (terms_of shared)) entries = same_steps (terms_of shared) (p.terms ∷ []) entries (subst Q count are.each) in
    ap (λ xs. certificate_of claim xs entries) is
    ∙ ((λ i. record { claim = claim.terms; shared = terms i; pairs = map (step_in (terms i)) entries })
    ∙ (λ i. record { claim = claim.terms; shared = terms_of shared ++ p.terms ∷ []; pairs = steps i }))

later : (n : ℕ) (m : Multiplier) → IsNumbered n m → IsNumbered (n + 1) m
later n (Own p) is = tt
later n (Shared i) is = omega arith

numbered_still : (n : ℕ) (es : List Entry) → AllByRecursion (λ (e : Entry). IsNumbered n e.multiplier) es → AllByRecursion (λ (e : Entry). IsNumbered (n + 1) e.multiplier) es
numbered_still n [] all = tt
numbered_still n (e ∷ es) all = (later n e.multiplier all.0, numbered_still n es all.1)

-- the entries where one more multiplier is shared
pub entries_stay : (shared new : List Polynomial) (p : Polynomial) (entries : List Entry) → new ≡ shared ++ p ∷ [] → AreEntries (length shared) entries → AreEntries (length new) entries
entries_stay shared new p entries is are =
    let long : length new ≡ length shared + 1 = ap (λ (xs : List Polynomial). length xs) is ∙ length_push shared p in
    let A : ℕ → Type 0 = λ n. AreEntries n entries in
    subst A (sym long) (record { few = are.few; each = numbered_still (length shared) entries are.each })

-- and where there is one entry more
pub entries_more : (count : ℕ) (entries new : List Entry) (e : Entry) → new ≡ entries ++ e ∷ [] → length entries + 1 < 2 ^ 32 → IsNumbered count e.multiplier → AreEntries count entries → AreEntries count new
entries_more count entries new e is few one are =
    let P : Entry → Type 0 = λ x. IsNumbered count x.multiplier in
    let A : List Entry → Type 0 = AreEntries count in
    let long : length (entries ++ e ∷ []) ≡ length entries + 1 = length_push entries e in
    subst A (sym is) (record { few = omega (arith, few, long); each = all_more P entries e are.each one })

-- ---- lines

first_feed : (bs : List ℕ) → ((k : ℕ) → k < length bs → get_or bs k 0 ≡ 10 → ⊥) ⊎ ((e : ℕ) × (e < length bs) × (get_or bs e 0 ≡ 10) × ((k : ℕ) → k < e → get_or bs k 0 ≡ 10 → ⊥))
first_feed [] = inl (λ k less is. omega arith)
first_feed (b ∷ bs) =
    elim (cases_eq b 10) [
      | inl feed ↦ inr (0, omega arith, feed, λ k less is. omega arith)
      | inr other ↦ elim (first_feed bs) [
        | inl none ↦ inl (all other none)
        | inr found ↦ inr (suc found.0, omega (arith, found.1), found.2, all_before other found.0 found.3)
      ]
    ]
  where
    all : (b ≡ 10 → ⊥) → ((k : ℕ) → k < length bs → get_or bs k 0 ≡ 10 → ⊥) → (k : ℕ) → k < length (b ∷ bs) → get_or (b ∷ bs) k 0 ≡ 10 → ⊥
    all other none zero less is = other is
    all other none (suc k) less is = none k (omega arith) is

    all_before : (b ≡ 10 → ⊥) → (e : ℕ) → ((k : ℕ) → k < e → get_or bs k 0 ≡ 10 → ⊥) → (k : ℕ) → k < suc e → get_or (b ∷ bs) k 0 ≡ 10 → ⊥
    all_before other e none zero less is = other is
    all_before other e none (suc k) less is = none k (omega arith) is

-- a text that is not empty has a line
pub some_line : (bs : List ℕ) → 0 < length bs → (line : List ℕ) × (more : List (List ℕ)) × (lines bs ≡ line ∷ more)
some_line bs some =
    elim (first_feed bs) [
      | inl none ↦ (bs, [], lines_last bs some none)
      | inr found ↦ (strip_carriage_return (take found.0 bs), lines (drop (found.0 + 1) bs), lines_at bs found.0 found.3 found.1 found.2)
    ]

-- ---- the claim's text

never : (l : Labelling) (k : ℕ) (text : List ℕ) (claim : Terms) (fault : TextFault) → TextOutcome l k text (Err fault) → TextOutcome l k text (Ok claim) → ⊥
never l k text claim fault bad good = let same : ◌≡◌ {A = Result Terms TextFault} (Ok claim) (Err fault) = one_outcome l k text (Ok claim) (Err fault) good bad in absurd (cc)

pub claim_refused : (l : Labelling) (k : ℕ) (text : List ℕ) (fault : PolyFault) (r : LineFault) → r ≡ fault_of_claim fault → Fits text_fault (λ (p : Polynomial). p.terms) (Err fault) (TextOutcome l k text) → MayRefuse (InWords k l text) (line_refusal r)
claim_refused l k text fault r is fits =
    let P : LineFault → Type 0 = λ x. MayRefuse (InWords k l text) (line_refusal x) in
    subst P (sym is) (by fault fits)
  where
    by : (f : PolyFault) → Fits text_fault (λ (p : Polynomial). p.terms) (Err f) (TextOutcome l k text) → MayRefuse (InWords k l text) (line_refusal (fault_of_claim f))
    by poly.Syntax comes = (refl, λ claim good alone. never l k text claim no_polynomial comes good)
    by poly.NoSuchNet comes = (refl, λ claim good alone. never l k text claim no_such_net comes good)
    by poly.NoSuchBit comes = (refl, λ claim good alone. never l k text claim no_such_bit comes good)
    by poly.OutOfMemory comes = tt

pub not_empty : (n : ℕ) → false ≡ (n == 0) → 0 < n
not_empty zero e = absurd (cc)
not_empty (suc n) e = omega arith
