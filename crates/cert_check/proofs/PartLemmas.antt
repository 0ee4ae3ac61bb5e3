-- Small steps of single functions.
use Rattle.std.proofs.Common.{◌≡◌, ◌≢◌, ◌∙◌, ap, sym, refl, subst, ℕ, zero, suc, ◌<◌, ◌≤◌, ◌*◌, ◌%◌, ◌^◌, Bool, true, false, ◌&&◌, cond, nat_lt, List, [], ◌∷◌, length, get_or, Option, Some, None, Result, Ok, Err, IfOk, bit_xor, replicate, slice_get, slice_index, slice_set, ne_eqb, ltb-true, ltb-false, arith}
use lib.Bits.{xor_zero_r}
use Rattle.std.specs.List.{AllByRecursion}
use Rattle.std.proofs.lemmas.List.{length-replicate}
use Rattle.std.proofs.lemmas.Nat.{mul-le, one_shl, pow_pos}
use Rattle.std.proofs.lemmas.Option.{slice_get-get_or, slice_get_past}
use Rattle.outcome.specs.Outcome.{Fits, Returns}
use Rattle.text_core.specs.Numbers.{value_of}
use Rattle.gf_basis.specs.declared.bases.Basis.{Basis}
use Rattle.net_words.specs.Binding.{BoundNet}
use Rattle.poly_mixed.specs.Monomial.{Monomial, text_cmp}
use Rattle.poly_mixed.specs.Polynomial.{Terms, IsElement, IsMonomial, IsTerm}
use Rattle.poly_mixed.specs.Product.{times}
use Rattle.poly_mixed.specs.Sum.{plus_term}
use Rattle.cert_check.specs.Certificate.{shared_or, shared_by}
use Rattle.cert_check.specs.Fault.{line_refusal}
use Rattle.cert_check.specs.Running.{dual_words}
use Rattle.cert_check.specs.Scan.{is_blank}
use Rattle.cert_check.specs.declared.fault.LineFault.{LineFault}
use Rattle.cert_check.specs.declared.fault.LineFault.TheVariants.{Syntax, NoSuchLet}
use Rattle.cert_check.specs.declared.line.Multiplier.{Multiplier}
use Rattle.cert_check.specs.declared.line.Multiplier.TheVariants.{Shared}
use Rattle.cert_check.specs.declared.form.Form.{Form}
use Rattle.cert_check.specs.declared.row.Row.{Row}
use Rattle.cert_check.specs.private.Held.{power_of, with_term, square_term, IsForm, IsRow}
use Rattle.cert_check.specs.private.Reading.{multiplier_in, multiplier_named, IsMultiplier}

-- a step is not more than the end of a table that it goes to
pub small_step : (n step : ℕ) → step * 2 ^ n ≤ 64 → step ≤ 64
small_step n step within = omega (arith, within, mul-le step 1 step (2 ^ n) (omega arith) (omega (arith, pow_pos n)))

-- a set that the form of a table has not
pub no_set : (all has : Bool) (v : ℕ) → has ≡ false → v ≡ bit_xor v (cond (all && has) 1 0)
no_set true has v e = sym (ap (λ b. bit_xor v (cond b 1 0)) e ∙ xor_zero_r v)
no_set false has v e = sym (xor_zero_r v)

-- the term of a word squared j times, which is added
pub square_put : (k k' j c : ℕ) (row : Row) (power mono : Monomial) (old new : Terms) → j < k → k ≤ 64 → k' ≡ k → power ≡ power_of row.word ((1 * 2 ^ j) % 2 ^ 64) → mono ≡ times k' row.mono power → c ≢ 0 → new ≡ plus_term text_cmp old (mono, c) → new ≡ with_term old (square_term k row j c)
square_put k k' j c row power mono old new less small same is made some put =
    let e : (1 * 2 ^ j) % 2 ^ 64 ≡ 2 ^ j = one_shl j 64 (omega arith) in
    let p : power ≡ power_of row.word (2 ^ j) = is ∙ ap (λ (n : ℕ). power_of row.word n) e in
    let m : mono ≡ times k row.mono (power_of row.word (2 ^ j)) = made ∙ (λ i. times (same i) row.mono (p i)) in
    put
    ∙ (ap (λ (q : Monomial). plus_term text_cmp old (q, c)) m
    ∙ sym (ap (λ b. cond b old (plus_term text_cmp old (square_term k row j c))) (ne_eqb c 0 some)))

-- and one with the coefficient 0, which is not
pub no_square : (k j c : ℕ) (row : Row) (old : Terms) → c ≡ 0 → old ≡ with_term old (square_term k row j c)
no_square k j c row old none = let P : ℕ → Type 0 = λ n. old ≡ with_term old (square_term k row j n) in subst P (sym none) refl

-- an element of a list that is read or changed is one of those of which something holds
pub all_got : {A : Type 0} (P : A → Type 0) (rows : List A) (i : ℕ) (x : A) → AllByRecursion P rows → slice_get rows i ≡ Some x → P x
all_got P [] i x all got = absurd (cc)
all_got P (r ∷ rows) zero x all got = let same : r ≡ x = cc in subst P same all.0
all_got P (r ∷ rows) (suc i) x all got = all_got P rows i x all.1 got

pub all_at : {A : Type 0} (P : A → Type 0) (rows : List A) (i : ℕ) (x d : A) → AllByRecursion P rows → slice_get rows i ≡ Some x → P (get_or rows i d)
all_at P [] i x d all got = absurd (cc)
all_at P (r ∷ rows) zero x d all got = all.0
all_at P (r ∷ rows) (suc i) x d all got = all_at P rows i x d all.1 got

pub all_put : {A : Type 0} (P : A → Type 0) (rows : List A) (i : ℕ) (x : A) → AllByRecursion P rows → P x → AllByRecursion P (slice_set rows i x)
all_put P [] i x all is = tt
all_put P (r ∷ rows) zero x all is = (is, all.1)
all_put P (r ∷ rows) (suc i) x all is = (all.0, all_put P rows i x all.1 is)

-- a row without forms
pub none_at : (n i : ℕ) → slice_index (replicate n 0) i ≡ 0
none_at zero i = refl
none_at (suc n) zero = refl
none_at (suc n) (suc i) = none_at n i

pub row_begins : (netlist : BoundNet) (bases : List Basis) (k n : ℕ) (row : Row) (t : Monomial × ℕ) (form : Form) → n ≡ k → row.mono ≡ t.0 → row.word ≡ form.word → row.coefficients.items ≡ replicate n 0 → IsTerm k t → IsForm netlist bases k form → IsRow netlist bases k row
row_begins netlist bases k n row t form same mono word none term is =
    let M : Monomial → Type 0 = IsMonomial k in
    let W : ℕ → Type 0 = λ w. w < 8 in
    let K : ℕ → Type 0 = λ w. w < length (dual_words netlist bases) in
    record {
      monomial = subst M (sym mono) term.monomial;
      word = subst W (sym word) is.word;
      known = subst K (sym word) is.known;
      long = ap (λ (cs : List ℕ). length cs) none ∙ (length-replicate n 0 ∙ same);
      elements = λ i less.
          let E : ℕ → Type 0 = IsElement k in
          subst E (sym (ap (λ (cs : List ℕ). slice_index cs i) none ∙ none_at n i)) (pow_pos k);
    }

-- the number of a shared multiplier, where these are shared
named : (shared : List Terms) (found : Option (List ℕ × List ℕ)) → Fits line_refusal (multiplier_in shared) (multiplier_named (length shared) found) (Returns (shared_by shared found))
named shared None = refl
named shared (Some found) =
    let n : ℕ = value_of 10 found.0 in
    elim (is_blank found.1) as (λ v. Fits line_refusal (multiplier_in shared) (cond v (cond (nat_lt n (length shared)) (Ok (Shared n)) (Err NoSuchLet)) (Err Syntax)) (Returns (cond v (shared_or (slice_get shared n)) (Err Syntax)))) [
      | true ↦ elim (nat_lt n (length shared)) as (λ v. nat_lt n (length shared) ≡ v → Fits line_refusal (multiplier_in shared) (cond v (Ok (Shared n)) (Err NoSuchLet)) (Returns (shared_or (slice_get shared n)))) [
        | true ↦ λ e. sym (ap shared_or (slice_get-get_or shared n [] (ltb-true n (length shared) e)))
        | false ↦ λ e. sym (ap shared_or (slice_get_past shared n (ltb-false n (length shared) e)))
      ] refl
      | false ↦ refl
    ]

pub named_fits : (shared : List Terms) (count : ℕ) (found : Option (List ℕ × List ℕ)) (r : Result Multiplier LineFault) → length shared ≡ count → r ≡ multiplier_named count found → Fits line_refusal (multiplier_in shared) r (Returns (shared_by shared found))
named_fits shared count found r long is =
    let P : Result Multiplier LineFault → Type 0 = λ x. Fits line_refusal (multiplier_in shared) x (Returns (shared_by shared found)) in
    let N : ℕ → Type 0 = λ n. r ≡ multiplier_named n found in
    subst P (sym (subst N (sym long) is)) (named shared found)

named_one : (k count : ℕ) (found : Option (List ℕ × List ℕ)) → IfOk (multiplier_named count found) (IsMultiplier k count)
named_one k count None = tt
named_one k count (Some found) = elim (is_blank found.1) as (λ v. IfOk (cond v (cond (nat_lt (value_of 10 found.0) count) (Ok (Shared (value_of 10 found.0))) (Err NoSuchLet)) (Err Syntax)) (IsMultiplier k count)) [
  | true ↦ elim (nat_lt (value_of 10 found.0) count) as (λ v. nat_lt (value_of 10 found.0) count ≡ v → IfOk (cond v (Ok (Shared (value_of 10 found.0))) (Err NoSuchLet)) (IsMultiplier k count)) [
    | true ↦ λ e. ltb-true (value_of 10 found.0) count e
    | false ↦ λ e. tt
  ] refl
  | false ↦ tt
]

pub named_is : (k count : ℕ) (found : Option (List ℕ × List ℕ)) (r : Result Multiplier LineFault) → r ≡ multiplier_named count found → IfOk r (IsMultiplier k count)
named_is k count found r is = let P : Result Multiplier LineFault → Type 0 = λ x. IfOk x (IsMultiplier k count) in subst P (sym is) (named_one k count found)
