-- The products of a term's first bits of a word.
use Rattle.std.proofs.Common.{◌≡◌, ◌∙◌, ap, sym, refl, subst, inl, inr, ℕ, zero, suc, ◌<◌, ◌≤◌, ◌+◌, ◌-◌, ◌*◌, ◌==◌, ◌&&◌, Bool, true, false, cond, List, [], ◌∷◌, ◌++◌, length, take, get_or, Some, arith, length-take}
use Rattle.std.specs.Prelude.{slice_get}
use Rattle.std.specs.Int.{bit_at}
use Rattle.std.specs.Int.Bits.{xor_zero_r}
use Rattle.std.specs.List.{AllByRecursion, list_all}
use Rattle.std.proofs.lemmas.List.{take_more}
use Rattle.std.proofs.lemmas.List.Folds.{list_all-append}
use Rattle.std.proofs.lemmas.Nat.Bits.{bit_at-lt}
use Rattle.std.proofs.lemmas.Option.{slice_get_within}
use Rattle.std.proofs.Math.Seq.{take-length}
use Rattle.lists.specs.laws.ListLaws.{length-push}
use Rattle.lists.specs.laws.NumberLaws.{bit_is_choice}
use Rattle.lists.specs.laws.ReadLaws.{got_push, got_read}
use Rattle.gf_field.specs.Power.{power}
use Rattle.poly_mixed.specs.Polynomial.{IsElement}
use Rattle.poly_mixed.specs.declared.stage.ReduceFault.{ReduceFault}
use Rattle.poly_mixed.specs.declared.stage.ReduceFault.TheVariants.{TooManyTerms, OutOfMemory}
use Rattle.poly_mixed.specs.declared.stage.Stage.{Stage}
use Rattle.poly_mixed.specs.declared.stage.Stage.TheVariants.{WordProduct}
use Rattle.poly_mixed.proofs.FieldLaws.{IsField}
use Rattle.poly_mixed.proofs.ValueLemmas.{power_element, product_by_zero, one_element, zero_element}
use Rattle.word_subst.specs.Univariate.{Powers, IsProductOfTwo}
use Rattle.stage_model.specs.WordStage.{is_of_word}
use Rattle.stage_model.proofs.WordPolyLemmas.{own_range}
use Rattle.word_subst.specs.Forms.{IsForm, AreForms}
use Rattle.word_subst.specs.Prefix.{Products, IsBitProduct, AreProducts, IsProductWithin, IsNextRefusal, IsProductRefusal}
use Rattle.word_subst.proofs.UnivariateLemmas.{one_power}

-- ---- lists

pub take_take : {X : Type 0} (j n : ℕ) (xs : List X) → j ≤ n → take j (take n xs) ≡ take j xs
take_take zero n xs less = refl
take_take (suc j) zero xs less = absurd (omega arith)
take_take (suc j) (suc n) [] less = refl
take_take (suc j) (suc n) (x ∷ xs) less = ap (λ ys. x ∷ ys) (take_take j n xs (omega arith))

pub take_append : {X : Type 0} (j : ℕ) (xs ys : List X) → j ≤ length xs → take j (xs ++ ys) ≡ take j xs
take_append zero xs ys less = refl
take_append (suc j) [] ys less = absurd (omega arith)
take_append (suc j) (x ∷ xs) ys less = ap (λ zs. x ∷ zs) (take_append j xs ys (omega arith))

pub got_taken : {X : Type 0} (n j : ℕ) (xs : List X) (x : X) → slice_get (take n xs) j ≡ Some x → (slice_get xs j ≡ Some x) × (j < n)
got_taken zero j xs x got = absurd (cc)
got_taken (suc n) j [] x got = absurd (cc)
got_taken (suc n) zero (y ∷ xs) x got = (got, omega arith)
got_taken (suc n) (suc j) (y ∷ xs) x got = let rest = got_taken n j xs x got in (rest.0, omega (arith, rest.1))

-- ---- one bit more

module _ {k : ℕ} {mul : ℕ → ℕ → ℕ} (f : IsField k mul) (elements : List ℕ) (word : ℕ) where
  both : (x : ℕ) → IsElement k x → (a b : Bool) → mul (cond a x 0) (cond b 1 0) ≡ cond (a && (b && true)) x 0
  both x at true true = f.comm x 1 at (one_element f) ∙ f.neutral x at
  both x at true false = product_by_zero f x at
  both x at false true = f.comm 0 1 (zero_element f) (one_element f) ∙ f.neutral 0 (zero_element f)
  both x at false false = product_by_zero f 0 (zero_element f)

  pub one_bit_more : (start rank : ℕ) (ranks : List ℕ) (us form new : Powers) → IsBitProduct k mul elements word start ranks us → IsForm k mul elements (rank - k * word) form → IsProductOfTwo k mul us form new → IsBitProduct k mul elements word start (ranks ++ rank ∷ []) new
  one_bit_more start rank ranks us form new is bit product = record {
    univariate = product.univariate;
    values = λ x d at bits.
        let q : ℕ → Bool = λ r. bit_at d (r - k * word) == 1 in
        product.values x at
        ∙ ((λ i. mul (is.values x d at bits i) ((bit.values x d at bits ∙ bit_is_choice (bit_at d (rank - k * word)) (bit_at-lt d (rank - k * word))) i))
        ∙ (both (power mul x start) (power_element f x start at) (list_all q ranks) (q rank)
        ∙ ap (λ b. cond b (power mul x start) 0) (sym (list_all-append q ranks (rank ∷ [])))));
  }

  pub no_bits : (start : ℕ) → IsElement k start → IsBitProduct k mul elements word start [] ((start, 1) ∷ [])
  no_bits start at = record {
    univariate = one_power k (start, 1) (record { exponent = at; element = one_element f; some = λ none. absurd (omega arith) });
    values = λ x d in_field bits. xor_zero_r (mul 1 (power mul x start)) ∙ f.neutral (power mul x start) (power_element f x start in_field);
  }

  module _ (bound : ℕ) where
    pub first_products : (start : ℕ) (one : Powers) (products : List Powers) → IsElement k start → one ≡ (start, 1) ∷ [] → products ≡ one ∷ [] → AreProducts k mul elements word bound (record { start = start; ranks = []; products = products })
    first_products start one products at one_is made =
        let P : List Powers → Type 0 = λ ps. AreProducts k mul elements word bound (record { start = start; ranks = []; products = ps }) in
        let Q : Powers → Type 0 = λ us. AreProducts k mul elements word bound (record { start = start; ranks = []; products = us ∷ [] }) in
        subst P (sym made) (subst Q (sym one_is) (record { start = at; long = refl; each = each; within = within }))
      where
        each : (j : ℕ) (us : Powers) → slice_get (((start, 1) ∷ []) ∷ []) j ≡ Some us → IsBitProduct k mul elements word start (take j []) us
        each zero us got = let same : (start, 1) ∷ [] ≡ us = cc in let R : Powers → Type 0 = IsBitProduct k mul elements word start [] in subst R same (no_bits start at)
        each (suc j) us got = absurd (cc)

        within : (j : ℕ) (us : Powers) → 1 ≤ j → slice_get (((start, 1) ∷ []) ∷ []) j ≡ Some us → length us ≤ bound
        within zero us some got = absurd (omega arith)
        within (suc j) us some got = absurd (cc)

    -- the product with all the bits
    pub last_product : (ps : Products) (last : Powers) → AreProducts k mul elements word bound ps → slice_get ps.products (length ps.ranks) ≡ Some last → IsBitProduct k mul elements word ps.start ps.ranks last
    last_product ps last are got =
        let P : List ℕ → Type 0 = λ rs. IsBitProduct k mul elements word ps.start rs last in
        subst P (take-length ps.ranks) (are.each (length ps.ranks) last got)

    pub extended : (old new : Products) (rank : ℕ) (next : Powers) → AreProducts k mul elements word bound old → IsBitProduct k mul elements word old.start (old.ranks ++ rank ∷ []) next → length next ≤ bound
        → new.start ≡ old.start → new.ranks ≡ old.ranks ++ rank ∷ [] → new.products ≡ old.products ++ next ∷ [] → AreProducts k mul elements word bound new
    extended old new rank next are is small start_is ranks_is products_is =
        let P : ℕ → Type 0 = λ s. AreProducts k mul elements word bound (record { start = s; ranks = new.ranks; products = new.products }) in
        let Q : List ℕ → Type 0 = λ rs. AreProducts k mul elements word bound (record { start = old.start; ranks = rs; products = new.products }) in
        let R : List Powers → Type 0 = λ us. AreProducts k mul elements word bound (record { start = old.start; ranks = old.ranks ++ rank ∷ []; products = us }) in
        subst P (sym start_is) (subst Q (sym ranks_is) (subst R (sym products_is) (record {
          start = are.start;
          long = length-push old.products next ∙ (omega (arith, are.long, length-push old.ranks rank));
          each = λ j us got. elim (got_push old.products next j us got) [
            | inl front ↦
                let low : j ≤ length old.ranks = omega (arith, slice_get_within old.products j us front.0, are.long) in
                let S : List ℕ → Type 0 = λ rs. IsBitProduct k mul elements word old.start rs us in
                subst S (sym (take_append j old.ranks (rank ∷ []) low)) (are.each j us front.0)
            | inr end ↦
                let S : List ℕ → Type 0 = λ rs. IsBitProduct k mul elements word old.start rs us in
                let T : Powers → Type 0 = λ vs. IsBitProduct k mul elements word old.start (old.ranks ++ rank ∷ []) vs in
                let whole : length (old.ranks ++ rank ∷ []) ≡ j = omega (arith, length-push old.ranks rank, end.0, are.long) in
                subst S (sym (ap (λ n. take n (old.ranks ++ rank ∷ [])) (sym whole) ∙ take-length (old.ranks ++ rank ∷ []))) (subst T (sym end.1) is)
          ];
          within = λ j us some got. elim (got_push old.products next j us got) [
            | inl front ↦ are.within j us some front.0
            | inr end ↦ let T : Powers → Type 0 = λ vs. length vs ≤ bound in subst T (sym end.1) small
          ];
        })))

    pub next_over : (start rank n : ℕ) (ranks : List ℕ) (next : Powers) (stage : Stage) (fault : ReduceFault) → IsBitProduct k mul elements word start (ranks ++ rank ∷ []) next → n ≡ length next → (fault ≡ TooManyTerms stage n) × (bound < n) → IsNextRefusal k mul elements word start ranks rank bound stage fault
    next_over start rank n ranks next stage fault is size over =
        let P : ReduceFault → Type 0 = IsNextRefusal k mul elements word start ranks rank bound stage in
        subst P (sym over.0) (refl, record { powers = next; is = is; size = sym size; over = over.1 })

    -- the product of a term's bits before the j-th
    pub product_before : (ps : Products) (own : List ℕ) (j i : ℕ) → AreProducts k mul elements word bound ps → ps.ranks ≡ take j own → j ≤ length own → 1 ≤ i → i ≤ j → IsProductWithin k mul elements word ps.start own bound i
    product_before ps own j i are ranks_are inside some most =
        let long : length ps.ranks ≡ j = ap length ranks_are ∙ (length-take j own ∙ omega arith) in
        let found = get_at ps.products i (omega (arith, are.long)) in
        let P : List ℕ → Type 0 = λ rs. IsBitProduct k mul elements word ps.start rs found.0 in
        record { powers = found.0; is = subst P (ap (λ rs. take i rs) ranks_are ∙ take_take i j own most) (are.each i found.0 found.1); within = are.within i found.0 some found.1 }
      where
        get_at : (xs : List Powers) (i : ℕ) → i < length xs → (x : Powers) × (slice_get xs i ≡ Some x)
        get_at [] i less = absurd (omega arith)
        get_at (x ∷ xs) zero less = (x, refl)
        get_at (x ∷ xs) (suc i) less = get_at xs i (omega arith)

    pub one_rank_more : (own : List ℕ) (j r : ℕ) → j < length own → r ≡ get_or own j 0 → take j own ++ r ∷ [] ≡ take (j + 1) own
    one_rank_more own j r less read = ap (λ x. take j own ++ x ∷ []) read ∙ sym (take_more own j 0 less)

    pub first_over : (ps : Products) (own : List ℕ) (j r s : ℕ) (fault : ReduceFault) → AreProducts k mul elements word bound ps → ps.ranks ≡ take j own → j < length own → r ≡ get_or own j 0
        → IsNextRefusal k mul elements word ps.start ps.ranks r bound (WordProduct word s (j + 1)) fault → IsProductRefusal k mul elements word ps.start own s bound fault
    first_over ps own j r s OutOfMemory are ranks_are less read is = tt
    first_over ps own j r s (TooManyTerms stage n) are ranks_are less read is =
        let P : Stage → Type 0 = λ g. IsProductRefusal k mul elements word ps.start own s bound (TooManyTerms g n) in
        let Q : List ℕ → Type 0 = λ rs. IsBitProduct k mul elements word ps.start rs is.1.powers in
        subst P (sym is.0) (
          refl,
          refl,
          record {
            some = omega arith;
            bits = omega arith;
            powers = is.1.powers;
            is = subst Q (ap (λ rs. rs ++ r ∷ []) ranks_are ∙ one_rank_more own j r less read) is.1.is;
            size = is.1.size;
            over = is.1.over;
            before = λ i some low. product_before ps own j i are ranks_are (omega arith) some (omega arith);
          },
        )

-- what is kept of a list of products
pub kept : (k : ℕ) (mul : ℕ → ℕ → ℕ) (elements : List ℕ) (word bound n : ℕ) (old new : Products) → n ≤ length old.ranks → new.start ≡ old.start → new.ranks ≡ take n old.ranks → new.products ≡ take (n + 1) old.products → AreProducts k mul elements word bound old → AreProducts k mul elements word bound new
kept k mul elements word bound n old new inside start_is ranks_is products_is are =
    let P : ℕ → Type 0 = λ s. AreProducts k mul elements word bound (record { start = s; ranks = new.ranks; products = new.products }) in
    let Q : List ℕ → Type 0 = λ rs. AreProducts k mul elements word bound (record { start = old.start; ranks = rs; products = new.products }) in
    let R : List Powers → Type 0 = λ us. AreProducts k mul elements word bound (record { start = old.start; ranks = take n old.ranks; products = us }) in
    subst P (sym start_is) (subst Q (sym ranks_is) (subst R (sym products_is) (record {
      start = are.start;
      long = length-take (n + 1) old.products ∙ (omega (arith, are.long, inside, length-take n old.ranks));
      each = λ j us got.
          let at = got_taken (n + 1) j old.products us got in
          let S : List ℕ → Type 0 = λ rs. IsBitProduct k mul elements word old.start rs us in
          subst S (sym (take_take j n old.ranks (omega (arith, at.1)))) (are.each j us at.0);
      within = λ j us some got. are.within j us some (got_taken (n + 1) j old.products us got).0;
    })))

-- the product that the code reads
pub last_at : (ps : Products) (items : List Powers) (ranks : List ℕ) (n : ℕ) (last : Powers) → items ≡ ps.products → ranks ≡ ps.ranks → n ≡ length ranks → length ps.products ≡ suc (length ps.ranks) → last ≡ get_or items n last
    → slice_get ps.products (length ps.ranks) ≡ Some last
last_at ps items ranks n last items_are ranks_are n_is long read =
    let less : n < length items = omega (arith, n_is, ap length ranks_are, ap length items_are, long) in
    let P : List Powers → Type 0 = λ us. slice_get us n ≡ Some last in
    let Q : ℕ → Type 0 = λ m. slice_get ps.products m ≡ Some last in
    subst Q (n_is ∙ ap length ranks_are) (subst P items_are (got_read items n last less read))

pub at_index : (P : ℕ → Type 0) (xs : List ℕ) (j : ℕ) → AllByRecursion P xs → j < length xs → P (get_or xs j 0)
at_index P [] j all less = absurd (omega arith)
at_index P (x ∷ xs) zero all less = all.0
at_index P (x ∷ xs) (suc j) all less = at_index P xs j all.1 (omega arith)

-- the form that the code reads
pub form_at : (k : ℕ) (mul : ℕ → ℕ → ℕ) (elements : List ℕ) (word m j : ℕ) (own : List ℕ) (forms : List Powers) (form : Powers) → AllByRecursion (λ r. is_of_word k word r ≡ true) own → j < length own → m ≡ k → AreForms k mul elements forms
    → form ≡ get_or forms (get_or own j 0 - m * word) form → IsForm k mul elements (get_or own j 0 - k * word) form
form_at k mul elements word m j own forms form all less same are read =
    let range = own_range k word (get_or own j 0) (at_index (λ r. is_of_word k word r ≡ true) own j all less) in
    let P : ℕ → Type 0 = λ n. form ≡ get_or forms (get_or own j 0 - n * word) form in
    are.each (get_or own j 0 - k * word) form (got_read forms (get_or own j 0 - k * word) form (small (k * word) (get_or own j 0) range are.long) (subst P same read))
  where
    small : (b r : ℕ) → (b ≤ r) × (r < b + k) → length forms ≡ k → r - b < length forms
    small b r range long = omega (arith, range.0, range.1, long)

-- the place of the bit that the code reads
pub place_at : (k : ℕ) (mul : ℕ → ℕ → ℕ) (elements : List ℕ) (word m j : ℕ) (own : List ℕ) (forms : List Powers) → AllByRecursion (λ r. is_of_word k word r ≡ true) own → j < length own → m ≡ k → AreForms k mul elements forms
    → (m * word ≤ get_or own j 0) × (get_or own j 0 - m * word < length forms)
place_at k mul elements word m j own forms all less same are =
    let range = own_range k word (get_or own j 0) (at_index (λ r. is_of_word k word r ≡ true) own j all less) in
    let P : ℕ → Type 0 = λ n. (n * word ≤ get_or own j 0) × (get_or own j 0 - n * word < length forms) in
    subst P (sym same) (small (k * word) (get_or own j 0) range are.long)
  where
    small : (b r : ℕ) → (b ≤ r) × (r < b + k) → length forms ≡ k → (b ≤ r) × (r - b < length forms)
    small b r range long = (range.0, omega (arith, range.0, range.1, long))

pub next_inside : (j n : ℕ) → j < n → j + 1 ≤ n
next_inside j n less = omega arith
