-- The catalog of bodies, gate by gate.
use Rattle.std.proofs.Common.{◌≡◌, ◌≢◌, ◌⊎◌, ◌∙◌, ap, sym, refl, inl, inr, subst, ℕ, zero, suc, ◌<◌, ◌≤◌, ◌+◌, ◌-◌, Bool, true, false, cond, List, [], ◌∷◌, length, bytes_eq, Option, Some, None, arith}
use Rattle.std.specs.Prelude.{slice_get}
use Rattle.std.specs.BTreeMap.{is_at}
use Rattle.std.specs.Cmp.{tied_itself}
use Rattle.std.specs.declared.cmp.Ordering.{Ordering}
use Rattle.std.specs.declared.cmp.Ordering.TheVariants.{Less, Equal, Greater}
use Rattle.std.specs.Ordering.{nat_cmp, is_eq, ordering_then}
use Rattle.std.proofs.Common.{rules}
use Rattle.std.proofs.lemmas.Slice.Eq.{bytes_eq-Decides}
use Rattle.lists.specs.laws.NumberLaws.{nat_eq_or}
use Rattle.net_core.specs.GateValue.{GateValue}
use Rattle.net_simplify.specs.Form.{Form, IsForm, complement}
use Rattle.net_simplify.specs.Choice.{Forms}
use Rattle.net_simplify.specs.Simplified.{AreTwins, IsFirst}
use Rattle.net_simplify.specs.private.Catalog.{IsCatalog, IsFound, net_of, numbers_cmp, numbers_cmp_total, twin_key}
use Rattle.net_simplify.specs.declared.catalog.Catalog.{Catalog}
use Rattle.net_simplify.proofs.TwinLemmas.{key_of_twins, twins_of_key}

both_equal : (r s : Ordering) → ordering_then r s ≡ Equal → (r ≡ Equal) × (s ≡ Equal)
both_equal Less s e = absurd (cc)
both_equal Equal s e = (refl, e)
both_equal Greater s e = absurd (cc)

number_same : (x y : ℕ) → nat_cmp x y ≡ Equal → x ≡ y
number_same x y e = search rules

pub both_ways : (s t : Bool) → (s ≡ true → t ≡ true) → (t ≡ true → s ≡ true) → s ≡ t
both_ways true t f g = sym (f refl)
both_ways false true f g = g refl
both_ways false false f g = refl

numbers_same : (xs ys : List ℕ) → numbers_cmp xs ys ≡ Equal → xs ≡ ys
numbers_same [] [] e = refl
numbers_same [] (y ∷ ys) e = absurd (cc)
numbers_same (x ∷ xs) [] e = absurd (cc)
numbers_same (x ∷ xs) (y ∷ ys) e =
    let each = both_equal (nat_cmp x y) (numbers_cmp xs ys) e in
    λ i. number_same x y each.0 i ∷ numbers_same xs ys each.1 i

-- a key is at numbers exactly where they are equal
pub key_at : (t q : List ℕ) → is_at (numbers_cmp t) q ≡ bytes_eq q t
key_at t q =
    both_ways (is_eq (numbers_cmp t q)) (bytes_eq q t)
    (λ e. (bytes_eq-Decides q t).1 (sym (numbers_same t q (equal (numbers_cmp t q) e))))
    (λ e. (let P : List ℕ → Type 0 = λ x. is_eq (numbers_cmp t x) ≡ true in subst P (sym ((bytes_eq-Decides q t).0 e)) (ap is_eq (tied_itself numbers_cmp_total t))))
  where
    equal : (r : Ordering) → is_eq r ≡ true → r ≡ Equal
    equal Less e = absurd (cc)
    equal Equal e = refl
    equal Greater e = absurd (cc)

pub updated : (t q : List ℕ) (w old new : Option ℕ) → new ≡ cond (is_at (numbers_cmp t) q) w old → new ≡ cond (bytes_eq q t) w old
updated t q w old new is = is ∙ ap (λ b. cond b w old) (key_at t q)

-- ---- gate by gate

-- the places before the next one: those before this one, and this one
last_or : (gates : List GateValue) (i j : ℕ) (g h : GateValue) → slice_get gates i ≡ Some g → j < suc i → slice_get gates j ≡ Some h → (g ≡ h) ⊎ (j < i)
last_or gates i j g h got less at =
    elim (nat_eq_or j i) [
      | inl same ↦ let at' : slice_get gates i ≡ Some h = rw (← same) at in inl (cc)
      | inr apart ↦ inr (omega (arith, less, apart))
    ]

found_later : (used : ℕ → ℕ) (gates : List GateValue) (i : ℕ) (forms : Forms) (form : Form) (m : ℕ) → IsFound used gates i forms form (Some m) → IsFound used gates (suc i) forms form (Some m)
found_later used gates i forms form m (gate, first, less, out) = (gate, first, omega (arith, less), out)

-- a gate whose body has a twin before
pub catalog_more : (used : ℕ → ℕ) (gates : List GateValue) (i : ℕ) (forms : Forms) (catalog : Catalog) (g : GateValue) → slice_get gates i ≡ Some g
    → ((form : Form) → IsForm form → 2 ≤ length form.leaves → used g.out ≢ 0 → AreTwins (forms.body g.out) form → (j : ℕ) × (h : GateValue) × (j < i) × (slice_get gates j ≡ Some h) × (used h.out ≢ 0) × AreTwins (forms.body h.out) form)
    → IsCatalog used gates i forms catalog → IsCatalog used gates (suc i) forms catalog
catalog_more used gates i forms catalog g got sooner is form is_form more = by (net_of catalog (twin_key form)) (is form is_form more)
  where
    by : (o : Option ℕ) → IsFound used gates i forms form o → IsFound used gates (suc i) forms form o
    by (Some m) found = found_later used gates i forms form m found
    by None none = λ j h less at some twins. elim (last_or gates i j g h got less at) [
      | inr before ↦ none j h before at some twins
      | inl same ↦
          let P : GateValue → Type 0 = λ x. used x.out ≢ 0 in
          let Q : GateValue → Type 0 = λ x. AreTwins (forms.body x.out) form in
          let s = sooner form is_form more (subst P (sym same) some) (subst Q (sym same) twins) in
          none s.0 s.1 s.2 s.3 s.4 s.5
    ]

-- a gate that is not used
pub catalog_idle : (used : ℕ → ℕ) (gates : List GateValue) (i : ℕ) (forms : Forms) (catalog : Catalog) (g : GateValue) → slice_get gates i ≡ Some g → used g.out ≡ 0 → IsCatalog used gates i forms catalog → IsCatalog used gates (suc i) forms catalog
catalog_idle used gates i forms catalog g got none is = catalog_more used gates i forms catalog g got (λ form is_form more some twins. absurd (some none)) is

-- a gate whose body is found
pub catalog_found : (used : ℕ → ℕ) (gates : List GateValue) (i : ℕ) (forms : Forms) (catalog : Catalog) (g : GateValue) (body : Form) (m : ℕ) → slice_get gates i ≡ Some g → IsForm body → forms.body g.out ≡ body → net_of catalog (twin_key body) ≡ Some m → IsCatalog used gates i forms catalog → IsCatalog used gates (suc i) forms catalog
catalog_found used gates i forms catalog g body m got is_body same there is =
    catalog_more used gates i forms catalog g got (λ form is_form more some twins. sooner form is_form more (let P : Form → Type 0 = λ f. AreTwins f form in subst P same twins)) is
  where
    sooner : (form : Form) → IsForm form → 2 ≤ length form.leaves → AreTwins body form → (j : ℕ) × (h : GateValue) × (j < i) × (slice_get gates j ≡ Some h) × (used h.out ≢ 0) × AreTwins (forms.body h.out) form
    sooner form is_form more twins =
        let at : net_of catalog (twin_key form) ≡ Some m = ap (net_of catalog) (sym (key_of_twins body form is_body is_form twins)) ∙ there in
        let P : Option ℕ → Type 0 = IsFound used gates i forms form in
        let found = subst P at (is form is_form more) in
        (found.1.place, found.0, found.2, found.1.at, found.1.is_used, found.1.twins)

-- a gate whose body is not found is added
pub catalog_added : (used : ℕ → ℕ) (gates : List GateValue) (i : ℕ) (forms : Forms) (old new : Catalog) (g : GateValue) (body : Form) → slice_get gates i ≡ Some g → used g.out ≢ 0 → IsForm body → 2 ≤ length body.leaves → forms.body g.out ≡ body → net_of old (twin_key body) ≡ None
    → ((q : List ℕ) → net_of new q ≡ cond (bytes_eq q (twin_key body)) (Some g.out) (net_of old q))
    → IsCatalog used gates i forms old → IsCatalog used gates (suc i) forms new
catalog_added used gates i forms old new g body got some is_body two same none added is form is_form more =
    let P : Option ℕ → Type 0 = IsFound used gates (suc i) forms form in
    subst P (sym (added (twin_key form))) (by (bytes_eq (twin_key form) (twin_key body)) refl)
  where
    by : (b : Bool) → bytes_eq (twin_key form) (twin_key body) ≡ b → IsFound used gates (suc i) forms form (cond b (Some g.out) (net_of old (twin_key form)))
    by true e =
        let keys : twin_key form ≡ twin_key body = (bytes_eq-Decides (twin_key form) (twin_key body)).0 e in
        let twins : AreTwins body form = twins_of_key body form is_body is_form (sym keys) in
        let Q : Form → Type 0 = λ f. AreTwins f form in
        let R : Option ℕ → Type 0 = IsFound used gates i forms form in
        let before : IsFound used gates i forms form None = subst R (ap (net_of old) keys ∙ none) (is form is_form more) in
        (g, record { place = i; at = got; is_used = some; twins = subst Q (sym same) twins; least = before }, omega arith, refl)
    by false e = later (net_of old (twin_key form)) (is form is_form more)
      where
        apart : AreTwins (forms.body g.out) form → ⊥
        apart twins =
            let Q : Form → Type 0 = λ f. AreTwins f form in
            let keys : twin_key form ≡ twin_key body = sym (key_of_twins body form is_body is_form (subst Q same twins)) in
            let yes' : bytes_eq (twin_key form) (twin_key body) ≡ true = (bytes_eq-Decides (twin_key form) (twin_key body)).1 keys in
            absurd (cc)

        later : (o : Option ℕ) → IsFound used gates i forms form o → IsFound used gates (suc i) forms form o
        later (Some m) found = found_later used gates i forms form m found
        later None before = λ j h less at is_used twins. elim (last_or gates i j g h got less at) [
          | inr sooner ↦ before j h sooner at is_used twins
          | inl equal ↦ let Q : GateValue → Type 0 = λ x. AreTwins (forms.body x.out) form in apart (subst Q (sym equal) twins)
        ]
