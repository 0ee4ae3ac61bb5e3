-- Units and bodies in lists, and what a step makes of them.
use Rattle.std.proofs.Common.{◌≡◌, ◌≢◌, ◌∙◌, ap, sym, refl, inl, inr, subst, ℕ, zero, suc, ◌<◌, ◌≤◌, ◌+◌, ◌-◌, ◌^◌, cond, List, [], ◌∷◌, ◌++◌, length, map, bytes_eq, Option, Some, None, arith}
use Rattle.std.specs.Prelude.{slice_get, slice_set}
use Rattle.lists.specs.Lists.{Has}
use Rattle.lists.specs.laws.HasLaws.{All_has}
use Rattle.lists.specs.laws.NumberLaws.{nat_eq_or}
use Rattle.lists.specs.laws.OptionLaws.{same_some}
use Rattle.net_core.specs.GateValue.{GateValue}
use Rattle.net_core.specs.NetList.{NetList, nets}
use Rattle.net_core.specs.Sound.{IsSound, sources}
use Rattle.net_core.proofs.LevelLemmas.{sources_inside}
use Rattle.net_simplify.specs.Form.{Form, IsComposed, IsForm, complement, itself}
use Rattle.net_simplify.specs.Uses.{is_single, uses}
use Rattle.net_simplify.specs.Choice.{Forms, IsChosen}
use Rattle.net_simplify.specs.Simplified.{AreTwins, IsUnitBy}
use Rattle.net_simplify.specs.private.Catalog.{IsFound, IsKept, IsUnitFor, net_of, twin_key}
use Rattle.net_simplify.specs.private.Lists.{AreThemselves, FormLists, form_at, forms_of, no_form}
use Rattle.net_simplify.specs.private.Underway.{AreFormsTo, Extends, IsEarlier, IsStep, IsUnderway, Keeps}
use Rattle.net_simplify.specs.declared.catalog.Catalog.{Catalog}
use Rattle.net_simplify.proofs.FormLemmas.{itself_form}
use Rattle.net_simplify.proofs.MeaningLemmas.{settled_to}
use Rattle.net_simplify.proofs.StepLemmas.{first}
use Rattle.net_simplify.proofs.TwinLemmas.{full_even}
use Rattle.net_simplify.proofs.UnderwayLemmas.{chosen_stands, complement_composed, constant_composed, itself_composed, one_leaf, step_added, step_found, step_idle, step_reduced}

-- ---- lists of forms

form_same : (xs : List Form) (i : ℕ) (f : Form) → i < length xs → form_at (slice_set xs i f) i ≡ f
form_same [] i f less = absurd (omega arith)
form_same (x ∷ xs) zero f less = refl
form_same (x ∷ xs) (suc i) f less = form_same xs i f (omega arith)

form_other : (xs : List Form) (i : ℕ) (f : Form) (n : ℕ) → n ≢ i → form_at (slice_set xs i f) n ≡ form_at xs n
form_other [] zero f n apart = refl
form_other [] (suc i) f n apart = refl
form_other (x ∷ xs) zero f zero apart = absurd (apart refl)
form_other (x ∷ xs) zero f (suc n) apart = refl
form_other (x ∷ xs) (suc i) f zero apart = refl
form_other (x ∷ xs) (suc i) f (suc n) apart = form_other xs i f n (λ e. apart (ap suc e))

pub form_long : (xs : List Form) (i : ℕ) (f : Form) → length (slice_set xs i f) ≡ length xs
form_long [] zero f = refl
form_long [] (suc i) f = refl
form_long (x ∷ xs) zero f = refl
form_long (x ∷ xs) (suc i) f = ap suc (form_long xs i f)

-- what a net's new unit and body make of the lists
pub record IsSet (lists new : FormLists) (out : ℕ) (unit body : Form) : Type 0 where
  pub within : out < length lists.units
  pub long : length lists.bodies ≡ length lists.units
  pub units : new.units ≡ slice_set lists.units out unit
  pub bodies : new.bodies ≡ slice_set lists.bodies out body

pub set_long : (lists new : FormLists) (out : ℕ) (unit body : Form) → IsSet lists new out unit body → length new.units ≡ length lists.units
set_long lists new out unit body is = ap (λ (fs : List Form). length fs) is.units ∙ form_long lists.units out unit

pub set_keeps : (lists new : FormLists) (out : ℕ) (unit body : Form) → IsSet lists new out unit body → Keeps lists new out
set_keeps lists new out unit body is = record {
  long = set_long lists new out unit body is;
  unit = λ n apart. ap (λ (fs : List Form). form_at fs n) is.units ∙ form_other lists.units out unit n apart;
  body = λ n apart. ap (λ (fs : List Form). form_at fs n) is.bodies ∙ form_other lists.bodies out body n apart;
}

pub set_unit : (lists new : FormLists) (out : ℕ) (unit body : Form) → IsSet lists new out unit body → form_at new.units out ≡ unit
set_unit lists new out unit body is = ap (λ (fs : List Form). form_at fs out) is.units ∙ form_same lists.units out unit is.within

set_body : (lists new : FormLists) (out : ℕ) (unit body : Form) → IsSet lists new out unit body → form_at new.bodies out ≡ body
set_body lists new out unit body is = ap (λ (fs : List Form). form_at fs out) is.bodies ∙ form_same lists.bodies out body (omega (arith, is.within, is.long))

-- one more form at the end, of the net itself
itself_last : (xs : List Form) (k n : ℕ) → length xs ≡ k → n ≡ k → form_at (xs ++ itself k ∷ []) n ≡ itself k
itself_last [] zero zero long here = refl
itself_last [] zero (suc n) long here = absurd (omega arith)
itself_last [] (suc k) n long here = absurd (omega arith)
itself_last (x ∷ xs) zero n long here = absurd (omega arith)
itself_last (x ∷ xs) (suc k) zero long here = absurd (omega arith)
itself_last (x ∷ xs) (suc k) (suc n) long here = last xs k n (itself (suc k)) (omega arith) (omega arith)
  where
    last : (ys : List Form) (j m : ℕ) (f : Form) → length ys ≡ j → m ≡ j → form_at (ys ++ f ∷ []) m ≡ f
    last [] zero zero f e e' = refl
    last [] zero (suc m) f e e' = absurd (omega arith)
    last [] (suc j) m f e e' = absurd (omega arith)
    last (y ∷ ys) zero m f e e' = absurd (omega arith)
    last (y ∷ ys) (suc j) zero f e e' = absurd (omega arith)
    last (y ∷ ys) (suc j) (suc m) f e e' = last ys j m f (omega arith) (omega arith)

form_before : (xs : List Form) (f : Form) (n : ℕ) → n < length xs → form_at (xs ++ f ∷ []) n ≡ form_at xs n
form_before [] f n less = absurd (omega arith)
form_before (x ∷ xs) f zero less = refl
form_before (x ∷ xs) f (suc n) less = form_before xs f n (omega arith)

long_more : (xs : List Form) (f : Form) → length (xs ++ f ∷ []) ≡ length xs + 1
long_more [] f = refl
long_more (x ∷ xs) f = omega (arith, long_more xs f)

pub themselves_more : (xs new : List Form) (k : ℕ) (f : Form) → AreThemselves xs k → f ≡ itself k → new ≡ xs ++ f ∷ [] → AreThemselves new (k + 1)
themselves_more xs new k f are is made =
    let P : List Form → Type 0 = λ fs. AreThemselves fs (k + 1) in
    subst P (sym (made ∙ ap (λ (g : Form). xs ++ g ∷ []) is)) (
      omega (arith, long_more xs (itself k), are.0),
      λ n less. elim (nat_eq_or n k) [
        | inl here ↦ itself_last xs k n are.0 here ∙ ap itself (sym here)
        | inr apart ↦ form_before xs (itself k) n (omega (arith, less, apart, are.0)) ∙ are.1 n (omega (arith, less, apart))
      ],
    )

pub themselves_none : (forms : List Form) → forms ≡ [] → AreThemselves forms 0
themselves_none forms none = (ap (λ (fs : List Form). length fs) none, λ n less. absurd (omega (arith, less)))

pub themselves_all : (forms : List Form) (n count : ℕ) → count ≤ n → n ≤ count → AreThemselves forms n → AreThemselves forms count
themselves_all forms n count least most are =
    let same : n ≡ count = omega (arith, least, most) in
    let P : ℕ → Type 0 = AreThemselves forms in
    subst P same are

-- a form that the list does not have
form_past : (xs : List Form) (n : ℕ) → length xs ≤ n → form_at xs n ≡ no_form
form_past [] n past = refl
form_past (x ∷ xs) zero past = absurd (omega arith)
form_past (x ∷ xs) (suc n) past = form_past xs n (omega arith)

pub themselves_few : (forms : List Form) (count : ℕ) → AreThemselves forms count → (n : ℕ) → length (form_at forms n).leaves ≤ 1
themselves_few forms count are n =
    let P : Form → Type 0 = λ f. length f.leaves ≤ 1 in
    elim (nat_eq_or (suc n - count) 0) [
      | inl under ↦ subst P (sym (are.1 n (omega (arith, under)))) (omega arith)
      | inr over ↦ subst P (sym (form_past forms n (omega (arith, over, are.0)))) (omega arith)
    ]

-- no form of a list has more leaves than one, nor has what is put in
pub few_set : (xs : List Form) (i : ℕ) (f : Form) → length f.leaves ≤ 1 → ((n : ℕ) → length (form_at xs n).leaves ≤ 1) → (n : ℕ) → length (form_at (slice_set xs i f) n).leaves ≤ 1
few_set [] zero f few each n = each n
few_set [] (suc i) f few each n = each n
few_set (x ∷ xs) zero f few each zero = few
few_set (x ∷ xs) zero f few each (suc n) = each (suc n)
few_set (x ∷ xs) (suc i) f few each zero = each 0
few_set (x ∷ xs) (suc i) f few each (suc n) = few_set xs i f few (λ m. each (suc m)) n

-- ---- bodies of functions of one net at most

pub body_same : (form : Form) (bodies : ℕ → Form) (leaf table : ℕ) (body : Form) → length form.leaves ≡ 1 → leaf ≡ first form.leaves → table ≡ form.table → table ≡ 2 → body ≡ bodies leaf → ((n : ℕ) → Has form.leaves n → IsForm (bodies n)) → IsComposed form.table (map bodies form.leaves) body
body_same form bodies leaf table body one is same two made each =
    let leaves : form.leaves ≡ leaf ∷ [] = only form.leaves leaf one is in
    let is_body : IsForm (bodies leaf) = each leaf (let P : List ℕ → Type 0 = λ ls. Has ls leaf in subst P (sym leaves) (0, refl)) in
    let P : List ℕ → Type 0 = λ ls. IsComposed form.table (map bodies ls) body in
    let Q : ℕ → Type 0 = λ t. IsComposed t (bodies leaf ∷ []) body in
    let R : Form → Type 0 = IsComposed 2 (bodies leaf ∷ []) in
    subst P (sym leaves) (subst Q (sym two ∙ same) (subst R (sym made) (itself_composed (bodies leaf) is_body)))
  where
    only : (ls : List ℕ) (l : ℕ) → length ls ≡ 1 → l ≡ first ls → ls ≡ l ∷ []
    only [] l e e' = absurd (omega arith)
    only (x ∷ []) l e e' = ap (λ y. y ∷ []) (sym e')
    only (x ∷ y ∷ ls) l e e' = absurd (omega arith)

pub body_turned : (form : Form) (bodies : ℕ → Form) (leaf table : ℕ) (body : Form) → IsForm form → length form.leaves ≡ 1 → leaf ≡ first form.leaves → table ≡ form.table → table ≢ 2 → body ≡ complement (bodies leaf) → ((n : ℕ) → Has form.leaves n → IsForm (bodies n)) → IsComposed form.table (map bodies form.leaves) body
body_turned form bodies leaf table body is_form one is same other made each =
    let leaves : form.leaves ≡ leaf ∷ [] = only form.leaves leaf one is in
    let is_body : IsForm (bodies leaf) = each leaf (let P : List ℕ → Type 0 = λ ls. Has ls leaf in subst P (sym leaves) (0, refl)) in
    let P : List ℕ → Type 0 = λ ls. IsComposed form.table (map bodies ls) body in
    let Q : ℕ → Type 0 = λ t. IsComposed t (bodies leaf ∷ []) body in
    let R : Form → Type 0 = IsComposed 1 (bodies leaf ∷ []) in
    elim (one_leaf form leaf is_form leaves) [
      | inl own ↦ absurd (other (same ∙ ap (λ (f : Form). f.table) own))
      | inr turned ↦ subst P (sym leaves) (subst Q (sym (ap (λ (f : Form). f.table) turned)) (subst R (sym made) (complement_composed (bodies leaf) is_body)))
    ]
  where
    only : (ls : List ℕ) (l : ℕ) → length ls ≡ 1 → l ≡ first ls → ls ≡ l ∷ []
    only [] l e e' = absurd (omega arith)
    only (x ∷ []) l e e' = ap (λ y. y ∷ []) (sym e')
    only (x ∷ y ∷ ls) l e e' = absurd (omega arith)

pub body_constant : (form : Form) (bodies : ℕ → Form) (body : Form) → IsForm form → length form.leaves ≤ 1 → length form.leaves ≢ 1 → body ≡ form → IsComposed form.table (map bodies form.leaves) body
body_constant form bodies body is few other made =
    let leaves : form.leaves ≡ [] = none form.leaves few other in
    let P : List ℕ → Type 0 = λ ls. IsComposed form.table (map bodies ls) body in
    let R : Form → Type 0 = IsComposed form.table [] in
    subst P (sym leaves) (subst R (sym made) (constant_composed form is leaves))
  where
    none : (ls : List ℕ) → length ls ≤ 1 → length ls ≢ 1 → ls ≡ []
    none [] e e' = refl
    none (x ∷ []) e e' = absurd (e' refl)
    none (x ∷ y ∷ ls) e e' = absurd (omega arith)

-- ---- the unit by the body that is there

-- no table is its own complement's
apart_tables : (form : Form) → form.table < 2 ^ (2 ^ length form.leaves) → form.table ≡ (complement form).table → ⊥
apart_tables form fits same = omega (arith, full_even (length form.leaves), fits, same)

pub unit_same : (forms : Forms) (form : Form) (m here there : ℕ) (unit : Form) → form.table < 2 ^ (2 ^ length form.leaves) → here ≡ (forms.body m).table → there ≡ form.table → here ≡ there → unit ≡ itself m → AreTwins (forms.body m) form → IsUnitBy forms form m unit
unit_same forms form m here there unit fits is is' same made (inl twin) = inl (twin, made)
unit_same forms form m here there unit fits is is' same made (inr twin) = absurd (apart_tables form fits (sym is' ∙ sym same ∙ is ∙ ap (λ (f : Form). f.table) twin))

pub unit_turned : (forms : Forms) (form : Form) (m here there : ℕ) (unit : Form) → here ≡ (forms.body m).table → there ≡ form.table → here ≢ there → unit ≡ complement (itself m) → AreTwins (forms.body m) form → IsUnitBy forms form m unit
unit_turned forms form m here there unit is is' other made (inl twin) = absurd (other (is ∙ ap (λ (f : Form). f.table) twin ∙ sym is'))
unit_turned forms form m here there unit is is' other made (inr twin) = inr (twin, made)

-- the unit of a body for which a net is kept, and of one for which none is
pub unit_found : (lists : FormLists) (c : Form) (out m : ℕ) (catalog : Catalog) (unit : Form) (key : List ℕ) (found : Option ℕ) → key ≡ twin_key c → found ≡ net_of catalog key → found ≡ Some m → (AreTwins (form_at lists.bodies m) c → IsUnitBy (forms_of lists) c m unit) → length unit.leaves ≤ 1 → IsUnitFor lists c out catalog catalog unit
unit_found lists c out m catalog unit key found is read some by few =
    let there : net_of catalog (twin_key c) ≡ Some m = sym (ap (net_of catalog) is) ∙ sym read ∙ some in
    record {
      found = λ n at. (refl, (let U : ℕ → Type 0 = λ k. AreTwins (form_at lists.bodies k) c → IsUnitBy (forms_of lists) c k unit in subst U (same_some m n (sym there ∙ at)) by));
      added = λ none. absurd (let both : Some m ≡ None = sym there ∙ none in cc);
      few = few;
    }

pub unit_added : (lists : FormLists) (c : Form) (out : ℕ) (old new : Catalog) (unit : Form) (key : List ℕ) (found : Option ℕ) → key ≡ twin_key c → found ≡ net_of old key → found ≡ None → IsKept key out old new unit → IsUnitFor lists c out old new unit
unit_added lists c out old new unit key found is read none kept =
    let there : net_of old (twin_key c) ≡ None = sym (ap (net_of old) is) ∙ sym read ∙ none in
    record {
      found = λ m at. absurd (let both : Some m ≡ None = sym at ∙ there in cc);
      added = λ e. let K : List ℕ → Type 0 = λ k. IsKept k out old new unit in subst K is kept;
      few = omega (arith, ap (λ (f : Form). length f.leaves) kept.0);
    }

-- ---- steps

own_forms : (net : NetList) (gates : List GateValue) (i : ℕ) (lists : FormLists) → Extends net gates i lists (forms_of lists)
own_forms net gates i lists = record { unit = λ n early. refl; body = λ n early. refl }

-- the bodies of the leaves of a gate's function are forms
pub leaf_bodies : (net : NetList) (ends : List ℕ) (gates : List GateValue) (i : ℕ) (g : GateValue) (lists : FormLists) (catalog : Catalog) (c : Form) → IsStep net ends gates i g lists catalog → IsChosen (is_single net ends gates) (forms_of lists) g c → (n : ℕ) → Has c.leaves n → IsForm (form_at lists.bodies n)
leaf_bodies net ends gates i g lists catalog c step chosen n leaf =
    let own = own_forms net gates i lists in
    let are = step.underway.done (forms_of lists) own in
    let at = chosen_stands net ends gates i g lists catalog (forms_of lists) c step own chosen n leaf in
    by are at.0 at.1
  where
    by : AreFormsTo net ends gates (forms_of lists) i → uses ends gates n ≢ 0 → IsEarlier net gates i n → IsForm (form_at lists.bodies n)
    by are used (inl source) = let P : Form → Type 0 = IsForm in subst P (sym (are.bodies n source)) (itself_form n)
    by are used (inr (j, h, less, got, out)) =
        let U : ℕ → Type 0 = λ x. uses ends gates x ≢ 0 in
        let P : ℕ → Type 0 = λ x. IsForm (form_at lists.bodies x) in
        subst P out (settled_to net ends gates (forms_of lists) step.placed are i (omega arith) j h less got (subst U (sym out) used)).body_form

next_place : (net : NetList) (ends : List ℕ) (gates : List GateValue) (i : ℕ) (lists : FormLists) (catalog : Catalog) → IsUnderway net ends gates (suc i) lists catalog → IsUnderway net ends gates (i + 1) lists catalog
next_place net ends gates i lists catalog is =
    let same : suc i ≡ i + 1 = omega arith in
    let P : ℕ → Type 0 = λ k. IsUnderway net ends gates k lists catalog in
    subst P same is

pub reduced_next : (net : NetList) (ends : List ℕ) (gates : List GateValue) (i : ℕ) (g : GateValue) (lists new : FormLists) (catalog : Catalog) (out : ℕ) (c body : Form) → out ≡ g.out → IsSet lists new out c body → length c.leaves ≤ 1
    → (IsForm c → length c.leaves ≤ 1 → ((n : ℕ) → Has c.leaves n → IsForm (form_at lists.bodies n)) → IsComposed c.table (map (form_at lists.bodies) c.leaves) body)
    → IsStep net ends gates i g lists catalog → IsChosen (is_single net ends gates) (forms_of lists) g c → IsUnderway net ends gates (i + 1) new catalog
reduced_next net ends gates i g lists new catalog out c body same set few made step chosen =
    let S : ℕ → Type 0 = λ n. IsSet lists new n c body in
    let is = subst S same set in
    let composed = made chosen.given.2.is_form few (leaf_bodies net ends gates i g lists catalog c step chosen) in
    let B : Form → Type 0 = IsComposed c.table (map (form_at lists.bodies) c.leaves) in
    next_place net ends gates i new catalog (step_reduced net ends gates i g lists new catalog c step chosen few (set_keeps lists new g.out c body is) (set_unit lists new g.out c body is) (subst B (sym (set_body lists new g.out c body is)) composed))

pub shared_next : (net : NetList) (ends : List ℕ) (gates : List GateValue) (i : ℕ) (g : GateValue) (lists new : FormLists) (old catalog : Catalog) (out : ℕ) (c unit : Form) → out ≡ g.out → IsSet lists new out unit c → 2 ≤ length c.leaves → IsUnitFor lists c out old catalog unit
    → IsStep net ends gates i g lists old → IsChosen (is_single net ends gates) (forms_of lists) g c → IsUnderway net ends gates (i + 1) new catalog
shared_next net ends gates i g lists new old catalog out c unit same set more unit_for step chosen =
    next_place net ends gates i new catalog (by (net_of old (twin_key c)) refl)
  where
    is : IsSet lists new g.out unit c
    is = let S : ℕ → Type 0 = λ n. IsSet lists new n unit c in subst S same set

    keeps : Keeps lists new g.out
    keeps = set_keeps lists new g.out unit c is

    by : (o : Option ℕ) → net_of old (twin_key c) ≡ o → IsUnderway net ends gates (suc i) new catalog
    by (Some m) there =
        let found = unit_for.found m there in
        let F : Option ℕ → Type 0 = IsFound (uses ends gates) gates i (forms_of lists) c in
        let at = subst F there (step.underway.bodies (forms_of lists) (own_forms net gates i lists) c chosen.given.2.is_form more) in
        let T : ℕ → Type 0 = λ n. AreTwins (form_at lists.bodies n) c in
        let unit_is = found.1 (subst T at.3 at.1.twins) in
        let U : Form → Type 0 = IsUnitBy (forms_of lists) c m in
        let C : Catalog → Type 0 = IsUnderway net ends gates (suc i) new in
        subst C (sym found.0) (step_found net ends gates i g lists new old c m step chosen more keeps (set_body lists new g.out unit c is) there (subst U (sym (set_unit lists new g.out unit c is)) unit_is))
    by None none =
        let added = unit_for.added none in
        let A : ℕ → Type 0 = λ n. (q : List ℕ) → net_of catalog q ≡ cond (bytes_eq q (twin_key c)) (Some n) (net_of old q) in
        step_added net ends gates i g lists new old catalog c step chosen more keeps (set_body lists new g.out unit c is) (set_unit lists new g.out unit c is ∙ added.0 ∙ ap itself same) none (subst A same added.1)

pub idle_next : (net : NetList) (ends : List ℕ) (gates : List GateValue) (i : ℕ) (g : GateValue) (lists : FormLists) (catalog : Catalog) → slice_get gates i ≡ Some g → uses ends gates g.out ≡ 0 → IsUnderway net ends gates i lists catalog → IsUnderway net ends gates (i + 1) lists catalog
idle_next net ends gates i g lists catalog got none is = next_place net ends gates i lists catalog (step_idle net ends gates i g lists catalog got none is)

-- the same, by what is set
pub reduced_done : (net : NetList) (ends : List ℕ) (gates : List GateValue) (i : ℕ) (g : GateValue) (lists new : FormLists) (catalog : Catalog) (out : ℕ) (c body : Form) → out ≡ g.out → g.out < length lists.units → length lists.bodies ≡ length lists.units → new.units ≡ slice_set lists.units out c → new.bodies ≡ slice_set lists.bodies out body → length c.leaves ≤ 1
    → (IsForm c → length c.leaves ≤ 1 → ((n : ℕ) → Has c.leaves n → IsForm (form_at lists.bodies n)) → IsComposed c.table (map (form_at lists.bodies) c.leaves) body)
    → IsStep net ends gates i g lists catalog → IsChosen (is_single net ends gates) (forms_of lists) g c → IsUnderway net ends gates (i + 1) new catalog
reduced_done net ends gates i g lists new catalog out c body same within long units bodies few made step chosen =
    reduced_next net ends gates i g lists new catalog out c body same (record { within = omega (arith, same, within); long = long; units = units; bodies = bodies }) few made step chosen

pub shared_done : (net : NetList) (ends : List ℕ) (gates : List GateValue) (i : ℕ) (g : GateValue) (lists new : FormLists) (old catalog : Catalog) (out again : ℕ) (c unit : Form) → out ≡ g.out → again ≡ g.out → g.out < length lists.units → length lists.bodies ≡ length lists.units → new.units ≡ slice_set lists.units again unit → new.bodies ≡ slice_set lists.bodies again c → 2 ≤ length c.leaves
    → IsUnitFor lists c out old catalog unit → IsStep net ends gates i g lists old → IsChosen (is_single net ends gates) (forms_of lists) g c → IsUnderway net ends gates (i + 1) new catalog
shared_done net ends gates i g lists new old catalog out again c unit same same_again within long units bodies more unit_for step chosen =
    let one : again ≡ out = same_again ∙ sym same in
    let U : ℕ → Type 0 = λ n. new.units ≡ slice_set lists.units n unit in
    let B : ℕ → Type 0 = λ n. new.bodies ≡ slice_set lists.bodies n c in
    shared_next net ends gates i g lists new old catalog out c unit same (record { within = omega (arith, same, within); long = long; units = subst U one units; bodies = subst B one bodies }) more unit_for step chosen

-- before the first gate
pub underway_start : (net : NetList) (ends : List ℕ) (gates : List GateValue) (lists : FormLists) (catalog : Catalog) → IsSound net → length lists.units ≡ nets net → ((n : ℕ) → n < nets net → form_at lists.units n ≡ itself n) → ((n : ℕ) → n < nets net → form_at lists.bodies n ≡ itself n) → ((key : List ℕ) → net_of catalog key ≡ None) → IsUnderway net ends gates 0 lists catalog
underway_start net ends gates lists catalog sound long units bodies none = record {
  long = long;
  done = λ forms ext. record {
    units = λ n source. ext.unit n (inl source) ∙ units n (within n source);
    bodies = λ n source. ext.body n (inl source) ∙ bodies n (within n source);
    each = λ j g less got used. absurd (omega (arith, less));
  };
  bodies = λ forms ext form is more.
      let P : Option ℕ → Type 0 = IsFound (uses ends gates) gates 0 forms form in
      subst P (sym (none (twin_key form))) (λ j g less got used twins. omega (arith, less));
}
  where
    within : (n : ℕ) → Has (sources net) n → n < nets net
    within n source = All_has (λ m. m < nets net) (sources net) n (sources_inside net sound.inside) source
