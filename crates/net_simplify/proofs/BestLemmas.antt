-- The choice, number by number.
use Rattle.std.proofs.Common.{◌≡◌, ◌≢◌, ◌⊎◌, ◌∙◌, ap, sym, refl, inl, inr, subst, ℕ, zero, suc, ◌<◌, ◌≤◌, ◌+◌, ◌^◌, Bool, true, cond, List, [], ◌∷◌, length, Option, Some, None, arith, pow_pos, eq-eqb}
use Rattle.std.specs.Prelude.{slice_index_or, ◌==◌}
use Rattle.std.proofs.lemmas.Bool.{ne_eqb}
use Rattle.lists.specs.laws.NumberLaws.{nat_eq_or}
use Rattle.net_core.specs.GateValue.{GateValue}
use Rattle.net_simplify.specs.Form.{Form, IsComposed, IsForm}
use Rattle.net_simplify.specs.Choice.{Forms, Gives, IsChosen, price, taken}
use Rattle.net_simplify.specs.private.Best.{AreSingles, IsBest}
use Rattle.net_simplify.specs.private.Lists.{IsComposedWithin}
use Rattle.net_simplify.specs.private.Marks.{count_at}
use Rattle.net_simplify.proofs.FormLemmas.{composed_same}
use Rattle.net_simplify.proofs.StepLemmas.{first, parted, rest}

-- one number gives one function
gives_same : (forms : Forms) (g : GateValue) (opened others : ℕ) (form other : Form) → opened ≡ others → Gives forms g opened form → Gives forms g others other → form ≡ other
gives_same forms g opened others form other same is is' =
    let P : ℕ → Type 0 = λ o. IsComposed g.table (taken forms o g.inputs) other in
    composed_same g.table (taken forms opened g.inputs) form other is.2 (subst P (sym same) is'.2)

price_same : (single : ℕ → Bool) (forms : Forms) (g : GateValue) (opened others : ℕ) (form other : Form) → opened ≡ others → Gives forms g opened form → Gives forms g others other → price single form.leaves ≡ price single other.leaves
price_same single forms g opened others form other same is is' = ap (λ (f : Form). price single f.leaves) (gives_same forms g opened others form other same is is')

pub best_start : (single : ℕ → Bool) (forms : Forms) (g : GateValue) (form : Form) → Gives forms g 0 form → IsBest single forms g form 1
best_start single forms g form is = record {
  opened = 0;
  before = omega arith;
  given = is;
  least = λ others other less is'. let same = price_same single forms g 0 others form other (omega (arith, less)) is is' in omega (arith, same);
  last = λ others other more less is'. absurd (omega (arith, more, less));
}

pub best_takes : (single : ℕ → Bool) (forms : Forms) (g : GateValue) (form new : Form) (tried : ℕ) → IsBest single forms g form tried → Gives forms g tried new → price single new.leaves ≤ price single form.leaves → IsBest single forms g new (tried + 1)
best_takes single forms g form new tried best is cheap = record {
  opened = tried;
  before = omega arith;
  given = is;
  least = λ others other less is'. elim (nat_eq_or tried others) [
    | inl same ↦ omega (arith, price_same single forms g tried others new other same is is')
    | inr apart ↦ omega (arith, cheap, best.least others other (omega (arith, apart, less)) is')
  ];
  last = λ others other more less is'. absurd (omega (arith, more, less));
}

pub best_keeps : (single : ℕ → Bool) (forms : Forms) (g : GateValue) (form : Form) (tried : ℕ) → IsBest single forms g form tried → ((new : Form) → Gives forms g tried new → price single form.leaves < price single new.leaves) → IsBest single forms g form (tried + 1)
best_keeps single forms g form tried best dear = record {
  opened = best.opened;
  before = omega (arith, best.before);
  given = best.given;
  least = λ others other less is'. elim (nat_eq_or others tried) [
    | inl same ↦ let P : ℕ → Type 0 = λ o. Gives forms g o other in omega (arith, dear other (subst P same is'))
    | inr apart ↦ best.least others other (omega (arith, apart, less)) is'
  ];
  last = λ others other more less is'. elim (nat_eq_or others tried) [
    | inl same ↦ let P : ℕ → Type 0 = λ o. Gives forms g o other in dear other (subst P same is')
    | inr apart ↦ best.last others other more (omega (arith, apart, less)) is'
  ];
}

-- where the function of this number is dearer
pub best_dear : (single : ℕ → Bool) (forms : Forms) (g : GateValue) (form new : Form) (tried : ℕ) → IsBest single forms g form tried → Gives forms g tried new → price single form.leaves < price single new.leaves → IsBest single forms g form (tried + 1)
best_dear single forms g form new tried best is dear = best_keeps single forms g form tried best (λ other is'. omega (arith, dear, price_same single forms g tried tried new other refl is is'))

pub best_end : (single : ℕ → Bool) (forms : Forms) (g : GateValue) (form : Form) (tried : ℕ) → 2 ^ length g.inputs ≤ tried → IsBest single forms g form tried → IsChosen single forms g form
best_end single forms g form tried all best = record {
  opened = best.opened;
  given = best.given;
  least = λ others other is'. best.least others other (omega (arith, is'.0, all)) is';
  last = λ others other more is'. best.last others other more (omega (arith, is'.0, all)) is';
}

-- ---- prices

pub leaf_one : (single : ℕ → Bool) (marks : List ℕ) (n mark : ℕ) → mark ≡ count_at marks n → mark ≡ 1 → AreSingles single marks → ◌≡◌ {A = ℕ} 9 (cond (single n) 9 1)
leaf_one single marks n mark is one are = sym (ap (λ b. cond b 9 1) (sym (are n) ∙ eq-eqb (count_at marks n) 1 (sym is ∙ one)))

pub leaf_other : (single : ℕ → Bool) (marks : List ℕ) (n mark : ℕ) → mark ≡ count_at marks n → mark ≢ 1 → AreSingles single marks → ◌≡◌ {A = ℕ} 1 (cond (single n) 9 1)
leaf_other single marks n mark is other are = sym (ap (λ b. cond b 9 1) (sym (are n) ∙ ne_eqb (count_at marks n) 1 (λ e. other (is ∙ e))))

pub price_first : (single : ℕ → Bool) (leaves : List ℕ) (a b : ℕ) → 1 ≤ length leaves → a ≡ cond (single (first leaves)) 9 1 → b ≡ price single (rest leaves) → a + b ≡ price single leaves
price_first single leaves a b long head tail =
    let whole : price single leaves ≡ price single (first leaves ∷ rest leaves) = ap (price single) (parted leaves long) in
    omega (arith, whole, head, tail)

-- ---- one number more

given_within : (forms : Forms) (g : GateValue) (form : Form) (opened : ℕ) → opened < 2 ^ length g.inputs → IsComposedWithin 4 g.table (taken forms opened g.inputs) (Some form) → Gives forms g opened form
given_within forms g form opened within is = (within, inr is.1, is.0)

pub better_takes : (single : ℕ → Bool) (forms : Forms) (g : GateValue) (form new : Form) (opened p q : ℕ) → opened < 2 ^ length g.inputs → IsComposedWithin 4 g.table (taken forms opened g.inputs) (Some new) → p ≡ price single new.leaves → q ≡ price single form.leaves → p ≤ q → IsBest single forms g form opened → IsBest single forms g new (opened + 1)
better_takes single forms g form new opened p q within is first_price second_price cheap best =
    best_takes single forms g form new opened best (given_within forms g new opened within is) (omega (arith, first_price, second_price, cheap))

pub better_dear : (single : ℕ → Bool) (forms : Forms) (g : GateValue) (form new : Form) (opened p q : ℕ) → opened < 2 ^ length g.inputs → IsComposedWithin 4 g.table (taken forms opened g.inputs) (Some new) → p ≡ price single new.leaves → q ≡ price single form.leaves → (p ≤ q → ⊥) → IsBest single forms g form opened → IsBest single forms g form (opened + 1)
better_dear single forms g form new opened p q within is first_price second_price dear best =
    best_dear single forms g form new opened best (given_within forms g new opened within is) (omega (arith, first_price, second_price, dear))

pub better_none : (single : ℕ → Bool) (forms : Forms) (g : GateValue) (form : Form) (opened : ℕ) → opened ≢ 0 → IsComposedWithin 4 g.table (taken forms opened g.inputs) None → IsBest single forms g form opened → IsBest single forms g form (opened + 1)
better_none single forms g form opened some over best =
    best_keeps single forms g form opened best (λ new given. absurd (elim given.1 [ inl none ↦ some none | inr few ↦ omega (arith, few, over) ]))

-- where no input is opened
pub gives_units : (forms : Forms) (g : GateValue) (form : Form) → IsComposedWithin 6 g.table (taken forms 0 g.inputs) (Some form) → Gives forms g 0 form
gives_units forms g form is = (omega (arith, pow_pos (length g.inputs)), inl refl, is.0)
