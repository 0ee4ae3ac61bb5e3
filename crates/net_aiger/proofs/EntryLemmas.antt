-- Lines, one after another: at most one list of entries or fault comes of them, and one does.
use Rattle.std.proofs.Common.{◌≡◌, ◌∙◌, ap, sym, refl, subst, inl, inr, ℕ, zero, suc, ◌<◌, ◌≤◌, ◌+◌, List, [], ◌∷◌, ◌++◌, length, take, Option, None, Some, Result, Ok, Err, arith}
use Rattle.std.proofs.Math.Seq.{take-length}
use Rattle.lists.specs.laws.NumberLaws.{even}
use Rattle.lists.specs.laws.ReadLaws.{get_below, got_push}
use Rattle.lists.specs.laws.TakeLaws.{take_none, taken_next}
use Rattle.outcome.specs.Outcome.{Determined, Outcome, ◌>>=◌}
use Rattle.net_aiger.specs.Sections.{AreEntries, Section, Spelled}
use Rattle.net_aiger.specs.Steps as results
use Rattle.net_aiger.specs.declared.fault.AigerFault.{AigerFault}
use Rattle.net_aiger.specs.declared.fault.AigerFault.TheVariants.{Syntax}

-- ---- the first entries of a list

module _ {A : Type 0} where
  take_before : (xs : List A) (x : A) (k : ℕ) → k ≤ length xs → take k (xs ++ x ∷ []) ≡ take k xs
  take_before xs x zero less = take_none (xs ++ x ∷ []) ∙ sym (take_none xs)
  take_before [] x (suc k) less = absurd (omega arith)
  take_before (y ∷ ys) x (suc k) less = ap (λ zs. y ∷ zs) (take_before ys x k (omega arith))

  same_ok : (a b : A) → ◌≡◌ {A = Result A AigerFault} (Ok a) (Ok b) → a ≡ b
  same_ok a b e = cc

  same_fault : (d e : AigerFault) → ◌≡◌ {A = Result A AigerFault} (Err d) (Err e) → d ≡ e
  same_fault d e is = cc

  ok_no_fault : (a : A) (e : AigerFault) → ◌≡◌ {A = Result A AigerFault} (Ok a) (Err e) → ⊥
  ok_no_fault a e is = cc

-- ---- entries

module _ {A : Type 0} (Line : List A → ℕ → Outcome AigerFault A) (first : ℕ) where
  pub no_entries : AreEntries Line first []
  no_entries k a got = absurd (cc)

  pub one_more : (entries : List A) (entry : A) → AreEntries Line first entries → Line entries (first + length entries) (Ok entry) → AreEntries Line first (entries ++ entry ∷ [])
  one_more entries entry are here k a got = elim (got_push entries entry k a got) [
    | inl w ↦
        let P : List A → Type 0 = λ before. Line before (first + k) (Ok a) in
        subst P (sym (take_before entries entry k (omega (arith, w.1)))) (are k a w.0)
    | inr w ↦
        let before : take k (entries ++ entry ∷ []) ≡ entries = take_before entries entry k (omega (arith, w.0)) ∙ (ap (λ n. take n entries) w.0 ∙ take-length entries) in
        let P : List A → Type 0 = λ xs. Line xs (first + k) (Ok a) in
        let Q : A → Type 0 = λ b. Line entries (first + k) (Ok b) in
        let R : ℕ → Type 0 = λ n. Line entries (first + n) (Ok entry) in
        subst P (sym before) (subst Q (sym w.1) (subst R (sym w.0) here))
  ]

  module _ (one : (before : List A) (place : ℕ) → Determined (Line before place)) where
    -- two lists of entries are the same as far as both go
    pub agree : (xs ys : List A) → AreEntries Line first xs → AreEntries Line first ys → (k : ℕ) → k ≤ length xs → k ≤ length ys → take k xs ≡ take k ys
    agree xs ys a b zero low low' = take_none xs ∙ sym (take_none ys)
    agree xs ys a b (suc k) low low' =
        let x = get_below xs k (omega arith) in
        let y = get_below ys k (omega arith) in
        let same = agree xs ys a b k (omega arith) (omega arith) in
        let P : List A → Type 0 = λ before. Line before (first + k) (Ok x.0) in
        let entry : x.0 ≡ y.0 = same_ok x.0 y.0 (one (take k ys) (first + k) (Ok x.0) (Ok y.0) (subst P same (a k x.0 x.1)) (b k y.0 y.1)) in
        rw (taken_next xs k x.0 x.1, taken_next ys k y.0 y.1, same, entry) refl

    pub same_entries : (xs ys : List A) → AreEntries Line first xs → AreEntries Line first ys → length xs ≡ length ys → xs ≡ ys
    same_entries xs ys a b long = sym (take-length xs) ∙ (agree xs ys a b (length xs) (omega arith) (omega (arith, long)) ∙ (ap (λ n. take n ys) long ∙ take-length ys))

    -- a line that has an entry has no fault
    pub no_fault : (xs before : List A) (fault : AigerFault) → AreEntries Line first xs → AreEntries Line first before → length before < length xs → Line before (first + length before) (Err fault) → ⊥
    no_fault xs before fault a b less wrong =
        let x = get_below xs (length before) less in
        let same : take (length before) xs ≡ before = agree xs before a b (length before) (omega (arith, less)) (omega arith) ∙ take-length before in
        let P : List A → Type 0 = λ ys. Line ys (first + length before) (Ok x.0) in
        ok_no_fault x.0 fault (one before (first + length before) (Ok x.0) (Err fault) (subst P same (a (length before) x.0 x.1)) wrong)

    -- two first faults are one
    pub same_faults : (xs ys : List A) (d e : AigerFault) → AreEntries Line first xs → AreEntries Line first ys → length xs ≡ length ys → Line xs (first + length xs) (Err d) → Line ys (first + length ys) (Err e) → d ≡ e
    same_faults xs ys d e a b long wrong wrong' =
        let P : List A → Type 0 = λ zs. Line zs (first + length zs) (Err d) in
        same_fault {A = A} d e (one ys (first + length ys) (Err d) (Err e) (subst P (same_entries xs ys a b long) wrong) wrong')

    pub section_determined : (count : ℕ) → Determined (Section Line first count)
    section_determined count (Ok xs) (Ok ys) (long, a) (long', b) = ap Ok (same_entries xs ys a b (long ∙ sym long'))
    section_determined count (Ok xs) (Err e) (long, a) (before, few, b, wrong) = absurd (no_fault xs before e a b (omega (arith, long, few)) wrong)
    section_determined count (Err d) (Ok ys) (before, few, a, wrong) (long, b) = absurd (no_fault ys before d b a (omega (arith, long, few)) wrong)
    section_determined count (Err d) (Err e) (xs, few, a, wrong) (ys, few', b, wrong') =
        let long : length xs ≡ length ys = even (length xs) (length ys) (λ less. no_fault ys xs d b a less wrong) (λ less. no_fault xs ys e a b less wrong') in
        ap Err (same_faults xs ys d e a b long wrong wrong')

-- ---- what is spelled

-- what is found is what is spelled, if anything is
pub record Finds {A : Type 0} (spells : A → Type 0) (found : Option A) : Type 0 where
  pub each : (a : A) → spells a → found ≡ Some a
  pub is : (a : A) → found ≡ Some a → spells a

-- what is found, or a syntax fault of the line
abbrev pub or_syntax : {A : Type 0} → ℕ → Option A → Result A AigerFault
or_syntax line None = Err (Syntax line)
or_syntax line (Some a) = Ok a

pub spelled_found : {A : Type 0} (line : ℕ) (spells : A → Type 0) (found : Option A) → Finds spells found → Spelled line spells (or_syntax line found)
spelled_found {A} line spells None finds = ((λ a s. none (finds.each a s)), refl)
  where
    none : {a : A} → ◌≡◌ {A = Option A} None (Some a) → ⊥
    none e = cc
spelled_found line spells (Some a) finds = finds.is a refl

pub spelled_determined : {A : Type 0} (line : ℕ) (spells : A → Type 0) (found : Option A) → Finds spells found → Determined (Spelled line spells)
spelled_determined {A} line spells found finds (Ok a) (Ok b) h k = let same : Some a ≡ Some b = sym (finds.each a h) ∙ finds.each b k in let e : a ≡ b = cc in ap Ok e
spelled_determined line spells found finds (Ok a) (Err e) h k = absurd (k.0 a h)
spelled_determined line spells found finds (Err d) (Ok b) h k = absurd (h.0 b k)
spelled_determined line spells found finds (Err d) (Err e) h k = ap Err (h.1 ∙ sym k.1)

-- ---- steps that follow outcomes

-- a step and then another
abbrev pub then_by : {A B : Type 0} → Result A AigerFault → (A → Result B AigerFault) → Result B AigerFault
then_by first further = results.◌>>=◌ first further

-- where a step's result may come, and the next one's after its value, both together may
pub both_come : {A B : Type 0} (first : Outcome AigerFault A) (second : A → Outcome AigerFault B) (r : Result A AigerFault) (further : A → Result B AigerFault) → first r → ((a : A) → first (Ok a) → second a (further a)) → (first >>= second) (then_by r further)
both_come {A} {B} first second (Ok a) further one two = by (further a) (two a one)
  where
    by : (s : Result B AigerFault) → second a s → (first >>= second) s
    by (Ok b) h = (a, one, h)
    by (Err e) h = inr (a, one, h)
both_come first second (Err e) further one two = inl one

-- where further steps are the same after each value that may come, so are both together
pub same_further : {A B : Type 0} (may : Outcome AigerFault A) (r : Result A AigerFault) (f g : A → Result B AigerFault) → may r → ((a : A) → may (Ok a) → f a ≡ g a) → then_by r f ≡ then_by r g
same_further may (Ok a) f g one same = same a one
same_further may (Err e) f g one same = refl

pub then_one : {A B : Type 0} (r : Result (Unit {0}) AigerFault) (a : A) (further : A → Result B AigerFault) → then_by (then_by r (λ _. Ok a)) further ≡ then_by r (λ _. further a)
then_one (Ok u) a further = refl
then_one (Err e) a further = refl
