-- A simplified net list is a rewriting: sound, and with the same lists of bits that agree.
use Rattle.std.proofs.Common.{◌≡◌, ◌≢◌, ◌⊎◌, ◌∙◌, ◌↔◌, ap, sym, refl, inl, inr, subst, ℕ, zero, suc, ◌<◌, ◌≤◌, ◌+◌, Bool, true, false, cond, List, [], ◌∷◌, length, map, Some, arith, eq-eqb}
use Rattle.std.specs.Prelude.{slice_get, ◌==◌}
use Rattle.std.proofs.lemmas.Bool.{ne_eqb}
use Rattle.lists.specs.Lists.{Has, times}
use Rattle.lists.specs.laws.HasLaws.{all_from, All_has, times_get}
use Rattle.lists.specs.laws.NumberLaws.{nat_eq_or}
use Rattle.lists.specs.laws.ReadLaws.{from_map}
use Rattle.graph_core.specs.Walk.{IsChain}
use Rattle.net_core.specs.GateValue.{GateValue}
use Rattle.net_core.specs.Inside.{IsInside, GateIsInside}
use Rattle.net_core.specs.NetList.{NetList, nets}
use Rattle.net_core.specs.Sound.{IsSound, Needs, sources}
use Rattle.net_core.specs.Value.{IsConsistent, IsRight}
use Rattle.net_core.proofs.DriverLemmas.{gate_inside}
use Rattle.net_core.proofs.LevelLemmas.{sources_inside}
use Rattle.net_simplify.specs.Form.{Form, IsForm}
use Rattle.net_simplify.specs.Uses.{uses}
use Rattle.net_simplify.specs.Choice.{Forms}
use Rattle.net_simplify.specs.Simplified.{AreForms, IsSimplified, formed, simple_gate, with_forms}
use Rattle.net_simplify.proofs.MeaningLemmas.{Means, StandsOn, earlier_more, settled}
use Rattle.net_simplify.specs.private.Underway.{ArePlaced, IsEarlier}
use Rattle.net_simplify.proofs.PlacedLemmas.{are_placed}
use Rattle.net_simplify.proofs.RewriteLemmas.{IsRewriting, agrees_back, agrees_forth, rewritten, rewritten_sound}
use Rattle.net_simplify.proofs.UseLemmas.{chain_used, uses_ends}

-- ---- the place of a net's gate, and 0 for a source

abbrev pub rank_from : ℕ → List GateValue → ℕ → ℕ
rank_from k [] n = 0
rank_from k (g ∷ gates) n = cond (g.out == n) (suc k) (rank_from (suc k) gates n)

cond_here : (a b x y : ℕ) → a ≡ b → cond (a == b) x y ≡ x
cond_here a b x y same = ap (λ c. cond c x y) (eq-eqb a b same)

cond_there : (a b x y : ℕ) → a ≢ b → cond (a == b) x y ≡ y
cond_there a b x y other = ap (λ c. cond c x y) (ne_eqb a b other)

rank_here : (k : ℕ) (gates : List GateValue) (i : ℕ) (g : GateValue) → slice_get gates i ≡ Some g → ((j : ℕ) (h : GateValue) → j < i → slice_get gates j ≡ Some h → h.out ≢ g.out) → rank_from k gates g.out ≡ suc (k + i)
rank_here k [] i g got apart = absurd (cc)
rank_here k (h ∷ gates) zero g got apart =
    let same : h ≡ g = cc in
    cond_here h.out g.out (suc k) (rank_from (suc k) gates g.out) (ap (λ (x : GateValue). x.out) same) ∙ omega arith
rank_here k (h ∷ gates) (suc i) g got apart =
    cond_there h.out g.out (suc k) (rank_from (suc k) gates g.out) (apart 0 h (omega arith) refl)
    ∙ (rank_here (suc k) gates i g got (λ j x less at. apart (suc j) x (omega arith) at) ∙ omega arith)

rank_none : (k : ℕ) (gates : List GateValue) (n : ℕ) → ((g : GateValue) → Has gates g → g.out ≢ n) → rank_from k gates n ≡ 0
rank_none k [] n none = refl
rank_none k (g ∷ gates) n none =
    cond_there g.out n (suc k) (rank_from (suc k) gates n) (none g (0, refl))
    ∙ rank_none (suc k) gates n (λ h has. none h (suc has.0, has.1))

rank_place : (net : NetList) (gates : List GateValue) → ArePlaced net gates → (i : ℕ) (g : GateValue) → slice_get gates i ≡ Some g → rank_from 0 gates g.out ≡ suc i
rank_place net gates placed i g got = rank_here 0 gates i g got (λ j h less at same. let e = placed.apart j i h g at got same in omega (arith, e, less)) ∙ omega arith

rank_early : (net : NetList) (gates : List GateValue) → ArePlaced net gates → (i n : ℕ) → IsEarlier net gates i n → rank_from 0 gates n ≤ i
rank_early net gates placed i n (inl source) =
    omega (arith, rank_none 0 gates n (λ g has same. let P : ℕ → Type 0 = Has (sources net) in placed.driven g has (subst P (sym same) source)))
rank_early net gates placed i n (inr (j, g, less, got, out)) = omega (arith, rank_place net gates placed j g got, ap (rank_from 0 gates) out, less)

-- ---- the new gates

-- by whether a gate is used, and by what its unit is
pub simple_by : (P : GateValue → Type 0) (used : ℕ → ℕ) (forms : Forms) (g : GateValue)
    → (used g.out ≡ 0 → P g)
    → (used g.out ≢ 0 → times g.out (forms.unit g.out).leaves ≡ 0 → P (formed g (forms.unit g.out)))
    → (used g.out ≢ 0 → P (formed g (forms.body g.out)))
    → P (simple_gate used forms g)
simple_by P used forms g idle unit body =
    elim (nat_eq_or (used g.out) 0) [
      | inl none ↦
          let e : simple_gate used forms g ≡ g = ap (λ c. cond c g (formed g inner)) (eq-eqb (used g.out) 0 none) in
          subst P (sym e) (idle none)
      | inr some ↦
          let e : simple_gate used forms g ≡ formed g inner = ap (λ c. cond c g (formed g inner)) (ne_eqb (used g.out) 0 some) in
          subst P (sym e) (elim (nat_eq_or (times g.out (forms.unit g.out).leaves) 0) [
            | inl other ↦ let e' : inner ≡ forms.unit g.out = ap (λ c. cond c (forms.unit g.out) (forms.body g.out)) (eq-eqb (times g.out (forms.unit g.out).leaves) 0 other) in let Q : Form → Type 0 = λ f. P (formed g f) in subst Q (sym e') (unit some other)
            | inr own ↦ let e' : inner ≡ forms.body g.out = ap (λ c. cond c (forms.unit g.out) (forms.body g.out)) (ne_eqb (times g.out (forms.unit g.out).leaves) 0 own) in let Q : Form → Type 0 = λ f. P (formed g f) in subst Q (sym e') (body some)
          ])
    ]
  where
    inner : Form
    inner = cond (times g.out (forms.unit g.out).leaves == 0) (forms.unit g.out) (forms.body g.out)

early_inside : (net : NetList) (gates : List GateValue) → IsSound net → ArePlaced net gates → (i n : ℕ) → IsEarlier net gates i n → n < nets net
early_inside net gates sound placed i n (inl source) = All_has (λ m. m < nets net) (sources net) n (sources_inside net sound.inside) source
early_inside net gates sound placed i n (inr (j, g, less, got, out)) = omega (arith, (gate_inside net g sound.inside (placed.only g (j, got))).0, out)

formed_inside : (net : NetList) (ends : List ℕ) (gates : List GateValue) → IsSound net → ArePlaced net gates → (i : ℕ) (g : GateValue) (form : Form) → Has net.gates g → IsForm form → StandsOn net ends gates i form → GateIsInside (nets net) (formed g form)
formed_inside net ends gates sound placed i g form has is stands = (
  (gate_inside net g sound.inside has).0,
  all_from (λ n. n < nets net) form.leaves (λ n leaf. early_inside net gates sound placed i n (stands n leaf).1),
  is.few,
  is.fits,
)

-- the unit stands on nets before, where it is not the net itself
unit_before : (net : NetList) (ends : List ℕ) (gates : List GateValue) (forms : Forms) → ArePlaced net gates → (i : ℕ) (g : GateValue) → slice_get gates i ≡ Some g → times g.out (forms.unit g.out).leaves ≡ 0 → StandsOn net ends gates (suc i) (forms.unit g.out) → (n : ℕ) → Has (forms.unit g.out).leaves n → IsEarlier net gates i n
unit_before net ends gates forms placed i g got other stands n leaf =
    elim (stands n leaf).1 [
      | inl source ↦ inl source
      | inr (j, h, less, at, out) ↦ elim (nat_eq_or j i) [
        | inr apart ↦ inr (j, h, omega (arith, less, apart), at, out)
        | inl same ↦
            let at' : slice_get gates i ≡ Some h = rw (← same) at in
            let e : g ≡ h = cc in
            let own : g.out ≡ n = ap (λ (x : GateValue). x.out) e ∙ out in
            absurd (omega (arith, other, times_get g.out (forms.unit g.out).leaves leaf.0 (leaf.1 ∙ ap Some (sym own))))
      ]
    ]

pub is_rewriting : (net : NetList) (ends : List ℕ) (gates : List GateValue) (forms : Forms) → IsSound net → ArePlaced net gates → AreForms net ends gates forms → IsRewriting net (simple_gate (uses ends gates) forms) (rank_from 0 gates)
is_rewriting net ends gates forms sound placed are = record {
  out = λ g. simple_by (λ h. h.out ≡ g.out) used forms g (λ none. refl) (λ some other. refl) (λ some. refl);
  inside = λ g has. simple_by (GateIsInside (nets net)) used forms g
      (λ none. gate_inside net g sound.inside has)
      (λ some other. let at = placed.all g has in let s = settled net ends gates forms placed are at.0 g at.1 some in formed_inside net ends gates sound placed (suc at.0) g (forms.unit g.out) has s.unit_form s.unit_stands)
      (λ some. let at = placed.all g has in let s = settled net ends gates forms placed are at.0 g at.1 some in formed_inside net ends gates sound placed at.0 g (forms.body g.out) has s.body_form s.body_stands);
  right = λ g has bits consistent. simple_by (IsRight bits) used forms g
      (λ none. consistent.gates g has)
      (λ some other. let at = placed.all g has in let s = settled net ends gates forms placed are at.0 g at.1 some in sym (s.unit_means bits consistent))
      (λ some. let at = placed.all g has in let s = settled net ends gates forms placed are at.0 g at.1 some in sym (s.body_means bits consistent));
  below = λ g has. below g (placed.all g has);
}
  where
    used : ℕ → ℕ
    used = uses ends gates

    low : (g : GateValue) (i n : ℕ) → slice_get gates i ≡ Some g → IsEarlier net gates i n → rank_from 0 gates n < rank_from 0 gates g.out
    low g i n got early = omega (arith, rank_early net gates placed i n early, rank_place net gates placed i g got)

    below : (g : GateValue) → Has gates g → (n : ℕ) → Has (simple_gate used forms g).inputs n → rank_from 0 gates n < rank_from 0 gates g.out
    below g (i, got) = simple_by (λ h. (n : ℕ) → Has h.inputs n → rank_from 0 gates n < rank_from 0 gates g.out) used forms g
        (λ none n input. low g i n got (placed.inputs i g got n input))
        (λ some other n leaf. low g i n got (unit_before net ends gates forms placed i g got other (settled net ends gates forms placed are i g got some).unit_stands n leaf))
        (λ some n leaf. low g i n got ((settled net ends gates forms placed are i g got some).body_stands n leaf).1)

-- ---- the laws

pub simplified_sound : (ends : List ℕ) (net simple : NetList) → IsSound net → IsSimplified ends net simple → IsSound simple
simplified_sound ends net simple sound is =
    let placed = are_placed net is.gates sound is.in_order in
    let P : NetList → Type 0 = IsSound in
    subst P (sym is.made) (rewritten_sound net (simple_gate (uses ends is.gates) is.forms) (rank_from 0 is.gates) sound (is_rewriting net ends is.gates is.forms sound placed is.are))

pub simplified_consistent : (ends : List ℕ) (net simple : NetList) (bits : List Bool) → IsSound net → IsSimplified ends net simple → IsConsistent simple bits ↔ IsConsistent net bits
simplified_consistent ends net simple bits sound is =
    let placed = are_placed net is.gates sound is.in_order in
    let new : GateValue → GateValue = simple_gate (uses ends is.gates) is.forms in
    let rewriting = is_rewriting net ends is.gates is.forms sound placed is.are in
    let P : NetList → Type 0 = λ other. IsConsistent other bits in (
      (λ consistent. agrees_back net new (rank_from 0 is.gates) sound rewriting bits (subst P is.made consistent)),
      (λ consistent. subst P (sym is.made) (agrees_forth net new (rank_from 0 is.gates) rewriting bits consistent)),
    )

-- ---- what is used

-- the inputs of a new gate that is used are used
pub needs_used : (net : NetList) (ends : List ℕ) (gates : List GateValue) (forms : Forms) → ArePlaced net gates → AreForms net ends gates forms → (a b : ℕ) → uses ends gates a ≢ 0 → Needs (with_forms net (uses ends gates) forms) a b → uses ends gates b ≢ 0
needs_used net ends gates forms placed are a b some (h, has, out, input) =
    let from = from_map (simple_gate (uses ends gates) forms) net.gates has.0 h has.1 in
    let g : GateValue = from.0 in
    let P : GateValue → Type 0 = λ x. Has x.inputs b in
    let Q : ℕ → Type 0 = λ n. uses ends gates n ≢ 0 in
    let out' : (simple_gate (uses ends gates) forms g).out ≡ g.out = simple_by (λ x. x.out ≡ g.out) (uses ends gates) forms g (λ none. refl) (λ is other. refl) (λ is. refl) in
    let same : a ≡ g.out = sym out ∙ ap (λ (x : GateValue). x.out) (sym from.2) ∙ out' in
    let used : uses ends gates g.out ≢ 0 = subst Q same some in
    let at = placed.all g (has.0, from.1) in
    let s = settled net ends gates forms placed are at.0 g at.1 used in
    simple_by (λ x. Has x.inputs b → uses ends gates b ≢ 0) (uses ends gates) forms g
    (λ none. absurd (used none))
    (λ is other leaf. (s.unit_stands b leaf).0)
    (λ is leaf. (s.body_stands b leaf).0)
    (subst P (sym from.2) input)

-- what leads to an end in the simplified net list is used
pub leads_used : (net : NetList) (ends : List ℕ) (gates : List GateValue) (forms : Forms) → ArePlaced net gates → AreForms net ends gates forms → (n : ℕ) → Has ends n ⊎ ((m : ℕ) × (over : List ℕ) × Has ends m × IsChain (Needs (with_forms net (uses ends gates) forms)) m over n) → uses ends gates n ≢ 0
leads_used net ends gates forms placed are n (inl end) = λ none. omega (arith, none, uses_ends ends gates n, times_get n ends end.0 end.1)
leads_used net ends gates forms placed are n (inr (m, over, end, chain)) =
    chain_used (uses ends gates) (Needs (with_forms net (uses ends gates) forms)) (needs_used net ends gates forms placed are) m over n (λ none. omega (arith, none, uses_ends ends gates m, times_get m ends end.0 end.1)) chain
