-- How often nets are used.
use Rattle.std.proofs.Common.{◌≡◌, ◌≢◌, ◌⊎◌, ◌∙◌, ap, sym, refl, inl, inr, subst, ℕ, zero, suc, ◌<◌, ◌≤◌, ◌+◌, ◌-◌, Bool, true, false, cond, List, [], ◌∷◌, ◌++◌, length, drop, Some, arith}
use Rattle.std.specs.Prelude.{slice_get, ◌==◌}
use Rattle.std.proofs.lemmas.Bool.Decides.{nat_tests, eqb_tells}
use Rattle.lists.specs.Lists.{Has, times}
use Rattle.lists.specs.laws.HasLaws.{times_get, times_some}
use Rattle.lists.specs.laws.NumberLaws.{nat_eq_or}
use Rattle.graph_core.specs.Walk.{IsChain}
use Rattle.net_core.specs.GateValue.{GateValue}
use Rattle.net_core.specs.NetList.{NetList}
use Rattle.net_core.specs.Sound.{Needs}
use Rattle.net_core.proofs.ExistLemmas.{chain_more}
use Rattle.net_simplify.specs.Uses.{uses}
use Rattle.net_simplify.proofs.ListLemmas.{has_more}
use Rattle.net_simplify.specs.private.Underway.{ArePlaced, IsEarlier}

-- what a gate adds that is used so often
abbrev adds : ℕ → ℕ → ℕ
adds used count = cond (used == 0) 0 count

adds_some : (used count : ℕ) → used ≢ 0 → adds used count ≡ count
adds_some used count some = grind (arith, nat_tests)

adds_used : (used count : ℕ) → adds used count ≢ 0 → (used ≢ 0) × (count ≢ 0)
adds_used used count some = (λ none. some (grind (arith, nat_tests)), λ none. some (grind (arith, nat_tests)))

pub times_none : (n : ℕ) (xs : List ℕ) → (Has xs n → ⊥) → times n xs ≡ 0
times_none n xs gone = elim (nat_eq_or (times n xs) 0) [
  | inl none ↦ none
  | inr some ↦ absurd (gone (times_some n xs (omega (arith, some))))
]

pub uses_ends : (ends : List ℕ) (gates : List GateValue) (n : ℕ) → times n ends ≤ uses ends gates n
uses_ends ends [] n = omega arith
uses_ends ends (g ∷ gates) n = omega (arith, uses_ends ends gates n)

uses_drop : (ends : List ℕ) (gates : List GateValue) (i n : ℕ) → uses ends (drop i gates) n ≤ uses ends gates n
uses_drop ends gates zero n = omega arith
uses_drop ends [] (suc i) n = omega arith
uses_drop ends (g ∷ gates) (suc i) n = omega (arith, uses_drop ends gates i n)

-- gates that do not have the net among their inputs do not use it
uses_skip : (ends : List ℕ) (gates : List GateValue) (i n : ℕ) → ((j : ℕ) (g : GateValue) → j < i → slice_get gates j ≡ Some g → Has g.inputs n → ⊥) → uses ends gates n ≡ uses ends (drop i gates) n
uses_skip ends gates zero n none = refl
uses_skip ends [] (suc i) n none = refl
uses_skip ends (g ∷ gates) (suc i) n none =
    omega (arith, uses_skip ends gates i n (λ j h less got. none (suc j) h (omega arith) got), zero_count (times_none n g.inputs (none 0 g (omega arith) refl)))
  where
    zero_count : times n g.inputs ≡ 0 → adds (uses ends gates g.out) (times n g.inputs) ≡ 0
    zero_count e = ap (adds (uses ends gates g.out)) e ∙ none_added (uses ends gates g.out)
      where
        none_added : (used : ℕ) → adds used 0 ≡ 0
        none_added used = grind (arith, nat_tests)

pub dropped : (gates : List GateValue) (i : ℕ) (g : GateValue) → slice_get gates i ≡ Some g → drop i gates ≡ g ∷ drop (suc i) gates
dropped [] i g got = absurd (cc)
dropped (h ∷ gates) zero g got = let same : h ≡ g = cc in ap (λ x. x ∷ gates) same
dropped (h ∷ gates) (suc i) g got = dropped gates i g got

-- only gates that come later use the net of a gate
pub uses_after : (net : NetList) (ends : List ℕ) (gates : List GateValue) → ArePlaced net gates → (i : ℕ) (g : GateValue) → slice_get gates i ≡ Some g → uses ends gates g.out ≡ uses ends (drop (suc i) gates) g.out
uses_after net ends gates placed i g got =
    uses_skip ends gates (suc i) g.out (λ j h less at has. elim (placed.inputs j h at g.out has) [
      | inl source ↦ placed.driven g (i, got) source
      | inr found ↦ let same : i ≡ found.0 = placed.apart i found.0 g found.1 got found.3 (sym found.4) in omega (arith, same, found.2, less)
    ])

-- the inputs of a gate that is used are used
pub inputs_used : (net : NetList) (ends : List ℕ) (gates : List GateValue) → ArePlaced net gates → (i : ℕ) (g : GateValue) → slice_get gates i ≡ Some g → uses ends gates g.out ≢ 0 → (n : ℕ) → Has g.inputs n → uses ends gates n ≢ 0
inputs_used net ends gates placed i g got used n has none =
    let after : uses ends (drop (suc i) gates) g.out ≢ 0 = λ e. used (uses_after net ends gates placed i g got ∙ e) in
    let here : uses ends (drop i gates) n ≡ adds (uses ends (drop (suc i) gates) g.out) (times n g.inputs) + uses ends (drop (suc i) gates) n = ap (λ gs. uses ends gs n) (dropped gates i g got) in
    omega (arith, none, uses_drop ends gates i n, here, adds_some (uses ends (drop (suc i) gates) g.out) (times n g.inputs) after, times_get n g.inputs has.0 has.1)

-- a net that is used leads to an end over a chain of gates
pub used_leads : (net : NetList) (ends : List ℕ) (gates : List GateValue) → ((g : GateValue) → Has gates g → Has net.gates g) → (n : ℕ) → uses ends gates n ≢ 0 → Has ends n ⊎ ((m : ℕ) × (over : List ℕ) × Has ends m × IsChain (Needs net) m over n)
used_leads net ends [] only n used = inl (times_some n ends (omega (arith, used)))
used_leads net ends (g ∷ gates) only n used =
    elim (nat_eq_or (uses ends gates n) 0) [
      | inr some ↦ used_leads net ends gates later n some
      | inl none ↦
          let added = adds_used (uses ends gates g.out) (times n g.inputs) (λ e. used (omega (arith, e, none))) in
          let needs : Needs net g.out n = (g, only g (0, refl), refl, times_some n g.inputs (omega (arith, added.1))) in
          elim (used_leads net ends gates later g.out added.0) [
            | inl end ↦ inr (g.out, [], end, needs)
            | inr chain ↦ inr (chain.0, chain.1 ++ g.out ∷ [], chain.2, chain_more (Needs net) chain.0 chain.1 g.out n chain.3 needs)
          ]
    ]
  where
    later : (h : GateValue) → Has gates h → Has net.gates h
    later h has = only h (has_more g gates h has)

-- where a relation leads from used nets to used ones, what is reached from the ends is used
pub chain_used : (used : ℕ → ℕ) (R : ℕ → ℕ → Type 0) → ((a b : ℕ) → used a ≢ 0 → R a b → used b ≢ 0) → (a : ℕ) (over : List ℕ) (b : ℕ) → used a ≢ 0 → IsChain R a over b → used b ≢ 0
chain_used used R step a [] b some chain = step a b some chain
chain_used used R step a (m ∷ over) b some chain = chain_used used R step m over b (step a m some chain.0) chain.1
