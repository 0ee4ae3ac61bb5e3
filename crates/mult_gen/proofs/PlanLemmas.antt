-- Plans over the nets of input words and an output word.
use Rattle.std.proofs.Common.{◌≡◌, ◌∙◌, ap, ap₂, sym, refl, subst, inl, inr, ℕ, zero, suc, ◌<◌, ◌≤◌, ◌+◌, ◌*◌, ◌^◌, Bool, Option, List, [], ◌∷◌, ◌++◌, length, take, drop, append-nil, arith}
use Rattle.std.specs.Prelude.{slice_index, ◌==◌}
use Rattle.std.specs.Int.{bit_at}
use Rattle.std.proofs.lemmas.List.{append_assoc}
use Rattle.std.proofs.Math.Nat.{mul-le-mul_right}
use Rattle.lists.specs.Lists.{Has, times}
use Rattle.lists.specs.laws.HasLaws.{Has_left, Has_right}
use Rattle.lists.specs.laws.NumberLaws.{mul_few}
use Rattle.net_core.specs.Value.{IsConsistent}
use Rattle.net_words.specs.declared.word.Role.TheVariants.{Input, State, Output}
use Rattle.net_words.specs.declared.word.WordText.{WordText}
use Rattle.make_laws.specs.ProductBits.{x_to}
use Rattle.make_nets.specs.Plan.{Plan, each, gathered, where_so, with_chain}
use Rattle.make_nets.specs.PlanShape.{IsWellMade}
use Rattle.make_nets.specs.PlanValue.{Agrees}
use Rattle.make_nets.specs.Makeable.{driven_outside}
use Rattle.make_nets.proofs.LabelLemmas.{append_long}
use Rattle.make_nets.specs.BindingOfMade.{AreHeld}
use Rattle.make_nets.specs.Form.{AllWide, HasWords}
use Rattle.make_nets.specs.Made.{IsPlanFor, made_of}
use Rattle.make_nets.specs.Ports.{inputs_of, outer_names, role_nets, word_names}
use Rattle.make_nets.proofs.FormLemmas.{names_long, nets_long, no_nets, roles_once, words_one_of}
use Rattle.make_nets.proofs.FrontLemmas.{take_drop}
use Rattle.make_nets.proofs.MakeLemmas.{role_low}
use Rattle.make_nets.proofs.ShapeLemmas.{chain_grows}
use Rattle.mult_gen.specs.Chains.{added_row, adder_plan, mastrovito_plan, squarer_plan}
use Rattle.mult_gen.specs.Form.{adder_over, inputs_in, mastrovito_over, outer_of, outputs_in, squarer_over}
use Rattle.mult_gen.proofs.ChainLemmas.{index_has}

pub sources_are : (words : List WordText) → driven_outside (inputs_of words []) [] ≡ inputs_in words
sources_are words = append-nil (inputs_in words ++ []) ∙ append-nil (inputs_in words)

pub outer_are : (words : List WordText) → length (outer_names words []) ≡ outer_of words
outer_are words = ap (λ (v : List (List ℕ)). length v) (append-nil (word_names words))

module _ (count k : ℕ) (words : List WordText) (has : HasWords Input count words) (wide : AllWide k words) where
  pub inputs_long : length (inputs_in words) ≡ count * k
  inputs_long = nets_long Input k 0 words wide ∙ ap (λ n. n * k) has.others

  pub outputs_long : length (outputs_in words) ≡ k
  outputs_long = nets_long Output k 0 words wide ∙ (ap (λ n. n * k) has.output ∙ omega arith)

  -- the nets of the output word are outer ones
  pub output_low : (l : ℕ) → l < k → slice_index (outputs_in words) l < outer_of words
  output_low l less = omega (arith, (role_low Output 0 words (slice_index (outputs_in words) l) (index_has (outputs_in words) l (omega (arith, less, outputs_long)))).1)

  -- a plan whose sources are the inputs and whose targets are the output word
  pub plan_for : (plan : Plan) → IsWellMade (outer_of words) (inputs_in words) (outputs_in words) plan → plan.next + k ≤ 2 ^ 20 → IsPlanFor words [] [] (outputs_in words) plan
  plan_for plan made few =
      let P : ℕ → Type 0 = λ n. IsWellMade n (driven_outside (inputs_of words []) []) (outputs_in words) plan in
      let Q : List ℕ → Type 0 = λ s. IsWellMade (outer_of words) s (outputs_in words) plan in
      record {
        shape = subst P (sym (outer_are words)) (subst Q (sym (sources_are words)) made);
        once = λ n less. ap (λ (s : List ℕ). times n s + times n (outputs_in words)) (sources_are words) ∙ roles_once Input 0 words n (λ e. absurd (cc)) (words_one_of Input count words (λ e. absurd (cc)) has) (omega arith) (omega (arith, less, outer_are words));
        nexts = λ l h. absurd (let got = h.1 in cc);
        latch_outs = λ l h. absurd (let got = h.1 in cc);
        few = omega (arith, few, outputs_long);
      }

  -- nothing is held or fed
  pub held : AreHeld words []
  held =
      let one = words_one_of Input count words (λ e. absurd (cc)) has in
      record {
        fed = λ word h is. absurd (elim (one word h) [ inl w ↦ cc | inr w ↦ cc ]);
        states = λ n h. let none : role_nets State 0 words ≡ [] = no_nets Input State 0 words (λ e. absurd (cc)) (λ e. absurd (cc)) one in let P : List ℕ → Type 0 = λ v. Has v n in absurd (let got = (subst P none h).1 in cc);
        starts = λ l h. absurd (let got = h.1 in cc);
      }

  pub take_long : 1 ≤ count → length (take k (inputs_in words)) ≡ k
  take_long some = take_is (inputs_in words) k (omega (arith, inputs_long, some, times_some count k some))
    where
      take_is : (xs : List ℕ) (n : ℕ) → n ≤ length xs → length (take n xs) ≡ n
      take_is [] zero less = refl
      take_is (x ∷ xs) zero less = refl
      take_is [] (suc n) less = absurd (omega arith)
      take_is (x ∷ xs) (suc n) less = ap suc (take_is xs n (omega (arith, less)))

      times_some : (c n : ℕ) → 1 ≤ c → n ≤ c * n
      times_some c n some = omega (arith, mul-le-mul_right n some)

  -- the first k and the others are inputs
  pub take_has : (i : ℕ) → 1 ≤ count → i < k → Has (inputs_in words) (slice_index (take k (inputs_in words)) i)
  take_has i some less =
      let P : List ℕ → Type 0 = λ v. Has v (slice_index (take k (inputs_in words)) i) in
      subst P (sym (take_drop (inputs_in words) k)) (Has_left (take k (inputs_in words)) (drop k (inputs_in words)) (slice_index (take k (inputs_in words)) i) (index_has (take k (inputs_in words)) i (omega (arith, less, take_long some))))

  pub drop_has : (i : ℕ) → i < length (drop k (inputs_in words)) → Has (inputs_in words) (slice_index (drop k (inputs_in words)) i)
  drop_has i less =
      let P : List ℕ → Type 0 = λ v. Has v (slice_index (drop k (inputs_in words)) i) in
      subst P (sym (take_drop (inputs_in words) k)) (Has_right (take k (inputs_in words)) (drop k (inputs_in words)) (slice_index (drop k (inputs_in words)) i) (index_has (drop k (inputs_in words)) i less))

-- how many outer nets there are
pub outer_few : (k count : ℕ) (words : List WordText) → k ≤ 64 → count ≤ 2 → HasWords Input count words → AllWide k words → outer_of words ≤ 192
outer_few k count words few small has wide = omega (arith, names_long k words wide, has.all, mul_few (length words) k 3 64 (omega (arith, has.all, small)) few)

pub list_few : (k count : ℕ) (words list : List WordText) → list ≡ words → k ≤ 64 → count ≤ 2 → HasWords Input count words → AllWide k words → length (word_names list) ≤ 192
list_few k count words list same few small has wide = let P : List WordText → Type 0 = λ v. length (word_names v) ≤ 192 in subst P (sym same) (outer_few k count words few small has wide)

-- the nets of the second of two words
pub drop_long : (k : ℕ) (words : List WordText) → HasWords Input 2 words → AllWide k words → length (drop k (inputs_in words)) ≡ k
drop_long k words has wide =
    omega (arith, inputs_long 2 k words has wide, take_long 2 k words has wide (omega arith), ap (λ (v : List ℕ). length v) (take_drop (inputs_in words) k), append_long (take k (inputs_in words)) (drop k (inputs_in words)))

-- what agrees with a net agrees with its plan
pub agrees_of : (words : List WordText) (plan : Plan) (bits : List Bool) → IsConsistent (made_of words [] [] plan) bits → Agrees bits plan
agrees_of words plan bits consistent g has = consistent.gates g has

-- the adder over the nets of the words, whose parts are given by equations
pub adder_over_at : (k first n : ℕ) (words : List WordText) (a b z list : List ℕ) → first ≡ outer_of words → n ≡ k → a ≡ take k list → b ≡ drop k list → list ≡ inputs_in words → z ≡ outputs_in words → adder_plan first n a b z ≡ adder_over k words
adder_over_at k first n words a b z list first_is n_is a_is b_is list_is z_is =
    ap₂ (λ o l. adder_plan o l a b z) first_is n_is
    ∙ ap₂ (λ u v. adder_plan (outer_of words) k u v z) (a_is ∙ ap (λ v. take k v) list_is) (b_is ∙ ap (λ v. drop k v) list_is)
    ∙ ap (λ v. adder_plan (outer_of words) k (take k (inputs_in words)) (drop k (inputs_in words)) v) z_is

-- and the multiplier, where n is the degree k of the field
pub mastrovito_over_at : (k g first n : ℕ) (words : List WordText) (a b z list : List ℕ) → first ≡ outer_of words → n ≡ k → a ≡ take n list → b ≡ drop n list → list ≡ inputs_in words → z ≡ outputs_in words → mastrovito_plan first k g a b z ≡ mastrovito_over k g words
mastrovito_over_at k g first n words a b z list first_is n_is a_is b_is list_is z_is =
    ap (λ o. mastrovito_plan o k g a b z) first_is
    ∙ ap₂ (λ u v. mastrovito_plan (outer_of words) k g u v z) (a_is ∙ ap₂ (λ l v. take l v) n_is list_is) (b_is ∙ ap₂ (λ l v. drop l v) n_is list_is)
    ∙ ap (λ v. mastrovito_plan (outer_of words) k g (take k (inputs_in words)) (drop k (inputs_in words)) v) z_is

-- and the squarer
pub squarer_over_at : (k g first : ℕ) (words : List WordText) (a z : List ℕ) → first ≡ outer_of words → a ≡ inputs_in words → z ≡ outputs_in words → squarer_plan first k g a z ≡ squarer_over k g words
squarer_over_at k g first words a z first_is a_is z_is =
    ap (λ o. squarer_plan o k g a z) first_is
    ∙ ap₂ (λ u v. squarer_plan (outer_of words) k g u v) a_is z_is

-- a chain of so few nets leaves room
pub chain_room : (target : Option ℕ) (list : List ℕ) (most : ℕ) (old new : Plan) → length list ≤ most → new ≡ with_chain target list old → new.next ≤ old.next + (most + 1)
chain_room target list most old new few is = omega (arith, few, ap (λ (p : Plan). p.next) is, (chain_grows target list old).1)

-- one step more
pub each_next : (step : ℕ → Plan → Plan) (i : ℕ) (start old new : Plan) → new ≡ step i old → old ≡ each i step start → new ≡ each (i + 1) step start
each_next step i start old new is before =
    let next : suc i ≡ i + 1 = omega arith in
    is ∙ ap (step i) before ∙ ap (λ n. each n step start) next

-- one list more
pub lists_next : (f : ℕ → List ℕ) (i : ℕ) (list new more : List ℕ) → new ≡ list ++ more → more ≡ f i → list ≡ gathered i f → new ≡ gathered (i + 1) f
lists_next f i list new more is here before =
    let next : suc i ≡ i + 1 = omega arith in
    is ∙ ap₂ (λ u v. u ++ v) before here ∙ ap (λ n. gathered n f) next

-- one product more of a row
pub row_next : (k g first i l j : ℕ) (old list new more : List ℕ) → new ≡ list ++ more → more ≡ where_so (bit_at (x_to k g (i + j)) l == 1) (first + j) → list ≡ old ++ added_row k g first i l j → new ≡ old ++ added_row k g first i l (j + 1)
row_next k g first i l j old list new more is here before =
    let next : suc j ≡ j + 1 = omega arith in
    is
    ∙ ap₂ (λ u v. u ++ v) before here
    ∙ append_assoc old (added_row k g first i l j) (where_so (bit_at (x_to k g (i + j)) l == 1) (first + j))
    ∙ ap (λ n. old ++ added_row k g first i l n) next
