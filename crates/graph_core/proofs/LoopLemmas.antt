-- A walk finds one loop, which is a cycle.
use Rattle.std.proofs.Common.{◌≡◌, ◌∙◌, ap, sym, refl, subst, ℕ, zero, suc, ◌<◌, ◌+◌, List, [], ◌∷◌, length, drop, Some, arith}
use Rattle.std.specs.Prelude.{slice_get}
use Rattle.std.proofs.lemmas.Option.{slice_get_within}
use Rattle.lists.specs.laws.NumberLaws.{even}
use Rattle.lists.specs.laws.ReadLaws.{get_below, same_lists}
use Rattle.lists.specs.laws.TakeLaws.{get_drop, length_drop_plus}
use Rattle.graph_core.specs.Walk.{IsChain, IsCycleBy, IsWalkBy, IsLoopBy}

chain_of : (R : ℕ → ℕ → Type 0) (a : ℕ) (rest : List ℕ) (b : ℕ) → ((k x y : ℕ) → slice_get (a ∷ rest) k ≡ Some x → slice_get (a ∷ rest) (suc k) ≡ Some y → R x y) → ((k x : ℕ) → suc k ≡ length (a ∷ rest) → slice_get (a ∷ rest) k ≡ Some x → R x b) → IsChain R a rest b
chain_of R a [] b links last = last 0 a refl refl
chain_of R a (c ∷ cs) b links last = (links 0 a c refl refl, chain_of R c cs b (λ k x y first second. links (suc k) x y first second) (λ k x end got. last (suc k) x (ap suc end) got))

-- the loop of a walk is a cycle
pub loop_cycle : (B : ℕ → Type 0) (L : ℕ → ℕ → Type 0) (loop : List ℕ) → IsLoopBy B L loop → IsCycleBy L loop
loop_cycle B L loop is = cycle_of loop refl
  where
    step : (k x y : ℕ) → slice_get loop k ≡ Some x → slice_get loop (suc k) ≡ Some y → L x y
    step k x y first second =
        let first' : slice_get (drop is.from is.walk) k ≡ Some x = ap (λ xs. slice_get xs k) (sym is.loop_is) ∙ first in
        let second' : slice_get (drop is.from is.walk) (suc k) ≡ Some y = ap (λ xs. slice_get xs (suc k)) (sym is.loop_is) ∙ second in
        let e : is.from + suc k ≡ (is.from + k) + 1 = omega arith in
        is.is_walk.leads (is.from + k) x y (sym (get_drop is.from is.walk k) ∙ first') (ap (slice_get is.walk) (sym e) ∙ sym (get_drop is.from is.walk (suc k)) ∙ second')

    back : (k x a : ℕ) → suc k ≡ length loop → slice_get loop k ≡ Some x → slice_get loop 0 ≡ Some a → L x a
    back k x a end got first =
        let got' : slice_get (drop is.from is.walk) k ≡ Some x = ap (λ xs. slice_get xs k) (sym is.loop_is) ∙ got in
        let first' : slice_get (drop is.from is.walk) 0 ≡ Some a = ap (λ xs. slice_get xs 0) (sym is.loop_is) ∙ first in
        let e : is.from + 0 ≡ is.from = omega arith in
        is.back (is.from + k) x a (omega (arith, length_drop_plus is.from is.walk is.within, ap length is.loop_is)) (sym (get_drop is.from is.walk k) ∙ got') (ap (slice_get is.walk) (sym e) ∙ sym (get_drop is.from is.walk 0) ∙ first')

    cycle_of : (xs : List ℕ) → loop ≡ xs → IsCycleBy L xs
    cycle_of [] same = omega (arith, length_drop_plus is.from is.walk is.within, ap length is.loop_is, ap length same, is.within)
    cycle_of (a ∷ rest) same =
        let S : List ℕ → Type 0 = λ xs. (k x y : ℕ) → slice_get xs k ≡ Some x → slice_get xs (suc k) ≡ Some y → L x y in
        let T : List ℕ → Type 0 = λ xs. (k x a : ℕ) → suc k ≡ length xs → slice_get xs k ≡ Some x → slice_get xs 0 ≡ Some a → L x a in
        let steps : S (a ∷ rest) = subst S same step in
        let backs : T (a ∷ rest) = subst T same back in
        chain_of L a rest a steps (λ k x end got. backs k x a end got refl)

-- a chain by a relation that is contained in another
chain_weaker : (R S : ℕ → ℕ → Type 0) → ((a b : ℕ) → R a b → S a b) → (a : ℕ) (rest : List ℕ) (b : ℕ) → IsChain R a rest b → IsChain S a rest b
chain_weaker R S weaker a [] b chain = weaker a b chain
chain_weaker R S weaker a (c ∷ cs) b chain = (weaker a c chain.0, chain_weaker R S weaker c cs b chain.1)

pub cycle_weaker : (R S : ℕ → ℕ → Type 0) → ((a b : ℕ) → R a b → S a b) → (cycle : List ℕ) → IsCycleBy R cycle → IsCycleBy S cycle
cycle_weaker R S weaker [] cycle = cycle
cycle_weaker R S weaker (a ∷ rest) cycle = chain_weaker R S weaker a rest a cycle

pub loop_weaker : (B C : ℕ → Type 0) (L M : ℕ → ℕ → Type 0) (loop : List ℕ) → ((a : ℕ) → B a → C a) → ((a b : ℕ) → L a b → M a b) → IsLoopBy B L loop → IsLoopBy C M loop
loop_weaker B C L M loop begin lead is =
    record {
      walk = is.walk;
      from = is.from;
      is_walk = record {
        begins = λ a got. begin a (is.is_walk.begins a got);
        leads = λ k a b first second. lead a b (is.is_walk.leads k a b first second);
        apart = is.is_walk.apart;
      };
      within = is.within;
      back = λ k a b end first second. lead a b (is.back k a b end first second);
      loop_is = is.loop_is;
    }

module _ (B : ℕ → Type 0) (L : ℕ → ℕ → Type 0) (one_begin : (a b : ℕ) → B a → B b → a ≡ b) (one_next : (a b c : ℕ) → L a b → L a c → b ≡ c) where
  -- two walks agree as far as both go
  walks_agree : (v w : List ℕ) → IsWalkBy B L v → IsWalkBy B L w → (k a b : ℕ) → slice_get v k ≡ Some a → slice_get w k ≡ Some b → a ≡ b
  walks_agree v w walk other zero a b first second = one_begin a b (walk.begins a first) (other.begins b second)
  walks_agree v w walk other (suc k) a b first second =
      let e : k + 1 ≡ suc k = omega arith in
      let before = get_below v k (omega (arith, slice_get_within v (suc k) a first)) in
      let before' = get_below w k (omega (arith, slice_get_within w (suc k) b second)) in
      let same : before.0 ≡ before'.0 = walks_agree v w walk other k before.0 before'.0 before.1 before'.1 in
      let next : L before.0 a = walk.leads k before.0 a before.1 (ap (slice_get v) e ∙ first) in
      let next' : L before'.0 b = other.leads k before'.0 b before'.1 (ap (slice_get w) e ∙ second) in
      one_next before.0 a b next (rw same next')

  -- a loop's walk is not shorter than another's
  not_shorter : (x y : List ℕ) (one : IsLoopBy B L x) (two : IsLoopBy B L y) → length one.walk < length two.walk → ⊥
  not_shorter x y one two less = by (length one.walk) refl
    where
      by : (n : ℕ) → length one.walk ≡ n → ⊥
      by zero none = omega (arith, one.within)
      by (suc k) long =
          let last = get_below one.walk k (omega arith) in
          let here = get_below one.walk one.from one.within in
          let last' = get_below two.walk k (omega arith) in
          let next' = get_below two.walk (k + 1) (omega arith) in
          let here' = get_below two.walk one.from (omega (arith, one.within)) in
          let same_last : last.0 ≡ last'.0 = walks_agree one.walk two.walk one.is_walk two.is_walk k last.0 last'.0 last.1 last'.1 in
          let same_here : here.0 ≡ here'.0 = walks_agree one.walk two.walk one.is_walk two.is_walk one.from here.0 here'.0 here.1 here'.1 in
          let back : L last.0 here.0 = one.back k last.0 here.0 (omega arith) last.1 here.1 in
          let lead : L last'.0 next'.0 = two.is_walk.leads k last'.0 next'.0 last'.1 next'.1 in
          let met : here.0 ≡ next'.0 = one_next last.0 here.0 next'.0 back (rw same_last lead) in
          let place : one.from ≡ k + 1 = two.is_walk.apart one.from (k + 1) next'.0 (here'.1 ∙ ap Some (sym same_here ∙ met)) next'.1 in
          omega (arith, one.within)

  -- there is one loop
  pub loop_only : (x y : List ℕ) → IsLoopBy B L x → IsLoopBy B L y → x ≡ y
  loop_only x y one two =
      let shorter : length one.walk < length two.walk → ⊥ = not_shorter x y one two in
      let longer : length two.walk < length one.walk → ⊥ = not_shorter y x two one in
      let long : length one.walk ≡ length two.walk = even (length one.walk) (length two.walk) shorter longer in
      let same : one.walk ≡ two.walk = same_lists one.walk two.walk long (λ k a b first second. walks_agree one.walk two.walk one.is_walk two.is_walk k a b first second) in
      one.loop_is ∙ ap (λ n. drop n one.walk) (by (length one.walk) refl long same) ∙ ap (drop two.from) same ∙ sym two.loop_is
    where
      by : (n : ℕ) → length one.walk ≡ n → length one.walk ≡ length two.walk → one.walk ≡ two.walk → one.from ≡ two.from
      by zero none long same = absurd (omega (arith, one.within))
      by (suc k) n long same =
          let last = get_below one.walk k (omega arith) in
          let here = get_below one.walk one.from one.within in
          let here' = get_below two.walk two.from two.within in
          let last' : slice_get two.walk k ≡ Some last.0 = ap (λ w. slice_get w k) (sym same) ∙ last.1 in
          let met : here.0 ≡ here'.0 = one_next last.0 here.0 here'.0 (one.back k last.0 here.0 (omega arith) last.1 here.1) (two.back k last.0 here'.0 (omega arith) last' here'.1) in
          two.is_walk.apart one.from two.from here'.0 (ap (λ w. slice_get w one.from) (sym same) ∙ here.1 ∙ ap Some met) here'.1
