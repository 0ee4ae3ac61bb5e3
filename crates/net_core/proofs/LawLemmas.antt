-- Laws of levels, orders, loops and finished nets.
use Rattle.std.proofs.Common.{◌≡◌, ◌≢◌, ◌⊎◌, ◌∙◌, ap, sym, refl, inl, inr, subst, ℕ, zero, suc, ◌<◌, ◌+◌, max, List, [], ◌∷◌, length, Option, None, Some, Err, arith, ◌-◌}
use Rattle.std.specs.Prelude.{slice_get, IsSome}
use Rattle.std.proofs.lemmas.Option.{slice_get_within}
use Rattle.lists.specs.Lists.{Has}
use Rattle.lists.specs.laws.NumberLaws.{nat_eq_or, even}
use Rattle.lists.specs.laws.ReadLaws.{get_below, same_lists}
use Rattle.net_core.specs.GateValue.{GateValue}
use Rattle.net_core.specs.NetList.{NetList, nets, text_of}
use Rattle.net_core.specs.Inside.{IsInside}
use Rattle.net_core.specs.Sound.{IsSound, HasOneDriverEach}
use Rattle.net_core.specs.Level.{Levels, level_at, level_from, level_over, AreLevels}
use Rattle.net_core.specs.Loop.{HasLevel, of_source, of_gate}
use Rattle.net_core.specs.Order.{rank_at, IsBefore, IsOrder, IsLevelOrder}
use Rattle.net_core.specs.Finish.{Finishes, IsLabelOfFirst}
use Rattle.net_core.specs.declared.fault.NetFault.{NetFault}
use Rattle.net_core.specs.declared.fault.NetFault.TheVariants.{TooManyNets, TooManyGates, DrivenTwice, Undriven, Loop, OutOfMemory}
use Rattle.net_core.proofs.DriverLemmas.{DriveNets, driver_of, drives_inside}
use Rattle.net_core.proofs.LevelLemmas.{level_within, level_from_above}
use Rattle.net_core.proofs.EvalLemmas.{over_agree, not_self}
use Rattle.net_core.proofs.LoopLemmas.{loop_is_cycle, loops_same}
use Rattle.net_core.proofs.OrderLemmas.{before_all}

-- a level in one list of levels is the level in another
some_agrees : (net : NetList) (a b : Levels) → HasOneDriverEach net → AreLevels net a → AreLevels net b → (fuel n l : ℕ) → l < fuel → level_at a n ≡ Some l → level_at b n ≡ Some l
some_agrees net a b one are are' zero n l less is = absurd (omega arith)
some_agrees net a b one are are' (suc fuel) n l less is =
    let below : n < nets net = omega (arith, level_within a n l is, are.long) in
    elim (driver_of net n one below) [
      | inl source ↦ are'.sources n source ∙ (sym (are.sources n source) ∙ is)
      | inr found ↦
          let g : GateValue = found.0 in
          let over : level_over a g.inputs ≡ Some l = sym (are.gates g found.1) ∙ (ap (level_at a) found.2 ∙ is) in
          let above = (level_from_above a l 1 g.inputs over).1 in
          let same : level_over b g.inputs ≡ level_over a g.inputs = over_agree a b 1 g.inputs (λ k m got. let low = above k m got in some_agrees net a b one are are' fuel m low.0 (omega (arith, low.2)) low.1 ∙ sym low.1) in
          sym (ap (level_at b) found.2) ∙ (are'.gates g found.1 ∙ (same ∙ over))
    ]

level_agrees : (net : NetList) (a b : Levels) → HasOneDriverEach net → AreLevels net a → AreLevels net b → (n : ℕ) → level_at a n ≡ level_at b n
level_agrees net a b one are are' n =
    elim (level_at a n) as (λ o. level_at a n ≡ o → o ≡ level_at b n) [
      | Some l ↦ λ e. sym (some_agrees net a b one are are' (suc l) n l (omega arith) e)
      | None ↦ λ e. elim (level_at b n) as (λ o. level_at b n ≡ o → None ≡ o) [
        | None ↦ λ e'. refl
        | Some l ↦ λ e'. let there = some_agrees net b a one are' are (suc l) n l (omega arith) e' in absurd (cc)
      ] refl
    ] refl

same_levels : (a b : Levels) → length a ≡ length b → ((n : ℕ) → level_at a n ≡ level_at b n) → a ≡ b
same_levels [] [] long same = refl
same_levels [] (y ∷ ys) long same = absurd (omega arith)
same_levels (x ∷ xs) [] long same = absurd (omega arith)
same_levels (x ∷ xs) (y ∷ ys) long same =
    let head : x ≡ y = same 0 in
    let tail : xs ≡ ys = same_levels xs ys (omega arith) (λ n. same (suc n)) in
    rw (head, tail) refl

-- there is one list of levels at most, also where gates drive each other in a cycle
pub levels_only : (net : NetList) (a b : Levels) → HasOneDriverEach net → AreLevels net a → AreLevels net b → a ≡ b
levels_only net a b one are are' = same_levels a b (are.long ∙ sym are'.long) (level_agrees net a b one are are')

some_over : (levels : Levels) (m : ℕ) (ns : List ℕ) → ((k n : ℕ) → slice_get ns k ≡ Some n → (l : ℕ) × (level_at levels n ≡ Some l)) → (v : ℕ) × (level_from levels m ns ≡ Some v)
some_over levels m [] known = (m, refl)
some_over levels m (n ∷ ns) known =
    let first = known 0 n refl in
    let rest = some_over levels (max m (first.0 + 1)) ns (λ k x got. known (suc k) x got) in
    (rest.0, rw first.1 rest.1)

-- a net that has a level has it in each list of levels
pub has_some : (net : NetList) (levels : Levels) → AreLevels net levels → (n : ℕ) → HasLevel net n → (l : ℕ) × (level_at levels n ≡ Some l)
has_some net levels are _ (of_source n source) = (0, are.sources n source)
has_some net levels are _ (of_gate g has f) =
    let over = some_over levels 1 g.inputs (λ k n got. has_some net levels are n (f n (k, got))) in
    (over.0, are.gates g has ∙ over.1)

some_has_below : (net : NetList) (levels : Levels) → HasOneDriverEach net → AreLevels net levels → (fuel n l : ℕ) → l < fuel → level_at levels n ≡ Some l → HasLevel net n
some_has_below net levels one are zero n l less is = absurd (omega arith)
some_has_below net levels one are (suc fuel) n l less is =
    let below : n < nets net = omega (arith, level_within levels n l is, are.long) in
    elim (driver_of net n one below) [
      | inl source ↦ of_source n source
      | inr found ↦
          let over : level_over levels found.0.inputs ≡ Some l = sym (are.gates found.0 found.1) ∙ (ap (level_at levels) found.2 ∙ is) in
          let above = (level_from_above levels l 1 found.0.inputs over).1 in
          subst (λ (m : ℕ). HasLevel net m) found.2 (of_gate found.0 found.1 (λ m input. let low = above input.0 m input.1 in some_has_below net levels one are fuel m low.0 (omega (arith, low.2)) low.1))
    ]

pub some_has : (net : NetList) (levels : Levels) (n l : ℕ) → HasOneDriverEach net → AreLevels net levels → level_at levels n ≡ Some l → HasLevel net n
some_has net levels n l one are is = some_has_below net levels one are (suc l) n l (omega arith) is

-- finish refuses no sound net
pub sound_no_fault : (net : NetList) (fault : NetFault) → IsSound net → Finishes net (Err fault) → fault ≡ OutOfMemory
sound_no_fault net TooManyNets sound is = absurd is
sound_no_fault net TooManyGates sound is = absurd is
sound_no_fault net (DrivenTwice n label) sound is = absurd (omega (arith, sound.one n is.0, is.1))
sound_no_fault net (Undriven n label) sound is = absurd (omega (arith, sound.one n is.0, is.2))
sound_no_fault net (Loop loop label) sound is = absurd (sound.no_cycle (loop, loop_is_cycle net loop is.1))
sound_no_fault net OutOfMemory sound is = refl

pub same_twice : (net : NetList) (n m : ℕ) (x y : List ℕ) → n ≡ m → x ≡ text_of net n → y ≡ text_of net m → DrivenTwice n x ≡ DrivenTwice m y
same_twice net n m x y same is is' = rw (is, is', same) refl

pub same_undriven : (net : NetList) (n m : ℕ) (x y : List ℕ) → n ≡ m → x ≡ text_of net n → y ≡ text_of net m → Undriven n x ≡ Undriven m y
same_undriven net n m x y same is is' = rw (is, is', same) refl

pub same_loop : (net : NetList) (v w x y : List ℕ) → v ≡ w → IsLabelOfFirst net x v → IsLabelOfFirst net y w → Loop v x ≡ Loop w y
same_loop net v w x y same (n, at, is) (m, at', is') =
    let at'' : slice_get w 0 ≡ Some n = ap (λ ns. slice_get ns 0) (sym same) ∙ at in
    let e : n ≡ m = cc in
    rw (is, is', e, same) refl

-- of the faults but out of memory, one fits at most
pub faults_same : (net : NetList) (x y : NetFault) → DriveNets net → Finishes net (Err x) → Finishes net (Err y) → (x ≡ OutOfMemory) ⊎ ((y ≡ OutOfMemory) ⊎ (x ≡ y))
faults_same net TooManyNets y drive first second = absurd first
faults_same net TooManyGates y drive first second = absurd first
faults_same net OutOfMemory y drive first second = inl refl
faults_same net (DrivenTwice n a) TooManyNets drive first second = absurd second
faults_same net (DrivenTwice n a) TooManyGates drive first second = absurd second
faults_same net (DrivenTwice n a) (DrivenTwice m b) drive first second =
    inr (inr (same_twice net n m a b (even n m (λ less. omega (arith, second.2 n less, first.1)) (λ less. omega (arith, first.2 m less, second.1))) first.3 second.3))
faults_same net (DrivenTwice n a) (Undriven m b) drive first second = absurd (omega (arith, second.1 n first.0, first.1))
faults_same net (DrivenTwice n a) (Loop w b) drive first second = absurd (omega (arith, second.0 n first.0, first.1))
faults_same net (DrivenTwice n a) OutOfMemory drive first second = inr (inl refl)
faults_same net (Undriven n a) TooManyNets drive first second = absurd second
faults_same net (Undriven n a) TooManyGates drive first second = absurd second
faults_same net (Undriven n a) (DrivenTwice m b) drive first second = absurd (omega (arith, first.1 m second.0, second.1))
faults_same net (Undriven n a) (Undriven m b) drive first second =
    inr (inr (same_undriven net n m a b (even n m (λ less. omega (arith, second.3 n less, first.2)) (λ less. omega (arith, first.3 m less, second.2))) first.4 second.4))
faults_same net (Undriven n a) (Loop w b) drive first second = absurd (omega (arith, second.0 n first.0, first.2))
faults_same net (Undriven n a) OutOfMemory drive first second = inr (inl refl)
faults_same net (Loop v a) TooManyNets drive first second = absurd second
faults_same net (Loop v a) TooManyGates drive first second = absurd second
faults_same net (Loop v a) (DrivenTwice m b) drive first second = absurd (omega (arith, first.0 m second.0, second.1))
faults_same net (Loop v a) (Undriven m b) drive first second = absurd (omega (arith, first.0 m second.0, second.2))
faults_same net (Loop v a) (Loop w b) drive first second =
    inr (inr (same_loop net v w a b (loops_same net v w drive first.0 first.1 second.1) first.2 second.2))
faults_same net (Loop v a) OutOfMemory drive first second = inr (inl refl)

pub one_fault : (net : NetList) (x y : NetFault) → IsInside net → Finishes net (Err x) → Finishes net (Err y) → (x ≡ OutOfMemory) ⊎ ((y ≡ OutOfMemory) ⊎ (x ≡ y))
one_fault net x y inside first second = faults_same net x y (drives_inside net inside) first second

not_before : (a b q p : ℕ) → IsBefore a q b p → IsBefore b p a q → ⊥
not_before a b q p first second = grind arith

-- what stands after the k-th place in one order does not stand before it
no_earlier : (net : NetList) (levels : Levels) (order : List ℕ) → IsOrder net levels order → (j k q p : ℕ) (h g : GateValue) → j < k → slice_get order j ≡ Some q → slice_get order k ≡ Some p → slice_get net.gates q ≡ Some h → slice_get net.gates p ≡ Some g → IsBefore (rank_at levels h.out) q (rank_at levels g.out) p
no_earlier net levels order is j k q p h g less first second at_h at_g =
    let place : j + suc (k - j - 1) ≡ k = omega arith in
    before_all net levels order is (k - j - 1) j q p h g first (ap (slice_get order) place ∙ second) at_h at_g

above : (k i : ℕ) → i ≢ k → (i < k → ⊥) → k < i
above k i other not = omega (arith, other, not)

order_agrees : (net : NetList) (levels : Levels) (v w : List ℕ) → IsOrder net levels v → IsOrder net levels w → (bound k p q : ℕ) → k < bound → slice_get v k ≡ Some p → slice_get w k ≡ Some q → p ≡ q
order_agrees net levels v w one two zero k p q less first second = absurd (omega arith)
order_agrees net levels v w one two (suc bound) k p q less first second =
    let g = one.within p (k, first) in
    let h = two.within q (k, second) in
    let there = one.each q h.0 h.1 in
    let there' = two.each p g.0 g.1 in
    elim (nat_eq_or p q) [
      | inl same ↦ same
      | inr other ↦ absurd (clash g h there there' (λ j x y below a b. order_agrees net levels v w one two bound j x y (omega arith) a b) other)
    ]
  where
    -- q stands in v at k or later, and p in w at k or later, so each is before the other
    later : (a b : List ℕ) → IsOrder net levels b → ((j x y : ℕ) → j < k → slice_get a j ≡ Some x → slice_get b j ≡ Some y → x ≡ y) → length a ≡ length b → (x : ℕ) (f : GateValue) → slice_get net.gates x ≡ Some f → slice_get b k ≡ Some x → (i : ℕ) → slice_get a i ≡ Some x → i < k → ⊥
    later a b is same long x f at_f here i got below =
        let other = get_below b i (omega (arith, slice_get_within a i x got)) in
        let e : x ≡ other.0 = same i x other.0 below got other.1 in
        let early : slice_get b i ≡ Some x = other.1 ∙ ap Some (sym e) in
        not_self (rank_at levels f.out) (rank_at levels f.out) x x refl refl (no_earlier net levels b is i k x x f f below early here at_f at_f)

    clash : (g : (f : GateValue) × (slice_get net.gates p ≡ Some f)) (h : (f : GateValue) × (slice_get net.gates q ≡ Some f)) → Has v q → Has w p → ((j x y : ℕ) → j < k → slice_get v j ≡ Some x → slice_get w j ≡ Some y → x ≡ y) → p ≢ q → ⊥
    clash g h (i, got) (j, got') same other =
        let long : length v ≡ length w = one.long ∙ sym two.long in
        let not_low : i < k → ⊥ = later v w two same long q h.0 h.1 second i got in
        let not_low' : j < k → ⊥ = later w v one (λ j x y below a b. sym (same j y x below b a)) (sym long) p g.0 g.1 first j got' in
        let apart : i ≢ k = λ e. let here : slice_get v k ≡ Some q = ap (slice_get v) (sym e) ∙ got in let eq : p ≡ q = cc in other eq in
        let apart' : j ≢ k = λ e. let here : slice_get w k ≡ Some p = ap (slice_get w) (sym e) ∙ got' in let eq : p ≡ q = cc in other eq in
        not_before (rank_at levels g.0.out) (rank_at levels h.0.out) p q
        (no_earlier net levels v one k i p q g.0 h.0 (above k i apart not_low) first got g.1 h.1)
        (no_earlier net levels w two k j q p h.0 g.0 (above k j apart' not_low') second got' h.1 g.1)

-- a net has one order at most
pub order_only : (net : NetList) (v w : List ℕ) → HasOneDriverEach net → IsLevelOrder net v → IsLevelOrder net w → v ≡ w
order_only net v w one (a, are, first) (b, are', second) =
    let P : Levels → Type 0 = λ levels. IsOrder net levels w in
    let second' : IsOrder net a w = subst P (sym (levels_only net a b one are are')) second in
    same_lists v w (first.long ∙ sym second.long) (λ k p q at at'. order_agrees net a v w first second' (suc k) k p q (omega arith) at at')

some_is : (o : Option ℕ) (l : ℕ) → o ≡ Some l → IsSome o
some_is o l is = rw is refl

is_some_of : (o : Option ℕ) → IsSome o → (l : ℕ) × (o ≡ Some l)
is_some_of None some = absurd (cc)
is_some_of (Some l) some = (l, refl)

pub known_where : (net : NetList) (levels : Levels) (n : ℕ) → HasOneDriverEach net → AreLevels net levels → HasLevel net n → IsSome (level_at levels n)
known_where net levels n one are has = let some = has_some net levels are n has in some_is (level_at levels n) some.0 some.1

pub only_known : (net : NetList) (levels : Levels) (n : ℕ) → HasOneDriverEach net → AreLevels net levels → IsSome (level_at levels n) → HasLevel net n
only_known net levels n one are some = let l = is_some_of (level_at levels n) some in some_has net levels n l.0 one are l.1
