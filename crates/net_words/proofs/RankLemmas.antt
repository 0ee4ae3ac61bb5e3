-- The order of variables has each net once.
use Rattle.std.proofs.Common.{◌≡◌, ◌∙◌, ap, sym, refl, ⊎_elim, subst, ℕ, zero, suc, ◌<◌, ◌≤◌, ◌+◌, ◌==◌, not, List, [], ◌∷◌, ◌++◌, length, filter, Bool, true, false, cond, Some, arith}
use Rattle.std.specs.Prelude.{◌↔◌, slice_get, slice_index}
use Rattle.std.specs.List.{range_with_len}
use Rattle.std.proofs.lemmas.Bool.{true≢false}
use Rattle.std.proofs.lemmas.Bool.Decides.{eqb_tells}
use Rattle.std.proofs.lemmas.Option.{slice_get-get_or}
use Rattle.lists.specs.Lists.{Has, times}
use Rattle.lists.specs.laws.HasLaws.{Has_cases, times_append, times_get, times_two, All_has, range_has}
use Rattle.lists.specs.laws.TestLaws.{one_here, none_here}
use Rattle.net_core.specs.Inside.{IsInside}
use Rattle.net_core.specs.Sound.{IsSound}
use Rattle.net_core.specs.NetList.{NetList, nets}
use Rattle.net_words.specs.Binding.{Binding}
use Rattle.net_words.specs.OneCycle.{IsOneCycle}
use Rattle.net_words.specs.Roles.{stands_in}
use Rattle.net_words.specs.Variables.{bits, others, variables, IsRanked}
use Rattle.net_words.proofs.MemberLemmas.{stands_has, stands_none}

range_before : (n a c : ℕ) → n < a → times n (range_with_len a c) ≡ 0
range_before n a zero less = refl
range_before n a (suc c) less = omega (arith, none_here n a (λ e. omega (arith, e, less)), range_before n (a + 1) c (omega arith))

range_once : (n a c : ℕ) → a ≤ n → n < a + c → times n (range_with_len a c) ≡ 1
range_once n a zero from below = absurd (omega arith)
range_once n a (suc c) from below =
    ⊎_elim (λ w. let same : a ≡ n = w.1 in omega (arith, one_here n a same, range_before n (a + 1) c (omega arith))) (λ w. omega (arith, none_here n a w.1, range_once n (a + 1) c (after w.1) (omega arith))) (eqb_tells a n)
  where
    after : (a ≡ n → ⊥) → a + 1 ≤ n
    after other = omega (arith, other, from)

-- what stands behind a first element, which may be left out, stands behind it where it is not
has_kept : (x : ℕ) (xs kept : List ℕ) (n : ℕ) (b : Bool) → (Has kept n → Has xs n) → Has (cond b (x ∷ kept) kept) n → Has (x ∷ xs) n
has_kept x xs kept n true more (zero, got) = (0, got)
has_kept x xs kept n true more (suc k, got) = let rest : Has xs n = more (k, got) in (suc rest.0, rest.1)
has_kept x xs kept n false more (k, got) = let rest : Has xs n = more (k, got) in (suc rest.0, rest.1)

has_filter : (p : ℕ → Bool) (xs : List ℕ) (n : ℕ) → Has (filter p xs) n → Has xs n
has_filter p [] n has = has
has_filter p (x ∷ xs) n has =
    has_kept x xs (filter p xs) n (p x) (has_filter p xs n) has

filter_once : (p : ℕ → Bool) (xs : List ℕ) (n : ℕ) → p n ≡ true → times n (filter p xs) ≡ times n xs
filter_once p [] n hit = refl
filter_once p (x ∷ xs) n hit =
    elim (p x) as (λ b. p x ≡ b → times n (cond b (x ∷ filter p xs) (filter p xs)) ≡ cond (x == n) 1 0 + times n xs) [
      | true ↦ λ e. omega (arith, filter_once p xs n hit)
      | false ↦ λ e. omega (arith, filter_once p xs n hit, none_here n x (λ same. true≢false (sym hit ∙ ap p (sym same) ∙ e)))
    ] refl

filter_none : (p : ℕ → Bool) (xs : List ℕ) (n : ℕ) → p n ≡ false → times n (filter p xs) ≡ 0
filter_none p [] n miss = refl
filter_none p (x ∷ xs) n miss =
    elim (p x) as (λ b. p x ≡ b → times n (cond b (x ∷ filter p xs) (filter p xs)) ≡ 0) [
      | true ↦ λ e. omega (arith, filter_none p xs n miss, none_here n x (λ same. true≢false (sym e ∙ ap p same ∙ miss)))
      | false ↦ λ e. filter_none p xs n miss
    ] refl

-- how many places hold a number below c
abbrev below : ℕ → List ℕ → ℕ
below zero xs = 0
below (suc c) xs = times c xs + below c xs

below_past : (c x : ℕ) (xs : List ℕ) → c ≤ x → below c (x ∷ xs) ≡ below c xs
below_past zero x xs past = refl
below_past (suc c) x xs past = omega (arith, none_here c x (λ e. omega (arith, e, past)), below_past c x xs (omega arith))

below_here : (c x : ℕ) (xs : List ℕ) → x < c → below c (x ∷ xs) ≡ 1 + below c xs
below_here zero x xs less = absurd (omega arith)
below_here (suc c) x xs less =
    ⊎_elim (λ w. let same : x ≡ c = w.1 in omega (arith, one_here c x same, below_past c x xs (omega arith))) (λ w. omega (arith, none_here c x w.1, below_here c x xs (before w.1))) (eqb_tells x c)
  where
    before : (x ≡ c → ⊥) → x < c
    before other = omega (arith, other, less)

below_none : (c : ℕ) → below c [] ≡ 0
below_none zero = refl
below_none (suc c) = omega (arith, below_none c)

below_all : (c : ℕ) (xs : List ℕ) → ((n : ℕ) → Has xs n → n < c) → below c xs ≡ length xs
below_all c [] each = below_none c
below_all c (x ∷ xs) each = omega (arith, below_here c x xs (each x (0, refl)), below_all c xs (λ n has. each n (suc has.0, has.1)))

below_each : (c : ℕ) (xs : List ℕ) → ((n : ℕ) → n < c → times n xs ≡ 1) → below c xs ≡ c
below_each zero xs once = refl
below_each (suc c) xs once = omega (arith, once c (omega arith), below_each c xs (λ n less. once n (omega arith)))

bits_below : (net : NetList) (binding : Binding) (n : ℕ) → IsInside net → IsOneCycle net binding → Has (bits binding.words) n → n < nets net
bits_below net binding n inside bound has = All_has (λ m. m < nets net) net.inputs n inside.inputs (bound.inputs n has)

-- only nets are variables
pub variables_within : (net : NetList) (binding : Binding) (n : ℕ) → IsInside net → IsOneCycle net binding → Has (variables (nets net) binding.words) n → n < nets net
variables_within net binding n inside bound has =
    ⊎_elim (λ bit. bits_below net binding n inside bound bit) (λ other. omega (arith, (range_has 0 (nets net) n (has_filter (λ m. not (stands_in (bits binding.words) m)) (range_with_len 0 (nets net)) n other)).1)) (Has_cases (bits binding.words) (others (nets net) (bits binding.words)) n has)

-- each net is a variable once
pub variables_once : (net : NetList) (binding : Binding) (n : ℕ) → IsOneCycle net binding → n < nets net → times n (variables (nets net) binding.words) ≡ 1
variables_once net binding n bound less =
    let list : List ℕ = bits binding.words in
    let free : ℕ → Bool = λ m. not (stands_in list m) in
    let range : List ℕ = range_with_len 0 (nets net) in
    elim (stands_in list n) as (λ b. stands_in list n ≡ b → times n (list ++ filter free range) ≡ 1) [
      | true ↦ λ e. (let has : Has list n = stands_has list n e in omega (arith, times_append n list (filter free range), filter_none free range n (ap not e), times_get n list has.0 has.1, bound.once n))
      | false ↦ λ e. omega (arith, times_append n list (filter free range), filter_once free range n (ap not e), range_once n 0 (nets net) (omega arith) (omega (arith, less)), stands_none list n e)
    ] refl

-- there are as many variables as nets
pub variables_long : (net : NetList) (binding : Binding) → IsInside net → IsOneCycle net binding → length (variables (nets net) binding.words) ≡ nets net
variables_long net binding inside bound =
    let list : List ℕ = variables (nets net) binding.words in
    sym (below_all (nets net) list (λ n has. variables_within net binding n inside bound has)) ∙ below_each (nets net) list (λ n less. variables_once net binding n bound less)

ranked_has : (list : List ℕ) (rank n : ℕ) → IsRanked list rank n → slice_get list rank ≡ Some n
ranked_has list rank n ranked = slice_get-get_or list rank 0 ranked.0 ∙ ap Some ranked.1

-- a net has one rank
pub one_rank : (net : NetList) (binding : Binding) (p q n : ℕ) → IsInside net → IsOneCycle net binding → IsRanked (variables (nets net) binding.words) p n → IsRanked (variables (nets net) binding.words) q n → p ≡ q
one_rank net binding p q n inside bound first second =
    let list : List ℕ = variables (nets net) binding.words in
    let at_p : slice_get list p ≡ Some n = ranked_has list p n first in
    let at_q : slice_get list q ≡ Some n = ranked_has list q n second in
    let less : n < nets net = variables_within net binding n inside bound (p, at_p) in
    let once : times n list ≡ 1 = variables_once net binding n bound less in
    apart (λ l. let two : 2 ≤ times n list = times_two n list p q at_p at_q l in omega arith) (λ l. let two : 2 ≤ times n list = times_two n list q p at_q at_p l in omega arith)
  where
    apart : (p < q → ⊥) → (q < p → ⊥) → p ≡ q
    apart f g = omega (arith, f, g)

-- two variables have the same rank exactly where they are the same net
pub one_to_one : (net : NetList) (binding : Binding) (p q n m : ℕ) → IsInside net → IsOneCycle net binding → IsRanked (variables (nets net) binding.words) p n → IsRanked (variables (nets net) binding.words) q m → (p ≡ q) ↔ (n ≡ m)
one_to_one net binding p q n m inside bound first second =
    let P : ℕ → Type 0 = IsRanked (variables (nets net) binding.words) q in
    ((λ same. sym first.1 ∙ (ap (slice_index (variables (nets net) binding.words)) same ∙ second.1)), λ same. one_rank net binding p q n inside bound first (subst P (sym same) second))

-- the net of a rank exists
pub ranked_within : (net : NetList) (binding : Binding) (rank n : ℕ) → IsInside net → IsOneCycle net binding → IsRanked (variables (nets net) binding.words) rank n → (rank < nets net) × (n < nets net)
ranked_within net binding rank n inside bound ranked =
    let list : List ℕ = variables (nets net) binding.words in
    (omega (arith, ranked.0, variables_long net binding inside bound), variables_within net binding n inside bound (rank, ranked_has list rank n ranked))

pub rank_within : (net : NetList) (binding : Binding) (rank n : ℕ) → IsSound net → IsOneCycle net binding → (n < binding.nets → IsRanked (variables binding.nets binding.words) rank n) → n < nets net → rank < nets net
rank_within net binding rank n sound bound ranked less =
    let P : ℕ → Type 0 = λ count. n < count → IsRanked (variables count binding.words) rank n in
    (ranked_within net binding rank n sound.inside bound (subst P bound.count ranked less)).0

pub net_within : (net : NetList) (binding : Binding) (rank n : ℕ) → IsSound net → IsOneCycle net binding → (rank < length (variables binding.nets binding.words) → IsRanked (variables binding.nets binding.words) rank n) → rank < nets net → n < nets net
net_within net binding rank n sound bound ranked less =
    let P : ℕ → Type 0 = λ count. rank < length (variables count binding.words) → IsRanked (variables count binding.words) rank n in
    (ranked_within net binding rank n sound.inside bound (subst P bound.count ranked (omega (arith, less, variables_long net binding sound.inside bound)))).1
