-- What a walk has met, by the numbers that the nets had when they were written.
use Rattle.std.proofs.Common.{◌≡◌, ◌⊎◌, ◌∙◌, inl, inr, ap, sym, refl, subst, ℕ, zero, suc, ◌+◌, ◌^◌, ◌<◌, ◌≤◌, ◌==◌, Bool, true, false, cond, List, [], ◌∷◌, ◌++◌, length, map, None, Some, Ok, arith}
use Rattle.std.specs.Prelude.{◌≢◌, nat_le, slice_get}
use Rattle.std.specs.List.{AllZip}
use Rattle.std.specs.Str.{bytes_eq}
use Rattle.std.proofs.lemmas.Bool.Decides.{nat_tests}
use Rattle.std.proofs.lemmas.List.{length-map, length-append, map_push}
use Rattle.std.proofs.lemmas.Slice.Eq.{bytes_eq-Decides}
use Rattle.lists.specs.Lists.{Has, times}
use Rattle.lists.specs.laws.HasLaws.{times_append, times_get}
use Rattle.lists.specs.laws.OptionLaws.{same_some}
use Rattle.lists.specs.laws.ReadLaws.{get_below, get_front, get_here, got_push}
use Rattle.lists.specs.laws.TestLaws.{none_here, one_here}
use Rattle.net_core.specs.GateValue.{GateValue}
use Rattle.net_core.specs.LatchValue.{LatchValue}
use Rattle.net_core.specs.NetList.{NetList, nets, number_of, text_of}
use Rattle.net_core.specs.Sound.{IsSound}
use Rattle.net_flat.specs.Flat.{Flat, number, place_from, walked}
use Rattle.net_flat.specs.Paths.{At, Path}
use Rattle.net_flat.specs.Steps.{Mention, Step}
use Rattle.net_write.specs.Plain.{HasPlainNames}
use Rattle.net_write.proofs.PlainLemmas.{text_at}
use Rattle.net_write.proofs.ZipLemmas.{zip_weaker}

-- the net that was met as number m had number n
abbrev pub IsAt : List ℕ → ℕ → ℕ → Type 0
IsAt order m n = slice_get order m ≡ Some n

pub record GateAt (order : List ℕ) (met old : GateValue) : Type 0 where
  pub out : IsAt order met.out old.out
  pub inputs : AllZip (IsAt order) met.inputs old.inputs
  pub table : met.table ≡ old.table

pub record LatchAt (order : List ℕ) (met old : LatchValue) : Type 0 where
  pub next : IsAt order met.next old.next
  pub out : IsAt order met.out old.out
  pub start : met.start ≡ old.start

-- the numbers met so far stay
abbrev pub Grows : List ℕ → List ℕ → Type 0
Grows order longer = (m n : ℕ) → IsAt order m n → IsAt longer m n

gate_grows : (order longer : List ℕ) → Grows order longer → (g h : GateValue) → GateAt order g h → GateAt longer g h
gate_grows order longer grows g h at = record { out = grows g.out h.out at.out; inputs = zip_weaker (IsAt order) (IsAt longer) grows g.inputs h.inputs at.inputs; table = at.table }

latch_grows : (order longer : List ℕ) → Grows order longer → (l k : LatchValue) → LatchAt order l k → LatchAt longer l k
latch_grows order longer grows l k at = record { next = grows l.next k.next at.next; out = grows l.out k.out at.out; start = at.start }

-- how many numbers below n stand in the list, each as often as it does
count : ℕ → List ℕ → ℕ
count zero xs = 0
count (suc n) xs = count n xs + times n xs

count_bound : (n : ℕ) (xs : List ℕ) → ((m : ℕ) → times m xs ≤ 1) → count n xs ≤ n
unfolding count
count_bound zero xs once = omega arith
count_bound (suc n) xs once = omega (arith, count_bound n xs once, once n)

count_none : (n : ℕ) → count n [] ≡ 0
unfolding count
count_none zero = refl
count_none (suc n) = omega (arith, count_none n)

count_past : (n x : ℕ) (xs : List ℕ) → n ≤ x → count n (x ∷ xs) ≡ count n xs
unfolding count
count_past zero x xs past = refl
count_past (suc n) x xs past = omega (arith, count_past n x xs (omega (arith, past)), none_here n x (λ e. omega (arith, e, past)))

count_first : (n x : ℕ) (xs : List ℕ) → x < n → count n (x ∷ xs) ≡ 1 + count n xs
unfolding count
count_first zero x xs below = absurd (omega (arith, below))
count_first (suc n) x xs below = by (x == n) refl (λ less. count_first n x xs less)
  where
    by : (b : Bool) → (x == n) ≡ b → (x < n → count n (x ∷ xs) ≡ 1 + count n xs) → count n (x ∷ xs) + times n (x ∷ xs) ≡ 1 + (count n xs + times n xs)
    by true e more = let same : x ≡ n = grind (arith, nat_tests) in omega (arith, count_past n x xs (omega (arith, same)), one_here n x same)
    by false e more = let other : x ≢ n = grind (arith, nat_tests) in omega (arith, more (omega (arith, below, other)), none_here n x other)

count_all : (n : ℕ) (xs : List ℕ) → ((m k : ℕ) → IsAt xs m k → k < n) → count n xs ≡ length xs
count_all n [] below = count_none n
count_all n (x ∷ xs) below = count_first n x xs (below 0 x refl) ∙ (let more = count_all n xs (λ m k at. below (suc m) k at) in omega (arith, more))

-- a limit that is not met
pub not_full : (k : ℕ) → k < 2 ^ 20 → nat_le (2 ^ 20) k ≡ false
not_full k less = grind (arith, nat_tests)

-- different numbers below n are at most n
pub few : (n : ℕ) (xs : List ℕ) → ((m k : ℕ) → IsAt xs m k → k < n) → ((m : ℕ) → times m xs ≤ 1) → length xs ≤ n
few n xs below once = omega (arith, count_all n xs below, count_bound n xs once)

module _ (net : NetList) where
  -- the path of a net
  abbrev pub path_of : ℕ → Path
  path_of n = At [] (text_of net n)

  -- a walk met the nets in this order, and placed what these inputs, outputs, gates and latches say
  pub record Met (order : List ℕ) (flat : Flat) (done : NetList) : Type 0 where
    pub paths : flat.paths ≡ map path_of order
    pub inputs : AllZip (IsAt order) flat.inputs done.inputs
    pub outputs : AllZip (IsAt order) flat.outputs done.outputs
    pub gates : AllZip (GateAt order) flat.gates done.gates
    pub latches : AllZip (LatchAt order) flat.latches done.latches
    pub below : (m n : ℕ) → IsAt order m n → n < nets net
    pub once : (n : ℕ) → times n order ≤ 1

module _ (net : NetList) (sound : IsSound net) (plain : HasPlainNames net) where
  -- a net is found by its name
  pub finds : (n : ℕ) → n < nets net → number_of net (text_of net n) ≡ Some n
  finds n below =
      let label = get_below net.labels n below in
      rw (text_at net n label.0 label.1) (sound.inside.names n label.0 label.1 (plain n label.0 label.1).0).1

  pub names_apart : (n m : ℕ) → n < nets net → m < nets net → text_of net n ≡ text_of net m → n ≡ m
  names_apart n m below under same = same_some n m (sym (finds n below) ∙ (ap (number_of net) same ∙ finds m under))

  -- where a net's path stands among those met, if it does
  pub place_is : (k : ℕ) (order : List ℕ) (n : ℕ) → n < nets net → ((m i : ℕ) → IsAt order m i → i < nets net)
      → ((place_from k (map (path_of net) order) (path_of net n) ≡ None) × (times n order ≡ 0)) ⊎ ((i : ℕ) × (place_from k (map (path_of net) order) (path_of net n) ≡ Some (k + i)) × IsAt order i n)
  place_is k [] n low below = inl (refl, refl)
  place_is k (m ∷ ms) n low below = by (bytes_eq (text_of net n) (text_of net m)) refl (place_is (k + 1) ms n low (λ i j at. below (suc i) j at))
    where
      by : (b : Bool) → bytes_eq (text_of net n) (text_of net m) ≡ b → ((place_from (k + 1) (map (path_of net) ms) (path_of net n) ≡ None) × (times n ms ≡ 0)) ⊎ ((i : ℕ) × (place_from (k + 1) (map (path_of net) ms) (path_of net n) ≡ Some (k + 1 + i)) × IsAt ms i n)
          → ((cond b (Some k) (place_from (k + 1) (map (path_of net) ms) (path_of net n)) ≡ None) × (times n (m ∷ ms) ≡ 0)) ⊎ ((i : ℕ) × (cond b (Some k) (place_from (k + 1) (map (path_of net) ms) (path_of net n)) ≡ Some (k + i)) × IsAt (m ∷ ms) i n)
      by true e more =
          let same : n ≡ m = names_apart n m low (below 0 m refl) ((bytes_eq-Decides (text_of net n) (text_of net m)).0 e) in
          let here : k ≡ k + 0 = omega arith in
          inr (0, ap Some here, ap Some (sym same))
      by false e more =
          let other : m ≢ n = λ same. let bad : bytes_eq (text_of net n) (text_of net m) ≡ true = (bytes_eq-Decides (text_of net n) (text_of net m)).1 (ap (text_of net) (sym same)) in cc in
          elim more [
            | inl none ↦ inl (none.0, omega (arith, none.1, none_here n m other))
            | inr some ↦ let next : k + 1 + some.0 ≡ k + suc some.0 = omega arith in inr (suc some.0, some.1 ∙ ap Some next, some.2)
          ]

  -- the number of a net that was met
  pub number_is : (order : List ℕ) (flat : Flat) (done : NetList) (n : ℕ) → n < nets net → Met net order flat done → Has order n → IsAt order (number flat (path_of net n)) n
  number_is order flat done n low met has =
      elim (place_is 0 order n low met.below) [
        | inl none ↦ absurd (omega (arith, none.1, times_get n order has.0 has.1))
        | inr some ↦ let place : number flat (path_of net n) ≡ some.0 = rw (met.paths, some.1) (omega arith) in ap (slice_get order) place ∙ some.2
      ]

  -- from here on a walk meets what makes the whole
  abbrev pub Goal : Flat → List (Step Path) → NetList → Type 0
  Goal flat steps whole = (order : List ℕ) × (last : Flat) × (walked flat steps ≡ Ok last) × Met net order last whole

  -- a new net
  longer_met : (order : List ℕ) (flat : Flat) (done : NetList) (n : ℕ) → n < nets net → Met net order flat done → times n order ≡ 0 → Met net (order ++ n ∷ []) (record flat { paths = flat.paths ++ path_of net n ∷ [] }) done
  longer_met order flat done n low met new =
      let grows : Grows order (order ++ n ∷ []) = λ m i at. get_front order (n ∷ []) m i at in
      record {
        paths = rw met.paths (sym (map_push (path_of net) order n));
        inputs = zip_weaker (IsAt order) (IsAt (order ++ n ∷ [])) grows flat.inputs done.inputs met.inputs;
        outputs = zip_weaker (IsAt order) (IsAt (order ++ n ∷ [])) grows flat.outputs done.outputs met.outputs;
        gates = zip_weaker (GateAt order) (GateAt (order ++ n ∷ [])) (gate_grows order (order ++ n ∷ []) grows) flat.gates done.gates met.gates;
        latches = zip_weaker (LatchAt order) (LatchAt (order ++ n ∷ [])) (latch_grows order (order ++ n ∷ []) grows) flat.latches done.latches met.latches;
        below = λ m i at. elim (got_push order n m i at) [ inl old ↦ met.below m i old.0 | inr last ↦ omega (arith, last.1, low) ];
        once = λ m. once m;
      }
    where
      once : (m : ℕ) → times m (order ++ n ∷ []) ≤ 1
      once m = by (n == m) refl
        where
          by : (b : Bool) → (n == m) ≡ b → times m (order ++ n ∷ []) ≤ 1
          by true e = let same : n ≡ m = grind (arith, nat_tests) in let P : ℕ → Type 0 = λ k. times k order ≡ 0 in omega (arith, times_append m order (n ∷ []), subst P same new, one_here m n same)
          by false e = let other : n ≢ m = grind (arith, nat_tests) in omega (arith, times_append m order (n ∷ []), met.once m, none_here m n other)

  -- a net is mentioned
  pub mention_walk : (n : ℕ) → n < nets net → (order : List ℕ) (flat : Flat) (done : NetList) → Met net order flat done → (steps : List (Step Path)) (whole : NetList)
      → ((longer : List ℕ) (next : Flat) → Grows order longer → Has longer n → Met net longer next done → Goal next steps whole) → Goal flat (Mention (path_of net n) ∷ steps) whole
  mention_walk n low order flat done met steps whole goes =
      elim (place_is 0 order n low met.below) [
        | inl none ↦
            let more : Flat = record flat { paths = flat.paths ++ path_of net n ∷ [] } in
            let after = longer_met order flat done n low met none.1 in
            let place : place_from 0 flat.paths (path_of net n) ≡ None = rw met.paths none.0 in
            let long : length flat.paths ≡ length order = ap length met.paths ∙ length-map order (path_of net) in
            let all = few (nets net) (order ++ n ∷ []) after.below after.once in
            let room : length flat.paths < 2 ^ 20 = omega (arith, long, all, length-append order (n ∷ []), sound.inside.few_nets) in
            let then = goes (order ++ n ∷ []) more (λ m i at. get_front order (n ∷ []) m i at) (length order, get_here order n []) after in
            (then.0, then.1, rw (place, not_full (length flat.paths) room) then.2, then.3)
        | inr some ↦
            let place : place_from 0 flat.paths (path_of net n) ≡ Some (0 + some.0) = rw met.paths some.1 in
            let then = goes order flat (λ m i at. at) (some.0, some.2) met in
            (then.0, then.1, rw place then.2, then.3)
      ]
