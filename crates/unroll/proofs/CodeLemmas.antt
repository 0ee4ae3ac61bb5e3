-- Steps of loops.
use Rattle.std.proofs.Common.{◌≡◌, ◌∙◌, ap, sym, refl, ℕ, zero, suc, ◌<◌, ◌≤◌, ◌+◌, ◌-◌, ◌*◌, ◌^◌, Bool, false, List, [], ◌∷◌, ◌++◌, length, length-append, map, take, drop, Some, get_or, cond, arith, add-one, mul-le-mul_left}
use Rattle.std.proofs.Math.Nat.{mul-le-mul_right}
use Rattle.std.specs.Prelude.{slice_get, codes, Option}
use Rattle.std.specs.Option.{option_map_or}
use Rattle.std.specs.Fmt.{decimal}
use Rattle.std.specs.List.{filter, range_with_len}
use Rattle.std.proofs.lemmas.List.Filters.{length-filter_more}
use Rattle.std.proofs.lemmas.List.FromFn.{length-map-range_with_len, map-range_with_len_more}
use Rattle.std.proofs.lemmas.Option.{slice_get-get_or}
use Rattle.lists.specs.laws.ListLaws.{range_more, filter_few}
use Rattle.lists.specs.laws.ReadLaws.{get_below}
use Rattle.net_core.specs.NetList.{NetList, LabelValue, nets, text_of}
use Rattle.net_words.specs.declared.bound.BoundWord.{BoundWord}
use Rattle.net_words.specs.declared.word.Role.{Role}
use Rattle.unroll.specs.Nets.{bit_label, fed_labels, labels_to, unnamed}
use Rattle.unroll.specs.Places.{cycle_nets, fed_bits, fed_count, first_bit}
use Rattle.unroll.specs.private.Plan.{with_inputs, with_labels}
use Rattle.unroll.proofs.CountLemmas.{labels_long, fed_long}
use Rattle.unroll.proofs.GrowLemmas.{joins_map, put_more, puts_inputs, puts_labels}

-- the words from w on are word w and the others
pub word_drop : (words : List BoundWord) (w : ℕ) (word : BoundWord) → slice_get words w ≡ Some word → drop w words ≡ word ∷ drop (w + 1) words
word_drop words w word got = rw add-one (by words w got)
  where
    by : (words : List BoundWord) (w : ℕ) → slice_get words w ≡ Some word → drop w words ≡ word ∷ drop (suc w) words
    by [] w got = absurd (cc)
    by (u ∷ us) zero got = let same : u ≡ word = cc in ap (λ v. v ∷ us) same
    by (u ∷ us) (suc w) got = by us w got

-- ---- where bits begin

pub count_step : (k : ℕ) (words : List BoundWord) (w count new bits total : ℕ) (role : Role) → w < length words → ((word : BoundWord) → slice_get words w ≡ Some word → role ≡ word.role) → bits ≡ fed_bits k role → new ≡ count + bits → count + fed_count k (drop w words) ≡ total → new + fed_count k (drop (w + 1) words) ≡ total
count_step k words w count new bits total role less each is made was =
    let got = get_below words w less in
    let here : fed_count k (drop w words) ≡ fed_bits k got.0.role + fed_count k (drop (w + 1) words) = ap (fed_count k) (word_drop words w got.0 got.1) in
    omega (arith, here, was, made, is, ap (fed_bits k) (each got.0 got.1))

pub first_bit_here : (k next : ℕ) (words : List BoundWord) → first_bit k next words 0 ≡ next
first_bit_here k next [] = refl
first_bit_here k next (w ∷ ws) = refl

pub first_bit_step : (k base next new bits : ℕ) (words : List BoundWord) (w : ℕ) (role : Role) → w < length words → ((word : BoundWord) → slice_get words w ≡ Some word → role ≡ word.role) → bits ≡ fed_bits k role → new ≡ next + bits → ((j : ℕ) → first_bit k next (drop w words) j ≡ first_bit k base words (w + j)) → (j : ℕ) → first_bit k new (drop (w + 1) words) j ≡ first_bit k base words (w + 1 + j)
first_bit_step k base next new bits words w role less each is made was j =
    let got = get_below words w less in
    let start : new ≡ next + fed_bits k got.0.role = omega (arith, made, is, ap (fed_bits k) (each got.0 got.1)) in
    let here : first_bit k next (drop w words) (suc j) ≡ first_bit k (next + fed_bits k got.0.role) (drop (w + 1) words) j = ap (λ (ws : List BoundWord). first_bit k next ws (suc j)) (word_drop words w got.0 got.1) in
    let at : w + suc j ≡ w + 1 + j = omega arith in
    ap (λ n. first_bit k n (drop (w + 1) words) j) start ∙ (sym here ∙ (was (suc j) ∙ ap (first_bit k base words) at))

pub firsts_step : (f : ℕ → ℕ) (firsts new : List ℕ) (w next : ℕ) → length firsts ≡ w → new ≡ firsts ++ next ∷ [] → next ≡ f w → ((i : ℕ) → i < w → get_or firsts i 0 ≡ f i) → (i : ℕ) → i < w + 1 → get_or new i 0 ≡ f i
firsts_step f firsts new w next long made is each i less = ap (λ xs. get_or xs i 0) made ∙ by firsts i w f long each is less
  where
    by : (xs : List ℕ) (i w : ℕ) (f : ℕ → ℕ) → length xs ≡ w → ((j : ℕ) → j < w → get_or xs j 0 ≡ f j) → next ≡ f w → i < w + 1 → get_or (xs ++ next ∷ []) i 0 ≡ f i
    by [] zero w f long each is less = let none : w ≡ 0 = omega (arith, long) in is ∙ ap f none
    by [] (suc i) w f long each is less = absurd (omega arith)
    by (x ∷ xs) zero w f long each is less = each 0 (omega (arith, long))
    by (x ∷ xs) (suc i) zero f long each is less = absurd (omega arith)
    by (x ∷ xs) (suc i) (suc w) f long each is less = by xs i w (λ j. f (suc j)) (omega (arith, long)) (λ j below. each (suc j) (omega (arith, below))) is (omega (arith, less))

-- ---- labels

pub label_here : (net : NetList) (n : ℕ) (d : LabelValue) → n < nets net → record { text = text_of net n; named = false } ≡ unnamed (get_or net.labels n d)
label_here net n d less = ap (λ (o : Option LabelValue). record { text = option_map_or (λ (l : LabelValue). l.text) o []; named = false }) (slice_get-get_or net.labels n d less)

-- one more net of a cycle
pub label_step : (net m now new : NetList) (n : ℕ) (text : List ℕ) → n < nets net → text ≡ text_of net n → now ≡ with_labels m (map unnamed (take n net.labels)) → new ≡ with_labels now (record { text = text; named = false } ∷ []) → new ≡ with_labels m (map unnamed (take (n + 1) net.labels))
label_step net m now new n text less is was made =
    let d = (get_below net.labels n less).0 in
    let same : record { text = text; named = false } ≡ unnamed (get_or net.labels n d) = ap (λ (t : List ℕ). record { text = t; named = false }) is ∙ label_here net n d less in
    put_more with_labels (map unnamed) net.labels n d (get_or net.labels n d) m now new puts_labels (joins_map unnamed) less refl was (made ∙ ap (λ (l : LabelValue). with_labels now (l ∷ [])) same)

-- how many nets there are after labels were added
pub nets_more : (m now : NetList) (labels : List LabelValue) → now ≡ with_labels m labels → nets now ≡ nets m + length labels
nets_more m now labels is = ap (λ (n : NetList). nets n) is ∙ length-append m.labels labels

pub cycles_grow : (v t c : ℕ) → t < c → cycle_nets v t + v ≤ cycle_nets v c
cycles_grow v t c less = omega (arith, mul-le-mul_left {m = t + 2} {n = c + 1} v (omega arith))

pub room_in_labels : (m now : NetList) (labels : List LabelValue) (t c : ℕ) → nets m + length (labels_to labels c) ≤ 2 ^ 20 → t < c → now ≡ with_labels m (labels_to labels t) → nets now + length labels ≤ 2 ^ 20
room_in_labels m now labels t c room less is = omega (arith, nets_more m now (labels_to labels t) is, labels_long labels t, labels_long labels c, cycles_grow (length labels) t c less, room)

pub room_for_one : (n : ℕ) (labels : List LabelValue) (c : ℕ) → n + length (labels_to labels c) ≤ 2 ^ 20 → n + length labels ≤ 2 ^ 20
room_for_one n labels c room = omega (arith, room, labels_long labels c)

-- one more bit of a word
pub bit_label_step : (m now new : NetList) (name text : List ℕ) (i : ℕ) → text ≡ name ++ (codes "[" ++ (decimal i ++ codes "]")) → now ≡ with_labels m (map (bit_label name) (range_with_len 0 i)) → new ≡ with_labels now (record { text = text; named = false } ∷ []) → new ≡ with_labels m (map (bit_label name) (range_with_len 0 (i + 1)))
bit_label_step m now new name text i is was made =
    made ∙ (ap (λ (t : List ℕ). with_labels now (record { text = t; named = false } ∷ [])) is
    ∙ (ap (λ (n : NetList). with_labels n (bit_label name i ∷ [])) was
    ∙ (puts_labels m (map (bit_label name) (range_with_len 0 i)) (bit_label name i ∷ [])
    ∙ ap (with_labels m) (sym (map-range_with_len_more (bit_label name) 0 i i (omega arith))))))

pub bit_room : (m now : NetList) (name : List ℕ) (i k : ℕ) → nets m + k ≤ 2 ^ 20 → i < k → now ≡ with_labels m (map (bit_label name) (range_with_len 0 i)) → nets now < 2 ^ 20
bit_room m now name i k room less is = omega (arith, nets_more m now (map (bit_label name) (range_with_len 0 i)) is, length-map-range_with_len (bit_label name) 0 i, room, less)

-- the labels of one more word
pub fed_label_step : (k : ℕ) (words : List BoundWord) (w : ℕ) (m now new : NetList) → w < length words → with_labels now (fed_labels k (drop w words)) ≡ with_labels m (fed_labels k words) → ((word : BoundWord) → slice_get words w ≡ Some word → new ≡ with_labels now (map (bit_label word.name) (range_with_len 0 (fed_bits k word.role)))) → with_labels new (fed_labels k (drop (w + 1) words)) ≡ with_labels m (fed_labels k words)
fed_label_step k words w m now new less was made =
    let got = get_below words w less in
    let own : List LabelValue = map (bit_label got.0.name) (range_with_len 0 (fed_bits k got.0.role)) in
    let rest : List LabelValue = fed_labels k (drop (w + 1) words) in
    ap (λ (n : NetList). with_labels n rest) (made got.0 got.1)
    ∙ (puts_labels now own rest
    ∙ (ap (λ (ws : List BoundWord). with_labels now (fed_labels k ws)) (sym (word_drop words w got.0 got.1)) ∙ was))

pub fed_label_room : (k : ℕ) (words : List BoundWord) (w : ℕ) (m now : NetList) (word : BoundWord) → slice_get words w ≡ Some word → nets m + length (fed_labels k words) ≤ 2 ^ 20 → with_labels now (fed_labels k (drop w words)) ≡ with_labels m (fed_labels k words) → nets now + fed_bits k word.role ≤ 2 ^ 20
fed_label_room k words w m now word got room was =
    let here : fed_count k (drop w words) ≡ fed_bits k word.role + fed_count k (drop (w + 1) words) = ap (fed_count k) (word_drop words w word got) in
    omega (arith, ap (λ (n : NetList). nets n) was, length-append now.labels (fed_labels k (drop w words)), length-append m.labels (fed_labels k words), fed_long k (drop w words), here, room)

-- ---- primary inputs

pub bits_step : (m now new : NetList) (base n : ℕ) → base ≤ n → now ≡ with_inputs m (range_with_len base (n - base)) → new ≡ record now { inputs = now.inputs ++ n ∷ [] } → new ≡ with_inputs m (range_with_len base (n + 1 - base))
bits_step m now new base n high was made =
    let at : base + (n - base) ≡ n = omega (arith, high) in
    let more : n + 1 - base ≡ (n - base) + 1 = omega (arith, high) in
    made ∙ (ap (λ (k : NetList). with_inputs k (n ∷ [])) was
    ∙ (puts_inputs m (range_with_len base (n - base)) (n ∷ [])
    ∙ ap (with_inputs m) (one (n - base) at ∙ ap (range_with_len base) (sym more))))
  where
    one : (d : ℕ) → base + d ≡ n → range_with_len base d ++ n ∷ [] ≡ range_with_len base (d + 1)
    one d at = ap (λ x. range_with_len base d ++ x ∷ []) (sym at) ∙ rw add-one (sym (range_more base d))

-- ---- counts

pub taken_few : {X : Type 0} (p : X → Bool) (xs : List X) (i : ℕ) → length (filter p (take i xs)) ≤ length xs
taken_few {X} p xs i = omega (arith, filter_few p (take i xs), few xs i)
  where
    few : (ys : List X) (j : ℕ) → length (take j ys) ≤ length ys
    few ys zero = omega arith
    few [] (suc j) = omega arith
    few (y ∷ ys) (suc j) = omega (arith, few ys j)

pub taken_short : {X : Type 0} (p : X → Bool) (xs : List X) (i : ℕ) → length (filter p (take i xs)) ≤ i
taken_short {X} p xs i = omega (arith, filter_few p (take i xs), few xs i)
  where
    few : (ys : List X) (j : ℕ) → length (take j ys) ≤ j
    few ys zero = omega arith
    few [] (suc j) = omega arith
    few (y ∷ ys) (suc j) = omega (arith, few ys j)

-- a product with a number of cycles
pub product_small : (a x : ℕ) → a ≤ 4097 → x ≤ 2 ^ 20 → a * x ≤ 4097 * 2 ^ 20
product_small a x few small = omega (arith, mul-le-mul_right {m = a} {n = 4097} x few, small)

-- the count of gates fits
pub gates_fit : (c g u x y h : ℕ) → c ≤ 4096 → x + y + g ≤ 2 ^ 20 → u ≤ y → h ≤ x → (c * (x + y) ≤ 2 ^ 40) × ((c + 1) * g + u + c * (x + y) ≤ 2 ^ 40) × ((c + 1) * g + u + c * (x + y) + h ≤ 2 ^ 40)
gates_fit c g u x y h few all one two =
    let first : c * (x + y) ≤ 4097 * 2 ^ 20 = product_small c (x + y) (omega arith) (omega arith) in
    let second : (c + 1) * g ≤ 4097 * 2 ^ 20 = product_small (c + 1) g (omega arith) (omega arith) in
    (omega (arith, first), omega (arith, first, second, all, one), omega (arith, first, second, all, one, two))

-- one more item that is counted where it passes
pub count_more : {X : Type 0} (p : X → Bool) (xs ys : List X) (i : ℕ) (d : X) (count new : ℕ) (r : Bool) → ys ≡ xs → i < length xs → count ≡ length (filter p (take i xs)) → r ≡ p (get_or ys i d) → new ≡ count + cond r 1 0 → new ≡ length (filter p (take (i + 1) xs))
count_more p xs ys i d count new r same less was is made =
    let here : r ≡ p (get_or xs i d) = is ∙ ap (λ zs. p (get_or zs i d)) same in
    made ∙ (ap (λ n. n + cond r 1 0) was ∙ (ap (λ (b : Bool). length (filter p (take i xs)) + cond b 1 0) here ∙ sym (length-filter_more p xs i d less)))
