-- Lists to which a loop adds piece by piece.
use Rattle.std.proofs.Common.{◌≡◌, ◌∙◌, ap, sym, refl, subst, ℕ, zero, suc, ◌<◌, ◌≤◌, ◌+◌, Bool, List, [], ◌∷◌, ◌++◌, length, map, take, drop, get_or, arith, add-one, append_assoc, length-append}
use Rattle.std.specs.List.{filter}
use Rattle.std.proofs.Math.Seq.{take-suc}
use Rattle.std.proofs.lemmas.List.{map-append}
use Rattle.std.proofs.lemmas.List.Elements.{filter-append}
use Rattle.net_core.specs.GateValue.{GateValue}
use Rattle.net_core.specs.NetList.{NetList, LabelValue}
use Rattle.unroll.specs.private.Plan.{HasRoom, with_gates, with_inputs, with_labels}

-- what joins of lists are taken to is the join of what they are taken to
abbrev pub IsJoining : {X Y : Type 0} → (List X → List Y) → Type 0
IsJoining {X} F = (a b : List X) → F (a ++ b) ≡ F a ++ F b

pub joins_map : {X Y : Type 0} (f : X → Y) → IsJoining (map f)
joins_map f a b = map-append f a b

pub joins_filter : {X : Type 0} (p : X → Bool) → IsJoining (filter p)
joins_filter p a b = filter-append p a b

pub joins_both : {X Y Z : Type 0} (F : List Y → List Z) (G : List X → List Y) → IsJoining F → IsJoining G → IsJoining (λ xs. F (G xs))
joins_both F G f g a b = ap F (g a b) ∙ f (G a) (G b)

-- the front with one more item
pub front_more : {X : Type 0} (xs : List X) (i : ℕ) (d : X) → i < length xs → take (i + 1) xs ≡ take i xs ++ get_or xs i d ∷ []
front_more xs i d less = rw add-one (take-suc xs i d less)

-- a front, an item and what is left
pub parts_of : {X : Type 0} (xs : List X) (i : ℕ) (d : X) → i < length xs → xs ≡ take i xs ++ (get_or xs i d ∷ drop (suc i) xs)
parts_of [] i d less = absurd (omega arith)
parts_of (x ∷ xs) zero d less = refl
parts_of (x ∷ xs) (suc i) d less = ap (λ ys. x ∷ ys) (parts_of xs i d (omega arith))

-- something that grows by lists, and by joins as by one list after the other
abbrev pub IsPutting : {M Y : Type 0} → (M → List Y → M) → Type 0
IsPutting {M} {Y} put = (m : M) (a b : List Y) → put (put m a) b ≡ put m (a ++ b)

pub puts_gates : IsPutting with_gates
puts_gates m a b = ap (λ (list : List GateValue). record m { gates = list }) (append_assoc m.gates a b)

pub puts_labels : IsPutting with_labels
puts_labels m a b = ap (λ (list : List LabelValue). record m { labels = list }) (append_assoc m.labels a b)

pub puts_inputs : IsPutting with_inputs
puts_inputs m a b = ap (λ (list : List ℕ). record m { inputs = list }) (append_assoc m.inputs a b)

-- one turn of a loop that puts the piece of each item
pub put_more : {M X Y : Type 0} (put : M → List Y → M) (F : List X → List Y) (xs : List X) (i : ℕ) (d x : X) (m now new : M) → IsPutting put → IsJoining F → i < length xs → x ≡ get_or xs i d → now ≡ put m (F (take i xs)) → new ≡ put now (F (x ∷ [])) → new ≡ put m (F (take (i + 1) xs))
put_more put F xs i d x m now new puts joins less is was made =
    made ∙ (ap (λ n. put n (F (x ∷ []))) was ∙ (puts m (F (take i xs)) (F (x ∷ [])) ∙ ap (put m) (ap (λ y. F (take i xs) ++ F (y ∷ [])) is ∙ (sym (joins (take i xs) (get_or xs i d ∷ [])) ∙ ap F (sym (front_more xs i d less))))))

-- room for a list that is longer
pub less_room : (count more less : ℕ) (m : NetList) → less ≤ more → HasRoom count more m → HasRoom count less m
less_room count more less m fewer has = record { nets_are = has.nets_are; flat = has.flat; room = omega (arith, has.room, fewer) }

-- room for the next gates after these
pub room_after : (count : ℕ) (m now : NetList) (a b : List GateValue) → HasRoom count (length (a ++ b)) m → now ≡ with_gates m a → HasRoom count (length b) now
room_after count m now a b has is =
    let P : NetList → Type 0 = λ n. HasRoom count (length b) n in
    subst P (sym is) (record { nets_are = has.nets_are; flat = has.flat; room = omega (arith, has.room, length-append a b, length-append m.gates a) })

-- room for the next piece of a loop
pub room_next : {X : Type 0} (count : ℕ) (F : List X → List GateValue) (xs : List X) (i : ℕ) (d x : X) (m now : NetList) → IsJoining F → i < length xs → x ≡ get_or xs i d → HasRoom count (length (F xs)) m → now ≡ with_gates m (F (take i xs)) → HasRoom count (length (F (x ∷ []))) now
room_next {X} count F xs i d x m now joins less is has was =
    let split : F xs ≡ F (take i xs) ++ F (x ∷ drop (suc i) xs) = ap F (parts_of xs i d less) ∙ (joins (take i xs) (get_or xs i d ∷ drop (suc i) xs) ∙ ap (λ (y : X). F (take i xs) ++ F (y ∷ drop (suc i) xs)) (sym is)) in
    let P : List GateValue → Type 0 = λ list. HasRoom count (length list) m in
    let more : HasRoom count (length (F (x ∷ drop (suc i) xs))) now = room_after count m now (F (take i xs)) (F (x ∷ drop (suc i) xs)) (subst P split has) was in
    let join : F (x ∷ drop (suc i) xs) ≡ F (x ∷ []) ++ F (drop (suc i) xs) = joins (x ∷ []) (drop (suc i) xs) in
    less_room count (length (F (x ∷ drop (suc i) xs))) (length (F (x ∷ []))) now (omega (arith, ap length join, length-append (F (x ∷ [])) (F (drop (suc i) xs)))) more
