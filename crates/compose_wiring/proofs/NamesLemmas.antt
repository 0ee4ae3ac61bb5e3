-- Names, and what they are connected to.
use Rattle.std.proofs.Common.{◌≡◌, ◌∙◌, ap, sym, refl, ℕ, zero, suc, ◌+◌, Bool, true, false, ◌&&◌, List, [], ◌∷◌, ◌++◌, map, filter, take, drop, Option, None, Some, if◌then◌else◌, arith, add-one}
use Rattle.std.specs.Prelude.{slice_get}
use Rattle.std.specs.Option.{option_and_then, option_map}
use Rattle.std.specs.Str.{bytes_eq}
use Rattle.std.proofs.lemmas.Slice.Eq.{bytes_eq-Decides}
use Rattle.lists.specs.Lists.{Has}
use Rattle.net_blif.specs.Connection.{actual_of, formal_of}
use Rattle.net_blif.specs.Instances.{or_else}
use Rattle.net_blif.specs.Statement.{Token}
use Rattle.net_blif.specs.Top.{connections_in, is_instance}
use Rattle.net_blif.specs.declared.item.Item.{Item}
use Rattle.net_blif.specs.declared.item.Item.TheVariants.{Inputs, Outputs, Gate, Latch, Instance}
use Rattle.compose_wiring.specs.private.Names.{actual_by, actuals_by, connections_of, place_from, same_names}

-- ---- the same names

pub same_means : (xs ys : List Token) → same_names xs ys ≡ true → xs ≡ ys
same_means [] [] e = refl
same_means [] (y ∷ ys) e = absurd (cc)
same_means (x ∷ xs) [] e = absurd (cc)
same_means (x ∷ xs) (y ∷ ys) e = parts (bytes_eq x y) refl e (same_means xs ys)
  where
    parts : (b : Bool) → bytes_eq x y ≡ b → (b && same_names xs ys) ≡ true → (same_names xs ys ≡ true → xs ≡ ys) → x ∷ xs ≡ y ∷ ys
    parts true is more given = let here : x ≡ y = (bytes_eq-Decides x y).0 is in let rest : xs ≡ ys = given more in λ i. here i ∷ rest i
    parts false is more given = absurd (cc)

pub same_itself : (xs : List Token) → same_names xs xs ≡ true
same_itself [] = refl
same_itself (x ∷ xs) = ap (λ b. b && same_names xs xs) ((bytes_eq-Decides x x).1 refl) ∙ same_itself xs

-- ---- actuals

-- what is found in the first place of a list
found_here : (formal : Token) (connection : Token) (connections : List Token) (b : Bool) → bytes_eq (formal_of connection) formal ≡ b
    → actual_by (connection ∷ connections) formal ≡ (if b then Some (actual_of connection) else actual_by connections formal)
found_here formal connection connections true is = ap (λ b. or_else (if b then Some (actual_of connection) else None) (actual_by connections formal)) is
found_here formal connection connections false is = ap (λ b. or_else (if b then Some (actual_of connection) else None) (actual_by connections formal)) is

place_here : (n : ℕ) (formal : Token) (connection : Token) (connections : List Token) (b : Bool) → bytes_eq (formal_of connection) formal ≡ b
    → place_from n (connection ∷ connections) formal ≡ (if b then Some n else place_from (n + 1) connections formal)
place_here n formal connection connections b is = ap (λ c. if c then Some n else place_from (n + 1) connections formal) is

-- what stands at the place of a formal is what is connected to it
pub record IsPlacedAt (n : ℕ) (connections : List Token) (formal : Token) (p : ℕ) : Type 0 where
  pub j : ℕ
  pub connection : Token
  pub place : p ≡ n + j
  pub at : slice_get connections j ≡ Some connection
  pub actual : actual_by connections formal ≡ Some (actual_of connection)

pub placed_actual : (n : ℕ) (connections : List Token) (formal : Token) (p : ℕ) → place_from n connections formal ≡ Some p → IsPlacedAt n connections formal p
placed_actual n [] formal p e = absurd (cc)
placed_actual n (c ∷ cs) formal p e = parts (bytes_eq (formal_of c) formal) refl (placed_actual (n + 1) cs formal p)
  where
    parts : (b : Bool) → bytes_eq (formal_of c) formal ≡ b → (place_from (n + 1) cs formal ≡ Some p → IsPlacedAt (n + 1) cs formal p) → IsPlacedAt n (c ∷ cs) formal p
    parts true is given = let same : Some n ≡ Some p = sym (place_here n formal c cs true is) ∙ e in let at : n ≡ p = cc in record { j = 0; connection = c; place = omega (arith, at); at = refl; actual = found_here formal c cs true is }
    parts false is given =
        let more : IsPlacedAt (n + 1) cs formal p = given (sym (place_here n formal c cs false is) ∙ e) in
        record { j = suc more.j; connection = more.connection; place = omega (arith, more.place); at = more.at; actual = found_here formal c cs false is ∙ more.actual }

-- where a formal has no place, nothing is connected to it
pub unplaced_actual : (n : ℕ) (connections : List Token) (formal : Token) → place_from n connections formal ≡ None → actual_by connections formal ≡ None
unplaced_actual n [] formal e = refl
unplaced_actual n (c ∷ cs) formal e = parts (bytes_eq (formal_of c) formal) refl (unplaced_actual (n + 1) cs formal)
  where
    parts : (b : Bool) → bytes_eq (formal_of c) formal ≡ b → (place_from (n + 1) cs formal ≡ None → actual_by cs formal ≡ None) → actual_by (c ∷ cs) formal ≡ None
    parts true is given = let same : Some n ≡ None = sym (place_here n formal c cs true is) ∙ e in absurd (cc)
    parts false is given = found_here formal c cs false is ∙ given (sym (place_here n formal c cs false is) ∙ e)

-- what the rest of the formals is connected to, after so many names
abbrev pub after_names : List Token → Option (List Token) → Option (List Token)
after_names names rest = option_map (λ more. names ++ more) rest

-- one formal is not connected
pub actuals_none : (connections formals : List Token) (j : ℕ) (formal : Token) → slice_get formals j ≡ Some formal → actual_by connections formal ≡ None → actuals_by connections (drop j formals) ≡ None
actuals_none connections [] j formal got is = absurd (cc)
actuals_none connections (f ∷ fs) zero formal got is =
    let same : f ≡ formal = cc in
    let here : actual_by connections f ≡ None = ap (actual_by connections) same ∙ is in
    ap (λ found. option_and_then (λ (a : Token). option_map (λ (more : List Token). a ∷ more) (actuals_by connections fs)) found) here
actuals_none connections (f ∷ fs) (suc j) formal got is = actuals_none connections fs j formal got is

-- a formal that is not connected is one of those without actuals
pub record IsLoose (connections formals : List Token) : Type 0 where
  pub formal : Token
  pub place : ℕ
  pub at : slice_get formals place ≡ Some formal
  pub none : actual_by connections formal ≡ None

pub unconnected : (connections formals : List Token) → actuals_by connections formals ≡ None → IsLoose connections formals
unconnected connections [] e = absurd (cc)
unconnected connections (f ∷ fs) e = parts (actual_by connections f) (actuals_by connections fs) refl refl e (unconnected connections fs)
  where
    parts : (found : Option Token) (rest : Option (List Token)) → actual_by connections f ≡ found → actuals_by connections fs ≡ rest → option_and_then (λ (a : Token). option_map (λ (more : List Token). a ∷ more) rest) found ≡ None
        → (actuals_by connections fs ≡ None → IsLoose connections fs) → IsLoose connections (f ∷ fs)
    parts None rest is more none given = record { formal = f; place = 0; at = refl; none = is }
    parts (Some a) None is more none given = let found : IsLoose connections fs = given more in record { formal = found.formal; place = suc found.place; at = found.at; none = found.none }
    parts (Some a) (Some others) is more none given = absurd (cc)

rest_connected : (found : Option Token) (rest : Option (List Token)) (actuals : List Token) → option_and_then (λ (a : Token). option_map (λ (more : List Token). a ∷ more) rest) found ≡ Some actuals → (others : List Token) × (rest ≡ Some others)
rest_connected None rest actuals some = absurd (cc)
rest_connected (Some a) None actuals some = absurd (cc)
rest_connected (Some a) (Some others) actuals some = (others, refl)

none_lost : (connections formals : List Token) (j : ℕ) (actuals : List Token) → actuals_by connections (drop j formals) ≡ None → actuals_by connections formals ≡ Some actuals → ⊥
none_lost connections fs zero actuals missing is = let both : None ≡ Some actuals = sym missing ∙ is in absurd (cc)
none_lost connections [] (suc j) actuals missing is = absurd (cc)
none_lost connections (f ∷ fs) (suc j) actuals missing is = let rest = rest_connected (actual_by connections f) (actuals_by connections fs) actuals is in none_lost connections fs j rest.0 missing rest.1

-- where all formals are connected, each is
pub all_connected : (connections formals actuals : List Token) → actuals_by connections formals ≡ Some actuals → (formal : Token) → Has formals formal → actual_by connections formal ≡ None → ⊥
all_connected connections formals actuals e formal has none = none_lost connections formals has.0 actuals (actuals_none connections formals has.0 formal has.1 none) e

-- ---- instances

-- the connections of one item more
pub instances_more : (items : List Item) (j : ℕ) (item : Item) → slice_get items j ≡ Some item
    → map connections_in (filter is_instance (take (j + 1) items)) ≡ map connections_in (filter is_instance (take j items)) ++ connections_of item
instances_more items j item got = ap (λ m. map connections_in (filter is_instance (take m items))) (add-one j) ∙ from items j got
  where
    from : (xs : List Item) (n : ℕ) → slice_get xs n ≡ Some item → map connections_in (filter is_instance (take (suc n) xs)) ≡ map connections_in (filter is_instance (take n xs)) ++ connections_of item
    from [] n at = absurd (cc)
    from (x ∷ xs) zero at = let same : x ≡ item = cc in ap (λ y. map connections_in (filter is_instance (y ∷ []))) same ∙ one item
      where
        one : (y : Item) → map connections_in (filter is_instance (y ∷ [])) ≡ connections_of y
        one (Inputs nets) = refl
        one (Outputs nets) = refl
        one (Gate line inputs out table) = refl
        one (Latch line next out start) = refl
        one (Instance line model connections) = refl
    from (Inputs nets ∷ xs) (suc n) at = from xs n at
    from (Outputs nets ∷ xs) (suc n) at = from xs n at
    from (Gate line inputs out table ∷ xs) (suc n) at = from xs n at
    from (Latch line next out start ∷ xs) (suc n) at = from xs n at
    from (Instance line model connections ∷ xs) (suc n) at = ap (λ ys. connections ∷ ys) (from xs n at)
