-- Connections looked up in tables are connections looked up in lists.
use Rattle.std.proofs.Common.{◌≡◌, ◌∙◌, ap, sym, refl, subst, append_assoc, append-nil, ℕ, Bool, true, false, not, ◌||◌, cond, List, [], ◌∷◌, ◌++◌, map, Option, None, Some}
use Rattle.std.specs.Prelude.{is_some, flat_map}
use Rattle.std.specs.List.{list_all}
use Rattle.std.specs.Str.{bytes_eq}
use Rattle.std.proofs.lemmas.List.Folds.{list_any-append}
use Rattle.std.proofs.lemmas.Slice.Eq.{bytes_eq-Decides}
use Rattle.std.proofs.Math.Bool.{or-false}
use Rattle.lists.specs.laws.BoolLaws.{both_true as both, or_right, both_ways}
use Rattle.net_blif.specs.Statement.{Token}
use Rattle.net_blif.specs.Connection.{formal_of}
use Rattle.net_blif.specs.Table.{no_numbers, with_number, Numbers}
use Rattle.net_blif.specs.Instances.{connection_fault, fault_on, formals_of, inputs_in, inputs_of, is_among, or_else, outputs_in}
use Rattle.net_blif.specs.private.Connecting.{after, collected, connect, fault_by, has_all, missing, no_formals, table_fault, with_input, with_inputs_in, with_output, with_outputs_in, FormalsValue}
use Rattle.net_blif.specs.declared.item.Item.{Item}
use Rattle.net_blif.specs.declared.fault.BlifFault.{BlifFault}
use Rattle.net_blif.specs.declared.fault.BlifFault.TheVariants.{NoSuchFormal, FormalTwice, FormalMissing}

-- the names that have numbers are these
abbrev IsSetOf : Numbers → List Token → Type 0
IsSetOf numbers names = (q : Token) → is_some (numbers q) ≡ is_among names q

-- the same names
abbrev HaveSame : List Token → List Token → Type 0
HaveSame xs ys = (q : Token) → is_among xs q ≡ is_among ys q

one_more : (names : List Token) (name q : Token) → is_among (names ++ name ∷ []) q ≡ (is_among names q || bytes_eq name q)
one_more names name q = list_any-append (λ other. bytes_eq other q) names (name ∷ []) ∙ ap (λ b. is_among names q || b) (or-false (bytes_eq name q))

set_more : (numbers : Numbers) (names : List Token) (name : Token) (k : ℕ) → IsSetOf numbers names → IsSetOf (with_number numbers name k) (names ++ name ∷ [])
set_more numbers names name k is q = by (bytes_eq name q) (is_among names q) (is q) ∙ sym (one_more names name q)
  where
    by : (b a : Bool) → is_some (numbers q) ≡ a → is_some (cond b (Some k) (numbers q)) ≡ (a || b)
    by true true e = refl
    by true false e = refl
    by false true e = e
    by false false e = e

table_is : (line : ℕ) (formals connected : Numbers) (names earlier connections : List Token) → IsSetOf formals names → IsSetOf connected earlier → table_fault line formals connected connections ≡ connection_fault line names earlier connections
table_is line formals connected names earlier [] f e = refl
table_is line formals connected names earlier (c ∷ cs) f e =
    rw (f (formal_of c), e (formal_of c)) (by (is_among names (formal_of c)) (is_among earlier (formal_of c)) (table_is line formals (connect connected c) names (earlier ++ formal_of c ∷ []) cs f (set_more connected earlier (formal_of c) 0 e)))
  where
    by : (a b : Bool) {rest other : Option BlifFault} → rest ≡ other → or_else (cond (not a) (Some (NoSuchFormal line)) (cond b (Some (FormalTwice line)) None)) rest ≡ cond (not a) (Some (NoSuchFormal line)) (cond b (Some (FormalTwice line)) other)
    by false b same = refl
    by true true same = refl
    by true false same = same

connected_set : (connected : Numbers) (earlier connections : List Token) → IsSetOf connected earlier → IsSetOf (after connect connected connections) (earlier ++ map formal_of connections)
connected_set connected earlier [] is = let P : List Token → Type 0 = IsSetOf connected in subst P (sym (append-nil earlier)) is
connected_set connected earlier (c ∷ cs) is =
    let P : List Token → Type 0 = IsSetOf (after connect (connect connected c) cs) in
    subst P (append_assoc earlier (formal_of c ∷ []) (map formal_of cs)) (connected_set (connect connected c) (earlier ++ formal_of c ∷ []) cs (set_more connected earlier (formal_of c) 0 is))

-- the inputs so far
record IsCollected (formals : FormalsValue) (names : List Token) : Type 0 where
  set : IsSetOf formals.names names
  same : HaveSame formals.inputs names

same_more : (xs ys : List Token) (name : Token) → HaveSame xs ys → HaveSame (xs ++ name ∷ []) (ys ++ name ∷ [])
same_more xs ys name same q = one_more xs name q ∙ (ap (λ b. b || bytes_eq name q) (same q) ∙ sym (one_more ys name q))

-- a name that is there adds nothing
known_more : (names : List Token) (name : Token) → is_among names name ≡ true → HaveSame names (names ++ name ∷ [])
known_more names name known q = by (bytes_eq name q) refl ∙ sym (one_more names name q)
  where
    by : (b : Bool) → bytes_eq name q ≡ b → is_among names q ≡ (is_among names q || b)
    by true e = let same : name ≡ q = (bytes_eq-Decides name q).0 e in let there : is_among names q ≡ true = subst (λ (n : Token). is_among names n ≡ true) same known in rw there refl
    by false e = right (is_among names q)
      where
        right : (a : Bool) → a ≡ (a || false)
        right true = refl
        right false = refl

input_collected : (formals : FormalsValue) (names : List Token) (name : Token) → IsCollected formals names → IsCollected (with_input formals name) (names ++ name ∷ [])
input_collected formals names name is = by (is_some (formals.names name)) refl
  where
    by : (b : Bool) → is_some (formals.names name) ≡ b → IsCollected (cond b formals (record { names = with_number formals.names name 0; inputs = formals.inputs ++ name ∷ [] })) (names ++ name ∷ [])
    by true e = let more = known_more names name (sym (is.set name) ∙ e) in record { set = λ q. is.set q ∙ more q; same = λ q. is.same q ∙ more q }
    by false e = record { set = set_more formals.names names name 0 is.set; same = same_more formals.inputs names name is.same }

inputs_collected : (formals : FormalsValue) (names nets : List Token) → IsCollected formals names → IsCollected (after with_input formals nets) (names ++ nets)
inputs_collected formals names [] is = let P : List Token → Type 0 = IsCollected formals in subst P (sym (append-nil names)) is
inputs_collected formals names (net ∷ nets) is =
    let P : List Token → Type 0 = IsCollected (after with_input (with_input formals net) nets) in
    subst P (append_assoc names (net ∷ []) nets) (inputs_collected (with_input formals net) (names ++ net ∷ []) nets (input_collected formals names net is))

items_collected : (formals : FormalsValue) (names : List Token) (items : List Item) → IsCollected formals names → IsCollected (after with_inputs_in formals items) (names ++ flat_map inputs_in items)
items_collected formals names [] is = let P : List Token → Type 0 = IsCollected formals in subst P (sym (append-nil names)) is
items_collected formals names (item ∷ items) is =
    let P : List Token → Type 0 = IsCollected (after with_inputs_in (with_inputs_in formals item) items) in
    subst P (append_assoc names (inputs_in item) (flat_map inputs_in items)) (items_collected (with_inputs_in formals item) (names ++ inputs_in item) items (inputs_collected formals names (inputs_in item) is))

outputs_set : (formals : FormalsValue) (names nets : List Token) → IsSetOf formals.names names → IsSetOf (after with_output formals nets).names (names ++ nets)
outputs_set formals names [] is = let P : List Token → Type 0 = IsSetOf formals.names in subst P (sym (append-nil names)) is
outputs_set formals names (net ∷ nets) is =
    let P : List Token → Type 0 = IsSetOf (after with_output (with_output formals net) nets).names in
    subst P (append_assoc names (net ∷ []) nets) (outputs_set (with_output formals net) (names ++ net ∷ []) nets (set_more formals.names names net 0 is))

outputs_keep : (formals : FormalsValue) (nets : List Token) → (after with_output formals nets).inputs ≡ formals.inputs
outputs_keep formals [] = refl
outputs_keep formals (net ∷ nets) = outputs_keep (with_output formals net) nets

items_set : (formals : FormalsValue) (names : List Token) (items : List Item) → IsSetOf formals.names names → IsSetOf (after with_outputs_in formals items).names (names ++ flat_map outputs_in items)
items_set formals names [] is = let P : List Token → Type 0 = IsSetOf formals.names in subst P (sym (append-nil names)) is
items_set formals names (item ∷ items) is =
    let P : List Token → Type 0 = IsSetOf (after with_outputs_in (with_outputs_in formals item) items).names in
    subst P (append_assoc names (outputs_in item) (flat_map outputs_in items)) (items_set (with_outputs_in formals item) (names ++ outputs_in item) items (outputs_set formals names (outputs_in item) is))

items_keep : (formals : FormalsValue) (items : List Item) → (after with_outputs_in formals items).inputs ≡ formals.inputs
items_keep formals [] = refl
items_keep formals (item ∷ items) = items_keep (with_outputs_in formals item) items ∙ outputs_keep formals (outputs_in item)

-- the table of a model's formals has them, and the list has its inputs
collected_set : (items : List Item) → IsSetOf (collected items).names (formals_of items)
collected_set items = items_set (after with_inputs_in no_formals items) (inputs_of items) items (items_collected no_formals [] items (record { set = λ q. refl; same = λ q. refl })).set

collected_same : (items : List Item) → HaveSame (collected items).inputs (inputs_of items)
collected_same items = λ q. ap (λ (names : List Token). is_among names q) (items_keep (after with_inputs_in no_formals items) items) ∙ (items_collected no_formals [] items (record { set = λ q. refl; same = λ q. refl })).same q

all_each : (others xs : List Token) → list_all (λ x. is_among others x) xs ≡ true → (q : Token) → is_among xs q ≡ true → is_among others q ≡ true
all_each others [] all q there = absurd (cc)
all_each others (x ∷ xs) all q there = by (λ h. all_each others xs split.1 q h) (bytes_eq x q) refl there
  where
    split : (is_among others x ≡ true) × (list_all (λ x. is_among others x) xs ≡ true)
    split = both (is_among others x) (list_all (λ x. is_among others x) xs) all

    by : (is_among xs q ≡ true → is_among others q ≡ true) → (b : Bool) → bytes_eq x q ≡ b → (b || is_among xs q) ≡ true → is_among others q ≡ true
    by later true e h = let same : x ≡ q = (bytes_eq-Decides x q).0 e in subst (λ (n : Token). is_among others n ≡ true) same split.0
    by later false e h = later h

each_all : (others xs : List Token) → ((q : Token) → is_among xs q ≡ true → is_among others q ≡ true) → list_all (λ x. is_among others x) xs ≡ true
each_all others [] each = refl
each_all others (x ∷ xs) each =
    let here : bytes_eq x x ≡ true = (bytes_eq-Decides x x).1 refl in
    let first : is_among others x ≡ true = each x (rw here refl) in
    rw (first, each_all others xs (λ q there. each q (or_right (bytes_eq x q) (is_among xs q) there))) refl

all_same : (others xs ys : List Token) → HaveSame xs ys → list_all (λ x. is_among others x) xs ≡ list_all (λ x. is_among others x) ys
all_same others xs ys same = both_ways _ _ (λ all. each_all others ys (λ q there. all_each others xs all q (same q ∙ there))) (λ all. each_all others xs (λ q there. all_each others ys all q (sym (same q) ∙ there)))

has_all_is : (connected : Numbers) (names inputs : List Token) → IsSetOf connected names → has_all connected inputs ≡ list_all (λ input. is_among names input) inputs
has_all_is connected names [] is = refl
has_all_is connected names (input ∷ inputs) is = rw (is input, has_all_is connected names inputs is) refl

-- what is wrong with an instance, by the tables of its model
pub fault_is : (line : ℕ) (items : List Item) (connections : List Token) → fault_by line (collected items) connections ≡ fault_on line items connections
fault_is line items connections =
    let empty : IsSetOf no_numbers [] = λ q. refl in
    let set = connected_set no_numbers [] connections empty in
    let all : has_all (after connect no_numbers connections) (collected items).inputs ≡ list_all (λ input. is_among (map formal_of connections) input) (inputs_of items) = has_all_is (after connect no_numbers connections) (map formal_of connections) (collected items).inputs set ∙ all_same (map formal_of connections) (collected items).inputs (inputs_of items) (collected_same items) in
    ap (λ (o : Option BlifFault). or_else o (missing line (after connect no_numbers connections) (collected items).inputs)) (table_is line (collected items).names no_numbers (formals_of items) [] connections (collected_set items) empty)
    ∙ ap (λ b. or_else (connection_fault line (formals_of items) [] connections) (cond b None (Some (FormalMissing line)))) all
