-- Marks of names: one more, and a later walk.
use Rattle.std.proofs.Common.{◌≡◌, ◌∙◌, ap, sym, refl, subst, ℕ, ◌≤◌, ◌+◌, Bool, true, false, cond, List, Option, None, Some, arith, nat_eq}
use Rattle.std.specs.Prelude.{option_and_then, string_bytes, String}
use Rattle.std.specs.Str.{bytes_eq}
use Rattle.std.specs.String.{string_eq, string_eq_equiv}
use Rattle.std.proofs.lemmas.Bool.{eq-eqb, ne_eqb}
use Rattle.std.proofs.lemmas.Map.Text.{hash_map_updates_text}
use mathlib.Core.Path.{fun_ext}
use Rattle.indexmap.specs.IndexMap.{get, get_by_text, with_value_at, IndexMap, IsUnique}
use Rattle.indexmap.proofs.CallerLemmas.{updates-with_value_at}
use Rattle.net_blif.specs.Table.{no_numbers, with_number}
use Rattle.net_flat.specs.declared.mark.Mark.{Mark}
use Rattle.net_flat.specs.private.Marking.{number_in_walk, numbers_by, with_mark, AreBefore, Marking, StandsAt}

-- a mark that is written where the name stands
pub written : {Y S : Type 0} (marks : IndexMap (String Y) Mark S) (place : ℕ) (name : List ℕ) (mark : Mark) → IsUnique string_eq marks → StandsAt marks place name → (q : List ℕ) → get_by_text (with_value_at marks place mark) q ≡ with_mark (get_by_text marks) name mark q
written marks place name mark unique at q =
    let P : List ℕ → Type 0 = λ n. get_by_text (with_value_at marks place mark) q ≡ with_mark (get_by_text marks) n mark q in
    subst P at.named (hash_map_updates_text (string_bytes at.key) marks (with_value_at marks place mark) (Some mark) (updates-with_value_at marks place mark string_eq_equiv unique at.key at.mark at.entry) q)

-- a mark that was found by its key is found by the name
pub mark_found : {Y S : Type 0} (marks : IndexMap (String Y) Mark S) (key : String Y) (mark : Mark) (name : List ℕ) → get string_eq marks key ≡ Some mark → string_bytes key ≡ name → get_by_text marks name ≡ Some mark
mark_found marks key mark name found same = let P : List ℕ → Type 0 = λ n. get_by_text marks n ≡ Some mark in subst P same found

-- with one more mark of this walk, all are still of this walk or of one before it
pub before_more : (old new : Marking) (walk : ℕ) (name : List ℕ) (mark : Mark) → ((q : List ℕ) → new q ≡ with_mark old name mark q) → mark.walk ≤ walk → AreBefore old walk → AreBefore new walk
before_more old new walk name mark are le before q m at = by (bytes_eq name q) (sym (are q) ∙ at)
  where
    by : (b : Bool) → cond b (Some mark) (old q) ≡ Some m → m.walk ≤ walk
    by true e = let same : mark ≡ m = cc in let P : Mark → Type 0 = λ x. x.walk ≤ walk in subst P same le
    by false e = before q m e

pub before_same : (old new : Marking) (walk : ℕ) → ((q : List ℕ) → new q ≡ old q) → AreBefore old walk → AreBefore new walk
before_same old new walk same before q m at = before q m (sym (same q) ∙ at)

pub before_later : (marking : Marking) (walk later : ℕ) → walk ≤ later → AreBefore marking walk → AreBefore marking later
before_later marking walk later le before name mark at = let less = before name mark at in omega (arith, less, le)

-- in a later walk no name has a number yet
pub none_later : (marking : Marking) (walk later : ℕ) → walk + 1 ≤ later → AreBefore marking walk → numbers_by marking later ≡ no_numbers
none_later marking walk later le before = fun_ext (λ name. by name (marking name) refl)
  where
    by : (name : List ℕ) (o : Option Mark) → marking name ≡ o → option_and_then (number_in_walk later) o ≡ None
    by name None e = refl
    by name (Some m) e = let less = before name m e in let other : nat_eq m.walk later ≡ false = ne_eqb m.walk later (λ same. omega (arith, less, le, same)) in rw other refl

-- one more mark of this walk is one more number
pub numbers_more : (old new : Marking) (walk number : ℕ) (name : List ℕ) → ((q : List ℕ) → new q ≡ with_mark old name (record { walk = walk; number = number }) q) → numbers_by new walk ≡ with_number (numbers_by old walk) name number
numbers_more old new walk number name are = fun_ext (λ q. ap (option_and_then (number_in_walk walk)) (are q) ∙ by q (bytes_eq name q))
  where
    own : nat_eq walk walk ≡ true
    own = eq-eqb walk walk refl

    by : (q : List ℕ) (b : Bool) → option_and_then (number_in_walk walk) (cond b (Some (record { walk = walk; number = number })) (old q)) ≡ cond b (Some number) (option_and_then (number_in_walk walk) (old q))
    by q true = rw own refl
    by q false = refl
