-- Items whose tokens stand in one list.
use Rattle.std.proofs.Common.{◌≡◌, ◌∙◌, ap, sym, refl, subst, append_assoc, ℕ, suc, zero, ◌+◌, ◌<◌, ◌≤◌, List, [], ◌∷◌, ◌++◌, length, get_or, Some, arith}
use Rattle.std.specs.Prelude.{All, slice_get, slice_range}
use Rattle.std.specs.Option.{option_map}
use Rattle.std.proofs.Math.Seq.{get_or-append_seam}
use Rattle.std.proofs.lemmas.List.{get_or_append_left, length-append, map_push}
use Rattle.std.proofs.lemmas.List.Elements.{All-append}
use Rattle.std.proofs.lemmas.Option.{get_or_from_slice_get, slice_get-map, slice_get_within}
use Rattle.net_core.specs.declared.latch.Start.{Start}
use Rattle.net_blif.specs.Statement.{Token}
use Rattle.net_blif.specs.Item.{IsSoundItem}
use Rattle.net_blif.specs.Places.{ArePlaces, IsPlace, item_at, items_at}
use Rattle.net_blif.specs.declared.item.Item.{Item}
use Rattle.net_blif.specs.declared.item.Item.TheVariants.{Inputs, Outputs, Gate, Latch, Instance}
use Rattle.net_blif.specs.declared.item_list.Place.{Place}
use Rattle.net_blif.specs.declared.item_list.Place.TheVariants as places
use Rattle.net_blif.proofs.TokenLemmas.{range_kept, range_new}

-- what is true of all elements is true of one that is found
pub at_found : {A : Type 0} (P : A → Type 0) (xs : List A) (k : ℕ) (x : A) → All P xs → Some x ≡ slice_get xs k → P x
at_found P xs k x all is = subst P (get_or_from_slice_get xs k x x (sym is)) (all k x (slice_get_within xs k x (sym is)))

pub item_found : (tokens : List Token) (list : List Place) (k : ℕ) (place : Place) → Some place ≡ slice_get list k → Some (item_at tokens place) ≡ slice_get (items_at tokens list) k
item_found tokens list k place is = ap (option_map (item_at tokens)) is ∙ sym (slice_get-map (item_at tokens) list k)

-- the item of a place that is found, and that it is sound
pub found_item : (tokens : List Token) (list : List Place) (now : List Item) (k : ℕ) (place : Place) (item : Item) → items_at tokens list ≡ now → Some place ≡ slice_get list k → item ≡ item_at tokens place → Some item ≡ slice_get now k
found_item tokens list now k place item view is same = ap Some same ∙ (item_found tokens list k place is ∙ ap (λ (xs : List Item). slice_get xs k) view)

pub found_sound : (tokens : List Token) (list : List Place) (k : ℕ) (place : Place) (item : Item) → ArePlaces (length tokens) list × All IsSoundItem (items_at tokens list) → Some place ≡ slice_get list k → item ≡ item_at tokens place → IsSoundItem item
found_sound tokens list k place item sound is same = at_found IsSoundItem (items_at tokens list) k item sound.1 (ap Some same ∙ item_found tokens list k place is)

pub place_grows : (n m : ℕ) (place : Place) → n ≤ m → IsPlace n place → IsPlace m place
place_grows n m (places.Inputs first end) le is = (is.0, omega (arith, le, is.1))
place_grows n m (places.Outputs first end) le is = (is.0, omega (arith, le, is.1))
place_grows n m (places.Gate line first end table) le is = (is.0, omega (arith, le, is.1))
place_grows n m (places.Instance line first end) le is = (is.0, omega (arith, le, is.1))
place_grows n m (places.Latch line first start) le is = omega (arith, le, is)

pub item_kept : (tokens more : List Token) (place : Place) → IsPlace (length tokens) place → item_at (tokens ++ more) place ≡ item_at tokens place
item_kept tokens more (places.Inputs first end) is = ap Inputs (range_kept tokens more first end is.0 is.1)
item_kept tokens more (places.Outputs first end) is = ap Outputs (range_kept tokens more first end is.0 is.1)
item_kept tokens more (places.Gate line first end table) is =
    let within : end ≤ length tokens = omega (arith, is.1) in
    ap (λ (nets : List Token). Gate line nets (get_or (tokens ++ more) end []) table) (range_kept tokens more first end is.0 within) ∙ ap (λ (out : Token). Gate line (slice_range tokens first end) out table) (get_or_append_left tokens more [] end is.1)
item_kept tokens more (places.Instance line first end) is =
    let within : end ≤ length tokens = omega (arith, is.1) in
    ap (λ (cs : List Token). Instance line (get_or (tokens ++ more) end []) cs) (range_kept tokens more first end is.0 within) ∙ ap (λ (model : Token). Instance line model (slice_range tokens first end)) (get_or_append_left tokens more [] end is.1)
item_kept tokens more (places.Latch line first start) is =
    let less : first < length tokens = omega (arith, is) in
    ap (λ (next : Token). Latch line next (get_or (tokens ++ more) (first + 1) []) start) (get_or_append_left tokens more [] first less) ∙ ap (λ (out : Token). Latch line (get_or tokens first []) out start) (get_or_append_left tokens more [] (first + 1) is)

pub items_kept : (tokens more : List Token) (list : List Place) → ArePlaces (length tokens) list → items_at (tokens ++ more) list ≡ items_at tokens list
items_kept tokens more [] inside = refl
items_kept tokens more (place ∷ list) inside =
    ap (λ (i : Item). i ∷ items_at (tokens ++ more) list) (item_kept tokens more place (inside zero place (omega arith))) ∙ ap (λ (is : List Item). item_at tokens place ∷ is) (items_kept tokens more list (λ k d less. inside (suc k) d (omega arith)))

-- items are sound, and their tokens are there
abbrev pub AreSound : List Token → List Place → Type 0
AreSound tokens list = ArePlaces (length tokens) list × All IsSoundItem (items_at tokens list)

pub sound_kept : (tokens more new : List Token) (list : List Place) → AreSound tokens list → new ≡ tokens ++ more → AreSound new list
sound_kept tokens more new list sound is =
    let P : List Token → Type 0 = λ all. AreSound all list in
    let Q : List Item → Type 0 = All IsSoundItem in
    let le : length tokens ≤ length (tokens ++ more) = omega (arith, length-append tokens more) in
    subst P (sym is) ((λ k d less. place_grows (length tokens) (length (tokens ++ more)) (get_or list k d) le (sound.0 k d less)), subst Q (sym (items_kept tokens more list sound.0)) sound.1)

pub sound_same : (tokens more new : List Token) (list same : List Place) → AreSound tokens list → new ≡ tokens ++ more → same ≡ list → AreSound new same
sound_same tokens more new list same sound is are = let P : List Place → Type 0 = AreSound new in subst P (sym are) (sound_kept tokens more new list sound is)

one : {A : Type 0} (P : A → Type 0) (x : A) → P x → All P (x ∷ [])
one P x is zero d less = is
one P x is (suc k) d less = absurd (omega arith)

-- one more item
module _ (tokens more new : List Token) (list longer : List Place) (place : Place) (item : Item) (sound : AreSound tokens list) (is : new ≡ tokens ++ more) (pushed : longer ≡ list ++ place ∷ []) (same : item_at new place ≡ item) where
  pub items_pushed : items_at new longer ≡ items_at tokens list ++ item ∷ []
  items_pushed = rw pushed (map_push (item_at new) list place ∙ (ap (λ (x : Item). items_at new list ++ x ∷ []) same ∙ rw is (ap (λ (xs : List Item). xs ++ item ∷ []) (items_kept tokens more list sound.0))))

  pub sound_pushed : IsPlace (length new) place → IsSoundItem item → AreSound new longer
  sound_pushed inside is_sound =
      let kept = sound_kept tokens more new list sound is in
      let P : List Place → Type 0 = ArePlaces (length new) in
      let Q : List Item → Type 0 = All IsSoundItem in
      let whole : items_at tokens list ++ item ∷ [] ≡ items_at new longer = sym items_pushed in
      (subst P (sym pushed) (All-append (IsPlace (length new)) list (place ∷ []) kept.0 (one (IsPlace (length new)) place inside)), subst Q whole (All-append IsSoundItem (items_at tokens list) (item ∷ []) sound.1 (one IsSoundItem item is_sound)))

-- the nets of a line
pub nets_new : (tokens nets new : List Token) (first end : ℕ) → new ≡ tokens ++ nets → first ≡ length tokens → end ≡ length new → slice_range new first end ≡ nets
nets_new tokens nets new first end is from to = rw is (range_new tokens nets first end from (to ∙ ap length is ∙ length-append tokens nets))

-- the nets of a gate
module _ (tokens inputs mid new : List Token) (out : Token) (line first end table : ℕ) (appended : mid ≡ tokens ++ inputs) (pushed : new ≡ mid ++ out ∷ []) (from : first ≡ length tokens) (to : end ≡ length mid) where
  pub gate_new : item_at new (places.Gate line first end table) ≡ Gate line inputs out table
  gate_new =
      let size : length mid ≡ length tokens + length inputs = ap length appended ∙ length-append tokens inputs in
      let order : first ≤ end = omega (arith, from, to, size) in
      let within : end ≤ length mid = omega (arith, to) in
      let nets : slice_range new first end ≡ inputs = rw pushed (range_kept mid (out ∷ []) first end order within ∙ nets_new tokens inputs mid first end appended from to) in
      let last : get_or new end [] ≡ out = rw (pushed, to) (get_or-append_seam mid out [] []) in
      ap (λ (xs : List Token). Gate line xs (get_or new end []) table) nets ∙ ap (λ (x : Token). Gate line inputs x table) last

  pub instance_new : item_at new (places.Instance line first end) ≡ Instance line out inputs
  instance_new =
      let size : length mid ≡ length tokens + length inputs = ap length appended ∙ length-append tokens inputs in
      let order : first ≤ end = omega (arith, from, to, size) in
      let within : end ≤ length mid = omega (arith, to) in
      let nets : slice_range new first end ≡ inputs = rw pushed (range_kept mid (out ∷ []) first end order within ∙ nets_new tokens inputs mid first end appended from to) in
      let last : get_or new end [] ≡ out = rw (pushed, to) (get_or-append_seam mid out [] []) in
      ap (λ (xs : List Token). Instance line (get_or new end []) xs) nets ∙ ap (λ (x : Token). Instance line x inputs) last

  pub gate_grown : new ≡ tokens ++ (inputs ++ out ∷ [])
  gate_grown = pushed ∙ (ap (λ (xs : List Token). xs ++ out ∷ []) appended ∙ append_assoc tokens inputs (out ∷ []))

  pub gate_inside : IsPlace (length new) (places.Gate line first end table)
  gate_inside =
      let size : length mid ≡ length tokens + length inputs = ap length appended ∙ length-append tokens inputs in
      let longer : length new ≡ length mid + 1 = ap length pushed ∙ length-append mid (out ∷ []) in
      (omega (arith, from, to, size), omega (arith, to, longer))

-- the nets of a latch
module _ (tokens mid new : List Token) (next out : Token) (line first : ℕ) (start : Start) (read : mid ≡ tokens ++ next ∷ []) (pushed : new ≡ mid ++ out ∷ []) (from : first ≡ length tokens) where
  second : first + 1 ≡ length mid
  second = omega (arith, from, ap length read, length-append tokens (next ∷ []))

  pub latch_new : item_at new (places.Latch line first start) ≡ Latch line next out start
  latch_new =
      let less : first < length mid = omega (arith, second) in
      let one : get_or new first [] ≡ next = rw pushed (get_or_append_left mid (out ∷ []) [] first less ∙ rw (read, from) (get_or-append_seam tokens next [] [])) in
      let two : get_or new (first + 1) [] ≡ out = rw (pushed, second) (get_or-append_seam mid out [] []) in
      ap (λ (x : Token). Latch line x (get_or new (first + 1) []) start) one ∙ ap (λ (x : Token). Latch line next x start) two

  pub latch_grown : new ≡ tokens ++ (next ∷ out ∷ [])
  latch_grown = pushed ∙ (ap (λ (xs : List Token). xs ++ out ∷ []) read ∙ append_assoc tokens (next ∷ []) (out ∷ []))

  pub latch_inside : IsPlace (length new) (places.Latch line first start)
  latch_inside = omega (arith, second, ap length pushed, length-append mid (out ∷ []))
