-- What is looked up in lists.
use Rattle.std.proofs.Common.{◌≡◌, ◌∙◌, ap, sym, ℕ, List, Option, Some, None}
use Rattle.std.specs.Prelude.{slice_get, unwrap_or}
use Rattle.std.specs.Slice.{IsItemAt}
use Rattle.std.proofs.lemmas.Option.{slice_get_past}
use denote.Ref.{Bor}
use Rattle.lists.specs.laws.OptionLaws.{same_some}
use Rattle.lists.specs.laws.ReadLaws.{got_read}
use Rattle.net_simplify.specs.Form.{Form}
use Rattle.net_simplify.specs.private.Lists.{form_at, no_form}

-- what is found stands there, and where nothing is found nothing stands
pub item_found : {X : Type 0} (items : List X) (i : ℕ) (r : Option (Bor X)) (x : Bor X) → IsItemAt items i r → r ≡ Some x → slice_get items i ≡ Some x.now
item_found items i None x at some = absurd (let never : None ≡ Some x = some in cc)
item_found items i (Some y) x at some = got_read items i y.now at.3.0 at.1 ∙ ap (λ (b : Bor _). Some b.now) (same_some y x some)

pub item_lost : {X : Type 0} (items : List X) (i : ℕ) (r : Option (Bor X)) → IsItemAt items i r → r ≡ None → slice_get items i ≡ None
item_lost items i None at none = slice_get_past items i at.3
item_lost items i (Some y) at none = absurd (let never : Some y ≡ None = none in cc)

pub form_found : (items xs : List Form) (i : ℕ) (r : Option (Bor Form)) (x : Bor Form) → items ≡ xs → IsItemAt items i r → r ≡ Some x → x.now ≡ form_at xs i
form_found items xs i r x same at some = sym (ap (λ (o : Option Form). unwrap_or o no_form) (ap (λ (fs : List Form). slice_get fs i) (sym same) ∙ item_found items i r x at some))

pub form_lost : (items xs : List Form) (i : ℕ) (r : Option (Bor Form)) → items ≡ xs → IsItemAt items i r → r ≡ None → no_form ≡ form_at xs i
form_lost items xs i r same at none = sym (ap (λ (o : Option Form). unwrap_or o no_form) (ap (λ (fs : List Form). slice_get fs i) (sym same) ∙ item_lost items i r at none))
