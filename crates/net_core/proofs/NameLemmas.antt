-- Numbers of names, after one more label.
use Rattle.std.proofs.Common.{◌≡◌, ◌∙◌, inl, inr, ap, sym, refl, subst, ℕ, suc, ◌<◌, ◌+◌, ◌^◌, List, [], ◌∷◌, ◌++◌, length, true, false, cond, Option, None, Some, arith}
use Rattle.std.specs.Prelude.{slice_get, IfSome}
use Rattle.std.proofs.lemmas.List.{length_push}
use Rattle.std.proofs.lemmas.List.Elements.{All-weaker}
use Rattle.std.proofs.lemmas.Slice.Eq.{bytes_eq-Decides}
use Rattle.lists.specs.laws.ReadLaws.{got_push}
use Rattle.net_core.specs.NetList.{NetList, LabelValue, number_from, is_named, nets}
use Rattle.net_core.specs.Inside.{IsInside, IsNetName, GateIsInside, LatchIsInside}

pub number_not : (n : ℕ) (labels : List LabelValue) (label : LabelValue) (name : List ℕ) → is_named name label ≡ false → number_from n (labels ++ label ∷ []) name ≡ number_from n labels name
number_not n [] label name not = rw not refl
number_not n (x ∷ xs) label name not = ap (cond (is_named name x) (Some n)) (number_not (n + 1) xs label name not)

pub number_new : (n : ℕ) (labels : List LabelValue) (label : LabelValue) (name : List ℕ) → number_from n labels name ≡ None → is_named name label ≡ true → number_from n (labels ++ label ∷ []) name ≡ Some (n + length labels)
number_new n [] label name none hit = rw hit (ap Some (omega arith))
number_new n (x ∷ xs) label name none hit =
    elim (is_named name x) as (λ b. cond b (Some n) (number_from (n + 1) xs name) ≡ None → cond b (Some n) (number_from (n + 1) (xs ++ label ∷ []) name) ≡ Some (n + suc (length xs))) [
      | true ↦ λ e. absurd (cc)
      | false ↦ λ e. number_new (n + 1) xs label name e hit ∙ ap Some (omega arith)
    ] none

pub fresh_after : (labels : List LabelValue) (label : LabelValue) (q : List ℕ) → label.named ≡ false → number_from 0 (labels ++ label ∷ []) q ≡ number_from 0 labels q
fresh_after labels label q fresh = number_not 0 labels label q (rw fresh refl)

pub one_longer : (labels new : List LabelValue) (label : LabelValue) → new ≡ labels ++ label ∷ [] → length new ≡ length labels + 1
one_longer labels new label is = ap length is ∙ length_push labels label

-- a name that is found stays so
pub number_kept : (n : ℕ) (labels : List LabelValue) (label : LabelValue) (name : List ℕ) (k : ℕ) → number_from n labels name ≡ Some k → number_from n (labels ++ label ∷ []) name ≡ Some k
number_kept n [] label name k found = absurd (cc)
number_kept n (x ∷ xs) label name k found =
    elim (is_named name x) as (λ b. cond b (Some n) (number_from (n + 1) xs name) ≡ Some k → cond b (Some n) (number_from (n + 1) (xs ++ label ∷ []) name) ≡ Some k) [
      | true ↦ λ e. e
      | false ↦ λ e. number_kept (n + 1) xs label name k e
    ] found

abbrev pub HasName : List LabelValue → ℕ → LabelValue → Type 0
HasName labels n label = label.named ≡ true → IsNetName label.text × (number_from 0 labels label.text ≡ Some n)

-- each named net is found by its name, also after one more label
pub names_more : (labels : List LabelValue) (new : LabelValue) → ((n : ℕ) (label : LabelValue) → slice_get labels n ≡ Some label → HasName labels n label) → HasName (labels ++ new ∷ []) (length labels) new → (n : ℕ) (label : LabelValue) → slice_get (labels ++ new ∷ []) n ≡ Some label → HasName (labels ++ new ∷ []) n label
names_more labels new names last n label got named =
    elim (got_push labels new n label got) [
      | inl w ↦ let old = names n label w.0 named in (old.0, number_kept 0 labels new label.text n old.1)
      | inr w ↦ let P : LabelValue → Type 0 = λ l. IsNetName l.text × (number_from 0 (labels ++ new ∷ []) l.text ≡ Some n) in
          let named' : new.named ≡ true = rw (← w.1) named in
          let own : P new = rw w.0 (last named') in
          subst P (sym w.1) own
    ]

-- one more net leaves all inside
pub inside_more : (net : NetList) (label : LabelValue) → nets net < 2 ^ 20 → HasName (net.labels ++ label ∷ []) (nets net) label → IsInside net → IsInside (record net { labels = net.labels ++ label ∷ [] })
inside_more net label room last inside =
    let more : length (net.labels ++ label ∷ []) ≡ length net.labels + 1 = length_push net.labels label in
    let wide : (n : ℕ) → n < length net.labels → n < length (net.labels ++ label ∷ []) = λ n less. omega arith in
    record {
      few_nets = omega arith;
      few_gates = inside.few_gates;
      inputs = All-weaker _ _ wide net.inputs inside.inputs;
      outputs = All-weaker _ _ wide net.outputs inside.outputs;
      gates = All-weaker (GateIsInside (length net.labels)) (GateIsInside (length (net.labels ++ label ∷ []))) (λ g h. (wide g.out h.0, All-weaker _ _ wide g.inputs h.1, h.2, h.3)) net.gates inside.gates;
      latches = All-weaker (LatchIsInside (length net.labels)) (LatchIsInside (length (net.labels ++ label ∷ []))) (λ l h. (wide l.next h.0, wide l.out h.1)) net.latches inside.latches;
      names = names_more net.labels label inside.names last;
    }

pub fresh_made : (labels new : List LabelValue) (text : List ℕ) → new ≡ labels ++ record { text = text; named = false } ∷ [] → (q : List ℕ) → number_from 0 labels q ≡ number_from 0 new q
fresh_made labels new text is q = rw is (sym (fresh_after labels (record { text = text; named = false }) q refl))

pub named_found : (labels new : List LabelValue) (text : List ℕ) (k : ℕ) → new ≡ labels ++ record { text = text; named = true } ∷ [] → k ≡ length labels → number_from 0 labels text ≡ None → number_from 0 new text ≡ Some k
named_found labels new text k is place none = rw is (number_new 0 labels (record { text = text; named = true }) text none ((bytes_eq-Decides text text).1 refl) ∙ ap Some (omega arith))

pub inside_named : (net : NetList) (new : List LabelValue) (text : List ℕ) → new ≡ net.labels ++ record { text = text; named = true } ∷ [] → nets net < 2 ^ 20 → IsNetName text → number_from 0 net.labels text ≡ None → IsInside net → IsInside (record net { labels = new })
inside_named net new text is room name none inside = rw is (inside_more net (record { text = text; named = true }) room (λ _. (name, named_found net.labels _ text (length net.labels) refl refl none)) inside)

pub inside_fresh : (net : NetList) (new : List LabelValue) (text : List ℕ) → new ≡ net.labels ++ record { text = text; named = false } ∷ [] → nets net < 2 ^ 20 → IsInside net → IsInside (record net { labels = new })
inside_fresh net new text is room inside = rw is (inside_more net (record { text = text; named = false }) room (λ e. absurd (cc)) inside)

pub number_below : (n : ℕ) (labels : List LabelValue) (name : List ℕ) (k : ℕ) → number_from n labels name ≡ Some k → k < n + length labels
number_below n [] name k found = absurd (cc)
number_below n (x ∷ xs) name k found =
    elim (is_named name x) as (λ b. cond b (Some n) (number_from (n + 1) xs name) ≡ Some k → k < n + suc (length xs)) [
      | true ↦ λ e. let same : n ≡ k = cc in omega arith
      | false ↦ λ e. omega (arith, number_below (n + 1) xs name k e)
    ] found

-- a net that is found by its name exists
pub some_below : (net : NetList) (name : List ℕ) (r : Option ℕ) → r ≡ number_from 0 net.labels name → IfSome r (λ n. n < nets net)
some_below net name None is = tt
some_below net name (Some k) is = omega (arith, number_below 0 net.labels name k (sym is))
