-- The bits of rows.
use Rattle.std.proofs.Common.{◌≡◌, ℕ, zero, suc, refl, sym, ◌∙◌, ap, ap₂, ◌<◌, ◌+◌, ◌*◌, inl, inr, arith, List, [], ◌∷◌, ◌++◌, length, Bool, None, Some, subst}
use Rattle.std.specs.Prelude.{bit_xor, slice_get, slice_index}
use Rattle.std.specs.Int.{bit_at}
use Rattle.std.proofs.Math.Nat.{zero-add, suc-add}
use Rattle.lists.specs.laws.ListLaws.{length-push}
use Rattle.lists.specs.laws.ReadLaws.{got_push, got_at}
use Rattle.lists.specs.laws.XorLaws.{bit_at-sum}
use Rattle.make_laws.proofs.BitLemmas.{bit_at-times}
use Rattle.make_nets.specs.Plan.{Plan, with_and, with_xor}
use Rattle.make_nets.specs.PlanValue.{Agrees, bit_at_net}
use Rattle.make_nets.proofs.EachLemmas.{each_keeps}
use Rattle.make_nets.proofs.ValueLemmas.{agrees_before, and_value, xor_value}
use Rattle.make_nets.specs.Row.{Row, begun_row, row_by, row_of, next_net, and_row, xor_row}

-- one place more, whose net is the next one
pub next_place : (after : ℕ → Plan → Plan) (start old new : Plan) (nets all : List ℕ) (j n : ℕ) → row_of old nets ≡ row_by j after next_net start → new ≡ after j old → n ≡ old.next → all ≡ nets ++ n ∷ [] → row_of new all ≡ row_by (j + 1) after next_net start
next_place after start old new nets all j n before is_plan is_net is =
    let one_more : suc j ≡ j + 1 = omega arith in
    ap₂ row_of is_plan (is ∙ ap (λ m. nets ++ m ∷ []) is_net)
    ∙ ap (λ (row : Row). row_of (after j row.plan) (row.nets ++ row.plan.next ∷ [])) before
    ∙ ap (λ m. row_by m after next_net start) one_more

-- the net of each place has the value of the place
abbrev pub HaveValues : List Bool → List ℕ → (ℕ → ℕ) → Type 0
HaveValues bits nets f = (j n : ℕ) → slice_get nets j ≡ Some n → bit_at_net bits n ≡ f j

-- the net of each place has this bit of the number
abbrev pub HaveBits : List Bool → List ℕ → ℕ → Type 0
HaveBits bits nets x = HaveValues bits nets (bit_at x)

-- the bits agree with the plan before the row, which has k nets with these values
pub record IsRowOf (bits : List Bool) (plan : Plan) (k : ℕ) (f : ℕ → ℕ) (row : Row) : Type 0 where
  pub before : Agrees bits plan
  pub long : length row.nets ≡ k
  pub have : HaveValues bits row.nets f

pub value_in_row : (bits : List Bool) (nets : List ℕ) (f : ℕ → ℕ) (j : ℕ) → HaveValues bits nets f → j < length nets → bit_at_net bits (slice_index nets j) ≡ f j
value_in_row bits nets f j have within = have j (slice_index nets j) (got_at nets j (slice_index nets j) 0 within refl)

pub have_none : (bits : List Bool) (f : ℕ → ℕ) → HaveValues bits [] f
have_none bits f j n got = absurd (cc)

pub have_push : (bits : List Bool) (nets : List ℕ) (n : ℕ) (f : ℕ → ℕ) → HaveValues bits nets f → bit_at_net bits n ≡ f (length nets) → HaveValues bits (nets ++ n ∷ []) f
have_push bits nets n f have last j m got = elim (got_push nets n j m got) [
  | inl before ↦ have j m before.0
  | inr here ↦ ap (bit_at_net bits) here.1 ∙ last ∙ ap f (sym here.0)
]

-- more nets, whose values stand at the places after
pub have_append : (bits : List Bool) (xs ys : List ℕ) (f : ℕ → ℕ) → HaveValues bits xs f → HaveValues bits ys (λ l. f (length xs + l)) → HaveValues bits (xs ++ ys) f
have_append bits [] ys f first second j n got = second j n got ∙ ap f (zero-add j)
have_append bits (x ∷ xs) ys f first second zero n got = first zero n got
have_append bits (x ∷ xs) ys f first second (suc j) n got =
    have_append bits xs ys (λ l. f (suc l)) (λ l net at. first (suc l) net at) (λ l net at. second l net at ∙ ap f (suc-add (length xs) l)) j n got

-- a row of one net more
pub row_push : (bits : List Bool) (plan : Plan) (j : ℕ) (f : ℕ → ℕ) (n : ℕ) (row after : Row) → after.nets ≡ row.nets ++ n ∷ [] → IsRowOf bits plan j f row → bit_at_net bits n ≡ f j → IsRowOf bits plan (suc j) f after
row_push bits plan j f n row after is row_of last = record {
  before = row_of.before;
  long = ap length is ∙ length-push row.nets n ∙ omega (arith, row_of.long);
  have = subst (λ nets. HaveValues bits nets f) (sym is) (have_push bits row.nets n f row_of.have (last ∙ ap f (sym row_of.long)));
}

module _ (bits : List Bool) (after : ℕ → Plan → Plan) (net : ℕ → Plan → ℕ) (k : ℕ) (plan : Plan) (before : (j : ℕ) (p : Plan) → Agrees bits (after j p) → Agrees bits p) where
  -- a row each of whose nets has its value
  pub row_values : (f : ℕ → ℕ) → ((j : ℕ) (p : Plan) → j < k → Agrees bits (after j p) → bit_at_net bits (net j p) ≡ f j) → Agrees bits (row_by k after net plan).plan → IsRowOf bits plan k f (row_by k after net plan)
  row_values f value =
      each_keeps (λ j row. Agrees bits row.plan → IsRowOf bits plan j f row) (λ j row. record { plan = after j row.plan; nets = row.nets ++ net j row.plan ∷ [] }) (begun_row plan) k
      (λ agrees. record { before = agrees; long = refl; have = have_none bits f })
      (λ j row less kept agrees. row_push bits plan j f (net j row.plan) row (record { plan = after j row.plan; nets = row.nets ++ net j row.plan ∷ [] }) refl (kept (before j row.plan agrees)) (value j row.plan less agrees))

  -- what agrees with a row agrees with the plan before
  pub row_before : Agrees bits (row_by k after net plan).plan → Agrees bits plan
  row_before =
      each_keeps (λ j row. Agrees bits row.plan → Agrees bits plan) (λ j row. record { plan = after j row.plan; nets = row.nets ++ net j row.plan ∷ [] }) (begun_row plan) k
      (λ agrees. agrees)
      (λ j row less kept agrees. kept (before j row.plan agrees))

pub xor_row_before : (bits : List Bool) (k : ℕ) (first second : List ℕ) (plan : Plan) → Agrees bits (xor_row k first second plan).plan → Agrees bits plan
xor_row_before bits k first second plan = row_before bits (λ j. with_xor None (slice_index first j) (slice_index second j)) next_net k plan (λ j p agrees. agrees_before bits None (slice_index first j ∷ slice_index second j ∷ []) 6 p agrees)

pub and_row_bits : (bits : List Bool) (k a t x : ℕ) (nets : List ℕ) (plan : Plan) → t < 2 → bit_at_net bits a ≡ t → length nets ≡ k → HaveBits bits nets x → Agrees bits (and_row k a nets plan).plan → IsRowOf bits plan k (bit_at (t * x)) (and_row k a nets plan)
and_row_bits bits k a t x nets plan bit is long have =
    row_values bits (λ j. with_and None a (slice_index nets j)) next_net k plan (λ j p agrees. agrees_before bits None (a ∷ slice_index nets j ∷ []) 8 p agrees) (bit_at (t * x))
    (λ j p less agrees. and_value bits None a (slice_index nets j) p agrees ∙ ap₂ (λ u v. u * v) is (value_in_row bits nets (bit_at x) j have (omega (arith, less, long))) ∙ sym (bit_at-times t x j bit))

pub xor_row_bits : (bits : List Bool) (k x y : ℕ) (first second : List ℕ) (plan : Plan) → length first ≡ k → length second ≡ k → HaveBits bits first x → HaveBits bits second y → Agrees bits (xor_row k first second plan).plan → IsRowOf bits plan k (bit_at (bit_xor x y)) (xor_row k first second plan)
xor_row_bits bits k x y first second plan long_first long_second have_first have_second =
    row_values bits (λ j. with_xor None (slice_index first j) (slice_index second j)) next_net k plan (λ j p agrees. agrees_before bits None (slice_index first j ∷ slice_index second j ∷ []) 6 p agrees) (bit_at (bit_xor x y))
    (λ j p less agrees. xor_value bits None (slice_index first j) (slice_index second j) p agrees ∙ ap₂ bit_xor (value_in_row bits first (bit_at x) j have_first (omega (arith, less, long_first))) (value_in_row bits second (bit_at y) j have_second (omega (arith, less, long_second))) ∙ sym (bit_at-sum x y j))
