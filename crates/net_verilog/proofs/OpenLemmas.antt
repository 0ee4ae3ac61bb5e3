-- What the innermost frame says of the innermost cut.
use Rattle.std.proofs.Common.{◌≡◌, ◌∙◌, ap, refl, subst, ℕ, ◌+◌, List, [], ◌∷◌, Result, Ok, Err}
use Rattle.outcome.specs.Steps.{on_value}
use Rattle.net_core.specs.NetList.{NetList}
use Rattle.net_verilog.specs.Tree.{Tree, Cut, InGroup, InNot, InRight, depth, allowed}
use Rattle.net_verilog.specs.Made.{made, settled, opened}
use Rattle.net_verilog.specs.private.Standing.{allows}
use Rattle.net_verilog.specs.private.Steps.{count_open}
use Rattle.net_verilog.specs.declared.operator.Operator.{Operator}
use Rattle.net_verilog.specs.declared.operator.Driver.{Driver}
use Rattle.net_verilog.specs.declared.operator.Frame.{Frame}
use Rattle.net_verilog.specs.declared.operator.Frame.TheVariants as frames

abbrev ok_first : {F A B : Type 0} → A → Result (A × B) F → A
ok_first a (Ok p) = p.0
ok_first a (Err e) = a

abbrev ok_second : {F A B : Type 0} → B → Result (A × B) F → B
ok_second b (Ok p) = p.1
ok_second b (Err e) = b

-- equal pairs have equal parts
pub ok_pair : {F A B : Type 0} (p : A × B) (c : A) (d : B) → ◌≡◌ {A = Result (A × B) F} (Ok p) (Ok (c, d)) → (p.0 ≡ c) × (p.1 ≡ d)
ok_pair p c d e = (ap (ok_first p.0) e, ap (ok_second p.1) e)

-- the parts of a step that gave a value
pub value_before : {F A B : Type 0} (f : A → Result B F) (r : Result A F) (b : B) → on_value f r ≡ Ok b → (a : A) × (r ≡ Ok a) × (f a ≡ Ok b)
value_before f (Ok a) b is = (a, refl, is)
value_before f (Err e) b is = absurd (cc)

-- the parts of an operator after its left operand
pub record RightParts (start net : NetList) (cuts : List Cut) (line : ℕ) (operator : Operator) (left : Tree) (stack : List Frame) : Type 0 where
  pub before : NetList
  pub rest : List Frame
  pub mid : NetList
  pub driver : Driver
  pub number : ℕ
  pub opens : opened start cuts ≡ Ok (before, rest)
  pub makes : made before left ≡ Ok (mid, driver)
  pub settles : settled mid driver ≡ Ok (net, number)
  pub is : frames.Left line operator number ∷ rest ≡ stack

pub right_parts : (start net : NetList) (cuts : List Cut) (line : ℕ) (operator : Operator) (left : Tree) (stack : List Frame) → opened start (InRight line operator left ∷ cuts) ≡ Ok (net, stack) → RightParts start net cuts line operator left stack
right_parts start net cuts line operator left stack is =
    let h = value_before (λ (p : NetList × List Frame). on_value (λ (q : NetList × Driver). on_value (λ (a : NetList × ℕ). Ok (a.0, frames.Left line operator a.1 ∷ p.1)) (settled q.0 q.1)) (made p.0 left)) (opened start cuts) (net, stack) is in
    let g = value_before (λ (q : NetList × Driver). on_value (λ (a : NetList × ℕ). Ok (a.0, frames.Left line operator a.1 ∷ h.0.1)) (settled q.0 q.1)) (made h.0.0 left) (net, stack) h.2 in
    let f = value_before (λ (a : NetList × ℕ). Ok (a.0, frames.Left line operator a.1 ∷ h.0.1)) (settled g.0.0 g.0.1) (net, stack) g.2 in
    let e = ok_pair (f.0.0, frames.Left line operator f.0.1 ∷ h.0.1) net stack f.2 in
    let P : NetList → Type 0 = λ n. settled g.0.0 g.0.1 ≡ Ok (n, f.0.1) in
    record { before = h.0.0; rest = h.0.1; mid = g.0.0; driver = g.0.1; number = f.0.1; opens = h.1; makes = g.1; settles = subst P e.0 f.1; is = e.1 }

-- the cuts of a group, of `~`, and of an operator
pub group_parts : (start net : NetList) (cuts : List Cut) (stack : List Frame) → opened start (InGroup ∷ cuts) ≡ Ok (net, stack) → (rest : List Frame) × (opened start cuts ≡ Ok (net, rest)) × (frames.Group ∷ rest ≡ stack)
group_parts start net cuts stack is =
    let h = value_before (λ (p : NetList × List Frame). Ok (p.0, frames.Group ∷ p.1)) (opened start cuts) (net, stack) is in
    let e = ok_pair (h.0.0, frames.Group ∷ h.0.1) net stack h.2 in
    let P : NetList → Type 0 = λ n. opened start cuts ≡ Ok (n, h.0.1) in
    (h.0.1, subst P e.0 h.1, e.1)

pub not_parts : (start net : NetList) (line : ℕ) (cuts : List Cut) (stack : List Frame) → opened start (InNot line ∷ cuts) ≡ Ok (net, stack) → (rest : List Frame) × (opened start cuts ≡ Ok (net, rest)) × (frames.Not line ∷ rest ≡ stack)
not_parts start net line cuts stack is =
    let h = value_before (λ (p : NetList × List Frame). Ok (p.0, frames.Not line ∷ p.1)) (opened start cuts) (net, stack) is in
    let e = ok_pair (h.0.0, frames.Not line ∷ h.0.1) net stack h.2 in
    let P : NetList → Type 0 = λ n. opened start cuts ≡ Ok (n, h.0.1) in
    (h.0.1, subst P e.0 h.1, e.1)

-- what is open is counted
pub depth_counted : (start net : NetList) (cuts : List Cut) (stack : List Frame) → opened start cuts ≡ Ok (net, stack) → depth cuts ≡ count_open stack
depth_counted start net [] stack is = let e = ok_pair (start, []) net stack is in ap count_open e.1
depth_counted start net (InGroup ∷ cuts) stack is =
    let h = group_parts start net cuts stack is in ap (λ n. 1 + n) (depth_counted start net cuts h.0 h.1) ∙ ap count_open h.2
depth_counted start net (InNot line ∷ cuts) stack is =
    let h = not_parts start net line cuts stack is in ap (λ n. 1 + n) (depth_counted start net cuts h.0 h.1) ∙ ap count_open h.2
depth_counted start net (InRight line operator left ∷ cuts) stack is =
    let h = right_parts start net cuts line operator left stack is in depth_counted start h.before cuts h.rest h.opens ∙ ap count_open h.is

pub allowed_seen : (start net : NetList) (cuts : List Cut) (stack : List Frame) → opened start cuts ≡ Ok (net, stack) → allowed cuts ≡ allows stack
allowed_seen start net [] stack is = let e = ok_pair (start, []) net stack is in ap allows e.1
allowed_seen start net (InGroup ∷ cuts) stack is = let h = group_parts start net cuts stack is in ap allows h.2
allowed_seen start net (InNot line ∷ cuts) stack is = let h = not_parts start net line cuts stack is in ap allows h.2
allowed_seen start net (InRight line operator left ∷ cuts) stack is = let h = right_parts start net cuts line operator left stack is in ap allows h.is

-- nothing is open
pub none_open : (start net : NetList) (cuts : List Cut) → opened start cuts ≡ Ok (net, []) → (cuts ≡ []) × (start ≡ net)
none_open start net [] is = let e = ok_pair (start, []) net [] is in (refl, e.0)
none_open start net (InGroup ∷ cuts) is = let h = group_parts start net cuts [] is in let e = h.2 in absurd (cc)
none_open start net (InNot line ∷ cuts) is = let h = not_parts start net line cuts [] is in let e = h.2 in absurd (cc)
none_open start net (InRight line operator left ∷ cuts) is = let h = right_parts start net cuts line operator left [] is in let e = h.is in absurd (cc)

-- the innermost thing open is a group
pub group_open : (start net : NetList) (cuts : List Cut) (stack : List Frame) → opened start cuts ≡ Ok (net, frames.Group ∷ stack) → (rest : List Cut) × (cuts ≡ InGroup ∷ rest) × (opened start rest ≡ Ok (net, stack))
group_open start net [] stack is = let e = (ok_pair (start, []) net (frames.Group ∷ stack) is).1 in absurd (cc)
group_open start net (InGroup ∷ cuts) stack is =
    let h = group_parts start net cuts (frames.Group ∷ stack) is in
    let e = h.2 in
    let same : h.0 ≡ stack = cc in
    let P : List Frame → Type 0 = λ s. opened start cuts ≡ Ok (net, s) in
    (cuts, refl, subst P same h.1)
group_open start net (InNot line ∷ cuts) stack is = let e = (not_parts start net line cuts (frames.Group ∷ stack) is).2 in absurd (cc)
group_open start net (InRight line operator left ∷ cuts) stack is = let e = (right_parts start net cuts line operator left (frames.Group ∷ stack) is).is in absurd (cc)

-- it is a `~`
pub not_open : (start net : NetList) (line : ℕ) (cuts : List Cut) (stack : List Frame) → opened start cuts ≡ Ok (net, frames.Not line ∷ stack) → (rest : List Cut) × (cuts ≡ InNot line ∷ rest) × (opened start rest ≡ Ok (net, stack))
not_open start net line [] stack is = let e = (ok_pair (start, []) net (frames.Not line ∷ stack) is).1 in absurd (cc)
not_open start net line (InGroup ∷ cuts) stack is = let e = (group_parts start net cuts (frames.Not line ∷ stack) is).2 in absurd (cc)
not_open start net line (InNot other ∷ cuts) stack is =
    let h = not_parts start net other cuts (frames.Not line ∷ stack) is in
    let e = h.2 in
    let same : h.0 ≡ stack = cc in
    let here : other ≡ line = cc in
    let P : List Frame → Type 0 = λ s. opened start cuts ≡ Ok (net, s) in
    (cuts, ap (λ l. InNot l ∷ cuts) here, subst P same h.1)
not_open start net line (InRight other operator left ∷ cuts) stack is = let e = (right_parts start net cuts other operator left (frames.Not line ∷ stack) is).is in absurd (cc)

-- it is an operator after its left operand
pub record RightOpen (start net : NetList) (line : ℕ) (operator : Operator) (number : ℕ) (cuts : List Cut) (stack : List Frame) : Type 0 where
  pub rest : List Cut
  pub left : Tree
  pub before : NetList
  pub mid : NetList
  pub driver : Driver
  pub is : cuts ≡ InRight line operator left ∷ rest
  pub opens : opened start rest ≡ Ok (before, stack)
  pub makes : made before left ≡ Ok (mid, driver)
  pub settles : settled mid driver ≡ Ok (net, number)

pub right_open : (start net : NetList) (line : ℕ) (operator : Operator) (number : ℕ) (cuts : List Cut) (stack : List Frame) → opened start cuts ≡ Ok (net, frames.Left line operator number ∷ stack) → RightOpen start net line operator number cuts stack
right_open start net line operator number [] stack is = let e = (ok_pair (start, []) net (frames.Left line operator number ∷ stack) is).1 in absurd (cc)
right_open start net line operator number (InGroup ∷ cuts) stack is = let e = (group_parts start net cuts (frames.Left line operator number ∷ stack) is).2 in absurd (cc)
right_open start net line operator number (InNot other ∷ cuts) stack is = let e = (not_parts start net other cuts (frames.Left line operator number ∷ stack) is).2 in absurd (cc)
right_open start net line operator number (InRight other o left ∷ cuts) stack is =
    let h = right_parts start net cuts other o left (frames.Left line operator number ∷ stack) is in
    let e = h.is in
    let same : h.rest ≡ stack = cc in
    let here : other ≡ line = cc in
    let this : o ≡ operator = cc in
    let count : h.number ≡ number = cc in
    let P : List Frame → Type 0 = λ s. opened start cuts ≡ Ok (h.before, s) in
    let Q : ℕ → Type 0 = λ n. settled h.mid h.driver ≡ Ok (net, n) in
    record { rest = cuts; left = left; before = h.before; mid = h.mid; driver = h.driver; is = ap (λ l. InRight l o left ∷ cuts) here ∙ ap (λ op. InRight line op left ∷ cuts) this; opens = subst P same h.opens; makes = h.makes; settles = subst Q count h.settles }
