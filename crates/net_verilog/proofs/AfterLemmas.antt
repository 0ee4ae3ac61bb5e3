-- The steps of the reader of expressions after an operand, as its functions make them.
use Rattle.std.proofs.Common.{◌≡◌, ◌⊎◌, ◌∙◌, inl, inr, ap, sym, refl, subst, ℕ, ◌<◌, ◌≤◌, Bool, true, false, List, [], ◌∷◌, drop, Ok, Err, Some, arith}
use Rattle.net_core.specs.NetList.{NetList, nets}
use Rattle.net_verilog.specs.Tokens.{TokenValue, is_end}
use Rattle.net_verilog.specs.Words.{next_kind, next_of, wrong}
use Rattle.net_verilog.specs.declared.kind.Kind.{Kind}
use Rattle.net_verilog.specs.Tree.{looseness}
use Rattle.net_verilog.specs.Made.{settled}
use Rattle.net_verilog.specs.Expression.{Expression, binding, binding_at, close_fault, goes_on}
use Rattle.net_verilog.specs.private.Gates.{IsRefused, IsStackOn}
use Rattle.net_verilog.specs.Declarations.{Declarations}
use Rattle.net_verilog.specs.declared.operator.Operator.{Operator}
use Rattle.net_verilog.specs.declared.operator.Driver.{Driver}
use Rattle.net_verilog.specs.declared.operator.Frame.{Frame}
use Rattle.net_verilog.specs.declared.operator.Frame.TheVariants as frames
use Rattle.net_verilog.specs.declared.operator.Next.{Next}
use Rattle.net_verilog.specs.declared.operator.Next.TheVariants as nexts
use Rattle.net_verilog.specs.declared.fault.VerilogFault.{VerilogFault}
use Rattle.net_verilog.specs.declared.fault.VerilogFault.TheVariants as faults
use Rattle.net_verilog.specs.private.Standing.{BreaksHeld, Standing, StaysHeld, Holding, allows}
use Rattle.net_verilog.proofs.EndLemmas.{close_group, group_refused, left_refused, push_left, raised, whole}
use Rattle.net_verilog.proofs.KindLemmas.{goes}
use Rattle.net_verilog.proofs.StepLemmas.{stack_more}

-- a fault where an operand was read
abbrev pub Refuses : NetList → List Frame → Driver → List TokenValue → VerilogFault → Type 0
Refuses net old driver here fault = (declared : Declarations) → (start : NetList) → (tokens : List TokenValue) → Holding declared start tokens 0 net old driver here → Expression declared start tokens (Err fault)

-- a cap that the next token sets
pub ends_before : (cap : ℕ) (here : List TokenValue) (t : TokenValue) (ts : List TokenValue) (next : Next) → here ≡ t ∷ ts → next_of t ≡ next → cap ≡ binding next → cap ≤ binding_at here
ends_before cap here t ts next split is same =
    let at : binding_at here ≡ binding next = ap binding_at split ∙ ap binding is in
    omega (arith, at, same)

pub end_fault : (cap : ℕ) (net : NetList) (old : List Frame) (driver : Driver) (here : List TokenValue) (fault : VerilogFault) → cap ≤ binding_at here → (fault ≡ faults.OutOfMemory) ⊎ BreaksHeld cap net old driver fault → (fault ≡ faults.OutOfMemory) ⊎ Refuses net old driver here fault
end_fault cap net old driver here fault ends (inl e) = inl e
end_fault cap net old driver here fault ends (inr refuses) = inr (λ declared start tokens h. refuses declared start tokens here (raised declared start tokens net old driver here 0 cap (omega arith) ends h))

-- what stands where an operand was read, and after all that the cap ends
module _ (cap : ℕ) (net more : NetList) (old mid : List Frame) (driver last : Driver) (here : List TokenValue) (t : TokenValue) (ts : List TokenValue) (split : here ≡ t ∷ ts) (ends : cap ≤ binding_at here) (keeps : StaysHeld cap net old driver more mid last) where
  after_ends : (declared : Declarations) (start : NetList) (tokens : List TokenValue) → Holding declared start tokens 0 net old driver here → Holding declared start tokens cap more mid last (t ∷ ts)
  after_ends declared start tokens h =
      let P : List TokenValue → Type 0 = λ r. Holding declared start tokens cap more mid last r in
      subst P split (keeps declared start tokens here (raised declared start tokens net old driver here 0 cap (omega arith) ends h))

  capped : (operator : Operator) → cap ≡ looseness operator → (declared : Declarations) (start : NetList) (tokens : List TokenValue) → Holding declared start tokens 0 net old driver here → Holding declared start tokens (looseness operator) more mid last (t ∷ ts)
  capped operator is declared start tokens h =
      let P : ℕ → Type 0 = λ n. Holding declared start tokens n more mid last (t ∷ ts) in
      subst P is (after_ends declared start tokens h)

  pub operator_step : (operator : Operator) (final : NetList) (new : List Frame) (n : ℕ) → next_of t ≡ nexts.Operator operator → cap ≡ looseness operator → cap ≤ allows mid → settled more last ≡ Ok (final, n) → new ≡ frames.Left t.line operator n ∷ mid → (declared : Declarations) (start : NetList) (tokens : List TokenValue) → Holding declared start tokens 0 net old driver here → Standing declared start tokens final new ts
  operator_step operator final new n is same room settles pushed declared start tokens h =
      let Q : List Frame → Type 0 = λ s. Standing declared start tokens final s ts in
      subst Q (sym pushed) (push_left declared start tokens more final mid last t ts operator n (capped operator same declared start tokens h) is (omega (arith, same, room)) settles)

  pub operator_fault : (operator : Operator) (fault : VerilogFault) → next_of t ≡ nexts.Operator operator → cap ≡ looseness operator → cap ≤ allows mid → IsRefused (settled more last) fault → (fault ≡ faults.OutOfMemory) ⊎ Refuses net old driver here fault
  operator_fault operator fault is same room (inl e) = inl e
  operator_fault operator fault is same room (inr (refusal, settles, e)) = inr (λ declared start tokens h.
      let Q : VerilogFault → Type 0 = λ f. Expression declared start tokens (Err f) in
      subst Q (sym e) (left_refused declared start tokens more mid last t ts operator refusal (capped operator same declared start tokens h) is (omega (arith, same, room)) settles))

  -- where something is open still, it is a group
  grouped : (frame : Frame) → mid ≡ frame ∷ drop 1 mid → (mid ≡ []) ⊎ (mid ≡ frames.Group ∷ drop 1 mid) → (declared : Declarations) (start : NetList) (tokens : List TokenValue) → Holding declared start tokens 0 net old driver here → Holding declared start tokens cap more (frames.Group ∷ drop 1 mid) last (t ∷ ts)
  grouped frame top (inl none) declared start tokens h = let bad : [] ≡ frame ∷ drop 1 mid = sym none ∙ top in absurd (cc)
  grouped frame top (inr group) declared start tokens h =
      let P : List Frame → Type 0 = λ s. Holding declared start tokens cap more s last (t ∷ ts) in
      subst P group (after_ends declared start tokens h)

  pub close_step : (frame : Frame) (new : List Frame) → mid ≡ frame ∷ drop 1 mid → (mid ≡ []) ⊎ (mid ≡ frames.Group ∷ drop 1 mid) → next_of t ≡ nexts.Close → new ≡ drop 1 mid → (declared : Declarations) (start : NetList) (tokens : List TokenValue) → Holding declared start tokens 0 net old driver here → Holding declared start tokens 0 more new last ts
  close_step frame new top group is popped declared start tokens h =
      let Q : List Frame → Type 0 = λ s. Holding declared start tokens 0 more s last ts in
      subst Q (sym popped) (close_group declared start tokens cap more (drop 1 mid) last t ts (grouped frame top group declared start tokens h) is)

  pub group_wrong : (frame : Frame) (fault : VerilogFault) → mid ≡ frame ∷ drop 1 mid → (mid ≡ []) ⊎ (mid ≡ frames.Group ∷ drop 1 mid) → next_of t ≡ nexts.Other → (fault ≡ faults.OutOfMemory) ⊎ (fault ≡ wrong t) → (fault ≡ faults.OutOfMemory) ⊎ Refuses net old driver here fault
  group_wrong frame fault top group is (inl e) = inl e
  group_wrong frame fault top group is (inr e) = inr (λ declared start tokens h. group_refused declared start tokens cap more (drop 1 mid) last (t ∷ ts) fault (grouped frame top group declared start tokens h) (ap (λ k. close_fault k t) is ∙ ap Some (sym e)))

  pub done_step : (next : Next) → mid ≡ [] → next_of t ≡ next → goes_on next ≡ false → (declared : Declarations) (start : NetList) (tokens : List TokenValue) → Holding declared start tokens 0 net old driver here → Expression declared start tokens (Ok (record { net = more; driver = last; rest = here }))
  done_step next none is stops declared start tokens h =
      let P : List Frame → Type 0 = λ s. Holding declared start tokens cap more s last (t ∷ ts) in
      let Q : List TokenValue → Type 0 = λ r. Expression declared start tokens (Ok (record { net = more; driver = last; rest = r })) in
      subst Q (sym split) (whole declared start tokens cap more last (t ∷ ts) (subst P none (after_ends declared start tokens h)) (ap goes_on is ∙ stops))

-- the net of a left operand is there
pub left_on : (more final : NetList) (mid new : List Frame) (line : ℕ) (operator : Operator) (n : ℕ) → new ≡ frames.Left line operator n ∷ mid → n < nets final → nets more ≤ nets final → IsStackOn more mid → IsStackOn final new
left_on more final mid new line operator n pushed within grows on =
    let P : List Frame → Type 0 = IsStackOn final in
    subst P (sym pushed) (within, stack_more more final mid grows on)

-- what is an operator or `)`
abbrev pub is_sign : Next → Bool
is_sign nexts.Other = false
is_sign next = true

-- an operator or `)` is no end
pub going : (kind : Kind) (next : Next) → next_kind kind ≡ next → is_sign next ≡ true → is_end kind ≡ false
going kind next is some = goes (λ k. is_sign (next_kind k)) refl kind (ap is_sign is ∙ some)

-- the second of two causes, turned into another
pub over : {P Q R : Type 0} → (Q → R) → P ⊎ Q → P ⊎ R
over f (inl p) = inl p
over f (inr q) = inr (f q)
