-- The steps of the reader of expressions as its functions make them.
use Rattle.std.proofs.Common.{◌≡◌, ◌⊎◌, ◌∙◌, inl, inr, ap, sym, subst, ℕ, ◌<◌, ◌≤◌, Bool, List, [], ◌∷◌, drop, Option, None, Ok, Err, Some, arith}
use Rattle.std.specs.Prelude.{if◌then◌else◌}
use Rattle.std.proofs.lemmas.Bool.{le-leb}
use Rattle.net_core.specs.NetList.{NetList, nets}
use Rattle.net_verilog.specs.Tokens.{TokenValue}
use Rattle.net_verilog.specs.Words.{start_of, wrong}
use Rattle.net_verilog.specs.Targets.{target_of}
use Rattle.net_verilog.specs.Tree.{looseness}
use Rattle.net_verilog.specs.Made.{mentioned, settled}
use Rattle.net_verilog.specs.Expression.{Expression, start_fault, open_fault, target_fault}
use Rattle.net_verilog.specs.private.Steps.{count_open}
use Rattle.net_verilog.specs.private.Gates.{IsRefused, IsStackOn}
use Rattle.net_verilog.specs.private.Nets.{IsNoNet}
use Rattle.net_verilog.specs.Declarations.{Declarations}
use Rattle.net_verilog.specs.declared.operator.Operator.{Operator}
use Rattle.net_verilog.specs.declared.operator.Driver.{Driver}
use Rattle.net_verilog.specs.declared.operator.Driver.TheVariants as drivers
use Rattle.net_verilog.specs.declared.operator.Frame.{Frame}
use Rattle.net_verilog.specs.declared.operator.Frame.TheVariants as frames
use Rattle.net_verilog.specs.declared.operator.Start.TheVariants as starts
use Rattle.net_verilog.specs.declared.fault.VerilogFault.{VerilogFault}
use Rattle.net_verilog.specs.declared.fault.VerilogFault.TheVariants as faults
use Rattle.net_verilog.specs.private.Standing.{Standing, Holding}
use Rattle.net_verilog.proofs.StandLemmas.{push_group, push_not, hold_literal, hold_target, target_refused, operand_refused, end_not, not_refused}
use Rattle.net_verilog.proofs.EndLemmas.{end_right, right_refused}

pub not_step : (old new : List Frame) (line n cap : ℕ) (net more : NetList) (driver : Driver) → old ≡ frames.Not line ∷ drop 1 old → new ≡ drop 1 old → settled net driver ≡ Ok (more, n) → (declared : Declarations) (start : NetList) (tokens here : List TokenValue) → Holding declared start tokens cap net old driver here → Holding declared start tokens cap more new (drivers.Not line n) here
not_step old new line n cap net more driver is popped settles declared start tokens here h =
    let P : List Frame → Type 0 = λ s. Holding declared start tokens cap net s driver here in
    let Q : List Frame → Type 0 = λ s. Holding declared start tokens cap more s (drivers.Not line n) here in
    subst Q (sym popped) (end_not declared start tokens cap net more (drop 1 old) driver here line n (subst P is h) settles)

pub not_fault : (old : List Frame) (line cap : ℕ) (net : NetList) (driver : Driver) (fault : VerilogFault) → old ≡ frames.Not line ∷ drop 1 old → IsRefused (settled net driver) fault → (fault ≡ faults.OutOfMemory) ⊎ ((declared : Declarations) → (start : NetList) → (tokens : List TokenValue) → (here : List TokenValue) → Holding declared start tokens cap net old driver here → Expression declared start tokens (Err fault))
not_fault old line cap net driver fault is (inl e) = inl e
not_fault old line cap net driver fault is (inr (refusal, settles, e)) = inr (λ declared start tokens here h.
    let P : List Frame → Type 0 = λ s. Holding declared start tokens cap net s driver here in
    let Q : VerilogFault → Type 0 = λ f. Expression declared start tokens (Err f) in
    subst Q (sym e) (not_refused declared start tokens cap net (drop 1 old) driver here line refusal (subst P is h) settles))

pub right_step : (old new : List Frame) (line number n cap loose : ℕ) (operator : Operator) (net more : NetList) (driver : Driver) → old ≡ frames.Left line operator number ∷ drop 1 old → new ≡ drop 1 old → loose ≡ looseness operator → loose ≤ cap → settled net driver ≡ Ok (more, n) → (declared : Declarations) (start : NetList) (tokens here : List TokenValue) → Holding declared start tokens cap net old driver here → Holding declared start tokens cap more new (drivers.Binary line operator number n) here
right_step old new line number n cap loose operator net more driver is popped same below settles declared start tokens here h =
    let P : List Frame → Type 0 = λ s. Holding declared start tokens cap net s driver here in
    let Q : List Frame → Type 0 = λ s. Holding declared start tokens cap more s (drivers.Binary line operator number n) here in
    subst Q (sym popped) (end_right declared start tokens cap net more (drop 1 old) driver here line operator number n (subst P is h) (omega (arith, same, below)) settles)

pub right_fault : (old : List Frame) (line number cap : ℕ) (operator : Operator) (net : NetList) (driver : Driver) (fault : VerilogFault) → old ≡ frames.Left line operator number ∷ drop 1 old → looseness operator ≤ cap → IsRefused (settled net driver) fault → (fault ≡ faults.OutOfMemory) ⊎ ((declared : Declarations) → (start : NetList) → (tokens : List TokenValue) → (here : List TokenValue) → Holding declared start tokens cap net old driver here → Expression declared start tokens (Err fault))
right_fault old line number cap operator net driver fault is below (inl e) = inl e
right_fault old line number cap operator net driver fault is below (inr (refusal, settles, e)) = inr (λ declared start tokens here h.
    let P : List Frame → Type 0 = λ s. Holding declared start tokens cap net s driver here in
    let Q : VerilogFault → Type 0 = λ f. Expression declared start tokens (Err f) in
    subst Q (sym e) (right_refused declared start tokens cap net (drop 1 old) driver here line operator number refusal (subst P is h) below settles))

-- nets that there are stay
pub stack_more : (net more : NetList) (stack : List Frame) → nets net ≤ nets more → IsStackOn net stack → IsStackOn more stack
stack_more net more [] grows on = tt
stack_more net more (frames.Group ∷ stack) grows on = stack_more net more stack grows on
stack_more net more (frames.Not line ∷ stack) grows on = stack_more net more stack grows on
stack_more net more (frames.Left line operator n ∷ stack) grows on = let less = on.0 in (omega (arith, less, grows), stack_more net more stack grows on.1)

on_rest : (net : NetList) (frame : Frame) (stack : List Frame) → IsStackOn net (frame ∷ stack) → IsStackOn net stack
on_rest net frames.Group stack on = on
on_rest net (frames.Not line) stack on = on
on_rest net (frames.Left line operator n) stack on = on.1

pub on_popped : (net more : NetList) (old new : List Frame) (frame : Frame) → old ≡ frame ∷ drop 1 old → new ≡ drop 1 old → nets net ≤ nets more → IsStackOn net old → IsStackOn more new
on_popped net more old new frame is popped grows on =
    let P : List Frame → Type 0 = IsStackOn net in
    let Q : List Frame → Type 0 = IsStackOn more in
    subst Q (sym popped) (stack_more net more (drop 1 old) grows (on_rest net frame (drop 1 old) (subst P is on)))

-- what stands where an operand is wanted
module _ (declared : Declarations) (net : NetList) (old : List Frame) (here : List TokenValue) (t : TokenValue) (ts : List TokenValue) (split : here ≡ t ∷ ts) where
  standing : (start : NetList) (tokens : List TokenValue) → Standing declared start tokens net old here → Standing declared start tokens net old (t ∷ ts)
  standing start tokens s = let P : List TokenValue → Type 0 = λ r. Standing declared start tokens net old r in subst P split s

  pub group_step : (new : List Frame) → start_of t ≡ starts.Group → count_open old < 1024 → new ≡ frames.Group ∷ old → (start : NetList) (tokens : List TokenValue) → Standing declared start tokens net old here → Standing declared start tokens net new ts
  group_step new is few pushed start tokens s =
      let Q : List Frame → Type 0 = λ k. Standing declared start tokens net k ts in
      subst Q (sym pushed) (push_group declared start tokens net old t ts (standing start tokens s) is few)

  pub open_not_step : (new : List Frame) → start_of t ≡ starts.Not → count_open old < 1024 → new ≡ frames.Not t.line ∷ old → (start : NetList) (tokens : List TokenValue) → Standing declared start tokens net old here → Standing declared start tokens net new ts
  open_not_step new is few pushed start tokens s =
      let Q : List Frame → Type 0 = λ k. Standing declared start tokens net k ts in
      subst Q (sym pushed) (push_not declared start tokens net old t ts (standing start tokens s) is few)

  pub literal_step : (bit : Bool) → start_of t ≡ starts.Bit bit → (start : NetList) (tokens : List TokenValue) → Standing declared start tokens net old here → Holding declared start tokens 0 net old (drivers.Literal t.line bit) ts
  literal_step bit is start tokens s = hold_literal declared start tokens net old t ts bit (standing start tokens s) is

  -- a fault at the token
  pub fault_here : (fault : VerilogFault) → start_fault declared (count_open old) (start_of t) t ts ≡ Some fault → (start : NetList) (tokens : List TokenValue) → Standing declared start tokens net old here → Expression declared start tokens (Err fault)
  fault_here fault is start tokens s = operand_refused declared start tokens net old (t ∷ ts) fault (standing start tokens s) is

  -- what is opened where too much is open
  pub open_wrong : (fault : VerilogFault) → (start_of t ≡ starts.Group) ⊎ (start_of t ≡ starts.Not) → (fault ≡ faults.OutOfMemory) ⊎ (open_fault (count_open old) t ≡ Some fault) → (fault ≡ faults.OutOfMemory) ⊎ ((start : NetList) → (tokens : List TokenValue) → Standing declared start tokens net old here → Expression declared start tokens (Err fault))
  open_wrong fault is (inl e) = inl e
  open_wrong fault is (inr e) = inr (fault_here fault (opens is ∙ e))
    where
      opens : (start_of t ≡ starts.Group) ⊎ (start_of t ≡ starts.Not) → start_fault declared (count_open old) (start_of t) t ts ≡ open_fault (count_open old) t
      opens (inl g) = ap (λ k. start_fault declared (count_open old) k t ts) g
      opens (inr n) = ap (λ k. start_fault declared (count_open old) k t ts) n

  pub other_wrong : (fault : VerilogFault) → start_of t ≡ starts.Other → (fault ≡ faults.OutOfMemory) ⊎ (fault ≡ wrong t) → (fault ≡ faults.OutOfMemory) ⊎ ((start : NetList) → (tokens : List TokenValue) → Standing declared start tokens net old here → Expression declared start tokens (Err fault))
  other_wrong fault is (inl e) = inl e
  other_wrong fault is (inr e) = inr (fault_here fault (ap (λ k. start_fault declared (count_open old) k t ts) is ∙ ap Some (sym e)))

  pub target_wrong : (fault : VerilogFault) → start_of t ≡ starts.Target → (fault ≡ faults.OutOfMemory) ⊎ IsNoNet declared net here fault → (fault ≡ faults.OutOfMemory) ⊎ ((start : NetList) → (tokens : List TokenValue) → Standing declared start tokens net old here → Expression declared start tokens (Err fault))
  target_wrong fault is (inl e) = inl e
  target_wrong fault is (inr (inl e)) = inr (fault_here fault (ap (λ k. start_fault declared (count_open old) k t ts) is ∙ ap target_fault (ap (target_of declared) (sym split) ∙ e)))
  target_wrong fault is (inr (inr (name, rest, refusal, targets, mentions, e))) = inr (λ start tokens s.
      let Q : VerilogFault → Type 0 = λ f. Expression declared start tokens (Err f) in
      subst Q (sym e) (target_refused declared start tokens net old here rest name refusal s targets mentions))

-- a token at which too much is open
pub too_many : (count : ℕ) (t : TokenValue) (fault : VerilogFault) → 1024 ≤ count → (fault ≡ faults.OutOfMemory) ⊎ (fault ≡ faults.LeftOut t.line t.text) → (fault ≡ faults.OutOfMemory) ⊎ (open_fault count t ≡ Some fault)
too_many count t fault many (inl e) = inl e
too_many count t fault many (inr e) =
    let F : Bool → Option VerilogFault = λ b. if b then Some (faults.LeftOut t.line t.text) else None in
    inr (ap F (le-leb 1024 count many) ∙ ap Some (sym e))

pub target_step : (declared : Declarations) (net more : NetList) (old : List Frame) (here rest : List TokenValue) (name : List ℕ) (n : ℕ) → target_of declared here ≡ Ok (name, rest) → mentioned net name ≡ Ok (more, n) → (start : NetList) (tokens : List TokenValue) → Standing declared start tokens net old here → Holding declared start tokens 0 more old (drivers.Wire n) rest
target_step declared net more old here rest name n is mention start tokens s = hold_target declared start tokens net more old here rest name n s is mention
