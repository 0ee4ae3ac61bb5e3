-- Of tokens there is an expression or its first fault: they are read one after another.
use Rattle.std.proofs.Common.{◌≡◌, ◌⊎◌, ◌∙◌, ap, refl, inl, inr, ℕ, zero, suc, ◌<◌, ◌≤◌, false, cond, List, [], ◌∷◌, length, Option, None, Some, Result, Ok, Err, arith}
use Rattle.std.specs.Prelude.{nat_le}
use Rattle.std.proofs.lemmas.Bool.{cases_lt, le-leb}
use Rattle.net_core.specs.NetList.{NetList}
use Rattle.net_core.specs.declared.fault.NetFault.{NetFault}
use Rattle.net_verilog.specs.Tokens.{TokenValue}
use Rattle.net_verilog.specs.Words.{start_of, next_of, wrong}
use Rattle.net_verilog.specs.Targets.{Answer, target_of}
use Rattle.net_verilog.specs.Tree.{looseness}
use Rattle.net_verilog.specs.Made.{mentioned, settled}
use Rattle.net_verilog.specs.Expression.{Expression, Read, continues, goes_on, group_fault, close_fault, start_fault, target_fault}
use Rattle.net_verilog.specs.Declarations.{Declarations}
use Rattle.net_verilog.specs.declared.operator.Operator.{Operator}
use Rattle.net_verilog.specs.declared.operator.Driver.{Driver}
use Rattle.net_verilog.specs.declared.operator.Driver.TheVariants as drivers
use Rattle.net_verilog.specs.declared.operator.Frame.{Frame}
use Rattle.net_verilog.specs.declared.operator.Frame.TheVariants as frames
use Rattle.net_verilog.specs.declared.operator.Start.{Start}
use Rattle.net_verilog.specs.declared.operator.Start.TheVariants as starts
use Rattle.net_verilog.specs.declared.operator.Next.{Next}
use Rattle.net_verilog.specs.declared.operator.Next.TheVariants as nexts
use Rattle.net_verilog.specs.declared.fault.VerilogFault.{VerilogFault}
use Rattle.net_verilog.specs.declared.fault.VerilogFault.TheVariants as faults
use Rattle.net_verilog.specs.private.Standing.{Standing, Holding, allows}
use Rattle.net_verilog.specs.private.Steps.{count_open}
use Rattle.net_verilog.proofs.AfterLemmas.{ends_before}
use Rattle.net_verilog.proofs.EndLemmas.{end_right, right_refused, push_left, left_refused, close_group, group_refused, whole, raised}
use Rattle.net_verilog.proofs.LeavesLemmas.{target_shorter}
use Rattle.net_verilog.proofs.StandLemmas.{loose_some, push_group, push_not, hold_literal, hold_target, target_refused, operand_refused, end_not, not_refused}

-- nothing is open, or a group is the innermost
abbrev IsBase : List Frame → Type 0
IsBase [] = Unit {0}
IsBase (frames.Group ∷ stack) = Unit {0}
IsBase (frames.Not line ∷ stack) = ⊥
IsBase (frames.Left line operator n ∷ stack) = ⊥

module _ (declared : Declarations) (start : NetList) (tokens : List TokenValue) where
  abbrev SomeRead : Type 0
  SomeRead = (outcome : Result Read VerilogFault) × Expression declared start tokens outcome

  -- ---- ends

  -- all that binds at least as tightly as the cap has ended, up to a group
  record AllEnded (cap : ℕ) (here : List TokenValue) : Type 0 where
    pub net : NetList
    pub stack : List Frame
    pub driver : Driver
    pub held : Holding declared start tokens cap net stack driver here
    pub room : cap ≤ allows stack
    pub base : cap ≡ 3 → IsBase stack

  module _ (cap : ℕ) (few : cap ≤ 3) (here : List TokenValue) where
    not_ends : (stack : List Frame) (net : NetList) (driver : Driver) (line : ℕ) → Holding declared start tokens cap net (frames.Not line ∷ stack) driver here → ((more : NetList) (last : Driver) → Holding declared start tokens cap more stack last here → SomeRead ⊎ AllEnded cap here)
        → (made : Result (NetList × ℕ) NetFault) → settled net driver ≡ made → SomeRead ⊎ AllEnded cap here
    not_ends stack net driver line h goes (Ok p) is = goes p.0 (drivers.Not line p.1) (end_not declared start tokens cap net p.0 stack driver here line p.1 h is)
    not_ends stack net driver line h goes (Err refusal) is = inl (Err (faults.Net refusal), not_refused declared start tokens cap net stack driver here line refusal h is)

    right_ends : (stack : List Frame) (net : NetList) (driver : Driver) (line : ℕ) (operator : Operator) (number : ℕ) → Holding declared start tokens cap net (frames.Left line operator number ∷ stack) driver here → looseness operator ≤ cap
        → ((more : NetList) (last : Driver) → Holding declared start tokens cap more stack last here → SomeRead ⊎ AllEnded cap here) → (made : Result (NetList × ℕ) NetFault) → settled net driver ≡ made → SomeRead ⊎ AllEnded cap here
    right_ends stack net driver line operator number h tight goes (Ok p) is = goes p.0 (drivers.Binary line operator number p.1) (end_right declared start tokens cap net p.0 stack driver here line operator number p.1 h tight is)
    right_ends stack net driver line operator number h tight goes (Err refusal) is = inl (Err (faults.Net refusal), right_refused declared start tokens cap net stack driver here line operator number refusal h tight is)

    all_end : (stack : List Frame) (net : NetList) (driver : Driver) → Holding declared start tokens cap net stack driver here → SomeRead ⊎ AllEnded cap here
    all_end [] net driver h = inr (record { net = net; stack = []; driver = driver; held = h; room = few; base = λ e. tt })
    all_end (frames.Group ∷ stack) net driver h = inr (record { net = net; stack = frames.Group ∷ stack; driver = driver; held = h; room = few; base = λ e. tt })
    all_end (frames.Not line ∷ stack) net driver h = not_ends stack net driver line h (all_end stack) (settled net driver) refl
    all_end (frames.Left line operator number ∷ stack) net driver h =
        elim (cases_lt cap (looseness operator)) [
          | inl loose ↦ inr (record {
            net = net;
            stack = frames.Left line operator number ∷ stack;
            driver = driver;
            held = h;
            room = omega (arith, loose);
            base = λ e. omega (arith, e, loose, (loose_some operator).1);
          })
          | inr tight ↦ right_ends stack net driver line operator number h tight (all_end stack) (settled net driver) refl
        ]

  -- ---- turns

  -- reading where fewer tokens are left than this
  record Goes (n : ℕ) : Type 0 where
    pub stand : (net : NetList) (stack : List Frame) (here : List TokenValue) → length here < n → Standing declared start tokens net stack here → SomeRead
    pub hold : (net : NetList) (stack : List Frame) (driver : Driver) (here : List TokenValue) → length here < n → Holding declared start tokens 0 net stack driver here → SomeRead

  -- the expression ends, or stands in a group that neither goes on nor is closed
  finish : (here : List TokenValue) (fault : VerilogFault) → continues here ≡ false → group_fault here ≡ Some fault → AllEnded 3 here → SomeRead
  finish here fault ends is e = by e.stack e.held (e.base refl)
    where
      by : (stack : List Frame) → Holding declared start tokens 3 e.net stack e.driver here → IsBase stack → SomeRead
      by [] held base = (Ok (record { net = e.net; driver = e.driver; rest = here }), whole declared start tokens 3 e.net e.driver here held ends)
      by (frames.Group ∷ stack) held base = (Err fault, group_refused declared start tokens 3 e.net stack e.driver here fault held is)
      by (frames.Not line ∷ stack) held base = absurd base
      by (frames.Left line operator n ∷ stack) held base = absurd base

  module _ (n : ℕ) (goes : Goes n) (t : TokenValue) (ts : List TokenValue) (low : length ts < n) where
    -- `)` closes a group, or the expression ends before it
    close : next_of t ≡ nexts.Close → AllEnded 3 (t ∷ ts) → SomeRead
    close is e = by e.stack e.held (e.base refl)
      where
        by : (stack : List Frame) → Holding declared start tokens 3 e.net stack e.driver (t ∷ ts) → IsBase stack → SomeRead
        by [] held base = (Ok (record { net = e.net; driver = e.driver; rest = t ∷ ts }), whole declared start tokens 3 e.net e.driver (t ∷ ts) held (ap goes_on is))
        by (frames.Group ∷ stack) held base = goes.hold e.net stack e.driver ts low (close_group declared start tokens 3 e.net stack e.driver t ts held is)
        by (frames.Not line ∷ stack) held base = absurd base
        by (frames.Left line operator m ∷ stack) held base = absurd base

    -- an operator opens its right operand
    opens_right : (operator : Operator) → next_of t ≡ nexts.Operator operator → (e : AllEnded (looseness operator) (t ∷ ts)) → (made : Result (NetList × ℕ) NetFault) → settled e.net e.driver ≡ made → SomeRead
    opens_right operator is e (Ok p) made = goes.stand p.0 (frames.Left t.line operator p.1 ∷ e.stack) ts low (push_left declared start tokens e.net p.0 e.stack e.driver t ts operator p.1 e.held is e.room made)
    opens_right operator is e (Err refusal) made = (Err (faults.Net refusal), left_refused declared start tokens e.net e.stack e.driver t ts operator refusal e.held is e.room made)

    at_next : (net : NetList) (stack : List Frame) (driver : Driver) → Holding declared start tokens 0 net stack driver (t ∷ ts) → (next : Next) → next_of t ≡ next → SomeRead
    at_next net stack driver h (nexts.Operator operator) is =
        elim (all_end (looseness operator) (loose_some operator).1 (t ∷ ts) stack net driver (raised declared start tokens net stack driver (t ∷ ts) 0 (looseness operator) (omega arith) (ends_before (looseness operator) (t ∷ ts) t ts (nexts.Operator operator) refl is refl) h)) [
          | inl some ↦ some
          | inr e ↦ opens_right operator is e (settled e.net e.driver) refl
        ]
    at_next net stack driver h nexts.Close is =
        elim (all_end 3 (omega arith) (t ∷ ts) stack net driver (raised declared start tokens net stack driver (t ∷ ts) 0 3 (omega arith) (ends_before 3 (t ∷ ts) t ts nexts.Close refl is refl) h)) [
          | inl some ↦ some
          | inr e ↦ close is e
        ]
    at_next net stack driver h nexts.Other is =
        elim (all_end 3 (omega arith) (t ∷ ts) stack net driver (raised declared start tokens net stack driver (t ∷ ts) 0 3 (omega arith) (ends_before 3 (t ∷ ts) t ts nexts.Other refl is refl) h)) [
          | inl some ↦ some
          | inr e ↦ finish (t ∷ ts) (wrong t) (ap goes_on is) (ap (λ k. close_fault k t) is) e
        ]

    module _ (net : NetList) (stack : List Frame) (s : Standing declared start tokens net stack (t ∷ ts)) where
      refuse : (fault : VerilogFault) → start_fault declared (count_open stack) (start_of t) t ts ≡ Some fault → SomeRead
      refuse fault is = (Err fault, operand_refused declared start tokens net stack (t ∷ ts) fault s is)

      -- as many are open as may be
      too_deep : 1024 ≤ count_open stack → ◌≡◌ {A = Option VerilogFault} (cond (nat_le 1024 (count_open stack)) (Some (faults.LeftOut t.line t.text)) None) (Some (faults.LeftOut t.line t.text))
      too_deep many = ap (λ b. cond b (Some (faults.LeftOut t.line t.text)) None) (le-leb 1024 (count_open stack) many)

      at_mention : (p : List ℕ × List TokenValue) → target_of declared (t ∷ ts) ≡ Ok p → (made : Result (NetList × ℕ) NetFault) → mentioned net p.0 ≡ made → SomeRead
      at_mention p is (Ok q) made =
          let less : length p.1 < suc (length ts) = target_shorter declared (t ∷ ts) p is in
          goes.hold q.0 stack (drivers.Wire q.1) p.1 (omega (arith, less, low)) (hold_target declared start tokens net q.0 stack (t ∷ ts) p.1 p.0 q.1 s is made)
      at_mention p is (Err refusal) made = (Err (faults.Net refusal), target_refused declared start tokens net stack (t ∷ ts) p.1 p.0 refusal s is made)

      at_target : start_of t ≡ starts.Target → (answer : Answer (List ℕ)) → target_of declared (t ∷ ts) ≡ answer → SomeRead
      at_target is (Ok p) found = at_mention p found (mentioned net p.0) refl
      at_target is (Err fault) found = refuse fault (ap (λ k. start_fault declared (count_open stack) k t ts) is ∙ ap target_fault found)

      at_start : (kind : Start) → start_of t ≡ kind → SomeRead
      at_start starts.Group is =
          elim (cases_lt (count_open stack) 1024) [
            | inl few ↦ goes.stand net (frames.Group ∷ stack) ts low (push_group declared start tokens net stack t ts s is few)
            | inr many ↦ refuse (faults.LeftOut t.line t.text) (ap (λ k. start_fault declared (count_open stack) k t ts) is ∙ too_deep many)
          ]
      at_start starts.Not is =
          elim (cases_lt (count_open stack) 1024) [
            | inl few ↦ goes.stand net (frames.Not t.line ∷ stack) ts low (push_not declared start tokens net stack t ts s is few)
            | inr many ↦ refuse (faults.LeftOut t.line t.text) (ap (λ k. start_fault declared (count_open stack) k t ts) is ∙ too_deep many)
          ]
      at_start (starts.Bit bit) is = goes.hold net stack (drivers.Literal t.line bit) ts low (hold_literal declared start tokens net stack t ts bit s is)
      at_start starts.Target is = at_target is (target_of declared (t ∷ ts)) refl
      at_start starts.Other is = refuse (wrong t) (ap (λ k. start_fault declared (count_open stack) k t ts) is)

  stand_on : (n : ℕ) → Goes n → (net : NetList) (stack : List Frame) (here : List TokenValue) → length here < suc n → Standing declared start tokens net stack here → SomeRead
  stand_on n goes net stack [] low s = (Err (faults.Syntax 0), operand_refused declared start tokens net stack [] (faults.Syntax 0) s refl)
  stand_on n goes net stack (t ∷ ts) low s = at_start n goes t ts (omega (arith, low)) net stack s (start_of t) refl

  hold_on : (n : ℕ) → Goes n → (net : NetList) (stack : List Frame) (driver : Driver) (here : List TokenValue) → length here < suc n → Holding declared start tokens 0 net stack driver here → SomeRead
  hold_on n goes net stack driver [] low h =
      elim (all_end 3 (omega arith) [] stack net driver (raised declared start tokens net stack driver [] 0 3 (omega arith) (omega arith) h)) [
        | inl some ↦ some
        | inr e ↦ finish [] (faults.Syntax 0) refl refl e
      ]
  hold_on n goes net stack driver (t ∷ ts) low h = at_next n goes t ts (omega (arith, low)) net stack driver h (next_of t) refl

  all_turns : (n : ℕ) → Goes n
  all_turns zero = record { stand = λ net stack here low s. absurd (omega (arith, low)); hold = λ net stack driver here low h. absurd (omega (arith, low)) }
  all_turns (suc n) = record { stand = stand_on n (all_turns n); hold = hold_on n (all_turns n) }

  pub some_expression : SomeRead
  some_expression = (all_turns (suc (length tokens))).stand start [] tokens (omega arith) (record { cuts = []; begins = refl; well = tt; opens = refl })
