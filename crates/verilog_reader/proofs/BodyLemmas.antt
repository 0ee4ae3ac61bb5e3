-- Items and the `;` after them.
use Rattle.std.proofs.Common.{◌≡◌, ◌∙◌, ap, inl, inr, refl, subst, sym, ℕ, List, ◌∷◌, Result, Ok, Err}
use Rattle.net_verilog.specs.Tokens.{TokenValue, unless_end}
use Rattle.net_verilog.specs.Parts.{taken}
use Rattle.net_verilog.specs.declared.kind.Kind.{Kind}
use Rattle.net_verilog.specs.declared.kind.Kind.TheVariants as kinds
use Rattle.net_verilog.specs.declared.sign.Sign.TheVariants as signs
use Rattle.net_verilog.specs.declared.fault.VerilogFault.{VerilogFault}
use Rattle.verilog_reader.specs.Items.{Item, ReadsItem, State, item_start, kind_start}
use Rattle.verilog_reader.specs.private.Bodies.{Body}
use Rattle.verilog_reader.specs.declared.starts.ItemStart.{ItemStart}
use Rattle.verilog_reader.specs.declared.starts.ItemStart.TheVariants.{Declaration, Assignments, Instances, Other}

ended : (start : ItemStart) (state s : State) (t : TokenValue) (ts rest after : List TokenValue) (line : ℕ) → Body start state t ts (Ok (s, rest)) → taken signs.Semicolon rest ≡ Ok (line, after) → ReadsItem start state t ts (Ok (s, after))
ended (Declaration direction) state s t ts rest after line (ranged, is, names) ends = (ranged, is, ((s, rest), names, ((line, after), sym ends, refl)))
ended Assignments state s t ts rest after line (net, reads, same) ends =
    let end : rest ≡ net.1 = ap (λ (p : State × List TokenValue). p.1) same in
    let made : s ≡ (state.0, net.0) = ap (λ (p : State × List TokenValue). p.0) same in
    (net, reads, ((line, after), sym ends ∙ ap (taken signs.Semicolon) end, ap (λ x. (x, after)) made))
ended (Instances kind) state s t ts rest after line (net, reads, same) ends =
    let end : rest ≡ net.1 = ap (λ (p : State × List TokenValue). p.1) same in
    let made : s ≡ (state.0, net.0) = ap (λ (p : State × List TokenValue). p.0) same in
    (net, reads, ((line, after), sym ends ∙ ap (taken signs.Semicolon) end, ap (λ x. (x, after)) made))
ended Other state s t ts rest after line is ends = absurd (cc)

unended : (start : ItemStart) (state s : State) (t : TokenValue) (ts rest : List TokenValue) (fault : VerilogFault) → Body start state t ts (Ok (s, rest)) → taken signs.Semicolon rest ≡ Err fault → ReadsItem start state t ts (Err fault)
unended (Declaration direction) state s t ts rest fault (ranged, is, names) ends = inr (ranged, is, inr ((s, rest), names, inl (sym ends)))
unended Assignments state s t ts rest fault (net, reads, same) ends =
    let end : rest ≡ net.1 = ap (λ (p : State × List TokenValue). p.1) same in
    inr (net, reads, inl (sym ends ∙ ap (taken signs.Semicolon) end))
unended (Instances kind) state s t ts rest fault (net, reads, same) ends =
    let end : rest ≡ net.1 = ap (λ (p : State × List TokenValue). p.1) same in
    inr (net, reads, inl (sym ends ∙ ap (taken signs.Semicolon) end))
unended Other state s t ts rest fault is ends = absurd (cc)

refused : (start : ItemStart) (state : State) (t : TokenValue) (ts : List TokenValue) (fault : VerilogFault) → Body start state t ts (Err fault) → ReadsItem start state t ts (Err fault)
refused (Declaration direction) state t ts fault (inl is) = inl is
refused (Declaration direction) state t ts fault (inr (ranged, is, refuses)) = inr (ranged, is, inl refuses)
refused Assignments state t ts fault (inl refuses) = inl refuses
refused Assignments state t ts fault (inr (net, reads, never)) = absurd never
refused (Instances kind) state t ts fault (inl refuses) = inl refuses
refused (Instances kind) state t ts fault (inr (net, reads, never)) = absurd never
refused Other state t ts fault is = is

-- what begins at a place, whose first token is this one
module _ (state : State) (here ts : List TokenValue) (t : TokenValue) (start : ItemStart) (split : here ≡ t ∷ unless_end t.kind ts) (begins : start ≡ item_start t) where
  item_at : (outcome : Result (State × List TokenValue) VerilogFault) → ReadsItem start state t ts outcome → Item state here outcome
  item_at outcome reads =
      let P : List TokenValue → Type 0 = λ xs. Item state xs outcome in
      let Q : ItemStart → Type 0 = λ s. ReadsItem s state t ts outcome in
      subst P (sym split) (by t.kind t.text (subst Q begins reads))
    where
      by : (kind : Kind) (text : List ℕ) → ReadsItem (kind_start kind text) state t ts outcome → ReadsItem (kind_start kind text) state t (unless_end kind ts) outcome
      by kinds.End text reads = reads
      by kind text reads = reads

  pub item_made : (s : State) (rest after : List TokenValue) (line : ℕ) → Body start state t ts (Ok (s, rest)) → taken signs.Semicolon rest ≡ Ok (line, after) → Item state here (Ok (s, after))
  item_made s rest after line body ends = item_at (Ok (s, after)) (ended start state s t ts rest after line body ends)

  pub item_unended : (s : State) (rest : List TokenValue) (fault : VerilogFault) → Body start state t ts (Ok (s, rest)) → taken signs.Semicolon rest ≡ Err fault → Item state here (Err fault)
  item_unended s rest fault body ends = item_at (Err fault) (unended start state s t ts rest fault body ends)

  pub item_refused : (fault : VerilogFault) → Body start state t ts (Err fault) → Item state here (Err fault)
  item_refused fault refuses = item_at (Err fault) (refused start state t ts fault refuses)
