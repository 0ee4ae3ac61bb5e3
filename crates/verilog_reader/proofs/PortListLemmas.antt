-- Lists of ports: where one is closed at once, where none stands, and ports with the `)` after them.
use Rattle.std.proofs.Common.{◌≡◌, ◌∙◌, ap, inl, inr, refl, subst, sym, ℕ, Bool, true, false, List, ◌∷◌, Option, None, Some, Result, Ok, Err}
use Rattle.outcome.specs.Outcome.{Exactly}
use Rattle.net_verilog.specs.Tokens.{TokenValue, is_end}
use Rattle.net_verilog.specs.Parts.{is_close, taken}
use Rattle.net_verilog.specs.Several.{Either, after_first}
use Rattle.net_verilog.specs.declared.declared.Direction.{Direction}
use Rattle.net_verilog.specs.declared.kind.Kind.{Kind}
use Rattle.net_verilog.specs.declared.kind.Kind.TheVariants as kinds
use Rattle.net_verilog.specs.declared.fault.VerilogFault.{VerilogFault}
use Rattle.net_verilog.specs.declared.sign.Sign.TheVariants as signs
use Rattle.verilog_reader.specs.Items.{State, item_start}
use Rattle.verilog_reader.specs.Modules.{PortList, PortsAfter, PortsFrom, open_first, port_direction}
use Rattle.verilog_reader.specs.private.Ports.{NamesFrom}

-- a `)` is not the end
pub close_goes : (kind : Kind) → is_close kind ≡ true → is_end kind ≡ false
close_goes kinds.Close is = refl
close_goes kind is = absurd (cc)

pub ports_close : (state : State) (tokens ts : List TokenValue) (t : TokenValue) → tokens ≡ t ∷ ts → is_close t.kind ≡ true → PortsAfter state tokens (Ok (state, ts))
ports_close state tokens ts t is closes =
    let P : List TokenValue → Type 0 = λ xs. PortsAfter state xs (Ok (state, ts)) in
    let Q : Bool → Type 0 = λ b. Either b (Exactly (state, ts)) (PortsFrom (port_direction (item_start t)) state (t ∷ ts)) (Ok (state, ts)) in
    subst P (sym is) (subst Q (sym closes) refl)

pub ports_none : (state : State) (tokens : List TokenValue) → open_first tokens ≡ false → PortList state tokens (Ok (state, tokens))
ports_none state tokens none =
    let P : Bool → Type 0 = λ b. Either b (PortsAfter state (after_first tokens)) (Exactly (state, tokens)) (Ok (state, tokens)) in
    subst P (sym none) refl

-- the ports that begin with a token, where it is no `)`
pub ports_after : (state : State) (tokens ts : List TokenValue) (t : TokenValue) (begins : Option Direction) (outcome : Result (State × List TokenValue) VerilogFault) → tokens ≡ t ∷ ts → is_close t.kind ≡ false → begins ≡ port_direction (item_start t) → PortsFrom begins state tokens outcome → PortsAfter state tokens outcome
ports_after state tokens ts t begins outcome is goes same reads =
    let P : List TokenValue → Type 0 = λ xs. PortsAfter state xs outcome in
    let Q : Bool → Type 0 = λ b. Either b (Exactly (state, ts)) (PortsFrom (port_direction (item_start t)) state (t ∷ ts)) outcome in
    let R : Option Direction → Type 0 = λ b. PortsFrom b state (t ∷ ts) outcome in
    let S : List TokenValue → Type 0 = λ xs. PortsFrom begins state xs outcome in
    subst P (sym is) (subst Q (sym goes) (subst R same (subst S is reads)))

-- ports and their `)`
pub names_closed : (begins : Option Direction) (state s : State) (tokens rest after : List TokenValue) (line : ℕ) → NamesFrom begins state tokens (Ok (s, rest)) → taken signs.Close rest ≡ Ok (line, after) → PortsFrom begins state tokens (Ok (s, after))
names_closed None state s tokens rest after line names closes = ((s, rest), names, ((line, after), sym closes, refl))
names_closed (Some direction) state s tokens rest after line (ports, names, same) closes =
    let end : rest ≡ ports.1 = ap (λ (p : State × List TokenValue). p.1) same in
    let made : s ≡ ports.0.1 = ap (λ (p : State × List TokenValue). p.0) same in
    (ports, names, ((line, after), sym closes ∙ ap (taken signs.Close) end, ap (λ x. (x, after)) made))

-- ports without one
pub names_open : (begins : Option Direction) (state s : State) (tokens rest : List TokenValue) (fault : VerilogFault) → NamesFrom begins state tokens (Ok (s, rest)) → taken signs.Close rest ≡ Err fault → PortsFrom begins state tokens (Err fault)
names_open None state s tokens rest fault names is = inr ((s, rest), names, inl (sym is))
names_open (Some direction) state s tokens rest fault (ports, names, same) is =
    let end : rest ≡ ports.1 = ap (λ (p : State × List TokenValue). p.1) same in
    inr (ports, names, inl (sym is ∙ ap (taken signs.Close) end))

pub names_refused : (begins : Option Direction) (state : State) (tokens : List TokenValue) (fault : VerilogFault) → NamesFrom begins state tokens (Err fault) → PortsFrom begins state tokens (Err fault)
names_refused None state tokens fault refuses = inl refuses
names_refused (Some direction) state tokens fault (inl refuses) = inl refuses
names_refused (Some direction) state tokens fault (inr (ports, names, never)) = absurd never
