-- All that may come of an expression is the end of the machine that reads it: trees.
use Rattle.std.proofs.Common.{◌≡◌, ◌∙◌, ap, sym, refl, subst, ℕ, ◌+◌, ◌-◌, ◌<◌, ◌≤◌, Bool, true, false, List, [], ◌∷◌, None, Some, Ok, Err, max, arith}
use Rattle.std.specs.Prelude.{nat_le, if◌then◌else◌}
use Rattle.std.proofs.lemmas.Bool.{le-leb, lt-leb}
use Rattle.outcome.specs.Steps.{on_value}
use Rattle.net_core.specs.NetList.{NetList}
use Rattle.net_core.specs.declared.fault.NetFault.{NetFault}
use Rattle.net_verilog.specs.Tokens.{TokenValue}
use Rattle.net_verilog.specs.Words.{is_keyword, start_kind, start_of, next_of}
use Rattle.net_verilog.specs.Targets.{name_kind, named, target_of}
use Rattle.net_verilog.specs.Tree.{Tree, Net, Literal, Group, Not, Binary, IsWell, level, looseness, nesting, Spells}
use Rattle.net_verilog.specs.Made.{Making, mentioned, made, settled}
use Rattle.net_verilog.specs.Expression.{binding, binding_at}
use Rattle.net_verilog.specs.Declarations.{Declarations}
use Rattle.net_verilog.specs.private.Steps.{count_open}
use Rattle.net_verilog.specs.private.Standing.{allows}
use Rattle.net_verilog.specs.declared.kind.Kind.{Kind}
use Rattle.net_verilog.specs.declared.kind.Kind.TheVariants as kinds
use Rattle.net_verilog.specs.declared.operator.Operator.{Operator}
use Rattle.net_verilog.specs.declared.operator.Driver.{Driver}
use Rattle.net_verilog.specs.declared.operator.Driver.TheVariants as drivers
use Rattle.net_verilog.specs.declared.operator.Frame.{Frame}
use Rattle.net_verilog.specs.declared.operator.Frame.TheVariants as frames
use Rattle.net_verilog.specs.declared.operator.Start.TheVariants as starts
use Rattle.net_verilog.specs.declared.operator.Next.TheVariants as nexts
use Rattle.net_verilog.specs.declared.fault.VerilogFault.TheVariants as faults
use Rattle.net_verilog.proofs.Reduction.{reduced}
use Rattle.net_verilog.proofs.StandLemmas.{level_few, loose_some}
use Rattle.net_verilog.proofs.SpotLemmas.{Out, Spot, Want, Have, Leads, after, mention_move, target_move, open_move, start_move, want, left_move, next_move, reduced_move, move, stepped, stopped, moved_alike}

-- the machine ends so, where the net list or the refusal of an operand is this
abbrev pub Goes : Declarations → List Frame → List TokenValue → Making Driver → Out → Type 0
Goes declared stack rest (Ok p) out = Leads declared (Have p.0 stack p.1 rest) out
Goes declared stack rest (Err r) out = out ≡ Err (faults.Net r)

-- the same, where it is a net
abbrev pub Settles : Declarations → ℕ → Operator → List Frame → List TokenValue → Making ℕ → Out → Type 0
Settles declared line operator stack more (Ok p) out = Leads declared (Want p.0 (frames.Left line operator p.1 ∷ stack) more) out
Settles declared line operator stack more (Err r) out = out ≡ Err (faults.Net r)

refused : (declared : Declarations) (spot : Spot) (r : NetFault) (out : Out) → move declared spot ≡ Err (Err (faults.Net r)) → out ≡ Err (faults.Net r) → Leads declared spot out
refused declared spot r out is same =
    let P : Out → Type 0 = λ x. Leads declared spot x in
    subst P (sym same) (stopped declared spot (Err (faults.Net r)) is)

-- a target begins with an identifier
starts_target : (declared : Declarations) (t : TokenValue) (ts rest : List TokenValue) (name : List ℕ) (kind : Kind) (text : List ℕ) → named declared t (name_kind kind text) ts ≡ Ok (name, rest) → start_kind kind text ≡ starts.Target
starts_target declared t ts rest name kinds.Word text is = by (is_keyword text) is
  where
    by : (b : Bool) → named declared t (if b then None else Some text) ts ≡ Ok (name, rest) → (if b then starts.Other else starts.Target) ≡ starts.Target
    by true is = absurd (cc)
    by false is = refl
starts_target declared t ts rest name kinds.Escaped text is = refl
starts_target declared t ts rest name kinds.Number text is = absurd (cc)
starts_target declared t ts rest name kinds.Open text is = absurd (cc)
starts_target declared t ts rest name kinds.Close text is = absurd (cc)
starts_target declared t ts rest name kinds.OpenIndex text is = absurd (cc)
starts_target declared t ts rest name kinds.CloseIndex text is = absurd (cc)
starts_target declared t ts rest name kinds.Comma text is = absurd (cc)
starts_target declared t ts rest name kinds.Semicolon text is = absurd (cc)
starts_target declared t ts rest name kinds.Colon text is = absurd (cc)
starts_target declared t ts rest name kinds.Equals text is = absurd (cc)
starts_target declared t ts rest name kinds.Tilde text is = absurd (cc)
starts_target declared t ts rest name kinds.And text is = absurd (cc)
starts_target declared t ts rest name kinds.Or text is = absurd (cc)
starts_target declared t ts rest name kinds.Xor text is = absurd (cc)
starts_target declared t ts rest name kinds.Xnor text is = absurd (cc)
starts_target declared t ts rest name kinds.LeftOut text is = absurd (cc)
starts_target declared t ts rest name kinds.Directive text is = absurd (cc)
starts_target declared t ts rest name kinds.Wrong text is = absurd (cc)
starts_target declared t ts rest name kinds.End text is = absurd (cc)

want_target : (declared : Declarations) (net : NetList) (stack : List Frame) (tokens rest : List TokenValue) (name : List ℕ) → target_of declared tokens ≡ Ok (name, rest) → move declared (Want net stack tokens) ≡ mention_move stack rest (mentioned net name)
want_target declared net stack [] rest name is = absurd (cc)
want_target declared net stack (t ∷ ts) rest name is = ap (λ s. start_move s declared net stack t ts) (starts_target declared t ts rest name t.kind t.text is) ∙ ap (target_move net stack) is

read_net : (declared : Declarations) (net : NetList) (stack : List Frame) (tokens rest : List TokenValue) (name : List ℕ) (out : Out) → target_of declared tokens ≡ Ok (name, rest) → Goes declared stack rest (made net (Net name)) out → Leads declared (Want net stack tokens) out
read_net declared net stack tokens rest name out is goes = by (mentioned net name) (want_target declared net stack tokens rest name is) goes
  where
    by : (q : Making ℕ) → move declared (Want net stack tokens) ≡ mention_move stack rest q → Goes declared stack rest (on_value (λ p. Ok (p.0, drivers.Wire p.1)) q) out → Leads declared (Want net stack tokens) out
    by (Ok p) moves goes = stepped declared (Want net stack tokens) (Have p.0 stack (drivers.Wire p.1) rest) out moves goes
    by (Err r) moves same = refused declared (Want net stack tokens) r out moves same

-- `(` or `~`
pub opens : (declared : Declarations) (net : NetList) (stack new : List Frame) (tokens more : List TokenValue) (t : TokenValue) → tokens ≡ t ∷ more → start_move (start_of t) declared net stack t more ≡ open_move (nat_le 1024 (count_open stack)) net new t more → count_open stack < 1024 → move declared (Want net stack tokens) ≡ Ok (Want net new more)
opens declared net stack new tokens more t split starts few =
    ap (want declared net stack) split ∙ starts ∙ ap (λ b. open_move b net new t more) (lt-leb 1024 (count_open stack) few)

-- `~` ends
after_not : (declared : Declarations) (net : NetList) (driver : Driver) (stack : List Frame) (rest : List TokenValue) (line : ℕ) (out : Out) → Goes declared stack rest (on_value (λ (q : NetList × ℕ). Ok (q.0, drivers.Not line q.1)) (settled net driver)) out → Leads declared (Have net (frames.Not line ∷ stack) driver rest) out
after_not declared net driver stack rest line out goes = by (settled net driver) refl goes
  where
    by : (q : Making ℕ) → move declared (Have net (frames.Not line ∷ stack) driver rest) ≡ reduced_move rest (on_value (λ (p : NetList × ℕ). reduced (binding_at rest) p.0 stack (drivers.Not line p.1)) q) → Goes declared stack rest (on_value (λ (q : NetList × ℕ). Ok (q.0, drivers.Not line q.1)) q) out → Leads declared (Have net (frames.Not line ∷ stack) driver rest) out
    by (Ok p) moves goes = moved_alike declared (Have net (frames.Not line ∷ stack) driver rest) (Have p.0 stack (drivers.Not line p.1) rest) out moves goes
    by (Err r) moves same = refused declared (Have net (frames.Not line ∷ stack) driver rest) r out moves same

-- an operator ends
after_right : (declared : Declarations) (net : NetList) (driver : Driver) (stack : List Frame) (rest : List TokenValue) (line : ℕ) (operator : Operator) (n : ℕ) (out : Out) → looseness operator ≤ binding_at rest → Goes declared stack rest (on_value (λ (b : NetList × ℕ). Ok (b.0, drivers.Binary line operator n b.1)) (settled net driver)) out → Leads declared (Have net (frames.Left line operator n ∷ stack) driver rest) out
after_right declared net driver stack rest line operator n out tight goes = by (settled net driver) refl goes
  where
    same : move declared (Have net (frames.Left line operator n ∷ stack) driver rest) ≡ reduced_move rest (on_value (λ (p : NetList × ℕ). reduced (binding_at rest) p.0 stack (drivers.Binary line operator n p.1)) (settled net driver))
    same = ap (λ b. reduced_move rest (if b then on_value (λ (p : NetList × ℕ). reduced (binding_at rest) p.0 stack (drivers.Binary line operator n p.1)) (settled net driver) else Ok (record { net = net; stack = frames.Left line operator n ∷ stack; driver = driver }))) (le-leb (looseness operator) (binding_at rest) tight)

    by : (q : Making ℕ) → settled net driver ≡ q → Goes declared stack rest (on_value (λ (b : NetList × ℕ). Ok (b.0, drivers.Binary line operator n b.1)) q) out → Leads declared (Have net (frames.Left line operator n ∷ stack) driver rest) out
    by (Ok p) is goes = moved_alike declared (Have net (frames.Left line operator n ∷ stack) driver rest) (Have p.0 stack (drivers.Binary line operator n p.1) rest) out (same ∙ ap (λ q. reduced_move rest (on_value (λ (p : NetList × ℕ). reduced (binding_at rest) p.0 stack (drivers.Binary line operator n p.1)) q)) is) goes
    by (Err r) is out_is = refused declared (Have net (frames.Left line operator n ∷ stack) driver rest) r out (same ∙ ap (λ q. reduced_move rest (on_value (λ (p : NetList × ℕ). reduced (binding_at rest) p.0 stack (drivers.Binary line operator n p.1)) q)) is) out_is

-- nothing ends that binds more loosely than the cap
pub stays : (cap : ℕ) (net : NetList) (stack : List Frame) (driver : Driver) → 1 ≤ cap → cap ≤ allows stack → reduced cap net stack driver ≡ Ok (record { net = net; stack = stack; driver = driver })
stays cap net [] driver some room = refl
stays cap net (frames.Group ∷ stack) driver some room = refl
stays cap net (frames.Not line ∷ stack) driver some room = absurd (omega (arith, some, room))
stays cap net (frames.Left line operator n ∷ stack) driver some room =
    let loose = (loose_some operator).0 in
    ap (λ b. if b then on_value (λ (p : NetList × ℕ). reduced cap p.0 stack (drivers.Binary line operator n p.1)) (settled net driver) else Ok (record { net = net; stack = frames.Left line operator n ∷ stack; driver = driver })) (lt-leb (looseness operator) cap (omega (arith, room, loose)))

-- an operator after its left operand
pub after_left : (declared : Declarations) (net : NetList) (driver : Driver) (stack : List Frame) (t : TokenValue) (more : List TokenValue) (line : ℕ) (operator : Operator) (out : Out) → next_of t ≡ nexts.Operator operator → t.line ≡ line → looseness operator ≤ allows stack → Settles declared line operator stack more (settled net driver) out → Leads declared (Have net stack driver (t ∷ more)) out
after_left declared net driver stack t more line operator out is at room goes = by (settled net driver) same goes
  where
    cap : binding (next_of t) ≡ looseness operator
    cap = ap binding is

    same : move declared (Have net stack driver (t ∷ more)) ≡ left_move line operator stack more (settled net driver)
    same = ap (λ n. reduced_move (t ∷ more) (reduced n net stack driver)) cap
        ∙ ap (reduced_move (t ∷ more)) (stays (looseness operator) net stack driver (loose_some operator).0 room)
        ∙ ap (λ k. next_move k (record { net = net; stack = stack; driver = driver }) t more) is
        ∙ ap (λ l. left_move l operator stack more (settled net driver)) at

    by : (q : Making ℕ) → move declared (Have net stack driver (t ∷ more)) ≡ left_move line operator stack more q → Settles declared line operator stack more q out → Leads declared (Have net stack driver (t ∷ more)) out
    by (Ok p) moves goes = stepped declared (Have net stack driver (t ∷ more)) (Want p.0 (frames.Left line operator p.1 ∷ stack) more) out moves goes
    by (Err r) moves out_is = refused declared (Have net stack driver (t ∷ more)) r out moves out_is

-- a group that is closed
after_group : (declared : Declarations) (q : Making Driver) (stack : List Frame) (u : TokenValue) (rest : List TokenValue) (out : Out) → next_of u ≡ nexts.Close → Goes declared stack rest q out → Goes declared (frames.Group ∷ stack) (u ∷ rest) q out
after_group declared (Ok p) stack u rest out is goes = stepped declared (Have p.0 (frames.Group ∷ stack) p.1 (u ∷ rest)) (Have p.0 stack p.1 rest) out (ap (λ k. next_move k (record { net = p.0; stack = frames.Group ∷ stack; driver = p.1 }) u rest) is) goes
after_group declared (Err r) stack u rest out is goes = goes

-- the operand of `~`
after_inner : (declared : Declarations) (q : Making Driver) (stack : List Frame) (rest : List TokenValue) (line : ℕ) (out : Out) → Goes declared stack rest (on_value (λ (p : NetList × Driver). on_value (λ (q : NetList × ℕ). Ok (q.0, drivers.Not line q.1)) (settled p.0 p.1)) q) out → Goes declared (frames.Not line ∷ stack) rest q out
after_inner declared (Ok p) stack rest line out goes = after_not declared p.0 p.1 stack rest line out goes
after_inner declared (Err r) stack rest line out goes = goes

-- the right operand
after_second : (declared : Declarations) (q : Making Driver) (stack : List Frame) (rest : List TokenValue) (line : ℕ) (operator : Operator) (n : ℕ) (out : Out) → looseness operator ≤ binding_at rest → Goes declared stack rest (on_value (λ (q : NetList × Driver). on_value (λ (b : NetList × ℕ). Ok (b.0, drivers.Binary line operator n b.1)) (settled q.0 q.1)) q) out → Goes declared (frames.Left line operator n ∷ stack) rest q out
after_second declared (Ok p) stack rest line operator n out tight goes = after_right declared p.0 p.1 stack rest line operator n out tight goes
after_second declared (Err r) stack rest line operator n out tight goes = goes

-- the left operand, where the right one is read from each net list
after_first : (declared : Declarations) (q : Making Driver) (right : Tree) (stack : List Frame) (t : TokenValue) (more rest : List TokenValue) (line : ℕ) (operator : Operator) (out : Out) → next_of t ≡ nexts.Operator operator → t.line ≡ line → looseness operator ≤ allows stack → looseness operator ≤ binding_at rest
    → ((net : NetList) → (n : ℕ) → Goes declared (frames.Left line operator n ∷ stack) rest (made net right) out → Leads declared (Want net (frames.Left line operator n ∷ stack) more) out)
    → Goes declared stack rest (on_value (λ (p : NetList × Driver). on_value (λ (a : NetList × ℕ). on_value (λ (q : NetList × Driver). on_value (λ (b : NetList × ℕ). Ok (b.0, drivers.Binary line operator a.1 b.1)) (settled q.0 q.1)) (made a.0 right)) (settled p.0 p.1)) q) out
    → Goes declared stack (t ∷ more) q out
after_first declared (Ok p) right stack t more rest line operator out is at room tight reads goes = after_left declared p.0 p.1 stack t more line operator out is at room (by (settled p.0 p.1) goes)
  where
    by : (s : Making ℕ) → Goes declared stack rest (on_value (λ (a : NetList × ℕ). on_value (λ (q : NetList × Driver). on_value (λ (b : NetList × ℕ). Ok (b.0, drivers.Binary line operator a.1 b.1)) (settled q.0 q.1)) (made a.0 right)) s) out → Settles declared line operator stack more s out
    by (Ok a) goes = reads a.0 a.1 (after_second declared (made a.0 right) stack rest line operator a.1 out tight goes)
    by (Err r) goes = goes
after_first declared (Err r) right stack t more rest line operator out is at room tight reads goes = goes

-- a tree is read
pub read_tree : (declared : Declarations) (out : Out) (tree : Tree) (net : NetList) (stack : List Frame) (tokens rest : List TokenValue) → Spells declared tree tokens rest → IsWell tree → nesting tree + count_open stack ≤ 1024 → level tree ≤ allows stack → level tree ≤ binding_at rest → Goes declared stack rest (made net tree) out → Leads declared (Want net stack tokens) out
read_tree declared out (Net name) net stack tokens rest spells well flat fits ends goes = read_net declared net stack tokens rest name out spells goes
read_tree declared out (Literal line bit) net stack tokens rest (t, split, is, at) well flat fits ends goes =
    stepped declared (Want net stack tokens) (Have net stack (drivers.Literal line bit) rest) out (ap (want declared net stack) split ∙ ap (λ s. start_move s declared net stack t rest) is ∙ ap (λ l. Ok (Have net stack (drivers.Literal l bit) rest)) at) goes
read_tree declared out (Group inner) net stack tokens rest (t, u, more, split, is, spells, closes) well flat fits ends goes =
    let few : level inner ≤ 3 = level_few inner in
    let cap : binding_at (u ∷ rest) ≡ 3 = ap binding closes in
    stepped
    declared
    (Want net stack tokens)
    (Want net (frames.Group ∷ stack) more)
    out
    (opens declared net stack (frames.Group ∷ stack) tokens more t split (ap (λ s. start_move s declared net stack t more) is) (omega (arith, flat)))
    (read_tree declared out inner net (frames.Group ∷ stack) more (u ∷ rest) spells well (omega (arith, flat)) few (omega (arith, few, cap)) (after_group declared (made net inner) stack u rest out closes goes))
read_tree declared out (Not line inner) net stack tokens rest (t, more, split, is, at, spells) well flat fits ends goes =
    let few = well.1 in
    stepped
    declared
    (Want net stack tokens)
    (Want net (frames.Not line ∷ stack) more)
    out
    (opens declared net stack (frames.Not t.line ∷ stack) tokens more t split (ap (λ s. start_move s declared net stack t more) is) (omega (arith, flat)) ∙ ap (λ l. Ok (Want net (frames.Not l ∷ stack) more)) at)
    (read_tree declared out inner net (frames.Not line ∷ stack) more rest spells well.0 (omega (arith, flat)) few (omega (arith, few)) (after_inner declared (made net inner) stack rest line out goes))
read_tree declared out (Binary line operator left right) net stack tokens rest (t, more, first, is, at, second) well flat fits ends goes =
    let loose = well.2 in
    let tight = well.3 in
    let cap : binding_at (t ∷ more) ≡ looseness operator = ap binding is in
    read_tree declared out left net stack tokens (t ∷ more) first well.0 (max_left (nesting left) (nesting right) (count_open stack) flat) (omega (arith, loose, fits)) (omega (arith, loose, cap)) (after_first declared (made net left) right stack t more rest line operator out is at fits ends (λ mid n. read_tree declared out right mid (frames.Left line operator n ∷ stack) more rest second well.1 (max_right (nesting left) (nesting right) (count_open stack) flat) (omega (arith, tight)) (omega (arith, tight, ends))) goes)
  where
    max_left : (a b c : ℕ) → max a b + c ≤ 1024 → a + c ≤ 1024
    max_left a b c h = omega (arith, h)

    max_right : (a b c : ℕ) → max a b + c ≤ 1024 → b + c ≤ 1024
    max_right a b c h = omega (arith, h)
