-- Expressions: which lists of tokens are expressions, and of which tree. Source: IEEE Std 1364-2005, section 4 and annex A.8,
-- in the profile of docs/FORMATS.md.
use Rattle.std.specs.Prelude.{◌≡◌, ℕ, ◌+◌, ◌-◌, ◌<◌, ◌≤◌, Bool, List, [], ◌∷◌, Ok, max, ⊤}
use Rattle.net_verilog.specs.Tokens.{TokenValue}
use Rattle.net_verilog.specs.Words.{start_of, next_of}
use Rattle.net_verilog.specs.Targets.{target_of}
use Rattle.net_verilog.specs.Declarations.{Declarations}
use Rattle.net_verilog.specs.declared.operator.Operator.{Operator}
use Rattle.net_verilog.specs.declared.operator.Operator.TheVariants.{And, Xor, Xnor, Or}
use Rattle.net_verilog.specs.declared.operator.Start.TheVariants as starts
use Rattle.net_verilog.specs.declared.operator.Next.TheVariants as nexts

-- an expression; literals and operators have their lines
pub data Tree : Type 0 where
  Net : (name : List ℕ) → Tree
  Literal : (line : ℕ) (bit : Bool) → Tree
  Group : (inner : Tree) → Tree
  Not : (line : ℕ) (inner : Tree) → Tree
  Binary : (line : ℕ) (operator : Operator) (left right : Tree) → Tree

-- how loosely an operator binds
abbrev pub looseness : Operator → ℕ
looseness And = 1
looseness Xor = 2
looseness Xnor = 2
looseness Or = 3

-- how loosely the outermost operator of a tree binds
abbrev pub level : Tree → ℕ
level (Binary line operator left right) = looseness operator
level tree = 0

-- Operators are left associative: the right operand of one binds tighter, the left one at least as tightly; `~` takes an operand without a binary operator.
abbrev pub IsWell : Tree → Type 0
IsWell (Net name) = ⊤
IsWell (Literal line bit) = ⊤
IsWell (Group inner) = IsWell inner
IsWell (Not line inner) = IsWell inner × (level inner ≤ 0)
IsWell (Binary line operator left right) = IsWell left × IsWell right × (level left ≤ looseness operator) × (level right < looseness operator)

-- how many `(` and `~` are open at one place at most
abbrev pub nesting : Tree → ℕ
nesting (Net name) = 0
nesting (Literal line bit) = 0
nesting (Group inner) = 1 + nesting inner
nesting (Not line inner) = 1 + nesting inner
nesting (Binary line operator left right) = max (nesting left) (nesting right)

-- the tokens begin with the expression of this tree, and the rest follows it
abbrev pub Spells : Declarations → Tree → List TokenValue → List TokenValue → Type 0
Spells declared (Net name) tokens rest = target_of declared tokens ≡ Ok (name, rest)
Spells declared (Literal line bit) tokens rest = (t : TokenValue) × (tokens ≡ t ∷ rest) × (start_of t ≡ starts.Bit bit) × (t.line ≡ line)
Spells declared (Group inner) tokens rest = (t : TokenValue) × (u : TokenValue) × (more : List TokenValue) × (tokens ≡ t ∷ more) × (start_of t ≡ starts.Group) × Spells declared inner more (u ∷ rest) × (next_of u ≡ nexts.Close)
Spells declared (Not line inner) tokens rest = (t : TokenValue) × (more : List TokenValue) × (tokens ≡ t ∷ more) × (start_of t ≡ starts.Not) × (t.line ≡ line) × Spells declared inner more rest
Spells declared (Binary line operator left right) tokens rest = (t : TokenValue) × (more : List TokenValue) × Spells declared left tokens (t ∷ more) × (next_of t ≡ nexts.Operator operator) × (t.line ≡ line) × Spells declared right more rest

-- what is open at a place of an expression: `(`, `~`, or a binary operator after its left operand
pub data Cut : Type 0 where
  InGroup : Cut
  InNot : (line : ℕ) → Cut
  InRight : (line : ℕ) (operator : Operator) (left : Tree) → Cut

-- how loosely what comes next may bind, where the innermost cut comes first
abbrev pub allowed : List Cut → ℕ
allowed [] = 3
allowed (InGroup ∷ cuts) = 3
allowed (InNot line ∷ cuts) = 0
allowed (InRight line operator left ∷ cuts) = looseness operator - 1

-- how many `(` and `~` are open
abbrev pub depth : List Cut → ℕ
depth [] = 0
depth (InGroup ∷ cuts) = 1 + depth cuts
depth (InNot line ∷ cuts) = 1 + depth cuts
depth (InRight line operator left ∷ cuts) = depth cuts

-- at each operator the left operand and the operator fit where they stand
abbrev pub AreWell : List Cut → Type 0
AreWell [] = ⊤
AreWell (InGroup ∷ cuts) = AreWell cuts × (depth cuts < 1024)
AreWell (InNot line ∷ cuts) = AreWell cuts × (depth cuts < 1024)
AreWell (InRight line operator left ∷ cuts) = AreWell cuts × IsWell left × (level left ≤ looseness operator) × (looseness operator ≤ allowed cuts) × (nesting left + depth cuts ≤ 1024)

-- the tokens begin with an expression of which these cuts are open where the rest begins
abbrev pub Begins : Declarations → List Cut → List TokenValue → List TokenValue → Type 0
Begins declared [] tokens rest = tokens ≡ rest
Begins declared (InGroup ∷ cuts) tokens rest = (t : TokenValue) × Begins declared cuts tokens (t ∷ rest) × (start_of t ≡ starts.Group)
Begins declared (InNot line ∷ cuts) tokens rest = (t : TokenValue) × Begins declared cuts tokens (t ∷ rest) × (start_of t ≡ starts.Not) × (t.line ≡ line)
Begins declared (InRight line operator left ∷ cuts) tokens rest = (t : TokenValue) × (before : List TokenValue) × Begins declared cuts tokens before × Spells declared left before (t ∷ rest) × (next_of t ≡ nexts.Operator operator) × (t.line ≡ line)
