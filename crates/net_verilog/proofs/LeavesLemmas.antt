-- How many tokens are left after parts that were read.
use Rattle.std.proofs.Common.{◌≡◌, subst, ap, ℕ, suc, ◌<◌, ◌≤◌, ◌||◌, ◌&&◌, ◌==◌, Bool, true, false, cond, List, [], ◌∷◌, length, Option, None, Some, Ok, Err, arith}
use Rattle.std.specs.Prelude.{nat_le, nat_lt}
use Rattle.outcome.specs.Steps.{on_value}
use Rattle.net_verilog.specs.Tokens.{TokenValue}
use Rattle.net_verilog.specs.Targets.{Answer, name_kind, decimal_kind, is_open_index, is_close_index, closed, within, indexed, after_name, named, target_of}
use Rattle.net_verilog.specs.Tree.{Tree, Net, Literal, Group, Not, Binary, Spells}
use Rattle.net_verilog.specs.Parts.{is_sign, taken, identified, identifier, bounded, bound, bounds, range}
use Rattle.net_verilog.specs.Declarations.{Declarations, Range, bit_name, range_of}
use Rattle.net_verilog.specs.declared.sign.Sign.{Sign}
use Rattle.net_verilog.specs.declared.sign.Sign.TheVariants as signs
use Rattle.net_verilog.specs.declared.fault.VerilogFault.TheVariants as faults
use Rattle.net_verilog.specs.Words.{wrong}

-- an answer leaves so many tokens at most
abbrev pub Leaves : {A : Type 0} → ℕ → Answer A → Type 0
Leaves most (Ok p) = length p.1 ≤ most
Leaves most (Err e) = Unit {0}

pub left_by : {A : Type 0} (most : ℕ) (answer : Answer A) (p : A × List TokenValue) → answer ≡ Ok p → Leaves most answer → length p.1 ≤ most
left_by {A} most answer p is leaves = let P : Answer A → Type 0 = Leaves most in subst P is leaves

leaves_more : {A : Type 0} (few most : ℕ) (answer : Answer A) → few ≤ most → Leaves few answer → Leaves most answer
leaves_more few most (Ok p) more leaves = omega (arith, more, leaves)
leaves_more few most (Err e) more leaves = tt

leaves_cond : {A : Type 0} (most : ℕ) (b : Bool) (one other : Answer A) → Leaves most one → Leaves most other → Leaves most (cond b one other)
leaves_cond most true one other first second = first
leaves_cond most false one other first second = second

leaves_value : {A B : Type 0} (most : ℕ) (f : A × List TokenValue → Answer B) (answer : Answer A) → Leaves most answer → ((p : A × List TokenValue) → length p.1 ≤ most → Leaves most (f p)) → Leaves most (on_value f answer)
leaves_value most f (Ok p) leaves each = each p leaves
leaves_value most f (Err e) leaves each = tt

-- ---- targets

closed_leaves : (net : List ℕ) (ts : List TokenValue) → Leaves (length ts) (closed net ts)
closed_leaves net [] = tt
closed_leaves net (t ∷ ts) = leaves_cond (suc (length ts)) (is_close_index t.kind) (Ok (net, ts)) (Err (wrong t)) (omega arith) tt

within_leaves : (name : List ℕ) (low high : ℕ) (t : TokenValue) (found : Option ℕ) (ts : List TokenValue) → Leaves (length ts) (within name low high t found ts)
within_leaves name low high t None ts = tt
within_leaves name low high t (Some i) ts = leaves_cond (length ts) (nat_le low i && nat_le i high) (closed (bit_name name i) ts) (Err (faults.OutOfRange t.line)) (closed_leaves (bit_name name i) ts) tt

indexed_leaves : (name : List ℕ) (low high : ℕ) (ts : List TokenValue) → Leaves (length ts) (indexed name low high ts)
indexed_leaves name low high [] = tt
indexed_leaves name low high (t ∷ ts) =
    leaves_more (length ts) (suc (length ts)) (within name low high t (decimal_kind t.kind t.text) ts) (omega arith) (within_leaves name low high t (decimal_kind t.kind t.text) ts)

after_leaves : (line : ℕ) (name : List ℕ) (found : Option Range) (ts : List TokenValue) → Leaves (length ts) (after_name line name found ts)
after_leaves line name None ts = tt
after_leaves line name (Some None) [] = omega arith
after_leaves line name (Some None) (t ∷ ts) = leaves_cond (suc (length ts)) (is_open_index t.kind) (Err (faults.OutOfRange t.line)) (Ok (name, t ∷ ts)) tt (omega arith)
after_leaves line name (Some (Some (low, high))) [] = tt
after_leaves line name (Some (Some (low, high))) (t ∷ ts) =
    leaves_cond (suc (length ts)) (is_open_index t.kind) (indexed name low high ts) (Err (faults.OutOfRange line)) (leaves_more (length ts) (suc (length ts)) (indexed name low high ts) (omega arith) (indexed_leaves name low high ts)) tt

named_leaves : (declared : Declarations) (t : TokenValue) (found : Option (List ℕ)) (ts : List TokenValue) → Leaves (length ts) (named declared t found ts)
named_leaves declared t None ts = tt
named_leaves declared t (Some name) ts =
    leaves_cond (length ts) (nat_lt 255 (length name) || (length name == 0)) (Err (faults.Syntax t.line)) (after_name t.line name (range_of declared name) ts) tt (after_leaves t.line name (range_of declared name) ts)

-- a target has a token
pub target_leaves : (declared : Declarations) (t : TokenValue) (ts : List TokenValue) → Leaves (length ts) (target_of declared (t ∷ ts))
target_leaves declared t ts = named_leaves declared t (name_kind t.kind t.text) ts

pub target_shorter : (declared : Declarations) (tokens : List TokenValue) (p : List ℕ × List TokenValue) → target_of declared tokens ≡ Ok p → length p.1 < length tokens
target_shorter declared [] p is = absurd (cc)
target_shorter declared (t ∷ ts) p is = let most : length p.1 ≤ length ts = left_by (length ts) (target_of declared (t ∷ ts)) p is (target_leaves declared t ts) in omega (arith, most)

-- ---- signs, identifiers and ranges

pub taken_shorter : (sign : Sign) (tokens : List TokenValue) (p : ℕ × List TokenValue) → taken sign tokens ≡ Ok p → length p.1 < length tokens
taken_shorter sign [] p is = absurd (cc)
taken_shorter sign (t ∷ ts) p is =
    let most : length p.1 ≤ length ts = left_by (length ts) (taken sign (t ∷ ts)) p is (leaves_cond (length ts) (is_sign sign t.kind) (Ok (t.line, ts)) (Err (wrong t)) (omega arith) tt) in
    omega (arith, most)

identified_leaves : (t : TokenValue) (found : Option (List ℕ)) (ts : List TokenValue) → Leaves (length ts) (identified t found ts)
identified_leaves t None ts = tt
identified_leaves t (Some name) ts = leaves_cond (length ts) (nat_lt 255 (length name) || (length name == 0)) (Err (faults.Syntax t.line)) (Ok ((t.line, name), ts)) tt (omega arith)

pub identifier_shorter : (tokens : List TokenValue) (p : (ℕ × List ℕ) × List TokenValue) → identifier tokens ≡ Ok p → length p.1 < length tokens
identifier_shorter [] p is = absurd (cc)
identifier_shorter (t ∷ ts) p is =
    let most : length p.1 ≤ length ts = left_by (length ts) (identifier (t ∷ ts)) p is (identified_leaves t (name_kind t.kind t.text) ts) in
    omega (arith, most)

taken_leaves : (sign : Sign) (ts : List TokenValue) → Leaves (length ts) (taken sign ts)
taken_leaves sign [] = tt
taken_leaves sign (t ∷ ts) = leaves_cond (suc (length ts)) (is_sign sign t.kind) (Ok (t.line, ts)) (Err (wrong t)) (omega arith) tt

bounded_leaves : (t : TokenValue) (found : Option ℕ) (ts : List TokenValue) → Leaves (length ts) (bounded t found ts)
bounded_leaves t None ts = tt
bounded_leaves t (Some n) ts = leaves_cond (length ts) (nat_lt 65535 n) (Err (faults.Syntax t.line)) (Ok (n, ts)) tt (omega arith)

bound_leaves : (ts : List TokenValue) → Leaves (length ts) (bound ts)
bound_leaves [] = tt
bound_leaves (t ∷ ts) = leaves_more (length ts) (suc (length ts)) (bounded t (decimal_kind t.kind t.text) ts) (omega arith) (bounded_leaves t (decimal_kind t.kind t.text) ts)

bounds_leaves : (ts : List TokenValue) → Leaves (length ts) (bounds ts)
bounds_leaves ts =
    leaves_value (length ts) _ (bound ts) (bound_leaves ts) (λ a first.
    leaves_value (length ts) _ (taken signs.Colon a.1) (leaves_more (length a.1) (length ts) (taken signs.Colon a.1) first (taken_leaves signs.Colon a.1)) (λ colon second.
    leaves_value (length ts) _ (bound colon.1) (leaves_more (length colon.1) (length ts) (bound colon.1) second (bound_leaves colon.1)) (λ b third.
    leaves_value (length ts) _ (taken signs.CloseIndex b.1) (leaves_more (length b.1) (length ts) (taken signs.CloseIndex b.1) third (taken_leaves signs.CloseIndex b.1)) (λ end fourth. fourth))))

pub range_leaves : (ts : List TokenValue) → Leaves (length ts) (range ts)
range_leaves [] = omega arith
range_leaves (t ∷ ts) = leaves_cond (suc (length ts)) (is_open_index t.kind) (bounds ts) (Ok (None, t ∷ ts)) (leaves_more (length ts) (suc (length ts)) (bounds ts) (omega arith) (bounds_leaves ts)) (omega arith)

-- ---- expressions

pub spells_shorter : (declared : Declarations) (tree : Tree) (tokens rest : List TokenValue) → Spells declared tree tokens rest → length rest < length tokens
spells_shorter declared (Net name) tokens rest is = target_shorter declared tokens (name, rest) is
spells_shorter declared (Literal line bit) tokens rest is = let same : length tokens ≡ suc (length rest) = ap (λ (ts : List TokenValue). length ts) is.1 in omega (arith, same)
spells_shorter declared (Group inner) tokens rest is =
    let same : length tokens ≡ suc (length is.2) = ap (λ (ts : List TokenValue). length ts) is.3 in
    let less : suc (length rest) < length is.2 = spells_shorter declared inner is.2 (is.1 ∷ rest) is.5 in
    omega (arith, same, less)
spells_shorter declared (Not line inner) tokens rest is =
    let same : length tokens ≡ suc (length is.1) = ap (λ (ts : List TokenValue). length ts) is.2 in
    let less : length rest < length is.1 = spells_shorter declared inner is.1 rest is.5 in
    omega (arith, same, less)
spells_shorter declared (Binary line operator left right) tokens rest is =
    let first : suc (length is.1) < length tokens = spells_shorter declared left tokens (is.0 ∷ is.1) is.2 in
    let second : length rest < length is.1 = spells_shorter declared right is.1 rest is.5 in
    omega (arith, first, second)
