-- What is read of tokens that print, and the faults that repeat their texts, print.
use Rattle.std.proofs.Common.{◌≡◌, ap, inl, inr, sym, refl, subst, ℕ, zero, suc, ◌+◌, ◌/◌, ◌%◌, ◌<◌, ◌==◌, ◌&&◌, ◌||◌, Bool, true, false, cond, List, [], ◌∷◌, ◌++◌, drop, length, codes, decimal, Option, None, Some, Result, Ok, Err, arith}
use Rattle.std.specs.Prelude.{nat_le, nat_lt}
use Rattle.std.specs.List.{AllByRecursion}
use Rattle.std.specs.Fmt.{digits, digits_onto, digit_glyph}
use Rattle.std.specs.Str.{bytes_eq}
use Rattle.std.proofs.lemmas.Bool.{lt-ltb}
use Rattle.std.proofs.lemmas.List.Elements.{All-append, All-drop}
use Rattle.outcome.specs.Outcome.{Outcome, ◌>>=◌, Exactly, Returns}
use Rattle.outcome.specs.Steps.{on_value}
use Rattle.text_core.specs.Lines.{IsPrinting}
use Rattle.net_core.specs.declared.fault.NetFault.{NetFault}
use Rattle.net_core.specs.declared.fault.NetFault.TheVariants as nets
use Rattle.net_verilog.specs.Tokens.{TokenValue}
use Rattle.net_verilog.specs.Words.{is_keyword, literal_of, number_fault, wrong, wrong_kind}
use Rattle.net_verilog.specs.Targets.{after_name, closed, decimal_kind, indexed, is_close_index, is_open_index, name_kind, named, target_of, within}
use Rattle.net_verilog.specs.Parts.{bound, bounded, bounds, identified, identifier, is_sign, range, taken}
use Rattle.net_verilog.specs.Declarations.{Declarations, Range, bit_name, range_of}
use Rattle.net_verilog.specs.private.Places.{Prints, is_wrong}
use Rattle.net_verilog.proofs.PieceLemmas.{Shows, all_cons, none_prints}
use Rattle.net_verilog.specs.declared.kind.Kind.{Kind}
use Rattle.net_verilog.specs.declared.kind.Kind.TheVariants as kinds
use Rattle.net_verilog.specs.declared.sign.Sign.{Sign}
use Rattle.net_verilog.specs.declared.sign.Sign.TheVariants as signs
use Rattle.net_verilog.specs.declared.fault.VerilogFault.{VerilogFault}
use Rattle.net_verilog.specs.declared.fault.VerilogFault.TheVariants as faults

abbrev pub ArePrinting : List TokenValue → Type 0
ArePrinting tokens = AllByRecursion Prints tokens

-- a limit of nets or gates
abbrev pub IsLimit : NetFault → Type 0
IsLimit nets.TooManyNets = Unit {0}
IsLimit nets.TooManyGates = Unit {0}
IsLimit fault = ⊥

-- the word of a fault prints, and one of the net is a limit
abbrev pub FaultPrints : VerilogFault → Type 0
FaultPrints (faults.LeftOut line word) = IsPrinting word
FaultPrints (faults.Net fault) = IsLimit fault
FaultPrints fault = Unit {0}

-- a value is as said, and a fault prints
abbrev pub Good : {A : Type 0} → (A → Type 0) → Result A VerilogFault → Type 0
Good is (Ok value) = is value
Good is (Err fault) = FaultPrints fault

-- what is read is as said, and the tokens after it print
abbrev pub Then : {A : Type 0} → (A → Type 0) → A × List TokenValue → Type 0
Then is read = is read.0 × ArePrinting read.1

abbrev pub Any : {A : Type 0} → A → Type 0
Any value = Unit {0}

pub good_if : {A : Type 0} (is : A → Type 0) (b : Bool) (first second : Result A VerilogFault) → Good is first → Good is second → Good is (cond b first second)
good_if is true first second one other = one
good_if is false first second one other = other

pub good_then : {A B : Type 0} (is : A → Type 0) (will : B → Type 0) (further : A → Result B VerilogFault) (first : Result A VerilogFault) → Good is first → ((a : A) → is a → Good will (further a)) → Good will (on_value further first)
good_then is will further (Ok a) one next = next a one
good_then is will further (Err fault) one next = one

-- ---- what comes of a step

-- values and faults of an outcome are good
abbrev pub Keeps : {A : Type 0} → Outcome VerilogFault A → (A → Type 0) → Type 0
Keeps {A} outcome is = (x : Result A VerilogFault) → outcome x → Good is x

pub keeps_returns : {A : Type 0} (is : A → Type 0) (answer : Result A VerilogFault) → Good is answer → Keeps (Returns answer) is
keeps_returns {A} is answer good x same = let P : Result A VerilogFault → Type 0 = Good is in subst P (sym same) good

pub keeps_exactly : {A : Type 0} (is : A → Type 0) (value : A) → is value → Keeps (Exactly value) is
keeps_exactly is value good (Ok found) same = subst is (sym same) good
keeps_exactly is value good (Err fault) same = absurd same

pub keeps_bind : {A B : Type 0} (is : A → Type 0) (will : B → Type 0) (first : Outcome VerilogFault A) (second : A → Outcome VerilogFault B) → Keeps first is → ((a : A) → is a → Keeps (second a) will) → Keeps (first >>= second) will
keeps_bind is will first second one next (Ok b) h = next h.0 (one (Ok h.0) h.1) (Ok b) h.2
keeps_bind {B = B} is will first second one next (Err fault) h = by h
  where
    by : (first >>= second) (Err fault) → FaultPrints fault
    by (inl w) = one (Err fault) w
    by (inr w) = next w.0 (one (Ok w.0) w.1) (Err fault) w.2

-- ---- texts

glyph : (d : ℕ) → d < 10 → Shows (digit_glyph false d)
glyph d small =
    let is : digit_glyph false d ≡ 48 + d = ap (λ b. cond b (48 + d) (87 + d)) (lt-ltb d 10 small) in
    (omega (arith, is, small), omega (arith, is, small))

onto : (k n : ℕ) (acc : List ℕ) → IsPrinting acc → IsPrinting (digits_onto k 10 false n acc)
onto zero n acc prints = prints
onto (suc k) n acc prints =
    let more : IsPrinting (digit_glyph false (n % 10) ∷ acc) = all_cons (digit_glyph false (n % 10)) acc (glyph (n % 10) (omega arith)) prints in
    either (n / 10 == 0) _ _ more (onto k (n / 10) _ more)
  where
    either : (b : Bool) (xs ys : List ℕ) → IsPrinting xs → IsPrinting ys → IsPrinting (cond b xs ys)
    either true xs ys p q = p
    either false xs ys p q = q

-- printed numbers
pub decimal_prints : (n : ℕ) → IsPrinting (decimal n)
unfolding digits
decimal_prints n = onto 64 n [] none_prints

one_prints : (b : ℕ) → Shows b → IsPrinting (b ∷ [])
one_prints b shows = all_cons b [] shows none_prints

-- names of bits
pub bit_prints : (name : List ℕ) (i : ℕ) → IsPrinting name → IsPrinting (bit_name name i)
bit_prints name i prints =
    All-append Shows (name ++ codes "[" ++ decimal i) (codes "]") (All-append Shows (name ++ codes "[") (decimal i) (All-append Shows name (codes "[") prints (one_prints 91 (omega arith, omega arith))) (decimal_prints i)) (one_prints 93 (omega arith, omega arith))

pub wrong_prints : (t : TokenValue) → Prints t → FaultPrints (wrong t)
wrong_prints t prints = by t.kind prints
  where
    number : (bit : Option Bool) → IsPrinting t.text → FaultPrints (number_fault bit t.text t.line)
    number None text = text
    number (Some bit) text = tt

    word : (b : Bool) → IsPrinting t.text → FaultPrints (cond b (faults.LeftOut t.line t.text) (faults.Syntax t.line))
    word true text = text
    word false text = tt

    by : (kind : Kind) → (is_wrong kind ≡ false → IsPrinting t.text) → FaultPrints (wrong_kind kind t.text t.line)
    by kinds.LeftOut p = p refl
    by kinds.Directive p = All-drop Shows 1 t.text (p refl)
    by kinds.Number p = number (literal_of t.text) (p refl)
    by kinds.Word p = word (bytes_eq t.text (codes "module")) (p refl)
    by kind p = tt

-- the name of an identifier prints
pub name_prints : (t : TokenValue) (name : List ℕ) → name_kind t.kind t.text ≡ Some name → Prints t → IsPrinting name
name_prints t name is prints = by t.kind prints is
  where
    same : (text : List ℕ) → ◌≡◌ {A = Option (List ℕ)} (Some text) (Some name) → IsPrinting text → IsPrinting name
    same text e p = let alike : text ≡ name = cc in subst IsPrinting alike p

    word : (b : Bool) → ◌≡◌ {A = Option (List ℕ)} (cond b None (Some t.text)) (Some name) → IsPrinting t.text → IsPrinting name
    word true e p = absurd (cc)
    word false e p = same t.text e p

    by : (kind : Kind) → (is_wrong kind ≡ false → IsPrinting t.text) → name_kind kind t.text ≡ Some name → IsPrinting name
    by kinds.Word p e = word (is_keyword t.text) e (p refl)
    by kinds.Escaped p e = same (drop 1 t.text) e (All-drop Shows 1 t.text (p refl))
    by kind p e = absurd (cc)

-- ---- parts of statements

pub taken_prints : (sign : Sign) (tokens : List TokenValue) → ArePrinting tokens → Good (Then Any) (taken sign tokens)
taken_prints sign [] prints = tt
taken_prints sign (t ∷ ts) prints = good_if (Then Any) (is_sign sign t.kind) (Ok (t.line, ts)) (Err (wrong t)) (tt, prints.1) (wrong_prints t prints.0)

pub identifier_prints : (tokens : List TokenValue) → ArePrinting tokens → Good (Then (λ (p : ℕ × List ℕ). IsPrinting p.1)) (identifier tokens)
identifier_prints [] prints = tt
identifier_prints (t ∷ ts) prints = by (name_kind t.kind t.text) refl
  where
    by : (found : Option (List ℕ)) → name_kind t.kind t.text ≡ found → Good (Then (λ (p : ℕ × List ℕ). IsPrinting p.1)) (identified t found ts)
    by None is = wrong_prints t prints.0
    by (Some name) is = good_if (Then (λ (p : ℕ × List ℕ). IsPrinting p.1)) (nat_lt 255 (length name) || (length name == 0)) (Err (faults.Syntax t.line)) (Ok ((t.line, name), ts)) tt (name_prints t name is prints.0, prints.1)

bound_prints : (tokens : List TokenValue) → ArePrinting tokens → Good (Then Any) (bound tokens)
bound_prints [] prints = tt
bound_prints (t ∷ ts) prints = by (decimal_kind t.kind t.text)
  where
    by : (found : Option ℕ) → Good (Then Any) (bounded t found ts)
    by None = wrong_prints t prints.0
    by (Some n) = good_if (Then Any) (nat_lt 65535 n) (Err (faults.Syntax t.line)) (Ok (n, ts)) tt (tt, prints.1)

bounds_prints : (tokens : List TokenValue) → ArePrinting tokens → Good (Then Any) (bounds tokens)
bounds_prints tokens prints =
    good_then (Then Any) (Then Any) _ (bound tokens) (bound_prints tokens prints) (λ a one.
    good_then (Then Any) (Then Any) _ (taken signs.Colon a.1) (taken_prints signs.Colon a.1 one.1) (λ colon two.
    good_then (Then Any) (Then Any) _ (bound colon.1) (bound_prints colon.1 two.1) (λ b three.
    good_then (Then Any) (Then Any) _ (taken signs.CloseIndex b.1) (taken_prints signs.CloseIndex b.1 three.1) (λ end four. (tt, four.1)))))

pub range_prints : (tokens : List TokenValue) → ArePrinting tokens → Good (Then Any) (range tokens)
range_prints [] prints = (tt, tt)
range_prints (t ∷ ts) prints = good_if (Then Any) (is_open_index t.kind) (bounds ts) (Ok (None, t ∷ ts)) (bounds_prints ts prints.1) (tt, prints)

-- ---- targets

closed_prints : (net : List ℕ) (tokens : List TokenValue) → IsPrinting net → ArePrinting tokens → Good (Then IsPrinting) (closed net tokens)
closed_prints net [] name prints = tt
closed_prints net (t ∷ ts) name prints = good_if (Then IsPrinting) (is_close_index t.kind) (Ok (net, ts)) (Err (wrong t)) (name, prints.1) (wrong_prints t prints.0)

indexed_prints : (name : List ℕ) (low high : ℕ) (tokens : List TokenValue) → IsPrinting name → ArePrinting tokens → Good (Then IsPrinting) (indexed name low high tokens)
indexed_prints name low high [] shown prints = tt
indexed_prints name low high (t ∷ ts) shown prints = by (decimal_kind t.kind t.text)
  where
    by : (found : Option ℕ) → Good (Then IsPrinting) (within name low high t found ts)
    by None = wrong_prints t prints.0
    by (Some i) = good_if (Then IsPrinting) (nat_le low i && nat_le i high) (closed (bit_name name i) ts) (Err (faults.OutOfRange t.line)) (closed_prints (bit_name name i) ts (bit_prints name i shown) prints.1) tt

after_name_prints : (line : ℕ) (name : List ℕ) (range : Option Range) (tokens : List TokenValue) → IsPrinting name → ArePrinting tokens → Good (Then IsPrinting) (after_name line name range tokens)
after_name_prints line name None tokens shown prints = tt
after_name_prints line name (Some None) [] shown prints = (shown, tt)
after_name_prints line name (Some None) (t ∷ ts) shown prints = good_if (Then IsPrinting) (is_open_index t.kind) (Err (faults.OutOfRange t.line)) (Ok (name, t ∷ ts)) tt (shown, prints)
after_name_prints line name (Some (Some (low, high))) [] shown prints = tt
after_name_prints line name (Some (Some (low, high))) (t ∷ ts) shown prints = good_if (Then IsPrinting) (is_open_index t.kind) (indexed name low high ts) (Err (faults.OutOfRange line)) (indexed_prints name low high ts shown prints.1) tt

pub target_prints : (declared : Declarations) (tokens : List TokenValue) → ArePrinting tokens → Good (Then IsPrinting) (target_of declared tokens)
target_prints declared [] prints = tt
target_prints declared (t ∷ ts) prints = by (name_kind t.kind t.text) refl
  where
    by : (found : Option (List ℕ)) → name_kind t.kind t.text ≡ found → Good (Then IsPrinting) (named declared t found ts)
    by None is = wrong_prints t prints.0
    by (Some name) is = good_if (Then IsPrinting) (nat_lt 255 (length name) || (length name == 0)) (Err (faults.Syntax t.line)) (after_name t.line name (range_of declared name) ts) tt (after_name_prints t.line name (range_of declared name) ts (name_prints t name is prints.0) prints.1)
