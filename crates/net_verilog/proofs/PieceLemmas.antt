-- All tokens print but for the bytes that no token has.
use Rattle.std.proofs.Common.{◌≡◌, sym, refl, subst, ℕ, zero, suc, ◌+◌, ◌<◌, ◌≤◌, Bool, true, false, cond, List, [], ◌∷◌, length, take, get_or, Option, None, Some, arith}
use Rattle.std.specs.Prelude.{◌==◌, ◌||◌, ◌&&◌, nat_le, take_while}
use Rattle.std.proofs.lemmas.Bool.{eqb-true, leb-true}
use Rattle.std.proofs.lemmas.List.Sums.{take_while-cons}
use Rattle.lists.specs.laws.BoolLaws.{first_true, second_true}
use Rattle.text_core.specs.Lines.{IsPrinting}
use Rattle.net_verilog.specs.Bytes.{is_white, is_letter, is_digit, class_has, run, after_pair}
use Rattle.net_verilog.specs.Tokens.{Piece, piece, one_or_two, sign_kind, sign_piece, closed_piece, slash_piece, open_piece, escaped_piece, is_skipped, backquote_piece}
use Rattle.net_verilog.specs.private.Places.{is_wrong}
use Rattle.net_verilog.specs.declared.piece.Class.TheVariants.{WordByte, NameByte, NumberByte, Printing}
use Rattle.net_verilog.specs.declared.kind.Kind.{Kind}
use Rattle.net_verilog.specs.declared.kind.Kind.TheVariants as kinds

abbrev pub Shows : ℕ → Type 0
Shows b = (33 ≤ b) × (b ≤ 126)

pub none_prints : IsPrinting []
none_prints = λ k d less. absurd (omega (arith, less))

pub all_cons : (b : ℕ) (bs : List ℕ) → Shows b → IsPrinting bs → IsPrinting (b ∷ bs)
all_cons b bs first rest = by
  where
    by : (k d : ℕ) → k < suc (length bs) → Shows (get_or (b ∷ bs) k d)
    by zero d less = first
    by (suc k) d less = rest k d (omega (arith, less))

run_prints : (p : ℕ → Bool) → ((b : ℕ) → p b ≡ true → Shows b) → (bs : List ℕ) → IsPrinting (take (length (take_while p bs)) bs)
run_prints p shows [] = none_prints
run_prints p shows (b ∷ bs) = rw (take_while-cons p b bs) (by (run_prints p shows bs) (p b) refl)
  where
    by : IsPrinting (take (length (take_while p bs)) bs) → (v : Bool) → p b ≡ v → IsPrinting (take (length (cond v (b ∷ take_while p bs) [])) (b ∷ bs))
    by rest true e = all_cons b (take (length (take_while p bs)) bs) (shows b e) rest
    by rest false e = none_prints

word_prints : (b : ℕ) (bs : List ℕ) (n : ℕ) → Shows b → IsPrinting (take n bs) → IsPrinting (take (1 + n) (b ∷ bs))
word_prints b bs n first rest = let same : 1 + n ≡ suc n = omega arith in rw same (all_cons b (take n bs) first rest)

shown : (b n : ℕ) → Shows n → (b == n) ≡ true → Shows b
shown b n h e = subst Shows (sym (eqb-true b n e)) h

-- a byte from one to another, both of which print
between : (low high b : ℕ) → 33 ≤ low → high ≤ 126 → (nat_le low b && nat_le b high) ≡ true → Shows b
between low high b lowest highest is =
    let above : low ≤ b = leb-true low b (first_true _ _ is) in
    let below : b ≤ high = leb-true b high (second_true _ _ is) in
    (omega (arith, lowest, above), omega (arith, highest, below))

one_shows : (one other : Bool) (b : ℕ) → (one ≡ true → Shows b) → (other ≡ true → Shows b) → (one || other) ≡ true → Shows b
one_shows true other b first second is = first refl
one_shows false other b first second is = second is

letter_shows : (b : ℕ) → is_letter b ≡ true → Shows b
letter_shows b = one_shows _ _ b (one_shows _ _ b (between 65 90 b (omega arith) (omega arith)) (between 97 122 b (omega arith) (omega arith))) (shown b 95 (omega arith, omega arith))

digit_shows : (b : ℕ) → is_digit b ≡ true → Shows b
digit_shows b = between 48 57 b (omega arith) (omega arith)

word_shows : (b : ℕ) → class_has WordByte b ≡ true → Shows b
word_shows b = one_shows _ _ b (letter_shows b) (digit_shows b)

name_shows : (b : ℕ) → class_has NameByte b ≡ true → Shows b
name_shows b = one_shows _ _ b (word_shows b) (shown b 36 (omega arith, omega arith))

number_shows : (b : ℕ) → class_has NumberByte b ≡ true → Shows b
number_shows b = one_shows _ _ b (word_shows b) (shown b 39 (omega arith, omega arith))

print_shows : (b : ℕ) → class_has Printing b ≡ true → Shows b
print_shows b = between 33 126 b (omega arith) (omega arith)

pub record PrintsPiece (p : Piece) (bytes : List ℕ) : Type 0 where
  pub prints : (k : Kind) → p.0 ≡ Some k → is_wrong k ≡ false → IsPrinting (take p.1 bytes)

token : (kind : Kind) (n : ℕ) (bytes : List ℕ) → IsPrinting (take n bytes) → PrintsPiece (Some kind, n) bytes
token kind n bytes h = record { prints = λ k is other. h }

white : (n : ℕ) (bytes : List ℕ) → PrintsPiece (None, n) bytes
white n bytes = record { prints = λ k is other. absurd (cc) }

bad : (n : ℕ) (bytes : List ℕ) → PrintsPiece (Some kinds.Wrong, n) bytes
bad n bytes = record { prints = λ k is other. let same : kinds.Wrong ≡ k = cc in let P : Kind → Type 0 = λ k. is_wrong k ≡ false in let e : is_wrong kinds.Wrong ≡ false = subst P (sym same) other in absurd (cc) }

choose : (v : Bool) (p q : Piece) (bytes : List ℕ) → (v ≡ true → PrintsPiece p bytes) → (v ≡ false → PrintsPiece q bytes) → PrintsPiece (cond v p q) bytes
choose true p q bytes one other = one refl
choose false p q bytes one other = other refl

two : (next b : ℕ) (bs : List ℕ) (single double : Kind) → Shows next → Shows b → PrintsPiece (one_or_two next bs single double) (b ∷ bs)
two next b [] single double n h = token single 1 (b ∷ []) (all_cons b [] h none_prints)
two next b (c ∷ cs) single double n h =
    choose (c == next) (Some double, 2) (Some single, 1) (b ∷ c ∷ cs)
    (λ e. token double 2 (b ∷ c ∷ cs) (all_cons b (c ∷ []) h (all_cons c [] (shown c next n e) none_prints)))
    (λ e. token single 1 (b ∷ c ∷ cs) (all_cons b [] h none_prints))

link : (v : Bool) (kind rest : Kind) (A : Type 0) → (v ≡ true → A) → (is_wrong rest ≡ false → A) → is_wrong (cond v kind rest) ≡ false → A
link true kind rest A one other h = one refl
link false kind rest A one other h = other h

marked : (b : ℕ) → ((b == 35) || (b == 123) || (b == 63) || (b == 33)) ≡ true → Shows b
marked b = one_shows _ _ b (one_shows _ _ b (one_shows _ _ b (shown b 35 (omega arith, omega arith)) (shown b 123 (omega arith, omega arith))) (shown b 63 (omega arith, omega arith))) (shown b 33 (omega arith, omega arith))

sign_shows : (b : ℕ) → is_wrong (sign_kind b) ≡ false → Shows b
sign_shows b =
    link (b == 41) kinds.Close _ (Shows b) (shown b 41 (omega arith, omega arith))
    (link (b == 91) kinds.OpenIndex _ (Shows b) (shown b 91 (omega arith, omega arith))
    (link (b == 93) kinds.CloseIndex _ (Shows b) (shown b 93 (omega arith, omega arith))
    (link (b == 44) kinds.Comma _ (Shows b) (shown b 44 (omega arith, omega arith))
    (link (b == 59) kinds.Semicolon _ (Shows b) (shown b 59 (omega arith, omega arith))
    (link (b == 58) kinds.Colon _ (Shows b) (shown b 58 (omega arith, omega arith))
    (link (b == 61) kinds.Equals _ (Shows b) (shown b 61 (omega arith, omega arith))
    (link ((b == 35) || (b == 123) || (b == 63) || (b == 33)) kinds.LeftOut kinds.Wrong (Shows b) (marked b) (λ h. absurd (cc)))))))))

sign : (b : ℕ) (bs : List ℕ) → PrintsPiece (Some (sign_kind b), 1) (b ∷ bs)
sign b bs = record { prints = λ k is other. let same : sign_kind b ≡ k = by (sign_kind b) k is in let P : Kind → Type 0 = λ k. is_wrong k ≡ false in all_cons b [] (sign_shows b (subst P (sym same) other)) none_prints }
  where
    by : (a k : Kind) → Some a ≡ Some k → a ≡ k
    by a k e = cc

signs : (b : ℕ) (bs : List ℕ) → PrintsPiece (sign_piece b bs) (b ∷ bs)
signs b bs =
    choose (b == 38) _ _ (b ∷ bs) (λ e. two 38 b bs kinds.And kinds.LeftOut (omega arith, omega arith) (shown b 38 (omega arith, omega arith) e))
    (λ e. choose (b == 124) _ _ (b ∷ bs) (λ e. two 124 b bs kinds.Or kinds.LeftOut (omega arith, omega arith) (shown b 124 (omega arith, omega arith) e))
    (λ e. choose (b == 126) _ _ (b ∷ bs) (λ e. two 94 b bs kinds.Tilde kinds.Xnor (omega arith, omega arith) (shown b 126 (omega arith, omega arith) e))
    (λ e. choose (b == 94) _ _ (b ∷ bs) (λ e. two 126 b bs kinds.Xor kinds.Xnor (omega arith, omega arith) (shown b 94 (omega arith, omega arith) e))
    (λ e. sign b bs))))

closed : (o : Option ℕ) (bytes : List ℕ) → PrintsPiece (closed_piece o) bytes
closed (Some n) bytes = white (2 + n) bytes
closed None bytes = bad 1 bytes

slash : (bs bytes : List ℕ) → PrintsPiece (slash_piece bs) bytes
slash [] bytes = bad 1 bytes
slash (b ∷ bs) bytes = choose (b == 47) _ _ bytes (λ e. white _ bytes) (λ e. choose (b == 42) _ _ bytes (λ e. closed (after_pair 42 47 bs) bytes) (λ e. bad 1 bytes))

opened : (b : ℕ) (bs : List ℕ) → Shows b → PrintsPiece (open_piece bs) (b ∷ bs)
opened b [] h = token kinds.Open 1 (b ∷ []) (all_cons b [] h none_prints)
opened b (c ∷ cs) h = choose (c == 42) _ _ (b ∷ c ∷ cs) (λ e. closed (after_pair 42 41 cs) (b ∷ c ∷ cs)) (λ e. token kinds.Open 1 (b ∷ c ∷ cs) (all_cons b [] h none_prints))

escaped : (b : ℕ) (bs : List ℕ) → Shows b → PrintsPiece (escaped_piece bs) (b ∷ bs)
escaped b bs h = choose (run (class_has Printing) bs == 0) _ _ (b ∷ bs) (λ e. bad 1 (b ∷ bs)) (λ e. token kinds.Escaped (1 + run (class_has Printing) bs) (b ∷ bs) (word_prints b bs (run (class_has Printing) bs) h (run_prints (class_has Printing) print_shows bs)))

backquote : (first : Bool) (b : ℕ) (bs : List ℕ) → Shows b → PrintsPiece (backquote_piece first bs) (b ∷ bs)
backquote false b bs h = bad 1 (b ∷ bs)
backquote true b bs h = choose (is_skipped (take_while (class_has WordByte) bs)) _ _ (b ∷ bs) (λ e. white _ (b ∷ bs)) (λ e. token kinds.Directive (1 + run (class_has WordByte) bs) (b ∷ bs) (word_prints b bs (run (class_has WordByte) bs) h (run_prints (class_has WordByte) word_shows bs)))

pub piece_prints : (first : Bool) (bytes : List ℕ) → PrintsPiece (piece first bytes) bytes
piece_prints first [] = token kinds.End 0 [] none_prints
piece_prints first (b ∷ bs) =
    choose (is_white b) _ _ (b ∷ bs) (λ e. white 1 (b ∷ bs))
    (λ e. choose (is_letter b) _ _ (b ∷ bs) (λ e. token kinds.Word (1 + run (class_has NameByte) bs) (b ∷ bs) (word_prints b bs (run (class_has NameByte) bs) (letter_shows b e) (run_prints (class_has NameByte) name_shows bs)))
    (λ e. choose (is_digit b) _ _ (b ∷ bs) (λ e. token kinds.Number (1 + run (class_has NumberByte) bs) (b ∷ bs) (word_prints b bs (run (class_has NumberByte) bs) (digit_shows b e) (run_prints (class_has NumberByte) number_shows bs)))
    (λ e. choose (b == 92) _ _ (b ∷ bs) (λ e. escaped b bs (shown b 92 (omega arith, omega arith) e))
    (λ e. choose (b == 96) _ _ (b ∷ bs) (λ e. backquote first b bs (shown b 96 (omega arith, omega arith) e))
    (λ e. choose (b == 47) _ _ (b ∷ bs) (λ e. slash bs (b ∷ bs))
    (λ e. choose (b == 40) _ _ (b ∷ bs) (λ e. opened b bs (shown b 40 (omega arith, omega arith) e))
    (λ e. signs b bs)))))))

-- the token of a part
pub part_prints : (first : Bool) (bytes : List ℕ) (p : Piece) (k : Kind) → p ≡ piece first bytes → p.0 ≡ Some k → is_wrong k ≡ false → IsPrinting (take p.1 bytes)
part_prints first bytes p k is token other = let Q : Piece → Type 0 = λ q. PrintsPiece q bytes in (subst Q (sym is) (piece_prints first bytes)).prints k token other
