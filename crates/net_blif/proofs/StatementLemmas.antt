-- Tokens spell at most one statement, which is the one that is read.
use Rattle.std.proofs.Common.{◌≡◌, ◌∙◌, ap, sym, refl, subst, ℕ, zero, suc, ◌-◌, Bool, true, false, cond, not, List, [], ◌∷◌, ◌++◌, length, take, get_or, Option, None, Some, arith}
use Rattle.std.specs.Prelude.{codes, All, IsTrue, ◌==◌}
use Rattle.std.specs.List.{list_all, list_any}
use Rattle.std.specs.Option.{option_map}
use Rattle.std.specs.Str.{bytes_eq}
use Rattle.std.proofs.lemmas.Bool.{lt-ltb, eqb-true}
use Rattle.std.proofs.Math.Dec.{ltb}
use Rattle.std.proofs.lemmas.Slice.Eq.{bytes_eq-Decides}
use Rattle.lists.specs.laws.BoolLaws.{both_true as both, not_true, neither}
use Rattle.net_blif.specs.Connection.{is_connection}
use Rattle.net_blif.specs.Statement.{Token, IsToken, spelled, bit_token, row_tokens, is_cell, is_dotted, is_latch_end, is_other, is_well, keywords}
use Rattle.net_blif.specs.Spelling.{bit_of, model_of, cover_of, end_of, instance_of, latch_of, dotted_of, row_of, statement_of}
use Rattle.net_blif.specs.declared.statement.Statement.{Statement}
use Rattle.net_blif.specs.declared.statement.Statement.TheVariants.{Model, Inputs, Outputs, Clock, Cover, Latch, Instance, Row, End, Other}

-- what is wanted of a statement that tokens spell
abbrev pub Spells : List Token → Statement → Type 0
Spells tokens s = (tokens ≡ spelled s) × IsTrue (is_well s)

same_some : (s t : Statement) → ◌≡◌ {A = Option Statement} (Some s) (Some t) → s ≡ t
same_some s t e = cc

by_same : (tokens : List Token) (s t : Statement) → ◌≡◌ {A = Option Statement} (Some t) (Some s) → Spells tokens t → Spells tokens s
by_same tokens s t e h = let P : Statement → Type 0 = Spells tokens in subst P (same_some t s e) h

-- the first and the last
take_last : (xs : List Token) (n : ℕ) → length xs ≡ suc n → take n xs ++ get_or xs n [] ∷ [] ≡ xs
take_last [] n long = absurd (omega arith)
take_last (x ∷ xs) zero long = single xs (omega arith)
  where
    single : (xs : List Token) → length xs ≡ 0 → x ∷ [] ≡ x ∷ xs
    single [] e = refl
    single (y ∷ ys) e = absurd (omega arith)
take_last (x ∷ xs) (suc n) long = ap (λ ys. x ∷ ys) (take_last xs n (omega arith))

model_spells : (rest : List Token) (s : Statement) → All IsToken rest → model_of rest ≡ Some s → Spells (codes ".model" ∷ rest) s
model_spells [] s all e = by_same _ s (Model []) e (refl, refl)
model_spells ([] ∷ []) s all e = absurd (omega (arith, (all 0 [] (omega arith)).0))
model_spells ((b ∷ bs) ∷ []) s all e = by_same _ s (Model (b ∷ bs)) e (refl, refl)
model_spells (name ∷ other ∷ rest) s all e = absurd (cc)

end_spells : (rest : List Token) (s : Statement) → end_of rest ≡ Some s → Spells (codes ".end" ∷ rest) s
end_spells [] s e = by_same _ s End e (refl, refl)
end_spells (token ∷ rest) s e = absurd (cc)

latch_spells : (rest : List Token) (s : Statement) → latch_of rest ≡ Some s → Spells (codes ".latch" ∷ rest) s
latch_spells [] s e = absurd (cc)
latch_spells (next ∷ []) s e = absurd (cc)
latch_spells (next ∷ out ∷ rest) s e = by (is_latch_end rest) refl e
  where
    by : (b : Bool) → is_latch_end rest ≡ b → cond b (Some (Latch next out rest)) None ≡ Some s → Spells (codes ".latch" ∷ next ∷ out ∷ rest) s
    by true is e = by_same _ s (Latch next out rest) e (refl, is)
    by false is e = absurd (cc)

instance_spells : (rest : List Token) (s : Statement) → instance_of rest ≡ Some s → Spells (codes ".subckt" ∷ rest) s
instance_spells [] s e = absurd (cc)
instance_spells (model ∷ connections) s e = by (list_all is_connection connections) refl e
  where
    by : (b : Bool) → list_all is_connection connections ≡ b → cond b (Some (Instance model connections)) None ≡ Some s → Spells (codes ".subckt" ∷ model ∷ connections) s
    by true is e = by_same _ s (Instance model connections) e (refl, is)
    by false is e = absurd (cc)

cover_at : (token : Token) (rest : List Token) → cover_of (token ∷ rest) ≡ Some (Cover (take (length rest) (token ∷ rest)) (get_or (token ∷ rest) (length rest) []))
cover_at token rest =
    let some : ltb 0 (suc (length rest)) ≡ true = lt-ltb 0 (suc (length rest)) (omega arith) in
    let one : suc (length rest) - 1 ≡ length rest = omega arith in
    rw (some, one) refl

cover_spells : (rest : List Token) (s : Statement) → cover_of rest ≡ Some s → Spells (codes ".names" ∷ rest) s
cover_spells [] s e = absurd (cc)
cover_spells (token ∷ rest) s e =
    by_same _ s (Cover (take (length rest) (token ∷ rest)) (get_or (token ∷ rest) (length rest) [])) (sym (cover_at token rest) ∙ e)
    (ap (λ (nets : List Token). codes ".names" ∷ nets) (sym (take_last (token ∷ rest) (length rest) refl)), refl)

bit_spells : (out : Token) (b : Bool) → bit_of out ≡ Some b → out ≡ bit_token b
bit_spells out b e = by (bytes_eq out (codes "1")) (bytes_eq out (codes "0")) refl refl e
  where
    by : (x y : Bool) → bytes_eq out (codes "1") ≡ x → bytes_eq out (codes "0") ≡ y → cond x (Some true) (cond y (Some false) None) ≡ Some b → out ≡ bit_token b
    by true y one none e = let same : true ≡ b = cc in rw (← same) ((bytes_eq-Decides out (codes "1")).0 one)
    by false true one none e = let same : false ≡ b = cc in rw (← same) ((bytes_eq-Decides out (codes "0")).0 none)
    by false false one none e = absurd (cc)

-- what a bit makes
row_made : (pattern out : Token) (bit : Option Bool) (s : Statement) → bit_of out ≡ bit → option_map (λ output. Row pattern output) bit ≡ Some s → (b : Bool) × (out ≡ bit_token b) × (s ≡ Row pattern b)
row_made pattern out None s is e = absurd (cc)
row_made pattern out (Some b) s is e = (b, bit_spells out b is, sym (same_some (Row pattern b) s e))

row_spells : (tokens : List Token) (s : Statement) → All IsToken tokens → row_of tokens ≡ Some s → Spells tokens s
row_spells [] s all e = absurd (cc)
row_spells (out ∷ []) s all e =
    let made = row_made [] out (bit_of out) s refl e in
    rw made.2 (ap (λ (o : Token). o ∷ []) made.1, refl)
row_spells ([] ∷ out ∷ []) s all e = absurd (omega (arith, (all 0 [] (omega arith)).0))
row_spells ((c ∷ cs) ∷ out ∷ []) s all e = by (list_all is_cell (c ∷ cs)) refl e
  where
    by : (x : Bool) → list_all is_cell (c ∷ cs) ≡ x → cond x (option_map (λ output. Row (c ∷ cs) output) (bit_of out)) None ≡ Some s → Spells ((c ∷ cs) ∷ out ∷ []) s
    by true is e = let made = row_made (c ∷ cs) out (bit_of out) s refl e in rw made.2 (ap (λ (o : Token). (c ∷ cs) ∷ o ∷ []) made.1, is)
    by false is e = absurd (cc)
row_spells (pattern ∷ out ∷ other ∷ rest) s all e = absurd (cc)

equal : (a b : Token) → bytes_eq a b ≡ true → a ≡ b
equal a b e = (bytes_eq-Decides a b).0 e

keyword_spells : (word keyword : Token) (rest : List Token) (s : Statement) → bytes_eq word keyword ≡ true → Spells (keyword ∷ rest) s → Spells (word ∷ rest) s
keyword_spells word keyword rest s e h = let P : Token → Type 0 = λ w. Spells (w ∷ rest) s in subst P (sym (equal word keyword e)) h

dotted_spells : (word : Token) (rest : List Token) (s : Statement) (b1 b2 b3 b4 b5 b6 b7 b8 : Bool) → is_dotted word ≡ true → All IsToken rest → bytes_eq word (codes ".model") ≡ b1 → bytes_eq word (codes ".inputs") ≡ b2 → bytes_eq word (codes ".outputs") ≡ b3 → bytes_eq word (codes ".clock") ≡ b4 → bytes_eq word (codes ".names") ≡ b5 → bytes_eq word (codes ".latch") ≡ b6 → bytes_eq word (codes ".subckt") ≡ b7 → bytes_eq word (codes ".end") ≡ b8 → cond b1 (model_of rest) (cond b2 (Some (Inputs rest)) (cond b3 (Some (Outputs rest)) (cond b4 (Some (Clock rest)) (cond b5 (cover_of rest) (cond b6 (latch_of rest) (cond b7 (instance_of rest) (cond b8 (end_of rest) (Some (Other word rest))))))))) ≡ Some s → Spells (word ∷ rest) s
dotted_spells word rest s true b2 b3 b4 b5 b6 b7 b8 dot all e1 e2 e3 e4 e5 e6 e7 e8 e = keyword_spells word (codes ".model") rest s e1 (model_spells rest s all e)
dotted_spells word rest s false true b3 b4 b5 b6 b7 b8 dot all e1 e2 e3 e4 e5 e6 e7 e8 e = keyword_spells word (codes ".inputs") rest s e2 (by_same _ s (Inputs rest) e (refl, refl))
dotted_spells word rest s false false true b4 b5 b6 b7 b8 dot all e1 e2 e3 e4 e5 e6 e7 e8 e = keyword_spells word (codes ".outputs") rest s e3 (by_same _ s (Outputs rest) e (refl, refl))
dotted_spells word rest s false false false true b5 b6 b7 b8 dot all e1 e2 e3 e4 e5 e6 e7 e8 e = keyword_spells word (codes ".clock") rest s e4 (by_same _ s (Clock rest) e (refl, refl))
dotted_spells word rest s false false false false true b6 b7 b8 dot all e1 e2 e3 e4 e5 e6 e7 e8 e = keyword_spells word (codes ".names") rest s e5 (cover_spells rest s e)
dotted_spells word rest s false false false false false true b7 b8 dot all e1 e2 e3 e4 e5 e6 e7 e8 e = keyword_spells word (codes ".latch") rest s e6 (latch_spells rest s e)
dotted_spells word rest s false false false false false false true b8 dot all e1 e2 e3 e4 e5 e6 e7 e8 e = keyword_spells word (codes ".subckt") rest s e7 (instance_spells rest s e)
dotted_spells word rest s false false false false false false false true dot all e1 e2 e3 e4 e5 e6 e7 e8 e = keyword_spells word (codes ".end") rest s e8 (end_spells rest s e)
dotted_spells word rest s false false false false false false false false dot all e1 e2 e3 e4 e5 e6 e7 e8 e = by_same _ s (Other word rest) e (refl, rw (dot, e1, e2, e3, e4, e5, e6, e7, e8) refl)

-- a word that is `.names` is none of those before it
pub names_said : (word : Token) (rest : List Token) → bytes_eq word (codes ".names") ≡ true → dotted_of word rest ≡ cover_of rest
names_said word rest is = let P : Token → Type 0 = λ w. dotted_of w rest ≡ cover_of rest in subst P (sym (equal word (codes ".names") is)) refl

pub all_rest : (word : Token) (rest : List Token) → All IsToken (word ∷ rest) → All IsToken rest
all_rest word rest all = λ k d less. all (suc k) d (omega arith)

-- what is read is spelled so
pub read_spells : (tokens : List Token) (s : Statement) → All IsToken tokens → statement_of tokens ≡ Some s → Spells tokens s
read_spells [] s all e = absurd (cc)
read_spells (word ∷ rest) s all e = by (is_dotted word) refl e
  where
    by : (dotted : Bool) → is_dotted word ≡ dotted → cond dotted (dotted_of word rest) (row_of (word ∷ rest)) ≡ Some s → Spells (word ∷ rest) s
    by true dot e = dotted_spells word rest s _ _ _ _ _ _ _ _ dot (all_rest word rest all) refl refl refl refl refl refl refl refl e
    by false dot e = row_spells (word ∷ rest) s all e

last_of : (inputs : List Token) (out : Token) → cover_of (inputs ++ out ∷ []) ≡ Some (Cover inputs out)
last_of inputs out = by (inputs ++ out ∷ []) refl
  where
    long : (inputs : List Token) → length (inputs ++ out ∷ []) ≡ suc (length inputs)
    long [] = refl
    long (x ∷ xs) = ap suc (long xs)

    front : (inputs : List Token) → take (length inputs) (inputs ++ out ∷ []) ≡ inputs
    front [] = refl
    front (x ∷ xs) = ap (λ ys. x ∷ ys) (front xs)

    back : (inputs : List Token) → get_or (inputs ++ out ∷ []) (length inputs) [] ≡ out
    back [] = refl
    back (x ∷ xs) = back xs

    by : (nets : List Token) → inputs ++ out ∷ [] ≡ nets → cover_of nets ≡ Some (Cover inputs out)
    by [] is = absurd (omega (arith, ap length is, long inputs))
    by (token ∷ rest) is =
        let same : length rest ≡ length inputs = omega (arith, ap length is, long inputs) in
        cover_at token rest ∙ rw (same, ← is) (ap (λ (i : List Token). Some (Cover i (get_or (inputs ++ out ∷ []) (length inputs) []))) (front inputs) ∙ ap (λ (o : Token). Some (Cover inputs o)) (back inputs))

cell_dot : (b : ℕ) → is_cell b ≡ true → (b == 46) ≡ false
cell_dot b cell = by (b == 46) refl
  where
    by : (v : Bool) → (b == 46) ≡ v → v ≡ false
    by true e = let P : ℕ → Type 0 = λ b. is_cell b ≡ true in let no_cell : is_cell 46 ≡ true = subst P (eqb-true b 46 e) cell in absurd (cc)
    by false e = refl

other_read : (word : Token) (rest : List Token) → is_other word ≡ true → statement_of (word ∷ rest) ≡ Some (Other word rest)
other_read word rest other =
    let split = both (is_dotted word) (not (list_any (λ keyword. bytes_eq word keyword) keywords)) other in
    let n1 = neither (bytes_eq word (codes ".model")) _ (not_true _ split.1) in
    let n2 = neither (bytes_eq word (codes ".inputs")) _ n1.1 in
    let n3 = neither (bytes_eq word (codes ".outputs")) _ n2.1 in
    let n4 = neither (bytes_eq word (codes ".clock")) _ n3.1 in
    let n5 = neither (bytes_eq word (codes ".names")) _ n4.1 in
    let n6 = neither (bytes_eq word (codes ".latch")) _ n5.1 in
    let n7 = neither (bytes_eq word (codes ".subckt")) _ n6.1 in
    let n8 = neither (bytes_eq word (codes ".end")) _ n7.1 in
    rw (split.0, n1.0, n2.0, n3.0, n4.0, n5.0, n6.0, n7.0, n8.0) refl

latch_read : (next out : Token) (rest : List Token) → is_latch_end rest ≡ true → statement_of (codes ".latch" ∷ next ∷ out ∷ rest) ≡ Some (Latch next out rest)
latch_read next out rest ends = rw ends refl

instance_read : (model : Token) (connections : List Token) → list_all is_connection connections ≡ true → statement_of (codes ".subckt" ∷ model ∷ connections) ≡ Some (Instance model connections)
instance_read model connections are = rw are refl

row_read : (pattern : Token) (output : Bool) → list_all is_cell pattern ≡ true → statement_of (row_tokens pattern output) ≡ Some (Row pattern output)
row_read [] true cells = refl
row_read [] false cells = refl
row_read (b ∷ bs) true cells = rw (cell_dot b (both (is_cell b) (list_all is_cell bs) cells).0, cells) refl
row_read (b ∷ bs) false cells = rw (cell_dot b (both (is_cell b) (list_all is_cell bs) cells).0, cells) refl

-- what is spelled is read so
pub spelled_read : (s : Statement) → IsTrue (is_well s) → statement_of (spelled s) ≡ Some s
spelled_read (Model []) well = refl
spelled_read (Model (b ∷ bs)) well = refl
spelled_read (Inputs nets) well = refl
spelled_read (Outputs nets) well = refl
spelled_read (Clock nets) well = refl
spelled_read (Cover inputs out) well = last_of inputs out
spelled_read (Latch next out rest) well = latch_read next out rest well
spelled_read (Instance model connections) well = instance_read model connections well
spelled_read (Row pattern output) well = row_read pattern output well
spelled_read End well = refl
spelled_read (Other word rest) well = other_read word rest well

-- tokens spell one statement
pub spelled_same : (tokens : List Token) (s t : Statement) → Spells tokens s → Spells tokens t → s ≡ t
spelled_same tokens s t h k = same_some s t (sym (spelled_read s h.1) ∙ (ap statement_of (sym h.0 ∙ k.0) ∙ spelled_read t k.1))
