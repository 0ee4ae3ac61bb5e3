-- The lines that are written, pair by pair.
use Rattle.std.proofs.Common.{◌≡◌, ◌∙◌, ap, sym, refl, ℕ, zero, suc, ◌+◌, ◌<◌, ◌≤◌, List, [], ◌∷◌, ◌++◌, codes, length, take, drop, get_or, Some, arith, add-one, append_assoc, Result, Ok, Err, OnOk}
use Rattle.std.specs.Prelude.{slice_get}
use Rattle.std.proofs.lemmas.List.{drop_all, length-map}
use Rattle.std.proofs.lemmas.List.Concat.{flat_map-append}
use Rattle.lists.specs.Lists.{Has}
use Rattle.poly_mixed.specs.Labels.{Labelling}
use Rattle.poly_mixed.specs.Polynomial.{Terms}
use Rattle.poly_mixed.specs.Steps.{Step}
use Rattle.poly_mixed.specs.declared.steps.Generator.{Generator}
use Rattle.cert_make.specs.CertText.{text_of_lines, lines_at, lines_from}
use Rattle.cert_make.specs.Sharing.{shares_with, shares_from}
use Rattle.cert_make.specs.declared.certificate.Entry.{Entry}
use Rattle.cert_make.specs.private.Kept.{pair_of, pairs_of}
use Rattle.cert_make.proofs.SharingLemmas.{shares_more}

-- where all went well, what follows of what holds then, and what holds anyway
pub on_ok : {X E : Type 0} (r : Result X E) (P Q : Type 0) → (P → Q) → OnOk r P → OnOk r Q
on_ok (Ok x) P Q f p = f p
on_ok (Err e) P Q f p = p

pub on_ok_any : {X E : Type 0} (r : Result X E) (Q : Type 0) → Q → OnOk r Q
on_ok_any (Ok x) Q q = q
on_ok_any (Err e) Q q = tt

pub lines_append : (xs ys : List (List ℕ)) → text_of_lines (xs ++ ys) ≡ text_of_lines xs ++ text_of_lines ys
lines_append xs ys = flat_map-append (λ line. line ++ 10 ∷ []) xs ys

-- lines, and then one more
pub lines_then : (old mid new : List ℕ) (lets : List (List ℕ)) (line : List ℕ) (lets' : List (List ℕ)) (line' : List ℕ) → lets ≡ lets' → line ≡ line' → mid ≡ old ++ text_of_lines lets → new ≡ mid ++ text_of_lines (line ∷ []) → new ≡ old ++ text_of_lines (lets' ++ line' ∷ [])
lines_then old mid new lets line lets' line' same also first second =
    second
    ∙ (λ i. first i ++ text_of_lines (also i ∷ []))
    ∙ append_assoc old (text_of_lines lets) (text_of_lines (line' ∷ []))
    ∙ ap (λ (x : List ℕ). old ++ x) (sym (lines_append lets (line' ∷ [])))
    ∙ ap (λ (x : List (List ℕ)). old ++ text_of_lines (x ++ line' ∷ [])) same

-- ---- where an entry stands

entry_taken : (es : List Entry) (i : ℕ) (e : Entry) → i < length es → e ≡ get_or es i e → take (suc i) (pairs_of es) ≡ take i (pairs_of es) ++ pair_of e ∷ []
entry_taken [] i e less is = absurd (omega (arith, less))
entry_taken (x ∷ es) zero e less is = ap (λ (y : Entry). pair_of y ∷ []) (sym is)
entry_taken (x ∷ es) (suc i) e less is = ap (λ (l : List Step). pair_of x ∷ l) (entry_taken es i e (omega (arith, less)) is)

entry_dropped : (es : List Entry) (i : ℕ) (e : Entry) → i < length es → e ≡ get_or es i e → drop i (pairs_of es) ≡ pair_of e ∷ drop (suc i) (pairs_of es)
entry_dropped [] i e less is = absurd (omega (arith, less))
entry_dropped (x ∷ es) zero e less is = ap (λ (y : Entry). pair_of y ∷ pairs_of es) (sym is)
entry_dropped (x ∷ es) (suc i) e less is = entry_dropped es i e (omega (arith, less)) is

entry_got : (es : List Entry) (i : ℕ) (e : Entry) → i < length es → e ≡ get_or es i e → slice_get (pairs_of es) i ≡ Some (pair_of e)
entry_got [] i e less is = absurd (omega (arith, less))
entry_got (x ∷ es) zero e less is = ap (λ (y : Entry). Some (pair_of y)) (sym is)
entry_got (x ∷ es) (suc i) e less is = entry_got es i e (omega (arith, less)) is

pub entry_has : (es : List Entry) (i : ℕ) (e : Entry) → i < length es → e ≡ get_or es i e → Has (pairs_of es) (pair_of e)
entry_has es i e less is = (i, entry_got es i e less is)

pub pairs_taken : (es : List Entry) (i : ℕ) (e : Entry) → i < length es → e ≡ get_or es i e → take (i + 1) (pairs_of es) ≡ take i (pairs_of es) ++ pair_of e ∷ []
pairs_taken es i e less is = ap (λ n. take n (pairs_of es)) (add-one i) ∙ entry_taken es i e less is

pairs_dropped : (es : List Entry) (i : ℕ) (e : Entry) → i < length es → e ≡ get_or es i e → drop i (pairs_of es) ≡ pair_of e ∷ drop (i + 1) (pairs_of es)
pairs_dropped es i e less is = entry_dropped es i e less is ∙ ap (λ n. pair_of e ∷ drop n (pairs_of es)) (sym (add-one i))

step_found : (ps : List Step) (i : ℕ) (g : Generator) (m : Terms) → i < length ps → ((s : Step) → slice_get ps i ≡ Some s → g ≡ s.0) → ((s : Step) → slice_get ps i ≡ Some s → m ≡ s.1) → take (suc i) ps ≡ take i ps ++ (g, m) ∷ []
step_found [] i g m less a b = absurd (omega (arith, less))
step_found (x ∷ ps) zero g m less a b = λ i. (sym (a x refl) i, sym (b x refl) i) ∷ []
step_found (x ∷ ps) (suc i) g m less a b = ap (λ (l : List Step). x ∷ l) (step_found ps i g m (omega (arith, less)) a b)

-- a pair that was found at its place comes next
pub step_taken : (ps : List Step) (i : ℕ) (g : Generator) (m : Terms) → i < length ps → ((s : Step) → slice_get ps i ≡ Some s → g ≡ s.0) → ((s : Step) → slice_get ps i ≡ Some s → m ≡ s.1) → take i ps ++ (g, m) ∷ [] ≡ take (i + 1) ps
step_taken ps i g m less a b = sym (ap (λ n. take n ps) (add-one i) ∙ step_found ps i g m less a b)

-- ---- all pairs

-- the multipliers that are shared before pair i
abbrev pub shares_at : List Step → ℕ → List Terms
shares_at pairs i = shares_from pairs [] (take i pairs)

-- what is left to write from pair i on
abbrev pub left_at : Labelling → List Step → ℕ → List ℕ
left_at l pairs i = text_of_lines (lines_from l pairs (shares_at pairs i) (drop i pairs))

pub shares_next : (es : List Entry) (i : ℕ) (e : Entry) → i < length es → e ≡ get_or es i e → shares_at (pairs_of es) (i + 1) ≡ shares_with (pairs_of es) (shares_at (pairs_of es) i) (pair_of e).1
shares_next es i e less is = ap (shares_from (pairs_of es) []) (pairs_taken es i e less is) ∙ shares_more (pairs_of es) [] (take i (pairs_of es)) (pair_of e)

pub left_next : (l : Labelling) (es : List Entry) (i : ℕ) (e : Entry) → i < length es → e ≡ get_or es i e → left_at l (pairs_of es) i ≡ text_of_lines (lines_at l (pairs_of es) (shares_at (pairs_of es) i) (pair_of e)) ++ left_at l (pairs_of es) (i + 1)
left_next l es i e less is =
    let pairs : List Step = pairs_of es in
    ap (λ (rest : List Step). text_of_lines (lines_from l pairs (shares_at pairs i) rest)) (pairs_dropped es i e less is)
    ∙ lines_append (lines_at l pairs (shares_at pairs i) (pair_of e)) (lines_from l pairs (shares_with pairs (shares_at pairs i) (pair_of e).1) (drop (i + 1) pairs))
    ∙ ap (λ (sh : List Terms). text_of_lines (lines_at l pairs (shares_at pairs i) (pair_of e)) ++ text_of_lines (lines_from l pairs sh (drop (i + 1) pairs))) (sym (shares_next es i e less is))

-- the same is written where a pair's lines are written
pub whole_next : (l : Labelling) (es : List Entry) (i : ℕ) (e : Entry) (out new whole : List ℕ) → i < length es → e ≡ get_or es i e → out ++ left_at l (pairs_of es) i ≡ whole → new ≡ out ++ text_of_lines (lines_at l (pairs_of es) (shares_at (pairs_of es) i) (pair_of e)) → new ++ left_at l (pairs_of es) (i + 1) ≡ whole
whole_next l es i e out new whole less is before adds =
    let lines : List ℕ = text_of_lines (lines_at l (pairs_of es) (shares_at (pairs_of es) i) (pair_of e)) in
    ap (λ (x : List ℕ). x ++ left_at l (pairs_of es) (i + 1)) adds
    ∙ append_assoc out lines (left_at l (pairs_of es) (i + 1))
    ∙ ap (λ (x : List ℕ). out ++ x) (sym (left_next l es i e less is))
    ∙ before

-- and after the last line all is written
pub whole_end : {X E : Type 0} (r : Result X E) (l : Labelling) (es : List Entry) (i : ℕ) (old out new : List ℕ) → length es ≤ i → out ++ left_at l (pairs_of es) i ≡ old ++ left_at l (pairs_of es) 0 → OnOk r (new ≡ out ++ text_of_lines (codes "end" ∷ [])) → OnOk r (new ≡ old ++ text_of_lines (lines_from l (pairs_of es) [] (pairs_of es)))
whole_end (Ok x) l es i old out new past whole adds =
    let pairs : List Step = pairs_of es in
    let none : drop i pairs ≡ [] = drop_all i pairs (omega (arith, past, length-map es pair_of)) in
    adds ∙ (ap (λ (rest : List Step). out ++ text_of_lines (lines_from l pairs (shares_at pairs i) rest)) (sym none) ∙ whole)
whole_end (Err e) l es i old out new past whole adds = tt
