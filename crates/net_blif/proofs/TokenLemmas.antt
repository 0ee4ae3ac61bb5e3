-- Tokens that stand one after another in one text.
use Rattle.std.proofs.Common.{◌≡◌, ◌∙◌, ap, sym, refl, append_assoc, add-one, ℕ, suc, zero, ◌+◌, ◌-◌, ◌<◌, ◌≤◌, List, [], ◌∷◌, ◌++◌, length, map, take, drop, get_or, arith}
use Rattle.std.specs.Prelude.{slice_range}
use Rattle.std.proofs.Math.Seq.{take-suc, take-length, drop-append_seam}
use Rattle.std.proofs.lemmas.List.{drop-append-le, take-append-le, length-drop, map_push, take-map, drop-map}
use Rattle.net_blif.specs.Statement.{Token}
use Rattle.net_blif.specs.Tokens.{AreSpans, token_at, tokens_at}
use Rattle.net_blif.specs.declared.token_list.Span.{Span}

-- a part of a list stays where the list grows
pub range_kept : {A : Type 0} (xs more : List A) (from end : ℕ) → from ≤ end → end ≤ length xs → slice_range (xs ++ more) from end ≡ slice_range xs from end
range_kept xs more from end order within =
    let start : from ≤ length xs = omega (arith, order, within) in
    let room : end - from ≤ length (drop from xs) = omega (arith, length-drop from xs, order, within) in
    ap (take (end - from)) (drop-append-le from xs more start) ∙ take-append-le (end - from) (drop from xs) more room

-- what was appended last
pub range_new : {A : Type 0} (xs more : List A) (from end : ℕ) → from ≡ length xs → end ≡ length xs + length more → slice_range (xs ++ more) from end ≡ more
range_new xs more from end is size =
    let count : end - from ≡ length more = omega (arith, is, size) in
    rw (count, is, drop-append_seam xs more) (take-length more)

pub range_map : {A B : Type 0} (f : A → B) (xs : List A) (from end : ℕ) → map f (slice_range xs from end) ≡ slice_range (map f xs) from end
range_map f xs from end = sym (ap (take (end - from)) (drop-map f from xs) ∙ take-map f (end - from) (drop from xs))

pub tokens_kept : (text more : List ℕ) (spans : List Span) → AreSpans (length text) spans → tokens_at (text ++ more) spans ≡ tokens_at text spans
tokens_kept text more [] inside = refl
tokens_kept text more (span ∷ spans) inside =
    let first = inside zero span (omega arith) in
    ap (λ (t : Token). t ∷ tokens_at (text ++ more) spans) (range_kept text more span.start span.end first.0 first.1) ∙ ap (λ (ts : List Token). token_at text span ∷ ts) (tokens_kept text more spans (λ k d less. inside (suc k) d (omega arith)))

pub tokens_same : (text more new : List ℕ) (spans : List Span) → AreSpans (length text) spans → new ≡ text ++ more → tokens_at new spans ≡ tokens_at text spans
tokens_same text more new spans inside is = rw is (tokens_kept text more spans inside)

-- one more token
pub tokens_pushed : (text new token : List ℕ) (spans longer : List Span) (span : Span) → AreSpans (length text) spans → new ≡ text ++ token → longer ≡ spans ++ span ∷ [] → span.start ≡ length text → span.end ≡ length text + length token → tokens_at new longer ≡ tokens_at text spans ++ token ∷ []
tokens_pushed text new token spans longer span inside is pushed start end =
    rw (is, pushed) (map_push (token_at (text ++ token)) spans span ∙ (ap (λ (ts : List Token). ts ++ token_at (text ++ token) span ∷ []) (tokens_kept text token spans inside) ∙ ap (λ (t : Token). tokens_at text spans ++ t ∷ []) (range_new text token span.start span.end start end)))

-- the elements so far, and one more
pub appended_more : {A : Type 0} (old now new xs : List A) (i : ℕ) (x d : A) → now ≡ old ++ take i xs → i < length xs → x ≡ get_or xs i d → new ≡ now ++ x ∷ [] → new ≡ old ++ take (i + 1) xs
appended_more old now new xs i x d so_far below is pushed =
    rw add-one (pushed ∙ (ap (λ ys. ys ++ x ∷ []) so_far ∙ (append_assoc old (take i xs) (x ∷ []) ∙ (ap (λ y. old ++ (take i xs ++ y ∷ [])) is ∙ ap (λ ys. old ++ ys) (sym (take-suc xs i d below))))))
