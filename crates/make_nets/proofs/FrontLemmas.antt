-- Fronts of lists.
use Rattle.std.proofs.Common.{◌≡◌, ◌∙◌, ap, sym, refl, ℕ, zero, suc, ◌<◌, ◌≤◌, ◌+◌, List, [], ◌∷◌, ◌++◌, length, map, take, drop, get_or, append-nil, arith}
use Rattle.std.proofs.lemmas.List.{append_assoc, length-take-le, map-append}
use Rattle.lists.specs.laws.ListLaws.{length_map as map_long}
use Rattle.lists.specs.laws.TakeLaws.{drop_read}
use Rattle.net_words.specs.declared.feed.FeedText.{FeedText}
use Rattle.net_words.specs.declared.word.WordText.{WordText}
use Rattle.make_nets.proofs.LabelLemmas.{append_long}
use Rattle.make_nets.specs.Ports.{word_names}

take_suc : {X : Type 0} (xs : List X) (i : ℕ) (x : X) → i < length xs → x ≡ get_or xs i x → take (suc i) xs ≡ take i xs ++ x ∷ []
take_suc [] i x less is = absurd (omega arith)
take_suc (y ∷ xs) zero x less is = ap (λ (z : _). z ∷ []) (sym is)
take_suc (y ∷ xs) (suc i) x less is = ap (λ (zs : List _). y ∷ zs) (take_suc xs i x (omega arith) is)

pub take_more : {X : Type 0} (xs : List X) (i : ℕ) (x : X) → i < length xs → x ≡ get_or xs i x → take (i + 1) xs ≡ take i xs ++ x ∷ []
take_more xs i x less is = let e : i + 1 ≡ suc i = omega arith in rw e (take_suc xs i x less is)

pub take_drop : {X : Type 0} (xs : List X) (i : ℕ) → xs ≡ take i xs ++ drop i xs
take_drop [] zero = refl
take_drop [] (suc i) = refl
take_drop (x ∷ xs) zero = refl
take_drop (x ∷ xs) (suc i) = ap (λ (zs : List _). x ∷ zs) (take_drop xs i)

-- a list is its front, an element and the rest
pub split_at : {X : Type 0} (xs : List X) (i : ℕ) (x : X) → i < length xs → x ≡ get_or xs i x → xs ≡ take i xs ++ x ∷ drop (i + 1) xs
split_at xs i x less is = take_drop xs i ∙ ap (λ (zs : List _). take i xs ++ zs) (drop_read xs i x less is)

pub take_past : {X : Type 0} (xs : List X) (i : ℕ) → length xs ≤ i → take i xs ≡ xs
take_past [] zero less = refl
take_past [] (suc i) less = refl
take_past (x ∷ xs) zero less = absurd (omega arith)
take_past (x ∷ xs) (suc i) less = ap (λ (zs : List _). x ∷ zs) (take_past xs i (omega arith))

-- one more, after names before
pub joined : {X : Type 0} (ns xs more list : List X) (x : X) → list ≡ xs ++ x ∷ more → ns ++ list ≡ ((ns ++ xs) ++ x ∷ []) ++ more
joined ns xs more list x is = ap (λ (zs : List _). ns ++ zs) is ∙ (sym (append_assoc ns xs (x ∷ more)) ∙ sym (append_assoc (ns ++ xs) (x ∷ []) more))

-- one more of the names behind others
pub front_more : {X : Type 0} (ns xs : List X) (i : ℕ) (x y : X) → i < length xs → x ≡ get_or xs i x → y ≡ x → (ns ++ take i xs) ++ y ∷ [] ≡ ns ++ take (i + 1) xs
front_more ns xs i x y less is same =
    ap (λ (z : _). (ns ++ take i xs) ++ z ∷ []) same
    ∙ append_assoc ns (take i xs) (x ∷ [])
    ∙ ap (λ (zs : List _). ns ++ zs) (sym (take_more xs i x less is))

pub front_long : {X : Type 0} (ns xs : List X) (i count before : ℕ) → i < length xs → length ns ≡ before → count ≡ before + i → length (ns ++ take i xs) ≡ count
front_long ns xs i count before less long is = omega (arith, append_long ns (take i xs), length-take-le i xs (omega (arith, less)), long, is)

pub fed_more : (ns : List (List ℕ)) (feeds : List FeedText) (i : ℕ) (feed : FeedText) (name : List ℕ) → i < length feeds → feed ≡ get_or feeds i feed → name ≡ feed.net → (ns ++ map (λ (f : FeedText). f.net) (take i feeds)) ++ name ∷ [] ≡ ns ++ map (λ (f : FeedText). f.net) (take (i + 1) feeds)
fed_more ns feeds i feed name less is same =
    ap (λ z. (ns ++ map (λ (f : FeedText). f.net) (take i feeds)) ++ z ∷ []) same
    ∙ append_assoc ns (map (λ (f : FeedText). f.net) (take i feeds)) (feed.net ∷ [])
    ∙ ap (λ zs. ns ++ zs) (sym (ap (map (λ (f : FeedText). f.net)) (take_more feeds i feed less is) ∙ map-append (λ (f : FeedText). f.net) (take i feeds) (feed ∷ [])))

pub fed_long : (ns : List (List ℕ)) (feeds : List FeedText) (i count before : ℕ) → i < length feeds → length ns ≡ before → count ≡ before + i → length (ns ++ map (λ (f : FeedText). f.net) (take i feeds)) ≡ count
fed_long ns feeds i count before less long is =
    omega (arith, append_long ns (map (λ (f : FeedText). f.net) (take i feeds)), map_long (λ (f : FeedText). f.net) (take i feeds), length-take-le i feeds (omega (arith, less)), long, is)

pub names_append : (xs ys : List WordText) → word_names (xs ++ ys) ≡ word_names xs ++ word_names ys
names_append [] ys = refl
names_append (x ∷ xs) ys = ap (λ (zs : List (List ℕ)). x.nets ++ zs) (names_append xs ys) ∙ sym (append_assoc x.nets (word_names xs) (word_names ys))

pub words_split : (words : List WordText) (i : ℕ) (word : WordText) (list : List (List ℕ)) → i < length words → word ≡ get_or words i word → list ≡ word.nets → word_names words ≡ (word_names (take i words) ++ list) ++ word_names (drop (i + 1) words)
words_split words i word list less is nets =
    ap word_names (split_at words i word less is) ∙ (names_append (take i words) (word ∷ drop (i + 1) words)
    ∙ (sym (append_assoc (word_names (take i words)) word.nets (word_names (drop (i + 1) words))) ∙ ap (λ (zs : List (List ℕ)). (word_names (take i words) ++ zs) ++ word_names (drop (i + 1) words)) (sym nets)))

pub words_take : (words : List WordText) (i : ℕ) (word : WordText) (list : List (List ℕ)) → i < length words → word ≡ get_or words i word → list ≡ word.nets → word_names (take (i + 1) words) ≡ word_names (take i words) ++ list
words_take words i word list less is nets =
    ap word_names (take_more words i word less is) ∙ (names_append (take i words) (word ∷ [])
    ∙ ap (λ (zs : List (List ℕ)). word_names (take i words) ++ zs) (append-nil word.nets ∙ sym nets))

-- and so many
pub words_long : (words : List WordText) (i : ℕ) (word : WordText) (list : List (List ℕ)) → i < length words → word ≡ get_or words i word → list ≡ word.nets → length (word_names (take i words)) + length list ≤ length (word_names words)
words_long words i word list less is nets =
    omega (arith, ap (λ (zs : List (List ℕ)). length zs) (words_split words i word list less is nets), append_long (word_names (take i words) ++ list) (word_names (drop (i + 1) words)), append_long (word_names (take i words)) list)
