-- Bindings of one cycle: those that `bind` gives where nothing is left to unroll, and those on other nets.
use Rattle.std.proofs.Common.{◌≡◌, ◌∙◌, ap, sym, refl, inl, inr, ⊎_elim, subst, ℕ, zero, suc, ◌<◌, ◌≤◌, ◌+◌, ◌*◌, List, [], ◌∷◌, ◌++◌, length, map, take, drop, filter, not, cond, true, false, Bool, Some, get_or, arith, All, mul-suc, append-nil, append_assoc, drop_of_length-le}
use Rattle.std.specs.Prelude.{◌↔◌, IsTrue, slice_get}
use Rattle.std.proofs.lemmas.Bool.{cases_lt, true≢false}
use Rattle.std.proofs.lemmas.List.{drop_more, length-take-le as long_front}
use Rattle.std.proofs.lemmas.Option.{slice_get-get_or}
use Rattle.lists.specs.Lists.{Has}
use Rattle.lists.specs.laws.HasLaws.{none_at, All_has}
use Rattle.graph_core.specs.Walk.{IsChain}
use Rattle.net_core.specs.LatchValue.{LatchValue}
use Rattle.net_core.specs.NetList.{NetList, nets}
use Rattle.net_core.specs.Sound.{Needs}
use Rattle.net_words.specs.Binding.{Binding, IsBinding}
use Rattle.net_words.specs.BoundTo.{StandsOn, IsBoundTo, output_bits}
use Rattle.net_words.specs.Feeds.{fed_nets}
use Rattle.net_words.specs.OneCycle.{IsFlat, IsClosed, IsOneCycle}
use Rattle.net_words.specs.Reach.{Draws, Reaches, ReachesByGates}
use Rattle.net_words.specs.Rebind.{AreNets, rebinding, rebound}
use Rattle.net_words.specs.Roles.{same_role}
use Rattle.net_words.specs.declared.bound.BoundWord.{BoundWord}
use Rattle.net_words.specs.declared.feed.Feed.{Feed}
use Rattle.net_words.specs.declared.word.Role.{Role}
use Rattle.net_words.specs.declared.word.Role.TheVariants.{Input, State, Fed, Output}
use Rattle.net_words.proofs.MemberLemmas.{bits_word, output_bits_word}

-- without latches a word that is not the output word stands on primary inputs
stands_input : (net : NetList) (role : Role) (n : ℕ) → net.latches ≡ [] → same_role role Output ≡ false → StandsOn net role n → Has net.inputs n
stands_input net Input n flat other stands = stands
stands_input net State n flat other stands = let P : List LatchValue → Type 0 = λ ls. Has (map (λ (l : LatchValue). l.out) ls) n in absurd (none_at n (subst P flat stands))
stands_input net Fed n flat other stands = absurd stands
stands_input net Output n flat other stands = absurd (cc)

-- a chain of gates is one of gates and latches
chain_draws : (net : NetList) (m : ℕ) (over : List ℕ) (n : ℕ) → IsChain (Needs net) m over n → IsChain (Draws net) m over n
chain_draws net m [] n chain = inl chain
chain_draws net m (c ∷ cs) n chain = (inl chain.0, chain_draws net c cs n chain.1)

reach_draws : (net : NetList) (n : ℕ) (ends : List ℕ) → ReachesByGates net n ends → Reaches net n ends
reach_draws net n ends (inl has) = inl has
reach_draws net n ends (inr far) = inr (far.0, far.1, far.2, chain_draws net far.0 far.1 n far.3)

-- what is bound to a net, with nothing left to unroll, is of one cycle
pub flat_bound : (net : NetList) (binding : Binding) → IsBoundTo net binding → IsFlat net binding → IsOneCycle net binding
flat_bound net binding bound flat = record {
  parts = bound.parts;
  count = bound.count;
  flat = flat;
  once = bound.once;
  inputs = λ n has. let found = bits_word binding.words n has in stands_input net found.0.role n flat.latches found.3 (bound.places found.0 n found.1 found.2);
  outputs = λ n has.
      let found = output_bits_word binding.words n has in
      let P : Role → Type 0 = λ r. StandsOn net r n in
      subst P found.3 (bound.places found.0 n found.1 found.2);
  closed = λ n has free reaches. bound.covered n has free (λ fed. let P : List Feed → Type 0 = λ fs. Has (fed_nets fs) n in none_at n (subst P flat.feeds fed)) (reach_draws net n (output_bits binding.words) reaches);
}

-- words on other nets have the same roles
rebound_filter : (p : Role → Bool) (k : ℕ) (words : List BoundWord) (list : List ℕ) → length (filter (λ word. p word.role) (rebound k words list)) ≡ length (filter (λ word. p word.role) words)
rebound_filter p k [] list = refl
rebound_filter p k (word ∷ words) list =
    let rest : length (filter (λ (w : BoundWord). p w.role) (rebound k words (drop k list))) ≡ length (filter (λ (w : BoundWord). p w.role) words) = rebound_filter p k words (drop k list) in
    elim (p word.role) as (λ b. length (cond b (record { name = word.name; role = word.role; nets = take k list } ∷ filter (λ (w : BoundWord). p w.role) (rebound k words (drop k list))) (filter (λ (w : BoundWord). p w.role) (rebound k words (drop k list)))) ≡ length (cond b (word ∷ filter (λ (w : BoundWord). p w.role) words) (filter (λ (w : BoundWord). p w.role) words))) [ true ↦ ap suc rest | false ↦ rest ]

long_rest : (k m : ℕ) (list : List ℕ) → length list ≡ k + m → length (drop k list) ≡ m
long_rest zero m list long = omega (arith, long)
long_rest (suc k) m [] long = absurd (omega arith)
long_rest (suc k) m (x ∷ xs) long = long_rest k m xs (omega (arith, long))

-- each has k nets
rebound_long : (k : ℕ) (words : List BoundWord) (list : List ℕ) → length list ≡ k * length words → All (λ word. length word.nets ≡ k) (rebound k words list)
rebound_long k [] list long i d below = absurd (omega arith)
rebound_long k (word ∷ words) list long zero d below = long_front k list (omega (arith, long, mul-suc k (length words)))
rebound_long k (word ∷ words) list long (suc i) d below = rebound_long k words (drop k list) (long_rest k (k * length words) list (omega (arith, long, mul-suc k (length words)))) i d (omega arith)

all_front : (P : ℕ → Type 0) (k : ℕ) (list : List ℕ) → ((n : ℕ) → Has list n → P n) → (n : ℕ) → Has (take k list) n → P n
all_front P zero list each n has = absurd (none_at n has)
all_front P (suc k) [] each n has = absurd (none_at n has)
all_front P (suc k) (x ∷ xs) each n (zero, got) = each n (zero, got)
all_front P (suc k) (x ∷ xs) each n (suc i, got) = all_front P k xs (λ m has. each m (suc has.0, has.1)) n (i, got)

all_rest : (P : ℕ → Type 0) (k : ℕ) (list : List ℕ) → ((n : ℕ) → Has list n → P n) → (n : ℕ) → Has (drop k list) n → P n
all_rest P zero list each n has = each n has
all_rest P (suc k) [] each n has = absurd (none_at n has)
all_rest P (suc k) (x ∷ xs) each n has = all_rest P k xs (λ m h. each m (suc h.0, h.1)) n has

-- each net of such a word is one of the list
rebound_nets : (P : ℕ → Type 0) (k : ℕ) (words : List BoundWord) (list : List ℕ) → ((n : ℕ) → Has list n → P n) → (word : BoundWord) (n : ℕ) → Has (rebound k words list) word → Has word.nets n → P n
rebound_nets P k [] list each word n has in_w = absurd (none_at word has)
rebound_nets P k (first ∷ words) list each word n (zero, got) in_w =
    let same : record { name = first.name; role = first.role; nets = take k list } ≡ word = cc in
    all_front P k list each n (let Q : BoundWord → Type 0 = λ w. Has w.nets n in subst Q (sym same) in_w)
rebound_nets P k (first ∷ words) list each word n (suc i, got) in_w = rebound_nets P k words (drop k list) (all_rest P k list each) word n (i, got) in_w

module _ (net : NetList) (binding : Binding) (list : List ℕ) (is : IsBinding binding) (are : AreNets net binding list) where
  pub rebound_parts : IsBinding (rebinding net binding list)
  rebound_parts = record {
    some = is.some;
    most = is.most;
    one = rebound_filter (λ r. same_role r Output) binding.k binding.words list ∙ is.one;
    few = omega (arith, rebound_filter (λ r. not (same_role r Output)) binding.k binding.words list, is.few);
    each = λ i d below. inl (rebound_long binding.k binding.words list are.long i d below);
  }

  pub rebound_flat : IsFlat net (rebinding net binding list)
  rebound_flat = record { latches = are.flat; feeds = refl; named = rebound_long binding.k binding.words list are.long }

  pub rebound_cycle : IsClosed net (rebound binding.k binding.words list) → IsOneCycle net (rebinding net binding list)
  rebound_cycle closed = record {
    parts = rebound_parts;
    count = refl;
    flat = rebound_flat;
    once = are.once;
    inputs = are.inputs;
    outputs = λ n has. let found = output_bits_word (rebound binding.k binding.words list) n has in rebound_nets (λ m. m < nets net) binding.k binding.words list (λ m in_list. All_has (λ j. j < nets net) list m are.exist in_list) found.0 n found.1 found.2;
    closed = closed;
  }

-- each of the first words has k nets
abbrev pub HaveNetsTo : ℕ → List BoundWord → ℕ → Type 0
HaveNetsTo k words w = (v : ℕ) (word : BoundWord) → v < w → slice_get words v ≡ Some word → length word.nets ≡ k

-- what is told of the word with this number
abbrev pub Tells : ℕ → List BoundWord → ℕ → Bool → Type 0
Tells k words w b = (word : BoundWord) → slice_get words w ≡ Some word → IsTrue b ↔ (length word.nets ≡ k)

pub have_more : (k : ℕ) (words : List BoundWord) (w : ℕ) (b : Bool) → Tells k words w b → b ≡ true → HaveNetsTo k words w → HaveNetsTo k words (w + 1)
have_more k words w b tells is so_far v word less at =
    ⊎_elim (λ before. so_far v word before at) (λ past. own (omega arith)) (cases_lt v w)
  where
    own : v ≡ w → length word.nets ≡ k
    own same = let P : ℕ → Type 0 = λ j. slice_get words j ≡ Some word in (tells word (subst P same at)).0 is

pub have_all : (k : ℕ) (words : List BoundWord) (w : ℕ) → length words ≤ w → HaveNetsTo k words w → All (λ word. length word.nets ≡ k) words
have_all k words w past so_far i d below = so_far i (get_or words i d) (omega arith) (slice_get-get_or words i d below)

pub has_no_nets : (k : ℕ) (words : List BoundWord) (w : ℕ) (b : Bool) → w < length words → Tells k words w b → b ≡ false → All (λ word. length word.nets ≡ k) words → ⊥
has_no_nets k words w b less tells is all =
    let word = some_word words w less in
    let hit : b ≡ true = (tells word.0 word.1).1 (All_has (λ (u : BoundWord). length u.nets ≡ k) words word.0 all (w, word.1)) in
    true≢false (sym hit ∙ is)
  where
    some_word : (ws : List BoundWord) (i : ℕ) → i < length ws → (x : BoundWord) × (slice_get ws i ≡ Some x)
    some_word [] i l = absurd (omega arith)
    some_word (x ∷ xs) zero l = (x, refl)
    some_word (x ∷ xs) (suc i) l = some_word xs i (omega arith)

drop_drop : (a b : ℕ) (list : List ℕ) → drop a (drop b list) ≡ drop (b + a) list
drop_drop a zero list = ap (λ n. drop n list) (omega arith)
drop_drop a (suc b) [] = nothing a ∙ sym (nothing (suc b + a))
  where
    nothing : (n : ℕ) → ◌≡◌ {A = List ℕ} (drop n []) []
    nothing zero = refl
    nothing (suc n) = refl
drop_drop a (suc b) (x ∷ xs) = let e : suc (b + a) ≡ suc b + a = omega arith in drop_drop a b xs ∙ ap (λ n. drop n (x ∷ xs)) e

-- one more word on its nets
pub rebound_step : (k : ℕ) (words : List BoundWord) (list : List ℕ) (before new : List BoundWord) (w : ℕ) (made : BoundWord) → w < length words → ((word : BoundWord) → slice_get words w ≡ Some word → made ≡ record { name = word.name; role = word.role; nets = take k (drop (k * w) list) }) → new ≡ before ++ made ∷ [] → before ++ rebound k (drop w words) (drop (k * w) list) ≡ rebound k words list → new ++ rebound k (drop (w + 1) words) (drop (k * (w + 1)) list) ≡ rebound k words list
rebound_step k words list before new w made less is new_is so_far =
    let word : BoundWord = get_or words w made in
    let rest : List BoundWord = rebound k (drop (w + 1) words) (drop k (drop (k * w) list)) in
    let bound : BoundWord = record { name = word.name; role = word.role; nets = take k (drop (k * w) list) } in
    let up : w + 1 ≡ suc w = omega arith in
    let next : drop k (drop (k * w) list) ≡ drop (k * (w + 1)) list = drop_drop k (k * w) list ∙ ap (λ n. drop n list) (sym (ap (λ n. k * n) up ∙ mul-suc k w)) in
    ap (λ xs. xs ++ rebound k (drop (w + 1) words) (drop (k * (w + 1)) list)) new_is
    ∙ (append_assoc before (made ∷ []) (rebound k (drop (w + 1) words) (drop (k * (w + 1)) list))
    ∙ (ap (λ xs. before ++ made ∷ rebound k (drop (w + 1) words) xs) (sym next)
    ∙ (ap (λ m. before ++ m ∷ rest) (is word (slice_get-get_or words w made less))
    ∙ (ap (λ ws. before ++ rebound k ws (drop (k * w) list)) (sym (drop_more words w made less)) ∙ so_far))))

pub rebound_end : (k : ℕ) (words : List BoundWord) (list : List ℕ) (before : List BoundWord) (w : ℕ) → length words ≤ w → before ++ rebound k (drop w words) (drop (k * w) list) ≡ rebound k words list → before ≡ rebound k words list
rebound_end k words list before w past so_far = sym (append-nil before) ∙ (ap (λ ws. before ++ rebound k ws (drop (k * w) list)) (sym (drop_of_length-le words past)) ∙ so_far)
