-- A rank put among bits behind those that are below it.
use Rattle.std.proofs.Common.{◌≡◌, ℕ, ◌+◌, ◌<◌, ◌≤◌, ◌==◌, cond, List, [], ◌∷◌, ◌++◌, length, drop, get_or, append-nil, refl, sym, ◌∙◌, ap, subst, arith}
use Rattle.std.specs.List.{AllByRecursion}
use Rattle.std.proofs.lemmas.Bool.{le-ltb, ne_eqb}
use Rattle.std.proofs.lemmas.List.{append_assoc, drop_more, get_or-drop, length-drop}
use Rattle.lists.specs.laws.ListLaws.{all_append}
use Rattle.poly_mixed.specs.Product.{with_rank, union}
use Rattle.rato_reduce.specs.private.LowBits.{AddsLow, CopiesLow, IsBefore}
use Rattle.rato_reduce.specs.private.Rows.{IsLonger}
use Rattle.rato_reduce.proofs.UnitedLemmas.{with_lower, with_same}

-- ---- a rank behind lower bits

with_higher : (x r : ℕ) (rs : List ℕ) → x < r → with_rank (x ∷ rs) r ≡ x ∷ with_rank rs r
with_higher x r rs less =
    ap (λ b. cond b (r ∷ x ∷ rs) (cond (r == x) (x ∷ rs) (x ∷ with_rank rs r))) (le-ltb r x (omega (arith, less)))
    ∙ ap (λ b. cond b (x ∷ rs) (x ∷ with_rank rs r)) (ne_eqb r x (λ same. absurd (omega (arith, less, same))))

passes : (xs ys : List ℕ) (rank : ℕ) → AllByRecursion (λ r. r < rank) xs → with_rank (xs ++ ys) rank ≡ xs ++ with_rank ys rank
passes [] ys rank low = refl
passes (x ∷ xs) ys rank low = with_higher x rank (xs ++ ys) low.0 ∙ ap (λ (rs : List ℕ). x ∷ rs) (passes xs ys rank low.1)

not_above : (rank : ℕ) (xs : List ℕ) → AllByRecursion (λ r. r < rank) xs → AllByRecursion (λ r. r ≤ rank) xs
not_above rank [] low = tt
not_above rank (x ∷ xs) low = ((let less : x < rank = low.0 in omega (arith, less)), not_above rank xs low.1)

below_next : (rank next : ℕ) (xs : List ℕ) → AllByRecursion (λ r. r ≤ rank) xs → rank < next → AllByRecursion (λ r. r < next) xs
below_next rank next [] low less = tt
below_next rank next (x ∷ xs) low less = ((let one : x ≤ rank = low.0 in omega (arith, one, less)), below_next rank next xs low.1 less)

-- ---- a rank before bits

before_all : (rank : ℕ) (xs : List ℕ) → IsBefore rank xs → with_rank xs rank ≡ rank ∷ xs
before_all rank [] before = refl
before_all rank (x ∷ xs) before = let less : rank < x = before (omega arith) in with_lower x rank xs less

before_append : (rank : ℕ) (xs more : List ℕ) → IsBefore rank xs → IsBefore rank more → IsBefore rank (xs ++ more)
before_append rank [] more one other = other
before_append rank (x ∷ xs) more one other = λ some. one (omega arith)

before_rest : (bits : List ℕ) (to rank : ℕ) → (to < length bits → rank < get_or bits to 0) → IsBefore rank (drop to bits)
before_rest bits to rank first = λ some.
    let inside : to < length bits = omega (arith, some, length-drop to bits) in
    let end : to + 0 ≡ to = omega arith in
    let same : get_or (drop to bits) 0 0 ≡ get_or bits to 0 = get_or-drop to bits 0 0 ∙ ap (λ (n : ℕ). get_or bits n 0) end in
    let P : ℕ → Type 0 = λ x. rank < x in
    subst P (sym same) (first inside)

pub before_lower : (first second : ℕ) (bits : List ℕ) → first < second → IsBefore second bits → IsBefore first bits
before_lower first second bits less before = λ some.
    let next : second < get_or bits 0 0 = before some in
    let lower : first < get_or bits 0 0 = omega (arith, less, next) in
    lower

-- ---- lower bits are copied

module _ (bits : List ℕ) (from rank : ℕ) (old : List ℕ) where
  pub none_copied : CopiesLow bits from from rank old old
  none_copied = record { copied = []; is = sym (append-nil old); rest = refl; low = tt }

  pub one_copied : (at : ℕ) (mid new : List ℕ) → CopiesLow bits from at rank old mid → at < length bits → get_or bits at 0 < rank → new ≡ mid ++ get_or bits at 0 ∷ [] → CopiesLow bits from (at + 1) rank old new
  one_copied at mid new before inside less put =
      let x : ℕ = get_or bits at 0 in
      let xs : List ℕ = before.copied in
      record {
        copied = xs ++ x ∷ [];
        is = put ∙ ap (λ (rs : List ℕ). rs ++ x ∷ []) before.is ∙ append_assoc old xs (x ∷ []);
        rest = before.rest ∙ ap (λ (rs : List ℕ). xs ++ rs) (drop_more bits at 0 inside) ∙ sym (append_assoc xs (x ∷ []) (drop (at + 1) bits));
        low = all_append (λ r. r < rank) xs (x ∷ []) before.low (less, tt);
      }

  -- the rank goes behind them
  split : (to : ℕ) (mid more : List ℕ) (copies : CopiesLow bits from to rank old mid) → with_rank (drop from bits ++ more) rank ≡ copies.copied ++ with_rank (drop to bits ++ more) rank
  split to mid more copies =
      let xs : List ℕ = copies.copied in
      ap (λ (rs : List ℕ). with_rank (rs ++ more) rank) copies.rest
      ∙ ap (λ (rs : List ℕ). with_rank rs rank) (append_assoc xs (drop to bits) more)
      ∙ passes xs (drop to bits ++ more) rank copies.low

  pub rank_there : (to : ℕ) (mid : List ℕ) → CopiesLow bits from to rank old mid → to < length bits → get_or bits to 0 ≡ rank → AddsLow bits from to rank old mid
  rank_there to mid copies inside found =
      let xs : List ℕ = copies.copied in
      let tail : List ℕ = drop (to + 1) bits in
      let here : drop to bits ≡ rank ∷ tail = drop_more bits to 0 inside ∙ ap (λ (x : ℕ). x ∷ tail) found in
      record {
        added = xs;
        is = copies.is;
        low = not_above rank xs copies.low;
        united = λ more before.
            split to mid more copies
            ∙ ap (λ (rs : List ℕ). xs ++ rs) (ap (λ (rs : List ℕ). with_rank (rs ++ more) rank) here ∙ with_same rank (tail ++ more) ∙ ap (λ (rs : List ℕ). rs ++ more) (sym here));
      }

  pub rank_put : (to : ℕ) (mid new : List ℕ) → CopiesLow bits from to rank old mid → (to < length bits → rank < get_or bits to 0) → new ≡ mid ++ rank ∷ [] → AddsLow bits from to rank old new
  rank_put to mid new copies first put =
      let xs : List ℕ = copies.copied in
      let same : rank ≤ rank = omega arith in
      record {
        added = xs ++ rank ∷ [];
        is = put ∙ ap (λ (rs : List ℕ). rs ++ rank ∷ []) copies.is ∙ append_assoc old xs (rank ∷ []);
        low = all_append (λ r. r ≤ rank) xs (rank ∷ []) (not_above rank xs copies.low) (same, tt);
        united = λ more before.
            split to mid more copies
            ∙ ap (λ (rs : List ℕ). xs ++ rs) (before_all rank (drop to bits ++ more) (before_append rank (drop to bits) more (before_rest bits to rank first) before))
            ∙ sym (append_assoc xs (rank ∷ []) (drop to bits ++ more));
      }

-- ---- one rank, and two

pub longer_more : (old mid new : List ℕ) → IsLonger old mid → IsLonger mid new → IsLonger old new
longer_more old mid new one other = record {
  more = one.more ++ other.more;
  is = other.is ∙ ap (λ (rs : List ℕ). rs ++ other.more) one.is ∙ append_assoc old one.more other.more;
}

pub adds_longer : (bits : List ℕ) (from to rank : ℕ) (old new : List ℕ) → AddsLow bits from to rank old new → IsLonger old new
adds_longer bits from to rank old new adds = record { more = adds.added; is = adds.is }

module _ (front back : List ℕ) where
  -- the bits that are left stand behind it
  pub one_united : (from to rank : ℕ) (old mid new : List ℕ) → AddsLow front from to rank old mid → IsBefore rank back → new ≡ mid ++ (drop to front ++ back) → new ≡ old ++ with_rank (drop from front ++ back) rank
  one_united from to rank old mid new adds before end =
      let rest : List ℕ = drop to front ++ back in
      end ∙ ap (λ (rs : List ℕ). rs ++ rest) adds.is ∙ append_assoc old adds.added rest ∙ ap (λ (rs : List ℕ). old ++ rs) (sym (adds.united back before))

  pub two_united : (middle to first second : ℕ) (old one mid new : List ℕ) → AddsLow front 0 middle first old one → AddsLow front middle to second one mid → first < second → IsBefore second back → new ≡ mid ++ (drop to front ++ back)
      → new ≡ old ++ union (front ++ back) (first ∷ second ∷ [])
  two_united middle to first second old one mid new low high less before end =
      let xs : List ℕ = low.added in
      let rest : List ℕ = drop middle front ++ back in
      one_united middle to second one mid new high before end
      ∙ ap (λ (rs : List ℕ). rs ++ with_rank rest second) low.is
      ∙ append_assoc old xs (with_rank rest second)
      ∙ ap (λ (rs : List ℕ). old ++ rs) (sym (passes xs rest second (below_next first second xs low.low less)))
      ∙ ap (λ (rs : List ℕ). old ++ with_rank rs second) (sym (low.united back (before_lower first second back less before)))
