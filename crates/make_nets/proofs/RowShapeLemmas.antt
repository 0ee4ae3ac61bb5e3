-- The gates of rows are well made, and their nets may be read by gates after them.
use Rattle.std.proofs.Math.Nat.{suc-mul}
use Rattle.std.proofs.lemmas.List.{take_more}
use Rattle.std.proofs.Common.{◌≡◌, ℕ, suc, refl, sym, ◌∙◌, ap, ◌<◌, ◌≤◌, ◌+◌, ◌*◌, inl, inr, arith, List, [], ◌∷◌, ◌++◌, length, None, Some, subst, take, take_all}
use Rattle.std.specs.Prelude.{slice_index}
use Rattle.lists.specs.Lists.{Has}
use Rattle.lists.specs.laws.HasLaws.{Has_cases}
use Rattle.lists.specs.laws.ListLaws.{length-push}
use Rattle.lists.specs.laws.ReadLaws.{got_push, got_at}
use Rattle.lists.specs.laws.TakeLaws.{take_none}
use Rattle.make_nets.specs.Plan.{Plan, each, with_and, with_xor, with_chain, chain_net}
use Rattle.make_nets.specs.PlanShape.{IsWellMade}
use Rattle.make_nets.proofs.OuterNets.{CanRead}
use Rattle.make_nets.proofs.EachLemmas.{each_keeps}
use Rattle.make_nets.proofs.ShapeLemmas.{can_read_more, and_made, xor_made, chain_made, chain_grows, chain_read}
use Rattle.make_nets.specs.Row.{Row, begun_row, with_net, row_by, next_net, and_row, xor_row}

module _ (outer : ℕ) (sources : List ℕ) where
  -- the nets may be read by gates after the plan
  abbrev pub AreReadable : List ℕ → Plan → Type 0
  AreReadable nets plan = (n : ℕ) → Has nets n → CanRead outer sources plan n

  -- k nets that may be read, of a plan that makes at most `most` inner nets, numbered from start
  pub record IsMadeRow (start most k : ℕ) (row : Row) : Type 0 where
    pub made : IsWellMade outer sources [] row.plan
    pub reads : AreReadable row.nets row.plan
    pub long : length row.nets ≡ k
    pub low : start ≤ row.plan.next
    pub high : row.plan.next ≤ start + most

  -- what gates after a plan make, of which at most `most` drive inner nets, and the net may be read then
  pub record IsMadeStep (most : ℕ) (plan after : Plan) (n : ℕ) : Type 0 where
    pub made : IsWellMade outer sources [] after
    pub reads : CanRead outer sources after n
    pub low : plan.next ≤ after.next
    pub high : after.next ≤ plan.next + most

  pub readable_at : (nets : List ℕ) (plan : Plan) (j : ℕ) → AreReadable nets plan → j < length nets → CanRead outer sources plan (slice_index nets j)
  readable_at nets plan j reads within = reads (slice_index nets j) (j, got_at nets j (slice_index nets j) 0 within refl)

  pub readable_more : (nets : List ℕ) (old new : Plan) → old.next ≤ new.next → AreReadable nets old → AreReadable nets new
  readable_more nets old new less reads n has = can_read_more outer sources old new n less (reads n has)

  pub readable_none : (plan : Plan) → AreReadable [] plan
  readable_none plan n has = let got : None ≡ Some n = has.1 in absurd (cc)

  pub readable_push : (nets : List ℕ) (m : ℕ) (plan : Plan) → AreReadable nets plan → CanRead outer sources plan m → AreReadable (nets ++ m ∷ []) plan
  readable_push nets m plan reads last n has = elim (got_push nets m has.0 n has.1) [
    | inl before ↦ reads n (has.0, before.0)
    | inr here ↦ let P : ℕ → Type 0 = λ l. CanRead outer sources plan l in subst P (sym here.1) last
  ]

  -- a row of no net
  pub none_made : (most : ℕ) (plan : Plan) → IsWellMade outer sources [] plan → IsMadeRow plan.next most 0 (begun_row plan)
  none_made most plan made = record { made = made; reads = readable_none plan; long = refl; low = omega arith; high = omega arith }

  -- one net more
  pub net_made : (start most k n : ℕ) (row : Row) → IsMadeRow start most k row → CanRead outer sources row.plan n → IsMadeRow start most (suc k) (with_net n row)
  net_made start most k n row is last = record {
    made = is.made;
    reads = readable_push row.nets n row.plan is.reads last;
    long = length-push row.nets n ∙ omega (arith, is.long);
    low = is.low;
    high = is.high;
  }

  step_made : (start c k n : ℕ) (row : Row) (after : Plan) → IsMadeRow start (k * c) k row → IsMadeStep c row.plan after n → IsMadeRow start (suc k * c) (suc k) (record { plan = after; nets = row.nets ++ n ∷ [] })
  step_made start c k n row after is step = record {
    made = step.made;
    reads = readable_push row.nets n after (readable_more row.nets row.plan after step.low is.reads) step.reads;
    long = length-push row.nets n ∙ omega (arith, is.long);
    low = omega (arith, is.low, step.low);
    high = omega (arith, is.high, step.high, suc-mul k c);
  }

  -- a row each of whose steps is well made
  pub row_made : (after : ℕ → Plan → Plan) (net : ℕ → Plan → ℕ) (c k : ℕ) (plan : Plan) → IsWellMade outer sources [] plan → ((j : ℕ) (p : Plan) → j < k → plan.next ≤ p.next → IsWellMade outer sources [] p → IsMadeStep c p (after j p) (net j p)) → IsMadeRow plan.next (k * c) k (row_by k after net plan)
  row_made after net c k plan made step =
      each_keeps (λ j row. IsMadeRow plan.next (j * c) j row) (λ j row. record { plan = after j row.plan; nets = row.nets ++ net j row.plan ∷ [] }) (begun_row plan) k
      (none_made (0 * c) plan made)
      (λ j row less is. step_made plan.next c j (net j row.plan) row (after j row.plan) is (step j row.plan less is.low is.made))

  -- a gate that drives the next inner net
  pub gate_step : (p after : Plan) → IsWellMade outer sources [] p → IsWellMade outer sources [] after → after.next ≡ suc p.next → IsMadeStep 1 p after p.next
  gate_step p after before made next = record { made = made; reads = inr (before.from, omega (arith, next)); low = omega (arith, next); high = omega (arith, next) }

  -- a chain that drives an inner net
  pub chain_step : (most : ℕ) (list : List ℕ) (p : Plan) → IsWellMade outer sources [] p → AreReadable list p → length list ≤ most → IsMadeStep (most + 1) p (with_chain None list p) (chain_net None list p)
  chain_step most list p made reads few =
      let grows = chain_grows None list p in
      record {
        made = chain_made outer sources [] None list p made tt reads;
        reads = chain_read outer sources [] list p made;
        low = grows.0;
        high = omega (arith, grows.1, few);
      }

  pub readable_append : (xs ys : List ℕ) (plan : Plan) → AreReadable xs plan → AreReadable ys plan → AreReadable (xs ++ ys) plan
  readable_append xs ys plan first second n has = elim (Has_cases xs ys n has) [
    | inl left ↦ first n left
    | inr right ↦ second n right
  ]

  -- what drives the outer nets z, one after another
  pub record IsMadeOutput (start most : ℕ) (targets : List ℕ) (plan : Plan) : Type 0 where
    pub made : IsWellMade outer sources targets plan
    pub low : start ≤ plan.next
    pub high : plan.next ≤ start + most

  pub outputs_made : (step : ℕ → Plan → Plan) (z : List ℕ) (c k : ℕ) (start : Plan) → length z ≡ k → IsWellMade outer sources [] start → ((q : ℕ) (p : Plan) → q < k → start.next ≤ p.next → IsWellMade outer sources (take q z) p → IsMadeOutput p.next c (take q z ++ slice_index z q ∷ []) (step q p)) → IsMadeOutput start.next (k * c) z (each k step start)
  outputs_made step z c k start long made each_made =
      let all = each_keeps (λ q p. IsMadeOutput start.next (q * c) (take q z) p) step start k
      (record { made = subst (λ ts. IsWellMade outer sources ts start) (sym (take_none z)) made; low = omega arith; high = omega arith })
      (λ q p less is. more q p less is (each_made q p less is.low is.made)) in
      subst (λ ts. IsMadeOutput start.next (k * c) ts (each k step start)) (take_all k z (omega (arith, long))) all
    where
      more : (q : ℕ) (p : Plan) → q < k → IsMadeOutput start.next (q * c) (take q z) p → IsMadeOutput p.next c (take q z ++ slice_index z q ∷ []) (step q p) → IsMadeOutput start.next (suc q * c) (take (suc q) z) (step q p)
      more q p less before here =
          let one_more : suc q ≡ q + 1 = omega arith in
          record {
            made = subst (λ ts. IsWellMade outer sources ts (step q p)) (sym (ap (λ l. take l z) one_more ∙ take_more z q 0 (omega (arith, less, long)))) here.made;
            low = omega (arith, before.low, here.low);
            high = omega (arith, before.high, here.high, suc-mul q c);
          }

  pub and_row_made : (k a : ℕ) (nets : List ℕ) (plan : Plan) → IsWellMade outer sources [] plan → CanRead outer sources plan a → AreReadable nets plan → length nets ≡ k → IsMadeRow plan.next (k * 1) k (and_row k a nets plan)
  and_row_made k a nets plan made first reads long =
      row_made (λ j. with_and None a (slice_index nets j)) next_net 1 k plan made
      (λ j p less low made. gate_step p (with_and None a (slice_index nets j) p) made (and_made outer sources [] None a (slice_index nets j) p made tt (can_read_more outer sources plan p a low first) (can_read_more outer sources plan p (slice_index nets j) low (readable_at nets plan j reads (omega (arith, less, long))))) refl)

  pub xor_row_made : (k : ℕ) (first second : List ℕ) (plan : Plan) → IsWellMade outer sources [] plan → AreReadable first plan → AreReadable second plan → length first ≡ k → length second ≡ k → IsMadeRow plan.next (k * 1) k (xor_row k first second plan)
  xor_row_made k first second plan made read_first read_second long_first long_second =
      row_made (λ j. with_xor None (slice_index first j) (slice_index second j)) next_net 1 k plan made
      (λ j p less low made. gate_step p (with_xor None (slice_index first j) (slice_index second j) p) made (xor_made outer sources [] None (slice_index first j) (slice_index second j) p made tt (can_read_more outer sources plan p (slice_index first j) low (readable_at first plan j read_first (omega (arith, less, long_first)))) (can_read_more outer sources plan p (slice_index second j) low (readable_at second plan j read_second (omega (arith, less, long_second))))) refl)
