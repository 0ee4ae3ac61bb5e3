-- The order of variables, built net by net.
use Rattle.std.proofs.Common.{◌≡◌, ◌∙◌, ap, sym, refl, subst, ℕ, zero, suc, ◌<◌, ◌+◌, Bool, true, false, cond, not, List, [], ◌∷◌, ◌++◌, length, arith}
use Rattle.std.specs.Prelude.{filter}
use Rattle.std.specs.List.{range_with_len}
use Rattle.std.proofs.lemmas.List.{append-nil, append_assoc}
use Rattle.std.proofs.lemmas.List.Elements.{filter-append}
use Rattle.lists.specs.Lists.{Has}
use Rattle.lists.specs.laws.HasLaws.{Has_left, Has_right, has_range}
use Rattle.lists.specs.laws.ListLaws.{range_more}
use Rattle.net_core.specs.NetList.{NetList, nets}
use Rattle.net_words.specs.Roles.{stands_in}
use Rattle.net_words.specs.Variables.{others}
use Rattle.stage_model.specs.Variables.{rank_in}
use Rattle.stage_model.specs.private.Plain.{HasEachNet}
use Rattle.stage_model.proofs.BlindLemmas.{front_rank}
use Rattle.net_words.proofs.MemberLemmas.{stands_has}

one_other : (front : List ℕ) (n : ℕ) → others (n + 1) front ≡ others n front ++ cond (not (stands_in front n)) (n ∷ []) []
one_other front n =
    let p : ℕ → Bool = λ m. not (stands_in front m) in
    let next : n + 1 ≡ suc n = omega arith in
    ap (filter p) (ap (range_with_len 0) next ∙ (range_more 0 n ∙ ap (λ m. range_with_len 0 n ++ m ∷ []) (omega arith))) ∙ filter-append p (range_with_len 0 n) (n ∷ [])

-- one more net that may be in no word
pub others_step : (front start order new : List ℕ) (n : ℕ) → order ≡ start ++ others n front → new ≡ order ++ cond (not (stands_in front n)) (n ∷ []) [] → new ≡ start ++ others (n + 1) front
others_step front start order new n old more =
    more ∙ (ap (λ xs. xs ++ cond (not (stands_in front n)) (n ∷ []) []) old
    ∙ (join start (others n front) (cond (not (stands_in front n)) (n ∷ []) []) ∙ ap (λ xs. start ++ xs) (sym (one_other front n))))
  where
    join : (xs ys zs : List ℕ) → (xs ++ ys) ++ zs ≡ xs ++ (ys ++ zs)
    join xs ys zs = append_assoc xs ys zs

has_filter : (q : ℕ → Bool) (xs : List ℕ) (x : ℕ) → Has xs x → q x ≡ true → Has (filter q xs) x
has_filter q [] x has is = let got = has.1 in absurd (cc)
has_filter q (y ∷ ys) x has is =
    elim (q y) as (λ b. q y ≡ b → Has (cond b (y ∷ filter q ys) (filter q ys)) x) [
      | true ↦ λ e. kept has (λ later. has_filter q ys x later is)
      | false ↦ λ e. dropped e has (λ later. has_filter q ys x later is)
    ] refl
  where
    kept : Has (y ∷ ys) x → (Has ys x → Has (filter q ys) x) → Has (y ∷ filter q ys) x
    kept (zero, got) more = (0, got)
    kept (suc k, got) more = let rest = more (k, got) in (suc rest.0, rest.1)

    dropped : q y ≡ false → Has (y ∷ ys) x → (Has ys x → Has (filter q ys) x) → Has (filter q ys) x
    dropped e (zero, got) more =
        let same : y ≡ x = cc in
        let bad : q x ≡ false = ap q (sym same) ∙ e in
        absurd (cc)
    dropped e (suc k, got) more = more (k, got)

pub has_each : (net : NetList) (ns : List ℕ) → HasEachNet net (ns ++ others (nets net) ns)
has_each net ns n less =
    let has : Has (ns ++ others (nets net) ns) n = elim (stands_in ns n) as (λ b. stands_in ns n ≡ b → Has (ns ++ others (nets net) ns) n) [
      | true ↦ λ e. Has_left ns (others (nets net) ns) n (stands_has ns n e)
      | false ↦ λ e. Has_right ns (others (nets net) ns) n (has_filter (λ m. not (stands_in ns m)) (range_with_len 0 (nets net)) n (has_range 0 (nets net) n (omega arith) (omega arith)) (ap not e))
    ] refl in
    let Q : List ℕ → Type 0 = λ xs. rank_in xs n < length (ns ++ others (nets net) ns) in
    subst Q (append-nil (ns ++ others (nets net) ns)) (front_rank (ns ++ others (nets net) ns) [] n has)
