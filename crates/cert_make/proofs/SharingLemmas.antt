-- What the code knows of multipliers is what a text of a certificate asks of them.
use Rattle.std.proofs.Common.{◌≡◌, ◌∙◌, ap, sym, refl, subst, ℕ, zero, suc, ◌+◌, ◌≤◌, ◌&&◌, Bool, true, false, cond, not, List, [], ◌∷◌, ◌++◌, length, nat_lt, Option, Some, None, is_some, arith, codes, decimal}
use Rattle.std.specs.List.{AllByRecursion}
use Rattle.std.specs.Option.{option_map, unwrap_or}
use Rattle.std.proofs.lemmas.Bool.{ltb-true, lt-ltb, ne_eqb}
use Rattle.std.proofs.lemmas.List.{length-append}
use Rattle.lists.specs.Lists.{Has}
use Rattle.lists.specs.laws.NumberLaws.{self_plus_zero}
use Rattle.poly_mixed.specs.Labels.{Labelling}
use Rattle.poly_mixed.specs.Polynomial.{Terms}
use Rattle.poly_mixed.specs.Steps.{Step}
use Rattle.poly_mixed.specs.Text.{text}
use Rattle.poly_mixed.specs.laws.TextLaw.{IsWritten}
use Rattle.cert_make.specs.CertText.{let_of, number_text, multiplier_text, let_lines}
use Rattle.cert_make.specs.Sharing.{are_same, uses, is_shared, number_of, is_first, shares_with, shares_from}
use Rattle.cert_make.specs.Writable.{IsWritablePair}
use Rattle.cert_make.specs.declared.marks.Mark.{Mark}
use Rattle.cert_make.specs.declared.marks.Mark.TheVariants.{Once, Often, Number}
use Rattle.cert_make.specs.declared.marks.Marks.{Marks}
use Rattle.cert_make.specs.declared.sharing.Sharing.{Sharing}
use Rattle.cert_make.specs.private.Keys.{KeyParts, is_key, key_by}
use Rattle.cert_make.specs.private.TextSharing.{mark_at, seen_again, key_uses, key_number, numbered, mark_of, AreMarks, lets_by, written_by, count_by, mark_by, IsSharingOf}
use Rattle.cert_make.proofs.KeyLemmas.{key_is, keys_tell}
use Rattle.cert_make.proofs.SameLemmas.{same_itself}

module _ (l : Labelling) (k : ℕ) where
  -- how many pairs have a multiplier, by its key
  uses_told : (pairs : List Step) (m : Terms) → AllByRecursion (IsWritablePair l k) pairs → IsWritten l k m → key_uses l pairs (key_by l m) ≡ uses pairs m
  uses_told [] m all is = refl
  uses_told (s ∷ pairs) m all is = λ i. cond (keys_tell l k m s.1 is all.0.1 i) 1 0 + uses_told pairs m all.1 is i

  -- the number of a multiplier, by its key
  number_told : (shares : List Terms) (m : Terms) → AllByRecursion (IsWritten l k) shares → IsWritten l k m → key_number l shares (key_by l m) ≡ number_of shares m
  number_told [] m all is = refl
  number_told (x ∷ xs) m all is = λ i. cond (keys_tell l k m x is all.0 i) (Some 0) (option_map (λ j. j + 1) (number_told xs m all.1 is i))

  pub written_pair : (pairs : List Step) (s : Step) → AllByRecursion (IsWritablePair l k) pairs → Has pairs s → IsWritablePair l k s
  written_pair [] s all has = absurd (cc)
  written_pair (x ∷ pairs) s all (zero, at) = (let P : Step → Type 0 = IsWritablePair l k in let same : x ≡ s = cc in subst P same all.0)
  written_pair (x ∷ pairs) s all (suc n, at) = written_pair pairs s all.1 (n, at)

-- a multiplier of a pair is one of at least one
used : (pairs : List Step) (s : Step) → Has pairs s → 1 ≤ uses pairs s.1
used [] s has = absurd (cc)
used (x ∷ pairs) s (zero, at) =
    let same : x ≡ s = cc in
    let here : ◌≡◌ {A = ℕ} (cond (are_same s.1 x.1) 1 0) 1 = ap (λ (y : Step). cond (are_same s.1 y.1) 1 0) same ∙ ap (λ b. cond b 1 0) (same_itself s.1) in
    omega (arith, here)
used (x ∷ pairs) s (suc n, at) = omega (arith, used pairs s (n, at))

-- ---- by how many pairs have the multiplier, and by its number among those shared before

-- the number of a multiplier that is added to others
pub number_added : (shares : List Terms) (m : Terms) → number_of shares m ≡ None → number_of (shares ++ m ∷ []) m ≡ Some (length shares)
number_added [] m none = ap (λ b. cond b (Some 0) None) (same_itself m)
number_added (x ∷ xs) m none =
    (elim (are_same m x) as (λ b. cond b (Some 0) (option_map (λ i. i + 1) (number_of xs m)) ≡ None → cond b (Some 0) (option_map (λ i. i + 1) (number_of (xs ++ m ∷ []) m)) ≡ Some (suc (length xs))) [
      | true ↦ λ e. absurd (cc)
      | false ↦ λ e. ap (option_map (λ i. i + 1)) (number_added xs m (unmapped (number_of xs m) e)) ∙ ap Some (omega arith)
    ]) none
  where
    unmapped : (o : Option ℕ) → option_map (λ i. i + 1) o ≡ None → o ≡ None
    unmapped None e = refl
    unmapped (Some i) e = absurd (cc)

key_number_added : (l : Labelling) (shares : List Terms) (m : Terms) (q : KeyParts) → is_key (key_by l m) q ≡ false → key_number l (shares ++ m ∷ []) q ≡ key_number l shares q
key_number_added l [] m q other = ap (λ b. cond b (Some 0) None) other
key_number_added l (x ∷ xs) m q other = ap (λ (o : Option ℕ). cond (is_key (key_by l x) q) (Some 0) (option_map (λ i. i + 1) o)) (key_number_added l xs m q other)

key_number_new : (l : Labelling) (shares : List Terms) (m : Terms) (q : KeyParts) → is_key (key_by l m) q ≡ true → key_number l shares q ≡ None → key_number l (shares ++ m ∷ []) q ≡ Some (length shares)
key_number_new l [] m q same none = ap (λ b. cond b (Some 0) None) same
key_number_new l (x ∷ xs) m q same none =
    (elim (is_key (key_by l x) q) as (λ b. cond b (Some 0) (option_map (λ i. i + 1) (key_number l xs q)) ≡ None → cond b (Some 0) (option_map (λ i. i + 1) (key_number l (xs ++ m ∷ []) q)) ≡ Some (suc (length xs))) [
      | true ↦ λ e. absurd (cc)
      | false ↦ λ e. ap (option_map (λ i. i + 1)) (key_number_new l xs m q same (unmapped (key_number l xs q) e)) ∙ ap Some (omega arith)
    ]) none
  where
    unmapped : (o : Option ℕ) → option_map (λ i. i + 1) o ≡ None → o ≡ None
    unmapped None e = refl
    unmapped (Some i) e = absurd (cc)

-- what is known of a multiplier of at least one pair
mark_used : (u : ℕ) (o : Option ℕ) → 1 ≤ u → mark_of u o ≡ cond (nat_lt 1 u) (Some (numbered o)) (Some Once)
mark_used u o some = ap (λ b. cond b None (cond (nat_lt 1 u) (Some (numbered o)) (Some Once))) (ne_eqb u 0 (λ e. omega (arith, e, some)))

module _ (l : Labelling) (pairs : List Step) (shares : List Terms) (m : Terms) where
  -- what is known of it where keys tell the multipliers
  abbrev Known : Option Mark
  Known = cond (is_shared pairs m) (Some (numbered (number_of shares m))) (Some Once)

  lets_known : lets_by Known (length shares) (text l m) ≡ let_lines l pairs shares m
  lets_known =
      elim (is_shared pairs m) as (λ b. lets_by (cond b (Some (numbered (number_of shares m))) (Some Once)) (length shares) (text l m) ≡ cond (b && not (is_some (number_of shares m))) (let_of (length shares) (text l m) ∷ []) []) [
        | true ↦ elim (number_of shares m) as (λ o. lets_by (Some (numbered o)) (length shares) (text l m) ≡ cond (true && not (is_some o)) (let_of (length shares) (text l m) ∷ []) []) [ None ↦ refl | Some n ↦ refl ]
        | false ↦ refl
      ]

  count_known : count_by Known (length shares) ≡ length (shares_with pairs shares m)
  count_known =
      elim (is_shared pairs m) as (λ b. count_by (cond b (Some (numbered (number_of shares m))) (Some Once)) (length shares) ≡ length (cond (b && not (is_some (number_of shares m))) (shares ++ m ∷ []) shares)) [
        | true ↦ elim (number_of shares m) as (λ o. count_by (Some (numbered o)) (length shares) ≡ length (cond (true && not (is_some o)) (shares ++ m ∷ []) shares)) [ None ↦ sym (length-append shares (m ∷ [])) | Some n ↦ refl ]
        | false ↦ refl
      ]

  written_known : written_by Known (length shares) (text l m) ≡ multiplier_text l pairs (shares_with pairs shares m) m
  written_known =
      elim (is_shared pairs m) as (λ b. written_by (cond b (Some (numbered (number_of shares m))) (Some Once)) (length shares) (text l m) ≡ cond b (number_text (cond (b && not (is_some (number_of shares m))) (shares ++ m ∷ []) shares) m) (text l m)) [
        | true ↦ (elim (number_of shares m) as (λ o. number_of shares m ≡ o → written_by (Some (numbered o)) (length shares) (text l m) ≡ number_text (cond (true && not (is_some o)) (shares ++ m ∷ []) shares) m) [
          | None ↦ λ e. ap (λ (o : Option ℕ). codes "#" ++ decimal (unwrap_or o 0)) (sym (number_added shares m e))
          | Some n ↦ λ e. ap (λ (o : Option ℕ). codes "#" ++ decimal (unwrap_or o 0)) (sym e)
        ]) refl
        | false ↦ refl
      ]

-- what is known after a pair
module _ (l : Labelling) (pairs : List Step) (shares : List Terms) (m : Terms) (q : KeyParts) where
  abbrev After : Bool → Option ℕ → Type 0
  After b o = mark_by (cond b (Some (numbered o)) (Some Once)) (length shares) (key_by l m) q (mark_of (key_uses l pairs q) (key_number l shares q))
      ≡ mark_of (key_uses l pairs q) (key_number l (cond (b && not (is_some o)) (shares ++ m ∷ []) shares) q)

  new_after : nat_lt 1 (key_uses l pairs (key_by l m)) ≡ true → key_number l shares (key_by l m) ≡ None → (b : Bool) → is_key (key_by l m) q ≡ b
      → cond b (Some (Number (length shares))) (mark_of (key_uses l pairs q) (key_number l shares q)) ≡ mark_of (key_uses l pairs q) (key_number l (shares ++ m ∷ []) q)
  new_after often none true same =
      let is : q ≡ key_by l m = key_is (key_by l m) q same in
      let more : nat_lt 1 (key_uses l pairs q) ≡ true = ap (λ (t : KeyParts). nat_lt 1 (key_uses l pairs t)) is ∙ often in
      let free : key_number l shares q ≡ None = ap (key_number l shares) is ∙ none in
      let some : 1 ≤ key_uses l pairs q = (let less = ltb-true 1 (key_uses l pairs q) more in omega (arith, less)) in
      sym (ap (mark_of (key_uses l pairs q)) (key_number_new l shares m q same free) ∙ mark_used (key_uses l pairs q) (Some (length shares)) some ∙ ap (λ b. cond b (Some (Number (length shares))) (Some Once)) more)
  new_after often none false other = ap (mark_of (key_uses l pairs q)) (sym (key_number_added l shares m q other))

  known_after : key_uses l pairs (key_by l m) ≡ uses pairs m → key_number l shares (key_by l m) ≡ number_of shares m → After (is_shared pairs m) (number_of shares m)
  known_after counted numbers =
      (elim (is_shared pairs m) as (λ b. is_shared pairs m ≡ b → After b (number_of shares m)) [
        | true ↦ λ shared. (elim (number_of shares m) as (λ o. number_of shares m ≡ o → After true o) [
          | None ↦ λ none. new_after (ap (nat_lt 1) counted ∙ shared) (numbers ∙ none) (is_key (key_by l m) q) refl
          | Some n ↦ λ some. refl
        ]) refl
        | false ↦ λ alone. refl
      ]) refl

module _ (l : Labelling) (k : ℕ) (pairs : List Step) (shares : List Terms) (sharing : Sharing) (is : IsSharingOf l k pairs shares sharing) (s : Step) (has : Has pairs s) where
  multiplier_written : IsWritten l k s.1
  multiplier_written = (written_pair l k pairs s is.writable has).1

  -- what is known of the multiplier of a pair
  pub pair_known : mark_at sharing.marks (key_by l s.1) ≡ Known l pairs shares s.1
  pair_known =
      is.marks (key_by l s.1)
      ∙ (λ i. mark_of (uses_told l k pairs s.1 is.writable multiplier_written i) (number_told l k shares s.1 is.written multiplier_written i))
      ∙ mark_used (uses pairs s.1) (number_of shares s.1) (used pairs s has)

  pub pair_lets : lets_by (mark_at sharing.marks (key_by l s.1)) sharing.count (text l s.1) ≡ let_lines l pairs shares s.1
  pair_lets = (λ i. lets_by (pair_known i) (is.count i) (text l s.1)) ∙ lets_known l pairs shares s.1

  pub pair_written : written_by (mark_at sharing.marks (key_by l s.1)) sharing.count (text l s.1) ≡ multiplier_text l pairs (shares_with pairs shares s.1) s.1
  pair_written = (λ i. written_by (pair_known i) (is.count i) (text l s.1)) ∙ written_known l pairs shares s.1

  all_written : AllByRecursion (IsWritten l k) (shares_with pairs shares s.1)
  all_written =
      elim (is_first pairs shares s.1) as (λ b. AllByRecursion (IsWritten l k) (cond b (shares ++ s.1 ∷ []) shares)) [
        | true ↦ all_more shares is.written
        | false ↦ is.written
      ]
    where
      all_more : (xs : List Terms) → AllByRecursion (IsWritten l k) xs → AllByRecursion (IsWritten l k) (xs ++ s.1 ∷ [])
      all_more [] all = (multiplier_written, tt)
      all_more (x ∷ xs) all = (all.0, all_more xs all.1)

  -- what is known after a pair
  pub pair_sharing : (new : Sharing) → new.count ≡ count_by (mark_at sharing.marks (key_by l s.1)) sharing.count
      → ((q : KeyParts) → mark_at new.marks q ≡ mark_by (mark_at sharing.marks (key_by l s.1)) sharing.count (key_by l s.1) q (mark_at sharing.marks q))
      → IsSharingOf l k pairs (shares_with pairs shares s.1) new
  pair_sharing new counted marked = record {
    writable = is.writable;
    written = all_written;
    marks = λ q. marked q ∙ (λ i. mark_by (pair_known i) (is.count i) (key_by l s.1) q (is.marks q i)) ∙ known_after l pairs shares s.1 q (uses_told l k pairs s.1 is.writable multiplier_written) (number_told l k shares s.1 is.written multiplier_written);
    count = counted ∙ (λ i. count_by (pair_known i) (is.count i)) ∙ count_known l pairs shares s.1;
  }

-- ---- over pairs

uses_more : (l : Labelling) (xs : List Step) (s : Step) (q : KeyParts) → key_uses l (xs ++ s ∷ []) q ≡ key_uses l xs q + cond (is_key (key_by l s.1) q) 1 0
uses_more l [] s q = omega arith
uses_more l (x ∷ xs) s q = omega (arith, uses_more l xs s q)

seen_mark : (u : ℕ) → mark_of (u + 1) None ≡ Some (seen_again (mark_of u None))
seen_mark zero = refl
seen_mark (suc u) =
    let more : nat_lt 1 (suc u + 1) ≡ true = lt-ltb 1 (suc u + 1) (omega arith) in
    mark_used (suc u + 1) None (omega arith) ∙ ap (λ b. cond b (Some Often) (Some Once)) more ∙ sym (ap (λ (o : Option Mark). Some (seen_again o)) (mark_used (suc u) None (omega arith)) ∙ either (nat_lt 1 (suc u)))
  where
    either : (b : Bool) → Some (seen_again (cond b (Some Often) (Some Once))) ≡ Some Often
    either true = refl
    either false = refl

-- the marks after one more multiplier was seen
pub marks_seen : (l : Labelling) (xs : List Step) (s : Step) (old new : Marks) (t : KeyParts) → AreMarks l xs [] old → t ≡ key_by l s.1
    → ((q : KeyParts) → mark_at new q ≡ cond (is_key t q) (Some (seen_again (mark_at old q))) (mark_at old q)) → AreMarks l (xs ++ s ∷ []) [] new
marks_seen l xs s old new t are is sees q =
    sees q
    ∙ (λ i. cond (is_key (is i) q) (Some (seen_again (are q i))) (are q i))
    ∙ (elim (is_key (key_by l s.1) q) as (λ b. cond b (Some (seen_again (mark_of (key_uses l xs q) None))) (mark_of (key_uses l xs q) None) ≡ mark_of (key_uses l xs q + cond b 1 0) None) [
      | true ↦ sym (seen_mark (key_uses l xs q))
      | false ↦ ap (λ u. mark_of u None) (self_plus_zero (key_uses l xs q))
    ])
    ∙ ap (λ u. mark_of u None) (sym (uses_more l xs s q))

-- the multipliers that are shared after one more pair
pub shares_more : (pairs : List Step) (shares : List Terms) (xs : List Step) (s : Step) → shares_from pairs shares (xs ++ s ∷ []) ≡ shares_with pairs (shares_from pairs shares xs) s.1
shares_more pairs shares [] s = refl
shares_more pairs shares (x ∷ xs) s = shares_more pairs (shares_with pairs shares x.1) xs s
