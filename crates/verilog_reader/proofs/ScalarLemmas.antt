-- Lists of indexes in a map.
use Rattle.std.proofs.Common.{◌≡◌, ◌∙◌, ap, sym, refl, subst, ℕ, zero, suc, Bool, true, false, List, [], ◌∷◌, ◌++◌, Some, String, Vec}
use Rattle.std.specs.Prelude.{string_bytes, string_eq, if◌then◌else◌}
use Rattle.std.specs.Str.{bytes_eq}
use Rattle.std.specs.Map.{lookup}
use Rattle.std.specs.Cmp.Lexicographic.{bytes_decides}
use Rattle.lists.specs.Lists.{Has}
use Rattle.lists.specs.laws.BoolLaws.{same_twice, apart_twice}
use Rattle.indexmap.specs.IndexMap.{insert_entry}
use Rattle.verilog_reader.specs.private.Listed.{IsKept, Lists, items_or, list_at, named_lists, put_list}

-- a list is looked up by its name's bytes
pub list_found : {X Y : Type 0} (es : List (String Y × Vec ℕ X)) (name : List ℕ) → items_or (lookup (λ k. bytes_eq name (string_bytes k)) es) ≡ list_at (named_lists es) name
list_found [] name = refl
list_found {X} {Y} (e ∷ es) name = by (bytes_eq name (string_bytes e.0)) (list_found es name)
  where
    by : (b : Bool) → items_or (lookup (λ k. bytes_eq name (string_bytes k)) es) ≡ list_at (named_lists es) name → items_or (if b then Some e.1 else lookup (λ k. bytes_eq name (string_bytes k)) es) ≡ (if b then e.1.items else list_at (named_lists es) name)
    by true more = refl
    by false more = more

-- an inserted list takes its place
pub list_inserted : {X Y : Type 0} (es : List (String Y × Vec ℕ X)) (key : String Y) (list : Vec ℕ X) → named_lists (insert_entry string_eq es key list) ≡ put_list (string_bytes key) list.items (named_lists es)
list_inserted [] key list = refl
list_inserted {X} {Y} (e ∷ es) key list = by (string_eq key e.0) (list_inserted es key list)
  where
    by : (b : Bool) → named_lists (insert_entry string_eq es key list) ≡ put_list (string_bytes key) list.items (named_lists es) → named_lists (if b then (e.0, list) ∷ es else e ∷ insert_entry string_eq es key list) ≡ (if b then (string_bytes e.0, list.items) ∷ named_lists es else (string_bytes e.0, e.1.items) ∷ put_list (string_bytes key) list.items (named_lists es))
    by true more = refl
    by false more = ap (λ rest. (string_bytes e.0, e.1.items) ∷ rest) more

-- the list of a name after one was put
pub list_put_at : (name q xs : List ℕ) (lists : Lists) → list_at (put_list name xs lists) q ≡ (if bytes_eq q name then xs else list_at lists q)
list_put_at name q xs [] = refl
list_put_at name q xs (e ∷ es) = by (bytes_eq name e.0) refl (list_put_at name q xs es)
  where
    meet : bytes_eq name e.0 ≡ false → bytes_eq q e.0 ≡ true → bytes_eq q name ≡ true → ⊥
    meet is one other =
        let same : name ≡ e.0 = sym ((bytes_decides q name).0 other) ∙ (bytes_decides q e.0).0 one in
        let yes : bytes_eq name e.0 ≡ true = (bytes_decides name e.0).1 same in
        let bad : true ≡ false = sym yes ∙ is in
        absurd (cc)

    by : (b : Bool) → bytes_eq name e.0 ≡ b → list_at (put_list name xs es) q ≡ (if bytes_eq q name then xs else list_at es q) → list_at (if b then (e.0, xs) ∷ es else e ∷ put_list name xs es) q ≡ (if bytes_eq q name then xs else list_at (e ∷ es) q)
    by true is more = rw ((bytes_decides name e.0).0 is) (same_twice (bytes_eq q e.0) xs e.1 (list_at es q))
    by false is more = ap (λ rest. if bytes_eq q e.0 then e.1 else rest) more ∙ apart_twice (bytes_eq q e.0) (bytes_eq q name) e.1 xs (list_at es q) (meet is)

has_before : (xs : List ℕ) (b i : ℕ) → Has xs i → Has (xs ++ b ∷ []) i
has_before [] b i (zero, got) = absurd (cc)
has_before [] b i (suc k, got) = absurd (cc)
has_before (x ∷ xs) b i (zero, got) = (zero, got)
has_before (x ∷ xs) b i (suc k, got) = let more = has_before xs b i (k, got) in (suc more.0, more.1)

has_last : (xs : List ℕ) (b : ℕ) → Has (xs ++ b ∷ []) b
has_last [] b = (zero, refl)
has_last (x ∷ xs) b = let more = has_last xs b in (suc more.0, more.1)

module _ (before : Lists) (name : List ℕ) (i : ℕ) (between after : Lists) (xs : List ℕ) (taken : between ≡ put_list name [] before) (more : xs ≡ list_at before name ++ i ∷ []) (given : after ≡ put_list name xs between) where
  at : (q : List ℕ) → list_at after q ≡ (if bytes_eq q name then xs else (if bytes_eq q name then [] else list_at before q))
  at q = ap (λ ls. list_at ls q) given ∙ list_put_at name q xs between ∙ ap (λ ys. if bytes_eq q name then xs else ys) (ap (λ ls. list_at ls q) taken ∙ list_put_at name q [] before)

  pub all_kept : IsKept before after
  all_kept q j has = by (bytes_eq q name) refl (at q)
    where
      by : (b : Bool) → bytes_eq q name ≡ b → list_at after q ≡ (if b then xs else (if b then [] else list_at before q)) → Has (list_at after q) j
      by true is same =
          let P : List ℕ → Type 0 = λ ys. Has ys j in
          let Q : List ℕ → Type 0 = λ p. Has (list_at before p) j in
          subst P (sym (same ∙ more)) (has_before (list_at before name) i j (subst Q ((bytes_decides q name).0 is) has))
      by false is same = let P : List ℕ → Type 0 = λ ys. Has ys j in subst P (sym same) has

  pub one_added : Has (list_at after name) i
  one_added = by (bytes_eq name name) refl (at name)
    where
      by : (b : Bool) → bytes_eq name name ≡ b → list_at after name ≡ (if b then xs else (if b then [] else list_at before name)) → Has (list_at after name) i
      by true is same = let P : List ℕ → Type 0 = λ ys. Has ys i in subst P (sym (same ∙ more)) (has_last (list_at before name) i)
      by false is same =
          let bad : true ≡ false = sym ((bytes_decides name name).1 refl) ∙ is in
          absurd (cc)
