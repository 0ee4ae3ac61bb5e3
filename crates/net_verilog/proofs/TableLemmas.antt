-- Declared names in a map.
use Rattle.std.proofs.Common.{◌≡◌, ◌∙◌, ap, sym, refl, ℕ, ◌≤◌, Bool, true, false, List, [], ◌∷◌, ◌++◌, length, codes, arith, Option, None, Some}
use Rattle.std.specs.declared.string.String.{String}
use Rattle.std.specs.Prelude.{string_bytes, string_eq, if◌then◌else◌}
use Rattle.std.specs.Option.{option_map}
use Rattle.std.specs.Str.{bytes_eq}
use Rattle.std.specs.Prelude.{decimal}
use Rattle.std.specs.Map.{lookup}
use Rattle.std.specs.Cmp.Lexicographic.{bytes_decides}
use Rattle.lists.specs.laws.BoolLaws.{same_twice, apart_twice}
use Rattle.lists.specs.laws.ListLaws.{some_after}
use Rattle.indexmap.specs.IndexMap.{insert_entry}
use Rattle.net_verilog.specs.Declarations.{Declarations, Range, bit_name, declared_as, put, range_of}
use Rattle.net_verilog.specs.Targets.{HasNetNames}
use Rattle.net_verilog.specs.private.Decimals.{HasBits}
use Rattle.net_verilog.specs.private.Entries.{named_entries}
use Rattle.net_verilog.specs.declared.declared.Declared.{Declared}

-- a name is looked up by its bytes
pub found : {Y : Type 0} (es : List (String Y × Declared)) (name : List ℕ) → lookup (λ k. bytes_eq name (string_bytes k)) es ≡ declared_as (named_entries es) name
found [] name = refl
found (e ∷ es) name = ap (λ rest. if bytes_eq name (string_bytes e.0) then Some e.1 else rest) (found es name)

-- an inserted name takes its place
pub inserted : {Y : Type 0} (es : List (String Y × Declared)) (key : String Y) (d : Declared) → named_entries (insert_entry string_eq es key d) ≡ put (string_bytes key) d (named_entries es)
inserted [] key d = refl
inserted {Y} (e ∷ es) key d = by (string_eq key e.0) (inserted es key d)
  where
    by : (b : Bool) → named_entries (insert_entry string_eq es key d) ≡ put (string_bytes key) d (named_entries es) → named_entries (if b then (e.0, d) ∷ es else e ∷ insert_entry string_eq es key d) ≡ (if b then (string_bytes e.0, d) ∷ named_entries es else (string_bytes e.0, e.1) ∷ put (string_bytes key) d (named_entries es))
    by true more = refl
    by false more = ap (λ rest. (string_bytes e.0, e.1) ∷ rest) more

-- what names are declared as after a declaration
pub put_at : (name q : List ℕ) (d : Declared) (declared : Declarations) → declared_as (put name d declared) q ≡ (if bytes_eq q name then Some d else declared_as declared q)
put_at name q d [] = refl
put_at name q d (e ∷ es) = by (bytes_eq name e.0) refl (put_at name q d es)
  where
    meet : bytes_eq name e.0 ≡ false → bytes_eq q e.0 ≡ true → bytes_eq q name ≡ true → ⊥
    meet is one other =
        let same : name ≡ e.0 = sym ((bytes_decides q name).0 other) ∙ (bytes_decides q e.0).0 one in
        let yes : bytes_eq name e.0 ≡ true = (bytes_decides name e.0).1 same in
        let bad : true ≡ false = sym yes ∙ is in
        absurd (cc)

    by : (b : Bool) → bytes_eq name e.0 ≡ b → declared_as (put name d es) q ≡ (if bytes_eq q name then Some d else declared_as es q) → declared_as (if b then (e.0, d) ∷ es else e ∷ put name d es) q ≡ (if bytes_eq q name then Some d else declared_as (e ∷ es) q)
    by true is more = rw ((bytes_decides name e.0).0 is) (same_twice (bytes_eq q e.0) (Some d) (Some e.1) (declared_as es q))
    by false is more = ap (λ rest. if bytes_eq q e.0 then Some e.1 else rest) more ∙ apart_twice (bytes_eq q e.0) (bytes_eq q name) (Some e.1) (Some d) (declared_as es q) (meet is)

-- the names of nets stay short
pub names_kept : (name : List ℕ) (d : Declared) (declared : Declarations) → ((low : ℕ) → (high : ℕ) → (i : ℕ) → d.range ≡ Some (low, high) → low ≤ i → i ≤ high → length (bit_name name i) ≤ 255) → HasNetNames declared → HasNetNames (put name d declared)
names_kept name d declared short names q low high i is above below = by (bytes_eq q name) refl (sym (ap (option_map (λ (x : Declared). x.range)) (put_at name q d declared)) ∙ is)
  where
    by : (b : Bool) → bytes_eq q name ≡ b → option_map (λ (x : Declared). x.range) (if b then Some d else declared_as declared q) ≡ Some (Some (low, high)) → length (bit_name q i) ≤ 255
    by true same range = let name' = (bytes_decides q name).0 same in rw name' (short low high i (cc) above below)
    by false other range = names q low high i range above below

-- each bit of a declared vector has the name of a net
pub bits_named : (declared : Declarations) (name : List ℕ) → HasNetNames declared → (range : Option Range) → range_of declared name ≡ range → HasBits name range
bits_named declared name names None is = tt
bits_named declared name names (Some None) is = tt
bits_named declared name names (Some (Some (low, high))) is = λ i above below. (some_after (name ++ codes "[" ++ decimal i) (codes "]") (omega arith), names name low high i is above below)
