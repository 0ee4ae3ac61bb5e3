-- Blocks by their names.
use Rattle.std.proofs.Common.{◌≡◌, ◌∙◌, ap, sym, refl, subst, ℕ, zero, suc, ◌+◌, List, [], ◌∷◌, ◌++◌, length, map, take, Bool, true, false, cond, Option, Some, arith}
use Rattle.std.specs.Prelude.{is_some, slice_get}
use Rattle.std.specs.Str.{bytes_eq}
use Rattle.std.proofs.lemmas.Slice.Eq.{bytes_eq-Decides}
use Rattle.lists.specs.laws.TakeLaws.{taken_as_long, taken_more}
use Rattle.net_signature.specs.Body.{BlockValue}
use Rattle.net_blif.specs.Design.{model_from, ModelValue}
use Rattle.net_blif.specs.Statement.{Token}
use Rattle.net_blif.proofs.DesignLemmas.{numbered}
use Rattle.compose_model.specs.Hierarchy.{block_from}

-- a block as a model that places nothing
abbrev as_model : BlockValue → ModelValue
as_model block = record { name = block.model; items = [] }

same_number : (n : ℕ) (blocks : List BlockValue) (name : Token) → block_from n blocks name ≡ model_from n (map as_model blocks) name
same_number n [] name = refl
same_number n (block ∷ blocks) name = ap (cond (bytes_eq name block.model) (Some n)) (same_number (n + 1) blocks name)

mapped_more : (blocks : List BlockValue) (block : BlockValue) → map as_model (blocks ++ block ∷ []) ≡ map as_model blocks ++ as_model block ∷ []
mapped_more [] block = refl
mapped_more (b ∷ blocks) block = ap (λ ms. as_model b ∷ ms) (mapped_more blocks block)

mapped_long : (blocks : List BlockValue) → length (map as_model blocks) ≡ length blocks
mapped_long [] = refl
mapped_long (b ∷ blocks) = ap suc (mapped_long blocks)

-- the numbers with one more for a block's name, unless it has one, are those of the blocks with one more
pub block_numbered : (blocks : List BlockValue) (i : ℕ) (block : BlockValue) (q : Token) (number : ℕ) (before after : Token → Option ℕ) → slice_get blocks i ≡ Some block → number ≡ i → ((name : Token) → before name ≡ block_from 0 (take i blocks) name)
    → after q ≡ cond (is_some (before block.model)) (before q) (cond (bytes_eq block.model q) (Some number) (before q)) → after q ≡ block_from 0 (take (i + 1) blocks) q
block_numbered blocks i block q number before after at is same step =
    let front : List BlockValue = take i blocks in
    let more : map as_model (take (i + 1) blocks) ≡ map as_model front ++ as_model block ∷ [] = ap (map as_model) (taken_more blocks i block at) ∙ mapped_more front block in
    let long : number ≡ length (map as_model front) = is ∙ sym (mapped_long front ∙ taken_as_long blocks i block at) in
    numbered (map as_model front) (map as_model (take (i + 1) blocks)) (as_model block) q number before after long more (λ name. same name ∙ same_number 0 front name) step
    ∙ sym (same_number 0 (take (i + 1) blocks) q)

-- a model's block has its name
pub name_is : (n : ℕ) (blocks : List BlockValue) (model : Token) (number : ℕ) → block_from n blocks model ≡ Some number → (i : ℕ) × (block : BlockValue) × (number ≡ n + i) × (slice_get blocks i ≡ Some block) × (model ≡ block.model)
name_is n [] model number named = absurd (cc)
name_is n (block ∷ blocks) model number named = by (λ later. name_is (n + 1) blocks model number later) (bytes_eq model block.model) refl named
  where
    by : (block_from (n + 1) blocks model ≡ Some number → (i : ℕ) × (other : BlockValue) × (number ≡ (n + 1) + i) × (slice_get blocks i ≡ Some other) × (model ≡ other.model)) → (b : Bool) → bytes_eq model block.model ≡ b → cond b (Some n) (block_from (n + 1) blocks model) ≡ Some number
        → (i : ℕ) × (other : BlockValue) × (number ≡ n + i) × (slice_get (block ∷ blocks) i ≡ Some other) × (model ≡ other.model)
    by rest true hit e = let same : n ≡ number = cc in (zero, block, omega (arith, same), refl, (bytes_eq-Decides model block.model).0 hit)
    by rest false miss e = let found = rest e in (suc found.0, found.1, omega (arith, found.2), found.3, found.4)

pub found_block : (blocks : List BlockValue) (model : Token) (number : ℕ) → block_from 0 blocks model ≡ Some number → (block : BlockValue) × (slice_get blocks number ≡ Some block) × (model ≡ block.model)
found_block blocks model number named =
    let found = name_is 0 blocks model number named in
    let P : ℕ → Type 0 = λ i. slice_get blocks i ≡ Some found.1 in
    let same : found.0 ≡ number = omega (arith, found.2) in
    (found.1, subst P same found.3, found.4)
