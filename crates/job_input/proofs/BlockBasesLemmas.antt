-- The bases of the words of blocks: where no block is left, and where the next has none.
use Rattle.std.proofs.Common.{◌≡◌, refl, sym, subst, inl, ℕ, ◌<◌, ◌≤◌, List, length, drop, get_or, drop_of_length-le, Ok, Err}
use Rattle.std.proofs.lemmas.List.{drop_more}
use Rattle.net_signature.specs.Body.{BlockValue}
use Rattle.job_words.specs.declared.signature_fault.SignatureFault.{SignatureFault}
use Rattle.job_input.specs.SettingOf.{BasesOf, BlocksHaveBases}

module _ (k : ℕ) (product : ℕ → ℕ → ℕ) where
  -- a fault of the next block
  pub blocks_fail : (blocks : List BlockValue) (i : ℕ) (d block : BlockValue) → i < length blocks → block ≡ get_or blocks i d → (fault : SignatureFault) → BasesOf k product block.words (Err fault) → BlocksHaveBases k product (drop i blocks) (Err fault)
  blocks_fail blocks i d block less is fault fails =
      let P : List BlockValue → Type 0 = λ xs. BlocksHaveBases k product xs (Err fault) in
      let Q : BlockValue → Type 0 = λ b. BasesOf k product b.words (Err fault) in
      subst P (sym (drop_more blocks i d less)) (inl (subst Q is fails))

  -- no block is left
  pub blocks_end : (blocks : List BlockValue) (i : ℕ) → length blocks ≤ i → BlocksHaveBases k product (drop i blocks) (Ok tt)
  blocks_end blocks i past =
      let P : List BlockValue → Type 0 = λ xs. BlocksHaveBases k product xs (Ok tt) in
      subst P (sym (drop_of_length-le blocks past)) refl
