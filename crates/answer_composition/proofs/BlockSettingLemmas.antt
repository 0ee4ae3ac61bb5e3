-- The blocks of a signature whose setting was taken.
use Rattle.std.proofs.Common.{sym, subst, ℕ, List, Ok}
use Rattle.lists.specs.Lists.{Has}
use Rattle.net_signature.specs.Body.{BlockValue}
use Rattle.net_signature.specs.Signature.{Sig, SignatureValue}
use Rattle.net_signature.specs.WordNames.{HaveNames}
use Rattle.job_input.specs.FieldOf.{FieldOf, FieldValue}
use Rattle.job_input.specs.Setting.{CanBindBlock}
use Rattle.job_input.specs.SettingOf.{SettingOf, SettingWith, SignedOf, SignedValue}
use Rattle.job_input.specs.SettingValue.{SettingValue}
use Rattle.job_input.proofs.FieldLemmas.{field_most, field_some}
use Rattle.job_input.proofs.SettingWordLemmas.{block_binds, text_said}

-- the words of each block can be bound, and have names
abbrev pub CanBindBlocks : SettingValue → Type 0
CanBindBlocks setting = (block : BlockValue) → Has setting.signature.blocks block → CanBindBlock setting.k block.words

-- the words of each block have names
abbrev pub HaveBlockNames : SignatureValue → Type 0
HaveBlockNames signature = (block : BlockValue) → Has signature.blocks block → HaveNames block.words

pub setting_blocks : (bytes : List ℕ) (value : SettingValue) → SettingOf bytes (Ok value) → CanBindBlocks value
unfolding SignedOf
setting_blocks bytes value (signed, (said, says, (field, named, signed_is)), with_bases) =
    let P : SignedValue → Type 0 = λ s. SettingWith s (Ok value) in
    by says named (subst P signed_is with_bases)
  where
    by : {said : SignatureValue} {field : FieldValue} → Sig bytes (Ok said) → FieldOf said.modulus said.tower said.upper (Ok field) → SettingWith (record { signature = said; field = field }) (Ok value) → CanBindBlocks value
    by {said} {field} says named (bases, have_bases, (u, judged, (feeds, within, is))) =
        let some = field_some said.modulus said.tower said.upper field named in
        let most = field_most said.modulus said.tower said.upper field named in
        let P : SettingValue → Type 0 = CanBindBlocks in
        subst P (sym is) (block_binds field.k field.product some most said.blocks judged (text_said bytes said says).blocks)
