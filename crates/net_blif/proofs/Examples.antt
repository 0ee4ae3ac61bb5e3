-- Small worked examples of the definitions of specs/, which the check computes. A `\` is the byte 92.
use Rattle.std.proofs.Common.{◌≡◌, List, [], ◌∷◌, ◌++◌, true, false, Some, codes, refl}
use Rattle.net_blif.specs.Lines.{clean, joined}
use Rattle.net_core.specs.declared.latch.Start.TheVariants.{One, Unknown}
use Rattle.net_blif.specs.Statement.{spelled, is_latch_end, is_other}
use Rattle.net_blif.specs.Latch.{start_of}
use Rattle.net_blif.specs.Cover.{CoverValue, fits, table_of}
use Rattle.net_blif.specs.Design.{ModelValue, model_named}
use Rattle.net_blif.specs.declared.item.Item.TheVariants as items
use Rattle.net_blif.specs.declared.statement.Statement.TheVariants.{Cover, Row}

-- `a b  # c` is `a b` without its comment and the blanks before it
clean_line : clean (codes "a b  # c") ≡ codes "a b"
clean_line = refl

-- of three lines `\` joins the first two, with a space between: lines 1 and 3
joined_lines : joined 1 ((codes ".names a" ++ 92 ∷ []) ∷ codes "b y" ∷ codes "11 1" ∷ []) ≡ (1, codes ".names a b y") ∷ (3, codes "11 1") ∷ []
joined_lines = refl

-- a cover of the inputs a and b with the output c is spelled `.names a b c`
spelled_cover : spelled (Cover (codes "a" ∷ codes "b" ∷ []) (codes "c")) ≡ codes ".names" ∷ codes "a" ∷ codes "b" ∷ codes "c" ∷ []
spelled_cover = refl

-- a row of a cover without inputs is spelled `1`
spelled_row : spelled (Row [] true) ≡ codes "1" ∷ []
spelled_row = refl

-- a latch may end with `re clk 1`, and then starts with 1
latch_ends : is_latch_end (codes "re" ∷ codes "clk" ∷ codes "1" ∷ []) ≡ true
latch_ends = refl

latch_starts : start_of (codes "re" ∷ codes "clk" ∷ codes "1" ∷ []) ≡ One
latch_starts = refl

-- with `re clk` alone its start is not known
latch_starts_somehow : start_of (codes "re" ∷ codes "clk" ∷ []) ≡ Unknown
latch_starts_somehow = refl

-- and with `re` alone it may not end
latch_ends_not : is_latch_end (codes "re" ∷ []) ≡ false
latch_ends_not = refl

-- `.gate` is a word that no statement begins with
gate_is_other : is_other (codes ".gate") ≡ true
gate_is_other = refl

-- and `.names` is none
names_is_no_other : is_other (codes ".names") ≡ false
names_is_no_other = refl

-- the row `1-` fits the index 1, where the first input is 1 and the second 0
fits_one : fits (codes "1-") 1 ≡ true
fits_one = refl

-- it fits 3, where both are 1
fits_three : fits (codes "1-") 3 ≡ true
fits_three = refl

-- and not 2, where the first is 0
fits_not_two : fits (codes "1-") 2 ≡ false
fits_not_two = refl

abbrev and_cover : CoverValue
and_cover = record { line = 5; inputs = codes "a" ∷ codes "b" ∷ []; out = codes "y"; output = Some true; rows = codes "11" ∷ [] }

-- the row `11` with the output 1 is an AND, whose table is 8
table_of_and : table_of and_cover ≡ 8
table_of_and = refl

-- the row `00` with the output 0 is an OR, whose table is 2 + 4 + 8 = 14
table_of_or : table_of (record and_cover { output = Some false; rows = codes "00" ∷ [] }) ≡ 14
table_of_or = refl

abbrev design : List ModelValue
design = record { name = codes "and"; items = items.Inputs (codes "a" ∷ codes "b" ∷ []) ∷ items.Outputs (codes "y" ∷ []) ∷ items.Gate 5 (codes "a" ∷ codes "b" ∷ []) (codes "y") 8 ∷ [] } ∷ []

-- the one model is found by its name
model_named_and : model_named design (codes "and") ≡ Some 0
model_named_and = refl
