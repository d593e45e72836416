-- What reading the fields finds.
use Rattle.std.specs.Prelude.{◌≡◌, ℕ, ◌^◌, ◌<◌, ◌&&◌, cond, eqb, ltb, Result, Ok, Err}
use mathlib.Core.Option.{Option, none, some}
use Rattle.loes.specs.Limits.{width_bytes, count_bytes}
use Rattle.loes.specs.Bytes.{Bytes, number_at}
use Rattle.loes.specs.Refusals.{first_of}
use Rattle.loes.specs.Numbers.{number_of}
use Rattle.loes.specs.Read.{level_bytes, edge_bytes, block_bytes, sub_block_bytes, body_at, start2, width_in, edge_count_in, head_tests, tail_tests, rejected, read}
use Rattle.loes.specs.declared.refusal.Refusal.{Refusal}
use Rattle.loes.specs.declared.refusal.Refusal.TheVariants.{WrongTag}
use Rattle.encoding.specs.declared.Encoding.{Encoding}
use Rattle.encoding.specs.declared.field.Field.{Field}
use Rattle.encoding.specs.declared.field.Field.TheVariants.{Width, Count, Levels, Edges, Blocks, SubBlocks}
use Rattle.encoding.specs.declared.opening.Opened.{Opened}
use Rattle.encoding.specs.Opened.{Placed}

-- the tag of a field
abbrev pub tag_of : Field → ℕ
tag_of Width = 1
tag_of Count = 2
tag_of Levels = 3
tag_of Edges = 4
tag_of Blocks = 5
tag_of SubBlocks = 6

-- what tests in order find, of a test by the code
abbrev pub refusal_of : Result Unit Refusal → Option ℕ
refusal_of (Ok u) = none
refusal_of (Err k) = some (number_of k)

-- the length laid down for the body of the field of a tag from 1 to 6, for width m and b edge bits
unfoldable pub body_bytes : ℕ → ℕ → ℕ → ℕ
body_bytes t m b =
    cond (eqb t 1) width_bytes
    (cond (eqb t 2) count_bytes
    (cond (eqb t 3) (level_bytes m)
    (cond (eqb t 4) (edge_bytes b)
    (cond (eqb t 5) (block_bytes b)
    (sub_block_bytes b)))))

-- what a tag says: that length, or 2
unfoldable pub laid_by : ℕ → ℕ → ℕ → Result ℕ Refusal
laid_by t m b = cond (ltb 0 t && ltb t 7) (Ok (body_bytes t m b)) (Err WrongTag)

-- every test before 7 is passed, and these are the numbers
pub record Fields (l : Bytes) (e : Encoding) : Type 0 where
  pub head : first_of (head_tests l) ≡ none
  pub tail : first_of (tail_tests (width_in l) (edge_count_in l) l) ≡ none
  pub placed : Placed (width_in l) (number_at count_bytes l (body_at start2)) (edge_count_in l) e
  pub small : e.count < 2 ^ 32

-- the fields are read: refused, or not before 7
abbrev pub Parsed : Bytes → Result Encoding Refusal → Type 0
Parsed l (Err k) = read l ≡ rejected (number_of k)
Parsed l (Ok e) = Fields l e

-- the full check: refused, or these bytes opened
abbrev pub Checks : Bytes → Result Opened Refusal → Type 0
Checks l (Err k) = read l ≡ rejected (number_of k)
Checks l (Ok o) = o.bytes.now ≡ l
