-- Pages of lines: how far a page has come, what was put into it, and pages one after another.
use Rattle.std.specs.Prelude.{◌≡◌, ℕ, ◌+◌, ◌<◌, length, take}
use mathlib.Core.List.{List, [], ◌∷◌, ◌++◌, flatten}
use Rattle.loes.specs.Bytes.{Bytes}
use Rattle.loes.specs.Entry.{Entry, count}
use Rattle.bits.specs.declared.MemberIndex.{MemberIndex}
use Rattle.cursor.specs.declared.Cursor.{Cursor}
use Rattle.printing.specs.declared.page.Page.{Page}
use Rattle.printing.specs.Standing.{StandsAt}
use Rattle.printing.specs.Text.{member_line, key_bytes_at, first_line, lines_from, lines_of, max_line, Puts}

-- how far a page has come: the cursor, the index of the member that it goes to next, and the bytes of text
pub record Come : Type 0 where
  pub cursor : Cursor
  pub index : MemberIndex
  pub length : ℕ

abbrev pub come : Page → Come
come p = record { cursor = p.cursor; index = p.index; length = p.length }

-- its cursor is right, and goes to the member of its index next; n: there is none
abbrev pub Stands : Entry → Come → Type 0
Stands e p = StandsAt e p.cursor p.index.0

-- from p to r the line of p's member was put
pub record PutsNext (e : Entry) (p : Come) (d : Bytes) (r : Come) (d' : Bytes) : Type 0 where
  pub index : r.index.0 ≡ p.index.0 + 1
  pub puts : Puts p.length (member_line p.index.0 (key_bytes_at e p.index.0)) d r.length d'
  pub stands : Stands e r

-- from p to r so many lines were put, those of the members from p's on
pub record Fills (e : Entry) (p : Come) (d : Bytes) (r : Come) (d' : Bytes) : Type 0 where
  pub lines : ℕ
  pub index : r.index.0 ≡ p.index.0 + lines
  pub puts : Puts p.length (lines_from e p.index.0 lines) d r.length d'
  pub stands : Stands e r

-- r comes to the last member, or has less room than any line may take
abbrev pub Full : Entry → Come → Bytes → Type 0
Full e r d' = r.index.0 < count e → length d' < r.length + max_line

-- the texts of pages that were filled from the front, each from where the one before ended, up to the last member
pub data Printed (e : Entry) : Come → List Bytes → Type 0 where
  over : (p : Come) → p.index.0 ≡ count e → Printed e p []
  page : (p r q : Come) (d d' : Bytes) (texts : List Bytes) → p.length ≡ 0 → Fills e p d r d' → q.index.0 ≡ r.index.0 → Printed e q texts
      → Printed e p (take r.length d' ∷ texts)

-- behind the first line they are all the lines of the entry
abbrev pub PagesAreLines : Type 0
PagesAreLines = (e : Entry) (p : Come) (texts : List Bytes) → p.index.0 ≡ 0 → Printed e p texts → first_line e ++ flatten texts ≡ lines_of e
