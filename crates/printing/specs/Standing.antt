-- Where a page stands in an encoding.
use Rattle.std.specs.Prelude.{◌≡◌, ℕ, ◌≤◌, true}
use Rattle.loes.specs.Entry.{Entry, count}
use Rattle.loes.specs.Cursor.{is_cursor_of, next_index}
use Rattle.cursor.specs.Steps.{cursor_of}
use Rattle.cursor.specs.declared.Cursor.{Cursor}

-- a cursor is right, and goes to the member of an index next; n: there is none
pub record StandsAt (e : Entry) (c : Cursor) (i : ℕ) : Type 0 where
  pub right : is_cursor_of e (cursor_of c) ≡ true
  pub next : next_index e (cursor_of c) ≡ i
  pub within : i ≤ count e
