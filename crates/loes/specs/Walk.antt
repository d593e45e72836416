-- A whole walk: steps one after another, each with a buffer of its own.
use Rattle.std.specs.Prelude.{ℕ, ◌≤◌, List, [], ◌∷◌, length}
use Rattle.loes.specs.Bytes.{Bytes}
use Rattle.loes.specs.Keys.{Key}
use Rattle.loes.specs.Entry.{Entry}
use Rattle.loes.specs.Cursor.{Cursor, Advanced, goes_to}

-- what each step gives, from a cursor on
unfoldable pub walk : (Cursor → Bytes → Advanced) → Cursor → List Bytes → List Advanced
walk step c [] = []
walk step c (out ∷ outs) = step c out ∷ walk step (step c out).cursor outs

-- to each key in turn
unfoldable pub visits : Entry → List Key → List Bytes → List Advanced
visits e [] outs = []
visits e (k ∷ ks) [] = []
visits e (k ∷ ks) (out ∷ outs) = goes_to e k out ∷ visits e ks outs

-- each buffer has room for n bytes
abbrev pub Roomy : ℕ → List Bytes → Type 0
Roomy n [] = Unit {0}
Roomy n (out ∷ outs) = (n ≤ length out) × Roomy n outs
