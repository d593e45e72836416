-- A cursor and a step's answer in the specification's words.
use Rattle.std.specs.Prelude.{List, map, ℕ, Result, Ok, Err}
use Rattle.loes.specs.Bytes.{Bytes}
use Rattle.loes.specs.Model.{Answer, refused, wrote_key}
use Rattle.loes.specs.Cursor as spec
use Rattle.loes.specs.Numbers.{number_of}
use Rattle.loes.specs.declared.refusal.Refusal.{Refusal}
use Rattle.bits.specs.declared.EdgeOffset.{EdgeOffset}
use Rattle.cursor.specs.declared.State.{State}
use Rattle.cursor.specs.declared.State.TheVariants as state
use Rattle.cursor.specs.declared.Cursor.{Cursor}
use Rattle.cursor.specs.declared.Stepped.{Stepped}
use Rattle.cursor.specs.declared.Walked.{Walked}

abbrev pub state_of : State → spec.State
state_of state.Before = spec.before
state_of state.At = spec.at
state_of state.After = spec.after

unfoldable pub numbers : List EdgeOffset → List ℕ
numbers os = map (λ (o : EdgeOffset). o.0) os

abbrev pub cursor_of : Cursor → spec.Cursor
cursor_of c = spec.cursor_with (state_of c.state) (numbers c.offsets)

abbrev pub step_answer : Result ℕ Refusal → Answer
step_answer (Err k) = refused (number_of k)
step_answer (Ok n) = wrote_key n

-- after a step over lent offsets: its answer, the output buffer, and the cursor of its state and the offsets
abbrev pub walked_of : Walked → List ℕ → Bytes → spec.Advanced
walked_of r os out = record { answer = step_answer r.answer; buffer = out; cursor = spec.cursor_with (state_of r.state) os }

-- after a step of a lent cursor: its answer, the output buffer and the cursor
abbrev pub advanced_of : Result ℕ Refusal → Bytes → Cursor → spec.Advanced
advanced_of r out c = record { answer = step_answer r; buffer = out; cursor = cursor_of c }

-- the same after a step by value
abbrev pub stepped_of : Stepped → Bytes → spec.Advanced
stepped_of r out = advanced_of r.answer out r.cursor
