-- A cursor and its step as C has them: a state's number and the offsets.
use Rattle.std.specs.Prelude.{ℕ, Bool, cond, List, eqb, ltb, Option, Some, None, Result, Ok, Err}
use Rattle.loes.specs.Bytes.{Bytes}
use Rattle.loes.specs.Entry.{Entry}
use Rattle.loes.specs.Refusals.{bad_cursor}
use Rattle.loes.specs.Read.{Reading, rejected, opened, read}
use Rattle.loes.specs.Cursor as model
use Rattle.loes.specs.Numbers.{number_of}
use Rattle.loes.specs.declared.refusal.Refusal.{Refusal}
use Rattle.cursor.specs.declared.State.{State}
use Rattle.cursor.specs.declared.State.TheVariants as state
use Rattle.cursor.specs.declared.Stepped.{Stepped}
use Rattle.cursor.specs.Steps.{numbers, stepped_of}
use Rattle.cursor.specs.Filling.{advances}
use Rattle.capi.specs.declared.answers.Answer.{Answer}
use Rattle.capi.specs.declared.cursors.Cursor.{Cursor}
use Rattle.capi.specs.declared.cursors.CursorAnswer.{CursorAnswer}
use Rattle.capi.specs.Coded.{refuses, code_of}

-- a step's answer, and the cursor's state, its offsets and the output buffer at exit
pub record StepGiven : Type 0 where
  pub answer : Answer
  pub state : ℕ
  pub offsets : List ℕ
  pub buffer : Bytes

abbrev pub step_gives : Answer → ℕ → List ℕ → Bytes → StepGiven
step_gives a s os out = record { answer = a; state = s; offsets = os; buffer = out }

-- the same with the cursor as C has it, after a step of a lent one and after a step by value
abbrev pub cursor_gives : Answer → Cursor → Bytes → StepGiven
cursor_gives a c out = step_gives a c.state (numbers c.offsets) out

abbrev pub moves : CursorAnswer → Bytes → StepGiven
moves r out = cursor_gives r.answer r.cursor out

abbrev pub state_code : model.State → ℕ
state_code model.before = 0
state_code model.at = 1
state_code model.after = 2

-- the state of a number below 3
abbrev pub state_in : ℕ → model.State
state_in s = cond (eqb s 0) model.before (cond (eqb s 1) model.at model.after)

abbrev pub cursor_in : ℕ → List ℕ → model.Cursor
cursor_in s os = model.cursor_with (state_in s) os

-- the same in the code, if there is one
abbrev pub state_read : ℕ → Option State
state_read s = cond (eqb s 0) (Some state.Before) (cond (eqb s 1) (Some state.At) (cond (eqb s 2) (Some state.After) None))

-- a number of a state
unfoldable pub is_state : ℕ → Bool
is_state s = ltb s 3

abbrev pub step_coded : model.Advanced → StepGiven
step_coded a = step_gives (code_of a.answer) (state_code a.cursor.state) a.cursor.offsets a.buffer

-- refused: state, offsets and buffer keep their values
abbrev pub keeps : ℕ → ℕ → List ℕ → Bytes → StepGiven
keeps k s os out = step_gives (refuses k) s os out

-- a step by value: what it leaves, or, if it is refused, what there was
abbrev pub stepped_coded : Result Stepped Refusal → Cursor → Bytes → StepGiven
stepped_coded (Ok s) c out = step_coded (stepped_of s out)
stepped_coded (Err k) c out = keeps (number_of k) c.state (numbers c.offsets) out

-- the encoding's refusals, then 15 for what is no state, then what the model does with an entry, a cursor and a buffer
unfoldable pub done_after : (Entry → model.Cursor → Bytes → model.Advanced) → Reading → ℕ → List ℕ → Bytes → StepGiven
done_after does (rejected k) s os out = keeps k s os out
done_after does (opened e) s os out = cond (is_state s) (step_coded (does e (cursor_in s os) out)) (keeps bad_cursor s os out)

-- the model's step
abbrev pub step_after : Reading → ℕ → List ℕ → Bytes → StepGiven
step_after = done_after model.advance

abbrev pub step_call : Bytes → ℕ → List ℕ → Bytes → StepGiven
step_call l = step_after (read l)

abbrev pub cursor_call : Bytes → Cursor → Bytes → StepGiven
cursor_call l c out = step_call l c.state (numbers c.offsets) out

-- a step, and if it wrote a key, as many more as the buffer has room for
abbrev pub walk_call : Bytes → ℕ → List ℕ → Bytes → StepGiven
walk_call l = done_after advances (read l)
