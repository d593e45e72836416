-- A step with the cursor in its parts.
use mathlib.Core.Path.{◌≡◌, refl, subst, ap, ◌∙◌}
use Prim.Native.Nat.{ℕ, ◌<◌}
use mathlib.Core.Bool.{true, false}
use mathlib.Core.List.{List}
use native.Mathlib.Omega.{arith}
use native.Mathlib.Decide.{dec_le}
use borrow.Author.Tests.{ne_eqb}
use Rattle.std.specs.Prelude.{Option, Some, None, Ok, Err, IsSome}
use Rattle.loes.specs.Bytes.{Bytes}
use Rattle.loes.specs.Entry.{Entry}
use Rattle.loes.specs.Refusals.{bad_cursor}
use Rattle.loes.specs.Read.{Reading, entry_in, rejected, opened, read}
use Rattle.loes.specs.Cursor as model
use Rattle.loes.proofs.Tests.{lt_no}
use Rattle.loes.specs.declared.refusal.Refusal.{Refusal}
use Rattle.std.specs.Option.{ok_or}
use Rattle.encoding.specs.declared.opening.Opened.{Opened}
use Rattle.cursor.specs.declared.State.{State}
use Rattle.cursor.specs.declared.State.TheVariants as state
use Rattle.cursor.specs.Steps.{state_of}
use Rattle.capi.specs.Coded.{refuses}
use Rattle.capi.specs.Steps.{StepGiven, step_gives, state_code, state_in, state_read, cursor_in, is_state, step_coded, done_after, step_after, step_call}

-- ---- The state of a number
-- a number below 3, or another
by_state : (P : ℕ → Type 0) → P 0 → P 1 → P 2 → ((s : ℕ) → 2 < s → P s) → (s : ℕ) → P s
by_state P before at after none s = elim (dec_le s 0) [
  | yes a ↦ let z : 0 ≡ s = omega arith in subst P z before
  | no a ↦ elim (dec_le s 1) [
    | yes b ↦ let z : 1 ≡ s = omega arith in subst P z at
    | no b ↦ elim (dec_le s 2) [
      | yes c ↦ let z : 2 ≡ s = omega arith in subst P z after
      | no c ↦ none s (omega arith)
    ]
  ]
]

no_read : (s : ℕ) → 2 < s → state_read s ≡ None
no_read s h = rw (ne_eqb s 0 (λ e. omega arith), ne_eqb s 1 (λ e. omega arith), ne_eqb s 2 (λ e. omega arith))

no_state : (s : ℕ) → 2 < s → is_state s ≡ false
unfolding is_state
no_state s h = lt_no s 3 (omega arith)

-- what is read is the state, and what is not read is none
abbrev Read : ℕ → Type 0
Read s = (x : State) → Some x ≡ state_read s → (is_state s ≡ true) × (state_of x ≡ state_in s)

pub read_some : (s : ℕ) → Read s
unfolding is_state
read_some =
    by_state Read
    (λ x e. let y : x ≡ state.Before = cc in rw y (refl, refl))
    (λ x e. let y : x ≡ state.At = cc in rw y (refl, refl))
    (λ x e. let y : x ≡ state.After = cc in rw y (refl, refl))
    (λ s h x e. let y : Some x ≡ None = e ∙ no_read s h in cc)

pub read_none : (s : ℕ) → None ≡ state_read s → is_state s ≡ false
read_none = by_state (λ s. None ≡ state_read s → is_state s ≡ false) (λ e. cc) (λ e. cc) (λ e. cc) (λ s h e. no_state s h)

pub some_read : (s : ℕ) → is_state s ≡ true → IsSome (state_read s)
some_read = by_state (λ s. is_state s ≡ true → IsSome (state_read s)) (λ e. refl) (λ e. refl) (λ e. refl) (λ s h e. let z = no_state s h in cc)

pub none_or : (o : Option State) (k e : Refusal) → Err k ≡ ok_or o e → (None ≡ o) × (k ≡ e)
none_or None k e h = (refl, cc)
none_or (Some x) k e h = cc

pub some_or : (o : Option State) (x : State) (e : Refusal) → Ok x ≡ ok_or o e → Some x ≡ o
some_or None x e h = cc
some_or (Some y) x e h = cc

-- ---- Refused with the encoding
pub call_kept : (l : Bytes) (s k : ℕ) (os : List ℕ) (out : Bytes) → read l ≡ rejected k → step_gives (refuses k) s os out ≡ step_call l s os out
unfolding done_after
call_kept l s k os out h = rw h

-- ---- The step, or a walk of steps, of an encoding that is opened
module _ (does : Entry → model.Cursor → Bytes → model.Advanced) (o : Opened) (l : Bytes) (same : o.bytes.now ≡ l) (s : ℕ) (os out : List ℕ) where
  reads : read l ≡ opened (entry_in o.bytes.now)
  reads = rw (← same) o.opens.reads

  -- refused for what is no state
  pub kept_on : None ≡ state_read s → step_gives (refuses bad_cursor) s os out ≡ done_after does (read l) s os out
  unfolding done_after
  kept_on h = rw (reads, read_none s h)

  pub walked_on : (x : State) (d : model.Advanced) (w : StepGiven) → Some x ≡ state_read s → d ≡ does (entry_in o.bytes.now) (model.cursor_with (state_of x) os) out → w ≡ step_coded d
      → w ≡ done_after does (read l) s os out
  unfolding done_after
  walked_on x d w h q e =
      let z = read_some s x h in
      let y : step_coded (does (entry_in o.bytes.now) (cursor_in s os) out) ≡ done_after does (read l) s os out = rw (reads, z.0) in
      e ∙ ap step_coded (q ∙ ap (λ (n : model.State). does (entry_in o.bytes.now) (model.cursor_with n os) out) z.1) ∙ y

-- ---- A step in C is the model's step on bytes
state_again : (s : ℕ) → is_state s ≡ true → state_code (state_in s) ≡ s
state_again = by_state (λ s. is_state s ≡ true → state_code (state_in s) ≡ s) (λ e. refl) (λ e. refl) (λ e. refl) (λ s h e. let z = no_state s h in cc)

step_reading : (r : Reading) (s : ℕ) (os : List ℕ) (out : Bytes) → is_state s ≡ true → step_after r s os out ≡ step_coded (model.advance_reading r (cursor_in s os) out)
unfolding done_after model.advance_reading model.stays
step_reading (rejected k) s os out h = rw (state_again s h)
step_reading (opened e) s os out h = rw h

pub step_call_lem : (l : Bytes) (s : ℕ) (os : List ℕ) (out : Bytes) → is_state s ≡ true → step_call l s os out ≡ step_coded (model.advance_call l (cursor_in s os) out)
unfolding model.advance_call
step_call_lem l s os out h = step_reading (read l) s os out h
