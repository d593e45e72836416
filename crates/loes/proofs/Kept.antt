-- A refused call leaves every lent buffer, and the cursor, as they were.
use mathlib.Core.Path.{◌≡◌, refl, subst}
use Prim.Native.Nat.{ℕ}
use mathlib.Core.Bool.{Bool, true, false, cond}
use mathlib.Core.List.{List, [], ◌∷◌}
use mathlib.Core.Option.{Option, none, some}
use Rattle.loes.specs.Bytes.{Bytes}
use Rattle.loes.specs.Entry.{Entry}
use Rattle.loes.specs.Refusals.{Tests, first_of}
use Rattle.loes.specs.Read.{Reading, rejected, opened, read}
use Rattle.loes.specs.Model.{Answer, refused, wrote, wrote_key, index_is, rank_is, range_is, is_present, is_absent, is_none, is_posted, tells, OutcomeOf, StepOf, refusal, refused_or, tested, writes, writes_key, pack, union, difference, split, key_at}
use Rattle.loes.specs.Calls.{after_reading, reading, pack_call, union_call, difference_call, split_call, key_at_call}
use Rattle.loes.specs.Demands.{Keeps, RefusalsKeep}
use Rattle.loes.specs.Cursor.{Cursor, Advanced, stays_or, stays, has_next, next_key, goes_to, goes_to_after, advance, advance_reading, advance_call}

abbrev pub Accepts : Answer → Type 0
Accepts (refused k) = ⊥
Accepts (wrote ns) = Unit {0}
Accepts (wrote_key n) = Unit {0}
Accepts (index_is n) = Unit {0}
Accepts (rank_is n) = Unit {0}
Accepts (range_is i n) = Unit {0}
Accepts is_present = Unit {0}
Accepts is_absent = Unit {0}
Accepts is_none = Unit {0}
Accepts is_posted = Unit {0}
Accepts (tells m n b) = Unit {0}

pub tested_keeps : {L : Type 0} (ts : Tests) (bufs : L) (done : StepOf L) → Accepts done.outcome.answer → Keeps (tested ts bufs done).outcome bufs
unfolding tested refused_or refusal
tested_keeps ts bufs done h = go (first_of ts)
  where
    go : (o : Option ℕ) → Keeps (refused_or o bufs done).outcome bufs
    go none k e = absurd (subst Accepts e h)
    go (some n) k e = refl

pub reading_keeps : {L : Type 0} (l : Bytes) (bufs : L) (next : Entry → OutcomeOf L) → ((e : Entry) → Keeps (next e) bufs) → Keeps (reading l bufs next) bufs
unfolding reading after_reading refusal
reading_keeps l bufs next h = go (read l)
  where
    go : (r : Reading) → Keeps (after_reading r bufs next) bufs
    go (rejected n) k e = refl
    go (opened e) k z = h e k z

writes_keeps : (ts : Tests) (es : List Entry) (bufs : List Bytes) → Keeps (writes ts es bufs).outcome bufs
unfolding writes
writes_keeps ts es bufs = tested_keeps _ bufs _ tt

key_keeps : (ts : Tests) (t : ℕ) (k : List Bool) (out : Bytes) → Keeps (writes_key ts t k out).outcome (out ∷ [])
unfolding writes_key
key_keeps ts t k out = tested_keeps _ (out ∷ []) _ tt

if_keeps : (o : Option ℕ) (p : Cursor) (out : Bytes) (done : Advanced) → Accepts done.answer → (k : ℕ) → (stays_or o p out done).answer ≡ refused k
    → ((stays_or o p out done).buffer ≡ out) × ((stays_or o p out done).cursor ≡ p)
unfolding stays_or stays
if_keeps none p out done h k e = absurd (subst Accepts e h)
if_keeps (some n) p out done h k e = (refl, refl)

advanced_keeps : (e : Entry) (p : Cursor) (out : Bytes) (k : ℕ) → (advance e p out).answer ≡ refused k → ((advance e p out).buffer ≡ out) × ((advance e p out).cursor ≡ p)
unfolding advance goes_to goes_to_after
advanced_keeps e p out k h =
    if_keeps _ p out _ (elim (has_next e p) as (λ b. Accepts (cond b (goes_to e (next_key e p) out) (goes_to_after out)).answer) [ true ↦ tt | false ↦ tt ]) k h

pub refusals_keep : RefusalsKeep
unfolding pack_call pack union_call union difference_call difference split_call split key_at_call key_at advance_call
refusals_keep =
    record {
      pack = λ m batch out. writes_keeps _ _ (out ∷ []);
      union = λ a b out. reading_keeps a (out ∷ []) _ (λ e. reading_keeps b (out ∷ []) _ (λ f. writes_keeps _ _ (out ∷ [])));
      difference = λ a b out. reading_keeps a (out ∷ []) _ (λ e. reading_keeps b (out ∷ []) _ (λ f. writes_keeps _ _ (out ∷ [])));
      split = λ a b x y z. let bufs : List Bytes = x ∷ y ∷ z ∷ [] in reading_keeps a bufs _ (λ e. reading_keeps b bufs _ (λ f. writes_keeps _ _ bufs));
      key_at = λ a i out. reading_keeps a (out ∷ []) _ (λ e. key_keeps _ _ _ out);
      step = λ a p out. given_keeps p out (read a);
    }
  where
    given_keeps : (p : Cursor) (out : Bytes) (r : Reading) (k : ℕ) → (advance_reading r p out).answer ≡ refused k → ((advance_reading r p out).buffer ≡ out) × ((advance_reading r p out).cursor ≡ p)
    given_keeps p out (rejected n) k h = unfold advance_reading stays in (refl, refl)
    given_keeps p out (opened e) k h = unfold advance_reading in advanced_keeps e p out k (unfold advance_reading in h)
