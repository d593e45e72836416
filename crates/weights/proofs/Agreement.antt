-- What the specification says of the calls with weights holds.
use mathlib.Core.Path.{◌≡◌}
use Prim.Native.Nat.{ℕ}
use mathlib.Core.Bool.{Bool, true, false, cond}
use mathlib.Core.List.{List, [], ◌∷◌}
use mathlib.Core.Option.{some}
use lib.ListN.{get_or}
use Rattle.loes.specs.Bytes.{Bytes}
use Rattle.loes.specs.Entry.{Entry}
use Rattle.loes.specs.Refusals.{Tests, first_of}
use Rattle.loes.specs.Read.{read_tests, rejected, reading_of, read}
use Rattle.loes.specs.Model.{is_posted, is_absent, refusal, key_in}
use Rattle.loes.specs.Calls.{after_reading, reading}
use Rattle.loes.specs.Demands.{Keeps}
use Rattle.loes.proofs.Reading.{read_encode}
use Rattle.loes.proofs.Kept.{Accepts, tested_keeps, reading_keeps}
use Rattle.weights.specs.Weights.{Weights, outputs, WeightedOutcome, leaving, checked, writes_with, union_weighted, difference_weighted, post, pack_weighted_call, post_call, union_weighted_call, difference_weighted_call}
use Rattle.weights.specs.History.{Call, list_of, model_after, stored_of}
use Rattle.weights.specs.Agreement.{RefusalsKeep, Refuses, no_account, WeightsAfter, WeightsAgree}
use Rattle.weights.proofs.Lists.{listed_at}
use Rattle.weights.proofs.Accounts.{list_within}
use Rattle.weights.proofs.Histories.{runs, store_kept, kept_at, account_sound}
use Rattle.weights.proofs.Answers.{answers_agree}

-- ---- A refused call changes nothing
checked_keeps : (ts : Tests) (bufs : List Bytes) (ws : Weights) (done : WeightedOutcome) → Accepts done.answer → Keeps (checked ts bufs ws done) (outputs bufs ws)
unfolding checked
checked_keeps ts bufs ws done h = tested_keeps ts (outputs bufs ws) _ h

writes_keeps : (ts last : Tests) (e : Entry) (l : Weights) (out : Bytes) (ws : Weights) → Keeps (writes_with ts last e l out ws) (outputs (out ∷ []) ws)
unfolding writes_with
writes_keeps ts last e l out ws = checked_keeps _ (out ∷ []) ws _ tt

posted_accepts : (b : Bool) (l m : Weights) → Accepts (cond b (leaving is_posted [] l) (leaving is_absent [] m)).answer
posted_accepts true l m = tt
posted_accepts false l m = tt

refusals_keep : RefusalsKeep
unfolding pack_weighted_call post_call post union_weighted_call union_weighted difference_weighted_call difference_weighted
refusals_keep =
    record {
      pack = λ m batch out ws. writes_keeps _ _ _ _ out ws;
      post = λ l ws x amount. reading_keeps l (outputs [] ws) _ (λ e. checked_keeps _ [] ws _ (posted_accepts (e.set (key_in e.width x)) _ ws));
      union = λ a wa b wb out ws. reading_keeps a (outputs (out ∷ []) ws) _ (λ e. reading_keeps b (outputs (out ∷ []) ws) _ (λ f. writes_keeps _ _ _ _ out ws));
      difference = λ a wa b out ws. reading_keeps a (outputs (out ∷ []) ws) _ (λ e. reading_keeps b (outputs (out ∷ []) ws) _ (λ f. writes_keeps _ _ _ _ out ws));
    }

-- ---- Bytes that are not read are refused by every call
refuses : (l : Bytes) (k : ℕ) → first_of (read_tests l) ≡ some k → Refuses l k
unfolding read reading_of post_call union_weighted_call difference_weighted_call reading after_reading refusal
refuses l k z =
    let h : read l ≡ rejected k = rw z in
    record {
      post = λ ws x amount. rw h;
      first = λ wl b wb out ws. (rw h, rw h);
      second = λ e we wl out ws f. (rw (read_encode e f, h), rw (read_encode e f, h));
    }

-- ---- Every history
after : (h : List Call) → WeightsAfter h
unfolding stored_of
after h =
    record {
      outcomes = (runs h [] tt).says;
      stored = store_kept h;
      entries = λ p i l q. rw (kept_at h p l) (unfold list_of in listed_at (get_or (model_after h) p no_account).entry (get_or (model_after h) p no_account).held i q);
      ranges = λ p l. rw (kept_at h p l) (list_within _ (account_sound h p l));
      totals = λ p l. rw (kept_at h p l) (account_sound h p l).balance;
    }

pub weights_agree : WeightsAgree
weights_agree = record { refusals = refusals_keep; damaged = refuses; answers = answers_agree; histories = after }
