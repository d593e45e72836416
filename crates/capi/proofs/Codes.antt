-- From the calls' answers to their codes.
use mathlib.Core.Path.{◌≡◌, refl, ap, ◌∙◌}
use Prim.Native.Nat.{ℕ}
use mathlib.Core.Bool.{Bool, true, false}
use mathlib.Core.List.{[], ◌∷◌}
use Rattle.std.specs.Prelude.{Option, Some, None, Result, Ok, Err}
use Rattle.loes.specs.Bytes.{Bytes}
use Rattle.loes.specs.Model.{OutcomeOf, Outcome}
use Rattle.loes.specs.declared.refusal.Refusal.{Refusal}
use Rattle.bits.specs.declared.MemberIndex.{MemberIndex}
use Rattle.encoding.specs.Answers.{ranked_outcome}
use Rattle.query.specs.Answers.{membership_outcome, lookup_outcome, bound_outcome, key_answer, key_outcome}
use Rattle.build.specs.Writing.{written_outcome}
use Rattle.weights.specs.Weights.{Weights, outputs}
use Rattle.weights.specs.Answers.{posting_outcome, weighted_outcome}
use Rattle.cursor.specs.Steps.{step_answer}
use Rattle.capi.specs.declared.answers.Answer.{Answer}
use Rattle.capi.specs.declared.answers.Range.{Range}
use Rattle.capi.specs.Coded.{code_of, gives, coded, range_of}

-- ---- Answers
pub onward : {L : Type 0} {r : Answer} {bufs : L} {o o' : OutcomeOf L} → o ≡ o' → gives r bufs ≡ coded o → gives r bufs ≡ coded o'
onward q p = p ∙ ap coded q

pub membership_coded : {r : Answer} (a : Result Bool Refusal) → r ≡ code_of (membership_outcome a).answer → gives r [] ≡ coded (membership_outcome a)
unfolding coded
membership_coded (Err k) p = ap (λ (x : Answer). gives x []) p
membership_coded (Ok true) p = ap (λ (x : Answer). gives x []) p
membership_coded (Ok false) p = ap (λ (x : Answer). gives x []) p

pub posting_coded : {r : Answer} (a : Result Bool Refusal) (ws : Weights) → r ≡ code_of (membership_outcome a).answer → gives r (outputs [] ws) ≡ coded (posting_outcome a ws)
unfolding coded
posting_coded (Err k) ws p = ap (λ (x : Answer). gives x (outputs [] ws)) p
posting_coded (Ok true) ws p = ap (λ (x : Answer). gives x (outputs [] ws)) p
posting_coded (Ok false) ws p = ap (λ (x : Answer). gives x (outputs [] ws)) p

pub lookup_coded : {r : Answer} (a : Result (Option MemberIndex) Refusal) → r ≡ code_of (lookup_outcome a).answer → gives r [] ≡ coded (lookup_outcome a)
unfolding coded
lookup_coded (Err k) p = ap (λ (x : Answer). gives x []) p
lookup_coded (Ok None) p = ap (λ (x : Answer). gives x []) p
lookup_coded (Ok (Some i)) p = ap (λ (x : Answer). gives x []) p

pub bound_coded : {r : Answer} (a : Result (Option MemberIndex) Refusal) → r ≡ code_of (lookup_outcome a).answer → gives r [] ≡ coded (bound_outcome a)
unfolding coded
bound_coded (Err k) p = ap (λ (x : Answer). gives x []) p
bound_coded (Ok None) p = ap (λ (x : Answer). gives x []) p
bound_coded (Ok (Some i)) p = ap (λ (x : Answer). gives x []) p

pub ranked_coded : {r : Answer} (a : Result ℕ Refusal) → r ≡ code_of (ranked_outcome a).answer → gives r [] ≡ coded (ranked_outcome a)
unfolding coded
ranked_coded (Err k) p = ap (λ (x : Answer). gives x []) p
ranked_coded (Ok n) p = ap (λ (x : Answer). gives x []) p

pub written_coded : {r : Answer} (a : Result ℕ Refusal) (out : Bytes) → r ≡ code_of (ranked_outcome a).answer → gives r (out ∷ []) ≡ coded (written_outcome a out)
unfolding coded written_outcome
written_coded (Err k) out p = ap (λ (x : Answer). gives x (out ∷ [])) p
written_coded (Ok n) out p = ap (λ (x : Answer). gives x (out ∷ [])) p

pub weighted_coded : {r : Answer} (a : Result ℕ Refusal) (out : Bytes) (ws : Weights) → r ≡ code_of (ranked_outcome a).answer → gives r (outputs (out ∷ []) ws) ≡ coded (weighted_outcome a out ws)
unfolding coded
weighted_coded (Err k) out ws p = ap (λ (x : Answer). gives x (outputs (out ∷ []) ws)) p
weighted_coded (Ok n) out ws p = ap (λ (x : Answer). gives x (outputs (out ∷ []) ws)) p

pub key_coded : {r : Answer} (a : Result ℕ Refusal) (out : Bytes) → r ≡ code_of (key_answer a) → gives r (out ∷ []) ≡ coded (key_outcome a out)
unfolding coded
key_coded a out p = ap (λ (x : Answer). gives x (out ∷ [])) p

-- a step that wrote no key is absent, as a key of no bytes is
pub step_key : (a : Result ℕ Refusal) → key_answer a ≡ step_answer a
step_key (Err k) = refl
step_key (Ok n) = refl

-- ---- Prefixes
pub range_onward : {r : Range} {o o' : Outcome} → o ≡ o' → r ≡ range_of o.answer → r ≡ range_of o'.answer
range_onward q p = p ∙ ap (λ (x : Outcome). range_of x.answer) q
