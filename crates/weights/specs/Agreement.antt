-- What holds of the calls with weights, as one proposition with no hypothesis, `WeightsAgree`. The proof is proofs/Agreement.antt.
use Rattle.std.specs.Prelude.{◌≡◌, ◌↔◌, ◌⊎◌, ℕ, ◌<◌, ◌≤◌, true, false, ◌||◌, List, [], ◌∷◌, ◌++◌, map, ℤ, pos, negsuc, ◌+ℤ◌, ◌-ℤ◌, ◌≤ℤ◌, length, get_or, set, ltb}
use mathlib.Core.Option.{none, some}
use Rattle.loes.specs.Bytes.{Bytes, front}
use Rattle.loes.specs.Keys.{Key, any_of, smaller}
use Rattle.loes.specs.Entry.{Entry, keys_of, count, edge_count, too_many_edges, Valid}
use Rattle.loes.specs.Encode.{encode}
use Rattle.loes.specs.Refusals.{too_large, short_buffer, wrong_list, overflow, Tests, test, first_of}
use Rattle.loes.specs.Read.{read_tests}
use Rattle.loes.specs.Model.{refused, wrote, is_posted, is_absent, key_in, key_test, pack_tests, batch_entry, join_tests, union_entry, difference_entry}
use Rattle.loes.specs.Demands.{Keeps, no_entry}
use Rattle.weights.specs.Weights.{Weights, no_weight, total, weight_of, listed, outside, outputs, WeightedOutcome, leaving, list_test, sum_of, sum_test, pack_weighted_call, post_call, union_weighted_call, difference_weighted_call}
use Rattle.weights.specs.History.{Call, Account, none_stored, stored_of, model_says, store_says, model_after, store_after}

-- ---- A refused call changes no byte and no entry
pub record RefusalsKeep : Type 0 where
  pub pack : (m : ℕ) (batch out : Bytes) (ws : Weights) → Keeps (pack_weighted_call m batch out ws) (outputs (out ∷ []) ws)
  pub post : (l : Bytes) (ws : Weights) (x : Bytes) (amount : ℤ) → Keeps (post_call l ws x amount) (outputs [] ws)
  pub union : (a : Bytes) (wa : Weights) (b : Bytes) (wb : Weights) (out : Bytes) (ws : Weights) → Keeps (union_weighted_call a wa b wb out ws) (outputs (out ∷ []) ws)
  pub difference : (a : Bytes) (wa : Weights) (b out : Bytes) (ws : Weights) → Keeps (difference_weighted_call a wa b out ws) (outputs (out ∷ []) ws)

-- ---- Bytes that are no encoding are refused by every call with the number of their first test, before 13 and 16; of two encodings the first is read first
pub record Refuses (l : Bytes) (k : ℕ) : Type 0 where
  pub post : (ws : Weights) (x : Bytes) (amount : ℤ) → post_call l ws x amount ≡ leaving (refused k) [] ws
  pub first : (wl : Weights) (b : Bytes) (wb : Weights) (out : Bytes) (ws : Weights)
      → (union_weighted_call l wl b wb out ws ≡ leaving (refused k) (out ∷ []) ws) × (difference_weighted_call l wl b out ws ≡ leaving (refused k) (out ∷ []) ws)
  pub second : (e : Entry) (we wl : Weights) (out : Bytes) (ws : Weights) → Valid e
      → (union_weighted_call (encode e) we l wl out ws ≡ leaving (refused k) (out ∷ []) ws) × (difference_weighted_call (encode e) we l out ws ≡ leaving (refused k) (out ∷ []) ws)

-- ---- What each call answers
-- a call with these tests, and these last, that writes an entry and its list
pub record WritesBoth (ts last : Tests) (e : Entry) (l : Weights) (out : Bytes) (ws : Weights) (o : WeightedOutcome) : Type 0 where
  -- the first that holds of its tests, 5, 14 for either output, and its last tests, gives its number, and nothing changes
  pub turned : (k : ℕ)
      → first_of (ts ++ test (too_many_edges (edge_count e)) too_large ∷ test (ltb (length out) (length (encode e)) || ltb (length ws) (length l)) short_buffer ∷ last) ≡ some k
      → o ≡ leaving (refused k) (out ∷ []) ws
  -- otherwise the encoding and the list stand at the fronts of their outputs, what is behind stays, and the encoding's length is returned
  pub accepted : first_of ts ≡ none → Valid e → length (encode e) ≤ length out → length l ≤ length ws → first_of last ≡ none
      → o ≡ leaving (wrote (length (encode e) ∷ [])) (front (encode e) out ∷ []) (front l ws)
  -- and only then: what is not refused is within the limits and fits, and no test holds
  pub only : ((k : ℕ) → o.answer ≡ refused k → ⊥)
      → (first_of ts ≡ none) × Valid e × (length (encode e) ≤ length out) × (length l ≤ length ws) × (first_of last ≡ none)

pub record AnswersAgree : Type 0 where
  -- pack writes a zero for each key
  pub pack : (m : ℕ) (batch out : Bytes) (ws : Weights)
      → WritesBoth (pack_tests m batch) [] (batch_entry m batch) (listed (batch_entry m batch) (λ k. no_weight)) out ws (pack_weighted_call m batch out ws)
  -- union writes the sum of each key's two weights; 13, then 16 for either list, and 17 last
  pub union : (e f : Entry) (we wf : Weights) (out : Bytes) (ws : Weights) → Valid e → Valid f
      → WritesBoth (join_tests e f ++ list_test e we ∷ list_test f wf ∷ []) (sum_test e f (weight_of e we) (weight_of f wf) ∷ [])
      (union_entry e f) (listed (union_entry e f) (sum_of (weight_of e we) (weight_of f wf))) out ws (union_weighted_call (encode e) we (encode f) wf out ws)
  -- 17 exactly if a key that both have has a sum that leaves 32 signed bits
  pub sums : (e f : Entry) (w v : Key → ℤ) → Valid e
      → (first_of (sum_test e f w v ∷ []) ≡ none) ↔ ((k : Key) → e.set k ≡ true → f.set k ≡ true → outside (w k +ℤ v k) ≡ false)
  -- difference writes the weight of each key that is left; 13, then 16
  pub difference : (e f : Entry) (we : Weights) (out : Bytes) (ws : Weights) → Valid e → Valid f
      → WritesBoth (join_tests e f ++ list_test e we ∷ []) [] (difference_entry e f) (listed (difference_entry e f) (weight_of e we)) out ws
      (difference_weighted_call (encode e) we (encode f) out ws)
  -- a list of another length is refused, whatever the outputs
  pub union_wrong : (e f : Entry) (we wf : Weights) (out : Bytes) (ws : Weights) → Valid e → Valid f → e.width ≡ f.width
      → ((length we ≡ count e → ⊥) ⊎ (length wf ≡ count f → ⊥)) → union_weighted_call (encode e) we (encode f) wf out ws ≡ leaving (refused wrong_list) (out ∷ []) ws
  pub difference_wrong : (e f : Entry) (we : Weights) (out : Bytes) (ws : Weights) → Valid e → Valid f → e.width ≡ f.width → (length we ≡ count e → ⊥)
      → difference_weighted_call (encode e) we (encode f) out ws ≡ leaving (refused wrong_list) (out ∷ []) ws
  -- a post to a list of another length is refused, before the key is looked at
  pub post_wrong : (e : Entry) (ws : Weights) (x : Bytes) (amount : ℤ) → Valid e → (length ws ≡ count e → ⊥)
      → post_call (encode e) ws x amount ≡ leaving (refused wrong_list) [] ws
  -- one with a wrong key is refused next
  pub post_bad_key : (e : Entry) (ws : Weights) (x : Bytes) (amount : ℤ) (k : ℕ) → Valid e → length ws ≡ count e → key_test e.width x ≡ some k
      → post_call (encode e) ws x amount ≡ leaving (refused k) [] ws
  -- a key that is no member is absent, and the list stays, whatever the amount
  pub post_absent : (e : Entry) (ws : Weights) (x : Bytes) (amount : ℤ) → Valid e → length ws ≡ count e → key_test e.width x ≡ none
      → e.set (key_in e.width x) ≡ false → post_call (encode e) ws x amount ≡ leaving is_absent [] ws
  -- a member whose sum leaves 32 signed bits is refused
  pub post_leaves : (e : Entry) (ws : Weights) (x : Bytes) (amount : ℤ) → Valid e → length ws ≡ count e → key_test e.width x ≡ none
      → let k : Key = key_in e.width x in
      e.set k ≡ true → outside (weight_of e ws k +ℤ amount) ≡ true → post_call (encode e) ws x amount ≡ leaving (refused overflow) [] ws
  -- any other's sum is set at its index, and nothing else changes
  pub posts : (e : Entry) (ws : Weights) (x : Bytes) (amount : ℤ) → Valid e → length ws ≡ count e → key_test e.width x ≡ none
      → let k : Key = key_in e.width x in
      e.set k ≡ true → outside (weight_of e ws k +ℤ amount) ≡ false
      → post_call (encode e) ws x amount ≡ leaving is_posted [] (set ws (smaller k (keys_of e)) (weight_of e ws k +ℤ amount))
  -- a list made for an entry gives each member its weight
  pub weight : (e : Entry) (w : Key → ℤ) (k : Key) → length k ≡ e.width → e.set k ≡ true → weight_of e (listed e w) k ≡ w k
  -- a sum stays within 32 signed bits exactly if it is from -2147483648 to 2147483647, both included
  pub ends : (z : ℤ) → (outside z ≡ false) ↔ ((negsuc 2147483647 ≤ℤ z) × (z ≤ℤ pos 2147483647))

-- ---- Every weighted history, refused calls included
-- what stands for an account outside the list
unfoldable pub no_account : Account
no_account = record { entry = no_entry; held = λ k. no_weight; posted = no_weight; dropped = no_weight }

pub record WeightsAfter (h : List Call) : Type 0 where
  -- every call was accepted or refused, and answered, as the accounts say, with every byte of its buffer and every entry of its list
  pub outcomes : store_says [] h ≡ model_says [] h
  -- what is stored are the encodings of the accounts' sets, each with the account's list
  pub stored : store_after h ≡ map stored_of (model_after h)
  -- entry i of a list is what the key at index i holds
  pub entries : (p i : ℕ) → p < length (store_after h) → i < count (get_or (model_after h) p no_account).entry
      → get_or (get_or (store_after h) p none_stored).list i no_weight ≡ (get_or (model_after h) p no_account).held (get_or (keys_of (get_or (model_after h) p no_account).entry) i [])
  -- no entry leaves 32 signed bits
  pub ranges : (p : ℕ) → p < length (store_after h) → any_of outside (get_or (store_after h) p none_stored).list ≡ false
  -- and a list's total is all that was posted on the way to it, less all that was dropped on that way
  pub totals : (p : ℕ) → p < length (store_after h)
      → total (get_or (store_after h) p none_stored).list ≡ (get_or (model_after h) p no_account).posted -ℤ (get_or (model_after h) p no_account).dropped

-- ---- All of it
pub record WeightsAgree : Type 0 where
  pub refusals : RefusalsKeep
  pub damaged : (l : Bytes) (k : ℕ) → first_of (read_tests l) ≡ some k → Refuses l k
  pub answers : AnswersAgree
  pub histories : (h : List Call) → WeightsAfter h
