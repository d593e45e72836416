-- Sound accounts: only members hold anything, within 32 signed bits, and together what was posted less what was dropped. Each way to make an account keeps this.
use mathlib.Core.Path.{◌≡◌, refl, sym, ap, ap₂, ◌∙◌, fun_ext}
use Prim.Native.Nat.{ℕ}
use mathlib.Core.Bool.{Bool, true, false, ◌&&◌, ◌||◌, cond, not, false≢true}
use mathlib.Core.List.{map}
use native.Mathlib.Omega.{arith}
use lib.IntN.{ℤ, ◌+ℤ◌, ◌-ℤ◌, +ℤ_idl, +ℤ_idr}
use lib.ListN.{length, set}
use Rattle.loes.specs.Bytes.{Bytes}
use Rattle.loes.specs.Keys.{Key, those, any_of, same_key, all_keys, members, smaller, either, without}
use Rattle.loes.specs.Entry.{Entry, keys_of, with_set, Valid}
use Rattle.loes.specs.Model.{batch_entry, union_entry, difference_entry}
use Rattle.loes.proofs.Tests.{neither, both, same_eq}
use Rattle.loes.proofs.Lists.{any_of_map, any_of_none}
use Rattle.weights.specs.Weights.{no_weight, total, outside, listed, weight_of, sum_of}
use Rattle.weights.specs.History.{Account, batch_account, posted_account, union_account, difference_account, list_of}
use Rattle.weights.proofs.Sums.{add_differences, add_before, without_part, total_set, total_nothing, total_either, total_without}
use Rattle.weights.proofs.Lists.{index_below, length_listed, member_at, weight_listed, listed_same, listed_set}

pub record Sound (a : Account) : Type 0 where
  pub valid : Valid a.entry
  pub empty : (k : Key) → a.entry.set k ≡ false → a.held k ≡ no_weight
  pub within : (k : Key) → outside (a.held k) ≡ false
  pub balance : total (list_of a) ≡ a.posted -ℤ a.dropped

module _ (a : Account) (s : Sound a) where
  pub list_within : any_of outside (list_of a) ≡ false
  unfolding list_of listed
  list_within = rw (any_of_map outside a.held (keys_of a.entry), fun_ext s.within) (any_of_none (keys_of a.entry))

  -- the weight of a key is what it holds
  pub weight_held : weight_of a.entry (list_of a) ≡ a.held
  unfolding list_of
  weight_held = weight_listed a.entry a.held s.valid.sized s.empty

-- ---- Packed
pub batch_sound : (m : ℕ) (batch : Bytes) → Valid (batch_entry m batch) → Sound (batch_account m batch)
unfolding batch_account list_of listed outside
batch_sound m batch v = record { valid = v; empty = λ k h. refl; within = λ k. refl; balance = total_nothing (keys_of (batch_entry m batch)) }

-- ---- Posted
module _ (a : Account) (k : Key) (x : ℤ) (s : Sound a) (sized : length k ≡ a.entry.width) (inside : a.entry.set k ≡ true) where
  -- the list is as it was but for one entry
  pub posted_list : set (list_of a) (smaller k (keys_of a.entry)) (a.held k +ℤ x) ≡ list_of (posted_account a k x)
  unfolding list_of posted_account
  posted_list = listed_set a.entry a.held k x sized inside

  posted_total : total (list_of (posted_account a k x)) ≡ total (list_of a) +ℤ x
  unfolding list_of
  posted_total =
      let n = index_below a.entry k sized inside in
      ap total (sym posted_list ∙ rw (member_at a.entry a.held k sized inside)) ∙ total_set (listed a.entry a.held) (smaller k (keys_of a.entry)) x (omega (arith, length_listed a.entry a.held))

  pub posted_sound : outside (a.held k +ℤ x) ≡ false → Sound (posted_account a k x)
  posted_sound small =
      record {
        valid = unfold posted_account in s.valid;
        empty = λ j h. unfold posted_account in away j (same_key j k) refl (unfold posted_account in h);
        within = λ j. unfold posted_account in fits j (same_key j k) refl;
        balance = posted_total ∙ ap (λ y. y +ℤ x) s.balance ∙ unfold posted_account in add_before a.posted a.dropped x;
      }
    where
      away : (j : Key) (b : Bool) → same_key j k ≡ b → a.entry.set j ≡ false → cond b (a.held j +ℤ x) (a.held j) ≡ no_weight
      away j true z h = absurd (false≢true (sym h ∙ ap a.entry.set (same_eq j k z) ∙ inside))
      away j false z h = s.empty j h

      fits : (j : Key) (b : Bool) → same_key j k ≡ b → outside (cond b (a.held j +ℤ x) (a.held j)) ≡ false
      fits j true z = rw (same_eq j k z) small
      fits j false z = s.within j

-- ---- United
pub union_sound : (a b : Account) → Sound a → Sound b → a.entry.width ≡ b.entry.width → Valid (union_entry a.entry b.entry)
    → ((k : Key) → a.entry.set k ≡ true → b.entry.set k ≡ true → outside (sum_of a.held b.held k) ≡ false) → Sound (union_account a b)
unfolding union_account sum_of list_of listed keys_of members with_set either
union_sound a b s r w v small =
    record { valid = v; empty = away; within = λ k. fits k (a.entry.set k) (b.entry.set k) refl refl; balance = balance }
  where
    away : (k : Key) → (a.entry.set k || b.entry.set k) ≡ false → a.held k +ℤ b.held k ≡ no_weight
    away k h =
        let n = neither (a.entry.set k) (b.entry.set k) h in
        rw (s.empty k n.0, r.empty k n.1)

    fits : (k : Key) (p q : Bool) → a.entry.set k ≡ p → b.entry.set k ≡ q → outside (a.held k +ℤ b.held k) ≡ false
    fits k true true z y = small k z y
    fits k true false z y = rw (r.empty k y, +ℤ_idr (a.held k)) (s.within k)
    fits k false q z y = rw (s.empty k z, +ℤ_idl (b.held k)) (r.within k)

    balance : total (map (sum_of a.held b.held) (keys_of (union_entry a.entry b.entry))) ≡ (a.posted +ℤ b.posted) -ℤ (a.dropped +ℤ b.dropped)
    balance =
        unfold sum_of keys_of members with_set either in
        total_either a.held b.held a.entry.set b.entry.set (all_keys a.entry.width) s.empty r.empty
        ∙ ap₂ ◌+ℤ◌ (unfold list_of listed keys_of members in s.balance) (rw w (unfold list_of listed keys_of members in r.balance))
        ∙ add_differences a.posted a.dropped b.posted b.dropped

-- ---- Subtracted
-- the keys left hold what they held
pub difference_list : (a : Account) (f : Entry) → listed (difference_entry a.entry f) a.held ≡ list_of (difference_account a f)
unfolding list_of difference_account
difference_list a f =
    listed_same (difference_entry a.entry f) a.held _
    (λ k h. go k (f.set k) (both (a.entry.set k) (not (f.set k)) (unfold with_set without in h)).1)
  where
    go : (k : Key) (q : Bool) → not q ≡ true → a.held k ≡ cond q no_weight (a.held k)
    go k true h = absurd (false≢true h)
    go k false h = refl

pub difference_sound : (a : Account) (f : Entry) → Sound a → Valid (difference_entry a.entry f) → Sound (difference_account a f)
unfolding difference_account with_set without
difference_sound a f s v =
    record {
      valid = v;
      empty = λ k h. away k (a.entry.set k) (f.set k) refl (h);
      within = λ k. fits k (f.set k);
      balance = ap total (sym (difference_list a f)) ∙ without_part _ _ a.posted a.dropped (left ∙ s.balance);
    }
  where
    away : (k : Key) (p q : Bool) → a.entry.set k ≡ p → (p && not q) ≡ false → cond q no_weight (a.held k) ≡ no_weight
    away k p true z h = refl
    away k true false z h = absurd (false≢true (sym h))
    away k false false z h = s.empty k z

    fits : (k : Key) (q : Bool) → outside (cond q no_weight (a.held k)) ≡ false
    fits k true = unfold outside in refl
    fits k false = s.within k

    left : total (listed (difference_entry a.entry f) a.held) +ℤ total (map a.held (those f.set (keys_of a.entry))) ≡ total (list_of a)
    left = unfold list_of listed keys_of members with_set without in total_without a.held a.entry.set f.set (all_keys a.entry.width)
