-- From the flags of a union's members to the lists: what was counted before a member is its index in either set.
use mathlib.Core.Path.{◌≡◌, refl, sym, ap, ap₂, ◌∙◌, fun_ext}
use Prim.Native.Nat.{ℕ, zero, suc, ◌+◌, ◌≤◌, ◌<◌}
use mathlib.Core.Bool.{Bool, true, false, ◌&&◌, ◌||◌, cond, and_comm, and-false, false≢true}
use mathlib.Core.List.{List, [], ◌∷◌, ◌++◌, map, map-append}
use native.Mathlib.Omega.{arith}
use lib.IntN.{◌+ℤ◌}
use lib.ListN.{length, get_or, take, length-map}
use lib.Seq.{ext_get_or, take-suc, take_all}
use lib.Dec.{ltb}
use Rattle.loes.specs.Bytes.{Bytes, bit, tabulate}
use Rattle.loes.specs.Keys.{Key, KeySet, any_of, those, less, all_keys, members, smaller, either}
use Rattle.loes.specs.Entry.{Entry, keys_of, count, with_set}
use Rattle.loes.specs.Model.{union_entry, difference_entry}
use Rattle.loes.proofs.Bytes.{length_tabulate, get_d_tabulate}
use Rattle.loes.proofs.Lists.{any_of_map, those_append, get_d_map_in}
use Rattle.loes.proofs.Tests.{lt_yes, lt_no}
use Rattle.loes.proofs.Members.{smaller_at}
use Rattle.loes.proofs.Order.{below_bound}
use Rattle.records.specs.Records.{flags_from, is_flag, first_count, second_count}
use Rattle.merge.specs.Union.{flag_of, MemberFlags}
use Rattle.merge.proofs.Flags.{flags_count, flag_of_lem}
use Rattle.restrict.proofs.Subsets.{first_only}
use Rattle.weights.specs.Weights.{Weights, no_weight, outside, weight_of, listed, sum_of}
use Rattle.weights.specs.Lists.{taken, first_at, second_at, sum_at, over_at, any_below, kept_to}

-- ---- Lists
module _ {A : Type 0} where
  those_both : (f g : A → Bool) (l : List A) → those g (those f l) ≡ those (λ k. f k && g k) l
  unfolding those
  those_both f g [] = refl
  those_both f g (x ∷ l) = go (f x) (those_both f g l)
    where
      go : (b : Bool) → those g (those f l) ≡ those (λ k. f k && g k) l
          → those g (cond b (x ∷ those f l) (those f l)) ≡ cond (b && g x) (x ∷ those (λ k. f k && g k) l) (those (λ k. f k && g k) l)
      go true h = unfold those in rw h
      go false h = h

  those_same : (f g : A → Bool) (l : List A) → ((k : A) → f k ≡ g k) → those f l ≡ those g l
  those_same f g l h = ap (λ p. those p l) (fun_ext h)

  -- a test that takes just the first i
  those_first : (p : A → Bool) (l : List A) (i : ℕ) (d : A) → ((j : ℕ) → j < length l → j < i → p (get_or l j d) ≡ true) → ((j : ℕ) → j < length l → i ≤ j → p (get_or l j d) ≡ false)
      → those p l ≡ take i l
  unfolding those
  those_first p [] zero d h g = refl
  those_first p [] (suc i) d h g = refl
  those_first p (x ∷ l) zero d h g =
      let e : p x ≡ false = g 0 (omega arith) (omega arith) in
      rw e (those_first p l zero d (λ j k m. absurd (omega arith)) (λ j k m. g (suc j) (omega arith) (omega arith)))
  those_first p (x ∷ l) (suc i) d h g =
      let e : p x ≡ true = h 0 (omega arith) (omega arith) in
      rw e (ap (λ y. x ∷ y) (those_first p l i d (λ j k m. h (suc j) (omega arith) (omega arith)) (λ j k m. g (suc j) (omega arith) (omega arith))))

  pub tabulate_map : {B : Type 0} (g : ℕ → B) (w : A → B) (l : List A) (n : ℕ) (d : A) → n ≡ length l → ((i : ℕ) → i < n → g i ≡ w (get_or l i d)) → tabulate g n ≡ map w l
  tabulate_map g w [] n d z h = rw z (unfold tabulate in refl)
  tabulate_map g w (x ∷ l) n d z h =
      ext_get_or (w x) _ _ (length_tabulate g n ∙ z ∙ sym (length-map (x ∷ l) w))
      (λ i k.
      let q : i < n = omega (arith, length_tabulate g n, k) in
      let y : i < length (x ∷ l) = omega (arith, z) in
      get_d_tabulate g n i (w x) q ∙ h i q ∙ sym (get_d_map_in w (x ∷ l) i d (w x) y))

-- ---- A set within a union: how many of its members stand before member i of the union
module _ (u : Entry) (s : KeySet) (h : (k : Key) → s k ≡ true → u.set k ≡ true) where
  pub within_keys : members u.width s ≡ those s (keys_of u)
  unfolding keys_of members
  within_keys = those_same s (λ j. u.set j && s j) (all_keys u.width) (λ j. go j (s j) refl) ∙ sym (those_both u.set s (all_keys u.width))
    where
      go : (j : Key) (b : Bool) → s j ≡ b → b ≡ (u.set j && b)
      go j true z = rw (h j z)
      go j false z = sym (and-false (u.set j))

  module _ (i : ℕ) (l : i < count u) where
    abbrev k : Key
    k = get_or (keys_of u) i []

    abbrev less_k : Key → Bool
    less_k j = less j k

    at_less : (j : ℕ) → j < length (keys_of u) → less_k (get_or (keys_of u) j []) ≡ ltb j i
    at_less j m = below_bound u k j (unfold count in m) ∙ ap (ltb j) (smaller_at u i l)

    pub before_index : smaller k (members u.width s) ≡ length (those s (take i (keys_of u)))
    unfolding smaller
    before_index =
        ap (λ x. length (those less_k x)) within_keys
        ∙ ap length (those_both s less_k (keys_of u) ∙ those_same (λ j. s j && less_k j) (λ j. less_k j && s j) (keys_of u) (λ j. and_comm (s j) (less_k j)) ∙ sym (those_both less_k s (keys_of u)))
        ∙ ap (λ x. length (those s x)) (those_first less_k (keys_of u) i [] (λ j m n. at_less j m ∙ lt_yes j i n) (λ j m n. at_less j m ∙ lt_no j i n))

-- ---- The flags of a union's members
first_counts : (s t : KeySet) (l : List Key) → first_count (map (flag_of s t) l) ≡ length (those s l)
unfolding first_count those flag_of
first_counts s t [] = refl
first_counts s t (k ∷ l) = go (s k) (first_counts s t l)
  where
    go : (b : Bool) → first_count (map (flag_of s t) l) ≡ length (those s l) → bit b + first_count (map (flag_of s t) l) ≡ length (cond b (k ∷ those s l) (those s l))
    go true h = omega (arith, h)
    go false h = omega (arith, h)

second_counts : (s t : KeySet) (l : List Key) → second_count (map (flag_of s t) l) ≡ length (those t l)
unfolding second_count those flag_of
second_counts s t [] = refl
second_counts s t (k ∷ l) = go (t k) (second_counts s t l)
  where
    go : (b : Bool) → second_count (map (flag_of s t) l) ≡ length (those t l) → bit b + second_count (map (flag_of s t) l) ≡ length (cond b (k ∷ those t l) (those t l))
    go true h = omega (arith, h)
    go false h = omega (arith, h)

or_first : (a b : Bool) → a ≡ true → (a || b) ≡ true
or_first true b h = refl
or_first false b h = absurd (false≢true h)

or_second : (a b : Bool) → b ≡ true → (a || b) ≡ true
or_second true b h = refl
or_second false b h = h

module _ {e f : Entry} {q : Bytes} {r n : ℕ} (same : e.width ≡ f.width) (flags : MemberFlags e f q r n) where
  abbrev u : Entry
  u = union_entry e f

  first_in : (k : Key) → e.set k ≡ true → u.set k ≡ true
  unfolding with_set either
  first_in k h = or_first (e.set k) (f.set k) h

  second_in : (k : Key) → f.set k ≡ true → u.set k ≡ true
  unfolding with_set either
  second_in k h = or_second (e.set k) (f.set k) h

  first_keys : members u.width e.set ≡ keys_of e
  unfolding with_set keys_of
  first_keys = refl

  second_keys : members u.width f.set ≡ keys_of f
  unfolding with_set keys_of
  second_keys = ap (λ m. members m f.set) same

  abbrev key : ℕ → Key
  key i = get_or (keys_of u) i []

  long : (i : ℕ) → i < n → i < length (keys_of u)
  long i h = unfold count in omega (arith, flags_count flags)

  flags_to : (i : ℕ) → i ≤ n → flags_from q r i ≡ map (flag_of e.set f.set) (take i (keys_of u))
  unfolding flags_from tabulate
  flags_to zero h = refl
  flags_to (suc i) h =
      ap₂ (λ x y. x ++ y ∷ []) (flags_to i (omega arith)) (flag_of_lem flags i h)
      ∙ sym (ap (map (flag_of e.set f.set)) (take-suc (keys_of u) i [] (long i h)) ∙ map-append (flag_of e.set f.set) (take i (keys_of u)) (key i ∷ []))

  -- what was taken before member i is its index in either set
  first_index : (i : ℕ) → i < n → first_count (flags_from q r i) ≡ smaller (key i) (keys_of e)
  first_index i h =
      ap first_count (flags_to i (omega arith)) ∙ first_counts e.set f.set (take i (keys_of u))
      ∙ sym (before_index u e.set first_in i (omega (arith, flags_count flags))) ∙ ap (smaller (key i)) first_keys

  second_index : (i : ℕ) → i < n → second_count (flags_from q r i) ≡ smaller (key i) (keys_of f)
  second_index i h =
      ap second_count (flags_to i (omega arith)) ∙ second_counts e.set f.set (take i (keys_of u))
      ∙ sym (before_index u f.set second_in i (omega (arith, flags_count flags))) ∙ ap (smaller (key i)) second_keys

  first_weight : (wa : Weights) (i : ℕ) → i < n → first_at q r wa i ≡ weight_of e wa (key i)
  unfolding first_at weight_of taken flag_of
  first_weight wa i h = ap₂ (λ g j. cond g.in_first (get_or wa j no_weight) no_weight) (flag_of_lem flags i h) (first_index i h)

  second_weight : (wb : Weights) (i : ℕ) → i < n → second_at q r wb i ≡ weight_of f wb (key i)
  unfolding second_at weight_of taken flag_of
  second_weight wb i h = ap₂ (λ g j. cond g.in_second (get_or wb j no_weight) no_weight) (flag_of_lem flags i h) (second_index i h)

  module _ (wa wb : Weights) where
    sum_weight : (i : ℕ) → i < n → sum_at q r wa wb i ≡ sum_of (weight_of e wa) (weight_of f wb) (key i)
    unfolding sum_at sum_of
    sum_weight i h = ap₂ ◌+ℤ◌ (first_weight wa i h) (second_weight wb i h)

    -- the sums, written member by member, are the union's list
    pub sums_listed : tabulate (sum_at q r wa wb) n ≡ listed u (sum_of (weight_of e wa) (weight_of f wb))
    unfolding listed count
    sums_listed = tabulate_map (sum_at q r wa wb) (sum_of (weight_of e wa) (weight_of f wb)) (keys_of u) n [] (flags_count flags) sum_weight

    abbrev over : Key → Bool
    over k = e.set k && f.set k && outside (sum_of (weight_of e wa) (weight_of f wb) k)

    over_weight : (i : ℕ) → i < n → over_at q r wa wb i ≡ over (key i)
    unfolding over_at flag_of
    over_weight i h = ap₂ (λ g z. g.in_first && g.in_second && outside z) (flag_of_lem flags i h) (sum_weight i h)

    -- and the test of each is the test of all
    pub sums_tested : any_below (over_at q r wa wb) n ≡ any_of over (keys_of u)
    unfolding any_below
    sums_tested =
        ap (any_of (λ b. b)) (tabulate_map (over_at q r wa wb) over (keys_of u) n [] (unfold count in flags_count flags) over_weight)
        ∙ any_of_map (λ b. b) over (keys_of u)

  -- the entries of those that only the first has are the difference's list
  module _ (wa : Weights) where
    abbrev only : Key → Bool
    only k = is_flag 1 (flag_of e.set f.set k)

    kept_to_lem : (i : ℕ) → i ≤ n → kept_to q r wa i ≡ map (weight_of e wa) (those only (take i (keys_of u)))
    unfolding kept_to those
    kept_to_lem zero h = refl
    kept_to_lem (suc i) h =
        ap₂ ◌++◌ (kept_to_lem i (omega arith)) (ap₂ (λ g z. cond (is_flag 1 g) (z ∷ []) []) (flag_of_lem flags i h) (first_weight wa i h) ∙ one (only (key i)) (key i))
        ∙ sym
        (ap (λ x. map (weight_of e wa) (those only x)) (take-suc (keys_of u) i [] (long i h))
        ∙ ap (map (weight_of e wa)) (those_append only (take i (keys_of u)) (key i ∷ []))
        ∙ map-append (weight_of e wa) (those only (take i (keys_of u))) (those only (key i ∷ [])))
      where
        one : (b : Bool) (k : Key) → cond b (weight_of e wa k ∷ []) [] ≡ map (weight_of e wa) (cond b (k ∷ []) [])
        one true k = refl
        one false k = refl

    pub kept_listed : kept_to q r wa n ≡ listed (difference_entry e f) (weight_of e wa)
    kept_listed =
        kept_to_lem n (omega arith)
        ∙ ap (λ x. map (weight_of e wa) (those only x)) (take_all n (keys_of u) (unfold count in omega (arith, flags_count flags)))
        ∙ ap (map (weight_of e wa)) left
        ∙ unfold listed in refl
      where
        left : those only (keys_of u) ≡ keys_of (difference_entry e f)
        left = unfold keys_of members with_set in those_both (either e.set f.set) only (all_keys e.width) ∙ those_same _ _ (all_keys e.width) (first_only e.set f.set)
