-- What one key more does to the counts of prefixes
use mathlib.Core.Path.{◌≡◌, refl, sym, ap, ap₂, ◌∙◌, fun_ext}
use Prim.Native.Nat.{ℕ, zero, suc, ◌+◌, ◌≤◌, ◌<◌}
use mathlib.Core.Bool.{Bool, true, false, ◌||◌, not, or-false, or-true, false≢true, true≢false}
use mathlib.Core.List.{[], ◌∷◌}
use mathlib.Core.Logic.{◌⊎◌, inl, inr, ⊎_elim}
use native.Mathlib.Omega.{arith}
use native.Mathlib.Decide.{le_ind, dec_le}
use lib.ListN.{length, take}
use lib.Seq.{length-take-le}
use lib.Dec.{leb, leb-zero, leb-suc-zero, leb-suc-suc}
use Rattle.loes.specs.Bytes.{tabulate, bit}
use Rattle.loes.specs.Keys.{Key, KeySet, any_of, same_key, set_of, less}
use Rattle.loes.specs.Prefixes.{half, inhabited, prefix_count, prefixes_before}
use Rattle.loes.proofs.Tests.{same_refl, same_eq}
use Rattle.loes.proofs.Lists.{any_of_append}
use Rattle.loes.proofs.Tree.{has_prefix, prefix_of, prefix_inhabited, count_one, false_if, count_none}
use Rattle.pack.specs.Rising.{common_prefix, first_new, set_below, Rising}

-- a set with one key more
unfoldable pub insert : KeySet → Key → KeySet
insert s k j = s j || same_key j k

-- ---- one key more, by its first bit
pub half_in : (b : Bool) (s : KeySet) (k : Key) → half b (insert s (b ∷ k)) ≡ insert (half b s) k
unfolding half insert same_key
half_in false s k = refl
half_in true s k = refl

pub half_ft : (s : KeySet) (k : Key) → half true (insert s (false ∷ k)) ≡ half true s
unfolding half insert same_key
half_ft s k = fun_ext (λ j. or-false (s (true ∷ j)))

pub half_tf : (s : KeySet) (k : Key) → half false (insert s (true ∷ k)) ≡ half false s
unfolding half insert same_key
half_tf s k = fun_ext (λ j. or-false (s (false ∷ j)))

insert_nil : (s : KeySet) → insert s [] [] ≡ true
unfolding insert same_key
insert_nil s = or-true (s [])

pub inhabited_insert : (k : Key) (m : ℕ) (s : KeySet) → length k ≡ m → inhabited m (insert s k) ≡ true
unfolding inhabited
inhabited_insert [] zero s l = insert_nil s
inhabited_insert [] (suc m) s l = absurd (omega arith)
inhabited_insert (b ∷ k) zero s l = absurd (omega arith)
inhabited_insert (false ∷ k) (suc m) s l = rw (half_in false s k, inhabited_insert k m (half false s) (omega arith))
inhabited_insert (true ∷ k) (suc m) s l = rw (half_in true s k, inhabited_insert k m (half true s) (omega arith), or-true)

bit_not : (b : Bool) → 1 ≡ bit b + bit (not b)
bit_not true = refl
bit_not false = refl

-- a prefix of the new key is counted once more if it is new
pub count_insert : (e : ℕ) (k : Key) (m : ℕ) (s : KeySet) → length k ≡ m → e ≤ m → prefix_count e m (insert s k) ≡ prefix_count e m s + bit (not (has_prefix (take e k) m s))
unfolding prefix_count has_prefix
count_insert zero k m s l h = rw (inhabited_insert k m s l) (bit_not (inhabited m s))
count_insert (suc e) k zero s l h = absurd (omega arith)
count_insert (suc e) [] (suc m) s l h = absurd (omega arith)
count_insert (suc e) (false ∷ k) (suc m) s l h =
    rw (half_in false s k, half_ft s k) (omega (arith, count_insert e k m (half false s) (omega arith) (omega arith)))
count_insert (suc e) (true ∷ k) (suc m) s l h =
    rw (half_in true s k, half_tf s k) (omega (arith, count_insert e k m (half true s) (omega arith) (omega arith)))

-- ---- sets that have no key
pub inhabited_none : (m : ℕ) (s : KeySet) → ((j : Key) → length j ≡ m → s j ≡ false) → inhabited m s ≡ false
unfolding inhabited half
inhabited_none zero s h = h [] refl
inhabited_none (suc m) s h =
    rw (inhabited_none m (half false s) (λ j l. unfold half in h (false ∷ j) (ap suc l)), inhabited_none m (half true s) (λ j l. unfold half in h (true ∷ j) (ap suc l)))

-- ---- the greatest key
-- none of the set is above k
abbrev pub Under : ℕ → KeySet → Key → Type 0
Under m s k = (j : Key) → length j ≡ m → s j ≡ true → less k j ≡ false

pub under_half : (b : Bool) (m : ℕ) (s : KeySet) (k : Key) → Under (suc m) s (b ∷ k) → Under m (half b s) k
unfolding half less
under_half false m s k u = λ j l e. u (false ∷ j) (ap suc l) e
under_half true m s k u = λ j l e. u (true ∷ j) (ap suc l) e

-- none starts with 1 where the greatest starts with 0
pub under_none : (m : ℕ) (s : KeySet) (k : Key) → Under (suc m) s (false ∷ k) → inhabited m (half true s) ≡ false
unfolding half less
under_none m s k u = inhabited_none m (half true s) (λ j l. false_if (λ (e : s (true ∷ j) ≡ true). absurd (true≢false (u (true ∷ j) (ap suc l) e))) refl)

-- a key that is not below the greatest, g: which of its prefixes are there
pub top_found : (e : ℕ) (g k : Key) (m : ℕ) (s : KeySet) → length g ≡ m → length k ≡ m → s g ≡ true → Under m s g → less k g ≡ false → e ≤ m
    → has_prefix (take e k) m s ≡ leb e (common_prefix g k)
unfolding has_prefix common_prefix less half
top_found zero g k m s lg lk inhabited-g u up h = prefix_of [] g m s lg inhabited-g ∙ sym (leb-zero (common_prefix g k))
top_found (suc e) g k zero s lg lk inhabited-g u up h = absurd (omega arith)
top_found (suc e) [] k (suc m) s lg lk inhabited-g u up h = absurd (omega arith)
top_found (suc e) (a ∷ g) [] (suc m) s lg lk inhabited-g u up h = absurd (omega arith)
top_found (suc e) (false ∷ g) (false ∷ k) (suc m) s lg lk inhabited-g u up h =
    rw leb-suc-suc (top_found e g k m (half false s) (omega arith) (omega arith) inhabited-g (under_half false m s g u) up (omega arith))
top_found (suc e) (true ∷ g) (true ∷ k) (suc m) s lg lk inhabited-g u up h =
    rw leb-suc-suc (top_found e g k m (half true s) (omega arith) (omega arith) inhabited-g (under_half true m s g u) up (omega arith))
top_found (suc e) (false ∷ g) (true ∷ k) (suc m) s lg lk inhabited-g u up h =
    rw leb-suc-zero (false_if (prefix_inhabited (take e k) m (half true s)) (under_none m s g u))
top_found (suc e) (true ∷ g) (false ∷ k) (suc m) s lg lk inhabited-g u up h = absurd (true≢false up)

-- the greatest has all the others before it
pub top_before : (e : ℕ) (k : Key) (m : ℕ) (s : KeySet) → length k ≡ m → s k ≡ true → Under m s k → e ≤ m → suc (prefixes_before (take e k) m s) ≡ prefix_count e m s
unfolding prefixes_before prefix_count half has_prefix
top_before zero k m s l inhabited-k u h = sym (count_one m s (prefix_of [] k m s l inhabited-k))
top_before (suc e) k zero s l inhabited-k u h = absurd (omega arith)
top_before (suc e) [] (suc m) s l inhabited-k u h = absurd (omega arith)
top_before (suc e) (false ∷ k) (suc m) s l inhabited-k u h =
    rw (count_none e m (half true s) (under_none m s k u)) (omega (arith, top_before e k m (half false s) (omega arith) inhabited-k (under_half false m s k u) (omega arith)))
top_before (suc e) (true ∷ k) (suc m) s l inhabited-k u h =
    rw (length-take-le e k (omega arith)) (omega (arith, top_before e k m (half true s) (omega arith) inhabited-k (under_half true m s k u) (omega arith)))

-- a later key changes nothing before k
pub later_before : (e : ℕ) (k j : Key) (m : ℕ) (s : KeySet) → length k ≡ m → length j ≡ m → less j k ≡ false → prefixes_before (take e k) m (insert s j) ≡ prefixes_before (take e k) m s
unfolding prefixes_before less
later_before zero k j m s lk lj up = refl
later_before (suc e) [] j m s lk lj up = refl
later_before (suc e) (b ∷ k) j zero s lk lj up = absurd (omega arith)
later_before (suc e) (b ∷ k) [] (suc m) s lk lj up = absurd (omega arith)
later_before (suc e) (false ∷ k) (false ∷ j) (suc m) s lk lj up =
    ap (prefixes_before (take e k) m) (half_in false s j) ∙ later_before e k j m (half false s) (omega arith) (omega arith) up
later_before (suc e) (false ∷ k) (true ∷ j) (suc m) s lk lj up = ap (prefixes_before (take e k) m) (half_tf s j)
later_before (suc e) (true ∷ k) (false ∷ j) (suc m) s lk lj up = absurd (true≢false up)
later_before (suc e) (true ∷ k) (true ∷ j) (suc m) s lk lj up =
    ap₂ ◌+◌ (ap (prefix_count (length (take e k)) m) (half_tf s j))
    (ap (prefixes_before (take e k) m) (half_in true s j) ∙ later_before e k j m (half true s) (omega arith) (omega arith) up)

-- ---- order
pub less_irr : (k : Key) → less k k ≡ false
unfolding less
less_irr [] = refl
less_irr (false ∷ k) = less_irr k
less_irr (true ∷ k) = less_irr k

pub less_trans : (a b c : Key) → length a ≡ length b → length b ≡ length c → less b a ≡ false → less c b ≡ false → less c a ≡ false
unfolding less
less_trans a b [] h l p q = refl
less_trans [] b (z ∷ c) h l p q = refl
less_trans (x ∷ a) [] (z ∷ c) h l p q = absurd (omega arith)
less_trans (false ∷ a) (false ∷ b) (false ∷ c) h l p q = less_trans a b c (omega arith) (omega arith) p q
less_trans (false ∷ a) (y ∷ b) (true ∷ c) h l p q = refl
less_trans (false ∷ a) (true ∷ b) (false ∷ c) h l p q = absurd (true≢false q)
less_trans (true ∷ a) (false ∷ b) (z ∷ c) h l p q = absurd (true≢false p)
less_trans (true ∷ a) (true ∷ b) (false ∷ c) h l p q = absurd (true≢false q)
less_trans (true ∷ a) (true ∷ b) (true ∷ c) h l p q = less_trans a b c (omega arith) (omega arith) p q

-- ---- the first keys of a rising list
pub below_suc : (f : ℕ → Key) (i : ℕ) → set_below f (suc i) ≡ insert (set_below f i) (f i)
unfolding set_below insert set_of tabulate any_of
below_suc f i = fun_ext (λ j. any_of_append (same_key j) (tabulate f i) (f i ∷ []) ∙ ap (λ x. any_of (same_key j) (tabulate f i) || x) (or-false (same_key j (f i))))

pub or_cases : (a b : Bool) → (a || b) ≡ true → (a ≡ true) ⊎ (b ≡ true)
or_cases true b h = inl refl
or_cases false b h = inr h

pub below_zero : (f : ℕ → Key) (k : Key) → set_below f 0 k ≡ false
unfolding set_below set_of tabulate any_of
below_zero f k = refl

none_found : (p : Key) (m : ℕ) (f : ℕ → Key) → has_prefix p m (set_below f 0) ≡ false
none_found p m f = false_if (prefix_inhabited p m (set_below f 0)) (inhabited_none m (set_below f 0) (λ j l. below_zero f j))

not_leb : (a b : ℕ) → not (leb a b) ≡ leb (suc b) a
not_leb zero b = rw (leb-zero b, leb-suc-zero b)
not_leb (suc a) zero = rw (leb-suc-zero a, leb-suc-suc 0 a, leb-zero a)
not_leb (suc a) (suc b) = rw (leb-suc-suc a b, leb-suc-suc (suc b) a) (not_leb a b)

pub in_below : (f : ℕ → Key) (i j : ℕ) → i < j → set_below f j (f i) ≡ true
unfolding insert
in_below f i zero h = absurd (omega arith)
in_below f i (suc j) h =
    rw (below_suc f j)
    (elim (dec_le (suc i) j) [
      | yes l ↦ rw (in_below f i j l)
      | no l ↦ let q : i ≡ j = omega arith in rw (q, same_refl (f j), or-true)
    ])

-- all of them have m bits if the keys have
pub below_wide : (m : ℕ) (f : ℕ → Key) → ((i : ℕ) → length (f i) ≡ m) → (n : ℕ) (k : Key) → set_below f n k ≡ true → length k ≡ m
unfolding insert
below_wide m f w zero k e = absurd (false≢true (sym (below_zero f k) ∙ e))
below_wide m f w (suc n) k e =
    let ih : set_below f n k ≡ true → length k ≡ m = below_wide m f w n k in
    ⊎_elim ih (λ a. ap length (same_eq k (f n) a) ∙ w n) (or_cases (set_below f n k) (same_key k (f n)) (rw (below_suc f n) at e))

pub count_start : (m : ℕ) (f : ℕ → Key) (e : ℕ) → prefix_count e m (set_below f 0) ≡ 0
count_start m f e = count_none e m (set_below f 0) (inhabited_none m (set_below f 0) (λ j l. below_zero f j))

module _ (m n : ℕ) (f : ℕ → Key) (r : Rising m n f) where
  pub up_under : (i : ℕ) → i < n → Under m (set_below f (suc i)) (f i)
  up_under zero h j l e =
      ⊎_elim (λ a. absurd (false≢true (sym (below_zero f j) ∙ a))) (λ a. rw (same_eq j (f 0) a) (less_irr (f 0)))
      (or_cases (set_below f 0 j) (same_key j (f 0)) (unfold insert in (rw (below_suc f 0) at e)))
  up_under (suc i) h j l e =
      let ih : set_below f (suc i) j ≡ true → less (f i) j ≡ false = up_under i (omega arith) j l in
      ⊎_elim
      (λ a. less_trans j (f i) (f (suc i)) (l ∙ sym (r.wide i (omega arith))) (r.wide i (omega arith) ∙ sym (r.wide (suc i) (omega arith))) (ih a) (r.rise i h))
      (λ a. rw (same_eq j (f (suc i)) a) (less_irr (f (suc i))))
      (or_cases (set_below f (suc i) j) (same_key j (f (suc i))) (unfold insert in (rw (below_suc f (suc i)) at e)))

  -- which prefixes of key i are there before it
  pub found_before : (i e : ℕ) → i < n → e ≤ m → not (has_prefix (take e (f i)) m (set_below f i)) ≡ leb (first_new f i) e
  unfolding first_new
  found_before zero e h l = rw (none_found (take e (f 0)) m f, leb-zero e)
  found_before (suc i) e h l =
      rw (
        top_found e (f i) (f (suc i)) m (set_below f (suc i)) (r.wide i (omega arith)) (r.wide (suc i) (omega arith)) (in_below f i (suc i) (omega arith)) (up_under i (omega arith)) (r.rise i h) l,
        not_leb e (common_prefix (f i) (f (suc i))),
      )

  -- pass 1: key i gives one more record to each level from first_new f i on
  pub count_step : (i e : ℕ) → i < n → e ≤ m → prefix_count e m (set_below f (suc i)) ≡ prefix_count e m (set_below f i) + bit (leb (first_new f i) e)
  count_step i e h l = rw (below_suc f i, count_insert e (f i) m (set_below f i) (r.wide i (omega arith)) l, found_before i e h l)

  -- pass 2: the record of key i on level e is the last counted so far
  pub place : (i e : ℕ) → i < n → e ≤ m → suc (prefixes_before (take e (f i)) m (set_below f n)) ≡ prefix_count e m (set_below f (suc i))
  place i e h l =
      let go : (n ≤ n) → prefixes_before (take e (f i)) m (set_below f n) ≡ prefixes_before (take e (f i)) m (set_below f (suc i)) =
      le_ind (λ (j : ℕ). j ≤ n → prefixes_before (take e (f i)) m (set_below f j) ≡ prefixes_before (take e (f i)) m (set_below f (suc i))) (λ _. refl)
      (λ j q ih b.
      rw (below_suc f j)
      (later_before e (f i) (f j) m (set_below f j) (r.wide i (omega arith)) (r.wide j (omega arith))
      (up_under j b (f i) (r.wide i (omega arith)) (in_below f i (suc j) (omega arith))) ∙ ih (omega arith)))
      n h in
      rw (go (omega arith)) (top_before e (f i) m (set_below f (suc i)) (r.wide i (omega arith)) (in_below f i (suc i) (omega arith)) (up_under i h) l)
