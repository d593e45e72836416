-- Paths that lead: their keys, their records, and the path of a member.
use mathlib.Core.Path.{◌≡◌, refl, sym, ap, ap₂, ◌∙◌}
use Prim.Native.Nat.{ℕ, zero, suc, ◌+◌, ◌*◌, ◌/◌, ◌≤◌, ◌<◌}
use mathlib.Core.Bool.{Bool, true, false, false≢true}
use mathlib.Core.List.{List, [], ◌∷◌, ◌++◌}
use native.Mathlib.Omega.{arith}
use native.Mathlib.Decide.{le_ind}
use lib.ListN.{length, take, drop, get_or, take-append-drop}
use lib.Seq.{take-suc, length-take-le}
use Rattle.loes.specs.Bytes.{bit, odd, tabulate}
use Rattle.loes.specs.Keys.{Key, KeySet}
use Rattle.loes.specs.Edges.{rank, edges, edge_offsets}
use Rattle.loes.specs.Prefixes.{inhabited, record_index}
use Rattle.loes.specs.Cursor.{key_of}
use Rattle.loes.proofs.Bits.{bit_odd, odd_bit}
use Rattle.loes.proofs.Bytes.{length_tabulate}
use Rattle.loes.proofs.Tree.{has_prefix, bit_le, prefix_of}
use Rattle.loes.proofs.Navigation.{nav_bit, nav_rank, edges_empty, record_nil}

-- the record that a path comes to on level d
unfoldable pub record_at : List Bool → (ℕ → ℕ) → ℕ → ℕ
record_at e g zero = 0
record_at e g (suc d) = rank e (suc (g d))

-- the first d offsets of a path lead, each set, from one record to the next
abbrev pub Leading : List Bool → ℕ → (ℕ → ℕ) → Type 0
Leading e zero g = Unit {0}
Leading e (suc d) g = Leading e d g × ((g d / 2 ≡ record_at e g d) × (get_or e (g d) false ≡ true))

-- ---- The key of a path
pub key_length : (g : ℕ → ℕ) (d : ℕ) → length (key_of g d) ≡ d
unfolding key_of
key_length g d = length_tabulate (λ (i : ℕ). odd (g i)) d

pub key_suc : (g : ℕ → ℕ) (d : ℕ) → key_of g (suc d) ≡ key_of g d ++ odd (g d) ∷ []
unfolding key_of tabulate
key_suc g d = refl

pub split : (g : ℕ → ℕ) (d r : ℕ) → g d / 2 ≡ r → g d ≡ 2 * r + bit (odd (g d))
split g d r h = rw (bit_odd (g d)) (omega (arith, h))

-- ---- the offsets of a path's key are the path
pub comes : List Bool → ℕ → Key → ℕ
comes e r [] = r
comes e r (b ∷ k) = comes e (rank e (suc (2 * r + bit b))) k

offsets_snoc : (e : List Bool) (r : ℕ) (p : Key) (b : Bool) → edge_offsets e r (p ++ b ∷ []) ≡ edge_offsets e r p ++ (2 * comes e r p + bit b) ∷ []
unfolding edge_offsets comes
offsets_snoc e r [] b = refl
offsets_snoc e r (a ∷ p) b = ap (λ x. (2 * r + bit a) ∷ x) (offsets_snoc e (rank e (suc (2 * r + bit a))) p b)

comes_snoc : (e : List Bool) (r : ℕ) (p : Key) (b : Bool) → comes e r (p ++ b ∷ []) ≡ rank e (suc (2 * comes e r p + bit b))
unfolding comes
comes_snoc e r [] b = refl
comes_snoc e r (a ∷ p) b = comes_snoc e (rank e (suc (2 * r + bit a))) p b

pub offsets_are : (e : List Bool) (g : ℕ → ℕ) (d : ℕ) → Leading e d g → (edge_offsets e 0 (key_of g d) ≡ tabulate g d) × (comes e 0 (key_of g d) ≡ record_at e g d)
unfolding record_at
offsets_are e g zero h = (unfold key_of tabulate edge_offsets in refl, unfold key_of tabulate comes in refl)
offsets_are e g (suc d) h =
    let i = offsets_are e g d h.0 in
    let o : 2 * comes e 0 (key_of g d) + bit (odd (g d)) ≡ g d = sym (split g d (comes e 0 (key_of g d)) (h.1.0 ∙ sym i.1)) in (
      rw (key_suc g d, offsets_snoc e 0 (key_of g d) (odd (g d)), o, i.0) (unfold tabulate in refl),
      rw (key_suc g d, comes_snoc e 0 (key_of g d) (odd (g d)), o),
    )

-- ---- a path that leads depends on its first offsets only
pub leading_ext : (e : List Bool) (f g : ℕ → ℕ) (d : ℕ) → ((i : ℕ) → i < d → f i ≡ g i) → Leading e d f → Leading e d g
leading_ext e f g zero q h = tt
leading_ext e f g (suc zero) q h = (tt, (rw (← (q 0 (omega arith))) (unfold record_at in h.1.0), rw (← (q 0 (omega arith))) h.1.1))
leading_ext e f g (suc (suc d)) q h = (
  leading_ext e f g (suc d) (λ i l. q i (omega arith)) h.0,
  (unfold record_at in rw (← (q d (omega arith)), ← (q (suc d) (omega arith))) h.1.0, rw (← (q (suc d) (omega arith))) h.1.1),
)

-- ---- the path of a member leads
unfoldable pub of_key : ℕ → KeySet → Key → ℕ → ℕ
of_key m s k d = 2 * record_index (take d k) m s + bit (get_or k d false)

pub key_of_lem : (m : ℕ) (s : KeySet) (k : Key) (d : ℕ) → d ≤ length k → key_of (of_key m s k) d ≡ take d k
unfolding of_key key_of tabulate
key_of_lem m s k zero l = refl
key_of_lem m s k (suc d) l =
    key_suc (of_key m s k) d ∙ ap₂ (λ x y. x ++ y ∷ []) (key_of_lem m s k d (omega arith)) (odd_bit (get_or k d false) (2 * record_index (take d k) m s + bit (get_or k d false)) (omega (arith, bit_le (get_or k d false)))) ∙ sym (take-suc k d false l)

module _ (m : ℕ) (s : KeySet) (k : Key) (size : length k ≡ m) (inside : s k ≡ true) where
  some_prefix : (d : ℕ) → d ≤ m → has_prefix (take d k) m s ≡ true
  some_prefix d l =
      let z : take d k ++ drop d k ≡ k = take-append-drop d k in
      prefix_of (take d k) (drop d k) m s (ap length z ∙ size) (ap s z ∙ inside)

  pub member_leads : (d : ℕ) → d ≤ m → Leading (edges m s) d (of_key m s k) × (record_at (edges m s) (of_key m s k) d ≡ record_index (take d k) m s)
  unfolding record_at of_key
  member_leads zero l = (tt, sym (record_nil m s))
  member_leads (suc d) l =
      let i = member_leads d (omega arith) in
      let b : Bool = get_or k d false in
      let n : take (suc d) k ≡ take d k ++ b ∷ [] = take-suc k d false (omega arith) in
      let f : has_prefix (take d k ++ b ∷ []) m s ≡ true = rw n at (some_prefix (suc d) l) in
      let pl : length (take d k) < m = omega (arith, length-take-le d k (omega arith)) in
      let h : (2 * record_index (take d k) m s + bit b) / 2 ≡ record_index (take d k) m s = omega (arith, bit_le b) in
      ((i.0, (h ∙ sym i.1, nav_bit (take d k) b m s pl (some_prefix d (omega arith)) ∙ f)), nav_rank (take d k) b m s pl f ∙ ap (λ x. record_index x m s) (sym n))

-- a set with a path is not empty
pub lead_some : (m : ℕ) (s : KeySet) (g : ℕ → ℕ) → 0 < m → Leading (edges m s) 1 g → inhabited m s ≡ true
lead_some m s g l h = go (inhabited m s) refl
  where
    go : (c : Bool) → inhabited m s ≡ c → c ≡ true
    go true e = refl
    go false e = absurd (false≢true (ap (λ x. get_or x (g 0) false) (sym (edges_empty m s e)) ∙ h.1.1))

pub leading_less : (e : List Bool) (g : ℕ → ℕ) (m d : ℕ) → d ≤ m → Leading e m g → Leading e d g
leading_less e g m d l = le_ind (λ (n : ℕ). Leading e n g → Leading e d g) (λ h. h) (λ n j ih h. ih h.0) m l
