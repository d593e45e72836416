-- Only the keys of width m count.
use mathlib.Core.Path.{◌≡◌, refl, ap, fun_ext}
use Prim.Native.Nat.{ℕ, zero, suc}
use mathlib.Core.Bool.{true, false}
use mathlib.Core.List.{List, [], ◌∷◌}
use lib.ListN.{length}
use Rattle.loes.specs.Keys.{Key, KeySet, all_keys, those, members, any_of, is_prefix}
use Rattle.loes.specs.Edges.{record_of, found, level, edges, edges_before}
use Rattle.loes.specs.Prefixes.{half}
use Rattle.loes.proofs.Tree.{members_step}

-- two sets with the same keys of width m
abbrev pub Agree : ℕ → KeySet → KeySet → Type 0
Agree m s t = (k : Key) → length k ≡ m → s k ≡ t k

pub members_ext : (m : ℕ) (s t : KeySet) → Agree m s t → members m s ≡ members m t
members_ext zero s t h = unfold members all_keys those in rw (h [] refl)
members_ext (suc m) s t h =
    rw (
      members_step m s,
      members_step m t,
      members_ext m (half false s) (half false t) (λ k l. unfold half in h (false ∷ k) (ap suc l)),
      members_ext m (half true s) (half true t) (λ k l. unfold half in h (true ∷ k) (ap suc l)),
    )

pub found_ext : (m : ℕ) (s t : KeySet) → Agree m s t → found m s ≡ found m t
unfolding found
found_ext m s t h = ap (λ (l : List Key). λ (p : Key). any_of (is_prefix p) l) (members_ext m s t h)

record_ext : (m : ℕ) (s t : KeySet) → Agree m s t → record_of m s ≡ record_of m t
unfolding record_of
record_ext m s t h = fun_ext λ p. rw (found_ext m s t h)

pub level_ext : (d m : ℕ) (s t : KeySet) → Agree m s t → level d m s ≡ level d m t
unfolding level
level_ext d m s t h = rw (found_ext m s t h, record_ext m s t h)

pub edges_before_ext : (d m : ℕ) (s t : KeySet) → Agree m s t → edges_before d m s ≡ edges_before d m t
unfolding edges_before
edges_before_ext zero m s t h = refl
edges_before_ext (suc d) m s t h = rw (edges_before_ext d m s t h, level_ext d m s t h)

pub edges_ext : (m : ℕ) (s t : KeySet) → Agree m s t → edges m s ≡ edges m t
unfolding edges
edges_ext m s t h = edges_before_ext m m s t h
