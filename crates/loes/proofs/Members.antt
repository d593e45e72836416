-- The key at place i of the members in order: one of the set, and i are smaller.
use mathlib.Core.Path.{◌≡◌, refl, sym, ap, ◌∙◌}
use Prim.Native.Nat.{ℕ, zero, suc, ◌+◌, ◌-◌, ◌<◌}
use mathlib.Core.Bool.{Bool, true, false, cond}
use mathlib.Core.List.{[], ◌∷◌, map}
use native.Mathlib.Omega.{arith}
use native.Mathlib.Decide.{dec_le}
use lib.ListN.{length, get_or, length-append, length-map, get_or-append}
use lib.Seq.{get_or-append-add}
use Rattle.loes.specs.Bytes.{pack_bits, started}
use Rattle.loes.specs.Keys.{Key, KeySet, all_keys, those, members, smaller}
use Rattle.loes.specs.Prefixes.{half, prefixes_before}
use Rattle.loes.specs.Entry.{Entry, key_bytes, keys_of, count}
use Rattle.loes.proofs.Bytes.{length_packed}
use Rattle.loes.proofs.Lists.{get_d_map_in}
use Rattle.loes.proofs.Tree.{members_step, length_members, before_smaller}

pub record At (m : ℕ) (s : KeySet) (i : ℕ) : Type 0 where
  pub key : Key
  pub here : get_or (members m s) i [] ≡ key
  pub size : length key ≡ m
  pub inside : s key ≡ true
  pub order : prefixes_before key m s ≡ i

pub members_both : (m : ℕ) (s : KeySet) → length (members (suc m) s) ≡ length (members m (half false s)) + length (members m (half true s))
members_both m s = rw (members_step m s) (simp (length-append, length-map))

pub at_place : (m : ℕ) (s : KeySet) (i : ℕ) → i < length (members m s) → At m s i
unfolding prefixes_before half
at_place zero s i h = go (s []) refl i (unfold members all_keys those in h)
  where
    go : (b : Bool) → s [] ≡ b → (i : ℕ) → i < length {A = Key} (cond b ([] ∷ []) []) → At zero s i
    go false e i h = absurd (omega arith)
    go true e zero h = record { key = []; here = unfold members all_keys those in rw e; size = refl; inside = e; order = refl }
    go true e (suc i) h = absurd (omega arith)
at_place (suc m) s i h =
    let n : length (members (suc m) s) ≡ length (members m (half false s)) + length (members m (half true s)) = members_both m s in
    elim (dec_le (suc i) (length (members m (half false s)))) [
      | yes l ↦ low (at_place m (half false s) i l) l
      | no l ↦
          let j : i ≡ length (members m (half false s)) + (i - length (members m (half false s))) = omega arith in
          high (i - length (members m (half false s))) j (at_place m (half true s) (i - length (members m (half false s))) (omega (arith, n, h))) (omega (arith, n, h))
    ]
  where
    low : At m (half false s) i → i < length (members m (half false s)) → At (suc m) s i
    low r l =
        let q : i < length (map (λ (k : Key). false ∷ k) (members m (half false s))) = simp length-map l in
        record {
          key = false ∷ r.key;
          here = rw (members_step, get_or-append, get_d_map_in (λ (k : Key). false ∷ k) (members m (half false s)) i [], r.here);
          size = ap suc r.size;
          inside = unfold half in r.inside;
          order = unfold prefixes_before in r.order;
        }

    high : (j : ℕ) → i ≡ length (members m (half false s)) + j → At m (half true s) j → j < length (members m (half true s)) → At (suc m) s i
    high j e r l =
        let c : i ≡ length (map (λ (k : Key). false ∷ k) (members m (half false s))) + j = simp length-map e in
        record {
          key = true ∷ r.key;
          here = rw (members_step, c, get_or-append-add, get_d_map_in (λ (k : Key). true ∷ k) (members m (half true s)) j [], r.here);
          size = ap suc r.size;
          inside = unfold half in r.inside;
          order = unfold prefixes_before in rw (r.size, r.order) (ap (λ x. x + j) (sym (length_members m (half false s))) ∙ sym e);
        }

pub smaller_at : (e : Entry) (i : ℕ) → i < count e → smaller (get_or (keys_of e) i []) (keys_of e) ≡ i
unfolding count keys_of
smaller_at e i h =
    let r = at_place e.width e.set i h in
    rw r.here (before_smaller r.key e.width e.set r.size ∙ r.order)

pub inside_at : (e : Entry) (i : ℕ) → i < count e → (length (get_or (keys_of e) i []) ≡ e.width) × (e.set (get_or (keys_of e) i []) ≡ true)
unfolding count keys_of
inside_at e i h =
    let r = at_place e.width e.set i h in
    (rw r.here r.size, rw r.here r.inside)

-- a member takes t bytes
pub key_bytes_lem : (e : Entry) (i : ℕ) → i < count e → length (pack_bits (get_or (keys_of e) i [])) ≡ key_bytes e.width
unfolding key_bytes
key_bytes_lem e i h = length_packed (get_or (keys_of e) i []) ∙ ap (started 8) (inside_at e i h).0
