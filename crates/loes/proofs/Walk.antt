-- From before, with room for a key each time, the steps go to the members in order, each once, and then to after.
use mathlib.Core.Path.{◌≡◌, refl, sym, ap, ap₂, ◌∙◌}
use Prim.Native.Nat.{ℕ, suc, ◌+◌, ◌≤◌, ◌<◌}
use mathlib.Core.Bool.{true}
use mathlib.Core.List.{List, [], ◌∷◌, ◌++◌}
use native.Mathlib.Omega.{arith}
use lib.ListN.{length, drop, get_or, length-drop}
use lib.Seq.{drop-drop, get_or-drop}
use Rattle.loes.specs.Limits.{max_width}
use Rattle.loes.specs.Bytes.{Bytes}
use Rattle.loes.specs.Keys.{Key}
use Rattle.loes.specs.Entry.{Entry, key_bytes, keys_of, count}
use Rattle.loes.specs.Read.{opened, read}
use Rattle.loes.specs.Cursor.{Cursor, before, Advanced, is_cursor_of, next_index, goes_to, goes_to_after, advance, advance_reading, advance_call, no_offsets}
use Rattle.loes.proofs.Reading.{reads_exactly}
use Rattle.loes.proofs.Cursors.{cursor_at, right_at, right_none, next_at, advance_on, advance_out}
use Rattle.loes.specs.Walk.{walk, visits, Roomy}

gone : (e : Entry) (p : Cursor) (out : Bytes) (i : ℕ) (k : Key) → is_cursor_of e p ≡ true → next_index e p ≡ i → i < count e → get_or (keys_of e) i [] ≡ k → key_bytes e.width ≤ length out
    → (advance e p out ≡ goes_to e k out) × ((goes_to e k out).cursor ≡ cursor_at e i)
unfolding goes_to cursor_at
gone e p out i k r n lt key room = (advance_on e p out i r n lt room ∙ ap (λ x. goes_to e x out) key, ap (λ x. (goes_to e x out).cursor) (sym key))

pub went : (e : Entry) (p : Cursor) (out : Bytes) → is_cursor_of e p ≡ true → count e ≤ next_index e p → advance e p out ≡ goes_to_after out
unfolding goes_to_after
went e p out r n = advance_out e p out r n

-- one key fewer
rest : (l : List Key) (i : ℕ) (k : Key) (ks : List Key) → drop i l ≡ k ∷ ks → (i < length l) × (get_or l i [] ≡ k) × (drop (suc i) l ≡ ks)
rest l i k ks d =
    let z : i + 0 ≡ i = omega arith in
    let y : i + 1 ≡ suc i = omega arith in (
      omega (arith, length-drop i l, ap length d),
      ap (λ x. get_or l x []) (sym z) ∙ sym (get_or-drop i l 0 []) ∙ ap (λ x. get_or x 0 []) d,
      ap (λ x. drop x l) (sym y) ∙ sym (drop-drop 1 i l) ∙ ap (drop 1) d,
    )

walk_from : (e : Entry) → e.width ≤ max_width → (step : Cursor → Bytes → Advanced) → ((c : Cursor) (out : Bytes) → step c out ≡ advance e c out)
    → (ks : List Key) (outs : List Bytes) (last : Bytes) (p : Cursor) (i : ℕ) → is_cursor_of e p ≡ true → next_index e p ≡ i → drop i (keys_of e) ≡ ks → length outs ≡ length ks
    → Roomy (key_bytes e.width) outs → walk step p (outs ++ last ∷ []) ≡ visits e ks outs ++ goes_to_after last ∷ []
unfolding walk visits count
walk_from e narrow step s [] (x ∷ outs) last p i r n d l room = absurd (omega arith)
walk_from e narrow step s (k ∷ ks) [] last p i r n d l room = absurd (omega arith)
walk_from e narrow step s [] [] last p i r n d l room = ap (λ a. a ∷ []) (s p last ∙ went e p last r (omega (arith, length-drop i (keys_of e), ap length d, n)))
walk_from e narrow step s (k ∷ ks) (out ∷ outs) last p i r n d l room =
    let t = rest (keys_of e) i k ks d in
    let g = gone e p out i k r n t.0 t.1 room.0 in
    let q : step p out ≡ goes_to e k out = s p out ∙ g.0 in
    ap₂ ◌∷◌ q
    (ap (λ a. walk step a.cursor (outs ++ last ∷ [])) q ∙ ap (λ c. walk step c (outs ++ last ∷ [])) g.1
    ∙ walk_from e narrow step s ks outs last (cursor_at e i) (suc i) (right_at e i narrow t.0) (next_at e i t.0) t.2 (omega arith) room.1)

-- the whole walk over an encoding's bytes
pub whole_walk : (l : Bytes) (e : Entry) → read l ≡ opened e → (outs : List Bytes) (last : Bytes) → length outs ≡ count e → Roomy (key_bytes e.width) outs
    → walk (advance_call l) (no_offsets before) (outs ++ last ∷ []) ≡ visits e (keys_of e) outs ++ goes_to_after last ∷ []
unfolding count
whole_walk l e h outs last n room =
    walk_from e ((reads_exactly l e).0 h).0.narrow (advance_call l) (λ c out. unfold advance_call advance_reading in rw h) (keys_of e) outs last (no_offsets before) 0 (right_none e).0 (unfold next_index in refl) refl n room
