-- The three readings of a key's position among the members, with refusal 8 before them.
use mathlib.Core.Path.{◌≡◌, refl, sym, ap, ◌∙◌}
use Prim.Native.Nat.{ℕ, ◌*◌, ◌≤◌, ◌<◌}
use mathlib.Core.Bool.{Bool, true, false, ◌||◌, not, cond}
use mathlib.Core.List.{List, [], ◌∷◌}
use native.Mathlib.Omega.{arith}
use lib.ListN.{length, get_or}
use lib.Dec.{eqb}
use Rattle.loes.specs.Bytes.{Bytes, started, bits_in, pack_bits, front}
use Rattle.loes.specs.Keys.{smaller}
use Rattle.loes.specs.Cursor.{path_of, key_of_path}
use Rattle.loes.specs.Entry.{Entry, Valid, key_bytes, keys_of, count}
use Rattle.loes.specs.Refusals.{out_of_range, short_buffer, test, first_of}
use Rattle.loes.specs.Model.{Answer, refused, wrote_key, index_is, is_present, is_absent, is_none, refusal, refused_or, tested, answers, key_in, unused_set, key_test, below_test, writes_key, key_at, contains, index_of, lower_bound, saying}
use Rattle.loes.proofs.Tests.{lt_yes, lt_no, neither, not_false, yes_eq}
use Rattle.std.specs.Prelude.{Ok, Err}
use Rattle.std.specs.Bool.{then_some}
use Rattle.loes.specs.Numbers.{number_of}
use Rattle.loes.specs.declared.refusal.Refusal.{Refusal}
use Rattle.query.specs.declared.Position.{Position}
use Rattle.query.specs.Descent.{no_key, Sought}
use Rattle.query.specs.Answers.{membership_outcome, lookup_outcome, bound_outcome}
use Rattle.query.proofs.Ascent.{key_back}

-- an accepted key has all its bits
pub key_room : (x : Bytes) (w : ℕ) (bad : Bool) → bad ≡ (not (eqb (length x) (key_bytes w)) || unused_set w x) → bad ≡ false → w ≤ 8 * length x
unfolding key_bytes started
key_room x w bad b f =
    let z = (neither (not (eqb (length x) (key_bytes w))) (unused_set w x) (sym b ∙ f)).0 in
    omega (arith, yes_eq (length x) (key_bytes w) (not_false _ z))

module _ (e : Entry) (x : Bytes) where
  refused_key : (k : Refusal) → Sought e x (Err k) → (a : Answer) → saying (refused (number_of k)) ≡ (answers (key_test e.width x ∷ []) a).outcome
  unfolding answers tested refused_or refusal first_of key_test test
  refused_key k (t, eight) a = rw (eight, t)

  answered : no_key e.width x ≡ false → (a : Answer) → saying a ≡ (answers (key_test e.width x ∷ []) a).outcome
  unfolding answers tested refused_or first_of key_test test
  answered f a = rw f

  pub contains_refused : (k : Refusal) → Sought e x (Err k) → membership_outcome (Err k) ≡ (contains e x).outcome
  unfolding contains
  contains_refused k s = refused_key k s _

  pub index_refused : (k : Refusal) → Sought e x (Err k) → lookup_outcome (Err k) ≡ (index_of e x).outcome
  unfolding index_of
  index_refused k s = refused_key k s _

  pub bound_refused : (k : Refusal) → Sought e x (Err k) → bound_outcome (Err k) ≡ (lower_bound e x).outcome
  unfolding lower_bound
  bound_refused k s = refused_key k s _

  module _ (p : Position) (s : Sought e x (Ok p)) where
    pub contains_is : saying (cond p.found is_present is_absent) ≡ (contains e x).outcome
    unfolding contains key_in
    contains_is = rw (← (answered s.0 (cond (e.set (bits_in x e.width)) is_present is_absent)), s.1.inside)

    pub contains_told : membership_outcome (Ok p.found) ≡ (contains e x).outcome
    contains_told = membership_is p.found ∙ contains_is
      where
        membership_is : (b : Bool) → membership_outcome (Ok b) ≡ saying (cond b is_present is_absent)
        membership_is true = refl
        membership_is false = refl

    pub index_is_lem : saying (cond p.found (index_is p.below.0) is_absent) ≡ (index_of e x).outcome
    unfolding index_of key_in
    index_is_lem = rw (← (answered s.0 (cond (e.set (bits_in x e.width)) (index_is (smaller (bits_in x e.width) (keys_of e))) is_absent)), s.1.inside, s.1.below)

    pub index_told : lookup_outcome (Ok (then_some p.found p.below)) ≡ (index_of e x).outcome
    index_told = lookup_is p.found ∙ index_is_lem
      where
        lookup_is : (b : Bool) → lookup_outcome (Ok (then_some b p.below)) ≡ saying (cond b (index_is p.below.0) is_absent)
        lookup_is true = refl
        lookup_is false = refl

    pub bound_is : saying (cond (eqb p.below.0 (count e)) is_none (index_is p.below.0)) ≡ (lower_bound e x).outcome
    unfolding lower_bound key_in
    bound_is = rw (← (answered s.0 (cond (eqb (smaller (bits_in x e.width) (keys_of e)) (count e)) is_none (index_is (smaller (bits_in x e.width) (keys_of e))))), s.1.below)

    pub bound_told : (n : ℕ) → n ≡ count e → bound_outcome (Ok (then_some (not (eqb p.below.0 n)) p.below)) ≡ (lower_bound e x).outcome
    bound_told n q = bound_by (eqb p.below.0 n) ∙ ap (λ k. saying (cond (eqb p.below.0 k) is_none (index_is p.below.0))) q ∙ bound_is
      where
        bound_by : (b : Bool) → bound_outcome (Ok (then_some (not b) p.below)) ≡ saying (cond b is_none (index_is p.below.0))
        bound_by true = refl
        bound_by false = refl

-- ---- The key at an index: 9, then 14, then the key
module _ (e : Entry) (i : ℕ) (out : Bytes) where
  pub index_past : count e ≤ i → record { answer = refused out_of_range; buffers = out ∷ [] } ≡ (key_at e i out).outcome
  unfolding key_at writes_key tested refused_or refusal first_of below_test test
  index_past h = rw (lt_no i (count e) h)

  module _ (lt : i < count e) where
    pub key_short : length out < key_bytes e.width → record { answer = refused short_buffer; buffers = out ∷ [] } ≡ (key_at e i out).outcome
    unfolding key_at writes_key tested refused_or refusal first_of below_test test
    key_short h = rw (lt_yes i (count e) lt, lt_yes (length out) (key_bytes e.width) h)

    pub key_written : Valid e → (m n : ℕ) (os os₀ : List ℕ) (out' : Bytes) → m ≡ e.width → os ≡ front (path_of e (get_or (keys_of e) i [])) os₀
        → n ≡ key_bytes m → out' ≡ front (pack_bits (key_of_path os m)) out → key_bytes m ≤ length out
        → record { answer = wrote_key n; buffers = out' ∷ [] } ≡ (key_at e i out).outcome
    unfolding key_at writes_key tested refused_or first_of below_test test
    key_written v m n os os₀ out' em eo en ew h =
        let k : key_of_path os m ≡ get_or (keys_of e) i [] = rw (em, eo) (key_back e v i lt os₀) in
        rw (ew, k, en, em, lt_yes i (count e) lt, lt_no (length out) (key_bytes e.width) (rw (← em) h))
