-- The check of a path level by level, its turn, and the path moved on.
use mathlib.Core.Path.{◌≡◌, refl, sym, ap, ap₂, ◌∙◌}
use Prim.Native.Nat.{ℕ, suc, ◌+◌, ◌-◌, ◌*◌, ◌/◌, ◌%◌, ◌^◌, ◌≤◌, ◌<◌}
use mathlib.Core.Bool.{Bool, true, false, ◌&&◌, not, false≢true, and-false}
use mathlib.Core.List.{List}
use native.Mathlib.Omega.{arith}
use native.Mathlib.Decide.{dec_le}
use lib.ListN.{length, take, drop, get_or, set, length-set, get_or-eq_default}
use lib.Seq.{get_or-drop, get_or-set_same, get_or-set_other}
use native.Mathlib.Nat.{pow-suc, div-div-eq-div-mul}
use lib.Dec.{eqb}
use borrow.Author.Tests.{eq-eqb, ne_eqb}
use Rattle.loes.specs.Bytes.{Bytes, bit, odd, bit_at, same_numbers}
use Rattle.loes.specs.Keys.{Key, any_of}
use Rattle.loes.specs.Edges.{edges, rank}
use Rattle.loes.specs.Read.{entry_in}
use Rattle.loes.specs.Entry.{Entry, keys_of, edges_of, edge_count, Valid}
use Rattle.loes.specs.Cursor.{at, all_zero, offsets_right, path_of, has_path}
use Rattle.loes.proofs.Bits.{bit_odd}
use Rattle.loes.proofs.Tree.{bit_le}
use Rattle.loes.proofs.Navigation.{length_edges_before}
use Rattle.encoding.specs.declared.Encoding.{Encoding}
use Rattle.encoding.specs.Opened.{Opens}
use Rattle.encoding.proofs.Opened.{opens_edge}
use Rattle.loes.proofs.Tests.{lt_no, yes_eq, both}
use Rattle.loes.proofs.Lists.{rank_set}
use Rattle.query.proofs.BitLists.{up, set_below}
use Rattle.query.proofs.Paths.{record_at, Leading, leading_less}
use Rattle.cursor.specs.Moves.{leads_on, record_code, turns, first_edge, behind, moved_on, Moved, Movable}
use Rattle.cursor.proofs.Right.{lead_right, right_leads}
use Rattle.cursor.proofs.Moves.{moved_above}

pub was_false : (x : Bool) → not x ≡ true → x ≡ false
was_false true h = absurd (false≢true h)
was_false false h = refl

-- ---- leads_on
pub leads_other : (e : List Bool) (r o : ℕ) → (o / 2 ≡ r → ⊥) → false ≡ leads_on e r o
unfolding leads_on
leads_other e r o h = rw (ne_eqb (o / 2) r h)

pub leads_past : (e : List Bool) (r o : ℕ) → length e ≤ o → false ≡ leads_on e r o
unfolding leads_on
leads_past e r o h = rw (get_or-eq_default e false {n = o} h) (sym (and-false (eqb (o / 2) r)))

pub leads_bit : (e : List Bool) (r o : ℕ) (x : Bool) → o / 2 ≡ r → x ≡ get_or e o false → x ≡ leads_on e r o
unfolding leads_on
leads_bit e r o x h q = rw (eq-eqb (o / 2) r h) q

leads_yes : (e : List Bool) (r o : ℕ) → leads_on e r o ≡ true → (o / 2 ≡ r) × (get_or e o false ≡ true)
unfolding leads_on
leads_yes e r o h = let z = both (eqb (o / 2) r) (get_or e o false) h in (yes_eq (o / 2) r z.0, z.1)

-- ---- record_at: a record's two bits in its byte
code_is : (y : Bytes) (r : ℕ) → get_or y (r / 4) 0 / 2 ^ (6 - 2 * (r % 4)) % 4 ≡ 2 * bit (bit_at y (2 * r)) + bit (bit_at y (2 * r + 1))
unfolding bit_at
code_is y r =
    let x : ℕ = get_or y (r / 4) 0 in
    let k : ℕ = 6 - 2 * (r % 4) in
    let a : 2 * r / 8 ≡ r / 4 = omega arith in
    let b : (2 * r + 1) / 8 ≡ r / 4 = omega arith in
    let c : 7 - 2 * r % 8 ≡ suc k = omega arith in
    let d : 7 - (2 * r + 1) % 8 ≡ k = omega arith in
    let h : x / 2 ^ suc k ≡ x / 2 ^ k / 2 = ap (λ n. x / n) (pow-suc 2 k) ∙ sym (div-div-eq-div-mul x (2 ^ k) 2) in
    rw (a, b, c, d, bit_odd (x / 2 ^ suc k), bit_odd (x / 2 ^ k), h) (omega arith)

-- both are edges, if the first is
record_whole : (e : Entry) (r : ℕ) → 2 * r < edge_count e → 2 * r + 1 < edge_count e
unfolding edge_count edges_of edges
record_whole e r h = omega (arith, length_edges_before e.width e.width e.set (omega arith))

pub code_at : (l : Bytes) (e : Encoding) (r : ℕ) → Opens l e → 2 * r < e.bits → get_or l (e.edges + r / 4) 0 / 2 ^ (6 - 2 * (r % 4)) % 4 ≡ record_code (edges_of (entry_in l)) r
unfolding record_code
code_at l e r o h =
    let y : Bytes = drop e.edges l in
    let g : 2 * r + 1 < e.bits = omega (arith, o.bits, record_whole (entry_in l) r (omega (arith, h, o.bits))) in
    ap (λ x. x / 2 ^ (6 - 2 * (r % 4)) % 4) (sym (get_or-drop e.edges l (r / 4) 0)) ∙ code_is y r
    ∙ ap₂ (λ p q. 2 * bit p + bit q) (opens_edge l e o (2 * r) h) (opens_edge l e o (2 * r + 1) g)

-- ---- turns_on
pub turn_code : (e : List Bool) (o : ℕ) → get_or e o false ≡ true → eqb (record_code e (o / 2) + 4 * (o % 2)) 3 ≡ turns e o
unfolding record_code turns
turn_code e o h = go (odd o) refl
  where
    even : 2 * (o / 2) ≡ o → (c : Bool) → get_or e (o + 1) false ≡ c → eqb (2 * bit (get_or e (2 * (o / 2)) false) + bit (get_or e (2 * (o / 2) + 1) false) + 4 * 0) 3 ≡ c
    even z true g = rw (z, h, g)
    even z false g = rw (z, h, g)

    go : (b : Bool) → odd o ≡ b → eqb (2 * bit (get_or e (2 * (o / 2)) false) + bit (get_or e (2 * (o / 2) + 1) false) + 4 * (o % 2)) 3 ≡ (not b && get_or e (o + 1) false)
    go true q =
        let y : o % 2 ≡ 1 = sym (bit_odd o) ∙ ap bit q in
        ne_eqb (2 * bit (get_or e (2 * (o / 2)) false) + bit (get_or e (2 * (o / 2) + 1) false) + 4 * (o % 2)) 3 (λ z. omega (arith, y, z))
    go false q =
        let y : o % 2 ≡ 0 = sym (bit_odd o) ∙ ap bit q in
        rw y (even (omega (arith, y)) (get_or e (o + 1) false) refl)

-- ---- first_edge
pub first_code : (e : List Bool) (r : ℕ) → 2 * r + (1 - record_code e r / 2) ≡ first_edge e r
unfolding record_code first_edge
first_code e r = go (get_or e (2 * r) false)
  where
    go : (c : Bool) → 2 * r + (1 - (2 * bit c + bit (get_or e (2 * r + 1) false)) / 2) ≡ 2 * r + bit (not c)
    go true = omega (arith, bit_le (get_or e (2 * r + 1) false))
    go false = omega (arith, bit_le (get_or e (2 * r + 1) false))

pub code_le : (e : List Bool) (r : ℕ) → record_code e r ≤ 3
unfolding record_code
code_le e r = omega (arith, bit_le (get_or e (2 * r) false), bit_le (get_or e (2 * r + 1) false))

-- ---- is_path: the first d offsets lead, to record r
pub record PathChecked (e : List Bool) (os : List ℕ) (r d : ℕ) : Type 0 where
  pub on : r ≡ record_at e (λ (i : ℕ). get_or os i 0) d
  pub leads : Leading e d (λ (i : ℕ). get_or os i 0)

pub check_first : (e : List Bool) (os : List ℕ) → PathChecked e os 0 0
check_first e os = record { on = unfold record_at in refl; leads = tt }

pub check_below : (e : List Bool) (r o : ℕ) → leads_on e r o ≡ true → o < length e
check_below e r o q = set_below e o (leads_yes e r o q).1

pub check_next : (e : List Bool) (os : List ℕ) (r d r' : ℕ) → PathChecked e os r d → leads_on e r (get_or os d 0) ≡ true → r' ≡ rank e (get_or os d 0) + 1 → PathChecked e os r' (d + 1)
unfolding record_at
check_next e os r d r' c q z =
    let y = leads_yes e r (get_or os d 0) q in
    let s : d + 1 ≡ suc d = omega arith in
    record {
      on = rw s (z ∙ sym (up (rank e (get_or os d 0))) ∙ sym (rank_set e (get_or os d 0) y.1));
      leads = rw s (c.leads, (y.0 ∙ c.on, y.1));
    }

module _ (e : Entry) (os : List ℕ) (long : e.width ≤ length os) (r d : ℕ) (c : PathChecked (edges_of e) os r d) where
  pub check_fail : d < e.width → leads_on (edges_of e) r (get_or os d 0) ≡ false → false ≡ has_path e os
  unfolding leads_on has_path
  check_fail dm q = go (any_of (λ (k : Key). same_numbers (path_of e k) (take e.width os)) (keys_of e)) refl
    where
      go : (x : Bool) → any_of (λ (k : Key). same_numbers (path_of e k) (take e.width os)) (keys_of e) ≡ x → false ≡ x
      go false z = refl
      go true z =
          let w = (leading_less (edges_of e) (λ (i : ℕ). get_or os i 0) e.width (suc d) dm (right_leads e os long z)).1 in
          absurd (false≢true (sym q ∙ rw (eq-eqb (get_or os d 0 / 2) r (w.0 ∙ sym c.on)) w.1))

  pub check_all : Valid e → d ≡ e.width → true ≡ has_path e os
  unfolding has_path
  check_all v z = sym (lead_right e os v.positive long (rw z at c.leads))

-- ---- is_cursor
pub cursor_right : (e : Entry) (os : List ℕ) (m : ℕ) (z : Bool) → m ≡ e.width → true ≡ has_path e os → z ≡ all_zero (drop m os) → z ≡ offsets_right e (record { state = at; offsets = os })
unfolding offsets_right has_path
cursor_right e os m z em h q = rw (← h) (q ∙ ap (λ x. all_zero (drop x os)) em)

pub cursor_wrong : (e : Entry) (os : List ℕ) → false ≡ has_path e os → false ≡ offsets_right e (record { state = at; offsets = os })
unfolding offsets_right has_path
cursor_wrong e os h = rw (← h)

-- ---- next_offset
pub behind_at : (e : List Bool) (t d q : ℕ) → d ≡ t → q + 1 ≡ behind e t d q
unfolding behind
behind_at e t d q h = rw (eq-eqb d t h)

pub behind_below : (e : List Bool) (t d q x : ℕ) → (d ≡ t → ⊥) → x ≡ first_edge e (q / 2 + 1) → x ≡ behind e t d q
unfolding behind
behind_below e t d q x h g = rw (ne_eqb d t h) g

moved_from : (e : List Bool) (t : ℕ) (f : ℕ → ℕ) (d : ℕ) → t ≤ d → moved_on e t f d ≡ behind e t d (f d)
unfolding moved_on
moved_from e t f d h = rw (lt_no d t h)

-- ---- move_on: moved to level d
pub record MovedTo (e : List Bool) (m t : ℕ) (os₀ os : List ℕ) (d : ℕ) : Type 0 where
  pub low : t ≤ d
  pub most : d ≤ m
  pub size : length os ≡ length os₀
  pub on : (j : ℕ) → j < d → get_or os j 0 ≡ moved_on e t (λ (i : ℕ). get_or os₀ i 0) j
  pub rest : (j : ℕ) → d ≤ j → get_or os j 0 ≡ get_or os₀ j 0

module _ (e : List Bool) (b m t : ℕ) (os₀ : List ℕ) (h : Movable b m t os₀) where
  pub move_start : MovedTo e m t os₀ os₀ t
  move_start = record {
    low = omega arith;
    most = omega (arith, h.level);
    size = refl;
    on = λ j x. sym (moved_above e t (λ (i : ℕ). get_or os₀ i 0) j x);
    rest = λ j x. refl;
  }

  module _ (os : List ℕ) (d : ℕ) (v : MovedTo e m t os₀ os d) (dm : d < m) where
    pub move_next : (x : ℕ) → x ≡ behind e t d (get_or os d 0) → MovedTo e m t os₀ (set os d x) (d + 1)
    move_next x q =
        let f : ℕ → ℕ = λ (i : ℕ). get_or os₀ i 0 in
        record {
          low = omega (arith, v.low);
          most = omega arith;
          size = length-set os d x ∙ v.size;
          on = λ j y. elim (dec_le d j) [
            | yes g ↦
                let z : j ≡ d = omega arith in
                ap (λ i. get_or (set os d x) i 0) z ∙ get_or-set_same os d x 0 (omega (arith, h.room, v.size)) ∙ q ∙ ap (λ i. behind e t d i) (v.rest d (omega arith))
                ∙ sym (moved_from e t f d v.low) ∙ ap (moved_on e t f) (sym z)
            | no g ↦ get_or-set_other os d j x 0 (λ z. omega arith) ∙ v.on j (omega arith)
          ];
          rest = λ j y. get_or-set_other os d j x 0 (λ z. omega arith) ∙ v.rest j (omega arith);
        }

  pub move_end : (os : List ℕ) (d : ℕ) → MovedTo e m t os₀ os d → m ≤ d → Moved e m t os₀ os
  move_end os d v q = record { size = v.size; on = λ j x. v.on j (omega arith); rest = λ j x. v.rest j (omega (arith, v.most)) }
