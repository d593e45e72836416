-- A flat bit sequence that is well formed, level by level, is the edge sequence of a set
use mathlib.Core.Path.{◌≡◌, refl, sym, ap, ◌∙◌}
use Prim.Native.Nat.{ℕ, zero, suc, ◌*◌, ◌≤◌, ◌<◌}
use mathlib.Core.Bool.{Bool, true, false}
use mathlib.Core.List.{List, [], ◌∷◌, ◌++◌, append_assoc, append-nil, map, map-append, flatten}
use native.Mathlib.Omega.{arith}
use lib.ListN.{length, take, drop, get_or, take-append-drop}
use lib.Seq.{length-take-le, take-suc, take_all}
use Rattle.loes.specs.Keys.{KeySet}
use Rattle.loes.specs.Edges.{Record, record_bits, ones, edges, edges_before, level, present}
use Rattle.loes.specs.Prefixes.{half, inhabited}
use Rattle.loes.proofs.Tree.{root_record, tree_level}
use Rattle.loes.proofs.Navigation.{present_is}
use Rattle.loes.proofs.Extensional.{edges_ext}
use Rattle.loes.proofs.Forest.{NoEmpty, Levels, SetOf, complete}

-- the records of a bit sequence
unfoldable pub records_in : List Bool → List Record
records_in [] = []
records_in (a ∷ []) = []
records_in (a ∷ b ∷ e) = record { on_zero = a; on_one = b } ∷ records_in e

pub records_bits : (l : List Record) → records_in (record_bits l) ≡ l
unfolding records_in record_bits
records_bits [] = refl
records_bits (r ∷ l) = rw (records_bits l)

pub bits_records : (n : ℕ) (e : List Bool) → length e ≡ 2 * n → (record_bits (records_in e) ≡ e) × (length (records_in e) ≡ n)
unfolding records_in record_bits
bits_records zero [] h = (refl, refl)
bits_records (suc n) [] h = absurd (omega arith)
bits_records n (a ∷ []) h = absurd (omega arith)
bits_records zero (a ∷ b ∷ e) h = absurd (omega arith)
bits_records (suc n) (a ∷ b ∷ e) h =
    let r : (record_bits (records_in e) ≡ e) × (length (records_in e) ≡ n) = bits_records n e (omega arith) in
    (rw r.0, ap suc r.1)

-- m levels, the first of r records
abbrev pub WellFormed : ℕ → ℕ → List Bool → Type 0
WellFormed zero r e = e ≡ []
WellFormed (suc m) r e = (2 * r ≤ length e) × NoEmpty (records_in (take (2 * r) e)) × WellFormed m (ones (take (2 * r) e)) (drop (2 * r) e)

pub record Split (m r : ℕ) (e : List Bool) : Type 0 where
  pub levels : List (List Record)
  pub count : length levels ≡ m
  pub good : Levels r levels
  pub whole : flatten (map record_bits levels) ≡ e

pub split : (m r : ℕ) (e : List Bool) → WellFormed m r e → Split m r e
unfolding flatten
split zero r e w = record { levels = []; count = refl; good = tt; whole = sym w }
split (suc m) r e w =
    let f : List Bool = take (2 * r) e in
    let l : (record_bits (records_in f) ≡ f) × (length (records_in f) ≡ r) = bits_records r f (length-take-le (2 * r) e w.0) in
    let t : Split m (ones f) (drop (2 * r) e) = split m (ones f) (drop (2 * r) e) w.2 in
    record {
      levels = records_in f ∷ t.levels;
      count = ap suc t.count;
      good = (l.1, w.1, rw l.0 t.good);
      whole = rw (l.0, t.whole) (take-append-drop (2 * r) e);
    }

pub flatten_snoc : {A : Type 0} (l : List (List A)) (x : List A) → flatten (l ++ x ∷ []) ≡ flatten l ++ x
unfolding flatten
flatten_snoc [] x = append-nil x
flatten_snoc (y ∷ l) x = rw (flatten_snoc l x) (sym (append_assoc y (flatten l) x))

edges_before_levels : (ls : List (List Record)) (s : KeySet) → ((d : ℕ) → d < length ls → level d (length ls) s ≡ get_or ls d [])
    → (d : ℕ) → d ≤ length ls → edges_before d (length ls) s ≡ flatten (map record_bits (take d ls))
unfolding edges_before flatten
edges_before_levels ls s h zero l = refl
edges_before_levels ls s h (suc d) l =
    rw (edges_before_levels ls s h d (omega arith), h d l, take-suc ls d [], map-append, flatten_snoc)

-- a well-formed sequence is the edge sequence of a set with a member
pub well_set : (m : ℕ) (e : List Bool) → WellFormed m 1 e → (s : KeySet) × (inhabited m s ≡ true) × (edges m s ≡ e)
unfolding edges
well_set m e w =
    let t : Split m 1 e = split m 1 e w in
    let c : SetOf t.levels = complete t.levels t.good in
    let g : edges_before (length t.levels) (length t.levels) c.0 ≡ e =
    edges_before_levels t.levels c.0 c.2 (length t.levels) (omega arith)
    ∙ rw (take_all (length t.levels) t.levels (omega arith)) t.whole in
    (c.0, rw t.count at c.1, rw t.count at g)

-- a level of a set has no empty record
pub no_empty_append : (l r : List Record) → NoEmpty l → NoEmpty r → NoEmpty (l ++ r)
no_empty_append [] r h k = k
no_empty_append (x ∷ l) r h k = (h.0, no_empty_append l r h.1 k)

no_empty_root : (a b : Bool) → NoEmpty (root_record a b)
unfolding root_record
no_empty_root false false = tt
no_empty_root false true = (refl, tt)
no_empty_root true b = (refl, tt)

pub no_empty_tree : (d m : ℕ) (s : KeySet) → NoEmpty (tree_level d m s)
unfolding tree_level
no_empty_tree zero zero s = tt
no_empty_tree zero (suc m) s = no_empty_root (inhabited m (half false s)) (inhabited m (half true s))
no_empty_tree (suc d) zero s = tt
no_empty_tree (suc d) (suc m) s =
    no_empty_append (tree_level d m (half false s)) (tree_level d m (half true s)) (no_empty_tree d m (half false s)) (no_empty_tree d m (half true s))

-- the set is read back by following edges
pub well_present : (m : ℕ) (e : List Bool) → WellFormed (suc m) 1 e → edges (suc m) (present e) ≡ e
well_present m e w =
    let c : (s : KeySet) × (inhabited (suc m) s ≡ true) × (edges (suc m) s ≡ e) = well_set (suc m) e w in
    edges_ext (suc m) (present e) c.0 (λ k l. ap (λ x. present x k) (sym c.2) ∙ present_is k (suc m) c.0 l (omega arith)) ∙ c.2
