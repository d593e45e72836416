-- Completeness: well-formed levels are the levels of a set
use mathlib.Core.Path.{◌≡◌, refl, sym, ap, ◌∙◌}
use Prim.Native.Nat.{ℕ, zero, suc, ◌+◌, ◌<◌}
use mathlib.Core.Bool.{Bool, true, false, ◌||◌, cond, false≢true, or-true}
use mathlib.Core.List.{List, [], ◌∷◌, ◌++◌, append_assoc, append-nil}
use native.Mathlib.Omega.{arith}
use lib.ListN.{length, drop, get_or, replicate, length-replicate}
use Rattle.loes.specs.Bytes.{bit}
use Rattle.loes.specs.Keys.{Key, KeySet}
use Rattle.loes.specs.Edges.{Record, record_bits, ones, level}
use Rattle.loes.specs.Prefixes.{half, inhabited}
use Rattle.loes.proofs.Tree.{root_record, tree_level, tree_empty, level_tree}

-- what levels must be: the first of n records, none of them clear, and each next one of as many records as this has set bits
abbrev pub NoEmpty : List Record → Type 0
NoEmpty [] = Unit {0}
NoEmpty (r ∷ l) = ((r.on_zero || r.on_one) ≡ true) × NoEmpty l

abbrev pub Levels : ℕ → List (List Record) → Type 0
Levels n [] = Unit {0}
Levels n (l ∷ ls) = (length l ≡ n) × NoEmpty l × Levels (ones (record_bits l)) ls

unfoldable pub none : KeySet
none k = false

unfoldable pub branch : KeySet → KeySet → KeySet
branch f g [] = false
branch f g (false ∷ k) = f k
branch f g (true ∷ k) = g k

pub inhabited_none : (m : ℕ) → inhabited m none ≡ false
unfolding inhabited none half
inhabited_none zero = refl
inhabited_none (suc m) = rw (inhabited_none m)

-- ---- Forests: lists of sets with members
abbrev pub AllHas : ℕ → List KeySet → Type 0
AllHas m [] = Unit {0}
AllHas m (s ∷ f) = (inhabited m s ≡ true) × AllHas m f

unfoldable pub forest_level : ℕ → ℕ → List KeySet → List Record
forest_level d m [] = []
forest_level d m (s ∷ f) = tree_level d m s ++ forest_level d m f

-- the tree over a record's edges
unfoldable pub over : Bool → Bool → List KeySet → KeySet
over a b f = branch (cond a (get_or f 0 none) none) (cond b (get_or f (bit a) none) none)

-- the forest over a level's records, from the forest below
unfoldable pub graft : List Record → List KeySet → List KeySet
graft [] f = []
graft (r ∷ l) f = over r.on_zero r.on_one f ∷ graft l (drop (bit r.on_zero + bit r.on_one) f)

unfoldable pub build : ℕ → List (List Record) → List KeySet
build n [] = replicate n (λ (k : Key). true)
build n (l ∷ ls) = graft l (build (ones (record_bits l)) ls)

-- one tree over what its record takes from the forest
pub record OneTree (m n : ℕ) (a b : Bool) (f : List KeySet) : Type 0 where
  pub there : inhabited (suc m) (over a b f) ≡ true
  pub top : tree_level 0 (suc m) (over a b f) ≡ record { on_zero = a; on_one = b } ∷ []
  pub deeper : (d : ℕ) → forest_level d m f ≡ tree_level (suc d) (suc m) (over a b f) ++ forest_level d m (drop (bit a + bit b) f)
  pub left : AllHas m (drop (bit a + bit b) f)
  pub count : length (drop (bit a + bit b) f) ≡ n

step : (m n : ℕ) (a b : Bool) (f : List KeySet) → (a || b) ≡ true → AllHas m f → length f ≡ bit a + bit b + n → OneTree m n a b f
unfolding over branch half inhabited tree_level forest_level root_record
step m n false false f o h l = absurd (false≢true o)
step m n false true [] o h l = absurd (omega arith)
step m n true false [] o h l = absurd (omega arith)
step m n true true [] o h l = absurd (omega arith)
step m n true true (x ∷ []) o h l = absurd (omega arith)
step m n false true (x ∷ f) o h l =
    record {
      there = rw (h.0, or-true);
      top = rw (h.0, inhabited_none m);
      deeper = λ d. rw (tree_empty d m none (inhabited_none m));
      left = h.1;
      count = omega arith;
    }
step m n true false (x ∷ f) o h l =
    record {
      there = rw h.0;
      top = rw (h.0, inhabited_none m);
      deeper = λ d. rw (tree_empty d m none (inhabited_none m), append-nil);
      left = h.1;
      count = omega arith;
    }
step m n true true (x ∷ y ∷ f) o h l =
    record {
      there = rw h.0;
      top = rw (h.0, h.1.0);
      deeper = λ d. rw (append_assoc);
      left = h.1.1;
      count = omega arith;
    }

ones_cons : (a b : Bool) (l : List Record) → ones (record_bits (record { on_zero = a; on_one = b } ∷ l)) ≡ bit a + bit b + ones (record_bits l)
unfolding ones record_bits
ones_cons false false l = omega arith
ones_cons false true l = omega arith
ones_cons true false l = omega arith
ones_cons true true l = omega arith

pub record Grafted (m : ℕ) (l : List Record) (f : List KeySet) : Type 0 where
  pub all : AllHas (suc m) (graft l f)
  pub size : length (graft l f) ≡ length l
  pub top : forest_level 0 (suc m) (graft l f) ≡ l
  pub deeper : (d : ℕ) → forest_level (suc d) (suc m) (graft l f) ≡ forest_level d m f

pub grafted : (m : ℕ) (l : List Record) (f : List KeySet) → NoEmpty l → AllHas m f → length f ≡ ones (record_bits l) → Grafted m l f
unfolding graft forest_level
grafted m [] [] c h e = record { all = tt; size = refl; top = refl; deeper = λ d. refl }
grafted m [] (x ∷ f) c h e = absurd (unfold ones record_bits in omega arith)
grafted m (r ∷ l) f c h e =
    let a : Bool = r.on_zero in
    let b : Bool = r.on_one in
    let t : OneTree m (ones (record_bits l)) a b f = step m (ones (record_bits l)) a b f c.0 h (e ∙ ones_cons a b l) in
    let g : Grafted m l (drop (bit a + bit b) f) = grafted m l (drop (bit a + bit b) f) c.1 t.left t.count in
    record {
      all = (t.there, g.all);
      size = ap suc g.size;
      top = rw (t.top, g.top);
      deeper = λ d. rw (g.deeper d) (sym (t.deeper d));
    }

pub record Built (n : ℕ) (ls : List (List Record)) (f : List KeySet) : Type 0 where
  pub all : AllHas (length ls) f
  pub size : length f ≡ n
  pub same_bit : (d : ℕ) → d < length ls → forest_level d (length ls) f ≡ get_or ls d []

all_true : (n : ℕ) → AllHas 0 (replicate n (λ (k : Key). true))
unfolding inhabited
all_true zero = tt
all_true (suc n) = (refl, all_true n)

pub built : (ls : List (List Record)) (n : ℕ) → Levels n ls → Built n ls (build n ls)
unfolding build
built [] n h = record { all = all_true n; size = length-replicate n _; same_bit = λ d l. absurd (omega arith) }
built (l ∷ ls) n h =
    let f : List KeySet = build (ones (record_bits l)) ls in
    let u : Built (ones (record_bits l)) ls f = built ls (ones (record_bits l)) h.2 in
    let g : Grafted (length ls) l f = grafted (length ls) l f h.1 u.all u.size in
    record {
      all = g.all;
      size = g.size ∙ h.0;
      same_bit = λ d. elim d as (λ (i : ℕ). i < suc (length ls) → forest_level i (suc (length ls)) (build n (l ∷ ls)) ≡ get_or (l ∷ ls) i []) [ zero ↦ λ j. g.top | suc i ↦ λ j. g.deeper i ∙ u.same_bit i (omega arith) ];
    }

-- well-formed levels from one record are those of a set with a member
abbrev pub SetOf : List (List Record) → Type 0
SetOf ls = (s : KeySet) × (inhabited (length ls) s ≡ true) × ((d : ℕ) → d < length ls → level d (length ls) s ≡ get_or ls d [])

one_tree : (ls : List (List Record)) (f : List KeySet) → Built 1 ls f → SetOf ls
unfolding forest_level
one_tree ls [] b = absurd (omega (arith, b.size))
one_tree ls (s ∷ []) b =
    (s, b.all.0, λ d l. level_tree d (length ls) s l ∙ sym (append-nil (tree_level d (length ls) s)) ∙ b.same_bit d l)
one_tree ls (s ∷ t ∷ f) b = absurd (omega (arith, b.size))

pub complete : (ls : List (List Record)) → Levels 1 ls → SetOf ls
complete ls h = one_tree ls (build 1 ls) (built ls 1 h)
